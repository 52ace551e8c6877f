use Rattle.std.proofs.Common.{refl, sym, subst, arith}
use Rattle.client_core.specs.Files.{AreDescriptorsSound}
use Rattle.client_core.proofs.Files.{none_sound}
use Rattle.client_core.proofs.state.ClientState.new.Goals as goal

pub invariant_of-result : goal.invariant_of-result
invariant_of-result c =
    record {
      in_script = record { script = c.requires; server = c.requires.home; place = (omega arith, refl) };
      valid = tt;
      files = subst (AreDescriptorsSound c.args.config) (sym c.in_ok-new.ensures) (none_sound c.args.config);
    }
