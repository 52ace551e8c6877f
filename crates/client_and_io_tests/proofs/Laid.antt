-- How the tests' file is laid out.
use Rattle.std.proofs.Common.{◌≡◌, ℕ, ◌%◌, ◌&&◌, nat_le, cond, Some, None, ap, arith}
use Rattle.fs_base.specs.Config.{Settings}
use Rattle.fs_base.specs.declared.layout.Layout.{Layout}
use Rattle.client_core.specs.Files.{IsLaidOut}

over : ℕ → Layout
over chains = record { chunk = 1; stripe = 1; start = 48 % chains; mix = 48 }

-- by a configuration with one chain
pub laid_out : (C : Settings) → C.chains ≡ 1 → IsLaidOut C 48 (record { chunk = 1; stripe = 1; start = 0; mix = 48 }) 1
unfolding over
laid_out C one =
    record {
      given = ap (λ (n : ℕ). cond ((nat_le 1 1 && nat_le 1 4194304) && (nat_le 1 1 && nat_le 1 n)) (Some (over n)) None) one;
      some = omega arith;
      within = omega arith;
    }
