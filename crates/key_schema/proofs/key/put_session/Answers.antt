use Rattle.std.specs.Prelude.{◌++◌}
use Rattle.std.specs.Int.{w64, w128, to_le_bytes, to_be_bytes}
use Rattle.std.proofs.Common.{ap, ◌∙◌}
use Rattle.std.proofs.lemmas.List.{append_assoc}
use Rattle.key_schema.proofs.key.put_session.Goals as goal

pub returns : goal.returns
returns c =
    let holder = to_be_bytes w128 c.args.client.0 ++ to_be_bytes w64 c.args.number in
    c.in_ok-put_holder.ensures
    ∙ (ap (λ bytes. bytes ++ holder) c.in_ok-put_id.ensures ∙ append_assoc c.args.bytes.now.items (to_le_bytes w64 c.args.file) holder)
