use Rattle.std.proofs.Common.{◌∙◌, ◌≡◌, true, false, sym, ap, arith}
use Rattle.std.specs.Ordering.{is_eq}
use Rattle.conflict_sets.specs.Keys.{key_cmp}
use Rattle.txn_task.proofs.WriteLaws.{version_found, version_passed}
use Rattle.txn_task.proofs.txn.version_in.Goals as goal

pub returns-then-is_eq : goal.returns-then-is_eq
returns-then-is_eq c =
    let same : is_eq (key_cmp c.args.key.now c.index-reads-place.result.key) ≡ true = ap is_eq (ap (key_cmp c.args.key.now) (sym c.as_slice.ensures) ∙ sym c.compare.ensures) ∙ (sym c.is_eq.ensures ∙ c.if-is_eq.true) in
    version_found c.args.reads.now c.args.versions.now c.args.key.now c.loop-place.place c.index-reads-place.result (omega arith) c.requires (sym c.index-reads-place.is) same ∙ c.loop-place.invariant

pub loop-place-preserved : goal.loop-place-preserved
loop-place-preserved c =
    let other : is_eq (key_cmp c.args.key.now c.index-reads-place.result.key) ≡ false = ap is_eq (ap (key_cmp c.args.key.now) (sym c.as_slice.ensures) ∙ sym c.compare.ensures) ∙ (sym c.is_eq.ensures ∙ c.if-is_eq.false) in
    version_passed c.args.reads.now c.args.versions.now c.args.key.now c.loop-place.place c.index-reads-place.result (omega arith) c.requires (sym c.index-reads-place.is) other ∙ c.loop-place.invariant
