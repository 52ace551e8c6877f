use Rattle.std.proofs.Common.{◌∙◌, ap, sym, Result, Ok, Err}
use Rattle.std.specs.Prelude.{IfOk, OnOk}
use Rattle.conflict_sets.specs.Rows.{rows_between}
use Rattle.kv_store.specs.Journal.{rows_at}
use Rattle.kv_store.specs.Chains.{up_to, last_of, value_of}
use Rattle.kv_store.proofs.JournalLemmas.{IsAscending-rows_at}
use Rattle.kv_store.proofs.VersionLemmas.{seen_value}
use Rattle.kv_store.proofs.RangeLemmas.{tested, is_greater, no_rows, rows_of_same}
use Rattle.kv_store.proofs.store.KvState.range_at.Goals as goal

both : {T E P : Type 0} {Q R : T → Type 0} (r : Result T E) → ((x : T) → P → Q x → R x) → OnOk r P → IfOk r Q → IfOk r R
both (Ok x) f p q = f x p q
both (Err e) f p q = tt

pub returns-then-is_gt : goal.returns-then-is_gt
returns-then-is_gt g c =
    let rows = rows_at g.E.EntryLaw.writes_of c.args.self.now.opening c.args.self.now.journal c.args.version in
    c.new.ensures ∙ sym (no_rows rows c.args.lo.now c.args.hi.now c.args.limit (is_greater c.args.lo.now c.args.hi.now (tested c.args.lo.now c.args.hi.now _ _ _ c.compare.ensures c.is_gt.ensures c.if-is_gt.true)))

pub returns : goal.returns
returns g c =
    let writes_of = g.E.EntryLaw.writes_of in
    let opening = c.self.inside.opening in
    let journal = c.self.inside.journal.items in
    let rows = rows_at writes_of opening journal c.args.version in
    rw (← c.self.view_is)
    (both c.between.result
    (λ found ordered h. h ∙ ap (λ rs. rows_between rs c.args.lo.now c.args.hi.now c.args.limit)
    (rows_of_same c.args.version c.self.inside.chains.entries rows ordered (IsAscending-rows_at writes_of opening journal c.args.version c.self.invariant.kept.ascending)
    (λ key. ap (λ chain. value_of (last_of (up_to c.args.version chain))) (c.self.invariant.chains_are key) ∙ seen_value writes_of opening journal c.args.version key c.self.invariant.kept.ascending)))
    c.between.ensures.ordered c.between.ensures.rows)
