use Rattle.std.proofs.Common.{◌≡◌, List, ℕ, length, arith, ap, subst, ◌∙◌, ◌<◌, ◌^◌}
use Rattle.std.specs.FinMap.{entries}
use Rattle.tree_model.specs.Maps.{tally}
use Rattle.row_records.specs.declared.rows.DentRow.{DentRow}
use Rattle.row_tree.specs.TypedRows.{TypedRows, is_to}
use Rattle.row_tree.proofs.Counts.{tally_le, none_counted, counted_on}
use Rattle.row_tree.proofs.typed.TypedRows.count_links.Goals as goal

pub loop-key-init : goal.loop-key-init
loop-key-init c =
    let all : entries c.self.inside.dents ≡ entries c.args.self.now.dents = ap (λ (S : TypedRows). entries S.dents) c.self.view_is in
    record {
      counted = none_counted _ _ _ c.new-counts.ensures (c.into_iter-key-iterator.ensures.into_iter_gives ∙ c.iter-key-items.ensures.entries ∙ all);
      fits = subst (λ (es : List ((ℕ × List ℕ) × DentRow)). length es < 2 ^ 63) (c.iter-key-items.ensures.entries ∙ all) c.iter-key-items.ensures.fits;
    }

pub overflow_add-count : goal.overflow_add-count
overflow_add-count c =
    let at = c.loop-key.invariant.counted c.get-id.result in
    let few = tally_le (is_to c.get-id.result) (entries c.args.self.now.dents) in
    let fits = c.loop-key.invariant.fits in
    let count = c.count_at-count.ensures in
    omega arith

pub loop-key-preserved : goal.loop-key-preserved
loop-key-preserved c =
    record {
      counted = counted_on _ _ _ _ _ _ _ _ (λ id. tally (is_to id) (entries c.args.self.now.dents))
          c.get-id.ensures.value c.count_at-count.ensures c.in_ok-insert.ensures.ok c.in-Some.ensures.steps c.loop-key.invariant.counted;
      fits = c.loop-key.invariant.fits;
    }
