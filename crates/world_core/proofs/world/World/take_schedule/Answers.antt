use Rattle.std.proofs.Common.{◌≡◌, ◌<◌, ℕ, Some, length, rules, ap, sym, subst, ◌∙◌}
use Rattle.std.specs.Prelude.{slice_get}
use Rattle.world_core.specs.Order.{AreItems}
use Rattle.world_core.proofs.OrderLaws.{item_listed, items_on}
use Rattle.client_core.specs.Plans.{NamesClient}
use Rattle.client_core.specs.declared.plan.Schedule.{Schedule}
use Rattle.world_core.specs.World.{WorldView, schedule_items}
use Rattle.world_core.proofs.Closing.{same_schedule}
use Rattle.world_core.proofs.world.World.take_schedule.Goals as goal

pub item_at-item-requires : goal.item_at-item-requires
item_at-item-requires c =
    let kept : c.loop-place.self.schedule ≡ c.args.self.now.schedule = same_schedule c.loop-place.self c.args.self.now c.loop-place.invariant.0 in
    let before : c.self.inside.schedule ≡ c.args.self.now.schedule = ap (λ (w : WorldView). w.schedule) c.self.view_is in
    let here : c.self-in-loop-place.inside.schedule ≡ c.loop-place.self.schedule = ap (λ (w : WorldView). w.schedule) c.self-in-loop-place.view_is in
    subst (λ (n : ℕ). c.loop-place.place < n)
    (c.items_in-place-end.ensures ∙ ap (λ (s : Schedule). length (schedule_items s)) (before ∙ (sym kept ∙ sym here)))
    c.loop-place-test.true

pub take_item-requires : goal.take_item-requires
take_item-requires c =
    subst (λ (n : ℕ). NamesClient n c.item_at-item.result) (ap (λ (w : WorldView). length w.seats) c.self-in-loop-place.view_is)
    (c.item_at-item.ensures.named (length c.self-in-loop-place.inside.seats.items) c.self-in-loop-place.invariant.schedule)

pub loop-place-preserved : goal.loop-place-preserved
loop-place-preserved c =
    let kept : c.loop-place.self.schedule ≡ c.args.self.now.schedule = same_schedule c.loop-place.self c.args.self.now c.loop-place.invariant.0 in
    let here : c.self-in-loop-place.inside.schedule ≡ c.loop-place.self.schedule = ap (λ (w : WorldView). w.schedule) c.self-in-loop-place.view_is in
    let at : slice_get (schedule_items c.args.self.now.schedule) c.loop-place.place
    ≡ Some c.item_at-item.result
    = ap (λ (s : Schedule). slice_get (schedule_items s) c.loop-place.place) (sym (here ∙ kept)) ∙ c.item_at-item.ensures.value in (
      c.take_item.ensures.plan ∙ c.loop-place.invariant.0,
      items_on (schedule_items c.args.self.now.schedule) c.args.self.now c.loop-place.self c.take_item.new.self c.loop-place.place c.loop-place.invariant.1
          (item_listed c.loop-place.self c.take_item.new.self (schedule_items c.args.self.now.schedule) c.loop-place.place c.item_at-item.result at c.in_ok-take_item.ensures.item),
    )

pub returns-clause-items : goal.returns-clause-items
returns-clause-items c =
    let before : c.self.inside.schedule ≡ c.args.self.now.schedule = ap (λ (w : WorldView). w.schedule) c.self.view_is in
    let end : c.loop-place.place ≡ length (schedule_items c.args.self.now.schedule) = search (rules, c.items_in-place-end.ensures ∙ ap (λ (s : Schedule). length (schedule_items s)) before) in
    subst (λ (n : ℕ). AreItems (schedule_items c.args.self.now.schedule) c.args.self.now c.loop-place.self n) end c.loop-place.invariant.1
