-- What is known of an operation under way, from step to step.
use Rattle.std.proofs.Common.{inl, inr, ◌≡◌, Bool, true, false, cond, List, [], ◌∷◌, ◌++◌, refl, sym, ap, subst, ◌∙◌}
use Rattle.std.specs.Prelude.{Some}
use Rattle.std.specs.FinMap.{get}
use Rattle.conflict_sets.specs.declared.sets.ReadSet.{ReadSet}
use Rattle.conflict_sets.specs.declared.sets.WriteSet.{WriteSet}
use Rattle.fs_base.specs.Config.{Settings}
use Rattle.fs_base.specs.declared.call.Request.{Request}
use Rattle.fs_base.specs.declared.reply.Reply.{Reply}
use Rattle.key_schema.specs.Keys.{spelled_key}
use Rattle.key_schema.specs.declared.key.Key.TheVariants as keys
use Rattle.row_tree.specs.TreeOf.{tree_of}
use Rattle.row_tree.specs.Values.{spelled_value}
use Rattle.tree_model.specs.Calls.{effect, is_query}
use Rattle.tree_model.specs.Effects.{at_length, settled_by}
use Rattle.txn_task.specs.Agreeing.{Agrees}
use Rattle.txn_task.specs.Copies.{IsLook}
use Rattle.txn_task.specs.Transactions.{Transaction, noted}
use Rattle.txn_task.specs.Wanted.{IsUnread}
use Rattle.txn_task.specs.Writes.{set_write}
use Rattle.txn_task.specs.declared.messages.Answer.{Answer}
use Rattle.txn_task.specs.declared.messages.Ask.{Ask}
use Rattle.txn_task.specs.declared.messages.Ask.TheVariants as asks
use Rattle.txn_task.specs.declared.messages.Asked.{Asked}
use Rattle.path_walk.specs.Areas.{Area, OneKey, IsNextOf}
use Rattle.path_walk.specs.Footprint.{call_areas, footprint, if_new}
use Rattle.path_walk.specs.Owed.{HasRead, IsJustified, IsNewAsk, IsOpCommit, MayAsk, KeepsEffect, KeepsAreas}
use Rattle.path_walk.specs.Sound.{IsJustifiedReply, IsSoundEntry, kept_value}
use Rattle.path_walk.proofs.PutLaws.{sound_entry}
use Rattle.path_walk.proofs.AreaLaws.{are_read_more}
use Rattle.path_walk.proofs.StepLaws.{areas_on, may_behind, read_behind, effect_more, areas_more, kept_before_more}
use Rattle.path_walk.proofs.WholeLaws.{told_query, told_update, update_reads}
use Rattle.meta_task.specs.Ops.{op_config, op_effect, op_areas, IsOpReady, IsFirstOp}
use Rattle.meta_task.specs.State.{IsNewRequest, IsRequestTaken, IsOpUnderWay}
use Rattle.meta_task.specs.declared.op.OpTask.{OpTask}
use Rattle.meta_task.proofs.Queries.{query_makes_none}

-- ---- the first step, and the next

pub first_under : (C : Settings) (q : Request) (reads : ReadSet) (op : OpTask) → IsFirstOp C q op → IsNewRequest q reads → IsOpUnderWay C q reads op
first_under C q reads op first new = record {
  config = first.config;
  ready = first.ready;
  effect = λ S good agrees. first.effect (tree_of S);
  areas = begun new;
  new = new;
}
  where
    by_query : (b : Bool) (call kept : List Area) → b ≡ true → cond b call kept ≡ call
    by_query true call kept is = refl
    by_query false call kept is = absurd (cc)

    begun : IsNewRequest q reads → KeepsAreas C (λ T. footprint C T q) (op_areas op) reads
    begun (inl query) S good agrees = ([], tt, by_query (is_query q.call) (call_areas C (tree_of S) q q.call) _ query ∙ sym (first.areas (tree_of S)))
    begun (inr new) S good agrees =
        let read = update_reads C q reads new.0 new.1 new.2 S good agrees in
        (read.0, read.1, read.2 ∙ ap (λ (l : List Area). read.0 ++ l) (sym (first.areas (tree_of S))))

pub under_on : (C : Settings) (q : Request) (reads : ReadSet) (old new : OpTask) → IsOpUnderWay C q reads old → op_config new ≡ op_config old → IsOpReady new
    → KeepsEffect (op_config old) (op_effect old) (op_effect new) reads → KeepsAreas (op_config old) (op_areas old) (op_areas new) reads → IsOpUnderWay C q reads new
under_on C q reads old new under config ready same less =
    let kept : KeepsEffect C (op_effect old) (op_effect new) reads = subst (λ (D : Settings). KeepsEffect D (op_effect old) (op_effect new) reads) under.config same in
    let fewer : KeepsAreas C (op_areas old) (op_areas new) reads = subst (λ (D : Settings). KeepsAreas D (op_areas old) (op_areas new) reads) under.config less in
    record {
      config = config ∙ under.config;
      ready = ready;
      effect = λ S good agrees. kept S good agrees ∙ under.effect S good agrees;
      areas = areas_on C (λ T. footprint C T q) (op_areas old) (op_areas new) reads under.areas fewer;
      new = under.new;
    }

new_more : (q : Request) (reads : ReadSet) (ask : Ask) (answer : Answer) → IsNewRequest q reads → IsNewRequest q (noted reads ask answer)
new_more q reads ask answer (inl query) = inl query
new_more q reads ask answer (inr new) = inr (new.0, kept_before_more reads ask answer q new.1, (are_read_more reads ask answer (OneKey (keys.Idem q.client) ∷ []) (new.2, tt)).0)

pub under_more : (C : Settings) (q : Request) (reads : ReadSet) (ask : Ask) (answer : Answer) (op : OpTask) → IsOpUnderWay C q reads op → IsOpUnderWay C q (noted reads ask answer) op
under_more C q reads ask answer op under = record {
  config = under.config;
  ready = under.ready;
  effect = effect_more C reads ask answer (λ T. effect C T q) (op_effect op) under.effect;
  areas = areas_more C reads ask answer (λ T. footprint C T q) (op_areas op) under.areas;
  new = new_more q reads ask answer under.new;
}

-- ---- asks

pub look_of_new : (reads : ReadSet) (ask : Ask) → IsNewAsk reads ask → IsLook ask
look_of_new reads (asks.Get key) h = tt
look_of_new reads (asks.Range lo hi limit) h = tt
look_of_new reads ask h = absurd h

pub under_may : (C : Settings) (q : Request) (reads : ReadSet) (op : OpTask) (ask : Ask) → IsOpUnderWay C q reads op → MayAsk C (op_areas op) reads ask → MayAsk C (λ T. footprint C T q) reads ask
under_may C q reads op ask under may = may_behind C (λ T. footprint C T q) (op_areas op) reads ask under.areas may

pub under_read : (C : Settings) (q : Request) (reads : ReadSet) (op : OpTask) → IsOpUnderWay C q reads op → HasRead C (op_areas op) reads → HasRead C (λ T. footprint C T q) reads
under_read C q reads op under all = read_behind C (λ T. footprint C T q) (op_areas op) reads under.areas all

-- an update's client's kept reply comes first
pub kept_may : (C : Settings) (q : Request) (reads : ReadSet) → is_query q.call ≡ false → IsUnread reads (keys.Idem q.client) → MayAsk C (λ T. footprint C T q) reads (asks.Get (keys.Idem q.client))
kept_may C q reads update unread S good agrees =
    let areas : List Area = call_areas C (tree_of S) q q.call in
    let rest : List Area = if_new (get (tree_of S).kept q.client.0) q.number areas in
    subst (λ b. IsNextOf reads (cond b areas (OneKey (keys.Idem q.client) ∷ rest)) (asks.Get (keys.Idem q.client))) (sym update) (inl (refl, unread))

-- ---- replies

pub under_told : (C : Settings) (q : Request) (reads : ReadSet) (op : OpTask) (reply : Reply) → IsOpUnderWay C q reads op → IsJustified C (op_effect op) reads reply → IsJustifiedReply C q reads reply
under_told C q reads op reply under told = by_kind under.new
  where
    by_kind : IsNewRequest q reads → IsJustifiedReply C q reads reply
    by_kind (inl query) = told_query C q (op_effect op) reads reply under.effect told query
    by_kind (inr new) = told_update C q (op_effect op) reads reply under.effect told new.0 new.1

-- ---- commits

pub under_sound : (C : Settings) (q : Request) (op : OpTask) (t : Transaction) (reply : Reply) (asked : List Asked) → IsRequestTaken C q → is_query q.call ≡ false → IsOpUnderWay C q t.reads op → IsOpCommit C (op_effect op) t reply asked
    → (writes : WriteSet) → writes.writes ≡ set_write (spelled_key (keys.Idem q.client)) (Some (spelled_value (kept_value q reply))) t.writes → IsSoundEntry C (record { request = q; reply = reply; asked = asked; reads = t.reads; writes = writes })
under_sound C q op t reply asked taken update under made writes is = by_kind under.new
  where
    by_kind : IsNewRequest q t.reads → IsSoundEntry C (record { request = q; reply = reply; asked = asked; reads = t.reads; writes = writes })
    by_kind (inl query) = absurd (let e : true ≡ false = sym query ∙ update in cc)
    by_kind (inr new) = sound_entry C q (op_effect op) t reply asked update under.effect made new.1 taken.client taken.valid.number taken.number writes is

-- no rows agree with what a query has read that would commit
pub query_told : (C : Settings) (q : Request) (op : OpTask) (t : Transaction) (reply : Reply) (asked : List Asked) → is_query q.call ≡ true → IsOpUnderWay C q t.reads op → IsOpCommit C (op_effect op) t reply asked → IsJustifiedReply C q t.reads reply
query_told C q op t reply asked query under made rows T asc tree agrees settled =
    let S = tree.0 in
    let at : Agrees S t.reads = record { rows = rows; ascending = asc; spells = tree.1; agrees = agrees } in
    let done = made.sound S tree.2 at in
    absurd (query_makes_none C (tree_of S) q (settled_by reply) (tree_of done.0) reply query (ap (at_length (settled_by reply)) (sym (under.effect S tree.2 at)) ∙ done.3))
