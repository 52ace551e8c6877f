-- A call with its kept reply: what is told without a commit, and what a commit makes.
use Rattle.std.proofs.Common.{◌≡◌, ℕ, ◌<◌, ◌≤◌, ◌^◌, nat_lt, true, false, cond, List, [], ◌∷◌, refl, sym, ap, subst, ◌∙◌, arith, ne_eqb, eq-eqb, le-ltb, lt-ltb, MatchOption}
use Rattle.std.specs.Prelude.{Option, Some, None, ⊤}
use Rattle.std.specs.Option.{option_map}
use Rattle.std.specs.FinMap.{get}
use Rattle.conflict_sets.specs.declared.sets.ReadSet.{ReadSet}
use Rattle.conflict_sets.specs.declared.sets.Write.{Write}
use Rattle.fs_base.specs.Config.{Settings}
use Rattle.fs_base.specs.declared.call.Request.{Request}
use Rattle.fs_base.specs.declared.code.Code.TheVariants.{Stale}
use Rattle.fs_base.specs.declared.reply.Reply.{Reply}
use Rattle.fs_base.specs.declared.reply.Reply.TheVariants.{Refused}
use Rattle.key_schema.specs.Keys.{spelled_key}
use Rattle.key_schema.specs.declared.key.Key.TheVariants as keys
use Rattle.row_records.specs.declared.rows.KeptRow.{KeptRow}
use Rattle.row_tree.specs.Steps.{with_kept}
use Rattle.row_tree.specs.TreeOf.{tree_of, kept_of}
use Rattle.row_tree.specs.TypedRows.{TypedRows}
use Rattle.row_tree.specs.Values.{IsValue, spelled_value}
use Rattle.row_tree.specs.WellFormed.{IsWellFormed}
use Rattle.row_tree.proofs.Changing.{tree_with_kept, keeps_reply}
use Rattle.row_tree.proofs.Telling.{kept_is}
use Rattle.tree_model.specs.declared.kept.KeptReply.{KeptReply}
use Rattle.tree_model.specs.Calls.{effect, apply, is_query, settle, after_kept}
use Rattle.tree_model.specs.Effects.{Effect, at_length, settled_by}
use Rattle.tree_model.specs.Tree.{Tree}
use Rattle.tree_model.proofs.ApplyLaws.{apply_query, apply_update, update_new, settle_at}
use Rattle.txn_task.specs.Agreeing.{Agrees, LeadsTo}
use Rattle.txn_task.specs.Wanted.{IsKeyRead}
use Rattle.txn_task.specs.Writes.{set_write}
use Rattle.txn_task.proofs.TxnLaws.{leads_put}
use Rattle.path_walk.specs.Areas.{Area, OneKey, AreRead}
use Rattle.path_walk.specs.Footprint.{call_areas, footprint, if_new}
use Rattle.path_walk.specs.Owed.{HasRead, IsJustified, IsSoundEffect, KeepsAreas, KeepsEffect, IsKeptBefore}
use Rattle.path_walk.specs.Sound.{IsJustifiedReply, kept_value}

-- ---- kept replies in typed rows

tree_before : (o : Option KeptRow) (number : ℕ) → MatchOption o ⊤ (λ kept. kept.number < number) → MatchOption (option_map kept_of o) ⊤ (λ kept. kept.number < number)
tree_before None number h = h
tree_before (Some kept) number h = h

pub kept_in : (S : TypedRows) (q : Request) → MatchOption (get S.kept q.client.0) ⊤ (λ kept. kept.number < q.number) → MatchOption (get (tree_of S).kept q.client.0) ⊤ (λ kept. kept.number < q.number)
kept_in S q before = subst (λ (o : Option KeptReply). MatchOption o ⊤ (λ kept. kept.number < q.number)) (sym (kept_is S q.client.0 (get S.kept q.client.0) refl)) (tree_before (get S.kept q.client.0) q.number before)

-- in typed rows that agree, the update is what its effect settles
pub update_settles : (C : Settings) (S : TypedRows) (q : Request) (settled : ℕ) → is_query q.call ≡ false → MatchOption (get S.kept q.client.0) ⊤ (λ kept. kept.number < q.number) → apply C (tree_of S) q settled ≡ settle (tree_of S) q settled (effect C (tree_of S) q)
update_settles C S q settled update before = apply_update C (tree_of S) q settled update ∙ update_new C (tree_of S) q settled (get (tree_of S).kept q.client.0) (kept_in S q before)

-- no kept reply, or an earlier one
pub before_none : (reads : ReadSet) (q : Request) → ((S : TypedRows) → Agrees S reads → get S.kept q.client.0 ≡ None) → IsKeptBefore reads q
before_none reads q none S agrees = subst (λ (o : Option KeptRow). MatchOption o ⊤ (λ kept. kept.number < q.number)) (sym (none S agrees)) tt

pub before_earlier : (reads : ReadSet) (q : Request) (row : KeptRow) → ((S : TypedRows) → Agrees S reads → get S.kept q.client.0 ≡ Some row) → row.number < q.number → IsKeptBefore reads q
before_earlier reads q row is less S agrees = subst (λ (o : Option KeptRow). MatchOption o ⊤ (λ kept. kept.number < q.number)) (sym (is S agrees)) less

-- ---- from typed rows to bytes

told : (C : Settings) (q : Request) (reads : ReadSet) (reply : Reply) → ((S : TypedRows) → IsWellFormed C S → Agrees S reads → (settled : ℕ) → apply C (tree_of S) q settled ≡ (tree_of S, reply)) → IsJustifiedReply C q reads reply
told C q reads reply is rows T asc tree agrees settled =
    subst (λ (t : Tree). apply C t q settled ≡ (t, reply)) tree.3 (is tree.0 tree.2 (record { rows = rows; ascending = asc; spells = tree.1; agrees = agrees }) settled)

module _ (C : Settings) (q : Request) (f : Tree → Effect) (reads : ReadSet) (reply : Reply) (same : KeepsEffect C (λ T. effect C T q) f reads) (justified : IsJustified C f reads reply) where
  effect_leaves : (S : TypedRows) → IsWellFormed C S → Agrees S reads → (settled : ℕ) → settle (tree_of S) q settled (effect C (tree_of S) q) ≡ (tree_of S, reply)
  effect_leaves S good agrees settled = ap (settle (tree_of S) q settled) (sym (same S good agrees) ∙ justified S good agrees)

  pub told_query : is_query q.call ≡ true → IsJustifiedReply C q reads reply
  told_query query = told C q reads reply (λ S good agrees settled. apply_query C (tree_of S) q settled query ∙ effect_leaves S good agrees settled)

  pub told_update : is_query q.call ≡ false → IsKeptBefore reads q → IsJustifiedReply C q reads reply
  told_update update before = told C q reads reply (λ S good agrees settled. update_settles C S q settled update (before S agrees) ∙ effect_leaves S good agrees settled)

-- ---- a number that isn't new

module _ (C : Settings) (q : Request) (reads : ReadSet) (row : KeptRow) (update : is_query q.call ≡ false) (is : (S : TypedRows) → Agrees S reads → get S.kept q.client.0 ≡ Some row) where
  kept_before : (S : TypedRows) → Agrees S reads → (settled : ℕ) → apply C (tree_of S) q settled ≡ after_kept C (tree_of S) q settled (Some (kept_of row))
  kept_before S agrees settled = apply_update C (tree_of S) q settled update ∙ ap (after_kept C (tree_of S) q settled) (kept_is S q.client.0 (Some row) (is S agrees))

  abbrev else_stale : TypedRows → ℕ → Tree × Reply
  else_stale S settled = cond (nat_lt q.number row.number) (tree_of S, Refused (Stale row.number)) (settle (tree_of S) q settled (effect C (tree_of S) q))

  pub kept_again : row.number ≡ q.number → IsJustifiedReply C q reads row.reply
  kept_again again = told C q reads row.reply (λ S good agrees settled.
      kept_before S agrees settled ∙ ap (λ b. cond b (tree_of S, row.reply) (else_stale S settled)) (eq-eqb row.number q.number again))

  pub kept_later : q.number < row.number → IsJustifiedReply C q reads (Refused (Stale row.number))
  kept_later later = told C q reads (Refused (Stale row.number)) (λ S good agrees settled.
      kept_before S agrees settled
      ∙ (ap (λ b. cond b (tree_of S, row.reply) (else_stale S settled)) (ne_eqb row.number q.number (λ e. omega arith))
      ∙ ap (λ b. cond b (tree_of S, Refused (Stale row.number)) (settle (tree_of S) q settled (effect C (tree_of S) q))) (lt-ltb q.number row.number later)))

-- ---- what is committed with the kept reply is the whole call

pub whole_update : (C : Settings) (q : Request) (f : Tree → Effect) (reads : ReadSet) (writes : List Write) (reply : Reply) → is_query q.call ≡ false → KeepsEffect C (λ T. effect C T q) f reads
    → IsSoundEffect C f reads writes reply → IsKeptBefore reads q → q.client.0 < 2 ^ 128 → IsValue (kept_value q reply)
    → (S : TypedRows) → IsWellFormed C S → Agrees S reads
    → (U : TypedRows) × LeadsTo (set_write (spelled_key (keys.Idem q.client)) (Some (spelled_value (kept_value q reply))) writes) S U × IsWellFormed C U × (apply C (tree_of S) q (settled_by reply) ≡ (tree_of U, reply))
whole_update C q f reads writes reply update same sound before client range S good agrees =
    let row : KeptRow = record { number = q.number; reply = reply } in
    let length : ℕ = settled_by reply in
    let made = sound S good agrees in (
      with_kept made.0 q.client.0 row,
      leads_put writes S made.0 (keys.Idem q.client) (Some (kept_value q reply)) made.1 client (refl, range),
      keeps_reply C made.0 made.2 q.client.0 row,
      update_settles C S q length update (before S agrees)
          ∙ (settle_at (tree_of S) q length (effect C (tree_of S) q)
          ∙ (ap (settle (tree_of S) q length) (ap (at_length length) (sym (same S good agrees)) ∙ made.3)
          ∙ ap (λ (t : Tree). (t, reply)) (sym (tree_with_kept made.0 q.client.0 row)))),
    )

-- ---- what an update reads

by_kept : (C : Settings) (T : Tree) (q : Request) → is_query q.call ≡ false → footprint C T q ≡ OneKey (keys.Idem q.client) ∷ if_new (get T.kept q.client.0) q.number (call_areas C T q q.call)
by_kept C T q update =
    let areas : List Area = call_areas C T q q.call in
    ap (λ b. cond b areas (OneKey (keys.Idem q.client) ∷ if_new (get T.kept q.client.0) q.number areas)) update

newer : (o : Option KeptReply) (number : ℕ) (areas : List Area) → MatchOption o ⊤ (λ kept. kept.number < number) → if_new o number areas ≡ areas
newer None number areas before = refl
newer (Some kept) number areas before = ap (λ b. cond b areas []) (lt-ltb kept.number number before)

-- after its client's kept reply, where that is earlier, what the call reads
pub update_reads : (C : Settings) (q : Request) (reads : ReadSet) → is_query q.call ≡ false → IsKeptBefore reads q → IsKeyRead reads (keys.Idem q.client) → KeepsAreas C (λ T. footprint C T q) (λ T. call_areas C T q q.call) reads
update_reads C q reads update before read S good agrees = (
  OneKey (keys.Idem q.client) ∷ [],
  (read, tt),
  by_kept C (tree_of S) q update ∙ ap (λ (l : List Area). OneKey (keys.Idem q.client) ∷ l) (newer (get (tree_of S).kept q.client.0) q.number (call_areas C (tree_of S) q q.call) (kept_in S q (before S agrees))),
)

-- and nothing more where it isn't
pub kept_reads_all : (C : Settings) (q : Request) (reads : ReadSet) (row : KeptRow) → is_query q.call ≡ false → ((S : TypedRows) → Agrees S reads → get S.kept q.client.0 ≡ Some row) → q.number ≤ row.number → IsKeyRead reads (keys.Idem q.client)
    → HasRead C (λ T. footprint C T q) reads
kept_reads_all C q reads row update is late read S good agrees =
    let areas : List Area = call_areas C (tree_of S) q q.call in
    subst (AreRead reads)
    (sym (by_kept C (tree_of S) q update ∙ ap (λ (o : Option KeptReply). OneKey (keys.Idem q.client) ∷ if_new o q.number areas) (kept_is S q.client.0 (Some row) (is S agrees)) ∙ ap (λ b. OneKey (keys.Idem q.client) ∷ cond b areas []) (le-ltb row.number q.number late)))
    (read, tt)
