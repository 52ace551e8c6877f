-- What an operation puts: its writes, the rows that they lead to, and that each of them changes a row.
use Rattle.std.proofs.Common.{◌≡◌, ℕ, ◌<◌, ◌^◌, Bool, true, false, cond, List, [], ◌∷◌, refl, sym, ap, subst, ◌∙◌, ◌≢◌, ◌≤◌, arith, MatchOption}
use Rattle.std.specs.Prelude.{Option, Some, None, IsTrue, ⊤}
use Rattle.std.specs.Option.{option_map}
use Rattle.std.specs.Ordering.{is_eq}
use Rattle.conflict_sets.specs.Keys.{key_cmp}
use Rattle.conflict_sets.specs.Rows.{value_at_key, IsAscending, with_writes}
use Rattle.conflict_sets.specs.declared.sets.ReadSet.{ReadSet}
use Rattle.conflict_sets.specs.declared.sets.Write.{Write}
use Rattle.conflict_sets.proofs.KeyOrder.{key_exact, key_self}
use Rattle.conflict_sets.proofs.RowLemmas.{by_place}
use Rattle.fs_base.specs.Config.{Settings}
use Rattle.fs_base.specs.declared.ids.ClientId.{ClientId}
use Rattle.fs_base.specs.declared.reply.Reply.{Reply}
use Rattle.key_schema.specs.Keys.{spelled_key, IsSpellable, IsValidKey}
use Rattle.key_schema.specs.declared.key.Key.{Key}
use Rattle.key_schema.specs.declared.key.Key.TheVariants as keys
use Rattle.key_schema.proofs.KeyLaws.{spellable, one_key_each}
use Rattle.row_records.specs.Replies.{is_reply}
use Rattle.row_tree.specs.TypedRows.{TypedRows, value_at}
use Rattle.row_tree.specs.Values.{Value, spelled_value, KeptValue, IsValue}
use Rattle.row_tree.specs.WellFormed.{IsWellFormed}
use Rattle.tree_model.specs.Effects.{Effect, Makes, at_length, settled_by}
use Rattle.tree_model.specs.Tree.{Tree}
use Rattle.txn_task.specs.Agreeing.{Agrees, AreWrites, LeadsTo, HaveValidKeys}
use Rattle.txn_task.specs.Transactions.{Transaction}
use Rattle.txn_task.specs.Writes.{written_at, set_write}
use Rattle.txn_task.specs.declared.messages.Asked.{Asked}
use Rattle.txn_task.proofs.TxnLaws.{are_writes_put, leads_none, leads_put}
use Rattle.txn_task.proofs.WriteLaws.{written_at-set_write}
use Rattle.txn_task.specs.declared.messages.OpStep.TheVariants as steps
use Rattle.path_walk.specs.Areas.{Area}
use Rattle.path_walk.specs.Owed.{HasDone, HasRead, IsOpCommit, KeepsEffect, IsKeptBefore}
use Rattle.path_walk.specs.Puts.{put_writes, with_puts, holds_reply, ArePuts, IsOther, MakesPuts}
use Rattle.path_walk.specs.Sound.{IsLookedAt, WritesChange, IsSoundEntry, kept_value}
use Rattle.std.specs.FinMap.{get}
use Rattle.conflict_sets.specs.Reads as bytes
use Rattle.conflict_sets.specs.declared.sets.WriteSet.{WriteSet}
use Rattle.fs_base.specs.declared.call.Request.{Request}
use Rattle.fs_base.specs.declared.row.Row.{Row}
use Rattle.row_records.proofs.InRange.{kept_fits}
use Rattle.row_records.specs.declared.rows.KeptRow.{KeptRow}
use Rattle.row_tree.specs.HasTree.{HasTree, AreWellFormed}
use Rattle.row_tree.specs.Spelling.{Spells, IsValueOf}
use Rattle.row_tree.specs.TreeOf.{tree_of}
use Rattle.row_tree.proofs.OneValue.{one_value_each}
use Rattle.row_tree.proofs.SpellingLaws.{found_back, lookup-form}
use Rattle.tree_model.specs.Calls.{effect, apply, is_query}
use Rattle.txn_task.specs.declared.messages.Entry.{Entry}
use Rattle.path_walk.proofs.WholeLaws.{whole_update, kept_in}

-- ---- another value than stands there

none_back : (o : Option Value) → option_map spelled_value o ≡ None → o ≡ None
none_back None e = refl
none_back (Some v) e = absurd (cc)

pub write_changes : (rows : List Row) (S : TypedRows) (k : Key) (w : Option Value) → Spells rows S → IsValidKey k → IsValueOf k w → value_at S k ≢ w → value_at_key rows (spelled_key k) ≢ option_map spelled_value w
write_changes rows S k None spells valid h apart same = apart (none_back (value_at S k) (sym (spells.at k valid) ∙ same))
write_changes rows S k (Some v) spells valid h apart same =
    let found = found_back (value_at S k) (spelled_value v) (sym same ∙ spells.at k valid) in
    apart (found.1 ∙ ap Some (one_value_each k found.0 v (lookup-form S k found.0 found.1) h.0 (spells.fits k found.0 found.1).1 h.1 found.2))

-- ---- the commit

pub some_same : (a b : Option (List ℕ)) → Some a ≡ Some b → a ≡ b
some_same a b e = cc

abbrev number : ℕ → Option Value → ℕ
number d (Some (KeptValue row)) = row.number
number d _ = d

-- a smaller number was kept, so the new value is another
not_kept : (q : Request) (reply : Reply) (o : Option KeptRow) → MatchOption o ⊤ (λ row. row.number < q.number) → option_map KeptValue o ≢ Some (kept_value q reply)
not_kept q reply None before e = absurd (cc)
not_kept q reply (Some row) before e = let same : row.number ≡ q.number = ap (number 0) e in omega arith

pub apart : (k l : Key) → IsSpellable k → IsSpellable l → k ≢ l → is_eq (key_cmp (spelled_key k) (spelled_key l)) ≡ false
apart k l a b n = by_place _ (spelled_key k) (spelled_key l)
    (λ e. rw e refl)
    (λ e. absurd (n (one_key_each k l a b (key_exact (spelled_key k) (spelled_key l) e))))
    (λ e. rw e refl)

module _ (C : Settings) (q : Request) (f : Tree → Effect) (t : Transaction) (reply : Reply) (asked : List Asked) where
  abbrev own : List ℕ
  own = spelled_key (keys.Idem q.client)

  abbrev bytes_kept : List ℕ
  bytes_kept = spelled_value (kept_value q reply)

  abbrev all : List Write
  all = set_write own (Some bytes_kept) t.writes

  module _ (update : is_query q.call ≡ false) (same : KeepsEffect C (λ T. effect C T q) f t.reads) (made : IsOpCommit C f t reply asked) (before : IsKeptBefore t.reads q) (client : q.client.0 < 2 ^ 128) (from : 1 ≤ q.number) (small : q.number < 2 ^ 64) where
    range : IsValue (kept_value q reply)
    range = kept_fits q.number reply from small made.reply_fits

    agreeing : (rows : List Row) (T : Tree) → IsAscending rows → (tree : HasTree C rows T) → bytes.RowsAgree rows t.reads → Agrees tree.0 t.reads
    agreeing rows T asc tree agrees = record { rows = rows; ascending = asc; spells = tree.1; agrees = agrees }

    acts : (rows : List Row) (T : Tree) → IsAscending rows → HasTree C rows T → bytes.RowsAgree rows t.reads → (U : Tree) × HasTree C (with_writes rows all) U × (apply C T q (settled_by reply) ≡ (U, reply))
    acts rows T asc tree agrees =
        let whole = whole_update C q f t.reads t.writes reply update same made.sound before client range tree.0 tree.2 (agreeing rows T asc tree agrees) in
        (tree_of whole.0, (whole.0, whole.1.leads rows asc tree.1, whole.2, refl), ap (λ (x : Tree). apply C x q (settled_by reply)) (sym tree.3) ∙ whole.3)

    -- it is an effect that makes a tree
    makes : (rows : List Row) (T : Tree) → IsAscending rows → HasTree C rows T → bytes.RowsAgree rows t.reads → (V : Tree) × (at_length (settled_by reply) (effect C T q) ≡ Makes V reply)
    makes rows T asc tree agrees =
        let at = agreeing rows T asc tree agrees in
        let done = made.sound tree.0 tree.2 at in
        (tree_of done.0, ap (λ (x : Tree). at_length (settled_by reply) (effect C x q)) (sym tree.3) ∙ (ap (at_length (settled_by reply)) (sym (same tree.0 tree.2 at)) ∙ done.3))

    fresh : (rows : List Row) (T : Tree) → IsAscending rows → HasTree C rows T → bytes.RowsAgree rows t.reads → MatchOption (get T.kept q.client.0) ⊤ (λ row. row.number < q.number)
    fresh rows T asc tree agrees =
        subst (λ (x : Tree). MatchOption (get x.kept q.client.0) ⊤ (λ row. row.number < q.number)) tree.3 (kept_in tree.0 q (before tree.0 (agreeing rows T asc tree agrees)))

    written : (key : List ℕ) → written_at all key ≡ cond (is_eq (key_cmp key own)) (Some (Some bytes_kept)) (written_at t.writes key)
    written key = written_at-set_write own key (Some bytes_kept) t.writes

    all_change : WritesChange C t.reads all
    all_change key looked valid v is rows T asc tree agrees e =
        let bytes_of : List ℕ = spelled_key key in
        let at : cond (is_eq (key_cmp bytes_of own)) (Some (Some bytes_kept)) (written_at t.writes bytes_of) ≡ Some v = sym (written bytes_of) ∙ is in
        by_place ⊥ bytes_of own
        (λ o. made.changes key looked valid v (ap (λ x. cond (is_eq x) (Some (Some bytes_kept)) (written_at t.writes bytes_of)) (sym o) ∙ at) rows T asc tree agrees e)
        (λ o.
        let value : Some bytes_kept ≡ v = some_same (Some bytes_kept) v (ap (λ x. cond (is_eq x) (Some (Some bytes_kept)) (written_at t.writes bytes_of)) (sym o) ∙ at) in
        write_changes rows tree.0 (keys.Idem q.client) (Some (kept_value q reply)) tree.1 client (refl, range)
        (not_kept q reply (get (tree.0).kept q.client.0) (before tree.0 (agreeing rows T asc tree agrees)))
        (ap (value_at_key rows) (sym (key_exact bytes_of own o)) ∙ (e ∙ sym value)))
        (λ o. made.changes key looked valid v (ap (λ x. cond (is_eq x) (Some (Some bytes_kept)) (written_at t.writes bytes_of)) (sym o) ∙ at) rows T asc tree agrees e)

    -- a transaction with these writes is a sound entry
    pub sound_entry : (writes : WriteSet) → writes.writes ≡ set_write (spelled_key (keys.Idem q.client)) (Some (spelled_value (kept_value q reply))) t.writes → IsSoundEntry C (record { request = q; reply = reply; asked = asked; reads = t.reads; writes = writes })
    sound_entry writes is = record {
      acts = λ rows T asc tree agrees. subst (λ ws. (U : Tree) × HasTree C (with_writes rows ws) U × (apply C T q (settled_by reply) ≡ (U, reply))) (sym is) (acts rows T asc tree agrees);
      makes = makes;
      fresh = fresh;
      valid = subst HaveValidKeys (sym is) (are_writes_put (keys.Idem q.client) (Some bytes_kept) t.writes client made.writes).valid;
      keeps = ap (λ ws. written_at ws own) is ∙ (written own ∙ ap (λ o. cond (is_eq o) (Some (Some bytes_kept)) (written_at t.writes own)) (key_self own));
      changes = subst (WritesChange C t.reads) (sym is) all_change;
      update = update;
      none_asked = made.none_asked;
    }

-- ---- sound entries keep rows well formed

pub sound_keeps_good : (C : Settings) (e : Entry) (rows : List Row) → IsAscending rows → IsSoundEntry C e → AreWellFormed C rows → bytes.RowsAgree rows e.reads → AreWellFormed C (with_writes rows e.writes.writes)
sound_keeps_good C e rows asc sound good agrees = let made = sound.acts rows good.0 asc good.1 agrees in (made.0, made.1)

-- where none stands, each value is another
pub absent_changes : (S : TypedRows) (k : Key) (v : Value) → value_at S k ≡ None → value_at S k ≢ Some v
absent_changes S k v none e = let stands : None ≡ Some v = sym none ∙ e in cc

-- what is put at a key that was looked at is another value
other_changes : (S : TypedRows) (k : Key) (v : Option Value) → IsLookedAt k → IsOther S k v → value_at S k ≢ v
other_changes S (keys.Alloc server) v looked other = other
other_changes S (keys.Dent parent name) v looked other = other
other_changes S (keys.Gc id) v looked other = other
other_changes S (keys.Idem client) v looked other = other
other_changes S (keys.Inode id) v looked other = other
other_changes S (keys.Session inode client number) v looked other = absurd looked

not_own : (client : ClientId) (key : Key) → holds_reply key ≡ false → keys.Idem client ≢ key
not_own client key other e = let same : true ≡ false = ap holds_reply e ∙ other in cc

module _ (C : Settings) (reads : ReadSet) where
  puts_write : (puts : List (Key × Option Value)) → ArePuts C reads puts → AreWrites (put_writes puts)
  puts_write [] h = record { ascending = tt; valid = tt }
  puts_write (put ∷ puts) h = are_writes_put put.0 (option_map spelled_value put.1) (put_writes puts) h.0.valid (puts_write puts h.1)

  leads_puts : (puts : List (Key × Option Value)) → ArePuts C reads puts → (S : TypedRows) → IsWellFormed C S → Agrees S reads → LeadsTo (put_writes puts) S (with_puts S puts)
  leads_puts [] h S good agrees = leads_none S
  leads_puts (put ∷ puts) h S good agrees = leads_put (put_writes puts) S (with_puts S puts) put.0 put.1 (leads_puts puts h.1 S good agrees) h.0.valid (h.0.changes S good agrees).0

  no_kept : (puts : List (Key × Option Value)) → ArePuts C reads puts → (client : ClientId) → client.0 < 2 ^ 128 → written_at (put_writes puts) (spelled_key (keys.Idem client)) ≡ None
  no_kept [] h client small = refl
  no_kept (put ∷ puts) h client small =
      let own : List ℕ = spelled_key (keys.Idem client) in
      written_at-set_write (spelled_key put.0) own (option_map spelled_value put.1) (put_writes puts)
      ∙ ap (λ b. cond b (Some (option_map spelled_value put.1)) (written_at (put_writes puts) own)) (apart (keys.Idem client) put.0 small (spellable put.0 h.0.valid) (not_own client put.0 h.0.no_kept))
      ∙ no_kept puts h.1 client small

  puts_change : (puts : List (Key × Option Value)) → ArePuts C reads puts → WritesChange C reads (put_writes puts)
  puts_change [] h key looked valid v is rows T asc tree agrees e = absurd (cc)
  puts_change (put ∷ puts) h key looked valid v is rows T asc tree agrees e =
      by_place ⊥ (spelled_key key) (spelled_key put.0)
      (λ o. puts_change puts h.1 key looked valid v (elsewhere (ap is_eq o)) rows T asc tree agrees e)
      (λ o.
      let change = h.0.changes tree.0 tree.2 (record { rows = rows; ascending = asc; spells = tree.1; agrees = agrees }) in
      let same : spelled_key key ≡ spelled_key put.0 = key_exact (spelled_key key) (spelled_key put.0) o in
      let one : key ≡ put.0 = one_key_each key put.0 (spellable key valid) (spellable put.0 h.0.valid) same in
      write_changes rows tree.0 put.0 put.1 tree.1 h.0.valid change.0 (other_changes tree.0 put.0 put.1 (subst IsLookedAt one looked) change.1)
      (ap (value_at_key rows) (sym same) ∙ (e ∙ sym (some_same value v (sym (ap by_case (ap is_eq o)) ∙ at)))))
      (λ o. puts_change puts h.1 key looked valid v (elsewhere (ap is_eq o)) rows T asc tree agrees e)
    where
      value : Option (List ℕ)
      value = option_map spelled_value put.1

      by_case : Bool → Option (Option (List ℕ))
      by_case b = cond b (Some value) (written_at (put_writes puts) (spelled_key key))

      at : by_case (is_eq (key_cmp (spelled_key key) (spelled_key put.0))) ≡ Some v
      at = sym (written_at-set_write (spelled_key put.0) (spelled_key key) value (put_writes puts)) ∙ is

      elsewhere : is_eq (key_cmp (spelled_key key) (spelled_key put.0)) ≡ false → written_at (put_writes puts) (spelled_key key) ≡ Some v
      elsewhere other = sym (ap by_case other) ∙ at

-- a commit of what was put
pub commit_puts : (C : Settings) (effect : Tree → Effect) (t : Transaction) (reply : Reply) (asked : List Asked) (puts : List (Key × Option Value))
    → ArePuts C t.reads puts → t.writes ≡ put_writes puts → IsTrue (is_reply reply) → asked ≡ [] → MakesPuts C effect t.reads puts reply → IsOpCommit C effect t reply asked
commit_puts C effect t reply asked puts are is fits none makes = record {
  sound = λ S good agrees. let made = makes S good agrees in (with_puts S puts, subst (λ ws. LeadsTo ws S (with_puts S puts)) (sym is) (leads_puts C t.reads puts are S good agrees), made.0, made.1);
  writes = subst AreWrites (sym is) (puts_write C t.reads puts are);
  no_kept = λ client small. ap (λ ws. written_at ws (spelled_key (keys.Idem client))) is ∙ no_kept C t.reads puts are client small;
  changes = subst (WritesChange C t.reads) (sym is) (puts_change C t.reads puts are);
  reply_fits = fits;
  none_asked = none;
}

-- all was read, and what was put is committed
pub puts_done : (C : Settings) (areas : Tree → List Area) (effect : Tree → Effect) (t u : Transaction) (reply : Reply) (asked : List Asked) (puts : List (Key × Option Value))
    → HasRead C areas t.reads → ArePuts C t.reads puts → u ≡ record t { writes = put_writes puts } → IsTrue (is_reply reply) → asked ≡ [] → MakesPuts C effect t.reads puts reply
    → HasDone C areas effect t u (steps.Commit reply asked)
puts_done C areas effect t u reply asked puts all are is fits none makes =
    subst (λ (v : Transaction). HasDone C areas effect t v (steps.Commit reply asked)) (sym is)
    (record {
      reads = refl;
      snapshot = refl;
      versions = refl;
      step = (all, commit_puts C effect (record t { writes = put_writes puts }) reply asked puts are refl fits none makes);
      unwritten = tt;
    })
