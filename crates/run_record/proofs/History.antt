-- What follows for a sound journal: its rows are the tree's, it is legal, and a kept reply is its client's last.
use Rattle.std.proofs.Common.{◌≡◌, ◌≢◌, ℕ, ◌<◌, ◌≤◌, ◌+◌, ◌^◌, ◌⊎◌, inl, inr, Bool, true, false, cond, List, [], ◌∷◌, Option, Some, None, length, take, sym, ◌∙◌, ap, refl, subst, arith, add-one, suc, zero, MatchOption}
use Rattle.std.specs.Prelude.{unwrap_or, slice_get, IsTrue, ⊤}
use Rattle.std.specs.FinMap.{get, get-empty}
use Rattle.std.specs.Option.{option_map}
use Rattle.std.specs.Ordering.{is_eq, nat_cmp}
use Rattle.std.proofs.lemmas.Bool.{cases_eq, cases_order}
use Rattle.std.proofs.lemmas.Option.{get_or_from_slice_get}
use Rattle.conflict_sets.specs.Keys.{key_cmp}
use Rattle.conflict_sets.specs.Reads as bytes
use Rattle.conflict_sets.specs.Rows.{IsAscending, value_at_key, with_writes}
use Rattle.conflict_sets.specs.Writes.{AreAscending, WritesAbove}
use Rattle.conflict_sets.specs.declared.sets.Write.{Write}
use Rattle.conflict_sets.proofs.RowLemmas.{IsAscending-with_writes}
use Rattle.fs_base.specs.Config.{Settings}
use Rattle.fs_base.specs.declared.ids.ClientId.{ClientId}
use Rattle.fs_base.specs.declared.reply.Reply.{Reply}
use Rattle.fs_base.specs.declared.row.Row.{Row}
use Rattle.key_schema.specs.Keys.{spelled_key}
use Rattle.key_schema.specs.declared.key.Key.{Key}
use Rattle.key_schema.specs.declared.key.Key.TheVariants as keys
use Rattle.kv_store.specs.Journal.{after_all, is_written, last_writer, or_else, written_value}
use Rattle.kv_store.specs.Journal.{IsAgreedJournal}
use Rattle.kv_store.proofs.JournalLemmas.{IsAscending-after_all, last_writer_more, value_more}
use Rattle.path_walk.specs.Sound.{IsSoundEntry}
use Rattle.row_records.specs.Rows.{spelled_kept, is_kept}
use Rattle.row_records.specs.declared.rows.KeptRow.{KeptRow}
use Rattle.row_tree.specs.HasTree.{HasTree}
use Rattle.row_tree.specs.Opening.{opening_bytes}
use Rattle.row_tree.specs.Spelling.{Spells}
use Rattle.row_tree.specs.TreeOf.{kept_of}
use Rattle.row_tree.specs.TypedRows.{TypedRows, value_at}
use Rattle.row_tree.specs.Values.{KeptValue, spelled_value}
use Rattle.row_tree.proofs.OneValue.{one_value_each}
use Rattle.row_tree.proofs.SpellingLaws.{found_back, lookup-form, texts}
use Rattle.row_tree.proofs.Telling.{kept_is}
use Rattle.tree_model.specs.Calls.{effect}
use Rattle.tree_model.specs.Effects.{Makes, at_length, settled_by}
use Rattle.tree_model.specs.Tree.{Tree, new_tree}
use Rattle.tree_model.specs.declared.kept.KeptReply.{KeptReply}
use Rattle.tree_model.proofs.MapLaws.{decide}
use Rattle.txn_task.specs.Writes.{written_at}
use Rattle.txn_task.specs.declared.messages.Entry.{Entry}
use Rattle.histories.proofs.Versions.{place_or_end, tree_next}
use Rattle.run_record.specs.Legal.{AreReplies, applied, EntryAt, IsLegalJournal, IsOnce, journal_rows, reads_of, tree_after, tree_at, writes_of}
use Rattle.run_record.specs.Right.{IsNoRefusal}
use Rattle.run_record.specs.Sound.{IsSoundJournal}
use Rattle.run_record.proofs.TreeReplies.{made_reply}
use Rattle.run_record.proofs.Keeping.{IsNew, kept_as, kept_own, kept_other}

abbrev Run : Settings → List Row → List Entry → Type 0
Run C rows es = IsAgreedJournal reads_of writes_of (IsSoundEntry C) rows es

-- ---- the rows are the tree's

-- a sound entry leads the tree's rows to those of the tree after its call
has_after : (C : Settings) (rows : List Row) (T : Tree) (e : Entry) → IsAscending rows → HasTree C rows T → IsSoundEntry C e → bytes.RowsAgree rows e.reads → HasTree C (with_writes rows e.writes.writes) (applied C T e).0
has_after C rows T e asc tree sound agrees =
    let made : (U : Tree) × HasTree C (with_writes rows e.writes.writes) U × (applied C T e ≡ (U, e.reply)) = sound.acts rows T asc tree agrees in
    subst (HasTree C (with_writes rows e.writes.writes)) (sym (ap (λ (p : Tree × Reply). p.0) made.2)) made.1

tree_along : (C : Settings) (rows : List Row) (T : Tree) (es : List Entry) (n : ℕ) → IsAscending rows → HasTree C rows T → Run C rows es → HasTree C (after_all writes_of rows (take n es)) (tree_after C T (take n es))
tree_along C rows T es zero asc tree run = tree
tree_along C rows T [] (suc n) asc tree run = tree
tree_along C rows T (e ∷ es) (suc n) asc tree run =
    tree_along C (with_writes rows e.writes.writes) (applied C T e).0 es n (IsAscending-with_writes rows e.writes.writes asc) (has_after C rows T e asc tree run.0 run.1) run.2

pub rows_tree : (C : Settings) (journal : List Entry) → IsSoundJournal C journal → (n : ℕ) → HasTree C (journal_rows C journal n) (tree_at C journal n)
rows_tree C journal s n = tree_along C (opening_bytes C) (new_tree C) journal n s.ascending s.opening s.run

-- ---- each entry

run_at : (C : Settings) (rows : List Row) (es : List Entry) (place : ℕ) (e : Entry) → Run C rows es → EntryAt es place e → IsSoundEntry C e × bytes.RowsAgree (after_all writes_of rows (take place es)) e.reads
run_at C rows [] place e r at = absurd (let k : None ≡ Some e = at in cc)
run_at C rows (x ∷ es) zero e r at =
    let same : x ≡ e = (let k : Some x ≡ Some e = at in cc) in
    subst (λ (y : Entry). IsSoundEntry C y × bytes.RowsAgree rows y.reads) same (r.0, r.1)
run_at C rows (x ∷ es) (suc place) e r at = run_at C (with_writes rows x.writes.writes) es place e r.2 at

-- the entry at a place is sound and agreed with the rows there
pub entry_sound : (C : Settings) (journal : List Entry) → IsSoundJournal C journal → (place : ℕ) (e : Entry) → EntryAt journal place e → IsSoundEntry C e × bytes.RowsAgree (journal_rows C journal place) e.reads
entry_sound C journal s place e at = run_at C (opening_bytes C) journal place e s.run at

-- ---- what is kept, from entry to entry

-- what is kept of the client has at least this number
abbrev KeptAbove : Settings → List Entry → ℕ → ℕ → ℕ → Type 0
KeptAbove C journal client number n = (k : KeptReply) × (get (tree_at C journal n).kept client ≡ Some k) × (number ≤ k.number)

module _ (C : Settings) (journal : List Entry) (s : IsSoundJournal C journal) where
  pub rows_ascend : (n : ℕ) → IsAscending (journal_rows C journal n)
  rows_ascend n = IsAscending-after_all writes_of (opening_bytes C) (take n journal) s.ascending

  -- an entry's number is new at its place
  pub fresh_number : (place : ℕ) (e : Entry) → EntryAt journal place e → MatchOption (get (tree_at C journal place).kept e.request.client.0) ⊤ (λ k. k.number < e.request.number)
  fresh_number place e at =
      let sound = entry_sound C journal s place e at in
      sound.0.fresh (journal_rows C journal place) (tree_at C journal place) (rows_ascend place) (rows_tree C journal s place) sound.1

  made_at : (place : ℕ) (e : Entry) → EntryAt journal place e → (V : Tree) × (at_length (settled_by e.reply) (effect C (tree_at C journal place) e.request) ≡ Makes V e.reply)
  made_at place e at =
      let sound = entry_sound C journal s place e at in
      sound.0.makes (journal_rows C journal place) (tree_at C journal place) (rows_ascend place) (rows_tree C journal s place) sound.1

  pub no_refusal : (place : ℕ) (e : Entry) → EntryAt journal place e → IsNoRefusal e.reply
  no_refusal place e at = let made = made_at place e at in made_reply C (tree_at C journal place) made.0 e.request e.reply made.1

  -- after an entry its reply is kept
  pub kept_next : (place : ℕ) (e : Entry) → EntryAt journal place e → get (tree_at C journal (suc place)).kept e.request.client.0 ≡ Some (kept_as e.request e.reply)
  kept_next place e at =
      let made = made_at place e at in
      ap (λ (T : Tree). get T.kept e.request.client.0) (tree_next C (new_tree C) journal place e at)
      ∙ kept_own C (tree_at C journal place) e.request made.0 e.reply (entry_sound C journal s place e at).0.update (fresh_number place e at) made.1

  -- and what was kept of other clients
  pub kept_past : (place : ℕ) (e : Entry) (client : ℕ) → EntryAt journal place e → client ≢ e.request.client.0 → get (tree_at C journal (suc place)).kept client ≡ get (tree_at C journal place).kept client
  kept_past place e client at apart =
      let made = made_at place e at in
      ap (λ (T : Tree). get T.kept client) (tree_next C (new_tree C) journal place e at)
      ∙ kept_other C (tree_at C journal place) e.request made.0 e.reply (entry_sound C journal s place e at).0.update (fresh_number place e at) made.1 client apart

  -- ---- numbers rise

  above_next : (client number n : ℕ) → KeptAbove C journal client number n → KeptAbove C journal client number (suc n)
  above_next client number n kept = elim (place_or_end journal n) [
    | inl here ↦ along here.0 here.1
    | inr over ↦ (kept.0, ap (λ (es : List Entry). get (tree_after C (new_tree C) es).kept client) over ∙ kept.1, kept.2)
  ]
    where
      along : (e : Entry) → EntryAt journal n e → KeptAbove C journal client number (suc n)
      along e at = elim (cases_eq client e.request.client.0) [
        | inl same ↦
            (let less : kept.0.number < e.request.number =
            subst (λ (o : Option KeptReply). IsNew o e.request.number) (ap (λ c. get (tree_at C journal n).kept c) (sym same) ∙ kept.1) (fresh_number n e at) in
            let above : number ≤ kept.0.number = kept.2 in
            (kept_as e.request e.reply, ap (λ c. get (tree_at C journal (suc n)).kept c) same ∙ kept_next n e at, omega arith))
        | inr apart ↦ (kept.0, kept_past n e client at apart ∙ kept.1, kept.2)
      ]

  -- what is kept of an entry's client afterwards has at least its number
  pub kept_above : (place : ℕ) (e : Entry) → EntryAt journal place e → (n : ℕ) → place < n → (k : KeptReply) × (get (tree_at C journal n).kept e.request.client.0 ≡ Some k) × (e.request.number ≤ k.number)
  kept_above place e at zero l = absurd (omega arith)
  kept_above place e at (suc n) l = elim (cases_order place n) [
    | inl same ↦ subst (λ m. KeptAbove C journal e.request.client.0 e.request.number (suc m)) same (kept_as e.request e.reply, kept_next place e at, omega arith)
    | inr other ↦ elim other [
      | inl less ↦ above_next e.request.client.0 e.request.number n (kept_above place e at n less)
      | inr more ↦ absurd (omega arith)
    ]
  ]

  -- a client's earlier entries have smaller numbers
  pub earlier_smaller : (i j : ℕ) (a b : Entry) → i < j → EntryAt journal i a → EntryAt journal j b → a.request.client ≡ b.request.client → a.request.number < b.request.number
  earlier_smaller i j a b l at_a at_b same =
      let kept = kept_above i a at_a j l in
      let less : kept.0.number < b.request.number =
      subst (λ (o : Option KeptReply). IsNew o b.request.number) (ap (λ (c : ClientId). get (tree_at C journal j).kept c.0) (sym same) ∙ kept.1) (fresh_number j b at_b) in
      let above : a.request.number ≤ kept.0.number = kept.2 in
      omega arith

  pub once : IsOnce journal
  once i j a b at_a at_b clients numbers = elim (cases_order i j) [
    | inl same ↦ same
    | inr other ↦ elim other [
      | inl less ↦ absurd (let l : a.request.number < b.request.number = earlier_smaller i j a b less at_a at_b clients in omega arith)
      | inr more ↦ absurd (let l : b.request.number < a.request.number = earlier_smaller j i b a more at_b at_a (sym clients) in omega arith)
    ]
  ]

-- ---- the journal is legal

replies_along : (C : Settings) (rows : List Row) (T : Tree) (es : List Entry) → IsAscending rows → HasTree C rows T → Run C rows es → AreReplies C T es
replies_along C rows T [] asc tree run = tt
replies_along C rows T (e ∷ es) asc tree run =
    let made : (U : Tree) × HasTree C (with_writes rows e.writes.writes) U × (applied C T e ≡ (U, e.reply)) = run.0.acts rows T asc tree run.1 in (
      ap (λ (p : Tree × Reply). p.1) made.2,
      replies_along C (with_writes rows e.writes.writes) (applied C T e).0 es (IsAscending-with_writes rows e.writes.writes asc) (has_after C rows T e asc tree run.0 run.1) run.2,
    )

pub legal : (C : Settings) (journal : List Entry) → IsSoundJournal C journal → IsLegalJournal C journal
legal C journal s = record { replies = replies_along C (opening_bytes C) (new_tree C) journal s.ascending s.opening s.run; once = once C journal s }

-- ---- kept replies as rows

bytes_of : (o : Option KeptRow) → option_map spelled_value (option_map KeptValue o) ≡ option_map (λ (k : KeptReply). spelled_kept (record { number = k.number; reply = k.reply })) (option_map kept_of o)
unfolding spelled_value
bytes_of None = refl
bytes_of (Some row) = refl

-- what stands at a client's key is the tree's kept reply
pub kept_stands : (C : Settings) (rows : List Row) (T : Tree) (client : ClientId) → HasTree C rows T → client.0 < 2 ^ 128
    → value_at_key rows (spelled_key (keys.Idem client)) ≡ option_map (λ (k : KeptReply). spelled_kept (record { number = k.number; reply = k.reply })) (get T.kept client.0)
kept_stands C rows T client tree small =
    let S : TypedRows = tree.0 in
    tree.1.at (keys.Idem client) small
    ∙ (bytes_of (get S.kept client.0)
    ∙ ap (option_map (λ (k : KeptReply). spelled_kept (record { number = k.number; reply = k.reply })))
    (sym (kept_is S client.0 (get S.kept client.0) refl) ∙ ap (λ (x : Tree). get x.kept client.0) tree.3))

unkept : (o : Option KeptRow) (row : KeptRow) → option_map KeptValue o ≡ Some (KeptValue row) → o ≡ Some row
unkept None row e = absurd (cc)
unkept (Some x) row e = cc

kept_there : (rows : List Row) (S : TypedRows) (client : ClientId) (row : KeptRow) → Spells rows S → client.0 < 2 ^ 128 → IsTrue (is_kept row) → value_at_key rows (spelled_key (keys.Idem client)) ≡ Some (spelled_kept row) → get S.kept client.0 ≡ Some row
unfolding spelled_value
kept_there rows S client row spells small fits is =
    let k : Key = keys.Idem client in
    let found = found_back (value_at S k) (spelled_kept row) (sym is ∙ spells.at k small) in
    let same : found.0 ≡ KeptValue row = one_value_each k found.0 (KeptValue row) (lookup-form S k found.0 found.1) refl (spells.fits k found.0 found.1).1 fits found.2 in
    unkept (get S.kept client.0) row (found.1 ∙ ap Some same)

-- a kept row that stands there is the tree's kept reply
pub row_kept : (C : Settings) (rows : List Row) (T : Tree) (client : ClientId) → HasTree C rows T → client.0 < 2 ^ 128 → (row : KeptRow) → IsTrue (is_kept row)
    → value_at_key rows (spelled_key (keys.Idem client)) ≡ Some (spelled_kept row) → get T.kept client.0 ≡ Some (record { number = row.number; reply = row.reply })
row_kept C rows T client tree small row fits is =
    ap (λ (x : Tree). get x.kept client.0) (sym tree.3) ∙ kept_is tree.0 client.0 (Some row) (kept_there rows tree.0 client row tree.1 small fits is)

-- ---- the entry that a kept reply is of

none_above : (key : List ℕ) (writes : List Write) → WritesAbove key writes → written_at writes key ≡ None
none_above key [] above = refl
none_above key (w ∷ writes) above = ap (λ o. cond (is_eq o) (Some w.value) (written_at writes key)) above.0 ∙ none_above key writes above.1

-- in ascending writes each key is written once
written_once : (writes : List Write) (key : List ℕ) → AreAscending writes → written_value writes key ≡ written_at writes key
written_once [] key asc = refl
written_once (w ∷ writes) key asc =
    ap (λ o. or_else o (cond (is_eq (key_cmp key w.key)) (Some w.value) None)) (written_once writes key asc.1)
    ∙ elim (decide texts key w.key) [
      | inl same ↦
          (let none : written_at writes key ≡ None = none_above key writes (subst (λ k. WritesAbove k writes) (sym same.0) asc.0) in
          ap (λ o. or_else o (cond (is_eq (key_cmp key w.key)) (Some w.value) None)) none ∙ inside (is_eq (key_cmp key w.key)) w.value (written_at writes key) same.1)
      | inr apart ↦ outside (is_eq (key_cmp key w.key)) w.value (written_at writes key) apart.1
    ]
  where
    inside : (b : Bool) (v : Option (List ℕ)) (o : Option (Option (List ℕ))) → b ≡ true → or_else None (cond b (Some v) None) ≡ cond b (Some v) o
    inside true v o e = refl
    inside false v o e = absurd (cc)

    or_none : (o : Option (Option (List ℕ))) → or_else o None ≡ o
    or_none None = refl
    or_none (Some x) = refl

    outside : (b : Bool) (v : Option (List ℕ)) (o : Option (Option (List ℕ))) → b ≡ false → or_else o (cond b (Some v) None) ≡ cond b (Some v) o
    outside true v o e = absurd (cc)
    outside false v o e = or_none o

-- a kept reply, and the entry that wrote it
pub record IsKeptBy (C : Settings) (journal : List Entry) (n : ℕ) (client : ClientId) : Type 0 where
  pub place : ℕ
  pub before : place < n
  pub entry : Entry
  pub at : EntryAt journal place entry
  pub client_is : entry.request.client ≡ client
  pub kept : get (tree_at C journal n).kept client.0 ≡ Some (record { number = entry.request.number; reply = entry.reply })
  pub writer : last_writer writes_of journal n (spelled_key (keys.Idem client)) ≡ place + 1

id_same : (a b : ClientId) → a.0 ≡ b.0 → a ≡ b
id_same a b e = λ i. record { 0 = e i }

pub at_there : {X : Type 0} (xs : List X) (place : ℕ) → place < length xs → (x : X) × (slice_get xs place ≡ Some x)
at_there [] place l = absurd (omega arith)
at_there (x ∷ xs) zero l = (x, refl)
at_there (x ∷ xs) (suc place) l = at_there xs place (omega arith)

module _ (C : Settings) (journal : List Entry) (s : IsSoundJournal C journal) (client : ClientId) (small : client.0 < 2 ^ 128) where
  abbrev key : List ℕ
  key = spelled_key (keys.Idem client)

  -- an entry of another client writes no kept reply of this one: it would change the row, and the tree's stays
  none_written : (place : ℕ) (e : Entry) → EntryAt journal place e → place < length journal → client.0 ≢ e.request.client.0 → written_value e.writes.writes key ≡ None
  none_written place e at l apart = written_once e.writes.writes key e.writes.ascending ∙ none (written_at e.writes.writes key) refl
    where
      parts : IsSoundEntry C e × bytes.RowsAgree (journal_rows C journal place) e.reads
      parts = entry_sound C journal s place e at

      sound : IsSoundEntry C e
      sound = parts.0

      stays : value_at_key (journal_rows C journal (place + 1)) key ≡ value_at_key (journal_rows C journal place) key
      stays =
          kept_stands C (journal_rows C journal (place + 1)) (tree_at C journal (place + 1)) client (rows_tree C journal s (place + 1)) small
          ∙ (ap (option_map (λ (k : KeptReply). spelled_kept (record { number = k.number; reply = k.reply })))
          (ap (λ m. get (tree_at C journal m).kept client.0) (add-one place) ∙ kept_past C journal s place e client.0 at apart)
          ∙ sym (kept_stands C (journal_rows C journal place) (tree_at C journal place) client (rows_tree C journal s place) small))

      value : value_at_key (journal_rows C journal (place + 1)) key ≡ unwrap_or (written_at e.writes.writes key) (value_at_key (journal_rows C journal place) key)
      value =
          value_more writes_of (opening_bytes C) journal place e key s.ascending l (get_or_from_slice_get journal place e e at)
          ∙ ap (λ o. unwrap_or o (value_at_key (journal_rows C journal place) key)) (written_once e.writes.writes key e.writes.ascending)

      none : (o : Option (Option (List ℕ))) → written_at e.writes.writes key ≡ o → o ≡ None
      none None is = refl
      none (Some v) is =
          absurd (sound.changes (keys.Idem client) tt small v is (journal_rows C journal place) (tree_at C journal place) (rows_ascend C journal s place) (rows_tree C journal s place) parts.1
          (sym stays ∙ (value ∙ ap (λ o. unwrap_or o (value_at_key (journal_rows C journal place) key)) is)))

  pub kept_by : (n : ℕ) → n ≤ length journal → (get (tree_at C journal n).kept client.0 ≡ None) ⊎ IsKeptBy C journal n client
  kept_by zero l = inl (get-empty nat_cmp client.0)
  kept_by (suc n) l =
      let here : (e : Entry) × EntryAt journal n e = at_there journal n (omega arith) in
      next here.0 here.1 (kept_by n (omega arith))
    where
      next : (e : Entry) → EntryAt journal n e → (get (tree_at C journal n).kept client.0 ≡ None) ⊎ IsKeptBy C journal n client
          → (get (tree_at C journal (suc n)).kept client.0 ≡ None) ⊎ IsKeptBy C journal (suc n) client
      next e at old =
          let in_list : n < length journal = omega arith in
          let wrote : last_writer writes_of journal (suc n) key ≡ is_written (written_value e.writes.writes key) (n + 1) (last_writer writes_of journal n key) =
          ap (λ m. last_writer writes_of journal m key) (sym (add-one n)) ∙ last_writer_more writes_of key journal n e in_list (get_or_from_slice_get journal n e e at) in
          let sound : IsSoundEntry C e = (entry_sound C journal s n e at).0 in
          elim (cases_eq client.0 e.request.client.0) [
            | inl same ↦
                (let own : client ≡ e.request.client = id_same client e.request.client same in
                inr (record {
                  place = n;
                  before = omega arith;
                  entry = e;
                  at = at;
                  client_is = sym own;
                  kept = ap (λ c. get (tree_at C journal (suc n)).kept c) same ∙ kept_next C journal s n e at;
                  writer = wrote ∙ ap (λ o. is_written o (n + 1) (last_writer writes_of journal n key))
                      (written_once e.writes.writes key e.writes.ascending ∙ (ap (λ (c : ClientId). written_at e.writes.writes (spelled_key (keys.Idem c))) own ∙ sound.keeps));
                }))
            | inr apart ↦
                (let still : get (tree_at C journal (suc n)).kept client.0 ≡ get (tree_at C journal n).kept client.0 = kept_past C journal s n e client.0 at apart in
                let writer : last_writer writes_of journal (suc n) key ≡ last_writer writes_of journal n key =
                wrote ∙ ap (λ o. is_written o (n + 1) (last_writer writes_of journal n key)) (none_written n e at in_list apart) in
                elim old [
                  | inl none ↦ inl (still ∙ none)
                  | inr k ↦ inr (record {
                    place = k.place;
                    before = (let b : k.place < n = k.before in omega arith);
                    entry = k.entry;
                    at = k.at;
                    client_is = k.client_is;
                    kept = still ∙ k.kept;
                    writer = writer ∙ k.writer;
                  })
                ])
          ]
