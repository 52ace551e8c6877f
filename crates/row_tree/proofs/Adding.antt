-- Adding a node with its entry keeps rows well-formed.
use Rattle.std.proofs.Common.{◌≡◌, ◌≢◌, ◌⊎◌, ℕ, ◌+◌, ◌*◌, ◌/◌, ◌%◌, ◌<◌, ◌≤◌, ◌^◌, cond, List, [], ◌∷◌, refl, sym, ap, subst, ◌∙◌, inl, inr, arith, eq-eqb, ne_eqb}
use Rattle.std.specs.Prelude.{Option, Some, None}
use Rattle.std.specs.Option.{option_and_then, unwrap_or}
use Rattle.std.specs.FinMap.{get, insert}
use Rattle.fs_base.specs.Config.{Settings}
use Rattle.fs_base.specs.declared.kind.Kind.{Kind}
use Rattle.fs_base.specs.declared.kind.Kind.TheVariants as kinds
use Rattle.inode_record.specs.declared.inode.InodeRow.{InodeRow}
use Rattle.row_records.specs.declared.rows.DentRow.{DentRow}
use Rattle.row_records.specs.declared.rows.GcRow.{GcRow}
use Rattle.row_records.specs.declared.rows.GcRow.TheVariants.{Waiting, Purged}
use Rattle.tree_model.specs.Tree.{next_at}
use Rattle.tree_model.specs.Creating.{with_child}
use Rattle.tree_model.proofs.MapLaws.{ids, names, some_or_none, not_some, some_injective, get-set_same, get-set_other, get-set_cases, count-set, count-none, one_if, map_values-set}
use Rattle.row_tree.specs.TypedRows.{TypedRows, kind_of, parent_of, parent_at, entries_to, is_to}
use Rattle.row_tree.specs.TreeOf.{tree_of, node_of}
use Rattle.row_tree.specs.WellFormed.{IsPath, IsIdGiven, HasKind, IsEntry, IsLinked, FitsConfig, IsDoomed, IsWellFormed}
use Rattle.row_tree.specs.Steps.{next_id, MayAdd, with_node}

-- what has a parent has a row that names it
pub parent_row : (S : TypedRows) (id parent : ℕ) → parent_at S id ≡ Some parent → (row : InodeRow) × (get S.inodes id ≡ Some row) × (parent_of row.part ≡ Some parent)
parent_row S id parent is = elim (some_or_none (get S.inodes id)) [
  | inl none ↦ absurd (not_some parent (ap (option_and_then (λ (row : InodeRow). parent_of row.part)) none) is)
  | inr at ↦ (at.0, at.1, ap (option_and_then (λ (row : InodeRow). parent_of row.part)) (sym at.1) ∙ is)
]

pub parent_at_row : (S : TypedRows) (id : ℕ) (row : InodeRow) → get S.inodes id ≡ Some row → parent_at S id ≡ parent_of row.part
parent_at_row S id row is = ap (option_and_then (λ (row : InodeRow). parent_of row.part)) is

-- a server's next number is at least 1
pub next_from_one : (C : Settings) (S : TypedRows) → IsWellFormed C S → (server : ℕ) → 1 ≤ next_at S.next server
next_from_one C S good server = elim (some_or_none (get S.next server)) [
  | inl none ↦ subst (λ n. 1 ≤ n) (sym (ap (λ o. unwrap_or o 1) none)) (omega arith)
  | inr at ↦ subst (λ n. 1 ≤ n) (sym (ap (λ o. unwrap_or o 1) at.1)) ((good.numbers server at.0 at.1).0)
]

pub tree_with_node : (S : TypedRows) (server dir : ℕ) (name : List ℕ) (row : InodeRow) → tree_of (with_node S server dir name row) ≡ with_child (tree_of S) server dir name (node_of row)
tree_with_node S server dir name row = λ i.
    record (tree_of S) {
      nodes = map_values-set ids node_of S.inodes (next_id S server) (Some row) i;
      entries = map_values-set names (λ (e : DentRow). e.inode) S.dents (dir, name) (Some (record { inode = next_id S server; kind = kind_of row.part })) i;
      next = insert S.next server (next_at S.next server + 1);
    }

module _ (C : Settings) (S : TypedRows) (good : IsWellFormed C S) (server dir : ℕ) (name : List ℕ) (row : InodeRow) (may : MayAdd C S server dir name row) where
  abbrev after : TypedRows
  after = with_node S server dir name row

  abbrev entry_row : DentRow
  entry_row = record { inode = next_id S server; kind = kind_of row.part }

  -- no row has the id that comes next
  not_given : IsIdGiven S (next_id S server) → ⊥
  not_given given =
      let small : server < 16 = may.in_range in
      let place : (16 * next_at S.next server + server) / 16 ≡ next_at S.next server = omega arith in
      let rest : (16 * next_at S.next server + server) % 16 ≡ server = omega arith in
      let same : next_at S.next ((16 * next_at S.next server + server) % 16) ≡ next_at S.next server = ap (next_at S.next) rest in
      let below : (16 * next_at S.next server + server) / 16 < next_at S.next ((16 * next_at S.next server + server) % 16) = given.1 in
      omega arith

  not_zero : next_id S server ≢ 0
  not_zero e = let one = next_from_one C S good server in omega arith

  pub next_is_free : get S.inodes (next_id S server) ≡ None
  next_is_free = elim (some_or_none (get S.inodes (next_id S server))) [
    | inl none ↦ none
    | inr at ↦ absurd (not_given ((good.linked _ at.0 at.1 not_zero).given))
  ]

  apart : (id : ℕ) (r : InodeRow) → get S.inodes id ≡ Some r → id ≢ next_id S server
  apart id r is e = not_some r next_is_free (ap (get S.inodes) (sym e) ∙ is)

  stays : (id : ℕ) (r : InodeRow) → get S.inodes id ≡ Some r → get (after).inodes id ≡ Some r
  stays id r is = get-set_other ids S.inodes (next_id S server) (Some row) id (apart id r is) ∙ is

  parent_stays : (id parent : ℕ) → parent_at S id ≡ Some parent → parent_at after id ≡ Some parent
  parent_stays id parent is = let at = parent_row S id parent is in parent_at_row after id at.0 (stays id at.0 at.1) ∙ at.2

  kind_stays : (id : ℕ) (kind : Kind) → HasKind S id kind → HasKind after id kind
  kind_stays id kind has = (has.0, stays id has.0 has.1, has.2)

  path_stays : (id : ℕ) (path : List ℕ) → IsPath S id path → IsPath after id path
  path_stays id [] h = h
  path_stays id (parent ∷ path) h = (parent_stays id parent h.0, path_stays parent path h.1)

  given_stays : (id : ℕ) → IsIdGiven S id → IsIdGiven after id
  given_stays id given = (given.0, later (get-set_cases ids S.next server (Some (next_at S.next server + 1)) (id % 16)))
    where
      later : ((r : Option ℕ) → get (insert S.next server (next_at S.next server + 1)) (id % 16) ≡ r → ((id % 16 ≡ server) × (Some (next_at S.next server + 1) ≡ r)) ⊎ ((id % 16 ≢ server) × (get S.next (id % 16) ≡ r))) → id / 16 < next_at (insert S.next server (next_at S.next server + 1)) (id % 16)
      later cases = elim (cases _ refl) [
        | inl h ↦ let now = ap (λ o. unwrap_or o 1) h.1 in let before : next_at S.next (id % 16) ≡ next_at S.next server = ap (next_at S.next) h.0 in let was = given.1 in omega arith
        | inr h ↦ let same = ap (λ o. unwrap_or o 1) h.1 in let was = given.1 in omega arith
      ]

  given_new : IsIdGiven after (next_id S server)
  given_new =
      let small = may.in_range in
      let one = next_from_one C S good server in
      let place : (16 * next_at S.next server + server) / 16 ≡ next_at S.next server = omega arith in
      let rest : (16 * next_at S.next server + server) % 16 ≡ server = omega arith in
      let now : next_at (insert S.next server (next_at S.next server + 1)) server ≡ next_at S.next server + 1 = ap (λ o. unwrap_or o 1) (get-set_same ids S.next server (Some (next_at S.next server + 1))) in
      let same : next_at (insert S.next server (next_at S.next server + 1)) ((16 * next_at S.next server + server) % 16) ≡ next_at (insert S.next server (next_at S.next server + 1)) server = ap (next_at (insert S.next server (next_at S.next server + 1))) rest in
      (omega arith, omega arith)

  -- entries of other inodes stay, and the new one is the only one of the new inode
  none_to_new : entries_to S (next_id S server) ≡ 0
  none_to_new = count-none names (is_to (next_id S server)) S.dents (λ k e is. ne_eqb e.inode (next_id S server) (apart e.inode ((good.entry k.0 k.1 e is).target.0) ((good.entry k.0 k.1 e is).target.1)))

  count_after : (id : ℕ) → entries_to after id ≡ entries_to S id + one_if (is_to id) (Some entry_row)
  count_after id =
      let law : one_if (is_to id) (get S.dents (dir, name)) + entries_to after id ≡ entries_to S id + one_if (is_to id) (Some entry_row) = count-set names (is_to id) S.dents (dir, name) (Some entry_row) in
      let none : one_if (is_to id) (get S.dents (dir, name)) ≡ 0 = ap (one_if (is_to id)) may.free in
      omega arith

  count_stays : (id : ℕ) → id ≢ next_id S server → entries_to after id ≡ entries_to S id
  count_stays id ne =
      let law = count_after id in
      let zero : one_if (is_to id) (Some entry_row) ≡ 0 = ap (λ b. cond b 1 0) (ne_eqb (next_id S server) id (λ e. ne (sym e))) in
      omega arith

  count_new : entries_to after (next_id S server) ≡ 1
  count_new =
      let law = count_after (next_id S server) in
      let none = none_to_new in
      let one : one_if (is_to (next_id S server)) (Some entry_row) ≡ 1 = ap (λ b. cond b 1 0) (eq-eqb (next_id S server) (next_id S server) refl) in
      omega arith

  new_row : get (after).inodes (next_id S server) ≡ Some row
  new_row = get-set_same ids S.inodes (next_id S server) (Some row)

  row_cases : (id : ℕ) (r : InodeRow) → get (after).inodes id ≡ Some r → ((id ≡ next_id S server) × (row ≡ r)) ⊎ ((id ≢ next_id S server) × (get S.inodes id ≡ Some r))
  row_cases id r is = elim (get-set_cases ids S.inodes (next_id S server) (Some row) id (Some r) is) [
    | inl h ↦ inl (h.0, some_injective row r h.1)
    | inr h ↦ inr h
  ]

  linked_after : (id : ℕ) (r : InodeRow) → get (after).inodes id ≡ Some r → id ≢ 0 → IsLinked after id r
  linked_after id r is not_root = elim (row_cases id r is) [
    | inl h ↦ subst (λ (x : ℕ). IsLinked after x r) (sym h.0) (subst (λ (x : InodeRow). IsLinked after (next_id S server) x) h.1 (record {
      given = given_new;
      count = may.one ∙ sym count_new;
      dir = λ _. may.one;
      link = λ _. let one = may.one in omega arith;
      file = λ _ zero. absurd (let one = may.one in omega arith);
    }))
    | inr h ↦
        let old = good.linked id r h.1 not_root in
        record {
          given = given_stays id old.given;
          count = old.count ∙ sym (count_stays id h.0);
          dir = old.dir;
          link = old.link;
          file = old.file;
        }
  ]

  inside_after : kind_of row.part ≡ kinds.Dir → parent_at after (next_id S server) ≡ Some dir
  inside_after is_dir = parent_at_row after (next_id S server) row new_row ∙ may.inside is_dir

  leads_after : (id : ℕ) → HasKind after id kinds.Dir → (path : List ℕ) × IsPath after id path
  leads_after id has = elim (row_cases id has.0 has.1) [
    | inl h ↦
        let up = good.leads dir may.parent in
        (dir ∷ up.0, (subst (λ (x : ℕ). parent_at after x ≡ Some dir) (sym h.0) (inside_after (ap (λ (r : InodeRow). kind_of r.part) h.1 ∙ has.2)), path_stays dir up.0 up.1))
    | inr h ↦ let up = good.leads id (has.0, h.1, has.2) in (up.0, path_stays id up.0 up.1)
  ]

  entry_after : (d : ℕ) (n : List ℕ) (e : DentRow) → get (after).dents (d, n) ≡ Some e → IsEntry after d e
  entry_after d n e is = elim (get-set_cases names S.dents (dir, name) (Some entry_row) (d, n) (Some e) is) [
    | inl h ↦ subst (λ (x : ℕ). IsEntry after x e) (sym (ap (λ (x : ℕ × List ℕ). x.0) h.0)) (subst (λ (x : DentRow). IsEntry after dir x) (some_injective _ e h.1) (record {
      parent = kind_stays dir kinds.Dir may.parent;
      target = (row, new_row, refl);
      not_root = not_zero;
      inside = inside_after;
    }))
    | inr h ↦
        let old = good.entry d n e h.1 in
        record {
          parent = kind_stays d kinds.Dir old.parent;
          target = kind_stays e.inode e.kind old.target;
          not_root = old.not_root;
          inside = λ is_dir. parent_stays e.inode d (old.inside is_dir);
        }
  ]

  doomed_after : (id : ℕ) (g : GcRow) → get S.doomed id ≡ Some g → IsDoomed C after id g × IsIdGiven after id
  doomed_after id Waiting is = let old = good.doomed id Waiting is in ((old.0.0, stays id old.0.0 old.0.1, old.0.2, old.0.3), given_stays id old.1)
  doomed_after id (Purged layout hint) is =
      let old = good.doomed id (Purged layout hint) is in (
        (get-set_other ids S.inodes (next_id S server) (Some row) id (λ e. not_given (subst (IsIdGiven S) e old.1)) ∙ old.0.0, old.0.1, old.0.2, old.0.3),
        given_stays id old.1,
      )

  numbers_after : (s n : ℕ) → get (after).next s ≡ Some n → (1 ≤ n) × (n < 2 ^ 32) × (s < 16)
  numbers_after s n is = elim (get-set_cases ids S.next server (Some (next_at S.next server + 1)) s (Some n) is) [
    | inl h ↦ let room = may.room in let small = may.in_range in let now = some_injective _ n h.1 in let same = h.0 in (omega arith, omega arith, omega arith)
    | inr h ↦ good.numbers s n h.1
  ]

  fits_after : (id : ℕ) (r : InodeRow) → get (after).inodes id ≡ Some r → FitsConfig C id r.part
  fits_after id r is = elim (row_cases id r is) [
    | inl h ↦ subst (λ (x : ℕ). FitsConfig C x r.part) (sym h.0) (subst (λ (x : InodeRow). FitsConfig C (next_id S server) x.part) h.1 may.fits)
    | inr h ↦ good.fits id r h.1
  ]

  pub adds_node : IsWellFormed C (with_node S server dir name row)
  adds_node =
      record {
        root = let was = good.root in (was.0, stays 0 was.0 was.1, was.2);
        linked = linked_after;
        fits = fits_after;
        leads = leads_after;
        entry = entry_after;
        doomed = doomed_after;
        session = λ inode client number stamp is. kind_stays inode kinds.File (good.session inode client number stamp is);
        numbers = numbers_after;
      }
