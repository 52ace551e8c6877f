-- Adding an entry of a node, or taking one away where others stay or the file waits, keeps rows well-formed.
use Rattle.std.proofs.Common.{◌≡◌, ◌≢◌, ◌⊎◌, ℕ, ◌+◌, cond, List, [], ◌∷◌, refl, sym, ap, subst, ◌∙◌, inl, inr, arith, eq-eqb, ne_eqb}
use Rattle.std.specs.Prelude.{Option, Some, None}
use Rattle.std.specs.Option.{option_map}
use Rattle.std.specs.Ordering.{nat_cmp}
use Rattle.std.specs.FinMap.{FinMap, get, insert}
use Rattle.fs_base.specs.Config.{Settings}
use Rattle.fs_base.specs.declared.kind.Kind.{Kind}
use Rattle.fs_base.specs.declared.kind.Kind.TheVariants as kinds
use Rattle.inode_record.specs.declared.inode.InodeRow.{InodeRow}
use Rattle.row_records.specs.declared.rows.DentRow.{DentRow}
use Rattle.row_records.specs.declared.rows.GcRow.{GcRow}
use Rattle.row_records.specs.declared.rows.GcRow.TheVariants.{Waiting, Purged}
use Rattle.tree_model.specs.Maps.{set, map_values}
use Rattle.tree_model.proofs.MapLaws.{ids, names, some_injective, not_some, same_some, get-set_same, get-set_other, get-set_cases, count-set, decide, one_if, map_values-set}
use Rattle.row_tree.specs.TypedRows.{TypedRows, kind_of, parent_of, parent_at, entries_to, is_to}
use Rattle.row_tree.specs.TreeOf.{tree_of, node_of, doom_of}
use Rattle.row_tree.specs.WellFormed.{IsPath, IsIdGiven, HasKind, IsEntry, IsLinked, IsRootRow, FitsConfig, IsDoomed, IsWellFormed}
use Rattle.row_tree.specs.Steps.{MayRelink, with_entry, count_if}
use Rattle.row_tree.proofs.Adding.{parent_row, parent_at_row}

pub tree_with_entry : (S : TypedRows) (dir : ℕ) (name : List ℕ) (entry : Option DentRow) (id : ℕ) (row : InodeRow) (doomed : FinMap nat_cmp GcRow)
    → tree_of (with_entry S dir name entry id row doomed)
    ≡ record (tree_of S) { nodes = insert (tree_of S).nodes id (node_of row); entries = set (tree_of S).entries (dir, name) (option_map (λ (e : DentRow). e.inode) entry); doomed = map_values doom_of doomed }
tree_with_entry S dir name entry id row doomed = λ i.
    record (tree_of S) {
      nodes = map_values-set ids node_of S.inodes id (Some row) i;
      entries = map_values-set names (λ (e : DentRow). e.inode) S.dents (dir, name) entry i;
      doomed = map_values doom_of doomed;
    }

-- an entry that leads to the inode is one of its entries, and of no other's
counted : (id : ℕ) (o : Option DentRow) → ((e : DentRow) → o ≡ Some e → e.inode ≡ id) → one_if (is_to id) o ≡ count_if o
counted id None to = refl
counted id (Some e) to = ap (λ b. cond b 1 0) (eq-eqb e.inode id (to e refl))

uncounted : (id x : ℕ) (o : Option DentRow) → x ≢ id → ((e : DentRow) → o ≡ Some e → e.inode ≡ id) → one_if (is_to x) o ≡ 0
uncounted id x None other to = refl
uncounted id x (Some e) other to = ap (λ b. cond b 1 0) (ne_eqb e.inode x (λ q. other (sym q ∙ to e refl)))

module _ (C : Settings) (S : TypedRows) (good : IsWellFormed C S) (dir : ℕ) (name : List ℕ) (entry : Option DentRow) (id : ℕ) (old row : InodeRow) (doomed : FinMap nat_cmp GcRow) (may : MayRelink S dir name entry id old row doomed) where
  abbrev after : TypedRows
  after = with_entry S dir name entry id row doomed

  -- the root is a directory
  not_root : id ≢ 0
  not_root zero =
      let root = good.root in
      let same : old ≡ root.0 = same_some old root.0 may.there (ap (get S.inodes) zero ∙ root.1) in
      may.no_dir (ap (λ (r : InodeRow). kind_of r.part) same ∙ ap kind_of root.2.parent.2)

  new_row : get (after).inodes id ≡ Some row
  new_row = get-set_same ids S.inodes id (Some row)

  row_cases : (x : ℕ) (r : InodeRow) → get (after).inodes x ≡ Some r → ((x ≡ id) × (row ≡ r)) ⊎ ((x ≢ id) × (get S.inodes x ≡ Some r))
  row_cases x r is = elim (get-set_cases ids S.inodes id (Some row) x (Some r) is) [
    | inl h ↦ inl (h.0, some_injective row r h.1)
    | inr h ↦ inr h
  ]

  other_stays : (x : ℕ) (r : InodeRow) → x ≢ id → get S.inodes x ≡ Some r → get (after).inodes x ≡ Some r
  other_stays x r other is = get-set_other ids S.inodes id (Some row) x other ∙ is

  -- each inode has its part as before
  same_after : (x : ℕ) (r : InodeRow) → get S.inodes x ≡ Some r → (new : InodeRow) × (get (after).inodes x ≡ Some new) × (new.part ≡ r.part)
  same_after x r is = elim (decide ids x id) [
    | inl q ↦
        let same : old ≡ r = same_some old r may.there (ap (get S.inodes) (sym q.0) ∙ is) in
        (row, ap (get (after).inodes) q.0 ∙ new_row, may.part ∙ ap (λ (y : InodeRow). y.part) same)
    | inr q ↦ (r, other_stays x r q.0 is, refl)
  ]

  -- and had it before
  past_of : (x : ℕ) (r : InodeRow) → get (after).inodes x ≡ Some r → (past : InodeRow) × (get S.inodes x ≡ Some past) × (r.part ≡ past.part)
  past_of x r is = elim (row_cases x r is) [
    | inl h ↦ (old, ap (get S.inodes) h.0 ∙ may.there, ap (λ (y : InodeRow). y.part) (sym h.1) ∙ may.part)
    | inr h ↦ (r, h.1, refl)
  ]

  kind_stays : (x : ℕ) (kind : Kind) → HasKind S x kind → HasKind after x kind
  kind_stays x kind has = let new = same_after x has.0 has.1 in (new.0, new.1, ap kind_of new.2 ∙ has.2)

  parent_stays : (x parent : ℕ) → parent_at S x ≡ Some parent → parent_at after x ≡ Some parent
  parent_stays x parent is =
      let at = parent_row S x parent is in
      let new = same_after x at.0 at.1 in
      parent_at_row after x new.0 new.1 ∙ ap parent_of new.2 ∙ at.2

  path_stays : (x : ℕ) (path : List ℕ) → IsPath S x path → IsPath after x path
  path_stays x [] h = h
  path_stays x (parent ∷ path) h = (parent_stays x parent h.0, path_stays parent path h.1)

  root_after : (r : InodeRow) × (get (after).inodes 0 ≡ Some r) × IsRootRow r
  root_after = let root = good.root in (root.0, other_stays 0 root.0 (λ zero. not_root (sym zero)) root.1, root.2)

  to_entry : (e : DentRow) → entry ≡ Some e → e.inode ≡ id
  to_entry e is = (may.is e is).0

  count_law : (x : ℕ) → one_if (is_to x) (get S.dents (dir, name)) + entries_to after x ≡ entries_to S x + one_if (is_to x) entry
  count_law x = count-set names (is_to x) S.dents (dir, name) entry

  old_linked : IsLinked S id old
  old_linked = good.linked id old may.there not_root

  count_after : row.links ≡ entries_to after id
  count_after =
      let law = count_law id in
      let before = counted id (get S.dents (dir, name)) may.was in
      let now = counted id entry to_entry in
      let was = (old_linked).count in
      let one = may.count in
      omega arith

  count_stays : (x : ℕ) → x ≢ id → entries_to after x ≡ entries_to S x
  count_stays x other =
      let law = count_law x in
      let before = uncounted id x (get S.dents (dir, name)) other may.was in
      let now = uncounted id x entry other to_entry in
      omega arith

  -- what else is being deleted stays so
  doomed_stays : (x : ℕ) → x ≢ id → get doomed x ≡ get S.doomed x
  doomed_stays x other = elim may.fate [
    | inl h ↦ ap (λ (m : FinMap nat_cmp GcRow). get m x) h.1
    | inr h ↦ ap (λ (m : FinMap nat_cmp GcRow). get m x) h.2 ∙ get-set_other ids S.doomed id (Some Waiting) x other
  ]

  new_linked : IsLinked after id row
  new_linked =
      record {
        given = (old_linked).given;
        count = count_after;
        dir = λ is_dir. absurd (may.no_dir (sym (ap kind_of may.part) ∙ is_dir));
        link = λ is_link. elim may.fate [
          | inl h ↦ h.0
          | inr h ↦ absurd (let clash : kinds.File ≡ kinds.Link = sym h.1 ∙ sym (ap kind_of may.part) ∙ is_link in cc)
        ];
        file = λ is_file none. elim may.fate [
          | inl h ↦ absurd (let one = h.0 in omega arith)
          | inr h ↦ ap (λ (m : FinMap nat_cmp GcRow). get m id) h.2 ∙ get-set_same ids S.doomed id (Some Waiting)
        ];
      }

  linked_after : (x : ℕ) (r : InodeRow) → get (after).inodes x ≡ Some r → x ≢ 0 → IsLinked after x r
  linked_after x r is apart = elim (row_cases x r is) [
    | inl h ↦ subst (λ (y : ℕ). IsLinked after y r) (sym h.0) (subst (IsLinked after id) h.1 new_linked)
    | inr h ↦
        let linked = good.linked x r h.1 apart in
        record {
          given = linked.given;
          count = linked.count ∙ sym (count_stays x h.0);
          dir = linked.dir;
          link = linked.link;
          file = λ file none. doomed_stays x h.0 ∙ linked.file file none;
        }
  ]

  fits_after : (x : ℕ) (r : InodeRow) → get (after).inodes x ≡ Some r → FitsConfig C x r.part
  fits_after x r is = let past = past_of x r is in subst (FitsConfig C x) (sym past.2) (good.fits x past.0 past.1)

  leads_after : (x : ℕ) → HasKind after x kinds.Dir → (path : List ℕ) × IsPath after x path
  leads_after x has =
      let past = past_of x has.0 has.1 in
      let up = good.leads x (past.0, past.1, sym (ap kind_of past.2) ∙ has.2) in
      (up.0, path_stays x up.0 up.1)

  -- the new entry, where there is one
  new_entry : (e : DentRow) → entry ≡ Some e → IsEntry after dir e
  new_entry e is =
      let may_be = may.is e is in
      record {
        parent = kind_stays dir kinds.Dir may_be.2;
        target = subst (λ (x : ℕ). HasKind after x e.kind) (sym may_be.0) (row, new_row, ap kind_of may.part ∙ sym may_be.1);
        not_root = λ zero. not_root (sym may_be.0 ∙ zero);
        inside = λ is_dir. absurd (may.no_dir (sym may_be.1 ∙ is_dir));
      }

  entry_after : (d : ℕ) (n : List ℕ) (e : DentRow) → get (after).dents (d, n) ≡ Some e → IsEntry after d e
  entry_after d n e is = elim (get-set_cases names S.dents (dir, name) entry (d, n) (Some e) is) [
    | inl h ↦ subst (λ (x : ℕ). IsEntry after x e) (sym (ap (λ (x : ℕ × List ℕ). x.0) h.0)) (new_entry e h.1)
    | inr h ↦
        let was = good.entry d n e h.1 in
        record {
          parent = kind_stays d kinds.Dir was.parent;
          target = kind_stays e.inode e.kind was.target;
          not_root = was.not_root;
          inside = λ is_dir. parent_stays e.inode d (was.inside is_dir);
        }
  ]

  -- what was being deleted is another inode, and is so still
  old_doomed : (x : ℕ) (g : GcRow) → get S.doomed x ≡ Some g → IsDoomed C after x g × IsIdGiven after x
  old_doomed x Waiting is =
      let was = good.doomed x Waiting is in
      let other : x ≢ id = λ same. let alike : old ≡ was.0.0 = same_some old was.0.0 may.there (ap (get S.inodes) (sym same) ∙ was.0.1) in let links = ap (λ (r : InodeRow). r.links) alike in let none = was.0.3 in let one = may.linked in omega arith in
      ((was.0.0, other_stays x was.0.0 other was.0.1, was.0.2, was.0.3), was.1)
  old_doomed x (Purged layout hint) is =
      let was = good.doomed x (Purged layout hint) is in
      let other : x ≢ id = λ same. not_some old (ap (get S.inodes) (sym same) ∙ was.0.0) may.there in
      ((get-set_other ids S.inodes id (Some row) x other ∙ was.0.0, was.0.1, was.0.2, was.0.3), was.1)

  doomed_after : (x : ℕ) (g : GcRow) → get doomed x ≡ Some g → IsDoomed C after x g × IsIdGiven after x
  doomed_after x g is = elim may.fate [
    | inl h ↦ old_doomed x g (sym (ap (λ (m : FinMap nat_cmp GcRow). get m x) h.1) ∙ is)
    | inr h ↦ elim (get-set_cases ids S.doomed id (Some Waiting) x (Some g) (sym (ap (λ (m : FinMap nat_cmp GcRow). get m x) h.2) ∙ is)) [
      | inl q ↦
          subst (λ (y : ℕ). IsDoomed C after y g × IsIdGiven after y) (sym q.0)
          (subst (λ (y : GcRow). IsDoomed C after id y × IsIdGiven after id) (some_injective Waiting g q.1) ((row, new_row, ap kind_of may.part ∙ h.1, h.0), (old_linked).given))
      | inr q ↦ old_doomed x g q.1
    ]
  ]

  pub relinks : IsWellFormed C (with_entry S dir name entry id row doomed)
  relinks =
      record {
        root = root_after;
        linked = linked_after;
        fits = fits_after;
        leads = leads_after;
        entry = entry_after;
        doomed = doomed_after;
        session = λ inode client number stamp is. kind_stays inode kinds.File (good.session inode client number stamp is);
        numbers = good.numbers;
      }
