-- An entry that moves keeps rows well-formed.
use Rattle.std.proofs.Common.{◌≡◌, ◌≢◌, ◌⊎◌, ℕ, ◌+◌, true, false, List, [], ◌∷◌, refl, sym, ap, subst, ◌∙◌, inl, inr, arith, eq-eqb}
use Rattle.std.specs.Prelude.{Some, None}
use Rattle.std.specs.Ordering.{eq_by_cmp}
use Rattle.std.specs.FinMap.{get}
use Rattle.fs_base.specs.Config.{Settings}
use Rattle.inode_record.specs.declared.inode.InodeRow.{InodeRow}
use Rattle.inode_record.specs.declared.inode.InodePart.{InodePart}
use Rattle.inode_record.specs.declared.inode.InodePart.TheVariants as parts
use Rattle.row_records.specs.declared.rows.DentRow.{DentRow}
use Rattle.row_records.specs.declared.rows.GcRow.{GcRow}
use Rattle.row_records.specs.declared.rows.GcRow.TheVariants.{Waiting, Purged}
use Rattle.fs_base.specs.declared.kind.Kind.{Kind}
use Rattle.fs_base.specs.declared.kind.Kind.TheVariants as kinds
use Rattle.tree_model.specs.Maps.{set, count_where, dent_cmp}
use Rattle.row_tree.specs.TypedRows.{TypedRows, kind_of, parent_of, parent_at, entries_to, is_to}
use Rattle.row_tree.specs.TreeOf.{tree_of, node_of, node_part}
use Rattle.row_tree.specs.WellFormed.{IsPath, IsIdGiven, HasKind, IsEntry, IsLinked, FitsConfig, IsDoomed, IsWellFormed}
use Rattle.row_tree.specs.Steps.{reparented, under, IsPathAround, MayMove, with_move}
use Rattle.tree_model.proofs.MapLaws.{not_some, same_some, some_injective, get-set_same, get-set_other, get-set_cases, set_present, count-set, only_counted, one_if, map_values-set, decide}
use Rattle.tree_model.proofs.MapLaws.{ids, names}
use Rattle.row_tree.proofs.Adding.{parent_row, parent_at_row}
use Rattle.row_tree.proofs.Telling.{node_is}
use Rattle.row_tree.proofs.Removing.{same_kind}

kind_under : (p : ℕ) (part : InodePart) → kind_of (reparented p part) ≡ kind_of part
kind_under p (parts.Dir parent chunk stripe) = refl
kind_under p (parts.File length truncs layout hint) = refl
kind_under p (parts.Link target) = refl

part_under : (p : ℕ) (part : InodePart) → node_part (reparented p part) ≡ node_part part
part_under p (parts.Dir parent chunk stripe) = refl
part_under p (parts.File length truncs layout hint) = refl
part_under p (parts.Link target) = refl

fits_under : (C : Settings) (i p : ℕ) (part : InodePart) → FitsConfig C i part → FitsConfig C i (reparented p part)
fits_under C i p (parts.Dir parent chunk stripe) h = h
fits_under C i p (parts.File length truncs layout hint) h = h
fits_under C i p (parts.Link target) h = h

parent_under : (p : ℕ) (part : InodePart) → kind_of part ≡ kinds.Dir → parent_of (reparented p part) ≡ Some p
parent_under p (parts.Dir parent chunk stripe) k = refl
parent_under p (parts.File length truncs layout hint) k = cc
parent_under p (parts.Link target) k = cc

pub has_parent : (part : InodePart) (x : ℕ) → parent_of part ≡ Some x → kind_of part ≡ kinds.Dir
has_parent (parts.Dir parent chunk stripe) x k = refl
has_parent (parts.File length truncs layout hint) x k = cc
has_parent (parts.Link target) x k = cc

module _ (C : Settings) (S : TypedRows) (good : IsWellFormed C S) (d : ℕ) (n : List ℕ) (e : DentRow) (row : InodeRow) (d2 : ℕ) (n2 : List ℕ) (may : MayMove S d n e row d2 n2) where
  abbrev after : TypedRows
  after = with_move S d n e row d2 n2

  old_entry : IsEntry S d e
  old_entry = good.entry d n e may.entry

  kind_row : kind_of row.part ≡ e.kind
  kind_row = same_kind S e.inode (kind_of row.part) e.kind (row, may.there, refl) old_entry.target

  moved_row : get (after).inodes e.inode ≡ Some (under d2 row)
  moved_row = get-set_same ids S.inodes e.inode (Some (under d2 row))

  other_row : (i : ℕ) → i ≢ e.inode → get (after).inodes i ≡ get S.inodes i
  other_row i ne = get-set_other ids S.inodes e.inode (Some (under d2 row)) i ne

  -- each row of the old rows has one of the same kind and count
  row_after : (i : ℕ) (r : InodeRow) → get S.inodes i ≡ Some r → (s : InodeRow) × (get (after).inodes i ≡ Some s) × (kind_of s.part ≡ kind_of r.part) × (s.links ≡ r.links)
  row_after i r is = elim (decide ids i e.inode) [
    | inl q ↦
        let same : row ≡ r = same_some row r may.there (ap (get S.inodes) (sym q.0) ∙ is) in
        (under d2 row, ap (get (after).inodes) q.0 ∙ moved_row, kind_under d2 row.part ∙ ap (λ (x : InodeRow). kind_of x.part) same, ap (λ (x : InodeRow). x.links) same)
    | inr q ↦ (r, other_row i q.0 ∙ is, refl, refl)
  ]

  -- and each of the new rows comes from one
  row_before : (i : ℕ) (s : InodeRow) → get (after).inodes i ≡ Some s → (r : InodeRow) × (get S.inodes i ≡ Some r) × (kind_of s.part ≡ kind_of r.part) × (s.links ≡ r.links)
  row_before i s is = elim (get-set_cases ids S.inodes e.inode (Some (under d2 row)) i (Some s) is) [
    | inl h ↦
        let same : under d2 row ≡ s = some_injective _ s h.1 in
        (row, ap (get S.inodes) h.0 ∙ may.there, sym (ap (λ (x : InodeRow). kind_of x.part) same) ∙ kind_under d2 row.part, sym (ap (λ (x : InodeRow). x.links) same))
    | inr h ↦ (s, h.1, refl, refl)
  ]

  kind_stays : (i : ℕ) (k : Kind) → HasKind S i k → HasKind after i k
  kind_stays i k has = let now = row_after i has.0 has.1 in (now.0, now.1, now.2 ∙ has.2)

  parent_stays : (i p : ℕ) → i ≢ e.inode → parent_at S i ≡ Some p → parent_at after i ≡ Some p
  parent_stays i p ne is = let at = parent_row S i p is in parent_at_row after i at.0 (other_row i ne ∙ at.1) ∙ at.2

  parent_moved : e.kind ≡ kinds.Dir → parent_at after e.inode ≡ Some d2
  parent_moved dir = parent_at_row after e.inode (under d2 row) moved_row ∙ parent_under d2 row.part (kind_row ∙ dir)

  around_stays : (i : ℕ) (path : List ℕ) → IsPathAround S e.inode i path → IsPath after i path
  around_stays i [] h = h.1
  around_stays i (p ∷ ps) h = (parent_stays i p h.0 h.1, around_stays p ps h.2)

  path_after : (i : ℕ) (path : List ℕ) → IsPath S i path → (e.kind ≡ kinds.Dir) ⊎ (e.kind ≢ kinds.Dir) → (new : List ℕ) × IsPath after i new
  path_after i [] h dir = ([], h)
  path_after i (p ∷ ps) h dir =
      let rest = path_after p ps h.1 dir in
      elim (decide ids i e.inode) [
        | inr q ↦ (p ∷ rest.0, (parent_stays i p q.0 h.0, rest.1))
        | inl q ↦ elim dir [
          | inl is_dir ↦ let up = may.around is_dir in (d2 ∷ up.0, (ap (parent_at after) q.0 ∙ parent_moved is_dir, around_stays d2 up.0 up.1))
          | inr nope ↦ absurd (nope (sym kind_row ∙ dir_row q.0))
        ]
      ]
    where
      dir_row : i ≡ e.inode → kind_of row.part ≡ kinds.Dir
      dir_row q = let at = parent_row S i p h.0 in
          let same : row ≡ at.0 = same_some row at.0 may.there (ap (get S.inodes) (sym q) ∙ at.1) in
          ap (λ (x : InodeRow). kind_of x.part) same ∙ has_parent at.0.part p at.2

  a_dir_or_not : (k : Kind) → (k ≡ kinds.Dir) ⊎ (k ≢ kinds.Dir)
  a_dir_or_not kinds.Dir = inl refl
  a_dir_or_not kinds.File = inr (λ q. cc)
  a_dir_or_not kinds.Link = inr (λ q. cc)

  entry_cases : (f : ℕ) (m : List ℕ) (r : DentRow) → get (after).dents (f, m) ≡ Some r → ((f ≡ d2) × (e ≡ r)) ⊎ (◌≢◌ {A = ℕ × List ℕ} (f, m) (d, n) × (get S.dents (f, m) ≡ Some r))
  entry_cases f m r is = elim (get-set_cases names (set S.dents (d, n) None) (d2, n2) (Some e) (f, m) (Some r) is) [
    | inl h ↦ inl (ap (λ (x : ℕ × List ℕ). x.0) h.0, some_injective e r h.1)
    | inr h ↦ elim (get-set_cases names S.dents (d, n) None (f, m) (Some r) h.1) [
      | inl g ↦ absurd (not_some r refl g.1)
      | inr g ↦ inr (g.0, g.1)
    ]
  ]

  count_stays : (i : ℕ) → entries_to after i ≡ entries_to S i
  count_stays i =
      let first : one_if (is_to i) (get S.dents (d, n)) + count_where (is_to i) (set S.dents (d, n) None) ≡ entries_to S i + one_if (is_to i) None = count-set names (is_to i) S.dents (d, n) None in
      let second : one_if (is_to i) (get (set S.dents (d, n) None) (d2, n2)) + entries_to after i ≡ count_where (is_to i) (set S.dents (d, n) None) + one_if (is_to i) (Some e) = count-set names (is_to i) (set S.dents (d, n) None) (d2, n2) (Some e) in
      let was : one_if (is_to i) (get S.dents (d, n)) ≡ one_if (is_to i) (Some e) = ap (one_if (is_to i)) may.entry in
      let free : one_if (is_to i) (get (set S.dents (d, n) None) (d2, n2)) ≡ 0 = ap (one_if (is_to i)) (still_free (decide names (d2, n2) (d, n))) in
      omega arith
    where
      still_free : (◌≡◌ {A = ℕ × List ℕ} (d2, n2) (d, n) × (eq_by_cmp dent_cmp (d2, n2) (d, n) ≡ true)) ⊎ (◌≢◌ {A = ℕ × List ℕ} (d2, n2) (d, n) × (eq_by_cmp dent_cmp (d2, n2) (d, n) ≡ false)) → get (set S.dents (d, n) None) (d2, n2) ≡ None
      still_free (inl q) = ap (get (set S.dents (d, n) None)) q.0 ∙ get-set_same names S.dents (d, n) None
      still_free (inr q) = get-set_other names S.dents (d, n) None (d2, n2) q.0 ∙ may.free

  linked_after : (i : ℕ) (s : InodeRow) → get (after).inodes i ≡ Some s → i ≢ 0 → IsLinked after i s
  linked_after i s is not_root =
      let was = row_before i s is in
      let old = good.linked i was.0 was.1 not_root in
      record {
        given = old.given;
        count = was.3 ∙ old.count ∙ sym (count_stays i);
        dir = λ k. was.3 ∙ old.dir (sym was.2 ∙ k);
        link = λ k. let l = old.link (sym was.2 ∙ k) in let same = was.3 in omega arith;
        file = λ k z. old.file (sym was.2 ∙ k) (sym was.3 ∙ z);
      }

  -- a directory has one entry, so another entry leads to another node
  not_moved : (f : ℕ) (m : List ℕ) (r : DentRow) → ◌≢◌ {A = ℕ × List ℕ} (f, m) (d, n) → get S.dents (f, m) ≡ Some r → r.kind ≡ kinds.Dir → r.inode ≢ e.inode
  not_moved f m r other is dir eq =
      let kind : kind_of row.part ≡ kinds.Dir = same_kind S e.inode (kind_of row.part) kinds.Dir (row, may.there, refl) (subst (λ (x : ℕ). HasKind S x kinds.Dir) eq (subst (λ (k : Kind). HasKind S r.inode k) dir (good.entry f m r is).target)) in
      let linked = good.linked e.inode row may.there old_entry.not_root in
      other (only_counted names (is_to e.inode) S.dents (d, n) (f, m) e r (sym linked.count ∙ linked.dir kind) may.entry (eq-eqb e.inode e.inode refl) is (eq-eqb r.inode e.inode eq))

  entry_after : (f : ℕ) (m : List ℕ) (r : DentRow) → get (after).dents (f, m) ≡ Some r → IsEntry after f r
  entry_after f m r is = elim (entry_cases f m r is) [
    | inl h ↦ subst (λ (x : ℕ). IsEntry after x r) (sym h.0) (subst (λ (x : DentRow). IsEntry after d2 x) h.1 (record {
      parent = kind_stays d2 kinds.Dir may.parent;
      target = kind_stays e.inode e.kind old_entry.target;
      not_root = old_entry.not_root;
      inside = parent_moved;
    }))
    | inr h ↦
        let old = good.entry f m r h.1 in
        record {
          parent = kind_stays f kinds.Dir old.parent;
          target = kind_stays r.inode r.kind old.target;
          not_root = old.not_root;
          inside = λ dir. parent_stays r.inode f (not_moved f m r h.0 h.1 dir) (old.inside dir);
        }
  ]

  doomed_after : (i : ℕ) (g : GcRow) → get S.doomed i ≡ Some g → IsDoomed C after i g × IsIdGiven after i
  doomed_after i Waiting is =
      let old = good.doomed i Waiting is in
      let now = row_after i old.0.0 old.0.1 in
      ((now.0, now.1, now.2 ∙ old.0.2, now.3 ∙ old.0.3), old.1)
  doomed_after i (Purged layout hint) is =
      let old = good.doomed i (Purged layout hint) is in
      ((other_row i (λ q. not_some row (ap (get S.inodes) (sym q) ∙ old.0.0) may.there) ∙ old.0.0, old.0.1, old.0.2, old.0.3), old.1)

  fits_after : (i : ℕ) (s : InodeRow) → get (after).inodes i ≡ Some s → FitsConfig C i s.part
  fits_after i s is = elim (get-set_cases ids S.inodes e.inode (Some (under d2 row)) i (Some s) is) [
    | inl h ↦ subst (λ (x : InodeRow). FitsConfig C i x.part) (some_injective _ s h.1) (fits_under C i d2 row.part (good.fits i row (ap (get S.inodes) h.0 ∙ may.there)))
    | inr h ↦ good.fits i s h.1
  ]

  pub moves_entry : IsWellFormed C after
  moves_entry =
      record {
        root = let root = good.root in (root.0, other_row 0 (λ q. (old_entry).not_root (sym q)) ∙ root.1, root.2);
        linked = linked_after;
        fits = fits_after;
        leads = λ i has. let was = row_before i has.0 has.1 in let up = good.leads i (was.0, was.1, sym was.2 ∙ has.2) in path_after i up.0 up.1 (a_dir_or_not e.kind);
        entry = entry_after;
        doomed = doomed_after;
        session = λ i c m t is. kind_stays i kinds.File (good.session i c m t is);
        numbers = good.numbers;
      }

  pub tree_with_move : tree_of after ≡ record (tree_of S) { entries = set (set (tree_of S).entries (d, n) None) (d2, n2) (Some e.inode) }
  tree_with_move = λ i.
      record (tree_of S) {
        nodes = (map_values-set ids node_of S.inodes e.inode (Some (under d2 row))
            ∙ set_present ids (tree_of S).nodes e.inode (Some (node_of (under d2 row))) (node_is S e.inode (Some row) may.there ∙ ap (λ p. Some (record (node_of row) { part = p })) (sym (part_under d2 row.part)))) i;
        entries = (map_values-set names (λ (x : DentRow). x.inode) (set S.dents (d, n) None) (d2, n2) (Some e) ∙ ap (λ m. set m (d2, n2) (Some e.inode)) (map_values-set names (λ (x : DentRow). x.inode) S.dents (d, n) None)) i;
      }
