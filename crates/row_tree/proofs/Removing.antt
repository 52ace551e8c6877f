-- Removing a node with its only entry keeps rows well-formed.
use Rattle.std.proofs.Common.{◌≡◌, ◌≢◌, ◌⊎◌, ℕ, zero, suc, ◌+◌, cond, List, [], ◌∷◌, refl, sym, ap, subst, ◌∙◌, inl, inr, arith, eq-eqb, ne_eqb, eqb-true}
use Rattle.std.specs.Prelude.{Some, None}
use Rattle.std.specs.FinMap.{get, remove}
use Rattle.fs_base.specs.Config.{Settings}
use Rattle.fs_base.specs.declared.kind.Kind.{Kind}
use Rattle.fs_base.specs.declared.kind.Kind.TheVariants as kinds
use Rattle.inode_record.specs.declared.inode.InodePart.{InodePart}
use Rattle.inode_record.specs.declared.inode.InodePart.TheVariants as parts
use Rattle.inode_record.specs.declared.inode.InodeRow.{InodeRow}
use Rattle.row_records.specs.declared.rows.DentRow.{DentRow}
use Rattle.row_records.specs.declared.rows.GcRow.{GcRow}
use Rattle.row_records.specs.declared.rows.GcRow.TheVariants.{Waiting, Purged}
use Rattle.tree_model.proofs.MapLaws.{ids, names, not_some, same_some, some_injective, get-set_same, get-set_other, get-set_cases, count-set, some_counted, only_counted, one_if, map_values-set, decide}
use Rattle.row_tree.specs.TypedRows.{TypedRows, kind_of, parent_of, parent_at, entries_to, is_to}
use Rattle.row_tree.specs.TreeOf.{tree_of, node_of}
use Rattle.row_tree.specs.WellFormed.{IsPath, IsIdGiven, HasKind, IsEntry, IsLinked, IsDoomed, IsWellFormed}
use Rattle.row_tree.specs.Steps.{IsPathAround, MayRemove, without_node}
use Rattle.row_tree.proofs.Adding.{parent_row, parent_at_row}

pub tree_without_node : (S : TypedRows) (dir : ℕ) (name : List ℕ) (e : DentRow) → tree_of (without_node S dir name e) ≡ record (tree_of S) { nodes = remove (tree_of S).nodes e.inode; entries = remove (tree_of S).entries (dir, name) }
tree_without_node S dir name e = λ i.
    record (tree_of S) {
      nodes = map_values-set ids node_of S.inodes e.inode None i;
      entries = map_values-set names (λ (x : DentRow). x.inode) S.dents (dir, name) None i;
    }

pub same_kind : (S : TypedRows) (id : ℕ) (a b : Kind) → HasKind S id a → HasKind S id b → a ≡ b
same_kind S id a b x y = sym x.2 ∙ ap (λ (r : InodeRow). kind_of r.part) (same_some x.0 y.0 x.1 y.1) ∙ y.2

-- a part that names a parent is a directory's
dir_of : (part : InodePart) (parent : ℕ) → parent_of part ≡ Some parent → kind_of part ≡ kinds.Dir
dir_of (parts.Dir parent chunk stripe) q e = refl
dir_of (parts.File length truncs layout hint) q e = cc
dir_of (parts.Link target) q e = cc

-- a directory but the root has an entry in the directory that its row names
pub entry_of_dir : (C : Settings) (S : TypedRows) → IsWellFormed C S → (id parent : ℕ) → id ≢ 0 → parent_at S id ≡ Some parent
    → (name : List ℕ) × (e : DentRow) × (get S.dents (parent, name) ≡ Some e) × (e.inode ≡ id)
entry_of_dir C S good id parent not_root is =
    let at = parent_row S id parent is in
    let dir = dir_of at.0.part parent at.2 in
    let linked = good.linked id at.0 at.1 not_root in
    let one : entries_to S id ≡ 1 = sym linked.count ∙ linked.dir dir in
    let found = some_counted names (is_to id) S.dents 0 one in
    let to : found.1.inode ≡ id = eqb-true found.1.inode id found.3 in
    let entry = good.entry found.0.0 found.0.1 found.1 found.2 in
    let kind : found.1.kind ≡ kinds.Dir = same_kind S id found.1.kind kinds.Dir (subst (λ (x : ℕ). HasKind S x found.1.kind) to entry.target) (at.0, at.1, dir) in
    let same : parent ≡ found.0.0 = some_injective _ _ (sym is ∙ ap (parent_at S) (sym to) ∙ entry.inside kind) in
    (found.0.1, found.1, subst (λ (x : ℕ). get S.dents (x, found.0.1) ≡ Some found.1) (sym same) found.2, to)

zero_or : (n : ℕ) → (n ≡ 0) ⊎ (n ≢ 0)
zero_or zero = inl refl
zero_or (suc n) = inr (λ q. omega arith)

module _ (C : Settings) (S : TypedRows) (good : IsWellFormed C S) (dir : ℕ) (name : List ℕ) (e : DentRow) (may : MayRemove S dir name e) where
  abbrev after : TypedRows
  after = without_node S dir name e

  stays : (id : ℕ) (r : InodeRow) → id ≢ e.inode → get S.inodes id ≡ Some r → get (after).inodes id ≡ Some r
  stays id r other is = get-set_other ids S.inodes e.inode None id other ∙ is

  was : (id : ℕ) (r : InodeRow) → get (after).inodes id ≡ Some r → (id ≢ e.inode) × (get S.inodes id ≡ Some r)
  was id r is = elim (get-set_cases ids S.inodes e.inode None id (Some r) is) [
    | inl h ↦ absurd (not_some r refl h.1)
    | inr h ↦ h
  ]

  entry_was : (d : ℕ) (n : List ℕ) (r : DentRow) → get (after).dents (d, n) ≡ Some r → (◌≢◌ {A = ℕ × List ℕ} (d, n) (dir, name)) × (get S.dents (d, n) ≡ Some r)
  entry_was d n r is = elim (get-set_cases names S.dents (dir, name) None (d, n) (Some r) is) [
    | inl h ↦ absurd (not_some r refl h.1)
    | inr h ↦ h
  ]

  -- no entry lies in the node, no other leads to it, and no directory has it as its parent
  not_in : (d : ℕ) (n : List ℕ) (r : DentRow) → get S.dents (d, n) ≡ Some r → d ≢ e.inode
  not_in d n r is eq = not_some r (may.empty n) (ap (λ (x : ℕ). get S.dents (x, n)) (sym eq) ∙ is)

  not_to : (d : ℕ) (n : List ℕ) (r : DentRow) → ◌≢◌ {A = ℕ × List ℕ} (d, n) (dir, name) → get S.dents (d, n) ≡ Some r → r.inode ≢ e.inode
  not_to d n r other is eq = other (only_counted names (is_to e.inode) S.dents (dir, name) (d, n) e r may.only may.entry (eq-eqb e.inode e.inode refl) is (eq-eqb r.inode e.inode eq))

  root_apart : 0 ≢ e.inode
  root_apart eq = (good.entry dir name e may.entry).not_root (sym eq)

  root_parent : parent_at S 0 ≡ Some 0
  root_parent = let root = good.root in parent_at_row S 0 root.0 root.1 ∙ ap parent_of root.2.parent.2

  parent_stays : (id parent : ℕ) → id ≢ e.inode → parent_at S id ≡ Some parent → parent_at after id ≡ Some parent
  parent_stays id parent other is = let at = parent_row S id parent is in parent_at_row after id at.0 (stays id at.0 other at.1) ∙ at.2

  kind_stays : (id : ℕ) (kind : Kind) → id ≢ e.inode → HasKind S id kind → HasKind after id kind
  kind_stays id kind other has = (has.0, stays id has.0 other has.1, has.2)

  parent_apart : (id parent : ℕ) → (id ≡ 0) ⊎ (id ≢ 0) → parent_at S id ≡ Some parent → parent ≢ e.inode
  parent_apart id parent (inl none) is = λ q. root_apart (some_injective _ _ (sym root_parent ∙ ap (parent_at S) (sym none) ∙ is) ∙ q)
  parent_apart id parent (inr some) is = let at = entry_of_dir C S good id parent some is in not_in parent at.0 at.1 at.2

  path_stays : (id : ℕ) (path : List ℕ) → id ≢ e.inode → IsPath S id path → IsPath after id path
  path_stays id [] other h = h
  path_stays id (parent ∷ path) other h = (parent_stays id parent other h.0, path_stays parent path (parent_apart id parent (zero_or id) h.0) h.1)

  pub kind_left : (id : ℕ) (kind : Kind) → id ≢ e.inode → HasKind S id kind → HasKind after id kind
  kind_left id kind other has = kind_stays id kind other has

  pub around_left : (x id : ℕ) (path : List ℕ) → id ≢ e.inode → IsPathAround S x id path → IsPathAround after x id path
  around_left x id [] other h = h
  around_left x id (parent ∷ path) other h = (h.0, parent_stays id parent other h.1, around_left x parent path (parent_apart id parent (zero_or id) h.1) h.2)

  count_stays : (id : ℕ) → id ≢ e.inode → entries_to after id ≡ entries_to S id
  count_stays id other =
      let law : one_if (is_to id) (get S.dents (dir, name)) + entries_to after id ≡ entries_to S id + one_if (is_to id) None = count-set names (is_to id) S.dents (dir, name) None in
      let none : one_if (is_to id) (get S.dents (dir, name)) ≡ 0 = ap (one_if (is_to id)) may.entry ∙ ap (λ b. cond b 1 0) (ne_eqb e.inode id (λ q. other (sym q))) in
      omega arith

  linked_after : (id : ℕ) (r : InodeRow) → get (after).inodes id ≡ Some r → id ≢ 0 → IsLinked after id r
  linked_after id r is not_root =
      let h = was id r is in
      let old = good.linked id r h.1 not_root in
      record { given = old.given; count = old.count ∙ sym (count_stays id h.0); dir = old.dir; link = old.link; file = old.file }

  entry_after : (d : ℕ) (n : List ℕ) (r : DentRow) → get (after).dents (d, n) ≡ Some r → IsEntry after d r
  entry_after d n r is =
      let h = entry_was d n r is in
      let old = good.entry d n r h.1 in
      let target = not_to d n r h.0 h.1 in
      record {
        parent = kind_stays d kinds.Dir (not_in d n r h.1) old.parent;
        target = kind_stays r.inode r.kind target old.target;
        not_root = old.not_root;
        inside = λ is_dir. parent_stays r.inode d target (old.inside is_dir);
      }

  -- the removed node is no file
  file_stays : (id : ℕ) → HasKind S id kinds.File → id ≢ e.inode
  file_stays id has eq = may.no_file (same_kind S e.inode e.kind kinds.File ((good.entry dir name e may.entry).target) (subst (λ (x : ℕ). HasKind S x kinds.File) eq has))

  doomed_after : (id : ℕ) (g : GcRow) → get S.doomed id ≡ Some g → IsDoomed C after id g × IsIdGiven after id
  doomed_after id Waiting is =
      let old = good.doomed id Waiting is in
      ((old.0.0, stays id old.0.0 (file_stays id (old.0.0, old.0.1, old.0.2)) old.0.1, old.0.2, old.0.3), old.1)
  doomed_after id (Purged layout hint) is =
      let old = good.doomed id (Purged layout hint) is in (
        (
          elim (decide ids id e.inode) [
            | inl q ↦ ap (get (after).inodes) q.0 ∙ get-set_same ids S.inodes e.inode None
            | inr q ↦ get-set_other ids S.inodes e.inode None id q.0 ∙ old.0.0
          ],
          old.0.1,
          old.0.2,
          old.0.3,
        ),
        old.1,
      )

  pub removes_node : IsWellFormed C (without_node S dir name e)
  removes_node =
      record {
        root = let root = good.root in (root.0, stays 0 root.0 root_apart root.1, root.2);
        linked = linked_after;
        fits = λ id r is. good.fits id r ((was id r is).1);
        leads = λ id has. let h = was id has.0 has.1 in let up = good.leads id (has.0, h.1, has.2) in (up.0, path_stays id up.0 h.0 up.1);
        entry = entry_after;
        doomed = doomed_after;
        session = λ inode client number stamp is. let old = good.session inode client number stamp is in kind_stays inode kinds.File (file_stays inode old) old;
        numbers = good.numbers;
      }
