-- Changing the fields of an inode's row, or a client's kept reply, keeps rows well-formed.
use Rattle.std.proofs.Common.{◌≡◌, ◌≢◌, ◌⊎◌, ℕ, ◌≤◌, List, [], ◌∷◌, refl, sym, ap, subst, ◌∙◌, inl, inr}
use Rattle.std.specs.Prelude.{Some}
use Rattle.std.specs.FinMap.{get, insert}
use Rattle.fs_base.specs.Config.{Settings}
use Rattle.fs_base.specs.declared.kind.Kind.{Kind}
use Rattle.fs_base.specs.declared.kind.Kind.TheVariants as kinds
use Rattle.inode_record.specs.declared.inode.InodePart.{InodePart}
use Rattle.inode_record.specs.declared.inode.InodePart.TheVariants as parts
use Rattle.inode_record.specs.declared.inode.InodeRow.{InodeRow}
use Rattle.row_records.specs.declared.rows.DentRow.{DentRow}
use Rattle.row_records.specs.declared.rows.GcRow.{GcRow}
use Rattle.row_records.specs.declared.rows.GcRow.TheVariants.{Waiting, Purged}
use Rattle.row_records.specs.declared.rows.KeptRow.{KeptRow}
use Rattle.tree_model.proofs.MapLaws.{ids, some_injective, not_some, same_some, get-set_same, get-set_other, get-set_cases, decide, map_values-set}
use Rattle.row_tree.specs.TypedRows.{TypedRows, kind_of, parent_of, parent_at}
use Rattle.row_tree.specs.TreeOf.{tree_of, node_of, kept_of}
use Rattle.row_tree.specs.WellFormed.{IsPath, IsIdGiven, HasKind, IsEntry, IsLinked, IsRootRow, FitsConfig, IsDoomed, IsWellFormed}
use Rattle.row_tree.specs.Steps.{MayChange, with_row, with_kept}
use Rattle.row_tree.proofs.Adding.{parent_row, parent_at_row}

pub tree_with_row : (S : TypedRows) (id : ℕ) (row : InodeRow) → tree_of (with_row S id row) ≡ record (tree_of S) { nodes = insert (tree_of S).nodes id (node_of row) }
tree_with_row S id row = λ i. record (tree_of S) { nodes = map_values-set ids node_of S.inodes id (Some row) i }

pub tree_with_kept : (S : TypedRows) (client : ℕ) (row : KeptRow) → tree_of (with_kept S client row) ≡ record (tree_of S) { kept = insert (tree_of S).kept client (kept_of row) }
tree_with_kept S client row = λ i. record (tree_of S) { kept = map_values-set ids kept_of S.kept client (Some row) i }

-- a part with the root's parent is a directory's
root_part : (part : InodePart) → parent_of part ≡ Some 0 → (chunk : ℕ) × (stripe : ℕ) × (part ≡ parts.Dir 0 chunk stripe)
root_part (parts.Dir parent chunk stripe) is = (chunk, stripe, ap (λ (x : ℕ). parts.Dir x chunk stripe) (some_injective parent 0 is))
root_part (parts.File length truncs layout hint) is = cc
root_part (parts.Link target) is = cc

module _ (C : Settings) (S : TypedRows) (good : IsWellFormed C S) (id : ℕ) (old row : InodeRow) (may : MayChange C S id old row) where
  abbrev after : TypedRows
  after = with_row S id row

  new_row : get (after).inodes id ≡ Some row
  new_row = get-set_same ids S.inodes id (Some row)

  row_cases : (x : ℕ) (r : InodeRow) → get (after).inodes x ≡ Some r → ((x ≡ id) × (row ≡ r)) ⊎ ((x ≢ id) × (get S.inodes x ≡ Some r))
  row_cases x r is = elim (get-set_cases ids S.inodes id (Some row) x (Some r) is) [
    | inl h ↦ inl (h.0, some_injective row r h.1)
    | inr h ↦ inr h
  ]

  -- each inode has its kind, its parent and its link count as before
  pub same_after : (x : ℕ) (r : InodeRow) → get S.inodes x ≡ Some r → (new : InodeRow) × (get (after).inodes x ≡ Some new) × (kind_of new.part ≡ kind_of r.part) × (parent_of new.part ≡ parent_of r.part) × (new.links ≡ r.links)
  same_after x r is = elim (decide ids x id) [
    | inl q ↦
        let same : old ≡ r = same_some old r may.there (ap (get S.inodes) (sym q.0) ∙ is) in
        (row, ap (get (after).inodes) q.0 ∙ new_row, may.kind ∙ ap (λ (y : InodeRow). kind_of y.part) same, may.parent ∙ ap (λ (y : InodeRow). parent_of y.part) same, may.links ∙ ap (λ (y : InodeRow). y.links) same)
    | inr q ↦ (r, get-set_other ids S.inodes id (Some row) x q.0 ∙ is, refl, refl, refl)
  ]

  -- and had them before
  was : (x : ℕ) (r : InodeRow) → get (after).inodes x ≡ Some r → (past : InodeRow) × (get S.inodes x ≡ Some past) × (kind_of r.part ≡ kind_of past.part) × (r.links ≡ past.links)
  was x r is = elim (row_cases x r is) [
    | inl h ↦ (old, ap (get S.inodes) h.0 ∙ may.there, ap (λ (y : InodeRow). kind_of y.part) (sym h.1) ∙ may.kind, ap (λ (y : InodeRow). y.links) (sym h.1) ∙ may.links)
    | inr h ↦ (r, h.1, refl, refl)
  ]

  kind_stays : (x : ℕ) (kind : Kind) → HasKind S x kind → HasKind after x kind
  kind_stays x kind has = let new = same_after x has.0 has.1 in (new.0, new.1, new.2 ∙ has.2)

  parent_stays : (x parent : ℕ) → parent_at S x ≡ Some parent → parent_at after x ≡ Some parent
  parent_stays x parent is =
      let at = parent_row S x parent is in
      let new = same_after x at.0 at.1 in
      parent_at_row after x new.0 new.1 ∙ new.3 ∙ at.2

  path_stays : (x : ℕ) (path : List ℕ) → IsPath S x path → IsPath after x path
  path_stays x [] h = h
  path_stays x (parent ∷ path) h = (parent_stays x parent h.0, path_stays parent path h.1)

  root_after : (r : InodeRow) × (get (after).inodes 0 ≡ Some r) × IsRootRow r
  root_after =
      let root = good.root in
      let at = root.2.parent in
      let new = same_after 0 root.0 root.1 in
      (new.0, new.1, record { parent = root_part new.0.part (new.3 ∙ ap parent_of at.2); links = new.4 ∙ root.2.links })

  linked_after : (x : ℕ) (r : InodeRow) → get (after).inodes x ≡ Some r → x ≢ 0 → IsLinked after x r
  linked_after x r is not_root =
      let past = was x r is in
      let linked = good.linked x past.0 past.1 not_root in
      record {
        given = linked.given;
        count = past.3 ∙ linked.count;
        dir = λ dir. past.3 ∙ linked.dir (sym past.2 ∙ dir);
        link = λ link. subst (λ (n : ℕ). 1 ≤ n) (sym past.3) (linked.link (sym past.2 ∙ link));
        file = λ file none. linked.file (sym past.2 ∙ file) (sym past.3 ∙ none);
      }

  fits_after : (x : ℕ) (r : InodeRow) → get (after).inodes x ≡ Some r → FitsConfig C x r.part
  fits_after x r is = elim (row_cases x r is) [
    | inl h ↦ subst (λ (y : ℕ). FitsConfig C y r.part) (sym h.0) (subst (λ (y : InodeRow). FitsConfig C id y.part) h.1 may.fits)
    | inr h ↦ good.fits x r h.1
  ]

  leads_after : (x : ℕ) → HasKind after x kinds.Dir → (path : List ℕ) × IsPath after x path
  leads_after x has =
      let past = was x has.0 has.1 in
      let up = good.leads x (past.0, past.1, sym past.2 ∙ has.2) in
      (up.0, path_stays x up.0 up.1)

  entry_after : (dir : ℕ) (name : List ℕ) (e : DentRow) → get S.dents (dir, name) ≡ Some e → IsEntry after dir e
  entry_after dir name e is =
      let entry = good.entry dir name e is in
      record {
        parent = kind_stays dir kinds.Dir entry.parent;
        target = kind_stays e.inode e.kind entry.target;
        not_root = entry.not_root;
        inside = λ is_dir. parent_stays e.inode dir (entry.inside is_dir);
      }

  doomed_after : (x : ℕ) (g : GcRow) → get S.doomed x ≡ Some g → IsDoomed C after x g × IsIdGiven after x
  doomed_after x Waiting is =
      let doomed = good.doomed x Waiting is in
      let new = same_after x doomed.0.0 doomed.0.1 in
      ((new.0, new.1, new.2 ∙ doomed.0.2, new.4 ∙ doomed.0.3), doomed.1)
  doomed_after x (Purged layout hint) is =
      let doomed = good.doomed x (Purged layout hint) is in (
        (get-set_other ids S.inodes id (Some row) x (λ e. not_some old (ap (get S.inodes) (sym e) ∙ doomed.0.0) may.there) ∙ doomed.0.0, doomed.0.1, doomed.0.2, doomed.0.3),
        doomed.1,
      )

  pub changes_row : IsWellFormed C (with_row S id row)
  changes_row =
      record {
        root = root_after;
        linked = linked_after;
        fits = fits_after;
        leads = leads_after;
        entry = entry_after;
        doomed = doomed_after;
        session = λ inode client number stamp is. kind_stays inode kinds.File (good.session inode client number stamp is);
        numbers = good.numbers;
      }

module _ (C : Settings) (S : TypedRows) (good : IsWellFormed C S) (client : ℕ) (row : KeptRow) where
  path_kept : (id : ℕ) (path : List ℕ) → IsPath S id path → IsPath (with_kept S client row) id path
  path_kept id [] h = h
  path_kept id (parent ∷ path) h = (h.0, path_kept parent path h.1)

  doomed_kept : (id : ℕ) (g : GcRow) → IsDoomed C S id g → IsDoomed C (with_kept S client row) id g
  doomed_kept id Waiting h = h
  doomed_kept id (Purged layout hint) h = h

  -- no other row speaks of kept replies
  pub keeps_reply : IsWellFormed C (with_kept S client row)
  keeps_reply =
      record {
        root = good.root;
        linked = λ id r is not_root. let linked = good.linked id r is not_root in record {
          given = linked.given;
          count = linked.count;
          dir = linked.dir;
          link = linked.link;
          file = linked.file;
        };
        fits = good.fits;
        leads = λ id has. let up = good.leads id has in (up.0, path_kept id up.0 up.1);
        entry = λ dir name e is. let entry = good.entry dir name e is in record {
          parent = entry.parent;
          target = entry.target;
          not_root = entry.not_root;
          inside = entry.inside;
        };
        doomed = λ id g is. let doomed = good.doomed id g is in (doomed_kept id g doomed.0, doomed.1);
        session = good.session;
        numbers = good.numbers;
      }
