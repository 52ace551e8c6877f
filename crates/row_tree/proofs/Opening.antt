-- The rows of a new store are well-formed, and are those of the new tree.
use Rattle.std.proofs.Common.{◌≡◌, ℕ, ◌&&◌, [], refl, ap, subst, ◌∙◌, inl, inr}
use Rattle.std.specs.Prelude.{Some, IsTrue, nat_le}
use Rattle.std.specs.Ordering.{nat_cmp}
use Rattle.std.specs.FinMap.{empty, get, insert, get-empty}
use Rattle.std.proofs.lemmas.Bool.{le-leb}
use Rattle.fs_base.specs.Config.{Settings, admits}
use Rattle.inode_record.specs.declared.inode.InodeRow.{InodeRow}
use Rattle.row_records.specs.declared.rows.DentRow.{DentRow}
use Rattle.tree_model.specs.Maps.{dent_cmp, session_cmp}
use Rattle.tree_model.specs.Tree.{new_tree}
use Rattle.tree_model.proofs.MapLaws.{ids, names, holders, not_some, some_injective, get-set_cases, get-set_same, map_values-set, map_values-empty, and_both}
use Rattle.row_tree.specs.TreeOf.{tree_of, node_of, kept_of, doom_of}
use Rattle.row_tree.specs.WellFormed.{FitsConfig, IsWellFormed}
use Rattle.row_tree.specs.Opening.{HasLimits, root_row, opening_rows}

pub tree_of_opening : (C : Settings) → tree_of (opening_rows C) ≡ new_tree C
tree_of_opening C = λ i.
    record {
      nodes = (map_values-set ids node_of empty 0 (Some (root_row C)) ∙ ap (λ m. insert m 0 (node_of (root_row C))) (map_values-empty ids node_of)) i;
      entries = map_values-empty names (λ (e : DentRow). e.inode) i;
      writers = map_values-empty holders (λ (stamp : ℕ). tt {0}) i;
      kept = map_values-empty ids kept_of i;
      doomed = map_values-empty ids doom_of i;
      next = empty;
    }

module _ (C : Settings) (fits : HasLimits C) where
  default_is_admitted : IsTrue (admits C (record { chunk = C.chunk; stripe = C.stripe }))
  default_is_admitted =
      and_both (nat_le 1 C.chunk && nat_le C.chunk 4194304) (nat_le 1 C.stripe && nat_le C.stripe C.chains)
      (and_both (nat_le 1 C.chunk) (nat_le C.chunk 4194304) (le-leb 1 C.chunk fits.chunk_from) (le-leb C.chunk 4194304 fits.chunk_to))
      (and_both (nat_le 1 C.stripe) (nat_le C.stripe C.chains) (le-leb 1 C.stripe fits.stripe_from) (le-leb C.stripe C.chains fits.stripe_to))

  root_is : get (opening_rows C).inodes 0 ≡ Some (root_row C)
  root_is = get-set_same ids empty 0 (Some (root_row C))

  -- there is no other inode
  only_root : (id : ℕ) (row : InodeRow) → get (opening_rows C).inodes id ≡ Some row → (id ≡ 0) × (root_row C ≡ row)
  only_root id row is = elim (get-set_cases ids empty 0 (Some (root_row C)) id (Some row) is) [
    | inl h ↦ (h.0, some_injective (root_row C) row h.1)
    | inr h ↦ absurd (not_some row (get-empty nat_cmp id) h.1)
  ]

  pub opening_is_well_formed : IsWellFormed C (opening_rows C)
  opening_is_well_formed =
      record {
        root = (root_row C, root_is, record { parent = (C.chunk, C.stripe, refl); links = refl });
        linked = λ id row is not_root. absurd (not_root (only_root id row is).0);
        fits = λ id row is. subst (λ (r : InodeRow). FitsConfig C id r.part) (only_root id row is).1 default_is_admitted;
        leads = λ id has. ([], (only_root id has.0 has.1).0);
        entry = λ dir name e is. absurd (not_some e (get-empty dent_cmp (dir, name)) is);
        doomed = λ id g is. absurd (not_some g (get-empty nat_cmp id) is);
        session = λ inode client number stamp is. absurd (not_some stamp (get-empty session_cmp (inode, (client, number))) is);
        numbers = λ server next is. absurd (not_some next (get-empty nat_cmp server) is);
      }
