-- A directory moved over an empty one.
use Rattle.std.proofs.Common.{◌≡◌, ◌≢◌, ℕ, List, sym, ap, ◌∙◌}
use Rattle.std.specs.Prelude.{Some, None}
use Rattle.std.specs.FinMap.{get}
use Rattle.fs_base.specs.Config.{Settings}
use Rattle.inode_record.specs.declared.inode.InodeRow.{InodeRow}
use Rattle.row_records.specs.declared.rows.DentRow.{DentRow}
use Rattle.fs_base.specs.declared.kind.Kind.TheVariants as kinds
use Rattle.tree_model.specs.Maps.{set}
use Rattle.row_tree.specs.TypedRows.{TypedRows}
use Rattle.row_tree.specs.TreeOf.{tree_of}
use Rattle.tree_model.specs.Tree.{Tree}
use Rattle.row_tree.specs.WellFormed.{IsWellFormed}
use Rattle.row_tree.specs.Steps.{IsPathAround, MayRemove, without_node, MayMove, with_move}
use Rattle.tree_model.proofs.MapLaws.{some_injective, get-set_same, get-set_other}
use Rattle.tree_model.proofs.MapLaws.{ids, names}
use Rattle.row_tree.proofs.Removing.{removes_node, tree_without_node, around_left, kind_left}
use Rattle.row_tree.proofs.Moving.{moves_entry, tree_with_move}

module _ (C : Settings) (S : TypedRows) (good : IsWellFormed C S) (d : ℕ) (n : List ℕ) (e : DentRow) (row : InodeRow) (d2 : ℕ) (n2 : List ℕ) (f : DentRow)
    (at : get S.dents (d, n) ≡ Some e) (row_is : get S.inodes e.inode ≡ Some row) (gone : MayRemove S d2 n2 f) (other : f.inode ≢ e.inode)
    (around : e.kind ≡ kinds.Dir → (path : List ℕ) × IsPathAround S e.inode d2 path) where
  apart : ◌≢◌ {A = ℕ × List ℕ} (d, n) (d2, n2)
  apart q = other (sym (ap (λ (x : DentRow). x.inode) (some_injective e f (sym at ∙ ap (get S.dents) q ∙ gone.entry))))

  -- the directory where the replaced entry lies isn't what is replaced
  not_inside : d2 ≢ f.inode
  not_inside q = let e' : Some f ≡ None = sym gone.entry ∙ ap (λ (x : ℕ). get S.dents (x, n2)) q ∙ gone.empty n2 in cc

  may : MayMove (without_node S d2 n2 f) d n e row d2 n2
  may =
      record {
        entry = get-set_other names S.dents (d2, n2) None (d, n) apart ∙ at;
        there = get-set_other ids S.inodes f.inode None e.inode (λ q. other (sym q)) ∙ row_is;
        parent = kind_left C S good d2 n2 f gone d2 kinds.Dir not_inside ((good.entry d2 n2 f gone.entry).parent);
        free = get-set_same names S.dents (d2, n2) None;
        around = λ dir. let way = around dir in (way.0, around_left C S good d2 n2 f gone e.inode d2 way.0 not_inside way.1);
      }

  pub replaces_node : IsWellFormed C (with_move (without_node S d2 n2 f) d n e row d2 n2)
  replaces_node = moves_entry C (without_node S d2 n2 f) (removes_node C S good d2 n2 f gone) d n e row d2 n2 may

  pub tree_with_replaced : tree_of (with_move (without_node S d2 n2 f) d n e row d2 n2)
      ≡ record (record (tree_of S) { nodes = set (tree_of S).nodes f.inode None; entries = set (tree_of S).entries (d2, n2) None }) { entries = set (set (set (tree_of S).entries (d2, n2) None) (d, n) None) (d2, n2) (Some e.inode) }
  tree_with_replaced =
      tree_with_move C (without_node S d2 n2 f) (removes_node C S good d2 n2 f gone) d n e row d2 n2 may
      ∙ ap (λ (T : Tree). record T { entries = set (set T.entries (d, n) None) (d2, n2) (Some e.inode) }) (tree_without_node S d2 n2 f)
