-- A file that waits for its deletion has no entry: well-formed rows count none.
use Rattle.std.proofs.Common.{◌≡◌, inl, inr, ℕ, true, false, Option, Some, None, refl, sym, ap, ◌∙◌, arith}
use Rattle.std.specs.Option.{option_map}
use Rattle.std.specs.FinMap.{get}
use Rattle.std.proofs.lemmas.Bool.{cases_eq, eq-eqb}
use Rattle.fs_base.specs.Config.{Settings}
use Rattle.inode_record.specs.declared.inode.InodeRow.{InodeRow}
use Rattle.row_records.specs.declared.rows.DentRow.{DentRow}
use Rattle.row_records.specs.declared.rows.GcRow.{GcRow}
use Rattle.row_records.specs.declared.rows.GcRow.TheVariants as rows
use Rattle.tree_model.specs.declared.kept.Doom.TheVariants.{Waiting}
use Rattle.tree_model.specs.Tree.{Tree}
use Rattle.tree_model.proofs.MapLaws.{names, none_of_count}
use Rattle.row_tree.specs.TreeOf.{tree_of, doom_of}
use Rattle.row_tree.specs.TypedRows.{TypedRows, entries_to, is_to}
use Rattle.row_tree.specs.WellFormed.{IsWellFormed, IsDoomed, IsRootRow, IsLinked}
use Rattle.row_tree.proofs.Telling.{entry_is, doom_is}
use Rattle.histories.specs.Reclaiming.{IsUnnamed, HasRows}

module _ (C : Settings) (S : TypedRows) (wf : IsWellFormed C S) (id : ℕ) where
  -- a row without entries isn't the root's, and no entry is counted
  none_to : (row : InodeRow) → get S.inodes id ≡ Some row → row.links ≡ 0 → entries_to S id ≡ 0
  none_to row is none = elim (cases_eq id 0) [
    | inl root ↦ absurd
        (let first : IsRootRow wf.root.0 = wf.root.2 in
        let same : Some wf.root.0 ≡ Some row = sym wf.root.1 ∙ ap (get S.inodes) (sym root) ∙ is in
        let links : wf.root.0.links ≡ row.links = same_links wf.root.0 row same in
        let one : wf.root.0.links ≡ 1 = first.links in
        omega arith)
    | inr other ↦ (let linked : IsLinked S id row = wf.linked id row is other in sym linked.count ∙ none)
  ]
    where
      same_links : (a b : InodeRow) → Some a ≡ Some b → a.links ≡ b.links
      same_links a b e = let f : a ≡ b = cc in ap (λ (r : InodeRow). r.links) f

  -- the tree's doomed files are those of the rows
  waiting_row : (o : Option GcRow) → get S.doomed id ≡ o → option_map doom_of o ≡ Some Waiting → get S.doomed id ≡ Some rows.Waiting
  waiting_row None is e = absurd (let f : None ≡ Some Waiting = e in cc)
  waiting_row (Some rows.Waiting) is e = is
  waiting_row (Some (rows.Purged layout hint)) is e = absurd (let f : Some (doom_of (rows.Purged layout hint)) ≡ Some Waiting = e in cc)

  unnamed_rows : get (tree_of S).doomed id ≡ Some Waiting → IsUnnamed (tree_of S) id
  unnamed_rows waits dir name named =
      let gc : get S.doomed id ≡ Some rows.Waiting = waiting_row (get S.doomed id) refl (sym (doom_is S id (get S.doomed id) refl) ∙ waits) in
      let file : IsDoomed C S id rows.Waiting = (wf.doomed id rows.Waiting gc).0 in
      by_entry (none_to file.0 file.1 file.3) (get S.dents (dir, name)) refl (sym (entry_is S dir name (get S.dents (dir, name)) refl) ∙ named)
    where
      by_entry : entries_to S id ≡ 0 → (o : Option DentRow) → get S.dents (dir, name) ≡ o → option_map (λ (e : DentRow). e.inode) o ≡ Some id → ⊥
      by_entry none None is e = absurd (let f : None ≡ Some id = e in cc)
      by_entry none (Some e) is to =
          let same : e.inode ≡ id = (let f : Some e.inode ≡ Some id = to in cc) in
          let not_counted : is_to id e ≡ false = none_of_count names (is_to id) S.dents (dir, name) e none is in
          let counted : is_to id e ≡ true = eq-eqb e.inode id same in
          absurd (let f : true ≡ false = sym counted ∙ not_counted in cc)

pub waits_unnamed : (C : Settings) (T : Tree) → HasRows C T → (id : ℕ) → get T.doomed id ≡ Some Waiting → IsUnnamed T id
waits_unnamed C T has id waits dir name named =
    unnamed_rows C has.1.0 has.1.2 id (ap (λ (t : Tree). get t.doomed id) has.1.3 ∙ waits) dir name (ap (λ (t : Tree). get t.entries (dir, name)) has.1.3 ∙ named)
