-- What setattr owes where its walk has ended.
use Rattle.std.proofs.Common.{◌≡◌, ◌≢◌, ℕ, ◌<◌, ◌^◌, List, [], ◌∷◌, refl, sym, ap, subst, ◌∙◌, inl, inr, true}
use Rattle.std.specs.Prelude.{Option, Some, IsTrue, None, unwrap_or}
use Rattle.std.specs.Option.{option_map}
use Rattle.std.specs.FinMap.{FinMap, insert}
use Rattle.std.specs.Ordering.{nat_cmp}
use Rattle.conflict_sets.specs.declared.sets.ReadSet.{ReadSet}
use Rattle.fs_base.specs.Config.{Settings}
use Rattle.fs_base.specs.declared.call.Changes.{Changes}
use Rattle.fs_base.specs.declared.kind.Kind.{Kind}
use Rattle.fs_base.specs.declared.reply.Reply.TheVariants.{Done}
use Rattle.inode_record.specs.Inode.{spelled_inode, is_inode, head, head_of, access, times}
use Rattle.inode_record.specs.declared.inode.InodeRow.{InodeRow}
use Rattle.key_schema.specs.Keys.{spelled_key}
use Rattle.key_schema.specs.declared.key.Key.{Key}
use Rattle.key_schema.specs.declared.key.Key.TheVariants as keys
use Rattle.row_tree.specs.Steps.{with_row}
use Rattle.row_tree.specs.TreeOf.{tree_of}
use Rattle.row_tree.specs.TypedRows.{TypedRows}
use Rattle.row_tree.specs.Values.{Value, InodeValue, spelled_value}
use Rattle.row_tree.specs.WellFormed.{IsWellFormed}
use Rattle.row_tree.proofs.Changing.{tree_with_row, changes_row}
use Rattle.tree_model.specs.declared.walk.Walked.TheVariants.{At}
use Rattle.tree_model.specs.Attributes.{changed}
use Rattle.tree_model.specs.Effects.{Effect, Makes, at_length}
use Rattle.tree_model.specs.Finding.{setattr_at}
use Rattle.tree_model.specs.Tree.{Tree}
use Rattle.tree_model.proofs.MapLaws.{ids, set_present}
use Rattle.txn_task.specs.Agreeing.{Agrees}
use Rattle.txn_task.specs.Transactions.{Transaction}
use Rattle.txn_task.specs.Wanted.{IsKeyRead}
use Rattle.txn_task.specs.Writes.{set_write}
use Rattle.txn_task.specs.declared.messages.Asked.{Asked}
use Rattle.txn_task.specs.declared.messages.OpStep.TheVariants as steps
use Rattle.path_walk.specs.Footprint.{inode_at}
use Rattle.path_walk.specs.Owed.{HasDone}
use Rattle.path_walk.specs.Puts.{put_writes, ArePuts, MakesPuts}
use Rattle.path_walk.proofs.PutLaws.{puts_done}
use Rattle.op_attr.specs.declared.task.AttrCall.TheVariants as attr
use Rattle.op_attr.specs.Changing.{changed_row, PutsChanged}
use Rattle.op_attr.specs.Attr.{MaySet}
use Rattle.op_attr.specs.Ending.{IsAttrEndStep}
use Rattle.row_records.proofs.InRange.{done_fits}
use Rattle.op_attr.proofs.ReadLaws.{StandsAt, node_at}
use Rattle.std.proofs.lemmas.Bool.{and_parts}
use Rattle.byte_fields.proofs.InRange.{both}
use Rattle.inode_record.proofs.InRange.{fits_row, same_part}
use Rattle.byte_fields.specs.Fields.{mode, time, optional, number_1, number_4}
use Rattle.byte_fields.specs.Forms.{Form}
use Rattle.row_records.specs.Calls.{changes}

-- ---- the changed row has its numbers in their ranges

-- what is given, or what stands there
chosen : (form : Form ℕ) (given : Option ℕ) (old : ℕ) → (optional form).fits given ≡ true → form.fits old ≡ true → form.fits (unwrap_or given old) ≡ true
unfolding number_1
chosen form None old fits stands = stands
chosen form (Some new) old fits stands = fits

module _ (given : Changes) (stamp : ℕ) (row : InodeRow) (ok : changes.fits given ≡ true) (time_ok : time.fits stamp ≡ true) where
  access_fits : access.fits ((head_of row).access) ≡ true → access.fits ((head_of (changed_row given stamp row)).access) ≡ true
  unfolding access changes
  access_fits fits =
      let mode_given = and_parts ((optional mode).fits given.mode) _ ok in
      let owner_given = and_parts ((optional number_4).fits given.owner) _ mode_given.1 in
      let group_given = and_parts ((optional number_4).fits given.group) _ owner_given.1 in
      let mode_there = and_parts (mode.fits row.mode) _ fits in
      let owner_there = and_parts (number_4.fits row.owner) _ mode_there.1 in
      let group_there = and_parts (number_4.fits row.group) _ owner_there.1 in
      both (chosen mode given.mode row.mode mode_given.0 mode_there.0)
      (both (chosen number_4 given.owner row.owner owner_given.0 owner_there.0)
      (both (chosen number_4 given.group row.group group_given.0 group_there.0) group_there.1))

  times_fit : times.fits ((head_of row).times) ≡ true → times.fits ((head_of (changed_row given stamp row)).times) ≡ true
  unfolding times changes
  times_fit fits =
      let mode_given = and_parts ((optional mode).fits given.mode) _ ok in
      let owner_given = and_parts ((optional number_4).fits given.owner) _ mode_given.1 in
      let group_given = and_parts ((optional number_4).fits given.group) _ owner_given.1 in
      let times_given = and_parts ((optional time).fits given.atime) _ group_given.1 in
      let atime_there = and_parts (time.fits row.atime) _ fits in
      let mtime_there = and_parts (time.fits row.mtime) (time.fits row.ctime) atime_there.1 in
      both (chosen time given.atime row.atime times_given.0 atime_there.0) (both (chosen time given.mtime row.mtime times_given.1 mtime_there.0) time_ok)

  head_fits : head.fits (head_of row) ≡ true → head.fits (head_of (changed_row given stamp row)) ≡ true
  unfolding head
  head_fits fits = let each = and_parts (access.fits (head_of row).access) (times.fits (head_of row).times) fits in both (access_fits each.0) (times_fit each.1)

  changed_fits : IsTrue (is_inode row) → IsTrue (is_inode (changed_row given stamp row))
  changed_fits fits = same_part row (changed_row given stamp row) refl (head_fits (fits_row row fits).0) fits

module _ (id : ℕ) (kind : Kind) (stamp : ℕ) (given : Changes) (may : MaySet (attr.Setattr stamp given)) (small : id < 2 ^ 36) (reads : ReadSet) (row : InodeRow) (is : StandsAt reads id row) where
  abbrev new : InodeRow
  new = changed_row given stamp row

  abbrev does : Tree → Effect
  does T = setattr_at T stamp given (At id kind)

  -- the row is one of a store
  fits : (S : TypedRows) → Agrees S reads → IsTrue (is_inode row)
  fits S agrees = (agrees.spells.fits (keys.Inode id) (InodeValue row) (ap (option_map InodeValue) (is S agrees))).1

  -- the rows with the changed one are well-formed, and their tree is the one that the call makes
  makes : (C : Settings) (S : TypedRows) → IsWellFormed C S → Agrees S reads → IsWellFormed C (with_row S id (new)) × (does (tree_of S) ≡ Makes (tree_of (with_row S id (new))) Done)
  makes C S good agrees = (
    changes_row C S good id row (new) (record {
      there = is S agrees;
      kind = refl;
      parent = refl;
      links = refl;
      fits = good.fits id row (is S agrees);
    }),
    node_at S id (λ node. Makes (record (tree_of S) { nodes = insert (tree_of S).nodes id (changed given stamp node) }) Done) row (is S agrees)
        ∙ ap (λ (T : Tree). Makes T Done) (sym (tree_with_row S id (new))),
  )

  -- a row put again is the row that stood there
  put_again : new ≡ row → (S : TypedRows) → Agrees S reads → with_row S id (new) ≡ S
  put_again same S agrees = ap (λ (m : FinMap nat_cmp InodeRow). record S { inodes = m }) (set_present ids S.inodes id (Some (new)) (is S agrees ∙ ap Some (sym same)))

  makes_none : (C : Settings) → new ≡ row → MakesPuts C does reads [] Done
  makes_none C same S good agrees =
      let made = makes C S good agrees in
      let again = put_again same S agrees in
      (subst (IsWellFormed C) again made.0, ap (at_length 0) made.1 ∙ ap (λ (U : TypedRows). Makes (tree_of U) Done) again)

  abbrev put : List (Key × Option Value)
  put = (keys.Inode id, Some (InodeValue (new))) ∷ []

  makes_one : (C : Settings) → MakesPuts C does reads (put) Done
  makes_one C S good agrees = let made = makes C S good agrees in (made.0, ap (at_length 0) made.1)

  one_put : (C : Settings) → new ≢ row → ArePuts C reads (put)
  one_put C other = (
    record {
      valid = small;
      no_kept = refl;
      changes = λ S good agrees. ((refl, changed_fits given stamp row may.1 may.0 (fits S agrees)), (λ same. other (that row (new) (sym (ap (option_map InodeValue) (is S agrees)) ∙ same))));
    },
    tt,
  )
    where
      that : (a b : InodeRow) → Some (InodeValue a) ≡ Some (InodeValue b) → b ≡ a
      that a b e = cc

module _ (t u : Transaction) (id : ℕ) (kind : Kind) (stamp : ℕ) (given : Changes) (row : InodeRow) (asked : List Asked) (may : MaySet (attr.Setattr stamp given)) (small : id < 2 ^ 36)
    (read : IsKeyRead t.reads (keys.Inode id)) (is : StandsAt t.reads id row) (none : t.writes ≡ []) (empty : asked ≡ []) where
  abbrev puts_of : List (Key × Option Value) → Type 0
  puts_of puts = (C : Settings) → ArePuts C t.reads puts → u ≡ record t { writes = put_writes puts } → MakesPuts C (λ T. setattr_at T stamp given (At id kind)) t.reads puts Done
      → HasDone C (λ T. inode_at (At id kind)) (λ T. setattr_at T stamp given (At id kind)) t u (steps.Commit Done asked)

  commits : (puts : List (Key × Option Value)) → puts_of puts
  commits puts C are after makes =
      puts_done C (λ T. inode_at (At id kind)) (λ T. setattr_at T stamp given (At id kind)) t u Done asked puts (λ S good agrees. (read, tt)) are after done_fits empty makes

  -- whichever way it was put, the call is done
  pub setattr_done : PutsChanged id row (changed_row given stamp row) t u → IsAttrEndStep (attr.Setattr stamp given) (At id kind) t u (steps.Commit Done asked)
  unfolding spelled_value
  setattr_done (inl kept) C = commits [] C tt (kept.1 ∙ ap (λ ws. record t { writes = ws }) none) (makes_none id kind stamp given may small t.reads row is C kept.0)
  setattr_done (inr put) C =
      commits ((keys.Inode id, Some (InodeValue (changed_row given stamp row))) ∷ []) C
      (one_put id kind stamp given may small t.reads row is C put.0)
      (put.1 ∙ ap (λ ws. record t { writes = set_write (spelled_key (keys.Inode id)) (Some (spelled_inode (changed_row given stamp row))) ws }) none)
      (makes_one id kind stamp given may small t.reads row is C)
