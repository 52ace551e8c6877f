-- The rows of a new node may be spelled, and fit the configuration.
use Rattle.std.proofs.Common.{◌≡◌, ℕ, ◌+◌, ◌%◌, ◌<◌, ◌≤◌, ◌&&◌, Bool, true, false, cond, nat_lt, nat_le, leb-true, refl, sym, ap, subst, arith}
use Rattle.std.specs.Prelude.{◌≢◌, Option, Some, None, unwrap_or, IsTrue}
use Rattle.std.specs.Option.{option_map}
use Rattle.std.specs.FinMap.{get}
use Rattle.std.proofs.lemmas.Bool.{and_parts, ltb-true, ltb-false}
use Rattle.byte_fields.specs.Fields.{file_size, layout, number_2, number_4, number_8, stripe, used_layout}
use Rattle.byte_fields.proofs.InRange.{both, chunk_fits, fits_2, id_fits, stripe_fits, within_fits}
use Rattle.fs_base.specs.Config.{Settings, admits, layout_at}
use Rattle.fs_base.specs.declared.kind.Kind.TheVariants as kinds
use Rattle.fs_base.specs.declared.layout.DefaultLayout.{DefaultLayout}
use Rattle.inode_record.specs.Inode.{dir_part, file_part, is_inode}
use Rattle.inode_record.proofs.InRange.{is_part, head_fits, row_fits}
use Rattle.key_schema.specs.declared.key.Key.TheVariants as keys
use Rattle.tree_model.specs.declared.new_node.NewNode.{NewNode}
use Rattle.tree_model.specs.declared.new_node.NewPart.{NewPart}
use Rattle.tree_model.specs.declared.new_node.NewPart.TheVariants as new
use Rattle.tree_model.specs.Creating.{first_hint, part_for}
use Rattle.tree_model.specs.Tree.{next_at}
use Rattle.row_tree.specs.NewRows.{row_part, new_row, IsNewRow, IsPart}
use Rattle.row_tree.specs.TreeOf.{node_part}
use Rattle.row_tree.specs.TypedRows.{TypedRows, kind_of, value_at, parent_of}
use Rattle.row_tree.specs.Values.{AllocValue}
use Rattle.row_tree.specs.WellFormed.{FitsConfig}

-- ---- layouts

-- a chunk and stripe that a configuration of so many chains admits
record IsAdmitted (C : Settings) (given : DefaultLayout) : Type 0 where
  pub chunk_from : 1 ≤ given.chunk
  pub chunk_to : given.chunk ≤ 4194304
  pub stripe_from : 1 ≤ given.stripe
  pub stripe_to : given.stripe ≤ C.chains

is_admitted : (C : Settings) (given : DefaultLayout) → admits C given ≡ true → IsAdmitted C given
is_admitted C given fits =
    let all = and_parts (nat_le 1 given.chunk && nat_le given.chunk 4194304) (nat_le 1 given.stripe && nat_le given.stripe C.chains) fits in
    let chunks = and_parts (nat_le 1 given.chunk) (nat_le given.chunk 4194304) all.0 in
    let stripes = and_parts (nat_le 1 given.stripe) (nat_le given.stripe C.chains) all.1 in
    record {
      chunk_from = leb-true 1 given.chunk chunks.0;
      chunk_to = leb-true given.chunk 4194304 chunks.1;
      stripe_from = leb-true 1 given.stripe stripes.0;
      stripe_to = leb-true given.stripe C.chains stripes.1;
    }

-- 1 to 16 places, and no more than the stripe
record IsHint (stripe hint : ℕ) : Type 0 where
  pub from : 1 ≤ hint
  pub to : hint ≤ stripe
  pub most : hint ≤ 16

hint_is : (stripe : ℕ) → 1 ≤ stripe → IsHint stripe (first_hint stripe)
hint_is stripe low = by (nat_lt stripe 16) refl
  where
    by : (b : Bool) → nat_lt stripe 16 ≡ b → IsHint stripe (first_hint stripe)
    by true e = let less : stripe < 16 = ltb-true stripe 16 e in
        subst (IsHint stripe) (sym (ap (λ b. cond b stripe 16) e)) (record { from = low; to = omega arith; most = omega arith })
    by false e = let more : 16 ≤ stripe = ltb-false stripe 16 e in
        subst (IsHint stripe) (sym (ap (λ b. cond b stripe 16) e)) (record { from = omega arith; to = more; most = omega arith })

-- ---- the new row

module _ (C : Settings) (node : NewNode) (stamp id dir : ℕ) (given : DefaultLayout) (is : IsNewRow C node stamp id dir given) where
  abbrev admitted : IsAdmitted C given
  admitted = is_admitted C given is.admitted

  few_stripe : given.stripe ≤ 256
  few_stripe = let a = (admitted).stripe_to in let b = is.few_chains in omega arith

  start_small : id % C.chains ≤ 255
  start_small =
      let a = (admitted).stripe_from in
      let b = (admitted).stripe_to in
      let c = is.few_chains in
      let some : 1 ≤ C.chains = omega arith in
      by C.chains some c
    where
      by : (chains : ℕ) → 1 ≤ chains → chains ≤ 256 → id % chains ≤ 255
      by chains low high = let m : id % chains < chains = omega arith in omega arith

  layout_fits : layout.fits (layout_at C id given) ≡ true
  unfolding layout
  layout_fits =
      both (chunk_fits given.chunk (admitted).chunk_from (admitted).chunk_to)
      (both (stripe_fits given.stripe (admitted).stripe_from few_stripe) (both (within_fits number_2 0 255 (id % C.chains) (let small = start_small in fits_2 (id % C.chains) (omega arith)) (omega arith) start_small) (id_fits id is.id_small)))

  used_fits : used_layout.fits (layout_at C id given, first_hint given.stripe) ≡ true
  unfolding used_layout
  used_fits =
      let hint = hint_is given.stripe (admitted).stripe_from in
      let most = hint.most in
      both layout_fits (within_fits number_2 1 given.stripe (first_hint given.stripe) (fits_2 (first_hint given.stripe) (omega arith)) hint.from hint.to)

  part_fits : (part : NewPart) → IsPart part → is_part (row_part C part id dir given) ≡ true
  unfolding dir_part file_part file_size number_4 number_8
  part_fits new.Dir ok = both (id_fits dir is.dir_small) (both (chunk_fits given.chunk (admitted).chunk_from (admitted).chunk_to) (stripe_fits given.stripe (admitted).stripe_from few_stripe))
  part_fits new.File ok = used_fits
  part_fits (new.Link target) ok = ok

  pub new_row_fits : IsTrue (is_inode (new_row C node stamp id dir given))
  new_row_fits =
      row_fits (new_row C node stamp id dir given)
      (head_fits (new_row C node stamp id dir given) is.mode_small (omega arith) (omega arith) (omega arith) is.stamp_small is.stamp_small is.stamp_small)
      (part_fits node.part is.part_is)

-- ---- what the row says

module _ (C : Settings) where
  pub same_part : (part : NewPart) (id dir : ℕ) (given : DefaultLayout) → node_part (row_part C part id dir given) ≡ part_for C part id given
  same_part new.Dir id dir given = refl
  same_part new.File id dir given = refl
  same_part (new.Link target) id dir given = refl

  pub inside : (part : NewPart) (id dir : ℕ) (given : DefaultLayout) → kind_of (row_part C part id dir given) ≡ kinds.Dir → parent_of (row_part C part id dir given) ≡ Some dir
  inside new.Dir id dir given is = refl
  inside new.File id dir given is = cc
  inside (new.Link target) id dir given is = cc

  pub fits_config : (part : NewPart) (id dir : ℕ) (given : DefaultLayout) → admits C given ≡ true → FitsConfig C id (row_part C part id dir given)
  fits_config new.Dir id dir given fits = fits
  fits_config new.File id dir given fits = let hint = hint_is given.stripe (is_admitted C given fits).stripe_from in ((fits, refl), hint.from, hint.to)
  fits_config (new.Link target) id dir given fits = tt

-- ---- numbers

-- a number raised is another
pub number_changes : (S : TypedRows) (server number : ℕ) → next_at S.next server ≡ number → value_at S (keys.Alloc server) ≢ Some (AllocValue (number + 1))
number_changes S server number is = by (get S.next server) refl
  where
    same : (v : ℕ) → Some (AllocValue v) ≡ Some (AllocValue (number + 1)) → v ≡ number + 1
    same v e = cc

    by : (o : Option ℕ) → get S.next server ≡ o → option_map AllocValue o ≢ Some (AllocValue (number + 1))
    by None at e = absurd (cc)
    by (Some v) at e = let value : next_at S.next server ≡ v = ap (λ o. unwrap_or o 1) at in let other = same v e in omega arith
