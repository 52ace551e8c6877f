-- The opening rows as bytes are those of the new tree.
use Rattle.std.proofs.Common.{◌≡◌, ℕ, ◌<◌, ◌≤◌, ◌/◌, ◌%◌, ◌^◌, ◌&&◌, Bool, true, nat_lt, le-leb, lt-ltb, List, [], refl, sym, subst, arith}
use Rattle.fs_base.specs.declared.row.Row.{Row}
use Rattle.std.specs.Prelude.{Some, IsTrue}
use Rattle.fs_base.specs.Config.{Settings}
use Rattle.inode_record.specs.Inode.{inode, by_kind, head, access, times, dir_part, is_inode}
use Rattle.byte_fields.specs.Fields.{mode, time, inode_id, chunk, stripe, number_1, number_2, number_4, number_8}
use Rattle.key_schema.specs.declared.key.Key.TheVariants as keys
use Rattle.tree_model.specs.Tree.{new_tree}
use Rattle.tree_model.proofs.MapLaws.{and_both}
use Rattle.row_tree.specs.HasTree.{HasTree}
use Rattle.row_tree.specs.Opening.{HasLimits, root_row, opening_rows, opening_bytes}
use Rattle.row_tree.specs.Spelling.{Spells}
use Rattle.row_tree.specs.TypedRows.{no_rows}
use Rattle.row_tree.specs.Values.{InodeValue, spelled_value}
use Rattle.row_tree.proofs.Opening.{opening_is_well_formed, tree_of_opening}
use Rattle.row_tree.proofs.SpellingLaws.{spells_write, spells_nothing}

byte : (n : ℕ) → nat_lt (n % 256) 256 ≡ true
byte n = lt-ltb (n % 256) 256 (omega arith)

small_chunk : (n : ℕ) → n ≤ 4194304 → n < 4294967296
small_chunk n h = omega arith

small_stripe : (n chains : ℕ) → n ≤ chains → chains ≤ 256 → n < 65536
small_stripe n chains h k = omega arith

few_chains : (n chains : ℕ) → n ≤ chains → chains ≤ 256 → n ≤ 256
few_chains n chains h k = omega arith

both_true : {a b : Bool} → a ≡ true → b ≡ true → (a && b) ≡ true
both_true {a} {b} = and_both a b

chunk_fits : (n : ℕ) → 1 ≤ n → n ≤ 4194304 → chunk.fits n ≡ true
unfolding chunk number_4
chunk_fits n low high =
    both_true (both_true (lt-ltb n 4294967296 (small_chunk n high)) (both_true (byte n) (both_true (byte (n / 256)) (both_true (byte (n / 65536)) (both_true (byte (n / 16777216)) refl)))))
    (both_true (le-leb 1 n low) (le-leb n 4194304 high))

stripe_fits : (n chains : ℕ) → 1 ≤ n → n ≤ chains → chains ≤ 256 → stripe.fits n ≡ true
unfolding stripe number_2
stripe_fits n chains low high few =
    both_true (both_true (lt-ltb n 65536 (small_stripe n chains high few)) (both_true (byte n) (both_true (byte (n / 256)) refl)))
    (both_true (le-leb 1 n low) (le-leb n 256 (few_chains n chains high few)))

root_fits : (C : Settings) → HasLimits C → IsTrue (is_inode (root_row C))
unfolding inode by_kind head access times dir_part mode time inode_id number_1 number_2 number_4 number_8
root_fits C fits = both_true (chunk_fits C.chunk fits.chunk_from fits.chunk_to) (stripe_fits C.stripe C.chains fits.stripe_from fits.stripe_to fits.chains_to)

root_id : 0 < 2 ^ 36
root_id = omega arith

opening_spelled : (C : Settings) → HasLimits C → Spells (opening_bytes C) (opening_rows C)
unfolding spelled_value
opening_spelled C fits = spells_write [] no_rows tt spells_nothing (keys.Inode 0) (Some (InodeValue (root_row C))) root_id (refl, root_fits C fits)

opening_has_tree : (C : Settings) → HasLimits C → HasTree C (opening_bytes C) (new_tree C)
opening_has_tree C fits = (opening_rows C, opening_spelled C fits, opening_is_well_formed C fits, tree_of_opening C)

pub opening_tree : (C : Settings) (rows : List Row) → HasLimits C → rows ≡ opening_bytes C → HasTree C rows (new_tree C)
opening_tree C rows fits is = subst (λ R. HasTree C R (new_tree C)) (sym is) (opening_has_tree C fits)

-- limits of numbers that are the configuration's
pub limits_are : (C : Settings) (chunk stripe chains : ℕ) → chunk ≡ C.chunk → stripe ≡ C.stripe → chains ≡ C.chains
    → (1 ≤ chunk) × (chunk ≤ 4194304) → (1 ≤ stripe) × (stripe ≤ C.chains) → chains ≤ 256 → HasLimits C
limits_are C _ _ _ c s n chunks stripes few = record {
  chains_to = subst (λ x. x ≤ 256) n few;
  chunk_from = subst (λ x. 1 ≤ x) c chunks.0;
  chunk_to = subst (λ x. x ≤ 4194304) c chunks.1;
  stripe_from = subst (λ x. 1 ≤ x) s stripes.0;
  stripe_to = subst (λ x. x ≤ C.chains) s stripes.1;
}
