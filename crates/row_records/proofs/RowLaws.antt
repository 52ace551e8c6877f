-- The other rows read back what they spell, and read nothing else.
use Rattle.std.proofs.Common.{◌≡◌, ℕ, true, List, ◌++◌, Ok, refl}
use Rattle.byte_fields.specs.Forms.{nothing, reads_arm}
use Rattle.byte_fields.specs.Fields.{number_1, number_8, used_layout}
use Rattle.byte_fields.proofs.FormLaws.{IsForm, AreArms, nothing_is, paired_is, shaped_is, arm_is, arm_back, choice_is}
use Rattle.byte_fields.proofs.FieldLaws.{within_is, inode_id_is, time_is, kind_is, used_layout_is, versioned_is}
use Rattle.byte_fields.proofs.Numbers.{number_1_is, number_8_is}
use Rattle.row_records.specs.declared.rows.GcRow.{GcRow}
use Rattle.row_records.specs.declared.rows.GcRow.TheVariants as gc_rows
use Rattle.row_records.specs.Rows.{dent, session_row, kept, alloc_row, written_gc, gc_arms, by_phase, gc}
use Rattle.row_records.proofs.ReplyLaws.{reply_is}

pub dent_is : IsForm dent
unfolding dent
dent_is = versioned_is _ (shaped_is _ _ _ (paired_is _ _ inode_id_is kind_is) (λ x. refl) (λ r. refl))

pub session_row_is : IsForm session_row
unfolding session_row
session_row_is = versioned_is _ (shaped_is _ _ _ time_is (λ x. refl) (λ r. refl))

pub kept_is : IsForm kept
unfolding kept
kept_is = versioned_is _ (shaped_is _ _ _ (paired_is _ _ (within_is number_8 _ _ number_8_is) reply_is) (λ x. refl) (λ r. refl))

pub alloc_row_is : IsForm alloc_row
unfolding alloc_row
alloc_row_is = versioned_is _ (shaped_is _ _ _ (within_is number_8 _ _ number_8_is) (λ x. refl) (λ r. refl))

gc_back : (g : GcRow) (left : ℕ) (rest : List ℕ) → (written_gc g).fits ≡ true → reads_arm gc_arms (written_gc g).tag left ((written_gc g).spelled ++ rest) ≡ Ok (g, rest)
gc_back gc_rows.Waiting left rest fits = refl
gc_back (gc_rows.Purged layout hint) left rest fits = arm_back 1 used_layout (λ (l, h). gc_rows.Purged l h) used_layout_is (layout, hint) rest fits

gc_are : AreArms written_gc gc_arms
gc_are = record {
  each = (arm_is written_gc 0 nothing (λ x. gc_rows.Waiting) nothing_is (λ x. refl), (arm_is written_gc 1 used_layout (λ (l, h). gc_rows.Purged l h) used_layout_is (λ x. refl), tt));
  back = gc_back;
}

by_phase_is : IsForm by_phase
unfolding by_phase
by_phase_is = choice_is number_1 written_gc gc_arms number_1_is gc_are

pub gc_is : IsForm gc
unfolding gc
gc_is = versioned_is by_phase by_phase_is
