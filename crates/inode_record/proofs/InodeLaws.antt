-- An inode's row reads back what it spells, and reads nothing else.
use Rattle.std.proofs.Common.{◌≡◌, ℕ, true, List, [], ◌∷◌, ◌++◌, Ok, refl}
use Rattle.byte_fields.specs.Forms.{reads_arm, paired}
use Rattle.byte_fields.specs.Fields.{number_1, number_4, path_text}
use Rattle.byte_fields.proofs.FormLaws.{IsForm, AreArms, paired_is, shaped_is, arm_is, arm_back, choice_is}
use Rattle.byte_fields.proofs.FieldLaws.{within_is, inode_id_is, mode_is, time_is, file_size_is, chunk_is, stripe_is, used_layout_is, path_text_is, versioned_is}
use Rattle.byte_fields.proofs.Numbers.{number_1_is, number_4_is}
use Rattle.inode_record.specs.Inode.{access, times, head, dir_part, file_part, with_part, written_part, written_inode, dir_arm, file_arm, link_arm, by_kind, inode}
use Rattle.inode_record.specs.declared.inode.Head.{Head}
use Rattle.inode_record.specs.declared.inode.InodePart.{InodePart}
use Rattle.inode_record.specs.declared.inode.InodePart.TheVariants as parts

access_is : IsForm access
unfolding access
access_is = shaped_is _ _ _ (paired_is _ _ mode_is (paired_is _ _ number_4_is (paired_is _ _ number_4_is (within_is number_4 _ _ number_4_is)))) (λ x. refl) (λ a. refl)

times_is : IsForm times
unfolding times
times_is = shaped_is _ _ _ (paired_is _ _ time_is (paired_is _ _ time_is time_is)) (λ x. refl) (λ t. refl)

head_is : IsForm head
unfolding head
head_is = shaped_is _ _ _ (paired_is _ _ access_is times_is) (λ x. refl) (λ h. refl)

dir_part_is : IsForm dir_part
unfolding dir_part
dir_part_is = paired_is _ _ inode_id_is (paired_is _ _ chunk_is stripe_is)

file_part_is : IsForm file_part
unfolding file_part
file_part_is = paired_is _ _ file_size_is (paired_is _ _ number_4_is used_layout_is)

part_back : (h : Head) (part : InodePart) (left : ℕ) (rest : List ℕ) → (written_part h part).fits ≡ true → reads_arm (dir_arm ∷ file_arm ∷ link_arm ∷ []) (written_part h part).tag left ((written_part h part).spelled ++ rest) ≡ Ok (with_part h part, rest)
part_back h (parts.Dir parent chunk stripe) left rest fits = arm_back 1 (paired head dir_part) _ (paired_is head dir_part head_is dir_part_is) (h, (parent, (chunk, stripe))) rest fits
part_back h (parts.File length truncs layout hint) left rest fits = arm_back 2 (paired head file_part) _ (paired_is head file_part head_is file_part_is) (h, (length, (truncs, (layout, hint)))) rest fits
part_back h (parts.Link target) left rest fits = arm_back 3 (paired head path_text) _ (paired_is head path_text head_is path_text_is) (h, target) rest fits

arms_are : AreArms written_inode (dir_arm ∷ file_arm ∷ link_arm ∷ [])
arms_are = record {
  each = (
    arm_is written_inode 1 (paired head dir_part) _ (paired_is head dir_part head_is dir_part_is) (λ x. refl),
    (
      arm_is written_inode 2 (paired head file_part) _ (paired_is head file_part head_is file_part_is) (λ x. refl),
      (arm_is written_inode 3 (paired head path_text) _ (paired_is head path_text head_is path_text_is) (λ x. refl), tt),
    ),
  );
  back = λ row left rest fits. part_back _ row.part left rest fits;
}

by_kind_is : IsForm by_kind
unfolding by_kind
by_kind_is = choice_is number_1 written_inode _ number_1_is arms_are

pub inode_is : IsForm inode
unfolding inode
inode_is = versioned_is by_kind by_kind_is
