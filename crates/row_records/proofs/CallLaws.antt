-- A call reads back what it spells, and reads nothing else.
use Rattle.std.proofs.Common.{◌≡◌, ℕ, true, List, ◌++◌, Ok, refl}
use Rattle.fs_base.specs.declared.call.Call.{Call}
use Rattle.fs_base.specs.declared.call.Call.TheVariants as calls
use Rattle.byte_fields.specs.Forms.{nothing, paired, reads_arm}
use Rattle.byte_fields.specs.Fields.{number_1, number_2, number_4, number_8, inode_id, mode, time, text, client}
use Rattle.byte_fields.proofs.FormLaws.{IsForm, EachArm, nothing_is, paired_is, shaped_is, listed_is, arm_is, arm_back, choice_is}
use Rattle.byte_fields.proofs.FieldLaws.{within_is, inode_id_is, mode_is, time_is, file_size_is, optional_is, text_is}
use Rattle.byte_fields.proofs.Numbers.{number_1_is, number_2_is, number_4_is, number_8_is, client_is}
use Rattle.row_records.specs.Calls.{place, session, default_layout, made, changes, ascends, clients, span, written_call, query_arms, making_arms, naming_arms, writing_arms, deleting_arms, moving_arms, call, stamped_call}

place_is : IsForm place
unfolding place
place_is = shaped_is _ _ _ (paired_is _ _ inode_id_is text_is) (λ x. refl) (λ p. refl)

session_is : IsForm session
unfolding session
session_is = shaped_is _ _ _ (paired_is _ _ inode_id_is number_8_is) (λ x. refl) (λ s. refl)

default_layout_is : IsForm default_layout
unfolding default_layout
default_layout_is = shaped_is _ _ _ (paired_is _ _ number_4_is number_2_is) (λ x. refl) (λ l. refl)

made_is : IsForm made
unfolding made
made_is = paired_is _ _ place_is (paired_is _ _ mode_is (optional_is default_layout default_layout_is))

changes_is : IsForm changes
unfolding changes
changes_is =
    shaped_is _ _ _ (paired_is _ _ (optional_is mode mode_is) (paired_is _ _ (optional_is number_4 number_4_is) (paired_is _ _ (optional_is number_4 number_4_is) (paired_is _ _ (optional_is time time_is) (optional_is time time_is))))) (λ x. refl) (λ c. refl)

clients_is : IsForm clients
unfolding clients
clients_is = listed_is number_8 client ascends number_8_is client_is

span_is : IsForm span
unfolding span
span_is = paired_is _ _ file_size_is (within_is number_8 1 16777216 number_8_is)

moving_each : EachArm written_call moving_arms
unfolding moving_arms
moving_each = (
  arm_is written_call 25 (paired session (paired span number_1)) (λ (s, ((offset, len), fill)). calls.Write s offset len fill) (paired_is session (paired span number_1) session_is (paired_is span number_1 span_is number_1_is)) (λ x. refl),
  (
    arm_is written_call 26 (paired inode_id span) (λ (id, (offset, len)). calls.Read id offset len) (paired_is inode_id span inode_id_is span_is) (λ x. refl),
    (arm_is written_call 27 nothing (λ x. calls.Sweep) nothing_is (λ x. refl), tt),
  ),
)

deleting_each : EachArm written_call deleting_arms
unfolding deleting_arms
deleting_each = (
  arm_is written_call 22 inode_id (λ id. calls.Purge id) inode_id_is (λ x. refl),
  (
    arm_is written_call 23 inode_id (λ id. calls.Reap id) inode_id_is (λ x. refl),
    (arm_is written_call 24 clients (λ living. calls.Prune living) clients_is (λ x. refl), moving_each),
  ),
)

writing_each : EachArm written_call writing_arms
unfolding writing_arms
writing_each = (
  arm_is written_call 17 (paired session number_2) (λ (s, at). calls.Extend s at) (paired_is session number_2 session_is number_2_is) (λ x. refl),
  (
    arm_is written_call 18 (paired session (paired number_8 number_4)) (λ (s, (end, truncs)). calls.Report s end truncs) (paired_is session (paired number_8 number_4) session_is (paired_is number_8 number_4 number_8_is number_4_is)) (λ x. refl),
    (
      arm_is written_call 19 session (λ s. calls.Fsync s) session_is (λ x. refl),
      (
        arm_is written_call 20 session (λ s. calls.Close s) session_is (λ x. refl),
        (arm_is written_call 21 (paired session number_8) (λ (s, length). calls.Truncate s length) (paired_is session number_8 session_is number_8_is) (λ x. refl), deleting_each),
      ),
    ),
  ),
)

naming_each : EachArm written_call naming_arms
unfolding naming_arms
naming_each = (
  arm_is written_call 13 place (λ p. calls.Unlink p) place_is (λ x. refl),
  (
    arm_is written_call 14 place (λ p. calls.Rmdir p) place_is (λ x. refl),
    (
      arm_is written_call 15 (paired place place) (λ (p, q). calls.Rename p q) (paired_is place place place_is place_is) (λ x. refl),
      (arm_is written_call 16 place (λ p. calls.Open p) place_is (λ x. refl), writing_each),
    ),
  ),
)

making_each : EachArm written_call making_arms
unfolding making_arms
making_each = (
  arm_is written_call 8 made (λ (p, (m, l)). calls.Mkdir p m l) made_is (λ x. refl),
  (
    arm_is written_call 9 made (λ (p, (m, l)). calls.Create p m l) made_is (λ x. refl),
    (
      arm_is written_call 10 (paired place text) (λ (p, target). calls.Symlink p target) (paired_is place text place_is text_is) (λ x. refl),
      (
        arm_is written_call 11 (paired place changes) (λ (p, c). calls.Setattr p c) (paired_is place changes place_is changes_is) (λ x. refl),
        (arm_is written_call 12 (paired place place) (λ (p, q). calls.Link p q) (paired_is place place place_is place_is) (λ x. refl), naming_each),
      ),
    ),
  ),
)

query_each : EachArm written_call query_arms
unfolding query_arms
query_each = (
  arm_is written_call 1 place (λ p. calls.Lookup p) place_is (λ x. refl),
  (
    arm_is written_call 2 place (λ p. calls.Stat p) place_is (λ x. refl),
    (
      arm_is written_call 3 place (λ p. calls.List p) place_is (λ x. refl),
      (
        arm_is written_call 4 place (λ p. calls.Readlink p) place_is (λ x. refl),
        (
          arm_is written_call 5 place (λ p. calls.Openr p) place_is (λ x. refl),
          (
            arm_is written_call 6 session (λ s. calls.Fstat s) session_is (λ x. refl),
            (arm_is written_call 7 nothing (λ x. calls.Doomed) nothing_is (λ x. refl), making_each),
          ),
        ),
      ),
    ),
  ),
)

call_back : (c : Call) (left : ℕ) (rest : List ℕ) → (written_call c).fits ≡ true → reads_arm query_arms (written_call c).tag left ((written_call c).spelled ++ rest) ≡ Ok (c, rest)
unfolding query_arms making_arms naming_arms writing_arms deleting_arms moving_arms
call_back (calls.Lookup p) left rest fits = arm_back 1 place (λ p. calls.Lookup p) place_is p rest fits
call_back (calls.Stat p) left rest fits = arm_back 2 place (λ p. calls.Stat p) place_is p rest fits
call_back (calls.List p) left rest fits = arm_back 3 place (λ p. calls.List p) place_is p rest fits
call_back (calls.Readlink p) left rest fits = arm_back 4 place (λ p. calls.Readlink p) place_is p rest fits
call_back (calls.Openr p) left rest fits = arm_back 5 place (λ p. calls.Openr p) place_is p rest fits
call_back (calls.Fstat s) left rest fits = arm_back 6 session (λ s. calls.Fstat s) session_is s rest fits
call_back calls.Doomed left rest fits = arm_back 7 nothing (λ x. calls.Doomed) nothing_is tt rest fits
call_back (calls.Mkdir p m l) left rest fits = arm_back 8 made (λ (p, (m, l)). calls.Mkdir p m l) made_is (p, (m, l)) rest fits
call_back (calls.Create p m l) left rest fits = arm_back 9 made (λ (p, (m, l)). calls.Create p m l) made_is (p, (m, l)) rest fits
call_back (calls.Symlink p target) left rest fits = arm_back 10 (paired place text) (λ (p, target). calls.Symlink p target) (paired_is place text place_is text_is) (p, target) rest fits
call_back (calls.Setattr p c) left rest fits = arm_back 11 (paired place changes) (λ (p, c). calls.Setattr p c) (paired_is place changes place_is changes_is) (p, c) rest fits
call_back (calls.Link p q) left rest fits = arm_back 12 (paired place place) (λ (p, q). calls.Link p q) (paired_is place place place_is place_is) (p, q) rest fits
call_back (calls.Unlink p) left rest fits = arm_back 13 place (λ p. calls.Unlink p) place_is p rest fits
call_back (calls.Rmdir p) left rest fits = arm_back 14 place (λ p. calls.Rmdir p) place_is p rest fits
call_back (calls.Rename p q) left rest fits = arm_back 15 (paired place place) (λ (p, q). calls.Rename p q) (paired_is place place place_is place_is) (p, q) rest fits
call_back (calls.Open p) left rest fits = arm_back 16 place (λ p. calls.Open p) place_is p rest fits
call_back (calls.Extend s at) left rest fits = arm_back 17 (paired session number_2) (λ (s, at). calls.Extend s at) (paired_is session number_2 session_is number_2_is) (s, at) rest fits
call_back (calls.Report s end truncs) left rest fits = arm_back 18 (paired session (paired number_8 number_4)) (λ (s, (end, truncs)). calls.Report s end truncs) (paired_is session (paired number_8 number_4) session_is (paired_is number_8 number_4 number_8_is number_4_is)) (s, (end, truncs)) rest fits
call_back (calls.Fsync s) left rest fits = arm_back 19 session (λ s. calls.Fsync s) session_is s rest fits
call_back (calls.Close s) left rest fits = arm_back 20 session (λ s. calls.Close s) session_is s rest fits
call_back (calls.Truncate s length) left rest fits = arm_back 21 (paired session number_8) (λ (s, length). calls.Truncate s length) (paired_is session number_8 session_is number_8_is) (s, length) rest fits
call_back (calls.Purge id) left rest fits = arm_back 22 inode_id (λ id. calls.Purge id) inode_id_is id rest fits
call_back (calls.Reap id) left rest fits = arm_back 23 inode_id (λ id. calls.Reap id) inode_id_is id rest fits
call_back (calls.Prune living) left rest fits = arm_back 24 clients (λ living. calls.Prune living) clients_is living rest fits
call_back (calls.Write s offset len fill) left rest fits = arm_back 25 (paired session (paired span number_1)) (λ (s, ((offset, len), fill)). calls.Write s offset len fill) (paired_is session (paired span number_1) session_is (paired_is span number_1 span_is number_1_is)) (s, ((offset, len), fill)) rest fits
call_back (calls.Read id offset len) left rest fits = arm_back 26 (paired inode_id span) (λ (id, (offset, len)). calls.Read id offset len) (paired_is inode_id span inode_id_is span_is) (id, (offset, len)) rest fits
call_back calls.Sweep left rest fits = arm_back 27 nothing (λ x. calls.Sweep) nothing_is tt rest fits

call_is : IsForm call
unfolding call
call_is = choice_is number_1 written_call query_arms number_1_is (record { each = query_each; back = call_back })

pub stamped_call_is : IsForm stamped_call
unfolding stamped_call
stamped_call_is = paired_is time call time_is call_is
