-- A reply reads back what it spells, and reads nothing else.
use Rattle.std.proofs.Common.{◌≡◌, ℕ, Bool, true, false, List, ◌++◌, Ok, refl}
use Rattle.fs_base.specs.declared.code.Code.{Code}
use Rattle.fs_base.specs.declared.code.Code.TheVariants as codes
use Rattle.fs_base.specs.declared.code.Limit.{Limit}
use Rattle.fs_base.specs.declared.code.Limit.TheVariants as limits
use Rattle.fs_base.specs.declared.reply.DeletionPhase.{DeletionPhase}
use Rattle.fs_base.specs.declared.reply.DeletionPhase.TheVariants as phases
use Rattle.fs_base.specs.declared.reply.Reply.{Reply}
use Rattle.fs_base.specs.declared.reply.Reply.TheVariants as replies
use Rattle.byte_fields.specs.Forms.{nothing, paired, anywhere, reads_arm}
use Rattle.byte_fields.specs.Fields.{number_1, number_2, number_4, number_8, inode_id, file_size, kind, text}
use Rattle.byte_fields.proofs.FormLaws.{IsForm, EachArm, AreArms, nothing_is, paired_is, shaped_is, listed_is, arm_is, arm_back, choice_is}
use Rattle.byte_fields.proofs.FieldLaws.{inode_id_is, mode_is, time_is, file_size_is, layout_of_is, kind_is, text_is}
use Rattle.byte_fields.proofs.Numbers.{number_1_is, number_2_is, number_4_is, number_8_is}
use Rattle.row_records.specs.Replies.{identity, ownership, three_times, attributes, entry, names, told_layout, file_info, written_bool, bool_arms, adopted, written_phase, phase_arms, phase, doomed_inode, doomed, data_run, data_runs, written_limit, limit_arms, limit, written_code, written_reply, path_arms, inode_arms, code_arms, found_arms, file_arms, count_arms, reply}

identity_is : IsForm identity
unfolding identity
identity_is = paired_is _ _ inode_id_is (paired_is _ _ kind_is mode_is)

ownership_is : IsForm ownership
unfolding ownership
ownership_is = paired_is _ _ number_4_is (paired_is _ _ number_4_is number_4_is)

three_times_is : IsForm three_times
unfolding three_times
three_times_is = paired_is _ _ time_is (paired_is _ _ time_is time_is)

attributes_is : IsForm attributes
unfolding attributes
attributes_is = shaped_is _ _ _ (paired_is _ _ identity_is (paired_is _ _ ownership_is (paired_is _ _ three_times_is number_8_is))) (λ x. refl) (λ a. refl)

entry_is : IsForm entry
unfolding entry
entry_is = shaped_is _ _ _ (paired_is _ _ text_is (paired_is _ _ inode_id_is kind_is)) (λ x. refl) (λ e. refl)

names_is : IsForm names
unfolding names
names_is = listed_is number_8 entry anywhere number_8_is entry_is

told_layout_is : IsForm told_layout
unfolding told_layout
told_layout_is = layout_of_is number_4 number_2 number_2 number_8 number_4_is number_2_is number_2_is number_8_is

file_info_is : IsForm file_info
unfolding file_info
file_info_is = shaped_is _ _ _ (paired_is _ _ inode_id_is (paired_is _ _ number_8_is (paired_is _ _ number_4_is (paired_is _ _ told_layout_is number_2_is)))) (λ x. refl) (λ f. refl)

bool_back : (b : Bool) (left : ℕ) (rest : List ℕ) → (written_bool b).fits ≡ true → reads_arm bool_arms (written_bool b).tag left ((written_bool b).spelled ++ rest) ≡ Ok (b, rest)
bool_back false left rest fits = refl
bool_back true left rest fits = refl

bool_are : AreArms written_bool bool_arms
bool_are = record { each = (arm_is written_bool 0 nothing (λ x. false) nothing_is (λ x. refl), (arm_is written_bool 1 nothing (λ x. true) nothing_is (λ x. refl), tt)); back = bool_back }

adopted_is : IsForm adopted
unfolding adopted
adopted_is = choice_is number_1 written_bool bool_arms number_1_is bool_are

phase_back : (p : DeletionPhase) (left : ℕ) (rest : List ℕ) → (written_phase p).fits ≡ true → reads_arm phase_arms (written_phase p).tag left ((written_phase p).spelled ++ rest) ≡ Ok (p, rest)
phase_back phases.Waiting left rest fits = refl
phase_back phases.Purged left rest fits = refl

phase_are : AreArms written_phase phase_arms
phase_are = record { each = (arm_is written_phase 0 nothing (λ x. phases.Waiting) nothing_is (λ x. refl), (arm_is written_phase 1 nothing (λ x. phases.Purged) nothing_is (λ x. refl), tt)); back = phase_back }

phase_is : IsForm phase
unfolding phase
phase_is = choice_is number_1 written_phase phase_arms number_1_is phase_are

doomed_inode_is : IsForm doomed_inode
unfolding doomed_inode
doomed_inode_is = shaped_is _ _ _ (paired_is _ _ inode_id_is phase_is) (λ x. refl) (λ d. refl)

doomed_is : IsForm doomed
unfolding doomed
doomed_is = listed_is number_8 doomed_inode anywhere number_8_is doomed_inode_is

data_run_is : IsForm data_run
unfolding data_run
data_run_is = shaped_is _ _ _ (paired_is _ _ number_8_is (paired_is _ _ number_8_is number_1_is)) (λ x. refl) (λ r. refl)

data_runs_is : IsForm data_runs
unfolding data_runs
data_runs_is = listed_is number_8 data_run anywhere number_8_is data_run_is

limit_back : (l : Limit) (left : ℕ) (rest : List ℕ) → (written_limit l).fits ≡ true → reads_arm limit_arms (written_limit l).tag left ((written_limit l).spelled ++ rest) ≡ Ok (l, rest)
limit_back limits.Inodes left rest fits = refl
limit_back limits.Links left rest fits = refl
limit_back limits.Truncations left rest fits = refl

limit_are : AreArms written_limit limit_arms
limit_are = record {
  each = (arm_is written_limit 1 nothing (λ x. limits.Inodes) nothing_is (λ x. refl), (arm_is written_limit 2 nothing (λ x. limits.Links) nothing_is (λ x. refl), (arm_is written_limit 3 nothing (λ x. limits.Truncations) nothing_is (λ x. refl), tt)));
  back = limit_back;
}

limit_is : IsForm limit
unfolding limit
limit_is = choice_is number_1 written_limit limit_arms number_1_is limit_are

code_each : EachArm written_reply code_arms
unfolding code_arms
code_each = (
  arm_is written_reply 81 nothing (λ x. replies.Refused codes.TooLong) nothing_is (λ x. refl),
  (
    arm_is written_reply 82 limit (λ which. replies.Refused (codes.AtLimit which)) limit_is (λ x. refl),
    (
      arm_is written_reply 83 nothing (λ x. replies.Refused codes.ShortHint) nothing_is (λ x. refl),
      (
        arm_is written_reply 84 number_8 (λ n. replies.Refused (codes.Stale n)) number_8_is (λ x. refl),
        (
          arm_is written_reply 85 nothing (λ x. replies.Refused codes.Conflict) nothing_is (λ x. refl),
          (
            arm_is written_reply 86 nothing (λ x. replies.Refused codes.StoreFull) nothing_is (λ x. refl),
            (
              arm_is written_reply 87 (paired number_1 number_8) (λ (node, written). replies.Refused (codes.NodeFull node written)) (paired_is number_1 number_8 number_1_is number_8_is) (λ x. refl),
              (arm_is written_reply 88 (paired number_8 number_8) (λ (version, written). replies.Refused (codes.Removed version written)) (paired_is number_8 number_8 number_8_is number_8_is) (λ x. refl), tt),
            ),
          ),
        ),
      ),
    ),
  ),
)

inode_each : EachArm written_reply inode_arms
unfolding inode_arms
inode_each = (
  arm_is written_reply 73 nothing (λ x. replies.Refused codes.IntoItself) nothing_is (λ x. refl),
  (
    arm_is written_reply 74 nothing (λ x. replies.Refused codes.IsRoot) nothing_is (λ x. refl),
    (
      arm_is written_reply 75 nothing (λ x. replies.Refused codes.NotLink) nothing_is (λ x. refl),
      (
        arm_is written_reply 76 nothing (λ x. replies.Refused codes.NoSession) nothing_is (λ x. refl),
        (
          arm_is written_reply 77 nothing (λ x. replies.Refused codes.InUse) nothing_is (λ x. refl),
          (
            arm_is written_reply 78 nothing (λ x. replies.Refused codes.NotDoomed) nothing_is (λ x. refl),
            (
              arm_is written_reply 79 nothing (λ x. replies.Refused codes.NotPurged) nothing_is (λ x. refl),
              (arm_is written_reply 80 nothing (λ x. replies.Refused codes.BadLayout) nothing_is (λ x. refl), code_each),
            ),
          ),
        ),
      ),
    ),
  ),
)

path_each : EachArm written_reply path_arms
unfolding path_arms
path_each = (
  arm_is written_reply 65 nothing (λ x. replies.Refused codes.BadPath) nothing_is (λ x. refl),
  (
    arm_is written_reply 66 nothing (λ x. replies.Refused codes.BadName) nothing_is (λ x. refl),
    (
      arm_is written_reply 67 nothing (λ x. replies.Refused codes.NotFound) nothing_is (λ x. refl),
      (
        arm_is written_reply 68 nothing (λ x. replies.Refused codes.NotDir) nothing_is (λ x. refl),
        (
          arm_is written_reply 69 nothing (λ x. replies.Refused codes.IsDir) nothing_is (λ x. refl),
          (
            arm_is written_reply 70 nothing (λ x. replies.Refused codes.Exists) nothing_is (λ x. refl),
            (
              arm_is written_reply 71 nothing (λ x. replies.Refused codes.NotEmpty) nothing_is (λ x. refl),
              (arm_is written_reply 72 nothing (λ x. replies.Refused codes.LinkLoop) nothing_is (λ x. refl), inode_each),
            ),
          ),
        ),
      ),
    ),
  ),
)

count_each : EachArm written_reply count_arms
unfolding count_arms
count_each = (
  arm_is written_reply 13 number_8 (λ n. replies.Pruned n) number_8_is (λ x. refl),
  (
    arm_is written_reply 14 (paired number_8 number_4) (λ (bytes, pieces). replies.Wrote bytes pieces) (paired_is number_8 number_4 number_8_is number_4_is) (λ x. refl),
    (
      arm_is written_reply 15 data_runs (λ runs. replies.Data runs) data_runs_is (λ x. refl),
      (arm_is written_reply 16 number_8 (λ n. replies.Swept n) number_8_is (λ x. refl), path_each),
    ),
  ),
)

file_each : EachArm written_reply file_arms
unfolding file_arms
file_each = (
  arm_is written_reply 7 file_info (λ info. replies.File info) file_info_is (λ x. refl),
  (
    arm_is written_reply 8 number_2 (λ hint. replies.Hint hint) number_2_is (λ x. refl),
    (
      arm_is written_reply 9 (paired adopted number_8) (λ (taken, length). replies.Reported taken length) (paired_is adopted number_8 adopted_is number_8_is) (λ x. refl),
      (
        arm_is written_reply 10 file_size (λ length. replies.Settled length) file_size_is (λ x. refl),
        (
          arm_is written_reply 11 (paired number_8 number_4) (λ (length, truncs). replies.Cut length truncs) (paired_is number_8 number_4 number_8_is number_4_is) (λ x. refl),
          (arm_is written_reply 12 doomed (λ ids. replies.Doomed ids) doomed_is (λ x. refl), count_each),
        ),
      ),
    ),
  ),
)

found_each : EachArm written_reply found_arms
unfolding found_arms
found_each = (
  arm_is written_reply 1 inode_id (λ id. replies.Made id) inode_id_is (λ x. refl),
  (
    arm_is written_reply 2 nothing (λ x. replies.Done) nothing_is (λ x. refl),
    (
      arm_is written_reply 3 (paired inode_id kind) (λ (id, k). replies.Found id k) (paired_is inode_id kind inode_id_is kind_is) (λ x. refl),
      (
        arm_is written_reply 4 attributes (λ a. replies.Attr a) attributes_is (λ x. refl),
        (
          arm_is written_reply 5 names (λ entries. replies.Names entries) names_is (λ x. refl),
          (arm_is written_reply 6 text (λ path. replies.Target path) text_is (λ x. refl), file_each),
        ),
      ),
    ),
  ),
)

code_back : (c : Code) (left : ℕ) (rest : List ℕ) → (written_code c).fits ≡ true → reads_arm found_arms (written_code c).tag left ((written_code c).spelled ++ rest) ≡ Ok (replies.Refused c, rest)
unfolding found_arms file_arms count_arms path_arms inode_arms code_arms
code_back codes.BadPath left rest fits = arm_back 65 nothing (λ x. replies.Refused codes.BadPath) nothing_is tt rest fits
code_back codes.BadName left rest fits = arm_back 66 nothing (λ x. replies.Refused codes.BadName) nothing_is tt rest fits
code_back codes.NotFound left rest fits = arm_back 67 nothing (λ x. replies.Refused codes.NotFound) nothing_is tt rest fits
code_back codes.NotDir left rest fits = arm_back 68 nothing (λ x. replies.Refused codes.NotDir) nothing_is tt rest fits
code_back codes.IsDir left rest fits = arm_back 69 nothing (λ x. replies.Refused codes.IsDir) nothing_is tt rest fits
code_back codes.Exists left rest fits = arm_back 70 nothing (λ x. replies.Refused codes.Exists) nothing_is tt rest fits
code_back codes.NotEmpty left rest fits = arm_back 71 nothing (λ x. replies.Refused codes.NotEmpty) nothing_is tt rest fits
code_back codes.LinkLoop left rest fits = arm_back 72 nothing (λ x. replies.Refused codes.LinkLoop) nothing_is tt rest fits
code_back codes.IntoItself left rest fits = arm_back 73 nothing (λ x. replies.Refused codes.IntoItself) nothing_is tt rest fits
code_back codes.IsRoot left rest fits = arm_back 74 nothing (λ x. replies.Refused codes.IsRoot) nothing_is tt rest fits
code_back codes.NotLink left rest fits = arm_back 75 nothing (λ x. replies.Refused codes.NotLink) nothing_is tt rest fits
code_back codes.NoSession left rest fits = arm_back 76 nothing (λ x. replies.Refused codes.NoSession) nothing_is tt rest fits
code_back codes.InUse left rest fits = arm_back 77 nothing (λ x. replies.Refused codes.InUse) nothing_is tt rest fits
code_back codes.NotDoomed left rest fits = arm_back 78 nothing (λ x. replies.Refused codes.NotDoomed) nothing_is tt rest fits
code_back codes.NotPurged left rest fits = arm_back 79 nothing (λ x. replies.Refused codes.NotPurged) nothing_is tt rest fits
code_back codes.BadLayout left rest fits = arm_back 80 nothing (λ x. replies.Refused codes.BadLayout) nothing_is tt rest fits
code_back codes.TooLong left rest fits = arm_back 81 nothing (λ x. replies.Refused codes.TooLong) nothing_is tt rest fits
code_back (codes.AtLimit which) left rest fits = arm_back 82 limit (λ which. replies.Refused (codes.AtLimit which)) limit_is which rest fits
code_back codes.ShortHint left rest fits = arm_back 83 nothing (λ x. replies.Refused codes.ShortHint) nothing_is tt rest fits
code_back (codes.Stale n) left rest fits = arm_back 84 number_8 (λ n. replies.Refused (codes.Stale n)) number_8_is n rest fits
code_back codes.Conflict left rest fits = arm_back 85 nothing (λ x. replies.Refused codes.Conflict) nothing_is tt rest fits
code_back codes.StoreFull left rest fits = arm_back 86 nothing (λ x. replies.Refused codes.StoreFull) nothing_is tt rest fits
code_back (codes.NodeFull node written) left rest fits = arm_back 87 (paired number_1 number_8) (λ (node, written). replies.Refused (codes.NodeFull node written)) (paired_is number_1 number_8 number_1_is number_8_is) (node, written) rest fits
code_back (codes.Removed version written) left rest fits = arm_back 88 (paired number_8 number_8) (λ (version, written). replies.Refused (codes.Removed version written)) (paired_is number_8 number_8 number_8_is number_8_is) (version, written) rest fits

reply_back : (r : Reply) (left : ℕ) (rest : List ℕ) → (written_reply r).fits ≡ true → reads_arm found_arms (written_reply r).tag left ((written_reply r).spelled ++ rest) ≡ Ok (r, rest)
unfolding found_arms file_arms count_arms path_arms inode_arms code_arms
reply_back (replies.Made id) left rest fits = arm_back 1 inode_id (λ id. replies.Made id) inode_id_is id rest fits
reply_back replies.Done left rest fits = arm_back 2 nothing (λ x. replies.Done) nothing_is tt rest fits
reply_back (replies.Found id k) left rest fits = arm_back 3 (paired inode_id kind) (λ (id, k). replies.Found id k) (paired_is inode_id kind inode_id_is kind_is) (id, k) rest fits
reply_back (replies.Attr a) left rest fits = arm_back 4 attributes (λ a. replies.Attr a) attributes_is a rest fits
reply_back (replies.Names entries) left rest fits = arm_back 5 names (λ entries. replies.Names entries) names_is entries rest fits
reply_back (replies.Target path) left rest fits = arm_back 6 text (λ path. replies.Target path) text_is path rest fits
reply_back (replies.File info) left rest fits = arm_back 7 file_info (λ info. replies.File info) file_info_is info rest fits
reply_back (replies.Hint hint) left rest fits = arm_back 8 number_2 (λ hint. replies.Hint hint) number_2_is hint rest fits
reply_back (replies.Reported taken length) left rest fits = arm_back 9 (paired adopted number_8) (λ (taken, length). replies.Reported taken length) (paired_is adopted number_8 adopted_is number_8_is) (taken, length) rest fits
reply_back (replies.Settled length) left rest fits = arm_back 10 file_size (λ length. replies.Settled length) file_size_is length rest fits
reply_back (replies.Cut length truncs) left rest fits = arm_back 11 (paired number_8 number_4) (λ (length, truncs). replies.Cut length truncs) (paired_is number_8 number_4 number_8_is number_4_is) (length, truncs) rest fits
reply_back (replies.Doomed ids) left rest fits = arm_back 12 doomed (λ ids. replies.Doomed ids) doomed_is ids rest fits
reply_back (replies.Pruned n) left rest fits = arm_back 13 number_8 (λ n. replies.Pruned n) number_8_is n rest fits
reply_back (replies.Wrote bytes pieces) left rest fits = arm_back 14 (paired number_8 number_4) (λ (bytes, pieces). replies.Wrote bytes pieces) (paired_is number_8 number_4 number_8_is number_4_is) (bytes, pieces) rest fits
reply_back (replies.Data runs) left rest fits = arm_back 15 data_runs (λ runs. replies.Data runs) data_runs_is runs rest fits
reply_back (replies.Swept n) left rest fits = arm_back 16 number_8 (λ n. replies.Swept n) number_8_is n rest fits
reply_back (replies.Refused code) left rest fits = code_back code left rest fits

pub reply_is : IsForm reply
unfolding reply
reply_is = choice_is number_1 written_reply found_arms number_1_is (record { each = found_each; back = reply_back })
