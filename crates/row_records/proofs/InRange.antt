-- Rows and replies whose numbers are in their ranges may be spelled.
use Rattle.std.proofs.Common.{ℕ, ◌-◌, ◌<◌, ◌≤◌, ◌^◌, refl, arith}
use Rattle.std.specs.Prelude.{IsTrue}
use Rattle.byte_fields.specs.Fields.{number_1, number_8}
use Rattle.byte_fields.proofs.InRange.{both, fits_8, id_fits, kind_fits, within_fits}
use Rattle.fs_base.specs.declared.kind.Kind.{Kind}
use Rattle.fs_base.specs.declared.reply.Reply.{Reply}
use Rattle.fs_base.specs.declared.reply.Reply.TheVariants.{Done, Made}
use Rattle.row_records.specs.Replies.{is_reply, reply}
use Rattle.row_records.specs.Rows.{alloc_row, dent, is_alloc, is_dent, is_kept, kept}

pub entry_fits : (id : ℕ) (k : Kind) → id < 2 ^ 36 → IsTrue (is_dent (record { inode = id; kind = k }))
unfolding dent
entry_fits id k small = both (id_fits id small) (kind_fits k)

pub next_fits : (n : ℕ) → 1 ≤ n → n ≤ 4294967295 → IsTrue (is_alloc (record { next = n }))
unfolding alloc_row
next_fits n from to = within_fits number_8 1 4294967295 n (fits_8 n (omega arith)) from to

pub kept_fits : (number : ℕ) (told : Reply) → 1 ≤ number → number < 2 ^ 64 → IsTrue (is_reply told) → IsTrue (is_kept (record { number = number; reply = told }))
unfolding kept
kept_fits number told from small fits = both (within_fits number_8 1 (2 ^ 64 - 1) number (fits_8 number small) from (omega arith)) fits

pub made_fits : (id : ℕ) → id < 2 ^ 36 → IsTrue (is_reply (Made id))
unfolding reply number_1
made_fits id small = id_fits id small

pub done_fits : IsTrue (is_reply Done)
unfolding reply number_1
done_fits = refl
