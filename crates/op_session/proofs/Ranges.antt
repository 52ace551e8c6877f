-- Sessions and replies whose numbers are in their ranges may be spelled.
use Rattle.std.proofs.Common.{◌<◌, ◌^◌}
use Rattle.std.specs.Prelude.{ℕ, IsTrue}
use Rattle.byte_fields.specs.Fields.{number_1, time}
use Rattle.byte_fields.proofs.InRange.{both, fits_2, fits_4, fits_8, id_fits}
use Rattle.fs_base.specs.declared.reply.FileInfo.{FileInfo}
use Rattle.fs_base.specs.declared.reply.Reply.TheVariants.{File, Hint}
use Rattle.row_records.specs.Replies.{file_info, is_reply, reply, told_layout}
use Rattle.row_records.specs.Rows.{is_session, session_row}

pub session_fits : (stamp : ℕ) → IsTrue (time.fits stamp) → IsTrue (is_session (record { stamp = stamp }))
unfolding session_row
session_fits stamp fits = fits

pub hint_fits : (hint : ℕ) → hint < 2 ^ 16 → IsTrue (is_reply (Hint hint))
unfolding reply number_1
hint_fits hint small = fits_2 hint small

-- a file's numbers are in the ranges of their types
pub record IsInRange (file : FileInfo) : Type 0 where
  pub inode : file.inode < 2 ^ 36
  pub length : file.length < 2 ^ 64
  pub truncs : file.truncs < 2 ^ 32
  pub chunk : file.layout.chunk < 2 ^ 32
  pub stripe : file.layout.stripe < 2 ^ 16
  pub start : file.layout.start < 2 ^ 16
  pub mix : file.layout.mix < 2 ^ 64
  pub hint : file.hint < 2 ^ 16

pub file_fits : (file : FileInfo) → IsInRange file → IsTrue (is_reply (File file))
unfolding reply number_1 file_info told_layout
file_fits file at =
    both (id_fits file.inode at.inode)
    (both (fits_8 file.length at.length)
    (both (fits_4 file.truncs at.truncs)
    (both
    (both (fits_4 file.layout.chunk at.chunk) (both (fits_2 file.layout.stripe at.stripe) (both (fits_2 file.layout.start at.start) (fits_8 file.layout.mix at.mix))))
    (fits_2 file.hint at.hint))))
