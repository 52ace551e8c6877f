-- An inode's row whose numbers are in their ranges may be spelled.
use Rattle.std.proofs.Common.{◌≡◌, ◌<◌, ◌≤◌, ◌^◌, Bool, true, subst, sym, arith}
use Rattle.std.specs.Prelude.{IsTrue}
use Rattle.std.proofs.lemmas.Bool.{and_parts}
use Rattle.byte_fields.specs.Fields.{number_1, number_4, path_text}
use Rattle.byte_fields.proofs.InRange.{both, fits_4, mode_fits, time_fits, within_fits}
use Rattle.inode_record.specs.Inode.{access, by_kind, dir_part, file_part, head, head_of, inode, is_inode, times}
use Rattle.inode_record.specs.declared.inode.InodePart.{InodePart}
use Rattle.inode_record.specs.declared.inode.InodePart.TheVariants as parts
use Rattle.inode_record.specs.declared.inode.InodeRow.{InodeRow}

-- whether what the kind adds may be spelled
abbrev pub is_part : InodePart → Bool
is_part (parts.Dir parent chunk stripe) = dir_part.fits (parent, (chunk, stripe))
is_part (parts.File length truncs layout hint) = file_part.fits (length, (truncs, (layout, hint)))
is_part (parts.Link target) = path_text.fits target

-- a row may be spelled exactly where what every kind has may be, and what its kind adds
pub row_fits : (row : InodeRow) → head.fits (head_of row) ≡ true → is_part row.part ≡ true → IsTrue (is_inode row)
unfolding inode by_kind number_1
row_fits row front back = by row.part back
  where
    by : (part : InodePart) → is_part part ≡ true → by_kind.fits (record row { part = part }) ≡ true
    by (parts.Dir parent chunk stripe) back = both front back
    by (parts.File length truncs layout hint) back = both front back
    by (parts.Link target) back = both front back

pub fits_row : (row : InodeRow) → IsTrue (is_inode row) → (head.fits (head_of row) ≡ true) × (is_part row.part ≡ true)
unfolding inode by_kind number_1
fits_row row fits = by row.part fits
  where
    by : (part : InodePart) → by_kind.fits (record row { part = part }) ≡ true → (head.fits (head_of row) ≡ true) × (is_part part ≡ true)
    by (parts.Dir parent chunk stripe) fits = and_parts (head.fits (head_of row)) (dir_part.fits (parent, (chunk, stripe))) fits
    by (parts.File length truncs layout hint) fits = and_parts (head.fits (head_of row)) (file_part.fits (length, (truncs, (layout, hint)))) fits
    by (parts.Link target) fits = and_parts (head.fits (head_of row)) (path_text.fits target) fits

-- a row that differs in what every kind has
pub same_part : (old new : InodeRow) → new.part ≡ old.part → head.fits (head_of new) ≡ true → IsTrue (is_inode old) → IsTrue (is_inode new)
same_part old new same front fits = row_fits new front (subst (λ (p : InodePart). is_part p ≡ true) (sym same) (fits_row old fits).1)

-- what every kind has, by its numbers
pub head_fits : (row : InodeRow) → row.mode < 4096 → row.owner < 2 ^ 32 → row.group < 2 ^ 32 → row.links ≤ 65535 → row.atime < 2 ^ 53 → row.mtime < 2 ^ 53 → row.ctime < 2 ^ 53 → head.fits (head_of row) ≡ true
unfolding head access times
head_fits row mode owner group links atime mtime ctime =
    both
    (both (mode_fits row.mode mode) (both (fits_4 row.owner owner) (both (fits_4 row.group group) (within_fits number_4 0 65535 row.links (fits_4 row.links (omega arith)) (omega arith) links))))
    (both (time_fits row.atime atime) (both (time_fits row.mtime mtime) (time_fits row.ctime ctime)))
