-- The bytes of an inode's row.
use Rattle.std.specs.Prelude.{ℕ, List, [], ◌∷◌, Bool, Result}
use Rattle.fs_base.specs.declared.layout.Layout.{Layout}
use Rattle.fs_base.specs.declared.limits.TheConstants.{LINK_COUNT}
use Rattle.byte_fields.specs.Forms.{Form, paired, shaped, Arm, arm, Tagged, tagged, choice, whole}
use Rattle.byte_fields.specs.Fields.{within, number_1, number_4, inode_id, mode, time, file_size, chunk, stripe, used_layout, path_text, versioned}
use Rattle.inode_record.specs.declared.inode.Access.{Access}
use Rattle.inode_record.specs.declared.inode.Times.{Times}
use Rattle.inode_record.specs.declared.inode.Head.{Head}
use Rattle.inode_record.specs.declared.inode.InodeRow.{InodeRow}
use Rattle.inode_record.specs.declared.inode.InodePart.{InodePart}
use Rattle.inode_record.specs.declared.inode.InodePart.TheVariants as parts

-- mode, owner, group, links
unfoldable pub access : Form Access
access =
    shaped (paired mode (paired number_4 (paired number_4 (within number_4 0 LINK_COUNT))))
    (λ (m, (o, (g, l))). record { mode = m; owner = o; group = g; links = l })
    (λ a. (a.mode, (a.owner, (a.group, a.links))))

-- access, modification and change time
unfoldable pub times : Form Times
times =
    shaped (paired time (paired time time)) (λ (a, (m, c)). record { atime = a; mtime = m; ctime = c })
    (λ t. (t.atime, (t.mtime, t.ctime)))

-- what every kind has
unfoldable pub head : Form Head
head = shaped (paired access times) (λ (a, t). record { access = a; times = t }) (λ h. (h.access, h.times))

-- a directory's part: parent, chunk, stripe
unfoldable pub dir_part : Form (ℕ × (ℕ × ℕ))
dir_part = paired inode_id (paired chunk stripe)

-- a file's part: length, truncations, and the layout with the places in use
unfoldable pub file_part : Form (ℕ × (ℕ × (Layout × ℕ)))
file_part = paired file_size (paired number_4 used_layout)

abbrev pub head_of : InodeRow → Head
head_of row = record {
  access = record { mode = row.mode; owner = row.owner; group = row.group; links = row.links };
  times = record { atime = row.atime; mtime = row.mtime; ctime = row.ctime };
}

abbrev pub with_part : Head → InodePart → InodeRow
with_part h part = record {
  mode = h.access.mode;
  owner = h.access.owner;
  group = h.access.group;
  links = h.access.links;
  atime = h.times.atime;
  mtime = h.times.mtime;
  ctime = h.times.ctime;
  part = part;
}

-- kinds: 1 a directory, 2 a file, 3 a link; that the arms, by tag, are the same table is proved
-- (`inodes_are_spelled`)
abbrev pub written_part : Head → InodePart → Tagged
written_part h (parts.Dir parent chunk stripe) =
    tagged 1 (paired head dir_part) (h, (parent, (chunk, stripe)))
written_part h (parts.File length truncs layout hint) =
    tagged 2 (paired head file_part) (h, (length, (truncs, (layout, hint))))
written_part h (parts.Link target) = tagged 3 (paired head path_text) (h, target)

abbrev pub written_inode : InodeRow → Tagged
written_inode row = written_part (head_of row) row.part

abbrev pub dir_arm : Arm InodeRow
dir_arm =
    arm 1 (paired head dir_part)
    (λ (h, (parent, (chunk, stripe))). with_part h (parts.Dir parent chunk stripe))

abbrev pub file_arm : Arm InodeRow
file_arm =
    arm 2 (paired head file_part)
    (λ (h, (length, (truncs, (layout, hint)))). with_part h (parts.File length truncs layout hint))

abbrev pub link_arm : Arm InodeRow
link_arm = arm 3 (paired head path_text) (λ (h, target). with_part h (parts.Link target))

unfoldable pub by_kind : Form InodeRow
by_kind = choice number_1 written_inode (dir_arm ∷ file_arm ∷ link_arm ∷ [])

unfoldable pub inode : Form InodeRow
inode = versioned by_kind

-- the bytes of a row; whether a row may be spelled; and the row that bytes spell, or the place where they
-- don't
abbrev pub spelled_inode : InodeRow → List ℕ
spelled_inode = inode.spelled

abbrev pub is_inode : InodeRow → Bool
is_inode = inode.fits

abbrev pub read_inode : List ℕ → Result InodeRow ℕ
read_inode bytes = whole inode bytes
