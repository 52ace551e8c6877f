-- The bytes of the other rows.
use Rattle.std.specs.Prelude.{ℕ, ◌-◌, ◌^◌, List, [], ◌∷◌, Bool, Result}
use Rattle.fs_base.specs.declared.limits.TheConstants.{LAST_NUMBER}
use Rattle.byte_fields.specs.Forms.{Form, nothing, paired, shaped, Arm, arm, Tagged, tagged, choice, whole}
use Rattle.byte_fields.specs.Fields.{within, number_1, number_8, inode_id, time, kind, used_layout, versioned}
use Rattle.row_records.specs.declared.rows.AllocRow.{AllocRow}
use Rattle.row_records.specs.declared.rows.DentRow.{DentRow}
use Rattle.row_records.specs.declared.rows.GcRow.{GcRow}
use Rattle.row_records.specs.declared.rows.GcRow.TheVariants as gc_rows
use Rattle.row_records.specs.declared.rows.KeptRow.{KeptRow}
use Rattle.row_records.specs.declared.rows.SessionRow.{SessionRow}
use Rattle.row_records.specs.Replies.{reply}

-- an entry: the inode, and its kind
unfoldable pub dent : Form DentRow
dent =
    versioned (shaped (paired inode_id kind) (λ (id, k). record { inode = id; kind = k })
    (λ r. (r.inode, r.kind)))

-- a write session: when it was opened
unfoldable pub session_row : Form SessionRow
session_row = versioned (shaped time (λ s. record { stamp = s }) (λ r. r.stamp))

-- a client's kept reply: the number of its request, and the reply
unfoldable pub kept : Form KeptRow
kept =
    versioned (shaped (paired (within number_8 1 (2 ^ 64 - 1)) reply)
    (λ (n, r). record { number = n; reply = r }) (λ k. (k.number, k.reply)))

-- a server's next inode number
unfoldable pub alloc_row : Form AllocRow
alloc_row = versioned (shaped (within number_8 1 LAST_NUMBER) (λ n. record { next = n }) (λ r. r.next))

-- a file that is being deleted: 0 while its node is there, 1 with its layout once it is gone
abbrev pub written_gc : GcRow → Tagged
written_gc gc_rows.Waiting = tagged 0 nothing tt
written_gc (gc_rows.Purged layout hint) = tagged 1 used_layout (layout, hint)

abbrev pub gc_arms : List (Arm GcRow)
gc_arms =
    arm 0 nothing (λ x. gc_rows.Waiting) ∷ arm 1 used_layout (λ (layout, hint). gc_rows.Purged layout hint)
    ∷ []

unfoldable pub by_phase : Form GcRow
by_phase = choice number_1 written_gc gc_arms

unfoldable pub gc : Form GcRow
gc = versioned by_phase

-- for each row: its bytes; whether it may be spelled; and the row that bytes spell, or the place where they
-- don't
abbrev pub spelled_dent : DentRow → List ℕ
spelled_dent = dent.spelled

abbrev pub is_dent : DentRow → Bool
is_dent = dent.fits

abbrev pub read_dent : List ℕ → Result DentRow ℕ
read_dent bytes = whole dent bytes

abbrev pub spelled_session : SessionRow → List ℕ
spelled_session = session_row.spelled

abbrev pub is_session : SessionRow → Bool
is_session = session_row.fits

abbrev pub read_session : List ℕ → Result SessionRow ℕ
read_session bytes = whole session_row bytes

abbrev pub spelled_kept : KeptRow → List ℕ
spelled_kept = kept.spelled

abbrev pub is_kept : KeptRow → Bool
is_kept = kept.fits

abbrev pub read_kept : List ℕ → Result KeptRow ℕ
read_kept bytes = whole kept bytes

abbrev pub spelled_alloc : AllocRow → List ℕ
spelled_alloc = alloc_row.spelled

abbrev pub is_alloc : AllocRow → Bool
is_alloc = alloc_row.fits

abbrev pub read_alloc : List ℕ → Result AllocRow ℕ
read_alloc bytes = whole alloc_row bytes

abbrev pub spelled_gc : GcRow → List ℕ
spelled_gc = gc.spelled

abbrev pub is_gc : GcRow → Bool
is_gc = gc.fits

abbrev pub read_gc : List ℕ → Result GcRow ℕ
read_gc bytes = whole gc bytes
