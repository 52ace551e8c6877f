-- The bytes of a call.
use Rattle.std.specs.Prelude.{ℕ, List, [], ◌∷◌, Bool, true, nat_lt, Option, Some, None, Result}
use Rattle.fs_base.specs.declared.call.Call.{Call}
use Rattle.fs_base.specs.declared.call.Call.TheVariants as calls
use Rattle.fs_base.specs.declared.call.Changes.{Changes}
use Rattle.fs_base.specs.declared.limits.TheConstants.{SPAN_BYTES}
use Rattle.fs_base.specs.declared.call.Place.{Place}
use Rattle.fs_base.specs.declared.call.Session.{Session}
use Rattle.fs_base.specs.declared.ids.ClientId.{ClientId}
use Rattle.fs_base.specs.declared.layout.DefaultLayout.{DefaultLayout}
use Rattle.byte_fields.specs.Forms.{Form, nothing, paired, shaped, listed, Arm, arm, Tagged, tagged, choice, whole}
use Rattle.byte_fields.specs.Fields.{within, number_1, number_2, number_4, number_8, inode_id, mode, time, file_size, optional, text, client}

unfoldable pub place : Form Place
place = shaped (paired inode_id text) (λ (b, t). record { base = b; text = t }) (λ p. (p.base, p.text))

unfoldable pub session : Form Session
session =
    shaped (paired inode_id number_8) (λ (id, n). record { inode = id; number = n })
    (λ s. (s.inode, s.number))

-- any chunk and stripe: `BadLayout` answers the call where they are out of range
unfoldable pub default_layout : Form DefaultLayout
default_layout =
    shaped (paired number_4 number_2) (λ (c, t). record { chunk = c; stripe = t }) (λ l. (l.chunk, l.stripe))

unfoldable pub made : Form (Place × (ℕ × Option DefaultLayout))
made = paired place (paired mode (optional default_layout))

-- what `setattr` sets
unfoldable pub changes : Form Changes
changes =
    shaped (paired (optional mode)
    (paired (optional number_4) (paired (optional number_4) (paired (optional time) (optional time)))))
    (λ (m, (o, (g, (a, w)))). record { mode = m; owner = o; group = g; atime = a; mtime = w })
    (λ c. (c.mode, (c.owner, (c.group, (c.atime, c.mtime)))))

-- each client above the one before it
abbrev pub ascends : Option ClientId → ClientId → Bool
ascends None next = true
ascends (Some before) next = nat_lt before.0 next.0

unfoldable pub clients : Form (List ClientId)
clients = listed number_8 client ascends

-- offset and length of a write or read
unfoldable pub span : Form (ℕ × ℕ)
span = paired file_size (within number_8 1 SPAN_BYTES)

-- by call; that the arms, by tag, are the same table is proved (`calls_are_spelled`)
abbrev pub written_call : Call → Tagged
written_call (calls.Lookup p) = tagged 1 place p
written_call (calls.Stat p) = tagged 2 place p
written_call (calls.List p) = tagged 3 place p
written_call (calls.Readlink p) = tagged 4 place p
written_call (calls.Openr p) = tagged 5 place p
written_call (calls.Fstat s) = tagged 6 session s
written_call calls.Doomed = tagged 7 nothing tt
written_call (calls.Mkdir p m l) = tagged 8 made (p, (m, l))
written_call (calls.Create p m l) = tagged 9 made (p, (m, l))
written_call (calls.Symlink p target) = tagged 10 (paired place text) (p, target)
written_call (calls.Setattr p c) = tagged 11 (paired place changes) (p, c)
written_call (calls.Link p q) = tagged 12 (paired place place) (p, q)
written_call (calls.Unlink p) = tagged 13 place p
written_call (calls.Rmdir p) = tagged 14 place p
written_call (calls.Rename p q) = tagged 15 (paired place place) (p, q)
written_call (calls.Open p) = tagged 16 place p
written_call (calls.Extend s at) = tagged 17 (paired session number_2) (s, at)
written_call (calls.Report s end truncs) =
    tagged 18 (paired session (paired number_8 number_4)) (s, (end, truncs))
written_call (calls.Fsync s) = tagged 19 session s
written_call (calls.Close s) = tagged 20 session s
written_call (calls.Truncate s length) = tagged 21 (paired session number_8) (s, length)
written_call (calls.Purge id) = tagged 22 inode_id id
written_call (calls.Reap id) = tagged 23 inode_id id
written_call (calls.Prune living) = tagged 24 clients living
written_call (calls.Write s offset len fill) =
    tagged 25 (paired session (paired span number_1)) (s, ((offset, len), fill))
written_call (calls.Read id offset len) = tagged 26 (paired inode_id span) (id, (offset, len))
written_call calls.Sweep = tagged 27 nothing tt

-- how each tag reads
unfoldable pub moving_arms : List (Arm Call)
moving_arms =
    arm 25 (paired session (paired span number_1))
    (λ (s, ((offset, len), fill)). calls.Write s offset len fill)
    ∷ arm 26 (paired inode_id span) (λ (id, (offset, len)). calls.Read id offset len)
    ∷ arm 27 nothing (λ x. calls.Sweep)
    ∷ []

unfoldable pub deleting_arms : List (Arm Call)
deleting_arms =
    arm 22 inode_id (λ id. calls.Purge id)
    ∷ arm 23 inode_id (λ id. calls.Reap id)
    ∷ arm 24 clients (λ living. calls.Prune living)
    ∷ moving_arms

unfoldable pub writing_arms : List (Arm Call)
writing_arms =
    arm 17 (paired session number_2) (λ (s, at). calls.Extend s at)
    ∷ arm 18 (paired session (paired number_8 number_4)) (λ (s, (end, truncs)). calls.Report s end truncs)
    ∷ arm 19 session (λ s. calls.Fsync s)
    ∷ arm 20 session (λ s. calls.Close s)
    ∷ arm 21 (paired session number_8) (λ (s, length). calls.Truncate s length)
    ∷ deleting_arms

unfoldable pub naming_arms : List (Arm Call)
naming_arms =
    arm 13 place (λ p. calls.Unlink p)
    ∷ arm 14 place (λ p. calls.Rmdir p)
    ∷ arm 15 (paired place place) (λ (p, q). calls.Rename p q)
    ∷ arm 16 place (λ p. calls.Open p)
    ∷ writing_arms

unfoldable pub making_arms : List (Arm Call)
making_arms =
    arm 8 made (λ (p, (m, l)). calls.Mkdir p m l)
    ∷ arm 9 made (λ (p, (m, l)). calls.Create p m l)
    ∷ arm 10 (paired place text) (λ (p, target). calls.Symlink p target)
    ∷ arm 11 (paired place changes) (λ (p, c). calls.Setattr p c)
    ∷ arm 12 (paired place place) (λ (p, q). calls.Link p q)
    ∷ naming_arms

unfoldable pub query_arms : List (Arm Call)
query_arms =
    arm 1 place (λ p. calls.Lookup p)
    ∷ arm 2 place (λ p. calls.Stat p)
    ∷ arm 3 place (λ p. calls.List p)
    ∷ arm 4 place (λ p. calls.Readlink p)
    ∷ arm 5 place (λ p. calls.Openr p)
    ∷ arm 6 session (λ s. calls.Fstat s)
    ∷ arm 7 nothing (λ x. calls.Doomed)
    ∷ making_arms

unfoldable pub call : Form Call
call = choice number_1 written_call query_arms

-- a stamp, and the call
unfoldable pub stamped_call : Form (ℕ × Call)
stamped_call = paired time call

-- the bytes of a call with its stamp; whether they may be spelled; and what bytes spell, or the place where
-- they don't
abbrev pub spelled_call : ℕ × Call → List ℕ
spelled_call = stamped_call.spelled

abbrev pub is_call : ℕ × Call → Bool
is_call = stamped_call.fits

abbrev pub read_call : List ℕ → Result (ℕ × Call) ℕ
read_call bytes = whole stamped_call bytes
