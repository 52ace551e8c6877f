-- The fields of the project's values, each with its range.
use Rattle.std.specs.Prelude.{ℕ, ◌-◌, ◌^◌, ◌&&◌, nat_le, nat_lt, is_ok, Bool, List, [], ◌∷◌, ◌++◌, Option, Some, None}
use Rattle.std.specs.Int.{w8, w16, w32, w64, w128, to_le_bytes, from_le_bytes, to_be_bytes, from_be_bytes}
use Rattle.fs_base.specs.Gives.{◌>>=◌}
use Rattle.fs_base.specs.Paths.{path_of}
use Rattle.fs_base.specs.declared.ids.ClientId.{ClientId}
use Rattle.fs_base.specs.declared.layout.Layout.{Layout}
use Rattle.fs_base.specs.declared.kind.Kind.{Kind}
use Rattle.fs_base.specs.declared.kind.Kind.TheVariants as kinds
use Rattle.fs_base.specs.declared.limits.TheConstants.{CHAINS, CHUNK_BYTES, FILE_BYTES, INODE_IDS, MODES}
use Rattle.fs_base.specs.declared.limits.TheConstants.{TIMES}
use Rattle.byte_fields.specs.Forms.{Form, front, nothing, followed, paired, seen, shaped, tested, one_field, sized, Arm, arm, Tagged, tagged, choice}

-- numbers of 1, 2, 4 and 8 bytes, the lowest byte first
unfoldable pub number_1 : Form ℕ
number_1 = seen (front 1) (λ n. nat_lt n (2 ^ 8)) (from_le_bytes w8) (to_le_bytes w8)

unfoldable pub number_2 : Form ℕ
number_2 = seen (front 2) (λ n. nat_lt n (2 ^ 16)) (from_le_bytes w16) (to_le_bytes w16)

unfoldable pub number_4 : Form ℕ
number_4 = seen (front 4) (λ n. nat_lt n (2 ^ 32)) (from_le_bytes w32) (to_le_bytes w32)

unfoldable pub number_8 : Form ℕ
number_8 = seen (front 8) (λ n. nat_lt n (2 ^ 64)) (from_le_bytes w64) (to_le_bytes w64)

-- a number from low to high, both among them
abbrev pub from_to : ℕ → ℕ → ℕ → Bool
from_to low high n = nat_le low n && nat_le n high

abbrev pub within : Form ℕ → ℕ → ℕ → Form ℕ
within form low high = tested form (from_to low high)

-- an inode's number, below 2 ^ 36
unfoldable pub inode_id : Form ℕ
inode_id = within number_8 0 (INODE_IDS - 1)

-- the twelve permission bits
unfoldable pub mode : Form ℕ
mode = within number_2 0 (MODES - 1)

-- a stamp or a time, below 2 ^ 53
unfoldable pub time : Form ℕ
time = within number_8 0 (TIMES - 1)

-- a place in a file, or its length: at most the greatest one
unfoldable pub file_size : Form ℕ
file_size = within number_8 0 FILE_BYTES

-- a chunk's size in bytes
unfoldable pub chunk : Form ℕ
chunk = within number_4 1 CHUNK_BYTES

-- how many chains a file is striped over
unfoldable pub stripe : Form ℕ
stripe = within number_2 1 CHAINS

-- a layout by its four numbers
abbrev pub layout_form : Form ℕ → Form ℕ → Form ℕ → Form ℕ → Form Layout
layout_form chunks stripes starts mixes =
    shaped (paired chunks (paired stripes (paired starts mixes)))
    (λ (c, (t, (s, m))). record { chunk = c; stripe = t; start = s; mix = m })
    (λ l. (l.chunk, (l.stripe, (l.start, l.mix))))

-- a file's layout: the first chain is below 256, the number for shuffling an inode's
unfoldable pub layout : Form Layout
layout = layout_form chunk stripe (within number_2 0 (CHAINS - 1)) inode_id

-- and how many places of it are in use: 1 to the stripe
unfoldable pub used_layout : Form (Layout × ℕ)
used_layout = followed layout (λ l. within number_2 1 l.stripe)

-- the version byte 1
abbrev pub version_arms : List (Arm (Unit {0}))
version_arms = arm 1 nothing (λ x. x) ∷ []

unfoldable pub version : Form (Unit {0})
version = choice number_1 (tagged 1 nothing) version_arms

-- the value behind a version byte
abbrev pub versioned : {X : Type 0} → Form X → Form X
versioned form = record {
  reads = λ bytes. version.reads bytes >>= λ (x, rest). form.reads rest;
  spelled = λ x. version.spelled tt ++ form.spelled x;
  fits = λ x. form.fits x;
}

-- 0, or 1 and the value
abbrev pub written_option : {X : Type 0} → Form X → Option X → Tagged
written_option form None = tagged 0 nothing tt
written_option form (Some x) = tagged 1 form x

abbrev pub option_arms : {X : Type 0} → Form X → List (Arm (Option X))
option_arms form = arm 0 nothing (λ x. None) ∷ arm 1 form (λ x. Some x) ∷ []

abbrev pub optional : {X : Type 0} → Form X → Form (Option X)
optional form = choice number_1 (written_option form) (option_arms form)

abbrev pub written_kind : Kind → Tagged
written_kind kinds.Dir = tagged 1 nothing tt
written_kind kinds.File = tagged 2 nothing tt
written_kind kinds.Link = tagged 3 nothing tt

abbrev pub kind_arms : List (Arm Kind)
kind_arms =
    arm 1 nothing (λ x. kinds.Dir) ∷ arm 2 nothing (λ x. kinds.File) ∷ arm 3 nothing (λ x. kinds.Link) ∷ []

unfoldable pub kind : Form Kind
kind = choice number_1 written_kind kind_arms

-- a length of 2 bytes and so many bytes
unfoldable pub text : Form (List ℕ)
text = one_field (sized number_2)

-- a text that reads as a path
unfoldable pub path_text : Form (List ℕ)
path_text = tested text (λ bytes. is_ok (path_of bytes))

-- the 16 bytes of a UUID, the most significant first
unfoldable pub client : Form ClientId
client =
    seen (front 16) (λ c. nat_lt c.0 (2 ^ 128)) (λ bytes. record { 0 = from_be_bytes w128 bytes })
    (λ c. to_be_bytes w128 c.0)
