-- Forms of values in bytes: how a value reads, how it is spelled, and which values may be.
use Rattle.std.specs.Prelude.{ℕ, zero, suc, ◌-◌, ◌==◌, ◌&&◌, nat_le, nat_lt, Bool, true, if◌then◌else◌, List, [], ◌∷◌, ◌++◌, length, take, drop, Option, Some, None, Result, Ok, Err}
use Rattle.std.specs.List.{list_all}
use Rattle.fs_base.specs.Gives.{◌>>=◌}

-- A field's rule is said once, as its form; reading, writing and the laws come from it. reads gives the value
-- and the bytes behind it, or how many bytes are left where the first field that doesn't read begins, so that
-- no form has to know where it stands. fits says which values may be spelled.
pub record Form (X : Type 0) : Type 0 where
  pub reads : List ℕ → Result (X × List ℕ) ℕ
  pub spelled : X → List ℕ
  pub fits : X → Bool

-- numbers below 256; a list with another one reads nowhere, so the laws hold of all lists
abbrev pub are_bytes : List ℕ → Bool
are_bytes = list_all (λ b. nat_lt b 256)

-- one field: so many bytes
abbrev pub front : ℕ → Form (List ℕ)
front count = record {
  reads =
      λ bytes. if nat_le count (length bytes) && are_bytes (take count bytes)
      then Ok (take count bytes, drop count bytes) else Err (length bytes);
  spelled = λ bytes. bytes;
  fits = λ bytes. length bytes == count && are_bytes bytes;
}

-- no field
abbrev pub nothing : Form (Unit {0})
nothing = record { reads = λ bytes. Ok (tt, bytes); spelled = λ x. []; fits = λ x. true }

-- one after the other, where the first may say how the second reads
abbrev pub followed : {X Y : Type 0} → Form X → (X → Form Y) → Form (X × Y)
followed first second = record {
  reads =
      λ bytes. first.reads bytes >>= λ (x, rest). (second x).reads rest >>= λ (y, left). Ok ((x, y), left);
  spelled = λ (x, y). first.spelled x ++ (second x).spelled y;
  fits = λ (x, y). first.fits x && (second x).fits y;
}

-- one after the other
abbrev pub paired : {X Y : Type 0} → Form X → Form Y → Form (X × Y)
paired first second = followed first (λ x. second)

-- the value seen as another, of which those that pass the test may be spelled
abbrev pub seen : {X Y : Type 0} → Form X → (Y → Bool) → (X → Y) → (Y → X) → Form Y
seen form test into back = record {
  reads = λ bytes. form.reads bytes >>= λ (x, rest). Ok (into x, rest);
  spelled = λ y. form.spelled (back y);
  fits = λ y. test y && form.fits (back y);
}

-- the value seen as another, all of which may be spelled
abbrev pub shaped : {X Y : Type 0} → Form X → (X → Y) → (Y → X) → Form Y
shaped form into back = seen form (λ y. true) into back

abbrev pub passed : {X : Type 0} → Bool → ℕ → X → List ℕ → Result (X × List ℕ) ℕ
passed ok left x rest = if ok then Ok (x, rest) else Err left

-- a field of which only the values that pass the test read
abbrev pub tested : {X : Type 0} → Form X → (X → Bool) → Form X
tested form test = record {
  reads = λ bytes. form.reads bytes >>= λ (x, rest). passed (test x) (length bytes) x rest;
  spelled = form.spelled;
  fits = λ x. form.fits x && test x;
}

abbrev pub or_left : {X : Type 0} → ℕ → Result X ℕ → Result X ℕ
or_left left (Ok x) = Ok x
or_left left (Err e) = Err left

-- as one field: where it doesn't read, the place is where it begins
abbrev pub one_field : {X : Type 0} → Form X → Form X
one_field form =
    record {
      reads = λ bytes. or_left (length bytes) (form.reads bytes);
      spelled = form.spelled;
      fits = form.fits;
    }

-- bytes behind their number
abbrev pub sized : Form ℕ → Form (List ℕ)
sized count = record {
  reads = λ bytes. count.reads bytes >>= λ (n, rest). (front n).reads rest;
  spelled = λ text. count.spelled (length text) ++ text;
  fits = λ text. count.fits (length text) && are_bytes text;
}

-- a list, of which each item may stand behind the one before it
abbrev pub reads_items : {X : Type 0} → Form X → (Option X → X → Bool) → Option X → ℕ → List ℕ
    → Result (List X × List ℕ) ℕ
reads_items form follows before zero bytes = Ok ([], bytes)
reads_items form follows before (suc n) bytes =
    form.reads bytes >>= λ (x, rest). passed (follows before x) (length bytes) x rest >>=
    λ (y, left). reads_items form follows (Some y) n left >>= λ (ys, end). Ok (y ∷ ys, end)

abbrev pub spelled_items : {X : Type 0} → Form X → List X → List ℕ
spelled_items form [] = []
spelled_items form (x ∷ xs) = form.spelled x ++ spelled_items form xs

abbrev pub items_fit : {X : Type 0} → Form X → (Option X → X → Bool) → Option X → List X → Bool
items_fit form follows before [] = true
items_fit form follows before (x ∷ xs) =
    (form.fits x && follows before x) && items_fit form follows (Some x) xs

-- the number of items, and the items
abbrev pub listed : {X : Type 0} → Form ℕ → Form X → (Option X → X → Bool) → Form (List X)
listed count form follows = record {
  reads = λ bytes. count.reads bytes >>= λ (n, rest). reads_items form follows None n rest;
  spelled = λ xs. count.spelled (length xs) ++ spelled_items form xs;
  fits = λ xs. count.fits (length xs) && items_fit form follows None xs;
}

-- any item may stand anywhere
abbrev pub anywhere : {X : Type 0} → Option X → X → Bool
anywhere before x = true

-- What stands behind a tag, and how it reads
pub record Arm (X : Type 0) : Type 0 where
  pub tag : ℕ
  pub reads : List ℕ → Result (X × List ℕ) ℕ

abbrev pub arm : {X Y : Type 0} → ℕ → Form X → (X → Y) → Arm Y
arm tag form into = record { tag = tag; reads = λ bytes. form.reads bytes >>= λ (x, rest). Ok (into x, rest) }

-- by the first arm of the tag
abbrev pub reads_arm : {X : Type 0} → List (Arm X) → ℕ → ℕ → List ℕ → Result (X × List ℕ) ℕ
reads_arm [] tag left bytes = Err left
reads_arm (a ∷ arms) tag left bytes = if tag == a.tag then a.reads bytes else reads_arm arms tag left bytes

-- How a value of one tag is spelled, and whether it may be
pub record Tagged : Type 0 where
  pub tag : ℕ
  pub spelled : List ℕ
  pub fits : Bool

abbrev pub tagged : {X : Type 0} → ℕ → Form X → X → Tagged
tagged tag form x = record { tag = tag; spelled = form.spelled x; fits = form.fits x }

-- A tag, and what stands behind it: written says it of each value, arms of each tag. So a table stands twice:
-- by value alone it would have to be searched, and by tag alone it says nothing of a value.
abbrev pub choice : {X : Type 0} → Form ℕ → (X → Tagged) → List (Arm X) → Form X
choice tag written arms = record {
  reads = λ bytes. tag.reads bytes >>= λ (t, rest). reads_arm arms t (length bytes) rest;
  spelled = λ x. tag.spelled (written x).tag ++ (written x).spelled;
  fits = λ x. tag.fits (written x).tag && (written x).fits;
}

-- the value that all the bytes spell, or the place of the first field that doesn't read, or the end of
-- the spelling where bytes follow
abbrev pub ended : {X : Type 0} → ℕ → X × List ℕ → Result X ℕ
ended size (x, []) = Ok x
ended size (x, b ∷ bytes) = Err (size - length (b ∷ bytes))

abbrev pub placed : {X : Type 0} → ℕ → Result (X × List ℕ) ℕ → Result X ℕ
placed size (Ok read) = ended size read
placed size (Err left) = Err (size - left)

abbrev pub whole : {X : Type 0} → Form X → List ℕ → Result X ℕ
whole form bytes = placed (length bytes) (form.reads bytes)
