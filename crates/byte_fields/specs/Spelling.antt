-- What is owed of the spellings of a type of values.
use Rattle.std.specs.Prelude.{◌≡◌, ◌≢◌, ℕ, List, [], ◌++◌, Bool, IsTrue, Result, Ok, Err}
use Rattle.byte_fields.specs.Forms.{Form, whole}

-- spelled, fits and of are a type's spelling, the values that may be spelled, and the reading of whole bytes.
pub record IsSpelling {X : Type 0} (spelled : X → List ℕ) (fits : X → Bool)
    (of : List ℕ → Result X ℕ) : Type 0 where
  -- what is spelled reads back
  pub back : (x : X) → IsTrue (fits x) → of (spelled x) ≡ Ok x
  -- what reads is a value that may be spelled, and the bytes are its spelling
  pub exact : (bytes : List ℕ) (x : X) → of bytes ≡ Ok x → IsTrue (fits x) × (bytes ≡ spelled x)
  -- what doesn't read is no spelling
  pub refused : (bytes : List ℕ) (place : ℕ) (x : X) → of bytes ≡ Err place → IsTrue (fits x)
      → spelled x ≢ bytes
  -- values with one spelling are one value
  pub one_each : (x y : X) → IsTrue (fits x) → IsTrue (fits y) → spelled x ≡ spelled y → x ≡ y
  -- no spelling begins another
  pub no_prefix : (x y : X) (more : List ℕ) → IsTrue (fits x) → IsTrue (fits y)
      → spelled y ≡ spelled x ++ more → more ≡ []

-- the same of a form, read to its end
abbrev pub IsSpelled : {X : Type 0} → Form X → Type 0
IsSpelled form = IsSpelling form.spelled form.fits (whole form)
