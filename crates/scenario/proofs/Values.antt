-- Values of `serde_json` beside lists.
use Rattle.std.proofs.Common.{◌≡◌, ℕ, List, [], ◌∷◌, map, Bool, true, false, ◌&&◌, ◌||◌, String, Global, Bor, string_bytes, Option, Some, None, Ok, Err, cond, refl, ap}
use Rattle.std.specs.List.{list_any, list_all}
use Rattle.std.specs.Str.{bytes_eq, is_utf8, IsUtf8}
use Rattle.std.specs.Option.{ok_or}
use Rattle.std.proofs.lemmas.Str.{IsUtf8-from_is_utf8, is_utf8-from_IsUtf8}
use Rattle.serde_json.specs.Read.{read}
use Rattle.serde_json.specs.Data.{Data}
use Rattle.serde_json.specs.View.{view, items_view, members_view}
use Rattle.serde_json.specs.declared.value.Value.{Value}
use Rattle.scenario.specs.Broken.{rule}
use Rattle.scenario.specs.Json.{list_of, only_keys}
use Rattle.scenario.specs.Scenario.{json_of}

pub list_of-view : (vs : List Value) → list_of (items_view vs) ≡ map view vs
list_of-view [] = refl
list_of-view (v ∷ vs) = ap (λ (ds : List Data). view v ∷ ds) (list_of-view vs)

known_texts : (name : List ℕ) (known : List (Bor (List ℕ))) → list_any (λ k. bytes_eq name k.now) known ≡ list_any (λ k. bytes_eq name k) (map (λ k. k.now) known)
known_texts name [] = refl
known_texts name (k ∷ known) = ap (λ r. bytes_eq name k.now || r) (known_texts name known)

-- no other key, by the names of the entries
pub only_keys-view : (known : List (Bor (List ℕ))) (es : List (String Global × Value)) → list_all (λ name. list_any (λ k. bytes_eq (string_bytes name) k.now) known) (map (λ e. e.0) es) ≡ only_keys (map (λ k. k.now) known) (members_view es)
only_keys-view known [] = refl
only_keys-view known (e ∷ es) = rw (known_texts (string_bytes e.0) known) (ap (λ r. list_any (λ k. bytes_eq (string_bytes e.0) k) (map (λ k. k.now) known) && r) (only_keys-view known es))

-- what no reading takes
pub json_of-refused : (bytes : List ℕ) → (IsUtf8 bytes → read bytes ≡ None) → json_of bytes ≡ Err (rule 2 0)
unfolding json_of
json_of-refused bytes none = at (is_utf8 bytes) refl
  where
    at : (b : Bool) → is_utf8 bytes ≡ b → cond b (ok_or (read bytes) (rule 2 0)) (Err (rule 2 0)) ≡ Err (rule 2 0)
    at true e = rw (none (IsUtf8-from_is_utf8 bytes e)) refl
    at false e = refl

pub json_of-read : (bytes : List ℕ) (d : Data) → IsUtf8 bytes → read bytes ≡ Some d → json_of bytes ≡ Ok d
unfolding json_of
json_of-read bytes d utf8 e = rw (is_utf8-from_IsUtf8 bytes utf8, e) refl

pub none_from : {A : Type 0} (o : Option A) → ((u : A) × (o ≡ Some u) → ⊥) → o ≡ None
none_from None h = refl
none_from (Some x) h = absurd (h (x, refl))
