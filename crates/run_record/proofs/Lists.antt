-- A list as it is written: its name and count, then a word at a time.
use Rattle.std.proofs.Common.{◌≡◌, ℕ, ◌≤◌, List, [], ◌∷◌, ◌++◌, map, length, take, append-nil, ap, ◌∙◌, append_assoc, decimal}
use Rattle.std.specs.List.{flat_map}
use Rattle.std.proofs.lemmas.List.{take_all}
use Rattle.run_record.specs.ReplyText.{listed_words}
use Rattle.run_record.specs.Words.{joined}

words_after : {A : Type 0} (word : A → List ℕ) (front : List ℕ) (xs : List A) → front ++ flat_map (λ x. 32 ∷ word x) xs ≡ joined (front ∷ map word xs)
words_after word front [] = append-nil front
words_after word front (x ∷ xs) = ap (λ rest. front ++ (32 ∷ rest)) (words_after word (word x) xs)

list_words : {A : Type 0} (word : A → List ℕ) (before name : List ℕ) (xs : List A) → (before ++ (name ++ (32 ∷ decimal (length xs)))) ++ flat_map (λ x. 32 ∷ word x) xs ≡ before ++ joined (listed_words name word xs)
list_words word before name xs =
    let rest = flat_map (λ x. 32 ∷ word x) xs in
    let count = decimal (length xs) in
    append_assoc before (name ++ (32 ∷ count)) rest ∙ ap (λ more. before ++ more) (append_assoc name (32 ∷ count) rest ∙ ap (λ more. name ++ (32 ∷ more)) (words_after word count xs))

pub list_written : {A : Type 0} (word : A → List ℕ) (before name : List ℕ) (xs : List A) (i : ℕ) (out : List ℕ) → length xs ≤ i
    → out ≡ (before ++ (name ++ (32 ∷ decimal (length xs)))) ++ flat_map (λ x. 32 ∷ word x) (take i xs) → out ≡ before ++ joined (listed_words name word xs)
list_written word before name xs i out le so_far =
    let all : take i xs ≡ xs = take_all i xs le in
    so_far ∙ (rw all (list_words word before name xs))
