-- The chains of an ordered map.
use Rattle.std.proofs.Common.{◌≡◌, ℕ, List, [], Option, Some, None, Bool, true, false, cond, sym, ◌∙◌, ap, refl}
use Rattle.std.specs.Prelude.{unwrap_or, is_some, IsSome}
use Rattle.std.proofs.Common.{Result, Ok, Err, OnOk, OnErr, is_err}
use Rattle.std.specs.Map.{lookup}
use Rattle.std.specs.Ordering.{is_eq, nat_cmp}
use Rattle.std.specs.Cmp.Lexicographic.{slice_cmp}
use Rattle.conflict_sets.specs.Keys.{key_cmp}
use Rattle.conflict_sets.proofs.KeyOrder.{key_exact, key_less_flips, key_greater_flips}
use Rattle.conflict_sets.proofs.RowLemmas.{by_place}
use Rattle.kv_store.specs.declared.chain.Version.{Version}
use Rattle.kv_store.specs.Chains.{up_to}
use Rattle.kv_store.specs.Versions.{chain_at}

-- what the map's own order finds
abbrev pub found_at : List (List ℕ × List Version) → List ℕ → Option (List Version)
found_at es key = lookup (λ other. is_eq (slice_cmp nat_cmp key other)) es

pub chain_found : (key : List ℕ) (es : List (List ℕ × List Version)) (o : Option (List Version)) → o ≡ found_at es key → chain_at es key ≡ unwrap_or o []
unfolding key_cmp
chain_found key es o h = ap (λ p. unwrap_or p []) (sym h)

pub some_found : (o : Option (List Version)) (chain : List Version) → Some chain ≡ o → IsSome o
some_found o chain h = sym (ap is_some h)

pub not_there : {P : Type 0} (key : List ℕ) (es : List (List ℕ × List Version)) → None ≡ found_at es key → IsSome (lookup (λ other. is_eq (key_cmp key other)) es) → P
unfolding key_cmp
not_there key es h t = absurd (let e : false ≡ true = ap is_some h ∙ t in cc)

pub on_err : {T E P : Type 0} (r : Result T E) → P → OnErr r P
on_err (Ok x) p = tt
on_err (Err e) p = p

pub ok_holds : {T E P : Type 0} (r : Result T E) (b : Bool) → b ≡ is_err r → b ≡ false → OnOk r P → P
ok_holds (Ok x) b e f h = h
ok_holds (Err x) b e f h = absurd (let g : true ≡ false = sym e ∙ f in cc)

pub there : (key : List ℕ) (es : List (List ℕ × List Version)) (b : Bool) → b ≡ is_some (found_at es key) → b ≡ true → IsSome (lookup (λ other. is_eq (key_cmp key other)) es)
unfolding key_cmp
there key es b h t = sym h ∙ t

pub absent : (key : List ℕ) (es : List (List ℕ × List Version)) (b : Bool) → b ≡ is_some (found_at es key) → b ≡ false → lookup (λ other. is_eq (key_cmp key other)) es ≡ None
unfolding key_cmp
absent key es b h f = none (found_at es key) (sym h ∙ f)
  where
    none : (o : Option (List Version)) → is_some o ≡ false → o ≡ None
    none None g = refl
    none (Some chain) g = absurd (let e : true ≡ false = g in cc)

pub no_chain : (key : List ℕ) (es : List (List ℕ × List Version)) → lookup (λ other. is_eq (key_cmp key other)) es ≡ None → chain_at es key ≡ []
no_chain key es h = ap (λ o. unwrap_or o []) h

eq_flips : (a b : List ℕ) → is_eq (key_cmp a b) ≡ is_eq (key_cmp b a)
eq_flips a b = by_place (is_eq (key_cmp a b) ≡ is_eq (key_cmp b a)) a b
    (λ e. ap is_eq e ∙ sym (ap is_eq (key_less_flips a b e)))
    (λ e. ap (λ k. is_eq (key_cmp k b)) (key_exact a b e) ∙ ap (λ k. is_eq (key_cmp b k)) (sym (key_exact a b e)))
    (λ e. ap is_eq e ∙ sym (ap is_eq (key_greater_flips a b e)))

abbrev Changes : List ℕ → List (List ℕ × List Version) → List (List ℕ × List Version) → List Version → Type 0
Changes key m n w = (other : List ℕ) → found_at n other ≡ cond (is_eq (slice_cmp nat_cmp key other)) (Some w) (found_at m other)

changed_to : (key other : List ℕ) (m n : List (List ℕ × List Version)) (w : List Version) → Changes key m n w → chain_at n other ≡ cond (is_eq (key_cmp other key)) w (chain_at m other)
unfolding key_cmp
changed_to key other m n w h =
    ap (λ o. unwrap_or o []) (h other) ∙ (inside (is_eq (key_cmp key other)) ∙ ap (λ b. cond b w (chain_at m other)) (eq_flips key other))
  where
    inside : (b : Bool) → unwrap_or (cond b (Some w) (found_at m other)) [] ≡ cond b w (unwrap_or (found_at m other) [])
    inside true = refl
    inside false = refl

-- the chain of a key is changed by f, and no other is
pub changed : (f : List Version → List Version) (key other : List ℕ) (m n : List (List ℕ × List Version)) (w : List Version) → Changes key m n w → w ≡ f (chain_at m key) → chain_at n other ≡ cond (is_eq (key_cmp other key)) (f (chain_at m other)) (chain_at m other)
changed f key other m n w h is =
    changed_to key other m n w h
    ∙ by_place (cond (is_eq (key_cmp other key)) w (chain_at m other) ≡ cond (is_eq (key_cmp other key)) (f (chain_at m other)) (chain_at m other)) other key
    (λ e. rw e refl)
    (λ e. rw e (is ∙ ap (λ k. f (chain_at m k)) (sym (key_exact other key e))))
    (λ e. rw e refl)

pub unchanged : (key other : List ℕ) (m n : List (List ℕ × List Version)) (w : List Version) → Changes key m n w → w ≡ chain_at m key → chain_at n other ≡ chain_at m other
unchanged key other m n w h is = changed (λ chain. chain) key other m n w h is ∙ same (is_eq (key_cmp other key)) (chain_at m other)
  where
    same : (b : Bool) (chain : List Version) → cond b chain chain ≡ chain
    same true chain = refl
    same false chain = refl

-- a key without chain has none to cut
pub cut_none : (front : ℕ) (key other : List ℕ) (m : List (List ℕ × List Version)) → chain_at m key ≡ [] → chain_at m other ≡ cond (is_eq (key_cmp other key)) (up_to front (chain_at m other)) (chain_at m other)
cut_none front key other m h =
    by_place (chain_at m other ≡ cond (is_eq (key_cmp other key)) (up_to front (chain_at m other)) (chain_at m other)) other key
    (λ e. rw e refl)
    (λ e. let none : chain_at m other ≡ [] = ap (chain_at m) (key_exact other key e) ∙ h in rw e (none ∙ ap (up_to front) (sym none)))
    (λ e. rw e refl)
