-- Which server owns an inode: there is one, and it stays while it is among the servers.
use Rattle.std.proofs.Common.{◌≡◌, ◌≢◌, ℕ, ◌<◌, ◌≤◌, nat_lt, List, [], ◌∷◌, ◌++◌, ◌⊎◌, inl, inr, refl, sym, ◌∙◌, ap, drop, slice_index_or, arith, Bool, true, false, cond}
use Rattle.std.specs.Prelude.{All, Contains}
use Rattle.std.proofs.lemmas.Bool.{ltb-true, ltb-false}
use Rattle.std.proofs.lemmas.List.Elements.{All-nil, All-cons, All-head, All-tail, All-append, All-contains, Contains-push, Contains-append_left, Contains-append_right, Contains-append_cases}
use Rattle.rendezvous.specs.Owners.{score, higher, owner_from, owner_of, AreAbove, IsRising, Beats, IsOwner, KeepsOwners}

head_in : (x : ℕ) (xs : List ℕ) → Contains (x ∷ xs) x
head_in x xs = Contains-append_left (x ∷ []) xs x (Contains-push [] x)

tail_in : (x y : ℕ) (ys : List ℕ) → Contains ys x → Contains (y ∷ ys) x
tail_in x y ys i = Contains-append_right (y ∷ []) ys x i

beats_itself : (inode n : ℕ) → Beats inode n n
beats_itself inode n = inr (refl, omega arith)

-- who beats the second of two also beats what that one beats
beats_too : (inode a b c : ℕ) → Beats inode a b → Beats inode b c → Beats inode a c
beats_too inode a b c (inl h) (inl k) = inl (omega (arith, h, k))
beats_too inode a b c (inl h) (inr k) = inl (omega (arith, h, k.0))
beats_too inode a b c (inr h) (inl k) = inl (omega (arith, h.0, k))
beats_too inode a b c (inr h) (inr k) = inr (k.0 ∙ h.0, omega (arith, h.1, k.1))

-- the owner among these and one that comes before them all
owner_here : (inode best : ℕ) (servers : List ℕ) → AreAbove best servers → IsRising servers → IsOwner inode (best ∷ servers) (owner_from inode best servers)
owner_here inode best [] a r = record { among = head_in best []; best = All-cons (Beats inode best) best [] (beats_itself inode best) (All-nil (Beats inode best)) }
owner_here inode best (server ∷ servers) a r =
    by_test (nat_lt (score inode best) (score inode server)) refl (owner_here inode server servers r.0 r.1) (owner_here inode best servers a.1 r.1)
  where
    not_first : (owner : ℕ) → Contains (best ∷ []) owner ⊎ Contains servers owner → Contains (best ∷ server ∷ servers) owner
    not_first owner (inl h) = Contains-append_left (best ∷ []) (server ∷ servers) owner h
    not_first owner (inr h) = tail_in owner best (server ∷ servers) (tail_in owner server servers h)

    below : (b : Bool) → nat_lt (score inode server) (score inode best) ≡ b → score inode server ≤ score inode best → Beats inode best server
    below true e h = inl (ltb-true (score inode server) (score inode best) e)
    below false e h = inr (omega (arith, ltb-false (score inode server) (score inode best) e, h), omega (arith, a.0))

    by_test : (b : Bool) → nat_lt (score inode best) (score inode server) ≡ b
        → IsOwner inode (server ∷ servers) (owner_from inode server servers) → IsOwner inode (best ∷ servers) (owner_from inode best servers)
        → IsOwner inode (best ∷ server ∷ servers) (owner_from inode (cond b server best) servers)
    by_test true e o p =
        let owner : ℕ = owner_from inode server servers in
        record {
          among = tail_in owner best (server ∷ servers) o.among;
          best = All-cons (Beats inode owner) best (server ∷ servers)
              (beats_too inode owner server best (All-head (Beats inode owner) server servers o.best) (inl (ltb-true (score inode best) (score inode server) e))) o.best;
        }
    by_test false e o p =
        let owner : ℕ = owner_from inode best servers in
        let first : Beats inode owner best = All-head (Beats inode owner) best servers p.best in
        record {
          among = not_first owner (Contains-append_cases (best ∷ []) servers owner p.among);
          best = All-cons (Beats inode owner) best (server ∷ servers) first
              (All-cons (Beats inode owner) server servers
              (beats_too inode owner best server first (below (nat_lt (score inode server) (score inode best)) refl (ltb-false (score inode best) (score inode server) e)))
              (All-tail (Beats inode owner) best servers p.best));
        }

pub is_owner : (inode : ℕ) (servers : List ℕ) → servers ≢ [] → IsRising servers → IsOwner inode servers (owner_of inode servers)
is_owner inode [] some r = absurd (some refl)
is_owner inode (server ∷ servers) some r = owner_here inode server servers r.0 r.1

-- two owners are one
one_owner : (inode : ℕ) (servers : List ℕ) (a b : ℕ) → IsOwner inode servers a → IsOwner inode servers b → a ≡ b
one_owner inode servers a b p q = cases (All-contains (Beats inode a) servers b p.best q.among) (All-contains (Beats inode b) servers a q.best p.among)
  where
    cases : Beats inode a b → Beats inode b a → a ≡ b
    cases (inl h) (inl k) = omega (arith, h, k)
    cases (inl h) (inr k) = omega (arith, h, k.0)
    cases (inr h) (inl k) = omega (arith, h.0, k)
    cases (inr h) (inr k) = omega (arith, h.1, k.1)

-- the rest after the first
pub owner_begins : (inode : ℕ) (servers : List ℕ) (first : ℕ) → servers ≢ [] → first ≡ slice_index_or servers 0 0 → owner_from inode first (drop 1 servers) ≡ owner_of inode servers
owner_begins inode [] first some is = absurd (some refl)
owner_begins inode (server ∷ servers) first some is = ap (λ n. owner_from inode n servers) is

above_rest : (n gone : ℕ) (before after : List ℕ) → AreAbove n (before ++ gone ∷ after) → AreAbove n (before ++ after)
above_rest n gone [] after a = a.1
above_rest n gone (m ∷ before) after a = (a.0, above_rest n gone before after a.1)

rising_rest : (gone : ℕ) (before after : List ℕ) → IsRising (before ++ gone ∷ after) → IsRising (before ++ after)
rising_rest gone [] after r = r.1
rising_rest gone (m ∷ before) after r = (above_rest m gone before after r.0, rising_rest gone before after r.1)

not_empty : (xs : List ℕ) (x : ℕ) → Contains xs x → xs ≢ []
not_empty [] x (k, h, e) = λ _. absurd (let f : k < 0 = h in omega (arith, f))
not_empty (y ∷ ys) x i = λ e. absurd (let f : y ∷ ys ≡ [] = e in cc)

some_list : (gone : ℕ) (before after : List ℕ) → before ++ gone ∷ after ≢ []
some_list gone before after = not_empty (before ++ gone ∷ after) gone (Contains-append_right before (gone ∷ after) gone (head_in gone after))

among_rest : (owner gone : ℕ) (before after : List ℕ) → owner ≢ gone → Contains (before ++ gone ∷ after) owner → Contains (before ++ after) owner
among_rest owner gone before after other i = cases (Contains-append_cases before (gone ∷ after) owner i)
  where
    behind : Contains (gone ∷ []) owner ⊎ Contains after owner → Contains (before ++ after) owner
    behind (inl h) = absurd (other (sym (All-contains (λ n. gone ≡ n) (gone ∷ []) owner (All-cons (λ n. gone ≡ n) gone [] refl (All-nil (λ n. gone ≡ n))) h)))
    behind (inr h) = Contains-append_right before after owner h

    cases : Contains before owner ⊎ Contains (gone ∷ after) owner → Contains (before ++ after) owner
    cases (inl h) = Contains-append_left before after owner h
    cases (inr h) = behind (Contains-append_cases (gone ∷ []) after owner h)

best_rest : (P : ℕ → Type 0) (gone : ℕ) (before after : List ℕ) → All P (before ++ gone ∷ after) → All P (before ++ after)
best_rest P gone [] after h = All-tail P gone after h
best_rest P gone (m ∷ before) after h =
    All-cons P m (before ++ after) (All-head P m (before ++ gone ∷ after) h) (best_rest P gone before after (All-tail P m (before ++ gone ∷ after) h))

pub keeps_owners : KeepsOwners
keeps_owners inode gone before after r other =
    let all : List ℕ = before ++ gone ∷ after in
    let o : IsOwner inode all (owner_of inode all) = is_owner inode all (some_list gone before after) r in
    let stays : Contains (before ++ after) (owner_of inode all) = among_rest (owner_of inode all) gone before after other o.among in
    one_owner inode (before ++ after) (owner_of inode (before ++ after)) (owner_of inode all)
    (is_owner inode (before ++ after) (not_empty (before ++ after) (owner_of inode all) stays) (rising_rest gone before after r))
    (record { among = stays; best = best_rest (Beats inode (owner_of inode all)) gone before after o.best })
