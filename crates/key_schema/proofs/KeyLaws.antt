-- Each key has a spelling of its own.
use Rattle.std.proofs.Common.{◌≡◌, ℕ, ◌==◌, ◌+◌, ◌*◌, ◌/◌, ◌%◌, ◌<◌, ◌^◌, List, [], ◌∷◌, ◌++◌, take, drop, cond, refl, sym, ap, ◌∙◌, arith}
use Rattle.std.specs.Prelude.{codes}
use Rattle.std.specs.Int.{w64, from_le_bytes, from_be_bytes, to_le_bytes, to_be_bytes}
use Rattle.std.proofs.lemmas.Nat.{from_le_bytes-to_le_bytes_8, from_be_bytes-to_be_bytes_8}
use Rattle.key_schema.specs.declared.key.Key.{Key}
use Rattle.key_schema.specs.declared.key.Key.TheVariants as keys
use Rattle.key_schema.specs.Keys.{spelled_key, IsKeyOf, IsValidKey, IsSpellable, OneKeyEach}
use Rattle.key_schema.proofs.ClientBytes.{client_is}

abbrev head_or_zero : List ℕ → ℕ
head_or_zero [] = 0
head_or_zero (b ∷ bs) = b

-- the id from the n-th byte on
abbrev id_at : ℕ → List ℕ → ℕ
id_at n bytes = from_le_bytes w64 (take 8 (drop n bytes))

abbrev pub client_at : ℕ → List ℕ → ℕ
client_at n bytes = from_be_bytes w64 (take 8 (drop n bytes)) * 2 ^ 64 + from_be_bytes w64 (take 8 (drop (n + 8) bytes))

-- the key of bytes that spell one, by their first letters
unfoldable pub key_of : List ℕ → Key
key_of bytes =
    cond (head_or_zero bytes == 65) (keys.Alloc (head_or_zero (drop 4 bytes)))
    (cond (head_or_zero bytes == 68) (keys.Dent (id_at 4 bytes) (drop 12 bytes))
    (cond (head_or_zero bytes == 71) (keys.Gc (id_at 4 bytes))
    (cond (head_or_zero bytes == 83) (keys.Session (id_at 4 bytes) (record { 0 = client_at 12 bytes }) (from_be_bytes w64 (drop 28 bytes)))
    (cond (head_or_zero (drop 1 bytes) == 68) (keys.Idem (record { 0 = client_at 4 bytes })) (keys.Inode (id_at 4 bytes))))))

high_half : (c : ℕ) → c < 2 ^ 128 → c / 2 ^ 64 < 2 ^ 64
high_half c l = omega arith

low_half : (c : ℕ) → c % 2 ^ 64 < 2 ^ 64
low_half c = omega arith

halves : (c : ℕ) → (c / 2 ^ 64) * 2 ^ 64 + c % 2 ^ 64 ≡ c
halves c = omega arith

client_back : (c : ℕ) → c < 2 ^ 128 → from_be_bytes w64 (to_be_bytes w64 (c / 2 ^ 64)) * 2 ^ 64 + from_be_bytes w64 (to_be_bytes w64 (c % 2 ^ 64)) ≡ c
client_back c l = (λ i. from_be_bytes-to_be_bytes_8 (c / 2 ^ 64) (high_half c l) i * 2 ^ 64 + from_be_bytes-to_be_bytes_8 (c % 2 ^ 64) (low_half c) i) ∙ halves c

pub key_of-spelled_key : (k : Key) → IsSpellable k → key_of (spelled_key k) ≡ k
unfolding spelled_key key_of
key_of-spelled_key (keys.Alloc server) v = refl
key_of-spelled_key (keys.Dent parent name) v = ap (λ x. keys.Dent x name) (from_le_bytes-to_le_bytes_8 parent v)
key_of-spelled_key (keys.Gc id) v = ap keys.Gc (from_le_bytes-to_le_bytes_8 id v)
key_of-spelled_key (keys.Idem client) v =
    ap (λ bytes. key_of (codes "IDEM" ++ bytes)) (client_is client.0) ∙ ap (λ x. keys.Idem (record { 0 = x })) (client_back client.0 v)
key_of-spelled_key (keys.Inode id) v = ap keys.Inode (from_le_bytes-to_le_bytes_8 id v)
key_of-spelled_key (keys.Session inode client number) v =
    ap (λ bytes. key_of (codes "SESS" ++ (to_le_bytes w64 inode ++ (bytes ++ to_be_bytes w64 number)))) (client_is client.0)
    ∙ (λ t. keys.Session (from_le_bytes-to_le_bytes_8 inode v.0 t) (record { 0 = client_back client.0 v.1 t }) (from_be_bytes-to_be_bytes_8 number v.2 t))

pub one_key_each : OneKeyEach
one_key_each a b va vb e = sym (key_of-spelled_key a va) ∙ (ap key_of e ∙ key_of-spelled_key b vb)

-- numbers in their ranges fit their bytes
pub spellable : (k : Key) → IsValidKey k → IsSpellable k
spellable (keys.Alloc server) v = tt
spellable (keys.Dent parent name) v = let h = v.0 in omega arith
spellable (keys.Gc id) v = omega arith
spellable (keys.Idem client) v = v
spellable (keys.Inode id) v = omega arith
spellable (keys.Session inode client number) v = (let h = v.0 in omega arith, v.1.0, v.1.2)

-- bytes are of one valid key at most
pub same_key : (bytes : List ℕ) (a b : Key) → IsKeyOf bytes a → IsKeyOf bytes b → a ≡ b
same_key bytes a b ha hb = one_key_each a b (spellable a ha.0) (spellable b hb.0) (ha.1 ∙ sym hb.1)
