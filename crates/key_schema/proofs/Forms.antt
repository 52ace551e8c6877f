-- Bytes that are a key of none of the six forms are no key.
use Rattle.std.proofs.Common.{◌≡◌, ℕ, ◌<◌, ◌^◌, List, ◌++◌, drop, ap, sym, ◌∙◌}
use Rattle.std.specs.Int.{w64, w128, to_le_bytes, to_be_bytes}
use Rattle.fs_base.specs.declared.ids.ClientId.{ClientId}
use Rattle.key_schema.specs.declared.key.Key.TheVariants as keys
use Rattle.key_schema.specs.Keys.{IsKeyOf, IsHolder, IsNoKey, IsNameless}

pub no_key : (bytes : List ℕ) → IsNameless bytes → ((x : ℕ × List ℕ) → IsKeyOf bytes (keys.Dent x.0 x.1) → ⊥) → IsNoKey bytes
no_key bytes none dent (keys.Alloc server) h = none.0 server h
no_key bytes none dent (keys.Dent parent name) h = dent (parent, name) h
no_key bytes none dent (keys.Gc id) h = none.1 id h
no_key bytes none dent (keys.Idem client) h = none.2 client h
no_key bytes none dent (keys.Inode id) h = none.3 id h
no_key bytes none dent (keys.Session inode client number) h = none.4 (inode, client, number) h

-- no session is behind an id that no client and number follow
pub no_session : (bytes rest : List ℕ) (inode : ℕ) → to_le_bytes w64 inode ++ rest ≡ bytes → ((client : ClientId) (n : ℕ) → IsHolder client n → to_be_bytes w128 client.0 ++ to_be_bytes w64 n ≡ rest → ⊥)
    → (x : ℕ × ClientId × ℕ) → x.0 < 2 ^ 36 → IsHolder x.1 x.2 → to_le_bytes w64 x.0 ++ (to_be_bytes w128 x.1.0 ++ to_be_bytes w64 x.2) ≡ bytes → ⊥
no_session bytes rest inode is none x small holder e = none x.1 x.2 holder (ap (λ b. drop 8 b) (e ∙ sym is))
