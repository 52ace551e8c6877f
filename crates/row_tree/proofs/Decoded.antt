-- What stands at a key after a value was put there, or at another key.
use Rattle.std.proofs.Common.{◌≡◌, ◌≢◌, ℕ, List, refl, ap, ◌∙◌}
use Rattle.std.specs.Prelude.{Option, Some, None}
use Rattle.std.specs.Option.{option_map, option_and_then}
use Rattle.key_schema.specs.declared.key.Key.{Key}
use Rattle.key_schema.specs.declared.key.Key.TheVariants as keys
use Rattle.row_tree.specs.Values.{Value, AllocValue, DentValue, GcValue, KeptValue, InodeValue, SessionValue, as_inode, as_dent, as_session, as_kept, as_gc, as_alloc}
use Rattle.row_tree.specs.TypedRows.{TypedRows, value_at, write, of_form}
use Rattle.tree_model.proofs.MapLaws.{ids, names, holders, get-set_same, get-set_other}

pub lookup-write_same : (S : TypedRows) (k : Key) (w : Option Value) → value_at (write S k w) k ≡ option_and_then (of_form k) w
lookup-write_same S (keys.Alloc s) w = ap (option_map AllocValue) (get-set_same ids S.next s (option_and_then as_alloc w)) ∙ joined w
  where
    joined : (w : Option Value) → option_map AllocValue (option_and_then as_alloc w) ≡ option_and_then (of_form (keys.Alloc s)) w
    joined None = refl
    joined (Some v) = refl
lookup-write_same S (keys.Dent d n) w = ap (option_map DentValue) (get-set_same names S.dents (d, n) (option_and_then as_dent w)) ∙ joined w
  where
    joined : (w : Option Value) → option_map DentValue (option_and_then as_dent w) ≡ option_and_then (of_form (keys.Dent d n)) w
    joined None = refl
    joined (Some v) = refl
lookup-write_same S (keys.Gc i) w = ap (option_map GcValue) (get-set_same ids S.doomed i (option_and_then as_gc w)) ∙ joined w
  where
    joined : (w : Option Value) → option_map GcValue (option_and_then as_gc w) ≡ option_and_then (of_form (keys.Gc i)) w
    joined None = refl
    joined (Some v) = refl
lookup-write_same S (keys.Idem c) w = ap (option_map KeptValue) (get-set_same ids S.kept c.0 (option_and_then as_kept w)) ∙ joined w
  where
    joined : (w : Option Value) → option_map KeptValue (option_and_then as_kept w) ≡ option_and_then (of_form (keys.Idem c)) w
    joined None = refl
    joined (Some v) = refl
lookup-write_same S (keys.Inode i) w = ap (option_map InodeValue) (get-set_same ids S.inodes i (option_and_then as_inode w)) ∙ joined w
  where
    joined : (w : Option Value) → option_map InodeValue (option_and_then as_inode w) ≡ option_and_then (of_form (keys.Inode i)) w
    joined None = refl
    joined (Some v) = refl
lookup-write_same S (keys.Session i c n) w = ap (option_map SessionValue) (get-set_same holders S.sessions (i, (c.0, n)) (option_and_then as_session w)) ∙ joined w
  where
    joined : (w : Option Value) → option_map SessionValue (option_and_then as_session w) ≡ option_and_then (of_form (keys.Session i c n)) w
    joined None = refl
    joined (Some v) = refl

pub lookup-write_other : (S : TypedRows) (k : Key) (w : Option Value) (q : Key) → q ≢ k → value_at (write S k w) q ≡ value_at S q
lookup-write_other S (keys.Alloc s) w (keys.Alloc t) ne = ap (option_map AllocValue) (get-set_other ids S.next s (option_and_then as_alloc w) t (λ e. ne (ap keys.Alloc e)))
lookup-write_other S (keys.Dent d n) w (keys.Dent e m) ne = ap (option_map DentValue) (get-set_other names S.dents (d, n) (option_and_then as_dent w) (e, m) (λ q. ne (ap (λ (x : ℕ × List ℕ). keys.Dent x.0 x.1) q)))
lookup-write_other S (keys.Gc i) w (keys.Gc j) ne = ap (option_map GcValue) (get-set_other ids S.doomed i (option_and_then as_gc w) j (λ e. ne (ap keys.Gc e)))
lookup-write_other S (keys.Idem c) w (keys.Idem e) ne = ap (option_map KeptValue) (get-set_other ids S.kept c.0 (option_and_then as_kept w) e.0 (λ q. ne (ap (λ (x : ℕ). keys.Idem (record { 0 = x })) q)))
lookup-write_other S (keys.Inode i) w (keys.Inode j) ne = ap (option_map InodeValue) (get-set_other ids S.inodes i (option_and_then as_inode w) j (λ e. ne (ap keys.Inode e)))
lookup-write_other S (keys.Session i c n) w (keys.Session j d m) ne = ap (option_map SessionValue) (get-set_other holders S.sessions (i, (c.0, n)) (option_and_then as_session w) (j, (d.0, m)) (λ q. ne (ap (λ (x : ℕ × (ℕ × ℕ)). keys.Session x.0 (record { 0 = x.1.0 }) x.1.1) q)))
lookup-write_other S k w q ne = refl
