-- What reading a value by its row's type tells of the values of a key's form.
use Rattle.std.proofs.Common.{◌≡◌, ℕ, ◌<◌, ◌≤◌, Bool, true, ◌&&◌, nat_le, leb-true, List, refl, sym, subst, arith}
use Rattle.byte_fields.specs.Fields.{from_to, number_8}
use Rattle.tree_model.proofs.MapLaws.{and_true}
use Rattle.std.specs.Prelude.{IsTrue, IfSome, Result, Ok, Err, Some}
use Rattle.fs_base.specs.Gives.{Gives}
use Rattle.byte_fields.specs.Outcome.{fault_place}
use Rattle.byte_fields.specs.declared.error.RowError.{RowError}
use Rattle.byte_fields.specs.declared.error.RowError.TheVariants.{NotARecord}
use Rattle.fs_base.specs.declared.ids.ClientId.{ClientId}
use Rattle.inode_record.specs.Inode.{read_inode}
use Rattle.inode_record.specs.declared.inode.InodeRow.{InodeRow}
use Rattle.key_schema.specs.declared.key.Key.TheVariants as keys
use Rattle.row_records.specs.declared.rows.AllocRow.{AllocRow}
use Rattle.row_records.specs.declared.rows.DentRow.{DentRow}
use Rattle.row_records.specs.declared.rows.GcRow.{GcRow}
use Rattle.row_records.specs.declared.rows.KeptRow.{KeptRow}
use Rattle.row_records.specs.declared.rows.SessionRow.{SessionRow}
use Rattle.row_records.specs.Rows.{read_dent, read_session, read_kept, alloc_row, read_alloc, is_alloc}
use Rattle.row_records.specs.Rows.{read_gc}
use Rattle.row_tree.specs.Reading.{Puts, HasNoValue}
use Rattle.row_tree.specs.TypedRows.{TypedRows, write}
use Rattle.row_tree.specs.Values.{InodeValue, DentValue, SessionValue, KeptValue, GcValue, AllocValue, spelled_value}
use Rattle.row_tree.proofs.OneValue.{inodes, dents, sessions, kepts, gcs, allocs}

-- an answer that names a place is the definition's
pub told_place : {X : Type 0} (r : Result X RowError) (answer : Result X ℕ) (e : RowError) (place : ℕ) → r ≡ Err e → e ≡ NotARecord place → Gives fault_place (λ (x : X). x) r answer → answer ≡ Err place
told_place r answer e place is at gives =
    subst (λ (x : RowError). IfSome (fault_place x) (λ f. answer ≡ Err f)) at (subst (λ x. Gives fault_place (λ y. y) x answer) is gives)

pub no_alloc : (server : ℕ) (bytes : List ℕ) (place : ℕ) → read_alloc bytes ≡ Err place → HasNoValue (keys.Alloc server) bytes
unfolding spelled_value
no_alloc server bytes place e (AllocValue n) is same = allocs.refused bytes place (record { next = n }) e is.1 same
no_alloc server bytes place e v is same = let form = is.0 in absurd (cc)

pub puts_alloc : (server : ℕ) (S U : TypedRows) (bytes : List ℕ) (row : AllocRow) → read_alloc bytes ≡ Ok row → U ≡ write S (keys.Alloc server) (Some (AllocValue row.next)) → Puts S U (keys.Alloc server) bytes
unfolding spelled_value
puts_alloc server S U bytes row e is = let read = allocs.exact bytes row e in (AllocValue row.next, (refl, read.0), sym read.1, is)

-- bytes that read spell a value
pub has_alloc : (server : ℕ) (bytes : List ℕ) (row : AllocRow) → read_alloc bytes ≡ Ok row → HasNoValue (keys.Alloc server) bytes → ⊥
unfolding spelled_value
has_alloc server bytes row e none = let read = allocs.exact bytes row e in none (AllocValue row.next) (refl, read.0) (sym read.1)

pub no_dent : (dir : ℕ) (name : List ℕ) (bytes : List ℕ) (place : ℕ) → read_dent bytes ≡ Err place → HasNoValue (keys.Dent dir name) bytes
unfolding spelled_value
no_dent dir name bytes place e (DentValue row) is same = dents.refused bytes place row e is.1 same
no_dent dir name bytes place e v is same = let form = is.0 in absurd (cc)

pub puts_dent : (dir : ℕ) (name : List ℕ) (S U : TypedRows) (bytes : List ℕ) (row : DentRow) → read_dent bytes ≡ Ok row → U ≡ write S (keys.Dent dir name) (Some (DentValue row)) → Puts S U (keys.Dent dir name) bytes
unfolding spelled_value
puts_dent dir name S U bytes row e is = let read = dents.exact bytes row e in (DentValue row, (refl, read.0), sym read.1, is)

pub has_dent : (dir : ℕ) (name : List ℕ) (bytes : List ℕ) (row : DentRow) → read_dent bytes ≡ Ok row → HasNoValue (keys.Dent dir name) bytes → ⊥
unfolding spelled_value
has_dent dir name bytes row e none = let read = dents.exact bytes row e in none (DentValue row) (refl, read.0) (sym read.1)

pub no_gc : (id : ℕ) (bytes : List ℕ) (place : ℕ) → read_gc bytes ≡ Err place → HasNoValue (keys.Gc id) bytes
unfolding spelled_value
no_gc id bytes place e (GcValue row) is same = gcs.refused bytes place row e is.1 same
no_gc id bytes place e v is same = let form = is.0 in absurd (cc)

pub puts_gc : (id : ℕ) (S U : TypedRows) (bytes : List ℕ) (row : GcRow) → read_gc bytes ≡ Ok row → U ≡ write S (keys.Gc id) (Some (GcValue row)) → Puts S U (keys.Gc id) bytes
unfolding spelled_value
puts_gc id S U bytes row e is = let read = gcs.exact bytes row e in (GcValue row, (refl, read.0), sym read.1, is)

pub has_gc : (id : ℕ) (bytes : List ℕ) (row : GcRow) → read_gc bytes ≡ Ok row → HasNoValue (keys.Gc id) bytes → ⊥
unfolding spelled_value
has_gc id bytes row e none = let read = gcs.exact bytes row e in none (GcValue row) (refl, read.0) (sym read.1)

pub no_kept : (client : ClientId) (bytes : List ℕ) (place : ℕ) → read_kept bytes ≡ Err place → HasNoValue (keys.Idem client) bytes
unfolding spelled_value
no_kept client bytes place e (KeptValue row) is same = kepts.refused bytes place row e is.1 same
no_kept client bytes place e v is same = let form = is.0 in absurd (cc)

pub puts_kept : (client : ClientId) (S U : TypedRows) (bytes : List ℕ) (row : KeptRow) → read_kept bytes ≡ Ok row → U ≡ write S (keys.Idem client) (Some (KeptValue row)) → Puts S U (keys.Idem client) bytes
unfolding spelled_value
puts_kept client S U bytes row e is = let read = kepts.exact bytes row e in (KeptValue row, (refl, read.0), sym read.1, is)

pub no_inode : (id : ℕ) (bytes : List ℕ) (place : ℕ) → read_inode bytes ≡ Err place → HasNoValue (keys.Inode id) bytes
unfolding spelled_value
no_inode id bytes place e (InodeValue row) is same = inodes.refused bytes place row e is.1 same
no_inode id bytes place e v is same = let form = is.0 in absurd (cc)

pub puts_inode : (id : ℕ) (S U : TypedRows) (bytes : List ℕ) (row : InodeRow) → read_inode bytes ≡ Ok row → U ≡ write S (keys.Inode id) (Some (InodeValue row)) → Puts S U (keys.Inode id) bytes
unfolding spelled_value
puts_inode id S U bytes row e is = let read = inodes.exact bytes row e in (InodeValue row, (refl, read.0), sym read.1, is)

pub no_session : (inode : ℕ) (client : ClientId) (number : ℕ) (bytes : List ℕ) (place : ℕ) → read_session bytes ≡ Err place → HasNoValue (keys.Session inode client number) bytes
unfolding spelled_value
no_session inode client number bytes place e (SessionValue n) is same = sessions.refused bytes place (record { stamp = n }) e is.1 same
no_session inode client number bytes place e v is same = let form = is.0 in absurd (cc)

pub puts_session : (inode : ℕ) (client : ClientId) (number : ℕ) (S U : TypedRows) (bytes : List ℕ) (row : SessionRow) → read_session bytes ≡ Ok row → U ≡ write S (keys.Session inode client number) (Some (SessionValue row.stamp)) → Puts S U (keys.Session inode client number) bytes
unfolding spelled_value
puts_session inode client number S U bytes row e is = let read = sessions.exact bytes row e in (SessionValue row.stamp, (refl, read.0), sym read.1, is)

pub has_session : (inode : ℕ) (client : ClientId) (number : ℕ) (bytes : List ℕ) (row : SessionRow) → read_session bytes ≡ Ok row → HasNoValue (keys.Session inode client number) bytes → ⊥
unfolding spelled_value
has_session inode client number bytes row e none = let read = sessions.exact bytes row e in none (SessionValue row.stamp) (refl, read.0) (sym read.1)

second : (a b : Bool) → IsTrue (a && b) → b ≡ true
second a b h = (and_true a b h).1

at_most : (n : ℕ) → from_to 1 4294967295 n ≡ true → n ≤ 4294967295
at_most n e = leb-true n 4294967295 (and_true (nat_le 1 n) (nat_le n 4294967295) e).1

small_next : (n : ℕ) → IsTrue (is_alloc (record { next = n })) → n < 4294967296
unfolding alloc_row
small_next n h = omega (arith, at_most n (second (number_8.fits n) (from_to 1 4294967295 n) h))

-- a next number fits four bytes
pub alloc_small : (bytes : List ℕ) (row : AllocRow) → read_alloc bytes ≡ Ok row → row.next < 4294967296
alloc_small bytes row e = small_next row.next (allocs.exact bytes row e).0
