-- The call of an operation within its ranges may be spelled.
use Rattle.std.proofs.Common.{◌≡◌, ℕ, zero, suc, ◌-◌, ◌<◌, ◌≤◌, ◌^◌, ◌&&◌, nat_le, nat_lt, le-leb, lt-ltb, lit<, true, List, length, get_or, refl, arith}
use Rattle.std.specs.Prelude.{Option, Some, None, IsTrue, IfSome}
use Rattle.std.specs.Int.{w16, w32, w64, to_le_bytes}
use Rattle.std.proofs.lemmas.Bool.{and_from}
use Rattle.byte_fields.specs.Fields.{number_1, number_2, number_4, number_8, inode_id, mode, time, text, optional}
use Rattle.byte_fields.specs.Forms.{Form, are_bytes}
use Rattle.byte_fields.proofs.Bytes.{are_bytes_by}
use Rattle.fs_base.specs.declared.call.Changes.{Changes}
use Rattle.fs_base.specs.declared.call.Place.{Place}
use Rattle.fs_base.specs.declared.call.Session.{Session}
use Rattle.fs_base.specs.declared.layout.DefaultLayout.{DefaultLayout}
use Rattle.row_records.specs.Calls.{place, session, default_layout, made, changes, call, stamped_call, is_call}
use Rattle.client_core.specs.Plans.{IsOp, IsPlace, IsGivenLayout, IsChanges}
use Rattle.client_core.specs.declared.plan.Op.{Op}
use Rattle.client_core.specs.declared.plan.Op.TheVariants as ops
use Rattle.fs_base.specs.Config.{Settings}
use Rattle.fs_base.specs.declared.ids.ClientId.{ClientId}
use Rattle.path_walk.specs.Requests.{IsRequest, is_built}
use Rattle.client_core.specs.Ops.{call_of, request_of, stamp_of, HasBytes}

-- ---- numbers

byte_2 : (n i : ℕ) → get_or (to_le_bytes w16 n) i 0 < 256
byte_2 n zero = omega arith
byte_2 n (suc zero) = omega arith
byte_2 n (suc (suc i)) = lit< tt

byte_4 : (n i : ℕ) → get_or (to_le_bytes w32 n) i 0 < 256
byte_4 n zero = omega arith
byte_4 n (suc zero) = omega arith
byte_4 n (suc (suc zero)) = omega arith
byte_4 n (suc (suc (suc zero))) = omega arith
byte_4 n (suc (suc (suc (suc i)))) = lit< tt

byte_8 : (n i : ℕ) → get_or (to_le_bytes w64 n) i 0 < 256
byte_8 n zero = omega arith
byte_8 n (suc zero) = omega arith
byte_8 n (suc (suc zero)) = omega arith
byte_8 n (suc (suc (suc zero))) = omega arith
byte_8 n (suc (suc (suc (suc zero)))) = omega arith
byte_8 n (suc (suc (suc (suc (suc zero))))) = omega arith
byte_8 n (suc (suc (suc (suc (suc (suc zero)))))) = omega arith
byte_8 n (suc (suc (suc (suc (suc (suc (suc zero))))))) = omega arith
byte_8 n (suc (suc (suc (suc (suc (suc (suc (suc i)))))))) = lit< tt

fits_2 : (n : ℕ) → n < 2 ^ 16 → number_2.fits n ≡ true
unfolding number_2
fits_2 n small = and_from (nat_lt n (2 ^ 16)) (are_bytes (to_le_bytes w16 n)) (lt-ltb n (2 ^ 16) small) (are_bytes_by (to_le_bytes w16 n) (byte_2 n))

fits_4 : (n : ℕ) → n < 2 ^ 32 → number_4.fits n ≡ true
unfolding number_4
fits_4 n small = and_from (nat_lt n (2 ^ 32)) (are_bytes (to_le_bytes w32 n)) (lt-ltb n (2 ^ 32) small) (are_bytes_by (to_le_bytes w32 n) (byte_4 n))

fits_8 : (n : ℕ) → n < 2 ^ 64 → number_8.fits n ≡ true
unfolding number_8
fits_8 n small = and_from (nat_lt n (2 ^ 64)) (are_bytes (to_le_bytes w64 n)) (lt-ltb n (2 ^ 64) small) (are_bytes_by (to_le_bytes w64 n) (byte_8 n))

up_to : (n high : ℕ) → n ≤ high → (nat_le 0 n && nat_le n high) ≡ true
up_to n high le = and_from (nat_le 0 n) (nat_le n high) (le-leb 0 n (omega arith)) (le-leb n high le)

mode_fits : (n : ℕ) → n < 4096 → mode.fits n ≡ true
unfolding mode
mode_fits n small = and_from (number_2.fits n) (nat_le 0 n && nat_le n 4095) (fits_2 n (omega arith)) (up_to n 4095 (omega arith))

time_fits : (n : ℕ) → n < 2 ^ 53 → time.fits n ≡ true
unfolding time
time_fits n small = and_from (number_8.fits n) (nat_le 0 n && nat_le n (2 ^ 53 - 1)) (fits_8 n (omega arith)) (up_to n (2 ^ 53 - 1) (omega arith))

inode_fits : (n : ℕ) → n < 2 ^ 36 → inode_id.fits n ≡ true
unfolding inode_id
inode_fits n small = and_from (number_8.fits n) (nat_le 0 n && nat_le n (2 ^ 36 - 1)) (fits_8 n (omega arith)) (up_to n (2 ^ 36 - 1) (omega arith))

optional_fits : {X : Type 0} (form : Form X) (o : Option X) → IfSome o (λ x. form.fits x ≡ true) → (optional form).fits o ≡ true
unfolding number_1
optional_fits form None h = refl
optional_fits form (Some x) h = h

below_fits : (form : Form ℕ) (limit : ℕ) → ((n : ℕ) → n < limit → form.fits n ≡ true) → (o : Option ℕ) → IfSome o (λ n. n < limit) → (optional form).fits o ≡ true
below_fits form limit fits None h = optional_fits form None tt
below_fits form limit fits (Some n) h = optional_fits form (Some n) (fits n h)

-- ---- parts of calls

text_fits : (bytes : List ℕ) → length bytes ≤ 65535 → are_bytes bytes ≡ true → text.fits bytes ≡ true
unfolding text
text_fits bytes short are = and_from (number_2.fits (length bytes)) (are_bytes bytes) (fits_2 (length bytes) (omega arith)) are

place_fits : (p : Place) → IsPlace p → are_bytes p.text ≡ true → place.fits p ≡ true
unfolding place
place_fits p h are = and_from (inode_id.fits p.base) (text.fits p.text) (inode_fits p.base h.base_below) (text_fits p.text h.text_short are)

layout_fits : (l : DefaultLayout) → IsGivenLayout l → default_layout.fits l ≡ true
unfolding default_layout
layout_fits l h = and_from (number_4.fits l.chunk) (number_2.fits l.stripe) (fits_4 l.chunk h.chunk_below) (fits_2 l.stripe h.stripe_below)

layout_if : (o : Option DefaultLayout) → IfSome o IsGivenLayout → (optional default_layout).fits o ≡ true
layout_if None h = optional_fits default_layout None tt
layout_if (Some l) h = optional_fits default_layout (Some l) (layout_fits l h)

made_fits : (p : Place) (m : ℕ) (o : Option DefaultLayout) → IsPlace p → are_bytes p.text ≡ true → m < 4096 → IfSome o IsGivenLayout → made.fits (p, (m, o)) ≡ true
unfolding made
made_fits p m o h are small l = and_from (place.fits p) (mode.fits m && (optional default_layout).fits o) (place_fits p h are) (and_from (mode.fits m) ((optional default_layout).fits o) (mode_fits m small) (layout_if o l))

changes_fits : (c : Changes) → IsChanges c → changes.fits c ≡ true
unfolding changes
changes_fits c h =
    and_from ((optional mode).fits c.mode) _ (below_fits mode 4096 mode_fits c.mode h.mode_below)
    (and_from ((optional number_4).fits c.owner) _ (below_fits number_4 (2 ^ 32) fits_4 c.owner h.owner_below)
    (and_from ((optional number_4).fits c.group) _ (below_fits number_4 (2 ^ 32) fits_4 c.group h.group_below)
    (and_from ((optional time).fits c.atime) _ (below_fits time (2 ^ 53) time_fits c.atime h.atime_below)
    (below_fits time (2 ^ 53) time_fits c.mtime h.mtime_below))))

session_fits : (s : Session) → s.inode < 2 ^ 36 → s.number < 2 ^ 64 → session.fits s ≡ true
unfolding session
session_fits s inode number = and_from (inode_id.fits s.inode) (number_8.fits s.number) (inode_fits s.inode inode) (fits_8 s.number number)

-- ---- the calls

two_places : (stamp : ℕ) (from to : Place) → (stamp < 2 ^ 53) × IsPlace from × IsPlace to → (are_bytes from.text ≡ true) × (are_bytes to.text ≡ true)
    → (time.fits stamp && (place.fits from && place.fits to)) ≡ true
two_places stamp from to h are =
    and_from (time.fits stamp) (place.fits from && place.fits to) (time_fits stamp h.0)
    (and_from (place.fits from) (place.fits to) (place_fits from h.1 are.0) (place_fits to h.2 are.1))

pub op_fits : (s : Session) (step : Op) → s.inode < 2 ^ 36 → s.number < 2 ^ 64 → IsOp step → HasBytes step → IsTrue (is_call (stamp_of step, call_of s step))
unfolding stamped_call call number_1
op_fits s (ops.Mkdir stamp p m l) inode number h are = and_from (time.fits stamp) (made.fits (p, (m, l))) (time_fits stamp h.0) (made_fits p m l h.1 are h.2 h.3)
op_fits s (ops.Create stamp p m l) inode number h are = and_from (time.fits stamp) (made.fits (p, (m, l))) (time_fits stamp h.0) (made_fits p m l h.1 are h.2 h.3)
op_fits s (ops.Symlink stamp p target) inode number h are = and_from (time.fits stamp) (place.fits p && text.fits target) (time_fits stamp h.0) (and_from (place.fits p) (text.fits target) (place_fits p h.1 are.0) (text_fits target h.2 are.1))
op_fits s (ops.Setattr stamp p c) inode number h are = and_from (time.fits stamp) (place.fits p && changes.fits c) (time_fits stamp h.0) (and_from (place.fits p) (changes.fits c) (place_fits p h.1 are) (changes_fits c h.2))
op_fits s (ops.Link stamp from to) inode number h are = two_places stamp from to h are
op_fits s (ops.Unlink stamp p) inode number h are = and_from (time.fits stamp) (place.fits p) (time_fits stamp h.0) (place_fits p h.1 are)
op_fits s (ops.Rmdir stamp p) inode number h are = and_from (time.fits stamp) (place.fits p) (time_fits stamp h.0) (place_fits p h.1 are)
op_fits s (ops.Rename stamp from to) inode number h are = two_places stamp from to h are
op_fits s (ops.Lookup stamp p) inode number h are = and_from (time.fits stamp) (place.fits p) (time_fits stamp h.0) (place_fits p h.1 are)
op_fits s (ops.Stat stamp p) inode number h are = and_from (time.fits stamp) (place.fits p) (time_fits stamp h.0) (place_fits p h.1 are)
op_fits s (ops.List stamp p) inode number h are = and_from (time.fits stamp) (place.fits p) (time_fits stamp h.0) (place_fits p h.1 are)
op_fits s (ops.Readlink stamp p) inode number h are = and_from (time.fits stamp) (place.fits p) (time_fits stamp h.0) (place_fits p h.1 are)
op_fits s (ops.Open stamp p fd) inode number h are = and_from (time.fits stamp) (place.fits p) (time_fits stamp h.0) (place_fits p h.1 are)
op_fits s (ops.Openr stamp p fd) inode number h are = and_from (time.fits stamp) (place.fits p) (time_fits stamp h.0) (place_fits p h.1 are)
op_fits s (ops.Fstat stamp fd) inode number h are = and_from (time.fits stamp) (session.fits s) (time_fits stamp h.0) (session_fits s inode number)

pub built : (s : Session) (step : Op) → IsTrue (is_built (call_of s step))
built s (ops.Mkdir stamp p m l) = refl
built s (ops.Create stamp p m l) = refl
built s (ops.Symlink stamp p target) = refl
built s (ops.Setattr stamp p c) = refl
built s (ops.Link stamp from to) = refl
built s (ops.Unlink stamp p) = refl
built s (ops.Rmdir stamp p) = refl
built s (ops.Rename stamp from to) = refl
built s (ops.Lookup stamp p) = refl
built s (ops.Stat stamp p) = refl
built s (ops.List stamp p) = refl
built s (ops.Readlink stamp p) = refl
built s (ops.Open stamp p fd) = refl
built s (ops.Openr stamp p fd) = refl
built s (ops.Fstat stamp fd) = refl

pub valid_request : (C : Settings) (client : ClientId) (server number : ℕ) (s : Session) (step : Op) → server < C.servers → 1 ≤ number → s.inode < 2 ^ 36 → s.number < 2 ^ 64 → IsOp step → HasBytes step → IsRequest C (request_of client server number s step)
valid_request C client server number s step below from inode up_to valid are = record { server = below; number = from; call = op_fits s step inode up_to valid are; built = built s step }
