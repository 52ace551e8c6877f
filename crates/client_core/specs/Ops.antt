-- The call of an operation, its time, its requests, and what is kept of them.
use Rattle.std.specs.Prelude.{◌≡◌, ℕ, List, Option, Some, None, true}
use Rattle.byte_fields.specs.Forms.{are_bytes}
use Rattle.fs_base.specs.declared.call.Call.{Call}
use Rattle.fs_base.specs.declared.call.Call.TheVariants as calls
use Rattle.fs_base.specs.declared.call.Request.{Request}
use Rattle.fs_base.specs.declared.call.Session.{Session}
use Rattle.fs_base.specs.declared.ids.ClientId.{ClientId}
use Rattle.txn_task.specs.declared.outcome.Outcome.{Outcome}
use Rattle.txn_task.specs.declared.outcome.Receipt.{Receipt}
use Rattle.client_core.specs.Descriptors.{descriptor_at, session_of}
use Rattle.client_core.specs.declared.descriptors.Descriptor.{Descriptor}
use Rattle.client_core.specs.declared.plan.Op.{Op}
use Rattle.client_core.specs.declared.plan.Op.TheVariants as ops

-- the descriptor that it opens or uses
abbrev pub fd_of : Op → Option ℕ
fd_of (ops.Open stamp place fd) = Some fd
fd_of (ops.Openr stamp place fd) = Some fd
fd_of (ops.Fstat stamp fd) = Some fd
fd_of step = None

-- the session is that of its descriptor
abbrev pub call_of : Session → Op → Call
call_of session (ops.Mkdir stamp place mode layout) = calls.Mkdir place mode layout
call_of session (ops.Create stamp place mode layout) = calls.Create place mode layout
call_of session (ops.Symlink stamp place target) = calls.Symlink place target
call_of session (ops.Setattr stamp place changes) = calls.Setattr place changes
call_of session (ops.Link stamp from to) = calls.Link from to
call_of session (ops.Unlink stamp place) = calls.Unlink place
call_of session (ops.Rmdir stamp place) = calls.Rmdir place
call_of session (ops.Rename stamp from to) = calls.Rename from to
call_of session (ops.Lookup stamp place) = calls.Lookup place
call_of session (ops.Stat stamp place) = calls.Stat place
call_of session (ops.List stamp place) = calls.List place
call_of session (ops.Readlink stamp place) = calls.Readlink place
call_of session (ops.Open stamp place fd) = calls.Open place
call_of session (ops.Openr stamp place fd) = calls.Openr place
call_of session (ops.Fstat stamp fd) = calls.Fstat session

abbrev pub stamp_of : Op → ℕ
stamp_of (ops.Mkdir stamp place mode layout) = stamp
stamp_of (ops.Create stamp place mode layout) = stamp
stamp_of (ops.Symlink stamp place target) = stamp
stamp_of (ops.Setattr stamp place changes) = stamp
stamp_of (ops.Link stamp from to) = stamp
stamp_of (ops.Unlink stamp place) = stamp
stamp_of (ops.Rmdir stamp place) = stamp
stamp_of (ops.Rename stamp from to) = stamp
stamp_of (ops.Lookup stamp place) = stamp
stamp_of (ops.Stat stamp place) = stamp
stamp_of (ops.List stamp place) = stamp
stamp_of (ops.Readlink stamp place) = stamp
stamp_of (ops.Open stamp place fd) = stamp
stamp_of (ops.Openr stamp place fd) = stamp
stamp_of (ops.Fstat stamp fd) = stamp

-- the session of an operation's descriptor, as the client has kept it
abbrev pub session_for : List (Option Descriptor) → Op → Session
session_for descriptors step = session_of (descriptor_at descriptors (fd_of step))

-- a client's request of an operation: to a server, by a number
abbrev pub request_of : ClientId → ℕ → ℕ → Session → Op → Request
request_of client server number session step =
    record {
      server = server;
      client = client;
      number = number;
      stamp = stamp_of step;
      call = call_of session step;
    }

-- what is kept of a request's call: the request's number, the server that answered, and the stops that took
-- the request away
abbrev pub receipt_of : ℕ → Request → ℕ → List (ℕ × ℕ) → Outcome → Receipt
receipt_of op request server gone outcome =
    record {
      op = op;
      number = Some request.number;
      server = Some server;
      stamp = request.stamp;
      call = request.call;
      reply = outcome.reply;
      committed = outcome.committed;
      version = outcome.version;
      conflicts = outcome.conflicts;
      gone = gone;
    }

-- each text of the operation is one of bytes
abbrev pub HasBytes : Op → Type 0
HasBytes (ops.Mkdir stamp place mode layout) = are_bytes place.text ≡ true
HasBytes (ops.Create stamp place mode layout) = are_bytes place.text ≡ true
HasBytes (ops.Symlink stamp place target) = (are_bytes place.text ≡ true) × (are_bytes target ≡ true)
HasBytes (ops.Setattr stamp place changes) = are_bytes place.text ≡ true
HasBytes (ops.Link stamp from to) = (are_bytes from.text ≡ true) × (are_bytes to.text ≡ true)
HasBytes (ops.Unlink stamp place) = are_bytes place.text ≡ true
HasBytes (ops.Rmdir stamp place) = are_bytes place.text ≡ true
HasBytes (ops.Rename stamp from to) = (are_bytes from.text ≡ true) × (are_bytes to.text ≡ true)
HasBytes (ops.Lookup stamp place) = are_bytes place.text ≡ true
HasBytes (ops.Stat stamp place) = are_bytes place.text ≡ true
HasBytes (ops.List stamp place) = are_bytes place.text ≡ true
HasBytes (ops.Readlink stamp place) = are_bytes place.text ≡ true
HasBytes (ops.Open stamp place fd) = are_bytes place.text ≡ true
HasBytes (ops.Openr stamp place fd) = are_bytes place.text ≡ true
HasBytes (ops.Fstat stamp fd) = Unit {0}
