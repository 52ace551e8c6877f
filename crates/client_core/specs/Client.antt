-- A client's place in its script, and its steps.
use Rattle.std.specs.Prelude.{◌≡◌, ℕ, ◌+◌, ◌%◌, nat_le, List, [], ◌∷◌, ◌++◌, length, slice_get, is_some, Option, Some, None, option_and_then, Bool, true, false, if◌then◌else◌}
use Rattle.fs_base.specs.Config.{Settings}
use Rattle.fs_base.specs.declared.call.Request.{Request}
use Rattle.path_walk.specs.Requests.{IsRequest}
use Rattle.txn_task.specs.declared.outcome.Outcome.{Outcome}
use Rattle.client_core.specs.Descriptors.{descriptors_after, none_open}
use Rattle.client_core.specs.Ops.{fd_of, receipt_of, request_of, session_for}
use Rattle.client_core.specs.declared.descriptors.Descriptor.{Descriptor}
use Rattle.client_core.specs.declared.messages.ClientAnswer.{ClientAnswer}
use Rattle.client_core.specs.declared.messages.ClientAnswer.TheVariants as answers
use Rattle.client_core.specs.declared.messages.ClientAsk.{ClientAsk}
use Rattle.client_core.specs.declared.messages.ClientAsk.TheVariants as asks
use Rattle.client_core.specs.declared.plan.Op.{Op}
use Rattle.client_core.specs.declared.plan.Script.{Script}

pub record ClientView : Type 0 where
  pub config : Settings
  pub script : Script
  -- how many operations have ended
  pub op : ℕ
  -- how many request numbers are used
  pub number : ℕ
  -- the server that it sends to
  pub server : ℕ
  -- what it has open
  pub descriptors : List (Option Descriptor)
  -- the stops that took away the request of the call under way
  pub gone : List (ℕ × ℕ)
  -- the request under way
  pub request : Option Request
  -- whether memory was wanting
  pub failed : Bool

abbrev pub new_client : Settings → Script → ClientView
new_client C script =
    record {
      config = C;
      script = script;
      op = 0;
      number = 0;
      server = script.home;
      descriptors = none_open;
      gone = [];
      request = None;
      failed = false;
    }

-- ---- answers

-- the answer is one for what the client waits for
abbrev pub FitsClient : Option Request → ClientAnswer → Type 0
FitsClient None answers.Start = Unit {0}
FitsClient None answers.Next = Unit {0}
FitsClient (Some request) (answers.Replied server outcome) = Unit {0}
FitsClient (Some request) (answers.Gone server stop) = Unit {0}
FitsClient under_way answer = ⊥

-- ---- steps

-- the next request is this operation's: it takes the next number, and goes to the present server
abbrev pub next_request : ClientView → Op → Request
next_request c step = request_of c.script.id c.server (c.number + 1) (session_for c.descriptors step) step

-- it is sent, if there is such an operation
abbrev pub send : ClientView → Option Op → ClientView × ClientAsk
send c None = (c, asks.Ended)
send c (Some step) = (
  record c { number = c.number + 1; request = Some (next_request c step) },
  asks.Send c.server
      (next_request c step),
)

-- the descriptor of the operation with this ordinal
abbrev pub fd_at : List Op → ℕ → Option ℕ
fd_at steps op = option_and_then fd_of (slice_get steps op)

-- the descriptors once the request of the operation under way was answered
abbrev pub answered_on : ClientView → Request → Outcome → List (Option Descriptor)
answered_on c request outcome = descriptors_after c.descriptors (fd_at c.script.ops c.op) request outcome

-- the request under way was answered, and with it its operation has ended
abbrev pub end_call : ClientView → ℕ → Outcome → Option Request → ClientView × ClientAsk
end_call c server outcome None = (c, asks.Ended)
end_call c server outcome (Some request) = (
  record c { op = c.op + 1; descriptors = answered_on c request outcome; gone = []; request = None },
  asks.CallEnd
      (receipt_of c.op request server c.gone outcome ∷ []) true,
)

-- the server behind this one, and behind the last one the first
abbrev pub server_after : Settings → ℕ → ℕ
server_after C server = (server + 1) % C.servers

-- the same request, with its number, to another server
abbrev pub sent_to : Request → ℕ → Request
sent_to request server = record request { server = server }

-- a stop took the request under way: it goes to the next server, where the client stays
abbrev pub send_again : ClientView → ℕ × ℕ → Option Request → ClientView × ClientAsk
send_again c stop None = (c, asks.Ended)
send_again c stop (Some request) =
    let next = server_after c.config c.server in (
      record c { server = next; gone = c.gone ++ stop ∷ []; request = Some (sent_to request next) },
      asks.Send
          next (sent_to request next),
    )

-- the client behind its next ask, and the ask
abbrev pub client_step : ClientView → ClientAnswer → ClientView × ClientAsk
client_step c (answers.Replied server outcome) = end_call c server outcome c.request
client_step c (answers.Gone server stop) = send_again c (server, stop) c.request
client_step c answer = send c (slice_get c.script.ops c.op)

-- a request that is sent is one that its server takes
abbrev pub IsSending : Settings → ClientAsk → Type 0
IsSending C (asks.Send server request) = (request.server ≡ server) × IsRequest C request
IsSending C ask = Unit {0}

-- nothing is under way or left
abbrev pub has_ended : ClientView → Bool
has_ended c = if is_some c.request then false else nat_le (length c.script.ops) c.op
