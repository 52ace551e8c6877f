-- A turn as one event: a request's ask, answered by the store, and what came of it.
use Rattle.std.specs.Prelude.{◌≡◌, ◌≢◌, ℕ, ◌==◌, Bool, true, false, List, [], ◌∷◌, ◌++◌, Option, Some, None, option_map, length, slice_get, if◌then◌else◌}
use Rattle.fs_base.specs.Config.{Settings}
use Rattle.fs_base.specs.declared.call.Request.{Request}
use Rattle.txn_task.specs.declared.messages.Ask.{Ask}
use Rattle.txn_task.specs.declared.messages.Ask.TheVariants as asks
use Rattle.txn_task.specs.declared.messages.Entry.{Entry}
use Rattle.txn_task.specs.declared.outcome.Outcome.{Outcome}
use Rattle.txn_task.specs.declared.outcome.Receipt.{Receipt}
use Rattle.meta_task.specs.Task.{TaskView, new_task}
use Rattle.meta_task.specs.declared.waiting.Waiting.TheVariants as waits
use Rattle.client_core.specs.Client.{end_call, send, send_again}
use Rattle.client_core.specs.declared.messages.ClientAsk.TheVariants as client_asks
use Rattle.client_core.specs.declared.plan.Stop.{Stop}
use Rattle.run_record.specs.Receipts.{fronts_of}
use Rattle.run_record.specs.ReplyText.{text_of}
use Rattle.request_run.specs.Answered.{IsExchange}
use Rattle.seat_turns.specs.Ready.{is_done}
use Rattle.seat_turns.specs.Servers.{HasCounted, has_made}
use Rattle.seat_turns.specs.declared.seats.Seat.{Seat}
use Rattle.seat_turns.specs.declared.seats.Work.{Work}
use Rattle.seat_turns.specs.declared.servers.ServerCounts.{ServerCounts}

-- ---- a request begins

-- the client has sent its next request; its task waits for its first answer, and its front is the journal's
-- length
pub record HasSent (C : Settings) (attempts front : ℕ) (before after : Seat) : Type 0 where
  pub server : ℕ
  pub request : Request
  pub sends : send before.client (slice_get before.client.script.ops before.client.op)
      ≡ (after.client, client_asks.Send server request)
  pub work : after.work
      ≡ Some (record {
        task = record (new_task C attempts request) { waiting = waits.Beginning };
        ask = asks.Begin;
        server = server;
        front = front;
      })
  pub again : after.again ≡ None
  pub receipts : after.receipts ≡ before.receipts

-- the request of a call whose server stopped goes to the present server, and the call keeps its front; what the
-- lost task had met is forgotten
pub record HasSentAgain (C : Settings) (attempts front : ℕ) (before after : Seat) : Type 0 where
  pub request : Request
  pub under_way : before.client.request ≡ Some request
  pub sends : after
      ≡ record before {
        work = Some (record {
          task = record (new_task C attempts request) { waiting = waits.Beginning };
          ask = asks.Begin;
          server = request.server;
          front = front;
        });
        again = None;
      }

-- the request under way is the one that goes on; where no server works on one, it is sent
abbrev pub IsAtWork : Settings → ℕ → ℕ → Seat → Seat → Option Work → Option ℕ → Type 0
IsAtWork C attempts length before after (Some work) again = after ≡ before
IsAtWork C attempts length before after None (Some front) = HasSentAgain C attempts front before after
IsAtWork C attempts length before after None None = HasSent C attempts length before after

-- ---- stops

-- the server of a request stopped: its client learns so, and is to send the request again
abbrev pub taken_away : ℕ → Work → Seat → Seat
taken_away stop work seat =
    record seat {
      client = (send_again seat.client (work.server, stop) seat.client.request).0;
      work = None;
      again = Some work.front;
    }

-- what a stop of a server does to a client whose request it works on
abbrev pub lost_at : ℕ → ℕ → Seat → Option Work → Seat
lost_at server stop seat None = seat
lost_at server stop seat (Some work) = if work.server == server then taken_away stop work seat else seat

abbrev pub after_stop : ℕ → Option ℕ → Seat → Seat
after_stop server None seat = seat
after_stop server (Some stop) seat = lost_at server stop seat seat.work

-- ---- what came of it

-- the client has learned what its request came to, and keeps a receipt
pub record HasLearned (C : Settings) (k : ℕ) (before after : Seat) (server front : ℕ)
    (task : TaskView) : Type 0 where
  pub outcome : Outcome
  pub is : task.outcome ≡ Some outcome
  pub client : after.client ≡ (end_call before.client server outcome before.client.request).0
  pub receipt : Receipt
  pub told : client_asks.CallEnd (receipt ∷ []) true
      ≡ (end_call before.client server outcome before.client.request).1
  pub work : after.work ≡ None
  pub again : after.again ≡ None
  pub receipts : after.receipts ≡ before.receipts
      ++ record {
        client = k;
        fronts = fronts_of C front;
        receipt = receipt;
        text = text_of receipt.call
            receipt.reply;
      } ∷ []

-- the server stopped behind the ask; or else the request goes on with its next ask, or it has ended
abbrev pub Comes : Settings → ℕ → Seat → Seat → Work → Option ℕ → Bool → Type 0
Comes C k before after work (Some stop) done = after ≡ taken_away stop work before
Comes C k before after work None false = after ≡ record before { work = Some work }
Comes C k before after work None true = HasLearned C k before after work.server work.front work.task

-- the ask of the request under way is answered by the store, and nothing else is asked
pub record HasExchanged (C : Settings) (k server : ℕ) (stop : Option ℕ) (old new : List Entry)
    (before after : Seat) : Type 0 where
  pub work : Work
  pub there : before.work ≡ Some work
  pub by : work.server ≡ server
  pub task : TaskView
  pub next : Ask
  pub exchange : IsExchange C old new work.task work.ask task next
  pub comes : Comes C k before after (record work { task = task; ask = next }) stop (is_done next)

-- a turn of client k: its request is sent where no server works on one, and makes one ask of this server, behind
-- which this stop comes
pub record IsEvent (C : Settings) (attempts k server : ℕ) (stop : Option ℕ) (old new : List Entry)
    (before after : Seat) : Type 0 where
  pub sent : Seat
  pub at_work : IsAtWork C attempts (length old) before sent before.work before.again
  pub exchanged : HasExchanged C k server stop old new sent after

-- over all clients and servers: the server counts its ask, and where it stops each client whose request it worked
-- on learns so
pub record IsTurnOf (C : Settings) (attempts k : ℕ) (stops : List Stop) (old new : List Entry)
    (counts later : List ServerCounts) (before after : List Seat) : Type 0 where
  pub server : ℕ
  pub stop : Option ℕ
  pub own : (seat next : Seat) → slice_get before k ≡ Some seat → slice_get after k ≡ Some next
      → IsEvent C attempts k server stop old new seat next
  pub others : (j : ℕ) → j ≢ k
      → slice_get after j ≡ option_map (after_stop server stop) (slice_get before j)
  pub counted : HasCounted stops server (has_made old new) stop counts later
