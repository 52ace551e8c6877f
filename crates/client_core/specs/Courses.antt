-- Requests that stops of servers take away, and what a client comes to over them.
use Rattle.std.specs.Prelude.{◌≡◌, ℕ, ◌+◌, List, [], ◌∷◌, ◌++◌, Option, Some, None}
use Rattle.fs_base.specs.declared.call.Request.{Request}
use Rattle.txn_task.specs.declared.outcome.Outcome.{Outcome}
use Rattle.txn_task.specs.declared.outcome.Receipt.{Receipt}
use Rattle.client_core.specs.Client.{ClientView, client_step}
use Rattle.client_core.specs.declared.messages.ClientAnswer.{ClientAnswer}
use Rattle.client_core.specs.declared.messages.ClientAnswer.TheVariants as answers
use Rattle.client_core.specs.declared.messages.ClientAsk.{ClientAsk}
use Rattle.client_core.specs.declared.messages.ClientAsk.TheVariants as asks

-- what a request came to: first these stops, by their numbers, each of the server where it was, and then an
-- answer
pub record Course : Type 0 where
  pub stops : List ℕ
  pub outcome : Outcome

-- the server that a request was sent to stops
abbrev pub gone_at : ClientAsk → ℕ → ClientAnswer
gone_at (asks.Send server request) stop = answers.Gone server stop
gone_at ask stop = answers.Next

-- what was sent, once these stops took it away
abbrev pub sent_again : List ℕ → ClientView × ClientAsk → ClientView × ClientAsk
sent_again [] sent = sent
sent_again (stop ∷ stops) sent = sent_again stops (client_step sent.0 (gone_at sent.1 stop))

-- a request's outcome comes from the server that it was sent to
abbrev pub reply_to : ClientAsk → Outcome → ClientAnswer
reply_to (asks.Send server request) outcome = answers.Replied server outcome
reply_to ask outcome = answers.Next

abbrev pub receipts_of_ask : ClientAsk → List Receipt
receipts_of_ask (asks.CallEnd receipts op_ends) = receipts
receipts_of_ask ask = []

-- and the client once it is answered
abbrev pub replied : Outcome → ClientView × ClientAsk → ClientView × ClientAsk
replied outcome sent = client_step sent.0 (reply_to sent.1 outcome)

-- the client's next step, and those after it
abbrev pub after_course : ClientView → Course → ClientView × ClientAsk
after_course c course = replied course.outcome (sent_again course.stops (client_step c answers.Next))

-- the client once its requests came to this, one after another
abbrev pub after_courses : ClientView → List Course → ClientView
after_courses c [] = c
after_courses c (course ∷ courses) = after_courses (after_course c course).0 courses

-- and the receipts that it told on the way
abbrev pub receipts_along : ClientView → List Course → List Receipt
receipts_along c [] = []
receipts_along c (course ∷ courses) =
    receipts_of_ask (after_course c course).1 ++ receipts_along (after_course c course).0 courses

-- a client that went on from where it was at rest: it rests there still, or its next request is under way, sent
-- again once for each of these stops
abbrev pub IsFrom : ClientView → ClientView → Option Request → Type 0
IsFrom rest c None = c ≡ rest
IsFrom rest c (Some request) =
    (stops : List ℕ) × (sent_again stops (client_step rest answers.Next) ≡ (c, asks.Send c.server request))

-- one receipt an operation, from this operation on and up to that one, with its number
abbrev pub AreNumbered : ℕ → List Receipt → ℕ → Type 0
AreNumbered op [] last = last ≡ op
AreNumbered op (receipt ∷ receipts) last =
    (receipt.op ≡ op) × (receipt.number ≡ Some (op + 1)) × AreNumbered (op + 1) receipts last
