-- Receipts of servers.
use Rattle.std.proofs.Common.{◌≡◌, ℕ, List, Option, Some, None, MatchOption, sym, ◌∙◌}
use Rattle.std.proofs.lemmas.Option.{same_Some}
use Rattle.fs_base.specs.Config.{Settings}
use Rattle.fs_base.specs.declared.call.Call.{Call}
use Rattle.fs_base.specs.declared.call.Request.{Request}
use Rattle.fs_base.specs.declared.ids.ClientId.{ClientId}
use Rattle.txn_task.specs.declared.messages.Entry.{Entry}
use Rattle.txn_task.specs.declared.outcome.Receipt.{Receipt}
use Rattle.run_record.specs.Receipts.{IsAnsweredReceipt, IsOf, IsReceipt, IsServedReceipt}
use Rattle.run_record.specs.declared.run.Listed.{Listed}

-- each receipt is a server's
pub answered : {C : Settings} {attempts : ℕ} {journal : List Entry} {client : ClientId} {listed : Listed} → IsReceipt C attempts journal client listed → IsAnsweredReceipt C attempts journal client listed
answered {C} {attempts} {journal} {client} {listed} h = one_of listed.receipt.server h.by_server
  where
    one_of : (o : Option ℕ) → MatchOption o ⊥ (λ server. IsAnsweredReceipt C attempts journal client listed) → IsAnsweredReceipt C attempts journal client listed
    one_of None none = absurd none
    one_of (Some server) is = is

pub served : {C : Settings} {attempts : ℕ} {journal : List Entry} {client : ClientId} {listed : Listed} → IsReceipt C attempts journal client listed → IsServedReceipt C journal client listed
served h = (answered h).served

-- ---- requests by their parts

pub same_request : (a b : Request) → a.server ≡ b.server → a.client ≡ b.client → a.number ≡ b.number → a.stamp ≡ b.stamp → a.call ≡ b.call → a ≡ b
same_request a b server client number stamp call =
    of_five (λ (s : ℕ) (c : ClientId) (n t : ℕ) (l : Call). record { server = s; client = c; number = n; stamp = t; call = l }) a.server b.server a.client b.client a.number b.number a.stamp b.stamp a.call b.call server client number stamp call
  where
    of_five : {A B D E F X : Type 0} (f : A → B → D → E → F → X) (a0 b0 : A) (a1 b1 : B) (a2 b2 : D) (a3 b3 : E) (a4 b4 : F) → a0 ≡ b0 → a1 ≡ b1 → a2 ≡ b2 → a3 ≡ b3 → a4 ≡ b4 → f a0 a1 a2 a3 a4 ≡ f b0 b1 b2 b3 b4
    of_five f a0 b0 a1 b1 a2 b2 a3 b3 a4 b4 e0 e1 e2 e3 e4 = cc

-- a receipt is of one request of its client
pub one_request : (a b : Request) (receipt : Receipt) → a.client ≡ b.client → IsOf a receipt → IsOf b receipt → a ≡ b
one_request a b receipt client x y =
    same_request a b (same_Some a.server b.server (sym x.server ∙ y.server)) client (same_Some a.number b.number (sym x.number ∙ y.number)) (sym x.stamp ∙ y.stamp) (sym x.call ∙ y.call)
