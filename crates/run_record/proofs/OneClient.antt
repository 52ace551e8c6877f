-- Where one client is alone, the version of each reply is the number of its own commits so far.
use Rattle.std.proofs.Common.{◌≡◌, ℕ, ◌+◌, inl, inr, List, [], ◌∷◌, ◌++◌, cond, append-nil, sym, ap, subst, ◌∙◌}
use Rattle.std.proofs.lemmas.Bool.{cases_Bool}
use Rattle.fs_base.specs.Config.{Settings}
use Rattle.fs_base.specs.declared.ids.ClientId.{ClientId}
use Rattle.txn_task.specs.declared.messages.Entry.{Entry}
use Rattle.client_core.specs.declared.plan.Plan.{Plan}
use Rattle.client_core.specs.declared.plan.Script.{Script}
use Rattle.run_record.specs.OneClient.{commits_with, CountCommits}
use Rattle.run_record.specs.Receipts.{AreReceipts, Rises}
use Rattle.run_record.specs.Right.{AreSections, IsRightRecord}
use Rattle.run_record.specs.declared.run.Listed.{Listed}
use Rattle.run_record.specs.declared.run.Record.{Record}
use Rattle.client_core.proofs.Scripts.{scripts_are}
use Rattle.run_record.proofs.Served.{served}
use Rattle.run_record.proofs.Naming.{AreNamedFrom, naming, named_rest, of_commit, place_next, rises_rest, version_seen}

module _ (C : Settings) (attempts : ℕ) (journal : List Entry) (client : ClientId) where
  pub version_counts : (v : ℕ) (listed : Listed) (rest : List Listed) → AreReceipts C attempts journal client (listed ∷ rest) → Rises v (listed ∷ rest) → AreNamedFrom journal v (listed ∷ rest) → listed.receipt.version ≡ commits_with v listed
  version_counts v listed rest h rises named = elim (cases_Bool listed.receipt.committed) [
    | inl is ↦
        (of_commit C attempts journal client listed (served h.0) is).version ∙ (ap (λ n. n + 1) (place_next C attempts journal client v listed rest h rises named is) ∙ sym (ap (λ b. cond b (v + 1) v) is))
    | inr is ↦ version_seen C attempts journal client v listed rest h rises named is ∙ sym (ap (λ b. cond b (v + 1) v) is)
  ]

  counted : (v : ℕ) (receipts : List Listed) → AreReceipts C attempts journal client receipts → Rises v receipts → AreNamedFrom journal v receipts → CountCommits v receipts
  counted v [] h rises named = tt
  counted v (listed ∷ rest) h rises named =
      let version : listed.receipt.version ≡ commits_with v listed = version_counts v listed rest h rises named in
      (version, subst (λ n. CountCommits n rest) version (counted listed.receipt.version rest h.1 (rises_rest v listed rest rises) (named_rest C attempts journal client v listed rest h rises named)))

pub one_client : (plan : Plan) (run : Record) (script : Script) → plan.clients ≡ script ∷ [] → IsRightRecord plan run → CountCommits 0 run.receipts
one_client plan run script one right =
    let sections : AreSections plan.config plan.attempts run.entries 0 (script ∷ []) run.receipts = subst (λ (scripts : List Script). AreSections plan.config plan.attempts run.entries 0 scripts run.receipts) (scripts_are plan ∙ one) right.sections in
    let whole : run.receipts ≡ sections.0 = sections.2 ∙ (ap (λ (xs : List Listed). sections.0 ++ xs) sections.4 ∙ append-nil sections.0) in
    let named : AreNamedFrom run.entries 0 sections.0 = (λ place above within. ap (naming place) (sym whole) ∙ right.named place within) in
    subst (CountCommits 0) (sym whole) (counted plan.config plan.attempts run.entries script.id 0 sections.0 sections.3.each sections.3.rises named)
