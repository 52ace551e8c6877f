-- Of a client's receipts one names each entry that they name.
use Rattle.std.proofs.Common.{◌≡◌, ◌≢◌, ℕ, ◌+◌, ◌≤◌, inl, inr, List, [], ◌∷◌, map, Some, true, false, eqb, refl, sym, ◌∙◌, arith}
use Rattle.std.proofs.lemmas.Bool.{and_from, cases_Bool, eq-eqb}
use Rattle.std.proofs.lemmas.Option.{same_Some}
use Rattle.fs_base.specs.Config.{Settings}
use Rattle.fs_base.specs.declared.ids.ClientId.{ClientId}
use Rattle.txn_task.specs.declared.messages.Entry.{Entry}
use Rattle.client_core.specs.Courses.{AreNumbered}
use Rattle.client_core.proofs.Courses.{numbered_up}
use Rattle.run_record.specs.Legal.{EntryAt}
use Rattle.run_record.specs.Receipts.{AreReceipts, HasReceipt, IsReceipt}
use Rattle.run_record.specs.Right.{names_place}
use Rattle.run_record.specs.declared.run.Listed.{Listed}
use Rattle.run_record.proofs.Naming.{named_is, named_parts, naming, naming-cons}
use Rattle.run_record.proofs.Served.{served}

module _ (C : Settings) (attempts : ℕ) (journal : List Entry) (place : ℕ) (e : Entry) (at : EntryAt journal place e) where
  pub named_number : (client : ClientId) (op last : ℕ) (rs : List Listed) → AreNumbered op (map (λ (l : Listed). l.receipt) rs) last
      → AreReceipts C attempts journal client rs → HasReceipt rs place → e.request.number ≤ last
  named_number client op last [] numbers all has = absurd has
  named_number client op last (r ∷ rs) (op_is, number, later) all has = elim has [
    | inl here ↦
        (let own : Some e.request.number ≡ Some (op + 1)
        = sym (named_is C attempts journal client r (served all.0) place e at here).1 ∙ number in
        let n : e.request.number ≡ op + 1 = same_Some e.request.number (op + 1) own in
        omega (arith, numbered_up (op + 1) last (map (λ (l : Listed). l.receipt) rs) later))
    | inr later_has ↦ named_number client (op + 1) last rs later all.1 later_has
  ]

  named : (client : ClientId) (listed : Listed) → IsReceipt C attempts journal client listed → names_place place listed ≡ true → (e.request.client ≡ client) × (listed.receipt.number ≡ Some e.request.number)
  named client listed receipt names = named_is C attempts journal client listed (served receipt) place e at (named_parts place listed names)

  -- another client's receipts don't name it
  pub none_other : (client : ClientId) (receipts : List Listed) → e.request.client ≢ client → AreReceipts C attempts journal client receipts → naming place receipts ≡ 0
  none_other client [] n h = refl
  none_other client (listed ∷ rest) n h = elim (cases_Bool (names_place place listed)) [
    | inl names ↦ absurd (n (named client listed h.0 names).0)
    | inr other ↦ omega (arith, naming-cons place listed rest false other, none_other client rest n h.1)
  ]

  -- nor do receipts of later operations
  none_later : (client : ClientId) (op last : ℕ) (receipts : List Listed) → e.request.number ≤ op → AreReceipts C attempts journal client receipts
      → AreNumbered op (map (λ (l : Listed). l.receipt) receipts) last → naming place receipts ≡ 0
  none_later client op last [] l h numbers = refl
  none_later client op last (listed ∷ rest) l h numbers = elim (cases_Bool (names_place place listed)) [
    | inl names ↦ absurd (let n : e.request.number ≡ op + 1 = same_Some e.request.number (op + 1) (sym (named client listed h.0 names).1 ∙ numbers.1) in omega arith)
    | inr other ↦ omega (arith, naming-cons place listed rest false other, none_later client (op + 1) last rest (omega arith) h.1 numbers.2)
  ]

  -- of a client's receipts one does
  pub one_receipt : (client : ClientId) (op last : ℕ) (receipts : List Listed) → AreReceipts C attempts journal client receipts
      → AreNumbered op (map (λ (l : Listed). l.receipt) receipts) last → HasReceipt receipts place → naming place receipts ≡ 1
  one_receipt client op last [] h numbers has = absurd has
  one_receipt client op last (listed ∷ rest) h numbers has = elim (cases_Bool (names_place place listed)) [
    | inl names ↦
        (let number : e.request.number ≡ op + 1 = same_Some e.request.number (op + 1) (sym (named client listed h.0 names).1 ∙ numbers.1) in
        let none : naming place rest ≡ 0 = none_later client (op + 1) last rest (omega arith) h.1 numbers.2 in
        let first : naming place (listed ∷ rest) ≡ 1 + naming place rest = naming-cons place listed rest true names in
        omega arith)
    | inr other ↦ elim has [
      | inl here ↦ absurd (let f : true ≡ false = sym (and_from listed.receipt.committed (eqb listed.receipt.version (place + 1)) here.0 (eq-eqb listed.receipt.version (place + 1) here.1)) ∙ other in cc)
      | inr later ↦ omega (arith, naming-cons place listed rest false other, one_receipt client (op + 1) last rest h.1 numbers.2 later)
    ]
  ]
