-- Which entries the receipts of one client name, where its receipts alone name all of them from a version on.
use Rattle.std.proofs.Common.{◌≡◌, ℕ, ◌+◌, ◌<◌, ◌≤◌, inl, inr, List, [], ◌∷◌, ◌++◌, Some, Bool, true, false, cond, eqb, length, count_by, MatchBool, refl, sym, ap, subst, ◌∙◌, arith, zero-add}
use Rattle.std.specs.Prelude.{slice_get}
use Rattle.std.proofs.lemmas.Bool.{and_parts, cases_Bool, cases_lt, eqb-true}
use Rattle.std.proofs.lemmas.List.Sums.{sum_by-append, sum_by-cons}
use Rattle.std.proofs.lemmas.Option.{same_Some, slice_get_within}
use Rattle.fs_base.specs.Config.{Settings}
use Rattle.fs_base.specs.declared.ids.ClientId.{ClientId}
use Rattle.txn_task.specs.declared.messages.Entry.{Entry}
use Rattle.run_record.specs.Legal.{EntryAt}
use Rattle.run_record.specs.Outcomes.{last_version, seen_by, IsSeen, NamesEntry}
use Rattle.run_record.specs.Receipts.{AreReceipts, IsServedReceipt, Rises, front_of, outcome_of}
use Rattle.run_record.specs.Right.{names_place}
use Rattle.run_record.specs.declared.run.Listed.{Listed}
use Rattle.run_record.proofs.Rising.{last_version_above}
use Rattle.run_record.proofs.Served.{served}

abbrev pub naming : ℕ → List Listed → ℕ
naming place receipts = count_by (names_place place) receipts

-- each entry from this place on is named by one of the receipts
abbrev pub AreNamedFrom : List Entry → ℕ → List Listed → Type 0
AreNamedFrom journal floor receipts = (place : ℕ) → floor ≤ place → place < length journal → naming place receipts ≡ 1

pub naming-append : (place : ℕ) (own rest : List Listed) → naming place (own ++ rest) ≡ naming place own + naming place rest
naming-append place own rest = sum_by-append (λ (r : Listed). cond (names_place place r) 1 0) own rest

-- the first receipt and the others
pub naming-cons : (place : ℕ) (listed : Listed) (rest : List Listed) (b : Bool) → names_place place listed ≡ b → naming place (listed ∷ rest) ≡ cond b 1 0 + naming place rest
naming-cons place listed rest b is = sum_by-cons (λ (r : Listed). cond (names_place place r) 1 0) listed rest ∙ ap (λ (c : Bool). cond c 1 0 + naming place rest) is

skipped : (place : ℕ) (listed : Listed) (rest : List Listed) → names_place place listed ≡ false → naming place (listed ∷ rest) ≡ naming place rest
skipped place listed rest other = naming-cons place listed rest false other ∙ zero-add (naming place rest)

pub named_parts : (place : ℕ) (listed : Listed) → names_place place listed ≡ true → (listed.receipt.committed ≡ true) × (listed.receipt.version ≡ place + 1)
named_parts place listed names =
    let parts : (listed.receipt.committed ≡ true) × (eqb listed.receipt.version (place + 1) ≡ true) = and_parts listed.receipt.committed (eqb listed.receipt.version (place + 1)) names in
    (parts.0, eqb-true listed.receipt.version (place + 1) parts.1)

-- receipts that rise from a version rise from a smaller one
lower : (high low : ℕ) (receipts : List Listed) → low ≤ high → Rises high receipts → Rises low receipts
lower high low [] l h = tt
lower high low (listed ∷ rest) l h = let first : high ≤ front_of listed.fronts = h.0 in (omega arith, h.1, h.2)

pub rises_rest : (floor : ℕ) (listed : Listed) (rest : List Listed) → Rises floor (listed ∷ rest) → Rises listed.receipt.version rest
rises_rest floor listed rest h = lower (seen_by (outcome_of listed.receipt)) listed.receipt.version rest (omega arith) h.2

module _ (C : Settings) (attempts : ℕ) (journal : List Entry) (client : ClientId) where
  -- ---- one receipt

  pub of_commit : (listed : Listed) (h : IsServedReceipt C journal client listed) → listed.receipt.committed ≡ true → NamesEntry journal h.request (front_of listed.fronts) (outcome_of listed.receipt)
  of_commit listed h is = subst (λ b. MatchBool b (NamesEntry journal h.request (front_of listed.fronts) (outcome_of listed.receipt)) (IsSeen C journal h.request (front_of listed.fronts) (outcome_of listed.receipt))) is h.outcome

  pub of_seen : (listed : Listed) (h : IsServedReceipt C journal client listed) → listed.receipt.committed ≡ false → IsSeen C journal h.request (front_of listed.fronts) (outcome_of listed.receipt)
  of_seen listed h is = subst (λ b. MatchBool b (NamesEntry journal h.request (front_of listed.fronts) (outcome_of listed.receipt)) (IsSeen C journal h.request (front_of listed.fronts) (outcome_of listed.receipt))) is h.outcome

  -- the entry was made after the call began
  pub entry_above : (listed : Listed) (h : IsServedReceipt C journal client listed) (is : listed.receipt.committed ≡ true) → front_of listed.fronts ≤ (of_commit listed h is).place
  entry_above listed h is =
      let up : front_of listed.fronts ≤ last_version (front_of listed.fronts) listed.receipt.conflicts = last_version_above journal client (front_of listed.fronts) listed.receipt.conflicts h.conflicts in
      let above : last_version (front_of listed.fronts) listed.receipt.conflicts ≤ (of_commit listed h is).place = (of_commit listed h is).above in
      omega arith

  -- the call began with so much seen
  pub front_above : (floor : ℕ) (listed : Listed) (rest : List Listed) (h : IsServedReceipt C journal client listed) → Rises floor (listed ∷ rest) → floor ≤ front_of listed.fronts
  front_above floor listed rest h rises = rises.0

  -- the entry has the receipt's number, and is its client's
  pub named_is : (listed : Listed) → IsServedReceipt C journal client listed → (place : ℕ) (e : Entry) → EntryAt journal place e → (listed.receipt.committed ≡ true) × (listed.receipt.version ≡ place + 1)
      → (e.request.client ≡ client) × (listed.receipt.number ≡ Some e.request.number)
  named_is listed h place e at (mark, here) =
      let named : NamesEntry journal h.request (front_of listed.fronts) (outcome_of listed.receipt) = of_commit listed h mark in
      let there : listed.receipt.version ≡ named.place + 1 = named.version in
      let places : named.place ≡ place = omega arith in
      let one : named.entry ≡ e = same_Some named.entry e (sym named.at ∙ (ap (slice_get journal) places ∙ at)) in (
        ap (λ (x : Entry). x.request.client) (sym one) ∙ (named.client ∙ h.client_is),
        h.is_of.number ∙ ap (λ (n : ℕ). Some n) (sym named.number ∙ ap (λ (x : Entry). x.request.number) one),
      )

  -- ---- receipts in order

  -- an entry that is named is the client's
  pub own_entry : (receipts : List Listed) → AreReceipts C attempts journal client receipts → (place : ℕ) (e : Entry) → EntryAt journal place e → naming place receipts ≡ 1 → e.request.client ≡ client
  own_entry [] h place e at one = absurd (let f : 0 ≡ 1 = one in omega arith)
  own_entry (listed ∷ rest) h place e at one = elim (cases_Bool (names_place place listed)) [
    | inl names ↦ (named_is listed (served h.0) place e at (named_parts place listed names)).0
    | inr other ↦ own_entry rest h.1 place e at (sym (skipped place listed rest other) ∙ one)
  ]

  -- what was seen before is named by none
  none_below : (floor : ℕ) (receipts : List Listed) → AreReceipts C attempts journal client receipts → Rises floor receipts → (place : ℕ) → place < floor → naming place receipts ≡ 0
  none_below floor [] h rises place l = refl
  none_below floor (listed ∷ rest) h rises place l =
      let above : floor ≤ front_of listed.fronts = front_above floor listed rest (served h.0) rises in
      elim (cases_Bool (names_place place listed)) [
        | inl names ↦
            (let parts : (listed.receipt.committed ≡ true) × (listed.receipt.version ≡ place + 1) = named_parts place listed names in
            let named : NamesEntry journal (served h.0).request (front_of listed.fronts) (outcome_of listed.receipt) = of_commit listed (served h.0) parts.0 in
            let here : listed.receipt.version ≡ place + 1 = parts.1 in
            let there : listed.receipt.version ≡ named.place + 1 = named.version in
            let later : front_of listed.fronts ≤ named.place = entry_above listed (served h.0) parts.0 in
            absurd (omega arith))
        | inr other ↦
            (let first : floor ≤ front_of listed.fronts = rises.0 in
            let then : front_of listed.fronts ≤ listed.receipt.version = rises.1 in
            skipped place listed rest other ∙ none_below listed.receipt.version rest h.1 (rises_rest floor listed rest rises) place (omega arith))
      ]

  module _ (v : ℕ) (listed : Listed) (rest : List Listed) (h : AreReceipts C attempts journal client (listed ∷ rest)) (rises : Rises v (listed ∷ rest)) (named : AreNamedFrom journal v (listed ∷ rest)) where
    -- the first receipt has the next entry, or is of the newest version so far
    no_gap : v < length journal → v < listed.receipt.version → (names_place v listed ≡ true → ⊥) → ⊥
    no_gap within beyond not_first = elim (cases_Bool (names_place v listed)) [
      | inl names ↦ not_first names
      | inr other ↦
          (let one : naming v (listed ∷ rest) ≡ 1 = named v (omega arith) within in
          let same : naming v (listed ∷ rest) ≡ naming v rest = skipped v listed rest other in
          let none : naming v rest ≡ 0 = none_below listed.receipt.version rest h.1 (rises_rest v listed rest rises) v beyond in
          omega arith)
    ]

    pub place_next : (is : listed.receipt.committed ≡ true) → (of_commit listed (served h.0) is).place ≡ v
    place_next is =
        let names : NamesEntry journal (served h.0).request (front_of listed.fronts) (outcome_of listed.receipt) = of_commit listed (served h.0) is in
        let above : v ≤ front_of listed.fronts = front_above v listed rest (served h.0) rises in
        let later : front_of listed.fronts ≤ names.place = entry_above listed (served h.0) is in
        let within : names.place < length journal = slice_get_within journal names.place names.entry names.at in
        let version : listed.receipt.version ≡ names.place + 1 = names.version in
        elim (cases_lt v names.place) [
          | inl less ↦ absurd (no_gap (omega arith) (omega arith) (λ first. let here : listed.receipt.version ≡ v + 1 = (named_parts v listed first).1 in omega arith))
          | inr least ↦ (omega arith)
        ]

    pub version_seen : listed.receipt.committed ≡ false → listed.receipt.version ≡ v
    version_seen is =
        let seen : IsSeen C journal (served h.0).request (front_of listed.fronts) (outcome_of listed.receipt) = of_seen listed (served h.0) is in
        let above : v ≤ front_of listed.fronts = front_above v listed rest (served h.0) rises in
        let later : front_of listed.fronts ≤ listed.receipt.version = seen.above in
        let within : listed.receipt.version ≤ length journal = seen.within in
        elim (cases_lt v listed.receipt.version) [
          | inl less ↦ absurd (no_gap (omega arith) less (λ first. let f : true ≡ false = sym (named_parts v listed first).0 ∙ is in cc))
          | inr least ↦ (omega arith)
        ]

    version_near : listed.receipt.version ≤ v + 1
    version_near = elim (cases_Bool listed.receipt.committed) [
      | inl is ↦
          (let names : NamesEntry journal (served h.0).request (front_of listed.fronts) (outcome_of listed.receipt) = of_commit listed (served h.0) is in
          let version : listed.receipt.version ≡ names.place + 1 = names.version in
          let next : names.place ≡ v = place_next is in
          omega arith)
      | inr is ↦ (let same : listed.receipt.version ≡ v = version_seen is in omega arith)
    ]

    -- the others name the entries from there on
    pub named_rest : AreNamedFrom journal listed.receipt.version rest
    named_rest place above within =
        let first : v ≤ front_of listed.fronts = rises.0 in
        let then : front_of listed.fronts ≤ listed.receipt.version = rises.1 in
        elim (cases_Bool (names_place place listed)) [
          | inl names ↦ absurd (let here : listed.receipt.version ≡ place + 1 = (named_parts place listed names).1 in omega arith)
          | inr other ↦ sym (skipped place listed rest other) ∙ named place (omega arith) within
        ]

  -- so there are no more entries than receipts
  pub journal_short : (v : ℕ) (receipts : List Listed) → AreReceipts C attempts journal client receipts → Rises v receipts → AreNamedFrom journal v receipts → length journal ≤ v + length receipts
  journal_short v [] h rises named = elim (cases_lt v (length journal)) [
    | inl less ↦ absurd (let f : 0 ≡ 1 = named v (omega arith) less in omega arith)
    | inr least ↦ (omega arith)
  ]
  journal_short v (listed ∷ rest) h rises named =
      let near : listed.receipt.version ≤ v + 1 = version_near v listed rest h rises named in
      let more : length journal ≤ listed.receipt.version + length rest = journal_short listed.receipt.version rest h.1 (rises_rest v listed rest rises) (named_rest v listed rest h rises named) in
      omega arith
