-- How many conflicts receipts have: each of theirs is an entry's, and there are no more receipts than operations.
use Rattle.std.proofs.Common.{◌≡◌, ℕ, ◌+◌, ◌*◌, ◌^◌, ◌<◌, ◌≤◌, List, [], ◌∷◌, length, ap, ◌∙◌, arith}
use Rattle.fs_base.specs.Config.{Settings}
use Rattle.fs_base.specs.declared.ids.ClientId.{ClientId}
use Rattle.key_schema.specs.declared.key.Key.{Key}
use Rattle.txn_task.specs.declared.messages.Entry.{Entry}
use Rattle.client_core.specs.Plans.{ops_in}
use Rattle.client_core.specs.declared.plan.Script.{Script}
use Rattle.run_record.specs.Receipts.{front_of, AreLater, AreReceipts, IsSection, NamesLater}
use Rattle.run_record.specs.Right.{AreSections, conflicts_in}
use Rattle.run_record.specs.declared.run.Listed.{Listed}
use Rattle.histories.proofs.Lists.{at_within}
use Rattle.run_record.proofs.Counts.{conflicts-append}
use Rattle.run_record.proofs.Replaying.{few_receipts}
use Rattle.run_record.proofs.Served.{served}

-- ---- one receipt

-- each conflict is of a higher version, and no version is above the journal's length
conflicts_above : (journal : List Entry) (client : ClientId) (floor : ℕ) (pairs : List (ℕ × Key)) → AreLater journal client floor pairs → floor ≤ length journal → floor + length pairs ≤ length journal
conflicts_above journal client floor [] h low = omega arith
conflicts_above journal client floor (pair ∷ pairs) h low =
    let one : NamesLater journal client floor pair = h.0 in
    let a : floor ≤ one.place = one.later in
    let d : pair.0 ≡ one.place + 1 = one.version in
    let e : one.place < length journal = at_within journal one.place one.entry one.at in
    let rest : pair.0 + length pairs ≤ length journal = conflicts_above journal client pair.0 pairs h.1 (omega arith) in
    omega arith

conflicts_few : (journal : List Entry) (client : ClientId) (floor : ℕ) (pairs : List (ℕ × Key)) → AreLater journal client floor pairs → length pairs ≤ length journal
conflicts_few journal client floor [] h = omega arith
conflicts_few journal client floor (pair ∷ pairs) h =
    let within : h.0.place < length journal = at_within journal h.0.place h.0.entry h.0.at in
    omega (arith, conflicts_above journal client floor (pair ∷ pairs) h (omega (arith, h.0.later)))

-- ---- all receipts

module _ (C : Settings) (attempts : ℕ) (journal : List Entry) (short : length journal ≤ 200000) where
  receipts_few : (client : ClientId) (receipts : List Listed) → AreReceipts C attempts journal client receipts → conflicts_in receipts ≤ length receipts * 200000
  receipts_few client [] h = omega arith
  receipts_few client (listed ∷ rest) h =
      let first : length listed.receipt.conflicts ≤ length journal = conflicts_few journal client (front_of listed.fronts) listed.receipt.conflicts (served h.0).conflicts in
      let others : conflicts_in rest ≤ length rest * 200000 = receipts_few client rest h.1 in
      omega arith

  sections_few : (k : ℕ) (scripts : List Script) (receipts : List Listed) → AreSections C attempts journal k scripts receipts → conflicts_in receipts ≤ ops_in scripts * 200000
  sections_few k [] receipts h =
      let none : conflicts_in receipts ≡ 0 = ap (λ (rs : List Listed). conflicts_in rs) h in
      omega arith
  sections_few k (script ∷ scripts) receipts h =
      let own : List Listed = h.0 in
      let rest : List Listed = h.1 in
      let section : IsSection C attempts journal k script own = h.3 in
      let parts : conflicts_in receipts ≡ conflicts_in own + conflicts_in rest = ap (λ (rs : List Listed). conflicts_in rs) h.2 ∙ conflicts-append own rest in
      let first : conflicts_in own ≤ length own * 200000 = receipts_few script.id own section.each in
      let count : length own ≤ length script.ops = few_receipts C attempts journal k script own section in
      let others : conflicts_in rest ≤ ops_in scripts * 200000 = sections_few (k + 1) scripts rest h.4 in
      omega arith

pub few_conflicts : (C : Settings) (attempts : ℕ) (journal : List Entry) (scripts : List Script) (receipts : List Listed) → AreSections C attempts journal 0 scripts receipts → length journal ≤ 200000 → ops_in scripts ≤ 4000 → conflicts_in receipts < 2 ^ 64
few_conflicts C attempts journal scripts receipts h short few =
    let all : conflicts_in receipts ≤ ops_in scripts * 200000 = sections_few C attempts journal short 0 scripts receipts h in
    omega arith
