use Rattle.std.proofs.Common.{◌≡◌, ◌∙◌, ◌+◌, ◌∷◌, ◌++◌, [], sym, ap, subst, length, List, None, ◌<◌, true}
use Rattle.conflict_sets.specs.Reads.{RowsAgree}
use Rattle.kv_store.specs.Store.{Store}
use Rattle.kv_store.specs.Journal.{rows_at, first_later, written_value}
use Rattle.kv_store.specs.Chains.{AreBelow}
use Rattle.kv_store.specs.Versions.{chain_of, written_version}
use Rattle.kv_store.proofs.RunLemmas.{IsKept-commit}
use Rattle.kv_store.proofs.MapLemmas.{ok_holds}
use Rattle.kv_store.proofs.VersionLemmas.{chain_of_below, chain_of_push}
use Rattle.kv_store.proofs.store.KvState.commit.Goals as goal

pub add_all-requires-clause-below : goal.add_all-requires-clause-below
add_all-requires-clause-below g c =
    let writes_of = g.E.EntryLaw.writes_of in
    let opening = c.self.inside.opening in
    let journal = c.self.inside.journal.items in
    let front : c.front-front.result ≡ length journal = c.front-front.ensures.front ∙ ap (λ (s : Store g.row.E.Denot). length s.journal) (sym c.self.view_is) in
    λ key. subst (AreBelow (c.front-front.result + 1)) (sym (c.self.invariant.chains_are key))
    (subst (λ n. AreBelow (n + 1) (chain_of writes_of opening journal key)) (sym front) (chain_of_below writes_of opening journal key))

pub invariant_of-self-2 : goal.invariant_of-self-2
invariant_of-self-2 g c =
    let writes_of = g.E.EntryLaw.writes_of in
    let reads_of = g.E.EntryLaw.reads_of in
    let opening = c.self.inside.opening in
    let journal = c.self.inside.journal.items in
    let front : c.front-front.result ≡ length journal = c.front-front.ensures.front ∙ ap (λ (s : Store g.row.E.Denot). length s.journal) (sym c.self.view_is) in
    let next : c.push_reserved.new.self.items ≡ journal ++ c.args.entry ∷ [] = c.push_reserved.ensures.items ∙ ap (λ (es : List g.row.E.Denot). es ++ c.args.entry ∷ []) c.reserve.ensures.items in
    let alone : first_later writes_of journal c.args.snapshot (reads_of c.args.entry) ≡ None
    = ap (λ r. first_later writes_of journal c.args.snapshot r) (sym c.reads.ensures)
    ∙ (ap (λ (s : Store g.row.E.Denot). first_later writes_of s.journal c.args.snapshot c.reads.result.now) c.self.view_is ∙ c.in_default.ensures.alone) in
    let room : length journal < 200000 = subst (λ (s : Store g.row.E.Denot). length s.journal < 200000) (sym c.self.view_is) c.in_default.ensures.room in
    let added = ok_holds _ _ c.is_err-else-is_err.ensures.value c.if-is_err-2.false c.add_all.ensures.ok in
    record {
      kept =
          IsKept-commit reads_of writes_of g.E.EntryLaw.good g.E.EntryLaw.sound
          (record { config = c.self.inside.config; opening = opening; journal = journal })
          c.args.snapshot c.args.entry true c.push_reserved.new.self.items
          c.self.invariant.kept
          (subst (λ (s : Store g.row.E.Denot). g.E.EntryLaw.sound s.config c.args.entry) (sym c.self.view_is) c.requires.sound)
          (subst (λ (s : Store g.row.E.Denot). RowsAgree (rows_at writes_of s.opening s.journal c.args.snapshot) (reads_of c.args.entry)) (sym c.self.view_is) c.requires.agreed)
          alone room next;
      chains_are = λ key.
          added key
          ∙ (ap (λ chain. chain ++ written_version (written_value c.writes.result.now.writes key) (c.front-front.result + 1)) (c.self.invariant.chains_are key)
          ∙ (ap (λ (ws : Rattle.conflict_sets.specs.declared.sets.WriteSet.WriteSet). chain_of writes_of opening journal key ++ written_version (written_value ws.writes key) (c.front-front.result + 1)) c.writes.ensures
          ∙ (ap (λ n. chain_of writes_of opening journal key ++ written_version (written_value (writes_of c.args.entry).writes key) (n + 1)) front
          ∙ (sym (chain_of_push writes_of opening journal key c.args.entry) ∙ ap (λ es. chain_of writes_of opening es key) (sym next)))));
    }
