use Rattle.std.proofs.Common.{◌≡◌, ◌+◌, ◌++◌, ◌-◌, ℕ, List, min, length, take, drop, subst, sym, ap, ◌∙◌, arith}
use Rattle.chunk_node.specs.declared.runs.Run.{Run}
use Rattle.chunk_node.specs.Chunks.{overwritten}
use Rattle.chunk_node.specs.Reading.{run_bytes, AreRuns}
use Rattle.chunk_node.specs.Joining.{ended_runs, IsFront, IsRest, IsJoined}
use Rattle.chunk_node.proofs.Cuts.{in_order, rest_fits}
use Rattle.chunk_node.proofs.Lengths.{length-overwritten}
use Rattle.chunk_node.proofs.Rewriting.{overwritten_runs}
use Rattle.chunk_node.proofs.bytes.Bytes.overwrite.Goals as goal

pub joined-requires-3 : goal.joined-requires-3
joined-requires-3 c =
    omega (
      arith,
      rest_fits c.as_slice-2.result.now (c.args.offset + c.args.len) c.rest-to.result.0 c.rest-to.result.1 c.rest-to.ensures,
      ap (λ (xs : List Run). length (run_bytes xs)) c.as_slice-2.ensures.value,
      c.self.invariant.1,
      c.in_ok-first-2.ensures.ends,
      c.in_ok-first.ensures.ends,
      c.front-from.ensures.ends,
      c.min-start.ensures,
    )

pub replace-requires-clause-rising : goal.replace-requires-clause-rising
replace-requires-clause-rising c =
    in_order c.self.inside.runs.items c.min-start.result c.front-from.result.0 c.front-from.result.1 (c.args.offset + c.args.len) c.rest-to.result.0 c.rest-to.result.1
    (subst (λ (xs : List Run). IsFront xs c.min-start.result c.front-from.result.0 c.front-from.result.1) c.as_slice.ensures.value c.front-from.ensures)
    (subst (λ (xs : List Run). IsRest xs (c.args.offset + c.args.len) c.rest-to.result.0 c.rest-to.result.1) c.as_slice-2.ensures.value c.rest-to.ensures)
    (omega (arith, c.min-start.ensures))

-- what is put in place makes the chunk's runs
made : (c : goal.After-self-1) → AreRuns (overwritten (run_bytes c.self.inside.runs.items) c.args.offset c.args.len c.args.fill) 0 c.replace.new.runs.items
made c =
    let start : c.min-start.result ≡ min c.args.offset (length (run_bytes c.self.inside.runs.items)) = c.min-start.ensures ∙ ap (min c.args.offset) c.self.invariant.1 in
    let placed : c.replace.new.runs.items ≡ take c.front-from.result.0 c.self.inside.runs.items ++ ended_runs c.joined-3.new.runs.items c.in_ok-whole.whole ++ drop c.rest-to.result.0 c.self.inside.runs.items
    = c.in_ok-replace.ensures.ok ∙ ap (λ (xs : List Run). take c.front-from.result.0 c.self.inside.runs.items ++ xs ++ drop c.rest-to.result.0 c.self.inside.runs.items) c.in_ok-end_run.ensures in
    let ends : c.in_ok-whole.whole.offset + c.in_ok-whole.whole.len ≡ c.args.offset + c.args.len + c.rest-to.result.1.len
    = omega (arith, c.in_ok-whole.ensures.ends, c.in_ok-first-2.ensures.ends, c.in_ok-first.ensures.ends, c.front-from.ensures.ends, c.min-start.ensures) in
    subst (AreRuns (overwritten (run_bytes c.self.inside.runs.items) c.args.offset c.args.len c.args.fill) 0) (sym placed)
    (overwritten_runs c.self.inside.runs.items c.args.offset c.args.len c.args.fill c.min-start.result c.front-from.result.0 c.rest-to.result.0 c.front-from.result.1 c.rest-to.result.1 start
    (subst (λ (xs : List Run). IsFront xs c.min-start.result c.front-from.result.0 c.front-from.result.1) c.as_slice.ensures.value c.front-from.ensures)
    (subst (λ (xs : List Run). IsRest xs (c.args.offset + c.args.len) c.rest-to.result.0 c.rest-to.result.1) c.as_slice-2.ensures.value c.rest-to.ensures)
    c.joined.new.runs.items c.joined-2.new.runs.items c.joined-3.new.runs.items c.in_ok-first.first c.in_ok-first-2.first c.in_ok-whole.whole
    (subst (λ (xs : List Run). IsJoined xs c.front-from.result.1 (c.args.offset - c.min-start.result) 0 c.joined.new.runs.items c.in_ok-first.first) c.new-new.ensures.items c.in_ok-first.ensures.joined)
    c.in_ok-first-2.ensures.joined c.in_ok-whole.ensures.joined ends)

pub invariant_of-self-2 : goal.invariant_of-self-2
invariant_of-self-2 c =
    let runs = made c in (
      runs.1,
      omega (arith, c.max-self-inside.ensures, c.self.invariant.1, length-overwritten (run_bytes c.self.inside.runs.items) c.args.offset c.args.len c.args.fill, ap length runs.0),
    )

pub returns-clause-ok : goal.returns-clause-ok
returns-clause-ok c = (made c).0 ∙ ap (λ (bs : List ℕ). overwritten bs c.args.offset c.args.len c.args.fill) c.self.view_is
