use Rattle.std.proofs.Common.{◌≡◌, ◌++◌, ◌-◌, ℕ, List, min, length, take, drop, subst, sym, ap, ◌∙◌, arith}
use Rattle.chunk_node.specs.declared.runs.Run.{Run}
use Rattle.chunk_node.specs.Chunks.{resized}
use Rattle.chunk_node.specs.Reading.{run_bytes, AreRuns}
use Rattle.chunk_node.specs.Joining.{ended_runs, IsFront, IsJoined}
use Rattle.chunk_node.proofs.Lengths.{length-resized}
use Rattle.chunk_node.proofs.Rewriting.{resized_runs}
use Rattle.chunk_node.proofs.bytes.Bytes.resize.Goals as goal

-- what is put in place makes the chunk's runs
made : (c : goal.After-self-1) → AreRuns (resized (run_bytes c.self.inside.runs.items) c.args.size) 0 c.replace.new.runs.items
made c =
    let start : c.min-start.result ≡ min c.args.size (length (run_bytes c.self.inside.runs.items)) = c.min-start.ensures ∙ ap (min c.args.size) c.self.invariant.1 in
    let placed : c.replace.new.runs.items ≡ take c.front-from.result.0 c.self.inside.runs.items ++ ended_runs c.joined.new.runs.items c.in_ok-whole.whole ++ drop c.len-to.result c.self.inside.runs.items
    = c.in_ok-replace.ensures.ok ∙ ap (λ (xs : List Run). take c.front-from.result.0 c.self.inside.runs.items ++ xs ++ drop c.len-to.result c.self.inside.runs.items) c.in_ok-end_run.ensures in
    subst (AreRuns (resized (run_bytes c.self.inside.runs.items) c.args.size) 0) (sym placed)
    (resized_runs c.self.inside.runs.items c.args.size c.min-start.result c.front-from.result.0 c.len-to.result c.front-from.result.1 start
    (subst (λ (xs : List Run). IsFront xs c.min-start.result c.front-from.result.0 c.front-from.result.1) c.as_slice.ensures.value c.front-from.ensures)
    (omega (arith, c.len-to.ensures, c.self.inside.runs.ok)) c.joined.new.runs.items c.in_ok-whole.whole
    (subst (λ (xs : List Run). IsJoined xs c.front-from.result.1 (c.args.size - c.min-start.result) 0 c.joined.new.runs.items c.in_ok-whole.whole) c.new-new.ensures.items c.in_ok-whole.ensures.joined))

pub invariant_of-self-2 : goal.invariant_of-self-2
invariant_of-self-2 c =
    let runs = made c in
    (runs.1, sym (ap length runs.0 ∙ length-resized (run_bytes c.self.inside.runs.items) c.args.size))

pub returns-clause-ok : goal.returns-clause-ok
returns-clause-ok c = (made c).0 ∙ ap (λ (bs : List ℕ). resized bs c.args.size) c.self.view_is
