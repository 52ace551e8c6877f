use Rattle.std.proofs.Common.{ℕ, List, refl, subst}
use Rattle.std.specs.Option.{IsSome}
use Rattle.chunk_node.specs.Chunks.{resized}
use Rattle.chunk_node.proofs.Lasts.{changed_at, unchanged_at, if_ok, if_err}
use Rattle.chunk_node.proofs.chunks.Chunks.resize.Goals as goal

pub returns-in-Some-clause-ok : goal.returns-in-Some-clause-ok
returns-in-Some-clause-ok c =
    if_ok c.resize.result c.resize.ensures.ok
    (changed_at c.args.inode c.args.index c.resize.new.self c.in-Some.bytes.now c.args.self.now.map (c.get_mut.follows.lender c.resize.new.self) c.in-Some.ensures.value
    ((c.get_mut.follows.holds c.resize.new.self).3 (subst IsSome c.in-Some.ensures.value refl)).0 (λ (b : List ℕ). resized b c.args.size))

pub returns-in-Some-clause-err : goal.returns-in-Some-clause-err
returns-in-Some-clause-err c =
    if_err c.resize.result c.resize.ensures.err
    (unchanged_at c.args.inode c.args.index c.resize.new.self c.in-Some.bytes.now c.args.self.now.map (c.get_mut.follows.lender c.resize.new.self) c.in-Some.ensures.value
    ((c.get_mut.follows.holds c.resize.new.self).3 (subst IsSome c.in-Some.ensures.value refl)).0)
