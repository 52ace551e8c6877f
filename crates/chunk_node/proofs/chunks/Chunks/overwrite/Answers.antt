use Rattle.std.proofs.Common.{ℕ, List, refl, subst}
use Rattle.std.specs.Option.{IsSome}
use Rattle.chunk_node.specs.Chunks.{overwritten}
use Rattle.chunk_node.proofs.Lasts.{changed_at, unchanged_at, if_ok, if_err}
use Rattle.chunk_node.proofs.chunks.Chunks.overwrite.Goals as goal

pub returns-in-Some-clause-ok : goal.returns-in-Some-clause-ok
returns-in-Some-clause-ok c =
    if_ok c.overwrite.result c.overwrite.ensures.ok
    (changed_at c.args.inode c.args.index c.overwrite.new.self c.in-Some.bytes.now c.args.self.now.map (c.get_mut.follows.lender c.overwrite.new.self) c.in-Some.ensures.value
    ((c.get_mut.follows.holds c.overwrite.new.self).3 (subst IsSome c.in-Some.ensures.value refl)).0 (λ (b : List ℕ). overwritten b c.args.offset c.args.len c.args.fill))

pub returns-in-Some-clause-err : goal.returns-in-Some-clause-err
returns-in-Some-clause-err c =
    if_err c.overwrite.result c.overwrite.ensures.err
    (unchanged_at c.args.inode c.args.index c.overwrite.new.self c.in-Some.bytes.now c.args.self.now.map (c.get_mut.follows.lender c.overwrite.new.self) c.in-Some.ensures.value
    ((c.get_mut.follows.holds c.overwrite.new.self).3 (subst IsSome c.in-Some.ensures.value refl)).0)
