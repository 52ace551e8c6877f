use Rattle.std.proofs.Common.{◌≡◌, take, drop, arith}
use Rattle.std.proofs.lemmas.List.{take_rest}
use Rattle.std.proofs.lemmas.Grind.{common_steps}
use Rattle.fs_io.proofs.KnownBytes.{drop-append-drop}
use Rattle.fs_io.proofs.memory_source.MemSourceSource.take.Goals as goal

pub returns-clause-bytes : goal.returns-clause-bytes
returns-clause-bytes c =
    let front : take c.copy_front-count.result c.copy_front-count.new.into ≡ take c.copy_front-count.result (drop c.self.inside.at c.self.inside.bytes.items)
    = rw (← c.deref-2.ensures.value) (rw take_rest at c.copy_front-count.ensures.copied) in
    rw (← c.self.view_is, front) (
      drop-append-drop c.self.inside.at c.copy_front-count.result c.self.inside.bytes.items,
      λ none space. grind (arith, common_steps, none, space, c.copy_front-count.ensures.end),
    )
