use Rattle.std.proofs.Common.{◌≡◌, ◌++◌}
use Rattle.std.specs.List.{filter_map}
use Rattle.tree_model.specs.Finding.{entry_in, names_in}
use Rattle.tree_model.proofs.tree.Tree.names_in.Given as goal

abbrev pub invariant-loop-key : goal.invariant-loop-key
invariant-loop-key l = l.names ++ filter_map (entry_in l.self.tree l.dir) l.key-iterator ≡ names_in l.self.tree l.dir
