-- What holds of each tree that a rename may make, and of each refusal, holds of the rename.
use Rattle.std.proofs.Common.{◌≡◌, ℕ, ◌==◌, Bool, true, false, cond, List}
use Rattle.std.specs.Prelude.{Option, Some, None}
use Rattle.std.specs.FinMap.{get, insert}
use Rattle.fs_base.specs.Paths.{path_of}
use Rattle.fs_base.specs.declared.call.Place.{Place}
use Rattle.fs_base.specs.declared.code.Code.{Code}
use Rattle.fs_base.specs.declared.code.Code.TheVariants as codes
use Rattle.fs_base.specs.declared.path.Path.{Path}
use Rattle.fs_base.specs.declared.reply.Reply.TheVariants.{Done}
use Rattle.tree_model.specs.declared.kept.Doom.TheVariants.{Waiting}
use Rattle.tree_model.specs.declared.node.Node.{Node}
use Rattle.tree_model.specs.declared.node.NodePart.{NodePart}
use Rattle.tree_model.specs.declared.node.NodePart.TheVariants.{Dir, File, Link}
use Rattle.tree_model.specs.declared.walk.WalkEnd.TheVariants.{Parent}
use Rattle.tree_model.specs.declared.walk.Walked.{Walked}
use Rattle.tree_model.specs.declared.walk.Walked.TheVariants.{At, AtParent, NoName, Stopped}
use Rattle.tree_model.specs.Attributes.{count_to}
use Rattle.tree_model.specs.Effects.{Effect, Leaves, Makes, Settles, refuses, on_path}
use Rattle.tree_model.specs.Finding.{if_there}
use Rattle.tree_model.specs.Linking.{is_empty_dir, unlinked, with_touched, without_dir, without_entry}
use Rattle.tree_model.specs.Maps.{is_end}
use Rattle.tree_model.specs.Moving.{moved, dir_over, other_over, move_over, goes_below, move_to, move_in, move_under, move_at, move_entry, rename_at, have_names, rename}
use Rattle.tree_model.specs.Tree.{Tree}
use Rattle.tree_model.specs.Walk.{resolve}
use Rattle.tree_model.proofs.LinkingLaws.{by_words, by_node, last_goes}

-- a tree in which an entry then moves
abbrev then_moved : (ℕ × List ℕ) → (ℕ × List ℕ) → ℕ → Effect → Effect
then_moved from to id (Leaves reply) = Leaves reply
then_moved from to id (Makes V reply) = Makes (moved V from to id) reply
then_moved from to id (Settles V) = Settles V

module _ (P : Effect → Type 0) (T : Tree) (stamp : ℕ) (refused : (code : Code) → P (refuses code)) (keeps : P (Makes T Done))
    (moves : (from to : ℕ × List ℕ) (id : ℕ) → P (Makes (moved T from to id) Done))
    (goes : (from to : ℕ × List ℕ) (id : ℕ) (dir : ℕ) (name : List ℕ) (old : ℕ) → P (Makes (moved (without_dir T dir name old) from to id) Done))
    (stays : (from to : ℕ × List ℕ) (id : ℕ) (dir : ℕ) (name : List ℕ) (old : ℕ) (node : Node) → get T.nodes old ≡ Some node → P (Makes (moved (with_touched (without_entry T dir name) stamp old node) from to id) Done))
    (waits : (from to : ℕ × List ℕ) (id : ℕ) (dir : ℕ) (name : List ℕ) (old : ℕ) (node : Node) → get T.nodes old ≡ Some node
    → P (Makes (moved (record (with_touched (without_entry T dir name) stamp old node) { doomed = insert T.doomed old Waiting }) from to id) Done)) where
  dir_moves : (from to : ℕ × List ℕ) (id old : ℕ) (part : NodePart) → P (dir_over T from to id old part)
  dir_moves from to id old (Dir layout) = by_empty (is_empty_dir T old)
    where
      by_empty : (b : Bool) → P (cond b (Makes (moved (without_dir T to.0 to.1 old) from to id) Done) (refuses codes.NotEmpty))
      by_empty true = goes from to id to.0 to.1 old
      by_empty false = refused codes.NotEmpty
  dir_moves from to id old (File length truncs layout hint) = refused codes.NotDir
  dir_moves from to id old (Link target) = refused codes.NotDir

  other_moves : (from to : ℕ × List ℕ) (id old : ℕ) (node : Node) → get T.nodes old ≡ Some node → P (Makes (moved (unlinked (without_entry T to.0 to.1) stamp old node) from to id) Done)
  other_moves from to id old node is =
      last_goes (λ f. P (then_moved from to id f)) T stamp refused (goes from to id) (stays from to id) (waits from to id) to.0 to.1 old node is (count_to (without_entry T to.0 to.1) old == 0)

  over_moves : (from to : ℕ × List ℕ) (id old : ℕ) (node : Node) → get T.nodes old ≡ Some node → (part : NodePart) → P (other_over T stamp from to id old node part)
  over_moves from to id old node is (Dir layout) = refused codes.IsDir
  over_moves from to id old node is (File length truncs layout hint) = other_moves from to id old node is
  over_moves from to id old node is (Link target) = other_moves from to id old node is

  part_moves : (from to : ℕ × List ℕ) (id old : ℕ) (node : Node) → get T.nodes old ≡ Some node → (part : NodePart) → P (move_over T stamp from to id old part node)
  part_moves from to id old node is (Dir layout) = dir_moves from to id old node.part
  part_moves from to id old node is (File length truncs layout hint) = over_moves from to id old node is node.part
  part_moves from to id old node is (Link target) = over_moves from to id old node is node.part

  unless : (b : Bool) (f : Effect) → P f → P (cond b (refuses codes.IntoItself) f)
  unless true f h = refused codes.IntoItself
  unless false f h = h

  to_moves : (from to : ℕ × List ℕ) (id : ℕ) (part : NodePart) (o : Option ℕ) → P (move_to T stamp from to id part o)
  to_moves from to id part None = unless (goes_below T id part to.0) (Makes (moved T from to id) Done) (moves from to id)
  to_moves from to id part (Some old) = by_same (old == id)
    where
      taken : P (if_there (get T.nodes old) (move_over T stamp from to id old part))
      taken = by_node P T stamp refused (get T.nodes old) (move_over T stamp from to id old part) (λ node is. part_moves from to id old node is part)

      by_same : (b : Bool) → P (cond b (Makes T Done) (cond (goes_below T id part to.0) (refuses codes.IntoItself) (if_there (get T.nodes old) (move_over T stamp from to id old part))))
      by_same true = keeps
      by_same false = unless (goes_below T id part to.0) (if_there (get T.nodes old) (move_over T stamp from to id old part)) taken

  in_moves : (from to : ℕ × List ℕ) (id : ℕ) (part parent : NodePart) → P (move_in T stamp from to id part parent)
  in_moves from to id part (Dir layout) = to_moves from to id part (get T.entries to)
  in_moves from to id part (File length truncs layout hint) = refused codes.NotDir
  in_moves from to id part (Link target) = refused codes.NotDir

  under_moves : (from to : ℕ × List ℕ) (id : ℕ) (part : NodePart) (o : Option Node) → P (move_under T stamp from to id part o)
  under_moves from to id part None = refused codes.NotDir
  under_moves from to id part (Some parent) = in_moves from to id part parent.part

  at_moves : (from : ℕ × List ℕ) (id : ℕ) (part : NodePart) (to : Walked) → P (move_at T stamp from id part to)
  at_moves from id part (At other kind) = refused codes.IsRoot
  at_moves from id part (NoName dir) = refused codes.IsRoot
  at_moves from id part (Stopped code) = refused code
  at_moves from id part (AtParent dir name) = under_moves from (dir, name) id part (get T.nodes dir)

  entry_moves : (from : ℕ × List ℕ) (to : Walked) (o : Option ℕ) → P (move_entry T stamp from to o)
  entry_moves from to None = refused codes.NotFound
  entry_moves from to (Some id) = by_node P T stamp refused (get T.nodes id) (λ node. move_at T stamp from id node.part to) (λ node is. at_moves from id node.part to)

  walked_moves : (from to : Walked) → P (rename_at T stamp from to)
  walked_moves (At id kind) to = refused codes.IsRoot
  walked_moves (NoName dir) to = refused codes.IsRoot
  walked_moves (Stopped code) to = refused code
  walked_moves (AtParent dir name) to = entry_moves (dir, name) to (get T.entries (dir, name))

  named : (source path : Path) (f : Effect) → P f → P (have_names source path f)
  named source path f h = by_first (is_end source.names)
    where
      by_second : (b : Bool) → P (cond b (refuses codes.IsRoot) f)
      by_second true = refused codes.IsRoot
      by_second false = h

      by_first : (b : Bool) → P (cond b (refuses codes.IsRoot) (cond (is_end path.names) (refuses codes.IsRoot) f))
      by_first true = refused codes.IsRoot
      by_first false = by_second (is_end path.names)

  pub rename_is : (from to : Place) → P (rename T stamp from to)
  rename_is from to =
      by_words P T stamp refused (path_of from.text) (λ source. on_path (path_of to.text) (λ path. have_names source path (rename_at T stamp (resolve T from.base source Parent) (resolve T to.base path Parent))))
      (λ source. by_words P T stamp refused (path_of to.text) (λ path. have_names source path (rename_at T stamp (resolve T from.base source Parent) (resolve T to.base path Parent)))
      (λ path. named source path (rename_at T stamp (resolve T from.base source Parent) (resolve T to.base path Parent)) (walked_moves (resolve T from.base source Parent) (resolve T to.base path Parent))))
