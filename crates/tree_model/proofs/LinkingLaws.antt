-- What link, unlink and rmdir come to: a refusal, or one of few trees.
use Rattle.std.proofs.Common.{◌≡◌, ℕ, ◌==◌, Bool, true, false, cond, List, refl}
use Rattle.std.specs.Prelude.{Option, Some, None, Result, Ok, Err}
use Rattle.std.specs.FinMap.{get, insert}
use Rattle.fs_base.specs.Paths.{path_of}
use Rattle.fs_base.specs.declared.call.Place.{Place}
use Rattle.fs_base.specs.declared.code.Code.{Code}
use Rattle.fs_base.specs.declared.code.Code.TheVariants as codes
use Rattle.fs_base.specs.declared.code.Limit.TheVariants.{Links}
use Rattle.fs_base.specs.declared.kind.Kind.TheVariants as kinds
use Rattle.fs_base.specs.declared.path.Path.{Path}
use Rattle.fs_base.specs.declared.reply.Reply.TheVariants.{Done}
use Rattle.tree_model.specs.declared.kept.Doom.TheVariants.{Waiting}
use Rattle.tree_model.specs.declared.node.Node.{Node}
use Rattle.tree_model.specs.declared.node.NodePart.{NodePart}
use Rattle.tree_model.specs.declared.node.NodePart.TheVariants.{Dir, File, Link}
use Rattle.tree_model.specs.declared.walk.WalkEnd.TheVariants.{NoFollow, Parent}
use Rattle.tree_model.specs.declared.walk.Walked.{Walked}
use Rattle.tree_model.specs.declared.walk.Walked.TheVariants.{At, AtParent, NoName, Stopped}
use Rattle.tree_model.specs.Attributes.{count_to}
use Rattle.tree_model.specs.Creating.{unless_there}
use Rattle.tree_model.specs.Effects.{Effect, Makes, refuses, on_path}
use Rattle.tree_model.specs.Finding.{if_there}
use Rattle.tree_model.specs.Linking.{with_link, link_node, link_in, link_under, link_to, link_at, link, with_touched, without_entry, let_go, unlink_part, unlink_entry, unlink_at, unlink, without_dir, is_empty_dir, rmdir_part, rmdir_entry, rmdir_at, rmdir}
use Rattle.tree_model.specs.Tree.{Tree}
use Rattle.tree_model.specs.Walk.{resolve}

module _ (P : Effect → Type 0) (T : Tree) (stamp : ℕ) (refused : (code : Code) → P (refuses code)) where
  pub by_words : (r : Result Path Code) (f : Path → Effect) → ((path : Path) → P (f path)) → P (on_path r f)
  by_words (Err code) f h = refused code
  by_words (Ok path) f h = h path

  pub by_node : (o : Option Node) (f : Node → Effect) → ((node : Node) → o ≡ Some node → P (f node)) → P (if_there o f)
  by_node None f h = refused codes.NotFound
  by_node (Some node) f h = h node refl

  module _ (joins : (dir : ℕ) (name : List ℕ) (id : ℕ) (node : Node) → get T.nodes id ≡ Some node → P (Makes (with_link T stamp dir name id node) Done)) where
    node_joins : (id dir : ℕ) (name : List ℕ) → P (link_node T stamp id dir name)
    node_joins id dir name =
        by_node (get T.nodes id) (λ node. cond (count_to T id == 65535) (refuses (codes.AtLimit Links)) (Makes (with_link T stamp dir name id node) Done))
        (λ node is. by_count node is (count_to T id == 65535))
      where
        by_count : (node : Node) → get T.nodes id ≡ Some node → (b : Bool) → P (cond b (refuses (codes.AtLimit Links)) (Makes (with_link T stamp dir name id node) Done))
        by_count node is true = refused (codes.AtLimit Links)
        by_count node is false = joins dir name id node is

    in_joins : (id dir : ℕ) (name : List ℕ) (part : NodePart) → P (link_in T stamp id dir name part)
    in_joins id dir name (Dir layout) = node_joins id dir name
    in_joins id dir name (File length truncs layout hint) = refused codes.NotDir
    in_joins id dir name (Link target) = refused codes.NotDir

    under_joins : (id dir : ℕ) (name : List ℕ) (o : Option Node) → P (link_under T stamp id dir name o)
    under_joins id dir name None = refused codes.NotDir
    under_joins id dir name (Some parent) = in_joins id dir name parent.part

    free_joins : (o : Option ℕ) (f : Effect) → P f → P (unless_there o f)
    free_joins None f h = h
    free_joins (Some id) f h = refused codes.Exists

    to_joins : (id : ℕ) (to : Walked) → P (link_to T stamp id to)
    to_joins id (At other kind) = refused codes.Exists
    to_joins id (NoName dir) = refused codes.Exists
    to_joins id (Stopped code) = refused code
    to_joins id (AtParent dir name) = free_joins (get T.entries (dir, name)) (link_under T stamp id dir name (get T.nodes dir)) (under_joins id dir name (get T.nodes dir))

    at_joins : (from to : Walked) → P (link_at T stamp from to)
    at_joins (At id kinds.Dir) to = refused codes.IsDir
    at_joins (At id kinds.File) to = to_joins id to
    at_joins (At id kinds.Link) to = to_joins id to
    at_joins (Stopped code) to = refused code
    at_joins (AtParent dir name) to = refused codes.NotDir
    at_joins (NoName dir) to = refused codes.NotDir

    pub link_is : (from to : Place) → P (link T stamp from to)
    link_is from to =
        by_words (path_of from.text) (λ source. on_path (path_of to.text) (λ path. link_at T stamp (resolve T from.base source NoFollow) (resolve T to.base path Parent)))
        (λ source. by_words (path_of to.text) (λ path. link_at T stamp (resolve T from.base source NoFollow) (resolve T to.base path Parent))
        (λ path. at_joins (resolve T from.base source NoFollow) (resolve T to.base path Parent)))

  -- a node with its entry
  module _ (goes : (dir : ℕ) (name : List ℕ) (id : ℕ) → P (Makes (without_dir T dir name id) Done)) where
    empty_goes : (dir : ℕ) (name : List ℕ) (id : ℕ) (b : Bool) → P (cond b (Makes (without_dir T dir name id) Done) (refuses codes.NotEmpty))
    empty_goes dir name id true = goes dir name id
    empty_goes dir name id false = refused codes.NotEmpty

    dir_goes : (dir : ℕ) (name : List ℕ) (id : ℕ) (part : NodePart) → P (rmdir_part T dir name id part)
    dir_goes dir name id (Dir layout) = empty_goes dir name id (is_empty_dir T id)
    dir_goes dir name id (File length truncs layout hint) = refused codes.NotDir
    dir_goes dir name id (Link target) = refused codes.NotDir

    entry_goes : (dir : ℕ) (name : List ℕ) (o : Option ℕ) → P (rmdir_entry T dir name o)
    entry_goes dir name None = refused codes.NotFound
    entry_goes dir name (Some id) = by_node (get T.nodes id) (λ node. rmdir_part T dir name id node.part) (λ node is. dir_goes dir name id node.part)

    name_goes : (walked : Walked) → P (rmdir_at T walked)
    name_goes (At id kind) = refused codes.IsRoot
    name_goes (NoName dir) = refused codes.IsRoot
    name_goes (Stopped code) = refused code
    name_goes (AtParent dir name) = entry_goes dir name (get T.entries (dir, name))

    pub rmdir_is : (place : Place) → P (rmdir T place)
    rmdir_is place = by_words (path_of place.text) (λ path. rmdir_at T (resolve T place.base path Parent)) (λ path. name_goes (resolve T place.base path Parent))

    -- an entry alone, or the last of a file, which waits
    module _ (stays : (dir : ℕ) (name : List ℕ) (id : ℕ) (node : Node) → get T.nodes id ≡ Some node → P (Makes (with_touched (without_entry T dir name) stamp id node) Done))
        (waits : (dir : ℕ) (name : List ℕ) (id : ℕ) (node : Node) → get T.nodes id ≡ Some node → P (Makes (record (with_touched (without_entry T dir name) stamp id node) { doomed = insert T.doomed id Waiting }) Done)) where
      part_goes : (dir : ℕ) (name : List ℕ) (id : ℕ) (node : Node) → get T.nodes id ≡ Some node → (part : NodePart) → P (Makes (let_go (without_entry T dir name) stamp id node part) Done)
      part_goes dir name id node is (Dir layout) = goes dir name id
      part_goes dir name id node is (File length truncs layout hint) = waits dir name id node is
      part_goes dir name id node is (Link target) = goes dir name id

      pub last_goes : (dir : ℕ) (name : List ℕ) (id : ℕ) (node : Node) → get T.nodes id ≡ Some node → (b : Bool)
          → P (Makes (cond b (let_go (without_entry T dir name) stamp id node node.part) (with_touched (without_entry T dir name) stamp id node)) Done)
      last_goes dir name id node is true = part_goes dir name id node is node.part
      last_goes dir name id node is false = stays dir name id node is

      unlink_part_is : (dir : ℕ) (name : List ℕ) (id : ℕ) (node : Node) → get T.nodes id ≡ Some node → (part : NodePart) → P (unlink_part T stamp dir name id node part)
      unlink_part_is dir name id node is (Dir layout) = refused codes.IsDir
      unlink_part_is dir name id node is (File length truncs layout hint) = last_goes dir name id node is (count_to (without_entry T dir name) id == 0)
      unlink_part_is dir name id node is (Link target) = last_goes dir name id node is (count_to (without_entry T dir name) id == 0)

      unlink_entry_is : (dir : ℕ) (name : List ℕ) (o : Option ℕ) → P (unlink_entry T stamp dir name o)
      unlink_entry_is dir name None = refused codes.NotFound
      unlink_entry_is dir name (Some id) = by_node (get T.nodes id) (λ node. unlink_part T stamp dir name id node node.part) (λ node is. unlink_part_is dir name id node is node.part)

      unlink_at_is : (walked : Walked) → P (unlink_at T stamp walked)
      unlink_at_is (At id kind) = refused codes.IsRoot
      unlink_at_is (NoName dir) = refused codes.IsRoot
      unlink_at_is (Stopped code) = refused code
      unlink_at_is (AtParent dir name) = unlink_entry_is dir name (get T.entries (dir, name))

      pub unlink_is : (place : Place) → P (unlink T stamp place)
      unlink_is place = by_words (path_of place.text) (λ path. unlink_at T stamp (resolve T place.base path Parent)) (λ path. unlink_at_is (resolve T place.base path Parent))
