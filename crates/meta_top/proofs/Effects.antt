-- Which calls make a tree: updates whose reply is no refusal.
use Rattle.std.proofs.Common.{◌≡◌, ℕ, Bool, true, false, cond, List, refl, ◌==◌}
use Rattle.std.specs.Prelude.{Option, Some, None, Result, Ok, Err, IsTrue}
use Rattle.std.specs.FinMap.{get}
use Rattle.fs_base.specs.Config.{Settings}
use Rattle.fs_base.specs.Paths.{path_of}
use Rattle.fs_base.specs.declared.call.Call.{Call}
use Rattle.fs_base.specs.declared.call.Call.TheVariants as calls
use Rattle.fs_base.specs.declared.call.Request.{Request}
use Rattle.fs_base.specs.declared.code.Code.{Code}
use Rattle.fs_base.specs.declared.path.Path.{Path}
use Rattle.tree_model.specs.declared.node.Node.{Node}
use Rattle.tree_model.specs.declared.node.NodePart.{NodePart}
use Rattle.tree_model.specs.declared.node.NodePart.TheVariants.{Dir, File, Link}
use Rattle.tree_model.specs.declared.walk.Walked.{Walked}
use Rattle.tree_model.specs.declared.walk.Walked.TheVariants.{At, AtParent, NoName, Stopped}
use Rattle.tree_model.specs.Calls.{effect_of, is_query}
use Rattle.path_walk.specs.Requests.{is_built}
use Rattle.tree_model.specs.Effects.{Effect, Leaves, Makes, Settles, refuses, on_path}
use Rattle.tree_model.specs.Tree.{Tree, next_at}
use Rattle.tree_model.specs.Creating.{make, make_at, add_child, add_in, unless_there, admits_given, new_dir, new_file, new_link}
use Rattle.tree_model.specs.Finding.{if_there, on_node}
use Rattle.tree_model.specs.Walk.{resolve}
use Rattle.tree_model.specs.declared.new_node.NewNode.{NewNode}
use Rattle.tree_model.proofs.LinkingLaws.{link_is, unlink_is, rmdir_is}
use Rattle.tree_model.proofs.RenameLaws.{rename_is}
use Rattle.tree_model.proofs.SessionLaws.{extend_is, open_to_write_is}
use Rattle.tree_model.specs.declared.walk.WalkEnd.TheVariants.{Follow, Parent}
use Rattle.fs_base.specs.declared.call.Place.{Place}
use Rattle.fs_base.specs.declared.code.Code.TheVariants.{NotFound, NotDir}
use Rattle.meta_top.specs.Alone.{is_refusal}

-- ---- what an effect may be

-- an update leaves it exactly where its reply is a refusal; none that is built settles a length
abbrev pub Refusing : Effect → Type 0
Refusing (Leaves reply) = is_refusal reply ≡ true
Refusing (Makes tree reply) = is_refusal reply ≡ false
Refusing (Settles tree) = ⊥

by_words : (P : Effect → Type 0) (path : Result Path Code) (then : Path → Effect) → ((code : Code) → P (refuses code)) → ((path : Path) → P (then path)) → P (on_path path then)
by_words P (Err code) then refused going = refused code
by_words P (Ok path) then refused going = going path

by_choice : (P : Effect → Type 0) (b : Bool) (this that : Effect) → P this → P that → P (cond b this that)
by_choice P true this that p q = p
by_choice P false this that p q = q

by_node : (P : Effect → Type 0) (T : Tree) (walked : Walked) (then : ℕ → Node → Effect) → ((code : Code) → P (refuses code)) → ((id : ℕ) (node : Node) → P (then id node)) → P (on_node T walked then)
by_node P T (At id kind) then refused going = here (get T.nodes id)
  where
    here : (o : Option Node) → P (if_there o (then id))
    here None = refused NotFound
    here (Some node) = going id node
by_node P T (Stopped code) then refused going = refused code
by_node P T (AtParent id name) then refused going = refused NotDir
by_node P T (NoName id) then refused going = refused NotDir

-- ---- the updates

module _ (C : Settings) (T : Tree) (server stamp : ℕ) (node : NewNode) where
  added : (dir : ℕ) (name : List ℕ) (parent : NodePart) → Refusing (add_in C T server stamp node dir name parent)
  added dir name (Dir layout) = by_choice Refusing (next_at T.next server == 4294967295) _ _ refl refl
  added dir name (File length truncs layout hint) = refl
  added dir name (Link target) = refl

  child : (dir : ℕ) (name : List ℕ) (o : Option Node) → Refusing (add_child C T server stamp node dir name o)
  child dir name None = refl
  child dir name (Some parent) = added dir name parent.part

  free : (dir : ℕ) (name : List ℕ) (o : Option ℕ) → Refusing (unless_there o (add_child C T server stamp node dir name (get T.nodes dir)))
  free dir name None = child dir name (get T.nodes dir)
  free dir name (Some id) = refl

  made : (walked : Walked) → Refusing (make_at C T server stamp node walked)
  made (At id kind) = refl
  made (NoName id) = refl
  made (Stopped code) = refl
  made (AtParent dir name) = free dir name (get T.entries (dir, name))

  makes : (place : Place) → Refusing (make C T server stamp node place)
  makes place = by_words Refusing (path_of place.text) _ (λ code. refl) (λ path. by_choice Refusing (admits_given C node.layout) _ _ (made (resolve T place.base path Parent)) refl)

unbuilt : {P : Type 0} → false ≡ true → P
unbuilt e = absurd (cc)

pub update_refuses : (C : Settings) (T : Tree) (q : Request) (call : Call) → IsTrue (is_built call) → is_query call ≡ false → Refusing (effect_of C T q call)
update_refuses C T q (calls.Mkdir place mode layout) built is = makes C T q.server q.stamp (new_dir mode layout) place
update_refuses C T q (calls.Create place mode layout) built is = makes C T q.server q.stamp (new_file mode layout) place
update_refuses C T q (calls.Symlink place target) built is =
    by_words Refusing (path_of place.text) _ (λ code. refl) (λ path. by_words Refusing (path_of target) _ (λ code. refl) (λ leads. made C T q.server q.stamp (new_link target) (resolve T place.base path Parent)))
update_refuses C T q (calls.Setattr place changes) built is = by_words Refusing (path_of place.text) _ (λ code. refl) (λ path. by_node Refusing T (resolve T place.base path Follow) _ (λ code. refl) (λ id node. refl))
update_refuses C T q (calls.Lookup place) built is = cc
update_refuses C T q (calls.Stat place) built is = cc
update_refuses C T q (calls.List place) built is = cc
update_refuses C T q (calls.Readlink place) built is = cc
update_refuses C T q (calls.Link from to) built is = link_is Refusing T q.stamp (λ code. refl) (λ dir name id node is. refl) from to
update_refuses C T q (calls.Unlink place) built is = unlink_is Refusing T q.stamp (λ code. refl) (λ dir name id. refl) (λ dir name id node is. refl) (λ dir name id node is. refl) place
update_refuses C T q (calls.Rmdir place) built is = rmdir_is Refusing T q.stamp (λ code. refl) (λ dir name id. refl) place
update_refuses C T q (calls.Rename from to) built is =
    rename_is Refusing T q.stamp (λ code. refl) refl (λ a b id. refl) (λ a b id dir name old. refl) (λ a b id dir name old node at. refl) (λ a b id dir name old node at. refl) from to
update_refuses C T q (calls.Open place) built is =
    open_to_write_is Refusing T (λ code. refl) q.client q.number (λ file. refl) place
update_refuses C T q (calls.Extend session place) built is =
    extend_is Refusing T (λ code. refl) place (λ id node length truncs layout hint at file within. refl) q.client session
update_refuses C T q (calls.Openr place) built is = cc
update_refuses C T q (calls.Fstat session) built is = cc
update_refuses C T q _ built is = unbuilt built
