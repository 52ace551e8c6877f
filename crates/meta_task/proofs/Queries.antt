-- A query leaves every tree as it is.
use Rattle.std.proofs.Common.{◌≡◌, ℕ, true}
use Rattle.std.specs.Prelude.{Option, Some, None, Result, Ok, Err}
use Rattle.std.specs.FinMap.{get}
use Rattle.fs_base.specs.Config.{Settings}
use Rattle.fs_base.specs.Paths.{path_of}
use Rattle.fs_base.specs.declared.call.Call.{Call}
use Rattle.fs_base.specs.declared.call.Call.TheVariants as calls
use Rattle.fs_base.specs.declared.call.Place.{Place}
use Rattle.fs_base.specs.declared.call.Request.{Request}
use Rattle.fs_base.specs.declared.code.Code.{Code}
use Rattle.fs_base.specs.declared.kind.Kind.TheVariants as kinds
use Rattle.fs_base.specs.declared.path.Path.{Path}
use Rattle.fs_base.specs.declared.reply.Reply.{Reply}
use Rattle.tree_model.specs.declared.node.Node.{Node}
use Rattle.tree_model.specs.declared.node.NodePart.{NodePart}
use Rattle.tree_model.specs.declared.node.NodePart.TheVariants.{Dir, File, Link}
use Rattle.tree_model.specs.declared.walk.WalkEnd.{WalkEnd}
use Rattle.tree_model.specs.declared.walk.WalkEnd.TheVariants.{Follow, NoFollow}
use Rattle.tree_model.specs.declared.walk.Walked.{Walked}
use Rattle.tree_model.specs.declared.walk.Walked.TheVariants.{At, AtParent, NoName, Stopped}
use Rattle.tree_model.specs.Attributes.{attributes_of}
use Rattle.tree_model.specs.Calls.{effect, effect_of, is_query}
use Rattle.tree_model.specs.Effects.{Effect, Leaves, Makes, Settles, at_length, on_path}
use Rattle.tree_model.specs.Finding.{at_end, if_there, found_of, stat_at, list_at, readlink_at, target_of}
use Rattle.tree_model.specs.Tree.{Tree}
use Rattle.tree_model.specs.Walk.{resolve}
use Rattle.tree_model.proofs.SessionLaws.{fstat_is, open_to_read_is}

abbrev IsLeaving : Effect → Type 0
IsLeaving (Leaves reply) = Unit {0}
IsLeaving (Makes tree reply) = ⊥
IsLeaving (Settles tree) = ⊥

ends : (T : Tree) (place : Place) (end : WalkEnd) (then : Walked → Effect) → ((walked : Walked) → IsLeaving (then walked)) → IsLeaving (at_end T place end then)
ends T place end then leaves = by_words (path_of place.text)
  where
    by_words : (path : Result Path Code) → IsLeaving (on_path path (λ p. then (resolve T place.base p end)))
    by_words (Err code) = tt
    by_words (Ok path) = leaves (resolve T place.base path end)

told : (T : Tree) (walked : Walked) → IsLeaving (stat_at T walked)
told T (At id kind) = here (get T.nodes id)
  where
    here : (o : Option Node) → IsLeaving (if_there o (λ node. Leaves (Rattle.fs_base.specs.declared.reply.Reply.TheVariants.Attr (attributes_of T id node))))
    here None = tt
    here (Some node) = tt
told T (Stopped code) = tt
told T (AtParent id name) = tt
told T (NoName id) = tt

listed : (T : Tree) (walked : Walked) → IsLeaving (list_at T walked)
listed T (At id kinds.Dir) = tt
listed T (At id kinds.File) = tt
listed T (At id kinds.Link) = tt
listed T (Stopped code) = tt
listed T (AtParent id name) = tt
listed T (NoName id) = tt

pointed : (part : NodePart) → IsLeaving (target_of part)
pointed (Dir layout) = tt
pointed (File length truncs layout hint) = tt
pointed (Link target) = tt

read : (T : Tree) (walked : Walked) → IsLeaving (readlink_at T walked)
read T (At id kinds.Dir) = tt
read T (At id kinds.File) = tt
read T (At id kinds.Link) = here (get T.nodes id)
  where
    here : (o : Option Node) → IsLeaving (if_there o (λ node. target_of node.part))
    here None = tt
    here (Some node) = pointed node.part
read T (Stopped code) = tt
read T (AtParent id name) = tt
read T (NoName id) = tt

leaves : (C : Settings) (T : Tree) (q : Request) (call : Call) → is_query call ≡ true → IsLeaving (effect_of C T q call)
leaves C T q (calls.Lookup place) query = ends T place NoFollow (λ walked. Leaves (found_of walked)) (λ walked. tt)
leaves C T q (calls.Stat place) query = ends T place Follow (stat_at T) (told T)
leaves C T q (calls.List place) query = ends T place Follow (list_at T) (listed T)
leaves C T q (calls.Readlink place) query = ends T place NoFollow (readlink_at T) (read T)
leaves C T q (calls.Openr place) query = open_to_read_is IsLeaving T (λ code. tt) (λ file. tt) place
leaves C T q (calls.Fstat session) query = fstat_is IsLeaving T (λ code. tt) q.client session (λ file. tt)
leaves C T q calls.Doomed query = tt
leaves C T q call query = absurd (cc)

never_made : (e : Effect) (settled : ℕ) (tree : Tree) (reply : Reply) → IsLeaving e → at_length settled e ≡ Makes tree reply → ⊥
never_made (Leaves told) settled tree reply h is = cc
never_made (Makes other told) settled tree reply h is = h
never_made (Settles new) settled tree reply h is = h

-- no query makes a tree
pub query_makes_none : (C : Settings) (T : Tree) (q : Request) (settled : ℕ) (tree : Tree) (reply : Reply) → is_query q.call ≡ true → at_length settled (effect C T q) ≡ Makes tree reply → ⊥
query_makes_none C T q settled tree reply query is = never_made (effect C T q) settled tree reply (leaves C T q q.call query) is
