-- The calls that are built owe what each call owes.
use Rattle.std.proofs.Common.{◌≡◌, ◌⊎◌, inl, inr, ℕ, ◌+◌, ◌<◌, ◌≤◌, Bool, true, false, cond, List, Option, Some, None, Result, Ok, Err, refl, sym, ap, subst, ◌∙◌, arith}
use Rattle.std.specs.Prelude.{◌==◌, unwrap_or}
use Rattle.std.specs.FinMap.{get, insert, remove}
use Rattle.fs_base.specs.Config.{Settings}
use Rattle.fs_base.specs.Paths.{path_of}
use Rattle.fs_base.specs.declared.call.Call.{Call}
use Rattle.fs_base.specs.declared.call.Call.TheVariants as calls
use Rattle.fs_base.specs.declared.call.Changes.{Changes}
use Rattle.fs_base.specs.declared.call.Place.{Place}
use Rattle.fs_base.specs.declared.call.Request.{Request}
use Rattle.fs_base.specs.declared.code.Code.{Code}
use Rattle.fs_base.specs.declared.code.Code.TheVariants as codes
use Rattle.fs_base.specs.declared.code.Limit.TheVariants.{Inodes}
use Rattle.fs_base.specs.declared.ids.ClientId.{ClientId}
use Rattle.fs_base.specs.declared.kind.Kind.TheVariants as kinds
use Rattle.fs_base.specs.declared.layout.DefaultLayout.{DefaultLayout}
use Rattle.fs_base.specs.declared.layout.Layout.{Layout}
use Rattle.fs_base.specs.declared.path.Path.{Path}
use Rattle.fs_base.specs.declared.reply.FileInfo.{FileInfo}
use Rattle.fs_base.specs.declared.reply.Reply.{Reply}
use Rattle.fs_base.specs.declared.reply.Reply.TheVariants as replies
use Rattle.fs_base.specs.declared.reply.Reply.TheVariants.{Done, Made, Attr}
use Rattle.tree_model.specs.declared.kept.Doom.{Doom}
use Rattle.tree_model.specs.declared.kept.Doom.TheVariants.{Waiting, Purged}
use Rattle.tree_model.specs.declared.new_node.NewNode.{NewNode}
use Rattle.tree_model.specs.declared.node.Node.{Node}
use Rattle.tree_model.specs.declared.node.NodePart.{NodePart}
use Rattle.tree_model.specs.declared.node.NodePart.TheVariants.{Dir, File, Link}
use Rattle.tree_model.specs.declared.walk.WalkEnd.{WalkEnd}
use Rattle.tree_model.specs.declared.walk.WalkEnd.TheVariants.{Follow, NoFollow, Parent}
use Rattle.tree_model.specs.declared.walk.Walked.{Walked}
use Rattle.tree_model.specs.declared.walk.Walked.TheVariants.{At, AtParent, NoName, Stopped}
use Rattle.tree_model.specs.Attributes.{changed, touched, attributes_of}
use Rattle.tree_model.specs.Calls.{effect_of}
use Rattle.tree_model.specs.Creating.{id_of, admits_given, part_for, with_child, add_numbered, add_in, add_child, unless_there, make_at, make, symlink, new_dir, new_file, new_link}
use Rattle.tree_model.specs.Effects.{Effect, Leaves, Makes, Settles, at_length, settled_by, on_path}
use Rattle.tree_model.specs.Finding.{at_end, found_of, if_there, on_node, list_at, target_of, readlink_at, stat_at, setattr_at}
use Rattle.tree_model.specs.Linking.{with_link, with_touched, without_dir, without_entry}
use Rattle.tree_model.specs.Maps.{set}
use Rattle.tree_model.specs.Moving.{moved, rename}
use Rattle.tree_model.specs.Sessions.{hint_over, hinted, part_with_hint, with_hint, with_writer}
use Rattle.tree_model.specs.Tree.{Tree, next_at, node_with}
use Rattle.tree_model.specs.Walk.{resolve}
use Rattle.tree_model.proofs.HintLaws.{hint_over_rises}
use Rattle.tree_model.proofs.LinkingLaws.{link_is, unlink_is, rmdir_is}
use Rattle.tree_model.proofs.MapLaws.{ids, get-set_same, get-set_cases}
use Rattle.tree_model.proofs.RenameLaws.{rename_is}
use Rattle.tree_model.proofs.SessionLaws.{extend_is, fstat_is, open_to_read_is, open_to_write_is}
use Rattle.histories.specs.Steps.{PartLasts, NodeLasts, IsGivenOut, IsTreeStep, IsLawfulEffect}
use Rattle.histories.proofs.Versions.{node_same, part_same}

-- what is purged was so before
abbrev pub PurgesNone : Tree → Tree → Type 0
PurgesNone T V = (id : ℕ) (layout : Layout) (hint : ℕ) → get V.doomed id ≡ Some (Purged layout hint) → get T.doomed id ≡ Some (Purged layout hint)

-- what an effect owes that isn't a purge's
abbrev pub Owes : Tree → Effect → Type 0
Owes T (Leaves reply) = Unit {0}
Owes T (Makes V reply) = IsTreeStep T V × (V.kept ≡ T.kept) × PurgesNone T V
Owes T (Settles V) = (settled : ℕ) → IsTreeStep T (V settled) × ((V settled).kept ≡ T.kept) × PurgesNone T (V settled)

owes_at : (T : Tree) (settled : ℕ) (f : Effect) → Owes T f → Owes T (at_length settled f)
owes_at T settled (Leaves reply) h = h
owes_at T settled (Makes V reply) h = h
owes_at T settled (Settles V) h = h settled

owes_on_path : (T : Tree) (r : Result Path Code) (f : Path → Effect) → ((path : Path) → Owes T (f path)) → Owes T (on_path r f)
owes_on_path T (Err code) f h = tt
owes_on_path T (Ok path) f h = h path

owes_at_end : (T : Tree) (place : Place) (end : WalkEnd) (f : Walked → Effect) → ((walked : Walked) → Owes T (f walked)) → Owes T (at_end T place end f)
owes_at_end T place end f h = owes_on_path T (path_of place.text) (λ path. f (resolve T place.base path end)) (λ path. h (resolve T place.base path end))

owes_if_there : (T : Tree) (o : Option Node) (f : Node → Effect) → ((node : Node) → o ≡ Some node → Owes T (f node)) → Owes T (if_there o f)
owes_if_there T None f h = tt
owes_if_there T (Some node) f h = h node refl

owes_on_node : (T : Tree) (walked : Walked) (f : ℕ → Node → Effect) → ((id : ℕ) (node : Node) → get T.nodes id ≡ Some node → Owes T (f id node)) → Owes T (on_node T walked f)
owes_on_node T (At id kind) f h = owes_if_there T (get T.nodes id) (f id) (h id)
owes_on_node T (Stopped code) f h = tt
owes_on_node T (AtParent id name) f h = tt
owes_on_node T (NoName id) f h = tt

-- ---- finding

owes_list : (T : Tree) (walked : Walked) → Owes T (list_at T walked)
owes_list T (At id kinds.Dir) = tt
owes_list T (At id kinds.File) = tt
owes_list T (At id kinds.Link) = tt
owes_list T (Stopped code) = tt
owes_list T (AtParent id name) = tt
owes_list T (NoName id) = tt

owes_target : (T : Tree) (part : NodePart) → Owes T (target_of part)
owes_target T (Dir layout) = tt
owes_target T (File length truncs layout hint) = tt
owes_target T (Link target) = tt

owes_readlink : (T : Tree) (walked : Walked) → Owes T (readlink_at T walked)
owes_readlink T (At id kinds.Dir) = tt
owes_readlink T (At id kinds.File) = tt
owes_readlink T (At id kinds.Link) = owes_if_there T (get T.nodes id) (λ node. target_of node.part) (λ node is. owes_target T node.part)
owes_readlink T (Stopped code) = tt
owes_readlink T (AtParent id name) = tt
owes_readlink T (NoName id) = tt

-- a node is changed in its place
lasts_put : (T : Tree) (id : ℕ) (node new : Node) → get T.nodes id ≡ Some node → PartLasts node.part new.part → (i : ℕ) → NodeLasts (get T.nodes i) (get (insert T.nodes id new) i)
lasts_put T id node new is lasts i = by_cases (get (insert T.nodes id new) i) refl
  where
    by_cases : (o : Option Node) → get (set T.nodes id (Some new)) i ≡ o → NodeLasts (get T.nodes i) (get (insert T.nodes id new) i)
    by_cases o e = elim (get-set_cases ids T.nodes id (Some new) i o e) [
      | inl here ↦
          subst (λ (p : Option Node). NodeLasts (get T.nodes i) p) (here.1 ∙ sym e)
          (subst (λ j. NodeLasts (get T.nodes j) (Some new)) (sym here.0) (subst (λ (p : Option Node). NodeLasts p (Some new)) (sym is) lasts))
      | inr other ↦ subst (NodeLasts (get T.nodes i)) (other.1 ∙ sym e) (node_same (get T.nodes i))
    ]

-- and its part stays
lasts_changed : (T : Tree) (id : ℕ) (node new : Node) → get T.nodes id ≡ Some node → new.part ≡ node.part → (i : ℕ) → NodeLasts (get T.nodes i) (get (insert T.nodes id new) i)
lasts_changed T id node new is part = lasts_put T id node new is (subst (PartLasts node.part) (sym part) (part_same node.part))

-- a node goes, and the others stay
lasts_removed : (T : Tree) (id i : ℕ) → NodeLasts (get T.nodes i) (get (remove T.nodes id) i)
lasts_removed T id i = by_cases (get (remove T.nodes id) i) refl
  where
    by_cases : (o : Option Node) → get (set T.nodes id None) i ≡ o → NodeLasts (get T.nodes i) (get (remove T.nodes id) i)
    by_cases o e = elim (get-set_cases ids T.nodes id None i o e) [
      | inl here ↦ subst (λ (p : Option Node). NodeLasts (get T.nodes i) p) (here.1 ∙ sym e) tt
      | inr other ↦ subst (NodeLasts (get T.nodes i)) (other.1 ∙ sym e) (node_same (get T.nodes i))
    ]

-- the same numbers, nodes that last or go, and no more that is purged
step_with : (T V : Tree) → V.next ≡ T.next → ((id : ℕ) → NodeLasts (get T.nodes id) (get V.nodes id)) → PurgesNone T V → IsTreeStep T V
step_with T V same lasts purged =
    record {
      next = λ server. let alike : next_at V.next server ≡ next_at T.next server = ap (λ m. next_at m server) same in omega arith;
      nodes = λ id. inl (lasts id);
      purged = λ id layout hint there. inl (purged id layout hint there);
    }

step_changed : (T : Tree) (id : ℕ) (node new : Node) → get T.nodes id ≡ Some node → new.part ≡ node.part → IsTreeStep T (record T { nodes = insert T.nodes id new })
step_changed T id node new is part = step_with T (record T { nodes = insert T.nodes id new }) refl (lasts_changed T id node new is part) (λ i layout hint there. there)

owes_setattr : (T : Tree) (stamp : ℕ) (changes : Changes) (walked : Walked) → Owes T (setattr_at T stamp changes walked)
owes_setattr T stamp changes walked =
    owes_on_node T walked (λ id node. Makes (record T { nodes = insert T.nodes id (changed changes stamp node) }) Done)
    (λ id node is. (step_changed T id node (changed changes stamp node) is refl, refl, λ i layout hint there. there))

-- ---- making

module _ (T : Tree) (server : ℕ) (known : server < 16) where
  step_child : (dir : ℕ) (name : List ℕ) (node : Node) → IsTreeStep T (with_child T server dir name node)
  step_child dir name node =
      record {
        next = λ s. by_number s (next_at (with_child T server dir name node).next s) refl;
        nodes = λ i. by_node i (get (with_child T server dir name node).nodes i) refl;
        purged = λ i layout hint there. inl there;
      }
    where
      new : next_at (insert T.next server (next_at T.next server + 1)) server ≡ next_at T.next server + 1
      new = ap (λ (o : Option ℕ). unwrap_or o 1) (get-set_same ids T.next server (Some (next_at T.next server + 1)))

      by_number : (s n : ℕ) → next_at (insert T.next server (next_at T.next server + 1)) s ≡ n → next_at T.next s ≤ next_at (insert T.next server (next_at T.next server + 1)) s
      by_number s n e = elim (get-set_cases ids T.next server (Some (next_at T.next server + 1)) s (get (insert T.next server (next_at T.next server + 1)) s) refl) [
        | inl here ↦ subst (λ k. next_at T.next k ≤ next_at (insert T.next server (next_at T.next server + 1)) k) (sym here.0) (omega (arith, new))
        | inr other ↦ (let same : next_at T.next s ≡ next_at (insert T.next server (next_at T.next server + 1)) s = ap (λ (o : Option ℕ). unwrap_or o 1) other.1 in omega arith)
      ]

      by_node : (i : ℕ) (o : Option Node) → get (set T.nodes (id_of (next_at T.next server) server) (Some node)) i ≡ o
          → NodeLasts (get T.nodes i) (get (with_child T server dir name node).nodes i) ⊎ IsGivenOut T (with_child T server dir name node) i
      by_node i o e = elim (get-set_cases ids T.nodes (id_of (next_at T.next server) server) (Some node) i o e) [
        | inl here ↦ inr (record { server = server; known = known; is = here.0; rises = omega (arith, new) })
        | inr other ↦ inl (subst (NodeLasts (get T.nodes i)) (other.1 ∙ sym e) (node_same (get T.nodes i)))
      ]

  module _ (C : Settings) (stamp : ℕ) (made : NewNode) where
    owes_numbered : (dir : ℕ) (name : List ℕ) (layout : DefaultLayout) → Owes T (add_numbered C T server stamp made dir name layout)
    owes_numbered dir name layout = by_limit (next_at T.next server == 4294967295)
      where
        node : Node
        node = node_with made.mode stamp (part_for C made.part (id_of (next_at T.next server) server) layout)

        by_limit : (b : Bool) → Owes T (cond b (Leaves (Reply.Refused (codes.AtLimit Inodes))) (Makes (with_child T server dir name (node_with made.mode stamp (part_for C made.part (id_of (next_at T.next server) server) layout))) (Made (id_of (next_at T.next server) server))))
        by_limit true = tt
        by_limit false = (step_child dir name (node_with made.mode stamp (part_for C made.part (id_of (next_at T.next server) server) layout)), refl, λ i layout hint there. there)

    owes_in : (dir : ℕ) (name : List ℕ) (part : NodePart) → Owes T (add_in C T server stamp made dir name part)
    owes_in dir name (Dir layout) = owes_numbered dir name (unwrap_or made.layout layout)
    owes_in dir name (File length truncs layout hint) = tt
    owes_in dir name (Link target) = tt

    owes_child : (dir : ℕ) (name : List ℕ) (o : Option Node) → Owes T (add_child C T server stamp made dir name o)
    owes_child dir name None = tt
    owes_child dir name (Some parent) = owes_in dir name parent.part

    owes_unless : (o : Option ℕ) (f : Effect) → Owes T f → Owes T (unless_there o f)
    owes_unless None f h = h
    owes_unless (Some id) f h = tt

    owes_make_at : (walked : Walked) → Owes T (make_at C T server stamp made walked)
    owes_make_at (At id kind) = tt
    owes_make_at (NoName id) = tt
    owes_make_at (Stopped code) = tt
    owes_make_at (AtParent dir name) = owes_unless (get T.entries (dir, name)) (add_child C T server stamp made dir name (get T.nodes dir)) (owes_child dir name (get T.nodes dir))

    owes_make : (place : Place) → Owes T (make C T server stamp made place)
    owes_make place =
        owes_on_path T (path_of place.text) (λ path. cond (admits_given C made.layout) (make_at C T server stamp made (resolve T place.base path Parent)) (Leaves (Reply.Refused codes.BadLayout)))
        (λ path. by_layout path (admits_given C made.layout))
      where
        by_layout : (path : Path) (b : Bool) → Owes T (cond b (make_at C T server stamp made (resolve T place.base path Parent)) (Leaves (Reply.Refused codes.BadLayout)))
        by_layout path true = owes_make_at (resolve T place.base path Parent)
        by_layout path false = tt

  owes_symlink : (C : Settings) (stamp : ℕ) (place : Place) (target : List ℕ) → Owes T (symlink C T server stamp place target)
  owes_symlink C stamp place target =
      owes_on_path T (path_of place.text) (λ path. on_path (path_of target) (λ leads. make_at C T server stamp (new_link target) (resolve T place.base path Parent)))
      (λ path. owes_on_path T (path_of target) (λ leads. make_at C T server stamp (new_link target) (resolve T place.base path Parent))
      (λ leads. owes_make_at C stamp (new_link target) (resolve T place.base path Parent)))

-- ---- links and removals

-- a file that waits isn't purged
waits_unpurged : (T : Tree) (id i : ℕ) (layout : Layout) (hint : ℕ) → get (insert T.doomed id Waiting) i ≡ Some (Purged layout hint) → get T.doomed i ≡ Some (Purged layout hint)
waits_unpurged T id i layout hint there = elim (get-set_cases ids T.doomed id (Some Waiting) i (Some (Purged layout hint)) there) [
  | inl here ↦ let clash : ◌≡◌ {A = Option Doom} (Some Waiting) (Some (Purged layout hint)) = here.1 in absurd (cc)
  | inr other ↦ other.1
]

module _ (T : Tree) (stamp : ℕ) where
  owes_joined : (dir : ℕ) (name : List ℕ) (id : ℕ) (node : Node) → get T.nodes id ≡ Some node → Owes T (Makes (with_link T stamp dir name id node) Done)
  owes_joined dir name id node is = (step_with T (with_link T stamp dir name id node) refl (lasts_changed T id node (touched stamp node) is refl) (λ i layout hint there. there), refl, λ i layout hint there. there)

  owes_gone : (dir : ℕ) (name : List ℕ) (id : ℕ) → Owes T (Makes (without_dir T dir name id) Done)
  owes_gone dir name id = (step_with T (without_dir T dir name id) refl (lasts_removed T id) (λ i layout hint there. there), refl, λ i layout hint there. there)

  owes_left : (dir : ℕ) (name : List ℕ) (id : ℕ) (node : Node) → get T.nodes id ≡ Some node → Owes T (Makes (with_touched (without_entry T dir name) stamp id node) Done)
  owes_left dir name id node is =
      (step_with T (with_touched (without_entry T dir name) stamp id node) refl (lasts_changed T id node (touched stamp node) is refl) (λ i layout hint there. there), refl, λ i layout hint there. there)

  owes_waiting : (dir : ℕ) (name : List ℕ) (id : ℕ) (node : Node) → get T.nodes id ≡ Some node
      → Owes T (Makes (record (with_touched (without_entry T dir name) stamp id node) { doomed = insert T.doomed id Waiting }) Done)
  owes_waiting dir name id node is =
      (step_with T (record (with_touched (without_entry T dir name) stamp id node) { doomed = insert T.doomed id Waiting }) refl (lasts_changed T id node (touched stamp node) is refl) (waits_unpurged T id), refl, waits_unpurged T id)

-- an entry that moves besides changes nothing of what is owed
owes_moved : (T V : Tree) (from to : ℕ × List ℕ) (id : ℕ) → Owes T (Makes V Done) → Owes T (Makes (moved V from to id) Done)
owes_moved T V from to id h = (
  record {
    next = h.0.next;
    nodes = λ i. elim (h.0.nodes i) [ inl stays ↦ inl stays | inr given ↦ inr (record { server = given.server; known = given.known; is = given.is; rises = given.rises }) ];
    purged = h.0.purged;
  },
  h.1,
  h.2,
)

owes_none : (T : Tree) → Owes T (Makes T Done)
owes_none T = (step_with T T refl (λ id. node_same (get T.nodes id)) (λ i layout hint there. there), refl, λ i layout hint there. there)

owes_rename : (T : Tree) (stamp : ℕ) (from to : Place) → Owes T (rename T stamp from to)
owes_rename T stamp =
    rename_is (Owes T) T stamp (λ code. tt) (owes_none T)
    (λ from to id. owes_moved T T from to id (owes_none T))
    (λ from to id dir name old. owes_moved T (without_dir T dir name old) from to id (owes_gone T stamp dir name old))
    (λ from to id dir name old node is. owes_moved T (with_touched (without_entry T dir name) stamp old node) from to id (owes_left T stamp dir name old node is))
    (λ from to id dir name old node is.
    owes_moved T (record (with_touched (without_entry T dir name) stamp old node) { doomed = insert T.doomed old Waiting }) from to id (owes_waiting T stamp dir name old node is))

-- ---- write sessions

owes_opened : (T : Tree) (client : ClientId) (number : ℕ) (file : FileInfo) → Owes T (Makes (with_writer T file.inode client number) (replies.File file))
owes_opened T client number file = (step_with T (with_writer T file.inode client number) refl (λ id. node_same (get T.nodes id)) (λ i layout hint there. there), refl, λ i layout hint there. there)

-- a file keeps its layout, and its hint doesn't fall
owes_hinted : (T : Tree) (place id : ℕ) (node : Node) (length truncs : ℕ) (layout : Layout) (hint : ℕ) → get T.nodes id ≡ Some node → node.part ≡ File length truncs layout hint → place < layout.stripe
    → Owes T (Makes (with_hint T id (hint_over layout.stripe place hint) (get T.nodes id)) (replies.Hint (hint_over layout.stripe place hint)))
owes_hinted T place id node length truncs layout hint is file within =
    subst (λ (o : Option Node). Owes T (Makes (with_hint T id (hint_over layout.stripe place hint) o) (replies.Hint (hint_over layout.stripe place hint)))) (sym is) (
      step_with T (with_hint T id (hint_over layout.stripe place hint) (Some node)) refl (lasts_put T id node (hinted (hint_over layout.stripe place hint) node) is lasts) (λ i layout hint there. there),
      refl,
      λ i layout hint there. there,
    )
  where
    lasts : PartLasts node.part (part_with_hint (hint_over layout.stripe place hint) node.part)
    lasts = subst (λ (p : NodePart). PartLasts p (part_with_hint (hint_over layout.stripe place hint) p)) (sym file) (refl, hint_over_rises layout.stripe place hint within)

-- ---- all of them

pub owes_call : (C : Settings) (T : Tree) (q : Request) (call : Call) → q.server < 16 → Owes T (effect_of C T q call)
owes_call C T q (calls.Lookup place) known = owes_at_end T place NoFollow (λ walked. Leaves (found_of walked)) (λ walked. tt)
owes_call C T q (calls.Stat place) known = owes_at_end T place Follow (stat_at T) (λ walked. owes_on_node T walked (λ id node. Leaves (Attr (attributes_of T id node))) (λ id node is. tt))
owes_call C T q (calls.List place) known = owes_at_end T place Follow (list_at T) (owes_list T)
owes_call C T q (calls.Readlink place) known = owes_at_end T place NoFollow (readlink_at T) (owes_readlink T)
owes_call C T q (calls.Openr place) known = open_to_read_is (Owes T) T (λ code. tt) (λ file. tt) place
owes_call C T q (calls.Fstat session) known = fstat_is (Owes T) T (λ code. tt) q.client session (λ file. tt)
owes_call C T q (calls.Mkdir place mode layout) known = owes_make T q.server known C q.stamp (new_dir mode layout) place
owes_call C T q (calls.Create place mode layout) known = owes_make T q.server known C q.stamp (new_file mode layout) place
owes_call C T q (calls.Symlink place target) known = owes_symlink T q.server known C q.stamp place target
owes_call C T q (calls.Setattr place changes) known = owes_at_end T place Follow (setattr_at T q.stamp changes) (owes_setattr T q.stamp changes)
owes_call C T q (calls.Link from to) known = link_is (Owes T) T q.stamp (λ code. tt) (owes_joined T q.stamp) from to
owes_call C T q (calls.Unlink place) known = unlink_is (Owes T) T q.stamp (λ code. tt) (owes_gone T q.stamp) (owes_left T q.stamp) (owes_waiting T q.stamp) place
owes_call C T q (calls.Rmdir place) known = rmdir_is (Owes T) T q.stamp (λ code. tt) (owes_gone T q.stamp) place
owes_call C T q (calls.Rename from to) known = owes_rename T q.stamp from to
owes_call C T q (calls.Open place) known = open_to_write_is (Owes T) T (λ code. tt) q.client q.number (owes_opened T q.client q.number) place
owes_call C T q (calls.Extend session place) known = extend_is (Owes T) T (λ code. tt) place (owes_hinted T place) q.client session
owes_call C T q _ known = tt

pub lawful : (C : Settings) → C.servers ≤ 16 → IsLawfulEffect C
lawful C few T V q reply known is =
    let owed : IsTreeStep T V × (V.kept ≡ T.kept) × PurgesNone T V = subst (Owes T) is (owes_at T (settled_by reply) (effect_of C T q q.call) (owes_call C T q q.call (omega arith))) in
    record {
      step = owed.0;
      kept = owed.1;
      purges = λ id layout hint there. inl (owed.2 id layout hint there);
      purge = λ id call. absurd (none id call);
      done = λ id call. absurd (none id call);
    }
  where
    none : (id : ℕ) → q.call ≡ calls.Purge id → ⊥
    none id call = let e : Leaves Done ≡ Makes V reply = sym (ap (λ c. at_length (settled_by reply) (effect_of C T q c)) call) ∙ is in cc
