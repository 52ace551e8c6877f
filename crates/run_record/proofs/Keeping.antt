-- What a call leaves of the kept replies and of the files that wait: an update changes no kept reply, before its own is
-- kept, and dooms one file at most.
use Rattle.std.proofs.Common.{◌≡◌, ◌≢◌, ℕ, suc, ◌+◌, ◌<◌, ◌≤◌, ◌==◌, Bool, true, false, cond, nat_lt, List, [], ◌∷◌, length, take}
use Rattle.std.proofs.Common.{refl, sym, ap, subst, ◌∙◌, MatchOption, arith}
use Rattle.std.specs.Prelude.{Option, Some, None, Result, Ok, Err, ⊤}
use Rattle.std.specs.FinMap.{get, insert, len, len-empty, len-insert}
use Rattle.std.specs.Option.{is_some}
use Rattle.std.specs.Ordering.{nat_cmp}
use Rattle.std.proofs.lemmas.List.{take_all}
use Rattle.fs_base.specs.Config.{Settings}
use Rattle.fs_base.specs.Paths.{path_of}
use Rattle.fs_base.specs.declared.call.Call.{Call}
use Rattle.fs_base.specs.declared.call.Call.TheVariants as calls
use Rattle.fs_base.specs.declared.call.Place.{Place}
use Rattle.fs_base.specs.declared.call.Request.{Request}
use Rattle.fs_base.specs.declared.code.Code.{Code}
use Rattle.fs_base.specs.declared.code.Code.TheVariants.{Stale}
use Rattle.fs_base.specs.declared.path.Path.{Path}
use Rattle.fs_base.specs.declared.reply.Reply.{Reply}
use Rattle.fs_base.specs.declared.reply.Reply.TheVariants.{Refused}
use Rattle.tree_model.specs.declared.kept.Doom.{Doom}
use Rattle.tree_model.specs.declared.kept.Doom.TheVariants.{Waiting}
use Rattle.tree_model.specs.declared.kept.KeptReply.{KeptReply}
use Rattle.tree_model.specs.declared.new_node.NewNode.{NewNode}
use Rattle.tree_model.specs.declared.node.Node.{Node}
use Rattle.tree_model.specs.declared.node.NodePart.{NodePart}
use Rattle.tree_model.specs.declared.node.NodePart.TheVariants.{Dir, File, Link}
use Rattle.tree_model.specs.declared.walk.Walked.{Walked}
use Rattle.tree_model.specs.declared.walk.Walked.TheVariants.{At, AtParent, NoName, Stopped}
use Rattle.tree_model.specs.declared.walk.WalkEnd.TheVariants.{Follow, Parent}
use Rattle.tree_model.specs.Calls.{after_kept, effect, effect_of, apply, is_query, settle}
use Rattle.tree_model.specs.Creating.{make, make_at, add_child, add_in, unless_there, admits_given, new_dir, new_file, new_link}
use Rattle.tree_model.specs.Effects.{Effect, Leaves, Makes, Settles, at_length, settled_by, refuses, on_path}
use Rattle.tree_model.specs.Finding.{if_there, on_node}
use Rattle.tree_model.specs.Tree.{Tree, new_tree, next_at}
use Rattle.tree_model.specs.Walk.{resolve}
use Rattle.txn_task.specs.declared.messages.Entry.{Entry}
use Rattle.tree_model.proofs.ApplyLaws.{apply_new, apply_update, settle_at}
use Rattle.tree_model.proofs.LinkingLaws.{link_is, unlink_is, rmdir_is}
use Rattle.tree_model.proofs.MapLaws.{ids, get-set_same, get-set_other}
use Rattle.tree_model.proofs.RenameLaws.{rename_is}
use Rattle.tree_model.proofs.SessionLaws.{extend_is, open_to_write_is}
use Rattle.run_record.specs.Legal.{EntryAt, applied, tree_after}
use Rattle.run_record.specs.Right.{waiting_in}

-- ---- effects

-- what is kept is as it was, and one more file waits at most
abbrev pub IsKeptTree : Tree → Tree → Type 0
IsKeptTree T tree = (tree.kept ≡ T.kept) × (len tree.doomed ≤ len T.doomed + 1)

abbrev pub Keeps : Tree → Effect → Type 0
Keeps T (Leaves reply) = Unit {0}
Keeps T (Makes tree reply) = IsKeptTree T tree
Keeps T (Settles tree) = (settled : ℕ) → IsKeptTree T (tree settled)

-- as many wait as before
same : (T : Tree) → len T.doomed ≤ len T.doomed + 1
same T = omega arith

-- or one more
one_more : (T : Tree) (id : ℕ) → len (insert T.doomed id Waiting) ≤ len T.doomed + 1
one_more T id = counted (is_some (get T.doomed id)) (len-insert ids.total T.doomed id Waiting)
  where
    counted : (b : Bool) → len (insert T.doomed id Waiting) ≡ cond b (len T.doomed) (len T.doomed + 1)
        → len (insert T.doomed id Waiting) ≤ len T.doomed + 1
    counted true is = omega (arith, is)
    counted false is = omega (arith, is)

keeps_at : (T : Tree) (settled : ℕ) (f : Effect) → Keeps T f → Keeps T (at_length settled f)
keeps_at T settled (Leaves reply) h = h
keeps_at T settled (Makes tree reply) h = h
keeps_at T settled (Settles tree) h = h settled

by_words : (P : Effect → Type 0) (path : Result Path Code) (then : Path → Effect) → ((code : Code) → P (refuses code)) → ((path : Path) → P (then path)) → P (on_path path then)
by_words P (Err code) then refused going = refused code
by_words P (Ok path) then refused going = going path

by_choice : (P : Effect → Type 0) (b : Bool) (this that : Effect) → P this → P that → P (cond b this that)
by_choice P true this that p q = p
by_choice P false this that p q = q

by_node : (P : Effect → Type 0) (T : Tree) (walked : Walked) (then : ℕ → Node → Effect) → ((code : Code) → P (refuses code)) → ((id : ℕ) (node : Node) → P (then id node)) → P (on_node T walked then)
by_node P T (At id kind) then refused going = here (get T.nodes id)
  where
    here : (o : Option Node) → P (if_there o (then id))
    here None = refused _
    here (Some node) = going id node
by_node P T (Stopped code) then refused going = refused code
by_node P T (AtParent id name) then refused going = refused _
by_node P T (NoName id) then refused going = refused _

module _ (C : Settings) (T : Tree) (server stamp : ℕ) (node : NewNode) where
  added : (dir : ℕ) (name : List ℕ) (parent : NodePart) → Keeps T (add_in C T server stamp node dir name parent)
  added dir name (Dir layout) = by_choice (Keeps T) (next_at T.next server == 4294967295) _ _ tt (refl, same T)
  added dir name (File length truncs layout hint) = tt
  added dir name (Link target) = tt

  child : (dir : ℕ) (name : List ℕ) (o : Option Node) → Keeps T (add_child C T server stamp node dir name o)
  child dir name None = tt
  child dir name (Some parent) = added dir name parent.part

  free : (dir : ℕ) (name : List ℕ) (o : Option ℕ) → Keeps T (unless_there o (add_child C T server stamp node dir name (get T.nodes dir)))
  free dir name None = child dir name (get T.nodes dir)
  free dir name (Some id) = tt

  made : (walked : Walked) → Keeps T (make_at C T server stamp node walked)
  made (At id kind) = tt
  made (NoName id) = tt
  made (Stopped code) = tt
  made (AtParent dir name) = free dir name (get T.entries (dir, name))

  makes : (place : Place) → Keeps T (make C T server stamp node place)
  makes place = by_words (Keeps T) (path_of place.text) _ (λ code. tt) (λ path. by_choice (Keeps T) (admits_given C node.layout) _ _ (made (resolve T place.base path Parent)) tt)

pub update_keeps : (C : Settings) (T : Tree) (q : Request) (call : Call) → is_query call ≡ false → Keeps T (effect_of C T q call)
update_keeps C T q (calls.Mkdir place mode layout) is = makes C T q.server q.stamp (new_dir mode layout) place
update_keeps C T q (calls.Create place mode layout) is = makes C T q.server q.stamp (new_file mode layout) place
update_keeps C T q (calls.Symlink place target) is =
    by_words (Keeps T) (path_of place.text) _ (λ code. tt) (λ path. by_words (Keeps T) (path_of target) _ (λ code. tt) (λ leads. made C T q.server q.stamp (new_link target) (resolve T place.base path Parent)))
update_keeps C T q (calls.Setattr place changes) is = by_words (Keeps T) (path_of place.text) _ (λ code. tt) (λ path. by_node (Keeps T) T (resolve T place.base path Follow) _ (λ code. tt) (λ id node. (refl, same T)))
update_keeps C T q (calls.Link from to) is = link_is (Keeps T) T q.stamp (λ code. tt) (λ dir name id node is. (refl, same T)) from to
update_keeps C T q (calls.Unlink place) is =
    unlink_is (Keeps T) T q.stamp (λ code. tt) (λ dir name id. (refl, same T)) (λ dir name id node is. (refl, same T))
    (λ dir name id node is. (refl, one_more T id)) place
update_keeps C T q (calls.Rmdir place) is = rmdir_is (Keeps T) T q.stamp (λ code. tt) (λ dir name id. (refl, same T)) place
update_keeps C T q (calls.Rename from to) is =
    rename_is (Keeps T) T q.stamp (λ code. tt) (refl, same T) (λ a b id. (refl, same T))
    (λ a b id dir name old. (refl, same T)) (λ a b id dir name old node at. (refl, same T))
    (λ a b id dir name old node at. (refl, one_more T old)) from to
update_keeps C T q (calls.Lookup place) is = absurd (cc)
update_keeps C T q (calls.Stat place) is = absurd (cc)
update_keeps C T q (calls.List place) is = absurd (cc)
update_keeps C T q (calls.Readlink place) is = absurd (cc)
update_keeps C T q (calls.Open place) is = open_to_write_is (Keeps T) T (λ code. tt) q.client q.number (λ file. (refl, same T)) place
update_keeps C T q (calls.Extend session place) is = extend_is (Keeps T) T (λ code. tt) place (λ id node length truncs layout hint at file within. (refl, same T)) q.client session
update_keeps C T q (calls.Openr place) is = absurd (cc)
update_keeps C T q (calls.Fstat session) is = absurd (cc)
update_keeps C T q _ is = tt

-- ---- a call with a new number

abbrev pub IsNew : Option KeptReply → ℕ → Type 0
IsNew o number = MatchOption o ⊤ (λ kept. kept.number < number)

abbrev pub kept_as : Request → Reply → KeptReply
kept_as q reply = record { number = q.number; reply = reply }

-- an update that makes a tree keeps its reply, and leaves what is kept of other clients
module _ (C : Settings) (T : Tree) (q : Request) (V : Tree) (reply : Reply) (update : is_query q.call ≡ false) (new : IsNew (get T.kept q.client.0) q.number) (is : at_length (settled_by reply) (effect C T q) ≡ Makes V reply) where
  kept_tree : (apply C T q (settled_by reply)).0 ≡ (settle T q (settled_by reply) (Makes V reply)).0
  kept_tree =
      ap (λ (x : Tree × Reply). x.0) (apply_new C T q (settled_by reply) new ∙ settle_at T q (settled_by reply) (effect C T q))
      ∙ ap (λ (f : Effect). (settle T q (settled_by reply) f).0) is

  pub kept_own : get (apply C T q (settled_by reply)).0.kept q.client.0 ≡ Some (kept_as q reply)
  kept_own = ap (λ (x : Tree). get x.kept q.client.0) kept_tree ∙ get-set_same ids V.kept q.client.0 (Some (kept_as q reply))

  pub kept_other : (client : ℕ) → client ≢ q.client.0 → get (apply C T q (settled_by reply)).0.kept client ≡ get T.kept client
  kept_other client apart =
      let kept : IsKeptTree T V = subst (Keeps T) is (keeps_at T (settled_by reply) (effect C T q) (update_keeps C T q q.call update)) in
      ap (λ (x : Tree). get x.kept client) kept_tree
      ∙ (get-set_other ids V.kept q.client.0 (Some (kept_as q reply)) client apart
      ∙ ap (λ m. get m client) kept.0)

-- ---- the files that wait

module _ (C : Settings) where
  settled_few : (T : Tree) (q : Request) (settled : ℕ) (f : Effect) → Keeps T f
      → len (settle T q settled f).0.doomed ≤ len T.doomed + 1
  settled_few T q settled (Leaves reply) h = same T
  settled_few T q settled (Makes tree reply) h = h.1
  settled_few T q settled (Settles tree) h = (h settled).1

  applied_few : (T : Tree) (q : Request) (settled : ℕ) → is_query q.call ≡ false
      → len (apply C T q settled).0.doomed ≤ len T.doomed + 1
  applied_few T q settled update =
      subst (λ (p : Tree × Reply). len p.0.doomed ≤ len T.doomed + 1) (sym (apply_update C T q settled update))
      (of_kept (get T.kept q.client.0))
    where
      settles_few : len (settle T q settled (effect C T q)).0.doomed ≤ len T.doomed + 1
      settles_few = settled_few T q settled (effect C T q) (update_keeps C T q q.call update)

      stale_or : (b : Bool) (code : Code)
          → len (cond b (T, Refused code) (settle T q settled (effect C T q))).0.doomed ≤ len T.doomed + 1
      stale_or true code = same T
      stale_or false code = settles_few

      same_or : (b c : Bool) (reply : Reply) (code : Code)
          → len (cond b (T, reply) (cond c (T, Refused code) (settle T q settled (effect C T q)))).0.doomed ≤ len T.doomed + 1
      same_or true c reply code = same T
      same_or false c reply code = stale_or c code

      of_kept : (o : Option KeptReply) → len (after_kept C T q settled o).0.doomed ≤ len T.doomed + 1
      of_kept None = settles_few
      of_kept (Some kept) = same_or (kept.number == q.number) (nat_lt q.number kept.number) kept.reply (Stale kept.number)

  after_few : (entries : List Entry) (T : Tree) → ((place : ℕ) (e : Entry) → EntryAt entries place e → is_query e.request.call ≡ false)
      → len (tree_after C T entries).doomed ≤ len T.doomed + length entries
  after_few [] T updates = omega arith
  after_few (e ∷ entries) T updates =
      let first : len (applied C T e).0.doomed ≤ len T.doomed + 1 = applied_few T e.request (settled_by e.reply) (updates 0 e refl) in
      omega (arith, first, after_few entries (applied C T e).0 (λ place x at. updates (suc place) x at))

  -- each entry dooms one file at most
  pub few_wait : (journal : List Entry) → ((place : ℕ) (e : Entry) → EntryAt journal place e → is_query e.request.call ≡ false)
      → waiting_in C journal ≤ length journal
  few_wait journal updates =
      let none : len (new_tree C).doomed ≡ 0 = len-empty nat_cmp Doom in
      let all : take (length journal) journal ≡ journal = take_all (length journal) journal (omega arith) in
      subst (λ (es : List Entry). len (tree_after C (new_tree C) es).doomed ≤ length journal) (sym all)
      (omega (arith, none, after_few journal (new_tree C) updates))
