-- Files that replies show: in a tree of well-formed rows each has a layout that the configuration gives its inode.
use Rattle.std.proofs.Common.{◌≡◌, ◌⊎◌, inl, inr, ℕ, Bool, true, false, cond, List, Option, Some, None, Result, Ok, Err, refl, sym, ap, subst, ◌∙◌}
use Rattle.std.specs.Prelude.{◌==◌, nat_lt, unwrap_or}
use Rattle.std.specs.FinMap.{get, insert}
use Rattle.std.specs.Option.{ok_or, option_map}
use Rattle.fs_base.specs.Config.{Settings, layout_at}
use Rattle.fs_base.specs.Paths.{path_of}
use Rattle.fs_base.specs.declared.call.Call.{Call}
use Rattle.fs_base.specs.declared.call.Call.TheVariants as calls
use Rattle.fs_base.specs.declared.call.Changes.{Changes}
use Rattle.fs_base.specs.declared.call.Place.{Place}
use Rattle.fs_base.specs.declared.call.Request.{Request}
use Rattle.fs_base.specs.declared.call.Session.{Session}
use Rattle.fs_base.specs.declared.code.Code.{Code}
use Rattle.fs_base.specs.declared.code.Code.TheVariants as codes
use Rattle.fs_base.specs.declared.code.Limit.TheVariants.{Inodes}
use Rattle.fs_base.specs.declared.ids.ClientId.{ClientId}
use Rattle.fs_base.specs.declared.kind.Kind.TheVariants as kinds
use Rattle.fs_base.specs.declared.layout.DefaultLayout.{DefaultLayout}
use Rattle.fs_base.specs.declared.path.Path.{Path}
use Rattle.fs_base.specs.declared.reply.FileInfo.{FileInfo}
use Rattle.fs_base.specs.declared.reply.Reply.{Reply}
use Rattle.fs_base.specs.declared.reply.Reply.TheVariants as replies
use Rattle.fs_base.specs.declared.reply.Reply.TheVariants.{Attr, Done, Made}
use Rattle.inode_record.specs.declared.inode.InodePart.{InodePart}
use Rattle.inode_record.specs.declared.inode.InodePart.TheVariants as parts
use Rattle.inode_record.specs.declared.inode.InodeRow.{InodeRow}
use Rattle.row_tree.specs.HasTree.{HasTree}
use Rattle.row_tree.specs.TreeOf.{node_of, node_part, tree_of}
use Rattle.row_tree.specs.TypedRows.{TypedRows}
use Rattle.row_tree.specs.WellFormed.{FitsConfig, IsWellFormed}
use Rattle.row_tree.proofs.Telling.{node_is}
use Rattle.fs_base.specs.declared.row.Row.{Row}
use Rattle.tree_model.specs.declared.new_node.NewNode.{NewNode}
use Rattle.tree_model.specs.declared.node.Node.{Node}
use Rattle.tree_model.specs.declared.node.NodePart.{NodePart}
use Rattle.tree_model.specs.declared.node.NodePart.TheVariants.{Dir, File, Link}
use Rattle.tree_model.specs.declared.walk.WalkEnd.{WalkEnd}
use Rattle.tree_model.specs.declared.walk.WalkEnd.TheVariants.{Follow, NoFollow, Parent}
use Rattle.tree_model.specs.declared.walk.Walked.{Walked}
use Rattle.tree_model.specs.declared.walk.Walked.TheVariants.{At, AtParent, NoName, Stopped}
use Rattle.tree_model.specs.Attributes.{attributes_of, changed}
use Rattle.tree_model.specs.Calls.{apply, effect, effect_of, is_query, settle}
use Rattle.tree_model.specs.Creating.{id_of, admits_given, part_for, with_child, add_numbered, add_in, add_child, unless_there, make_at, make, symlink, new_dir, new_file, new_link}
use Rattle.tree_model.specs.Effects.{Effect, Leaves, Makes, Settles, at_length, on_path, refuses, settled_by}
use Rattle.tree_model.specs.Finding.{at_end, found_of, if_there, list_at, on_node, readlink_at, setattr_at, stat_at, target_of}
use Rattle.tree_model.specs.Sessions.{file_of, file_there, has_session, on_file, open_to_read_at, open_to_write_at, opened_at, opened_node, session_file, with_writer}
use Rattle.tree_model.specs.Tree.{Tree, next_at, node_with}
use Rattle.tree_model.specs.Walk.{resolve}
use Rattle.tree_model.proofs.ApplyLaws.{IsNewNumber, apply_new, apply_query}
use Rattle.tree_model.proofs.LinkingLaws.{link_is, rmdir_is, unlink_is}
use Rattle.tree_model.proofs.RenameLaws.{rename_is}
use Rattle.tree_model.proofs.SessionLaws.{extend_is}
use Rattle.client_core.specs.Files.{IsFileSound, IsLaidOut}

module _ (C : Settings) where
  -- ---- trees

  abbrev PartFits : ℕ → NodePart → Type 0
  PartFits id (Dir layout) = Unit {0}
  PartFits id (File length truncs layout hint) = IsLaidOut C id layout hint
  PartFits id (Link target) = Unit {0}

  abbrev NodeFits : ℕ → Option Node → Type 0
  NodeFits id None = Unit {0}
  NodeFits id (Some node) = PartFits id node.part

  -- each file is laid out as the configuration asks
  abbrev FilesFit : Tree → Type 0
  FilesFit T = (id : ℕ) → NodeFits id (get T.nodes id)

  part_fits : (id : ℕ) (part : InodePart) → FitsConfig C id part → PartFits id (node_part part)
  part_fits id (parts.Dir parent chunk stripe) h = tt
  part_fits id (parts.File length truncs layout hint) h =
      let given : DefaultLayout = record { chunk = layout.chunk; stripe = layout.stripe } in
      record {
        given = ap (λ b. cond b (Some (layout_at C id given)) None) h.0.0 ∙ ap Some (sym h.0.1);
        some = h.1;
        within = h.2;
      }
  part_fits id (parts.Link target) h = tt

  rows_fit : (S : TypedRows) → IsWellFormed C S → FilesFit (tree_of S)
  rows_fit S good id = by_row (get S.inodes id) refl
    where
      there : (o : Option InodeRow) → get S.inodes id ≡ o → NodeFits id (option_map node_of o)
      there None is = tt
      there (Some row) is = part_fits id row.part (good.fits id row is)

      by_row : (o : Option InodeRow) → get S.inodes id ≡ o → NodeFits id (get (tree_of S).nodes id)
      by_row o is = subst (NodeFits id) (sym (node_is S id o is)) (there o is)

  -- in the tree of well-formed rows
  pub files_fit : (rows : List Row) (T : Tree) → HasTree C rows T → FilesFit T
  files_fit rows T tree = subst FilesFit tree.3 (rows_fit tree.0 tree.2)

  -- ---- effects

  abbrev ShowsFit : Effect → Type 0
  ShowsFit (Leaves reply) = IsFileSound C reply
  ShowsFit (Makes tree reply) = IsFileSound C reply
  ShowsFit (Settles tree) = Unit {0}

  fits_at : (settled : ℕ) (f : Effect) → ShowsFit f → ShowsFit (at_length settled f)
  fits_at settled (Leaves reply) h = h
  fits_at settled (Makes tree reply) h = h
  fits_at settled (Settles tree) h = tt

  on_path_fits : (r : Result Path Code) (f : Path → Effect) → ((path : Path) → ShowsFit (f path)) → ShowsFit (on_path r f)
  on_path_fits (Err code) f h = tt
  on_path_fits (Ok path) f h = h path

  if_there_fits : (o : Option Node) (f : Node → Effect) → ((node : Node) → ShowsFit (f node)) → ShowsFit (if_there o f)
  if_there_fits None f h = tt
  if_there_fits (Some node) f h = h node

  found_fits : (walked : Walked) → IsFileSound C (found_of walked)
  found_fits (At id kind) = tt
  found_fits (Stopped code) = tt
  found_fits (AtParent id name) = tt
  found_fits (NoName id) = tt

  target_fits : (part : NodePart) → ShowsFit (target_of part)
  target_fits (Dir layout) = tt
  target_fits (File length truncs layout hint) = tt
  target_fits (Link target) = tt

  -- a file that was found
  abbrev FoundFits : Result FileInfo Code → Type 0
  FoundFits (Err code) = Unit {0}
  FoundFits (Ok file) = IsLaidOut C file.inode file.layout file.hint

  on_file_fits : (r : Result FileInfo Code) (f : FileInfo → Effect) → FoundFits r → ((file : FileInfo) → IsLaidOut C file.inode file.layout file.hint → ShowsFit (f file)) → ShowsFit (on_file r f)
  on_file_fits (Err code) f found h = tt
  on_file_fits (Ok file) f found h = h file found

  file_fits : (id : ℕ) (code : Code) (part : NodePart) → PartFits id part → FoundFits (ok_or (file_of id part) code)
  file_fits id code (Dir layout) h = tt
  file_fits id code (File length truncs layout hint) h = h
  file_fits id code (Link target) h = tt

  opened_node_fits : (id : ℕ) (o : Option Node) → NodeFits id o → FoundFits (opened_node id o)
  opened_node_fits id None h = tt
  opened_node_fits id (Some node) h = file_fits id codes.IsDir node.part h

  there_fits : (id : ℕ) (o : Option Node) → NodeFits id o → FoundFits (file_there id o)
  there_fits id None h = tt
  there_fits id (Some node) h = file_fits id codes.NoSession node.part h

  module _ (T : Tree) where
    at_end_fits : (place : Place) (end : WalkEnd) (f : Walked → Effect) → ((walked : Walked) → ShowsFit (f walked)) → ShowsFit (at_end T place end f)
    at_end_fits place end f h = on_path_fits (path_of place.text) (λ path. f (resolve T place.base path end)) (λ path. h (resolve T place.base path end))

    on_node_fits : (walked : Walked) (f : ℕ → Node → Effect) → ((id : ℕ) (node : Node) → ShowsFit (f id node)) → ShowsFit (on_node T walked f)
    on_node_fits (At id kind) f h = if_there_fits (get T.nodes id) (f id) (h id)
    on_node_fits (Stopped code) f h = tt
    on_node_fits (AtParent id name) f h = tt
    on_node_fits (NoName id) f h = tt

    list_fits : (walked : Walked) → ShowsFit (list_at T walked)
    list_fits (At id kinds.Dir) = tt
    list_fits (At id kinds.File) = tt
    list_fits (At id kinds.Link) = tt
    list_fits (Stopped code) = tt
    list_fits (AtParent id name) = tt
    list_fits (NoName id) = tt

    readlink_fits : (walked : Walked) → ShowsFit (readlink_at T walked)
    readlink_fits (At id kinds.Dir) = tt
    readlink_fits (At id kinds.File) = tt
    readlink_fits (At id kinds.Link) = if_there_fits (get T.nodes id) (λ node. target_of node.part) (λ node. target_fits node.part)
    readlink_fits (Stopped code) = tt
    readlink_fits (AtParent id name) = tt
    readlink_fits (NoName id) = tt

    module _ (server stamp : ℕ) (made : NewNode) where
      numbered_fits : (dir : ℕ) (name : List ℕ) (layout : DefaultLayout) → ShowsFit (add_numbered C T server stamp made dir name layout)
      numbered_fits dir name layout = by_limit (next_at T.next server == 4294967295)
        where
          by_limit : (b : Bool)
              → ShowsFit (cond b (refuses (codes.AtLimit Inodes)) (Makes (with_child T server dir name (node_with made.mode stamp (part_for C made.part (id_of (next_at T.next server) server) layout))) (Made (id_of (next_at T.next server) server))))
          by_limit true = tt
          by_limit false = tt

      in_fits : (dir : ℕ) (name : List ℕ) (part : NodePart) → ShowsFit (add_in C T server stamp made dir name part)
      in_fits dir name (Dir layout) = numbered_fits dir name (unwrap_or made.layout layout)
      in_fits dir name (File length truncs layout hint) = tt
      in_fits dir name (Link target) = tt

      child_fits : (dir : ℕ) (name : List ℕ) (o : Option Node) → ShowsFit (add_child C T server stamp made dir name o)
      child_fits dir name None = tt
      child_fits dir name (Some parent) = in_fits dir name parent.part

      unless_fits : (o : Option ℕ) (f : Effect) → ShowsFit f → ShowsFit (unless_there o f)
      unless_fits None f h = h
      unless_fits (Some id) f h = tt

      make_at_fits : (walked : Walked) → ShowsFit (make_at C T server stamp made walked)
      make_at_fits (At id kind) = tt
      make_at_fits (NoName id) = tt
      make_at_fits (Stopped code) = tt
      make_at_fits (AtParent dir name) = unless_fits (get T.entries (dir, name)) (add_child C T server stamp made dir name (get T.nodes dir)) (child_fits dir name (get T.nodes dir))

      make_fits : (place : Place) → ShowsFit (make C T server stamp made place)
      make_fits place =
          on_path_fits (path_of place.text) (λ path. cond (admits_given C made.layout) (make_at C T server stamp made (resolve T place.base path Parent)) (refuses codes.BadLayout))
          (λ path. by_layout path (admits_given C made.layout))
        where
          by_layout : (path : Path) (b : Bool) → ShowsFit (cond b (make_at C T server stamp made (resolve T place.base path Parent)) (refuses codes.BadLayout))
          by_layout path true = make_at_fits (resolve T place.base path Parent)
          by_layout path false = tt

    symlink_fits : (server stamp : ℕ) (place : Place) (target : List ℕ) → ShowsFit (symlink C T server stamp place target)
    symlink_fits server stamp place target =
        on_path_fits (path_of place.text) (λ path. on_path (path_of target) (λ leads. make_at C T server stamp (new_link target) (resolve T place.base path Parent)))
        (λ path. on_path_fits (path_of target) (λ leads. make_at C T server stamp (new_link target) (resolve T place.base path Parent))
        (λ leads. make_at_fits server stamp (new_link target) (resolve T place.base path Parent)))

    module _ (fit : FilesFit T) where
      opened_fits : (walked : Walked) → FoundFits (opened_at T walked)
      opened_fits (At id kinds.Dir) = tt
      opened_fits (At id kinds.File) = opened_node_fits id (get T.nodes id) (fit id)
      opened_fits (At id kinds.Link) = opened_node_fits id (get T.nodes id) (fit id)
      opened_fits (Stopped code) = tt
      opened_fits (AtParent dir name) = tt
      opened_fits (NoName dir) = tt

      session_fits : (client : ClientId) (session : Session) → FoundFits (session_file T client session)
      session_fits client session = held (has_session T client session)
        where
          held : (b : Bool) → FoundFits (cond b (file_there session.inode (get T.nodes session.inode)) (Err codes.NoSession))
          held true = there_fits session.inode (get T.nodes session.inode) (fit session.inode)
          held false = tt

      call_fits : (q : Request) (call : Call) → ShowsFit (effect_of C T q call)
      call_fits q (calls.Lookup place) = at_end_fits place NoFollow (λ walked. Leaves (found_of walked)) found_fits
      call_fits q (calls.Stat place) = at_end_fits place Follow (stat_at T) (λ walked. on_node_fits walked (λ id node. Leaves (Attr (attributes_of T id node))) (λ id node. tt))
      call_fits q (calls.List place) = at_end_fits place Follow (list_at T) list_fits
      call_fits q (calls.Readlink place) = at_end_fits place NoFollow (readlink_at T) readlink_fits
      call_fits q (calls.Openr place) =
          at_end_fits place Follow (open_to_read_at T) (λ walked. on_file_fits (opened_at T walked) (λ file. Leaves (replies.File file)) (opened_fits walked) (λ file laid. laid))
      call_fits q (calls.Fstat session) = on_file_fits (session_file T q.client session) (λ file. Leaves (replies.File file)) (session_fits q.client session) (λ file laid. laid)
      call_fits q (calls.Mkdir place mode layout) = make_fits q.server q.stamp (new_dir mode layout) place
      call_fits q (calls.Create place mode layout) = make_fits q.server q.stamp (new_file mode layout) place
      call_fits q (calls.Symlink place target) = symlink_fits q.server q.stamp place target
      call_fits q (calls.Setattr place changes) =
          at_end_fits place Follow (setattr_at T q.stamp changes) (λ walked. on_node_fits walked (λ id node. Makes (record T { nodes = insert T.nodes id (changed changes q.stamp node) }) Done) (λ id node. tt))
      call_fits q (calls.Link from to) = link_is ShowsFit T q.stamp (λ code. tt) (λ dir name id node is. tt) from to
      call_fits q (calls.Unlink place) = unlink_is ShowsFit T q.stamp (λ code. tt) (λ dir name id. tt) (λ dir name id node is. tt) (λ dir name id node is. tt) place
      call_fits q (calls.Rmdir place) = rmdir_is ShowsFit T q.stamp (λ code. tt) (λ dir name id. tt) place
      call_fits q (calls.Rename from to) =
          rename_is ShowsFit T q.stamp (λ code. tt) tt (λ a b id. tt) (λ a b id dir name old. tt) (λ a b id dir name old node is. tt) (λ a b id dir name old node is. tt) from to
      call_fits q (calls.Open place) =
          at_end_fits place Follow (open_to_write_at T q.client q.number)
          (λ walked. on_file_fits (opened_at T walked) (λ file. Makes (with_writer T file.inode q.client q.number) (replies.File file)) (opened_fits walked) (λ file laid. laid))
      call_fits q (calls.Extend session place) = extend_is ShowsFit T (λ code. tt) place (λ id node length truncs layout hint is part within. tt) q.client session
      call_fits q _ = tt

      -- ---- replies

      -- an entry's
      pub made_fits : (V : Tree) (q : Request) (reply : Reply) → at_length (settled_by reply) (effect C T q) ≡ Makes V reply → IsFileSound C reply
      made_fits V q reply is = subst ShowsFit is (fits_at (settled_by reply) (effect C T q) (call_fits q q.call))

      settled_fits : (q : Request) (settled : ℕ) (reply : Reply) (f : Effect) → ShowsFit f → settle T q settled f ≡ (T, reply) → IsFileSound C reply
      settled_fits q settled reply (Leaves r) h e = subst (IsFileSound C) (ap (λ (p : Tree × Reply). p.1) e) h
      settled_fits q settled reply (Makes V r) h e = subst (IsFileSound C) (ap (λ (p : Tree × Reply). p.1) e) h
      settled_fits q settled reply (Settles V) h e = subst (IsFileSound C) (ap (λ (p : Tree × Reply). p.1) e) tt

      -- a query's, and those of a call with a new number
      pub query_fits : (q : Request) (reply : Reply) → is_query q.call ≡ true → apply C T q 0 ≡ (T, reply) → IsFileSound C reply
      query_fits q reply query is = settled_fits q 0 reply (effect C T q) (call_fits q q.call) (sym (apply_query C T q 0 query) ∙ is)

      pub new_fits : (q : Request) (reply : Reply) → IsNewNumber (get T.kept q.client.0) q.number → apply C T q 0 ≡ (T, reply) → IsFileSound C reply
      new_fits q reply new is = settled_fits q 0 reply (effect C T q) (call_fits q q.call) (sym (apply_new C T q 0 new) ∙ is)
