-- What open, openr, fstat and extend come to: a refusal, or what is done with a file.
use Rattle.std.proofs.Common.{◌≡◌, ℕ, ◌<◌, nat_lt, Bool, true, false, cond, refl, ap}
use Rattle.std.proofs.lemmas.Bool.{ltb-true}
use Rattle.std.specs.Prelude.{Option, Some, None, Result, Ok, Err}
use Rattle.std.specs.Option.{ok_or}
use Rattle.std.specs.FinMap.{get}
use Rattle.fs_base.specs.Paths.{path_of}
use Rattle.fs_base.specs.declared.call.Place.{Place}
use Rattle.fs_base.specs.declared.call.Session.{Session}
use Rattle.fs_base.specs.declared.code.Code.{Code}
use Rattle.fs_base.specs.declared.code.Code.TheVariants as codes
use Rattle.fs_base.specs.declared.ids.ClientId.{ClientId}
use Rattle.fs_base.specs.declared.layout.Layout.{Layout}
use Rattle.fs_base.specs.declared.path.Path.{Path}
use Rattle.fs_base.specs.declared.reply.FileInfo.{FileInfo}
use Rattle.fs_base.specs.declared.reply.Reply.TheVariants as replies
use Rattle.tree_model.specs.declared.node.Node.{Node}
use Rattle.tree_model.specs.declared.node.NodePart.{NodePart}
use Rattle.tree_model.specs.declared.node.NodePart.TheVariants.{Dir, File, Link}
use Rattle.tree_model.specs.declared.walk.WalkEnd.TheVariants.{Follow}
use Rattle.tree_model.specs.Effects.{Effect, Leaves, Makes, refuses, on_path}
use Rattle.tree_model.specs.Sessions.{extend, extend_file, file_of, file_there, fstat, has_session, hint_over, on_file, open_to_read, open_to_write, opened_at, session_file, with_hint, with_writer}
use Rattle.tree_model.specs.Tree.{Tree}
use Rattle.tree_model.specs.Walk.{resolve}

module _ (P : Effect → Type 0) (T : Tree) (refused : (code : Code) → P (refuses code)) where
  by_file : (r : Result FileInfo Code) (f : FileInfo → Effect) → ((file : FileInfo) → r ≡ Ok file → P (f file)) → P (on_file r f)
  by_file (Err code) f h = refused code
  by_file (Ok file) f h = h file refl

  opens : (place : Place) (f : FileInfo → Effect) → ((file : FileInfo) → P (f file))
      → (r : Result Path Code) → P (on_path r (λ path. on_file (opened_at T (resolve T place.base path Follow)) f))
  opens place f h (Err code) = refused code
  opens place f h (Ok path) = by_file (opened_at T (resolve T place.base path Follow)) f (λ file is. h file)

  pub open_to_read_is : ((file : FileInfo) → P (Leaves (replies.File file))) → (place : Place) → P (open_to_read T place)
  open_to_read_is told place = opens place (λ file. Leaves (replies.File file)) told (path_of place.text)

  pub open_to_write_is : (client : ClientId) (number : ℕ) → ((file : FileInfo) → P (Makes (with_writer T file.inode client number) (replies.File file)))
      → (place : Place) → P (open_to_write T client number place)
  open_to_write_is client number made place = opens place (λ file. Makes (with_writer T file.inode client number) (replies.File file)) made (path_of place.text)

  pub fstat_is : (client : ClientId) (session : Session) → ((file : FileInfo) → P (Leaves (replies.File file))) → P (fstat T client session)
  fstat_is client session told = by_file (session_file T client session) (λ file. Leaves (replies.File file)) (λ file is. told file)

  -- the file of a node
  module _ (place : ℕ) (made : (id : ℕ) (node : Node) (length truncs : ℕ) (layout : Layout) (hint : ℕ) → get T.nodes id ≡ Some node → node.part ≡ File length truncs layout hint → place < layout.stripe
      → P (Makes (with_hint T id (hint_over layout.stripe place hint) (get T.nodes id)) (replies.Hint (hint_over layout.stripe place hint)))) where
    part_extended : (id : ℕ) (node : Node) → get T.nodes id ≡ Some node → (part : NodePart) → node.part ≡ part → P (on_file (ok_or (file_of id part) codes.NoSession) (extend_file T place))
    part_extended id node is (Dir layout) e = refused codes.NoSession
    part_extended id node is (File length truncs layout hint) e = within (nat_lt place layout.stripe) refl
      where
        within : (b : Bool) → nat_lt place layout.stripe ≡ b
            → P (cond b (Makes (with_hint T id (hint_over layout.stripe place hint) (get T.nodes id)) (replies.Hint (hint_over layout.stripe place hint))) (refuses codes.ShortHint))
        within true l = made id node length truncs layout hint is e (ltb-true place layout.stripe l)
        within false l = refused codes.ShortHint
    part_extended id node is (Link target) e = refused codes.NoSession

    node_extended : (id : ℕ) (o : Option Node) → get T.nodes id ≡ o → P (on_file (file_there id o) (extend_file T place))
    node_extended id None is = refused codes.NoSession
    node_extended id (Some node) is = part_extended id node is node.part refl

    pub extend_is : (client : ClientId) (session : Session) → P (extend T client session place)
    extend_is client session = held (has_session T client session)
      where
        held : (b : Bool) → P (on_file (cond b (file_there session.inode (get T.nodes session.inode)) (Err codes.NoSession)) (extend_file T place))
        held true = node_extended session.inode (get T.nodes session.inode) refl
        held false = refused codes.NoSession
