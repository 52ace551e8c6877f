-- Write sessions and hints: what the rows tell of a session and its file, and the rows with a session put or a
-- hint changed.
use Rattle.std.proofs.Common.{◌≡◌, ◌≢◌, ℕ, ◌<◌, ◌≤◌, false, cond, List, [], ◌∷◌, refl, sym, ap, subst, ◌∙◌, inl, inr, arith, eq-eqb, ne_eqb, lt-ltb, le-ltb}
use Rattle.std.specs.Prelude.{Option, Some, None, Ok, Err}
use Rattle.std.specs.Option.{is_some, ok_or, option_map}
use Rattle.std.specs.FinMap.{FinMap, get, insert}
use Rattle.std.specs.Ordering.{nat_cmp}
use Rattle.fs_base.specs.Config.{Settings}
use Rattle.fs_base.specs.declared.call.Session.{Session}
use Rattle.fs_base.specs.declared.code.Code.TheVariants as codes
use Rattle.fs_base.specs.declared.ids.ClientId.{ClientId}
use Rattle.fs_base.specs.declared.kind.Kind.TheVariants as kinds
use Rattle.fs_base.specs.declared.layout.Layout.{Layout}
use Rattle.fs_base.specs.declared.reply.FileInfo.{FileInfo}
use Rattle.fs_base.specs.declared.reply.Reply.TheVariants as replies
use Rattle.inode_record.specs.declared.inode.InodePart.{InodePart}
use Rattle.inode_record.specs.declared.inode.InodePart.TheVariants as parts
use Rattle.inode_record.specs.declared.inode.InodeRow.{InodeRow}
use Rattle.row_records.specs.declared.rows.GcRow.{GcRow}
use Rattle.row_records.specs.declared.rows.GcRow.TheVariants.{Waiting, Purged}
use Rattle.tree_model.specs.declared.node.Node.{Node}
use Rattle.tree_model.specs.Effects.{Effect, Makes, refuses}
use Rattle.tree_model.specs.Sessions.{extend_file, file_of, file_there, hint_over, opened_node, part_with_hint, session_file, with_hint, with_writer}
use Rattle.tree_model.specs.Tree.{Tree}
use Rattle.tree_model.proofs.HintLaws.{hint_over_fits}
use Rattle.tree_model.proofs.MapLaws.{holders, ids, decide, get-set_cases, map_values-set, set_present}
use Rattle.row_tree.specs.Steps.{MayChange, hinted_row, part_hinted, with_row, with_session}
use Rattle.row_tree.specs.TreeOf.{tree_of, node_of, node_part}
use Rattle.row_tree.specs.TypedRows.{TypedRows, kind_of, parent_of}
use Rattle.row_tree.specs.WellFormed.{IsPath, HasKind, FitsConfig, IsDoomed, IsWellFormed}
use Rattle.row_tree.proofs.Changing.{changes_row, tree_with_row}
use Rattle.row_tree.proofs.Telling.{node_is, writer_is}

-- ---- a session put

pub tree_with_session : (S : TypedRows) (inode : ℕ) (client : ClientId) (number stamp : ℕ) → tree_of (with_session S inode client.0 number stamp) ≡ with_writer (tree_of S) inode client number
tree_with_session S inode client number stamp = λ i.
    record (tree_of S) { writers = map_values-set holders (λ (stamp : ℕ). tt {0}) S.sessions (inode, (client.0, number)) (Some stamp) i }

module _ (C : Settings) (S : TypedRows) (good : IsWellFormed C S) (inode client number stamp : ℕ) (file : HasKind S inode kinds.File) where
  abbrev after : TypedRows
  after = with_session S inode client number stamp

  path_stays : (id : ℕ) (path : List ℕ) → IsPath S id path → IsPath after id path
  path_stays id [] h = h
  path_stays id (parent ∷ path) h = (h.0, path_stays parent path h.1)

  doomed_stays : (id : ℕ) (g : GcRow) → IsDoomed C S id g → IsDoomed C after id g
  doomed_stays id Waiting h = h
  doomed_stays id (Purged layout hint) h = h

  session_after : (i c n s : ℕ) → get (after).sessions (i, (c, n)) ≡ Some s → HasKind after i kinds.File
  session_after i c n s is = elim (get-set_cases holders S.sessions (inode, (client, number)) (Some stamp) (i, (c, n)) (Some s) is) [
    | inl h ↦ subst (λ (x : ℕ). HasKind after x kinds.File) (sym (ap (λ (k : ℕ × (ℕ × ℕ)). k.0) h.0)) file
    | inr h ↦ good.session i c n s h.1
  ]

  -- each session's inode is a file
  pub adds_session : IsWellFormed C (with_session S inode client number stamp)
  adds_session =
      record {
        root = good.root;
        linked = λ id r not_root is. let linked = good.linked id r not_root is in record {
          given = linked.given;
          count = linked.count;
          dir = linked.dir;
          link = linked.link;
          file = linked.file;
        };
        fits = good.fits;
        leads = λ id has. let up = good.leads id has in (up.0, path_stays id up.0 up.1);
        entry = λ dir name e is. let entry = good.entry dir name e is in record {
          parent = entry.parent;
          target = entry.target;
          not_root = entry.not_root;
          inside = entry.inside;
        };
        doomed = λ id g is. let doomed = good.doomed id g is in (doomed_stays id g doomed.0, doomed.1);
        session = session_after;
        numbers = good.numbers;
      }

-- ---- what the rows tell

module _ (S : TypedRows) (id : ℕ) where
  pub opened_absent : get S.inodes id ≡ None → opened_node id (get (tree_of S).nodes id) ≡ Err codes.NotFound
  opened_absent none = ap (opened_node id) (node_is S id None none)

  -- only a file is opened
  pub opened_other : (row : InodeRow) → get S.inodes id ≡ Some row → kind_of row.part ≢ kinds.File → opened_node id (get (tree_of S).nodes id) ≡ Err codes.IsDir
  opened_other row there other = ap (opened_node id) (node_is S id (Some row) there) ∙ by row.part other
    where
      by : (part : InodePart) → kind_of part ≢ kinds.File → ok_or (file_of id (node_part part)) codes.IsDir ≡ Err codes.IsDir
      by (parts.Dir parent chunk stripe) k = refl
      by (parts.File length truncs layout hint) k = absurd (k refl)
      by (parts.Link target) k = refl

module _ (S : TypedRows) (client : ClientId) (session : Session) where
  -- number 0 stands for no session
  pub session_zero : session.number ≡ 0 → session_file (tree_of S) client session ≡ Err codes.NoSession
  session_zero zero = ap (λ b. cond (cond b false (is_some (get (tree_of S).writers (session.inode, (client.0, session.number))))) (file_there session.inode (get (tree_of S).nodes session.inode)) (Err codes.NoSession)) (eq-eqb session.number 0 zero)

  by_session : session.number ≢ 0 → (o : Option ℕ) → get S.sessions (session.inode, (client.0, session.number)) ≡ o → session_file (tree_of S) client session ≡ cond (is_some (option_map (λ (stamp : ℕ). tt {0}) o)) (file_there session.inode (get (tree_of S).nodes session.inode)) (Err codes.NoSession)
  by_session some o is =
      ap (λ b. cond (cond b false (is_some (get (tree_of S).writers (session.inode, (client.0, session.number))))) (file_there session.inode (get (tree_of S).nodes session.inode)) (Err codes.NoSession)) (ne_eqb session.number 0 some)
      ∙ ap (λ (w : Option (Unit {0})). cond (is_some w) (file_there session.inode (get (tree_of S).nodes session.inode)) (Err codes.NoSession)) (writer_is S session.inode client.0 session.number o is)

  pub session_absent : get S.sessions (session.inode, (client.0, session.number)) ≡ None → session_file (tree_of S) client session ≡ Err codes.NoSession
  session_absent none = elim (decide ids session.number 0) [
    | inl zero ↦ session_zero zero.0
    | inr some ↦ by_session some.0 None none
  ]

  pub session_there : session.number ≢ 0 → (stamp : ℕ) → get S.sessions (session.inode, (client.0, session.number)) ≡ Some stamp → session_file (tree_of S) client session ≡ file_there session.inode (get (tree_of S).nodes session.inode)
  session_there some stamp is = by_session some (Some stamp) is

-- a file's row
module _ (S : TypedRows) (id : ℕ) (row : InodeRow) (there : get S.inodes id ≡ Some row) (length truncs : ℕ) (layout : Layout) (hint : ℕ) (is_file : row.part ≡ parts.File length truncs layout hint) where
  abbrev file : FileInfo
  file = record { inode = id; length = length; truncs = truncs; layout = layout; hint = hint }

  pub opened_file : opened_node id (get (tree_of S).nodes id) ≡ Ok file
  opened_file = ap (opened_node id) (node_is S id (Some row) there) ∙ ap (λ (p : InodePart). ok_or (file_of id (node_part p)) codes.IsDir) is_file

  pub session_has_file : file_there id (get (tree_of S).nodes id) ≡ Ok file
  session_has_file = ap (file_there id) (node_is S id (Some row) there) ∙ ap (λ (p : InodePart). ok_or (file_of id (node_part p)) codes.NoSession) is_file

  -- ---- a hint changed

  part_is : (new : ℕ) (part : InodePart) → part_with_hint new (node_part part) ≡ node_part (part_hinted new part)
  part_is new (parts.Dir parent chunk stripe) = refl
  part_is new (parts.File length truncs layout hint) = refl
  part_is new (parts.Link target) = refl

  tree_hinted : (new : ℕ) → with_hint (tree_of S) id new (get (tree_of S).nodes id) ≡ tree_of (with_row S id (hinted_row new row))
  tree_hinted new =
      ap (with_hint (tree_of S) id new) (node_is S id (Some row) there)
      ∙ ap (λ p. record (tree_of S) { nodes = insert (tree_of S).nodes id (record (node_of row) { part = p }) }) (part_is new row.part)
      ∙ sym (tree_with_row S id (hinted_row new row))

  -- the same hint leaves the tree
  tree_same : with_hint (tree_of S) id hint (get (tree_of S).nodes id) ≡ tree_of S
  tree_same =
      let part : part_with_hint hint (node_part row.part) ≡ node_part row.part =
      ap (λ (p : InodePart). part_with_hint hint (node_part p)) is_file ∙ sym (ap node_part is_file) in
      ap (with_hint (tree_of S) id hint) (node_is S id (Some row) there)
      ∙ ap (λ p. record (tree_of S) { nodes = insert (tree_of S).nodes id (record (node_of row) { part = p }) }) part
      ∙ ap (λ (m : FinMap nat_cmp Node). record (tree_of S) { nodes = m }) (set_present ids (tree_of S).nodes id (Some (node_of row)) (node_is S id (Some row) there))

  abbrev extended : ℕ → Effect
  extended place = extend_file (tree_of S) place file

  pub extend_short : (place : ℕ) → layout.stripe ≤ place → extended place ≡ refuses codes.ShortHint
  extend_short place beyond = ap (λ b. cond b (Makes (with_hint (tree_of S) id (hint_over layout.stripe place hint) (get (tree_of S).nodes id)) (replies.Hint (hint_over layout.stripe place hint))) (refuses codes.ShortHint)) (le-ltb place layout.stripe beyond)

  extend_within : (place : ℕ) → place < layout.stripe → extended place ≡ Makes (with_hint (tree_of S) id (hint_over layout.stripe place hint) (get (tree_of S).nodes id)) (replies.Hint (hint_over layout.stripe place hint))
  extend_within place within = ap (λ b. cond b (Makes (with_hint (tree_of S) id (hint_over layout.stripe place hint) (get (tree_of S).nodes id)) (replies.Hint (hint_over layout.stripe place hint))) (refuses codes.ShortHint)) (lt-ltb place layout.stripe within)

  pub extend_same : (place : ℕ) → place < layout.stripe → hint_over layout.stripe place hint ≡ hint → extended place ≡ Makes (tree_of S) (replies.Hint hint)
  extend_same place within same =
      extend_within place within
      ∙ ap (λ (h : ℕ). Makes (with_hint (tree_of S) id h (get (tree_of S).nodes id)) (replies.Hint h)) same
      ∙ ap (λ (T : Tree). Makes T (replies.Hint hint)) tree_same

  module _ (C : Settings) (good : IsWellFormed C S) (place : ℕ) where
    abbrev new : ℕ
    new = hint_over layout.stripe place hint

    file_fits : FitsConfig C id (parts.File length truncs layout hint)
    file_fits = subst (FitsConfig C id) is_file (good.fits id row there)

    new_fits : (1 ≤ new) × (new ≤ layout.stripe)
    new_fits =
        hint_over_fits layout.stripe place hint (file_fits).1 (file_fits).2

    part_new : part_hinted new row.part ≡ parts.File length truncs layout new
    part_new = ap (part_hinted new) is_file

    may_hint : MayChange C S id row (hinted_row new row)
    may_hint =
        record {
          there = there;
          kind = ap kind_of part_new ∙ sym (ap kind_of is_file);
          parent = ap parent_of part_new ∙ sym (ap parent_of is_file);
          links = refl;
          fits = subst (FitsConfig C id) (sym part_new) ((file_fits).0, (new_fits).0, (new_fits).1);
        }

    pub extend_one : place < layout.stripe → IsWellFormed C (with_row S id (hinted_row (hint_over layout.stripe place hint) row))
        × (extend_file (tree_of S) place (record { inode = id; length = length; truncs = truncs; layout = layout; hint = hint })
        ≡ Makes (tree_of (with_row S id (hinted_row (hint_over layout.stripe place hint) row))) (replies.Hint (hint_over layout.stripe place hint)))
    extend_one within = (
      changes_row C S good id row (hinted_row new row) may_hint,
      extend_within place within ∙ ap (λ (T : Tree). Makes T (replies.Hint new)) (tree_hinted new),
    )
