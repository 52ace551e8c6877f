-- Whether an entry is its node's last, before it goes and after; what is planned is what link and unlink do.
use Rattle.std.proofs.Common.{rules, ◌≡◌, ◌≢◌, ℕ, zero, suc, ◌+◌, ◌==◌, Bool, true, false, cond, List, refl, sym, ap, subst, ◌∙◌, arith, eq-eqb, ne_eqb}
use Rattle.std.specs.Prelude.{Option, Some, None, IsSome}
use Rattle.std.specs.Option.{option_map}
use Rattle.std.specs.FinMap.{get, insert}
use Rattle.fs_base.specs.declared.code.Code.TheVariants as codes
use Rattle.fs_base.specs.declared.code.Limit.TheVariants.{Links}
use Rattle.fs_base.specs.declared.layout.DefaultLayout.{DefaultLayout}
use Rattle.fs_base.specs.declared.reply.Reply.TheVariants.{Done}
use Rattle.tree_model.specs.declared.kept.Doom.TheVariants.{Waiting}
use Rattle.tree_model.specs.declared.node.Node.{Node}
use Rattle.tree_model.specs.declared.node.NodePart.{NodePart}
use Rattle.tree_model.specs.declared.node.NodePart.TheVariants.{Dir, File, Link}
use Rattle.tree_model.specs.declared.plan.Fate.{Fate}
use Rattle.tree_model.specs.Attributes.{count_to, touched}
use Rattle.tree_model.specs.Effects.{Effect, Makes, refuses}
use Rattle.tree_model.specs.Finding.{if_there}
use Rattle.tree_model.specs.Linking.{let_go, link_node, with_link, without_entry, with_touched, unlinked, unlink_part, unlink_entry}
use Rattle.tree_model.specs.Making.{detached, fared, fate_of, linked}
use Rattle.tree_model.specs.Maps.{set}
use Rattle.tree_model.specs.Tree.{Tree}
use Rattle.tree_model.proofs.MapLaws.{names, count-set, one_if}

same_test : (left all : ℕ) → 1 + left ≡ all → (left == 0) ≡ (all == 1)
same_test zero all e = sym (eq-eqb all 1 (omega arith))
same_test (suc left) all e = ne_eqb (suc left) 0 (λ q. omega arith) ∙ sym (ne_eqb all 1 (λ q. omega arith))

-- an entry is the last exactly where no other is left
pub last_entry : (T : Tree) (dir : ℕ) (name : List ℕ) (id : ℕ) → get T.entries (dir, name) ≡ Some id → (count_to (without_entry T dir name) id == 0) ≡ (count_to T id == 1)
last_entry T dir name id is =
    let law : one_if (λ (x : ℕ). x == id) (get T.entries (dir, name)) + count_to (without_entry T dir name) id ≡ count_to T id + 0 = count-set names (λ (x : ℕ). x == id) T.entries (dir, name) None in
    let one : one_if (λ (x : ℕ). x == id) (get T.entries (dir, name)) ≡ 1 = ap (one_if (λ (x : ℕ). x == id)) is ∙ ap (λ b. cond b 1 0) (eq-eqb id id refl) in
    same_test (count_to (without_entry T dir name) id) (count_to T id) (omega arith)

-- ---- link

module _ (T : Tree) (stamp id dir : ℕ) (name : List ℕ) (node : Node) (there : get T.nodes id ≡ Some node) where
  abbrev by_limit : Bool → Effect
  by_limit b = cond b (refuses (codes.AtLimit Links)) (Makes (with_link T stamp dir name id node) Done)

  link_counted : (count : ℕ) → count ≡ count_to T id → link_node T stamp id dir name ≡ by_limit (count == 65535)
  link_counted count is =
      ap (λ (o : Option Node). if_there o (λ n. cond (count_to T id == 65535) (refuses (codes.AtLimit Links)) (Makes (with_link T stamp dir name id n) Done))) there
      ∙ ap (λ n. by_limit (n == 65535)) (sym is)

  pub node_full : (count : ℕ) → count ≡ count_to T id → count ≡ 65535 → link_node T stamp id dir name ≡ refuses (codes.AtLimit Links)
  node_full count is full = link_counted count is ∙ ap by_limit (eq-eqb count 65535 full)

  pub node_joined : (count : ℕ) → count ≡ count_to T id → count ≢ 65535 → IsSome (get T.nodes id) × (link_node T stamp id dir name ≡ Makes (linked T stamp (dir, name) id) Done)
  node_joined count is room = (
    subst IsSome (sym there) (search rules),
    link_counted count is ∙ ap by_limit (ne_eqb count 65535 room)
        ∙ ap (λ (o : Option Node). Makes (record T { nodes = set T.nodes id (option_map (touched stamp) o); entries = insert T.entries (dir, name) id }) Done) (sym there),
  )

-- ---- unlink

module _ (T : Tree) (stamp dir : ℕ) (name : List ℕ) (id : ℕ) (node : Node) (there : get T.nodes id ≡ Some node) where
  abbrev left : Tree
  left = without_entry T dir name

  by_part : (part : NodePart) → let_go (without_entry T dir name) stamp id node part ≡ fared (without_entry T dir name) stamp id (fate_of true part)
  by_part (Dir layout) = refl
  by_part (File length truncs layout hint) =
      ap (λ (o : Option Node). record (without_entry T dir name) { nodes = set T.nodes id (option_map (touched stamp) o); doomed = insert T.doomed id Waiting }) (sym there)
  by_part (Link target) = refl

  by_last : (b : Bool) → cond b (let_go (without_entry T dir name) stamp id node node.part) (with_touched (without_entry T dir name) stamp id node) ≡ fared (without_entry T dir name) stamp id (fate_of b node.part)
  by_last true = by_part node.part
  by_last false = ap (λ (o : Option Node). record (without_entry T dir name) { nodes = set T.nodes id (option_map (touched stamp) o) }) (sym there)

  -- what becomes of the node, by the count before
  pub unlinked_fared : (count : ℕ) (fate : Fate) → get T.entries (dir, name) ≡ Some id → count ≡ count_to T id → fate ≡ fate_of (count == 1) node.part
      → unlinked (without_entry T dir name) stamp id node ≡ fared (without_entry T dir name) stamp id fate
  unlinked_fared count fate at is chosen =
      ap (λ b. cond b (let_go left stamp id node node.part) (with_touched left stamp id node)) (last_entry T dir name id at ∙ ap (λ n. n == 1) (sym is)) ∙ by_last (count == 1) ∙ ap (fared left stamp id) (sym chosen)

  pub entry_detached : (count : ℕ) (fate : Fate) → get T.entries (dir, name) ≡ Some id → ((layout : DefaultLayout) → node.part ≡ Dir layout → ⊥) → count ≡ count_to T id → fate ≡ fate_of (count == 1) node.part
      → IsSome (get T.nodes id) × (unlink_entry T stamp dir name (get T.entries (dir, name)) ≡ Makes (detached T stamp (dir, name) id fate) Done)
  entry_detached count fate at no_dir is chosen = (
    subst IsSome (sym there) (search rules),
    ap (unlink_entry T stamp dir name) at
        ∙ ap (λ (o : Option Node). if_there o (λ n. unlink_part T stamp dir name id n n.part)) there
        ∙ of_kind node.part refl
        ∙ ap (λ (V : Tree). Makes V Done) (unlinked_fared count fate at is chosen),
  )
    where
      of_kind : (part : NodePart) → node.part ≡ part → unlink_part T stamp dir name id node part ≡ Makes (unlinked (without_entry T dir name) stamp id node) Done
      of_kind (Dir layout) e = absurd (no_dir layout e)
      of_kind (File length truncs layout hint) e = refl
      of_kind (Link target) e = refl
