-- The trees of a journal's versions are steps, one after another.
use Rattle.std.proofs.Common.{◌≡◌, ◌⊎◌, inl, inr, ℕ, zero, suc, ◌<◌, ◌≤◌, Bool, true, false, cond, List, [], ◌∷◌, ◌++◌, take, length, Option, Some, None, refl, sym, ap, subst, ◌∙◌, arith}
use Rattle.std.specs.Prelude.{nat_lt, ◌==◌, unwrap_or}
use Rattle.std.specs.FinMap.{get, empty, get-empty}
use Rattle.std.specs.Ordering.{nat_cmp}
use Rattle.std.proofs.lemmas.List.{take-append-le}
use Rattle.fs_base.specs.Config.{Settings}
use Rattle.fs_base.specs.declared.call.Request.{Request}
use Rattle.fs_base.specs.declared.code.Code.TheVariants as codes
use Rattle.fs_base.specs.declared.reply.Reply.{Reply}
use Rattle.fs_base.specs.declared.reply.Reply.TheVariants.{Refused, Settled}
use Rattle.tree_model.specs.declared.kept.KeptReply.{KeptReply}
use Rattle.tree_model.specs.declared.node.Node.{Node}
use Rattle.tree_model.specs.declared.node.NodePart.{NodePart}
use Rattle.tree_model.specs.declared.node.NodePart.TheVariants.{Dir, File, Link}
use Rattle.tree_model.specs.Calls.{apply, effect, is_query, keeps, settle, after_kept}
use Rattle.tree_model.specs.Effects.{Effect, Leaves, Makes, Settles, at_length, settled_by}
use Rattle.tree_model.specs.Tree.{Tree, new_tree, next_at, root_of}
use Rattle.tree_model.proofs.MapLaws.{ids, get-set_cases}
use Rattle.txn_task.specs.declared.messages.Entry.{Entry}
use Rattle.histories.specs.Journal.{EntryAt, AreReplies, applied, tree_after, tree_at}
use Rattle.histories.specs.Steps.{PartLasts, NodeLasts, IsTreeStep, IsLawfulEffect}
use Rattle.histories.proofs.Trees.{AllUsed}

-- ---- longer journals

pub tree_at-longer : (C : Settings) (es more : List Entry) (n : ℕ) → n ≤ length es → tree_at C (es ++ more) n ≡ tree_at C es n
tree_at-longer C es more n l = ap (tree_after C (new_tree C)) (take-append-le n es more l)

-- ---- one call

pub part_same : (part : NodePart) → PartLasts part part
part_same (Dir layout) = tt
part_same (File length truncs layout hint) = (refl, omega arith)
part_same (Link target) = tt

pub node_same : (o : Option Node) → NodeLasts o o
node_same None = tt
node_same (Some node) = part_same node.part

pub step_same : (T : Tree) → IsTreeStep T T
step_same T = record { next = λ server. omega arith; nodes = λ id. inl (node_same (get T.nodes id)); purged = λ id layout hint is. inl is }

-- a kept reply beside
pub step_kept : (T V : Tree) (q : Request) (reply : Reply) → IsTreeStep T V → IsTreeStep T (keeps V q reply)
step_kept T V q reply s =
    record {
      next = s.next;
      nodes = λ id. elim (s.nodes id) [
        | inl lasts ↦ inl lasts
        | inr given ↦ inr (record { server = given.server; known = given.known; is = given.is; rises = given.rises })
      ];
      purged = s.purged;
    }

settle_step : (C : Settings) (T : Tree) (q : Request) (settled : ℕ) → IsLawfulEffect C → q.server < C.servers → (f : Effect) → effect C T q ≡ f → IsTreeStep T (settle T q settled f).0
settle_step C T q settled lawful known (Leaves reply) is = step_same T
settle_step C T q settled lawful known (Makes V reply) is = step_kept T V q reply ((lawful T V q reply known (ap (at_length (settled_by reply)) is)).step)
settle_step C T q settled lawful known (Settles V) is = step_kept T (V settled) q (Settled settled) ((lawful T (V settled) q (Settled settled) known (ap (at_length settled) is)).step)

pub apply_step : (C : Settings) (T : Tree) (q : Request) (settled : ℕ) → IsLawfulEffect C → q.server < C.servers → IsTreeStep T (apply C T q settled).0
unfolding apply
apply_step C T q settled lawful known = by_query (is_query q.call)
  where
    anew : IsTreeStep T (settle T q settled (effect C T q)).0
    anew = settle_step C T q settled lawful known (effect C T q) refl

    by_less : (b : Bool) (kept : KeptReply) → IsTreeStep T (cond b (T, Refused (codes.Stale kept.number)) (settle T q settled (effect C T q))).0
    by_less true kept = step_same T
    by_less false kept = anew

    by_same : (b : Bool) (kept : KeptReply) → IsTreeStep T (cond b (T, kept.reply) (cond (nat_lt q.number kept.number) (T, Refused (codes.Stale kept.number)) (settle T q settled (effect C T q)))).0
    by_same true kept = step_same T
    by_same false kept = by_less (nat_lt q.number kept.number) kept

    by_kept : (o : Option KeptReply) → IsTreeStep T (after_kept C T q settled o).0
    by_kept None = anew
    by_kept (Some kept) = by_same (kept.number == q.number) kept

    by_query : (b : Bool) → IsTreeStep T (cond b (settle T q settled (effect C T q)) (after_kept C T q settled (get T.kept q.client.0))).0
    by_query true = anew
    by_query false = by_kept (get T.kept q.client.0)

-- ---- along the journal

-- the tree one entry further
pub tree_next : (C : Settings) (T : Tree) (es : List Entry) (n : ℕ) (e : Entry) → EntryAt es n e → tree_after C T (take (suc n) es) ≡ (applied C (tree_after C T (take n es)) e).0
tree_next C T [] n e at = absurd (let k : None ≡ Some e = at in cc)
tree_next C T (x ∷ es) zero e at =
    let same : x ≡ e = (let k : Some x ≡ Some e = at in cc) in
    ap (λ (y : Entry). (applied C T y).0) same
tree_next C T (x ∷ es) (suc n) e at = tree_next C (applied C T x).0 es n e at

-- a reply is the tree's at its place
pub reply_at : (C : Settings) (T : Tree) (es : List Entry) → AreReplies C T es → (n : ℕ) (e : Entry) → EntryAt es n e → (applied C (tree_after C T (take n es)) e).1 ≡ e.reply
reply_at C T [] replies n e at = absurd (let k : None ≡ Some e = at in cc)
reply_at C T (x ∷ es) replies zero e at =
    let same : x ≡ e = (let k : Some x ≡ Some e = at in cc) in
    subst (λ (y : Entry). (applied C T y).1 ≡ y.reply) same replies.0
reply_at C T (x ∷ es) replies (suc n) e at = reply_at C (applied C T x).0 es replies.1 n e at

-- each place has an entry, or adds nothing
pub place_or_end : (es : List Entry) (n : ℕ) → ((e : Entry) × EntryAt es n e) ⊎ (take (suc n) es ≡ take n es)
place_or_end [] zero = inr refl
place_or_end [] (suc n) = inr refl
place_or_end (x ∷ es) zero = inl (x, refl)
place_or_end (x ∷ es) (suc n) = elim (place_or_end es n) [ inl here ↦ inl here | inr over ↦ inr (ap (λ (xs : List Entry). x ∷ xs) over) ]

abbrev pub AreKnown : Settings → List Entry → Type 0
AreKnown C journal = (place : ℕ) (e : Entry) → EntryAt journal place e → e.request.server < C.servers

pub steps : (C : Settings) (journal : List Entry) → IsLawfulEffect C → AreKnown C journal → (n : ℕ) → IsTreeStep (tree_at C journal n) (tree_at C journal (suc n))
steps C journal lawful known n = elim (place_or_end journal n) [
  | inl here ↦ subst (IsTreeStep (tree_at C journal n)) (sym (tree_next C (new_tree C) journal n here.0 here.1)) (apply_step C (tree_at C journal n) here.0.request (settled_by here.0.reply) lawful (known n here.0 here.1))
  | inr over ↦ subst (IsTreeStep (tree_at C journal n)) (sym (ap (tree_after C (new_tree C)) over)) (step_same (tree_at C journal n))
]

-- ---- the first tree

first_number : (C : Settings) → next_at (new_tree C).next 0 ≡ 1
first_number C = ap (λ (o : Option ℕ). unwrap_or o 1) (get-empty nat_cmp 0)

pub first_used : (C : Settings) → AllUsed (new_tree C)
first_used C id node is = elim (get-set_cases ids empty 0 (Some (root_of C)) id (Some node) is) [
  | inl root ↦
      record {
        number = 0;
        server = 0;
        known = omega arith;
        is = root.0;
        below = omega (arith, first_number C);
      }
  | inr other ↦ absurd (let k : None ≡ Some node = sym (get-empty nat_cmp id) ∙ other.1 in cc)
]

pub none_doomed : (C : Settings) (id : ℕ) → get (new_tree C).doomed id ≡ None
none_doomed C id = get-empty nat_cmp id
