-- Areas one after another: what was read of them, and which ask is the next.
use Rattle.std.proofs.Common.{◌≡◌, ℕ, List, [], ◌∷◌, ◌++◌, map, refl, sym, ap, subst, ◌∙◌, inl, inr}
use Rattle.std.specs.Prelude.{Option, Some, None, IsTrue}
use Rattle.std.specs.FinMap.{get}
use Rattle.path_walk.specs.Footprint.{in_dir, in_part}
use Rattle.std.specs.Ordering.{is_le}
use Rattle.conflict_sets.specs.Keys.{key_cmp}
use Rattle.conflict_sets.specs.declared.sets.RangeRead.{RangeRead}
use Rattle.conflict_sets.specs.declared.sets.ReadSet.{ReadSet}
use Rattle.fs_base.specs.declared.kind.Kind.TheVariants as kinds
use Rattle.inode_record.specs.declared.inode.InodePart.{InodePart}
use Rattle.inode_record.specs.declared.inode.InodePart.TheVariants as parts
use Rattle.inode_record.specs.declared.inode.InodeRow.{InodeRow}
use Rattle.row_tree.specs.TreeOf.{tree_of, node_part}
use Rattle.row_tree.specs.TypedRows.{TypedRows, kind_of}
use Rattle.row_tree.specs.WellFormed.{HasKind}
use Rattle.row_tree.proofs.Telling.{node_is}
use Rattle.tree_model.specs.declared.node.Node.{Node}
use Rattle.tree_model.specs.declared.walk.Walked.{Walked}
use Rattle.tree_model.specs.Walk.{Visit, Trip}
use Rattle.txn_task.specs.Pages.{next_page}
use Rattle.txn_task.specs.Transactions.{noted}
use Rattle.txn_task.specs.declared.messages.Answer.{Answer}
use Rattle.txn_task.specs.declared.messages.Answer.TheVariants as answers
use Rattle.txn_task.specs.declared.messages.Ask.{Ask}
use Rattle.txn_task.specs.declared.messages.Ask.TheVariants as asks
use Rattle.txn_task.proofs.MoreLaws.{key_more, first_more, pages_more, pages_done}
use Rattle.txn_task.proofs.PageRows.{page_inside, key_from}
use Rattle.path_walk.specs.Areas.{Area, OneKey, FirstRow, Pages, IsRead, AreRead, IsAskOf, IsNextOf, Reaches, visited, trip_areas}
use Rattle.path_walk.specs.Walks.{after_visits, AreVisitsRead}

-- ---- one after another

pub read_both : (reads : ReadSet) (xs ys : List Area) → AreRead reads xs → AreRead reads ys → AreRead reads (xs ++ ys)
read_both reads [] ys first second = second
read_both reads (x ∷ xs) ys first second = (first.0, read_both reads xs ys first.1 second)

pub next_behind : (reads : ReadSet) (seen areas : List Area) (ask : Ask) → AreRead reads seen → IsNextOf reads areas ask → IsNextOf reads (seen ++ areas) ask
next_behind reads [] areas ask read next = next
next_behind reads (area ∷ seen) areas ask read next = inr (read.0, next_behind reads seen areas ask read.1 next)

pub append_twice : (xs ys zs : List Area) → (xs ++ ys) ++ zs ≡ xs ++ (ys ++ zs)
append_twice [] ys zs = refl
append_twice (x ∷ xs) ys zs = ap (λ (l : List Area). x ∷ l) (append_twice xs ys zs)

-- ---- walks

pub seen_read : (reads : ReadSet) (visits : List Visit) → AreVisitsRead reads visits → AreRead reads (map visited visits)
seen_read reads [] seen = tt
seen_read reads (visit ∷ visits) seen = (seen.0, seen_read reads visits seen.1)

pub areas_after : (at : Walked → List Area) (visits : List Visit) (trip : Trip) → trip_areas (after_visits visits trip) at ≡ map visited visits ++ trip_areas trip at
areas_after at [] trip = refl
areas_after at (visit ∷ visits) trip = ap (λ (l : List Area). visited visit ∷ l) (areas_after at visits trip)

-- ---- what was read stays read

module _ (reads : ReadSet) where
  read_more : (ask : Ask) (answer : Answer) (area : Area) → IsRead reads area → IsRead (noted reads ask answer) area
  read_more (asks.Get key) (answers.Got got) (OneKey one) h = (h.0, key_more reads.keys _ _ h.0 h.1)
  read_more (asks.Get key) (answers.Got got) (FirstRow lo hi) h = h
  read_more (asks.Get key) (answers.Got got) (Pages lo hi) h = h
  read_more (asks.Range from to limit) (answers.Rows rows) (OneKey one) h = h
  read_more (asks.Range from to limit) (answers.Rows rows) (FirstRow lo hi) h = (h.0, first_more lo hi reads.ranges _ h.0 h.1)
  read_more (asks.Range from to limit) (answers.Rows rows) (Pages lo hi) h =
      let more : List RangeRead = record { lo = from; hi = to; limit = limit; rows = rows } ∷ [] in
      pages_more hi (Some lo) reads.ranges more ∙ (ap (λ start. next_page hi start more) h ∙ pages_done hi more)
  read_more ask answer area h = h

  pub are_read_more : (ask : Ask) (answer : Answer) (areas : List Area) → AreRead reads areas → AreRead (noted reads ask answer) areas
  are_read_more ask answer [] h = tt
  are_read_more ask answer (area ∷ areas) h = (read_more ask answer area h.0, are_read_more ask answer areas h.1)

-- ---- what is asked lies in the areas

reaches_later : (area : Area) (areas : List Area) (ask : Ask) → Reaches areas ask → Reaches (area ∷ areas) ask
reaches_later area areas (asks.Get key) h = inr h
reaches_later area areas (asks.Range from to limit) h = (h.0, h.1, elim h.2 [ inl first ↦ inl (inr first) | inr pages ↦ inr (inr pages) ], h.3)
reaches_later area areas ask h = tt

asks_reach : (reads : ReadSet) (area : Area) (areas : List Area) (ask : Ask) → IsAskOf reads area ask → Reaches (area ∷ areas) ask
asks_reach reads (OneKey key) areas (asks.Get other) h = inl (ap OneKey h.0)
asks_reach reads (FirstRow lo hi) areas (asks.Range from to limit) h = (lo, hi, inl (inl refl), (subst (λ x. IsTrue (is_le (key_cmp lo x))) (sym h.0) (key_from lo), h.1))
asks_reach reads (Pages lo hi) areas (asks.Range from to limit) h = (lo, hi, inr (inl refl), (page_inside hi lo from reads.ranges h.2, h.0))
asks_reach reads area areas ask h = absurd h

pub next_reaches : (reads : ReadSet) (areas : List Area) (ask : Ask) → IsNextOf reads areas ask → Reaches areas ask
next_reaches reads [] ask h = absurd h
next_reaches reads (area ∷ areas) ask (inl here) = asks_reach reads area areas ask here
next_reaches reads (area ∷ areas) ask (inr later) = reaches_later area areas ask (next_reaches reads areas ask later.1)

-- ---- in a directory

-- what is no directory has nothing in it that is read
pub no_areas : (S : TypedRows) (dir : ℕ) (areas : List Area) → (HasKind S dir kinds.Dir → ⊥) → in_dir (get (tree_of S).nodes dir) areas ≡ []
no_areas S dir areas not_dir = by (get S.inodes dir) refl
  where
    by_part : (row : InodeRow) → get S.inodes dir ≡ Some row → (part : InodePart) → row.part ≡ part → in_part (node_part part) areas ≡ []
    by_part row at (parts.Dir parent chunk stripe) is = absurd (not_dir (row, at, ap kind_of is))
    by_part row at (parts.File length truncs layout hint) is = refl
    by_part row at (parts.Link target) is = refl

    by : (o : Option InodeRow) → get S.inodes dir ≡ o → in_dir (get (tree_of S).nodes dir) areas ≡ []
    by None at = ap (λ (n : Option Node). in_dir n areas) (node_is S dir None at)
    by (Some row) at = ap (λ (n : Option Node). in_dir n areas) (node_is S dir (Some row) at) ∙ by_part row at row.part refl
