-- The tests decide whether typed rows are well formed.
use Rattle.std.proofs.Common.{◌≡◌, ◌≢◌, ℕ, zero, suc, ◌<◌, ◌≤◌, ◌/◌, ◌%◌, ◌^◌, ◌==◌, Bool, true, false, not, ◌&&◌, ◌||◌, List, [], ◌∷◌, length, refl, ap, ◌∙◌, inl, inr, arith, eqb-true, eq-eqb, is_some}
use Rattle.std.specs.Prelude.{Option, Some, None}
use Rattle.std.specs.FinMap.{get, len}
use Rattle.fs_base.specs.Config.{Settings, admits}
use Rattle.fs_base.specs.declared.kind.Kind.{Kind}
use Rattle.fs_base.specs.declared.kind.Kind.TheVariants as kinds
use Rattle.fs_base.specs.declared.layout.DefaultLayout.{DefaultLayout}
use Rattle.fs_base.specs.declared.layout.Layout.{Layout}
use Rattle.inode_record.specs.declared.inode.InodePart.{InodePart}
use Rattle.inode_record.specs.declared.inode.InodePart.TheVariants as parts
use Rattle.inode_record.specs.declared.inode.InodeRow.{InodeRow}
use Rattle.row_records.specs.declared.rows.DentRow.{DentRow}
use Rattle.row_records.specs.declared.rows.GcRow.{GcRow}
use Rattle.row_records.specs.declared.rows.GcRow.TheVariants.{Waiting, Purged}
use Rattle.tree_model.specs.Tree.{next_at}
use Rattle.tree_model.proofs.MapLaws.{ids, names, holders}
use Rattle.row_tree.specs.TypedRows.{TypedRows, kind_of, parent_at, entries_to}
use Rattle.row_tree.specs.WellFormed.{HasKind, IsIdGiven, IsPath, IsEntry, IsLinked, IsRootRow, IsFileLayout, FitsConfig, IsDoomed, IsWellFormed}
use Rattle.row_tree.specs.Deciding.{some_passes, is_kind, has_kind, is_given, names_root, is_root_row, root_test, is_waiting, counts_fit, is_linked, linked_test, is_file_layout, is_used, fits_config, fits_test, goes_up, climbs, leads_test, is_entry, entry_test, is_unlinked_file, is_doomed, doomed_test, session_test, number_test, numbers_test, rows_test}
use Rattle.row_tree.proofs.Decides.{IsTest, decides_eq, decides_le, decides_lt, decides_true, decides_and, decides_not, decides_then, decides_unless, decides_as, decides_some, decides_each}
use Rattle.row_tree.proofs.Ways.{IsWay, or_true, way_of_path, way_short}

kind_decided : (a b : Kind) → IsTest (is_kind a b) (a ≡ b)
kind_decided kinds.Dir kinds.Dir = record { holds = λ h. refl; pass = λ e. refl }
kind_decided kinds.File kinds.File = record { holds = λ h. refl; pass = λ e. refl }
kind_decided kinds.Link kinds.Link = record { holds = λ h. refl; pass = λ e. refl }
kind_decided kinds.Dir kinds.File = record { holds = λ h. cc; pass = λ e. cc }
kind_decided kinds.Dir kinds.Link = record { holds = λ h. cc; pass = λ e. cc }
kind_decided kinds.File kinds.Dir = record { holds = λ h. cc; pass = λ e. cc }
kind_decided kinds.File kinds.Link = record { holds = λ h. cc; pass = λ e. cc }
kind_decided kinds.Link kinds.Dir = record { holds = λ h. cc; pass = λ e. cc }
kind_decided kinds.Link kinds.File = record { holds = λ h. cc; pass = λ e. cc }

pub has_kind_decided : (S : TypedRows) (id : ℕ) (kind : Kind) → IsTest (has_kind S id kind) (HasKind S id kind)
has_kind_decided S id kind = decides_some (λ row. is_kind (kind_of row.part) kind) (get S.inodes id) (λ row. kind_decided (kind_of row.part) kind)

pub given_decided : (S : TypedRows) (id : ℕ) → IsTest (is_given S id) (IsIdGiven S id)
given_decided S id = decides_and _ _ (decides_le 1 (id / 16)) (decides_lt (id / 16) (next_at S.next (id % 16)))

-- ---- the root

names_root_decided : (part : InodePart) → IsTest (names_root part) ((chunk : ℕ) × (stripe : ℕ) × (part ≡ parts.Dir 0 chunk stripe))
names_root_decided (parts.Dir parent chunk stripe) =
    record {
      holds = λ h. (chunk, stripe, ap (λ (p : ℕ). parts.Dir p chunk stripe) (eqb-true parent 0 h));
      pass = λ at. let e : parts.Dir parent chunk stripe ≡ parts.Dir 0 at.0 at.1 = at.2 in eq-eqb parent 0 cc;
    }
names_root_decided (parts.File length truncs layout hint) = record { holds = λ h. cc; pass = λ at. let e : parts.File length truncs layout hint ≡ parts.Dir 0 at.0 at.1 = at.2 in cc }
names_root_decided (parts.Link target) = record { holds = λ h. cc; pass = λ at. let e : parts.Link target ≡ parts.Dir 0 at.0 at.1 = at.2 in cc }

root_row_decided : (row : InodeRow) → IsTest (is_root_row row) (IsRootRow row)
root_row_decided row =
    decides_as (decides_and _ _ (names_root_decided row.part) (decides_eq row.links 1))
    (λ h. record { parent = h.0; links = h.1 }) (λ r. (r.parent, r.links))

pub root_decided : (S : TypedRows) → IsTest (root_test S) ((row : InodeRow) × (get S.inodes 0 ≡ Some row) × IsRootRow row)
root_decided S = decides_some is_root_row (get S.inodes 0) root_row_decided

-- ---- link counts

waiting_decided : (g : GcRow) → IsTest (is_waiting g) (g ≡ Waiting)
waiting_decided Waiting = record { holds = λ h. refl; pass = λ e. refl }
waiting_decided (Purged layout hint) = record { holds = λ h. cc; pass = λ e. cc }

-- what a kind asks of its count
record CountFits (S : TypedRows) (id : ℕ) (kind : Kind) (links : ℕ) : Type 0 where
  pub dir : kind ≡ kinds.Dir → links ≡ 1
  pub link : kind ≡ kinds.Link → 1 ≤ links
  pub file : kind ≡ kinds.File → links ≡ 0 → get S.doomed id ≡ Some Waiting

doomed_waiting : (S : TypedRows) (id : ℕ) → IsTest (some_passes is_waiting (get S.doomed id)) (get S.doomed id ≡ Some Waiting)
doomed_waiting S id =
    decides_as (decides_some is_waiting (get S.doomed id) waiting_decided)
    (λ at. at.1 ∙ ap (λ (g : GcRow). Some g) at.2) (λ e. (Waiting, e, refl))

count_fits_decided : (S : TypedRows) (id : ℕ) (kind : Kind) (links : ℕ) → IsTest (counts_fit S id kind links) (CountFits S id kind links)
count_fits_decided S id kinds.Dir links =
    decides_as (decides_eq links 1) (λ h. record { dir = λ e. h; link = λ e. cc; file = λ e z. cc }) (λ c. c.dir refl)
count_fits_decided S id kinds.Link links =
    decides_as (decides_le 1 links) (λ h. record { dir = λ e. cc; link = λ e. h; file = λ e z. cc }) (λ c. c.link refl)
count_fits_decided S id kinds.File links =
    decides_as (decides_then (links == 0) (some_passes is_waiting (get S.doomed id)) (decides_eq links 0) (doomed_waiting S id))
    (λ h. record { dir = λ e. cc; link = λ e. cc; file = λ e z. h z }) (λ c z. c.file refl z)

linked_row_decided : (S : TypedRows) (id : ℕ) (row : InodeRow) → IsTest (is_linked S id row) (IsLinked S id row)
linked_row_decided S id row =
    decides_as (decides_and _ _ (given_decided S id) (decides_and _ _ (decides_eq row.links (entries_to S id)) (count_fits_decided S id (kind_of row.part) row.links)))
    (λ h. record { given = h.0; count = h.1.0; dir = h.1.1.dir; link = h.1.1.link; file = h.1.1.file })
    (λ l. (l.given, (l.count, record { dir = l.dir; link = l.link; file = l.file })))

pub linked_decided : (S : TypedRows) → IsTest (linked_test S) ((id : ℕ) (row : InodeRow) → get S.inodes id ≡ Some row → id ≢ 0 → IsLinked S id row)
linked_decided S = decides_each ids (λ id row. (id == 0) || is_linked S id row) S.inodes (λ id row is. decides_unless (id == 0) (is_linked S id row) (decides_eq id 0) (linked_row_decided S id row))

-- ---- layouts

layout_decided : (C : Settings) (id : ℕ) (layout : Layout) → IsTest (is_file_layout C id layout) (IsFileLayout C id layout)
layout_decided C id layout =
    let given : DefaultLayout = record { chunk = layout.chunk; stripe = layout.stripe } in
    decides_as (decides_and (admits C given) _ (decides_true (admits C given)) (decides_and _ _ (decides_eq layout.start (id % C.chains)) (decides_eq layout.mix id)))
    (λ h. (h.0, λ i. record { chunk = layout.chunk; stripe = layout.stripe; start = h.1.0 i; mix = h.1.1 i }))
    (λ h. (h.0, (ap (λ (l : Layout). l.start) h.1, ap (λ (l : Layout). l.mix) h.1)))

used_decided : (C : Settings) (id : ℕ) (layout : Layout) (hint : ℕ) → IsTest (is_used C id layout hint) (IsFileLayout C id layout × (1 ≤ hint) × (hint ≤ layout.stripe))
used_decided C id layout hint =
    decides_as (decides_and _ _ (layout_decided C id layout) (decides_and _ _ (decides_le 1 hint) (decides_le hint layout.stripe)))
    (λ h. (h.0, h.1.0, h.1.1)) (λ h. (h.0, (h.1, h.2)))

fits_part_decided : (C : Settings) (id : ℕ) (part : InodePart) → IsTest (fits_config C id part) (FitsConfig C id part)
fits_part_decided C id (parts.Dir parent chunk stripe) = decides_true (admits C (record { chunk = chunk; stripe = stripe }))
fits_part_decided C id (parts.File length truncs layout hint) = used_decided C id layout hint
fits_part_decided C id (parts.Link target) = record { holds = λ h. tt; pass = λ t. refl }

pub fits_decided : (C : Settings) (S : TypedRows) → IsTest (fits_test C S) ((id : ℕ) (row : InodeRow) → get S.inodes id ≡ Some row → FitsConfig C id row.part)
fits_decided C S = decides_each ids (λ id row. fits_config C id row.part) S.inodes (λ id row is. fits_part_decided C id row.part)

-- ---- the way to the root

path_of_climb : (S : TypedRows) (n i : ℕ) → climbs S n i ≡ true → (path : List ℕ) × IsPath S i path
path_of_climb S zero i h = ([], eqb-true i 0 h)
path_of_climb S (suc n) i h = elim (or_true (i == 0) (goes_up (climbs S n) (parent_at S i)) h) [
  | inl z ↦ ([], eqb-true i 0 z)
  | inr up ↦ through (parent_at S i) refl up (path_of_climb S n)
]
  where
    through : (o : Option ℕ) → parent_at S i ≡ o → goes_up (climbs S n) o ≡ true → ((p : ℕ) → climbs S n p ≡ true → (path : List ℕ) × IsPath S p path) → (path : List ℕ) × IsPath S i path
    through None e h go = cc
    through (Some p) e h go = let rest = go p h in (p ∷ rest.0, (e, rest.1))

or_right : (a b : Bool) → b ≡ true → (a || b) ≡ true
or_right true b h = refl
or_right false b h = h

climb_of_way : (S : TypedRows) (n i : ℕ) (way : List ℕ) → IsWay S i way → length way ≤ n → climbs S n i ≡ true
climb_of_way S zero i [] w few = eq-eqb i 0 w
climb_of_way S zero i (v ∷ vs) w few = absurd (omega arith)
climb_of_way S (suc n) i [] w few = ap (λ b. b || goes_up (climbs S n) (parent_at S i)) (eq-eqb i 0 w)
climb_of_way S (suc n) i (v ∷ vs) w few =
    or_right (i == 0) (goes_up (climbs S n) (parent_at S i))
    (ap (λ (x : ℕ). goes_up (climbs S n) (parent_at S x)) w.0 ∙ ap (goes_up (climbs S n)) w.3 ∙ climb_of_way S n w.2 vs w.4 (omega arith))

-- a climb that takes a step for each row finds the root wherever a path does
climbs_decided : (S : TypedRows) (id : ℕ) → IsTest (climbs S (len S.inodes) id) ((path : List ℕ) × IsPath S id path)
climbs_decided S id =
    record {
      holds = path_of_climb S (len S.inodes) id;
      pass = λ up. let way = way_of_path S id up.0 up.1 in climb_of_way S (len S.inodes) id way.0 way.1 (way_short S id way.0 way.1);
    }

pub leads_decided : (S : TypedRows) → IsTest (leads_test S) ((id : ℕ) → HasKind S id kinds.Dir → (path : List ℕ) × IsPath S id path)
leads_decided S =
    decides_as (decides_each ids (λ id row. not (is_kind (kind_of row.part) kinds.Dir) || climbs S (len S.inodes) id) S.inodes (λ id row is. decides_then (is_kind (kind_of row.part) kinds.Dir) (climbs S (len S.inodes) id) (kind_decided (kind_of row.part) kinds.Dir) (climbs_decided S id)))
    (λ h id has. h id has.0 has.1 has.2) (λ h id row is dir. h id (row, is, dir))

-- ---- entries, doomed inodes, sessions and next numbers

parent_decided : (S : TypedRows) (id dir : ℕ) → IsTest (some_passes (λ parent. parent == dir) (parent_at S id)) (parent_at S id ≡ Some dir)
parent_decided S id dir =
    decides_as (decides_some (λ parent. parent == dir) (parent_at S id) (λ parent. decides_eq parent dir))
    (λ at. at.1 ∙ ap (λ (x : ℕ). Some x) at.2) (λ e. (dir, e, refl))

entry_row_decided : (S : TypedRows) (dir : ℕ) (e : DentRow) → IsTest (is_entry S dir e) (IsEntry S dir e)
entry_row_decided S dir e =
    decides_as
    (decides_and _ _ (has_kind_decided S dir kinds.Dir) (decides_and _ _ (has_kind_decided S e.inode e.kind) (decides_and _ _ (decides_not (e.inode == 0) (decides_eq e.inode 0)) (decides_then (is_kind e.kind kinds.Dir) (some_passes (λ parent. parent == dir) (parent_at S e.inode)) (kind_decided e.kind kinds.Dir) (parent_decided S e.inode dir)))))
    (λ h. record { parent = h.0; target = h.1.0; not_root = h.1.1.0; inside = h.1.1.1 })
    (λ h. (h.parent, (h.target, (h.not_root, h.inside))))

pub entry_decided : (S : TypedRows) → IsTest (entry_test S) ((dir : ℕ) (name : List ℕ) (e : DentRow) → get S.dents (dir, name) ≡ Some e → IsEntry S dir e)
entry_decided S =
    decides_as (decides_each names (λ (key : ℕ × List ℕ) e. is_entry S key.0 e) S.dents (λ key e is. entry_row_decided S key.0 e))
    (λ h dir name e is. h (dir, name) e is) (λ h key e is. h key.0 key.1 e is)

unlinked_decided : (row : InodeRow) → IsTest (is_unlinked_file row) ((kind_of row.part ≡ kinds.File) × (row.links ≡ 0))
unlinked_decided row = decides_and _ _ (kind_decided (kind_of row.part) kinds.File) (decides_eq row.links 0)

none_decided : {X : Type 0} (o : Option X) → IsTest (not (is_some o)) (o ≡ None)
none_decided None = record { holds = λ h. refl; pass = λ e. refl }
none_decided (Some x) = record { holds = λ h. cc; pass = λ e. cc }

doomed_row_decided : (C : Settings) (S : TypedRows) (id : ℕ) (g : GcRow) → IsTest (is_doomed C S id g) (IsDoomed C S id g)
doomed_row_decided C S id Waiting =
    decides_as (decides_some is_unlinked_file (get S.inodes id) unlinked_decided)
    (λ h. (h.0, h.1, h.2.0, h.2.1)) (λ h. (h.0, h.1, (h.2, h.3)))
doomed_row_decided C S id (Purged layout hint) =
    decides_as (decides_and _ _ (none_decided (get S.inodes id)) (used_decided C id layout hint))
    (λ h. (h.0, h.1.0, h.1.1, h.1.2)) (λ h. (h.0, (h.1, h.2, h.3)))

pub doomed_decided : (C : Settings) (S : TypedRows) → IsTest (doomed_test C S) ((id : ℕ) (g : GcRow) → get S.doomed id ≡ Some g → IsDoomed C S id g × IsIdGiven S id)
doomed_decided C S = decides_each ids (λ id row. is_doomed C S id row && is_given S id) S.doomed (λ id g is. decides_and _ _ (doomed_row_decided C S id g) (given_decided S id))

pub session_decided : (S : TypedRows) → IsTest (session_test S) ((inode client number stamp : ℕ) → get S.sessions (inode, (client, number)) ≡ Some stamp → HasKind S inode kinds.File)
session_decided S =
    decides_as (decides_each holders (λ (key : ℕ × (ℕ × ℕ)) (stamp : ℕ). has_kind S key.0 kinds.File) S.sessions (λ key stamp is. has_kind_decided S key.0 kinds.File))
    (λ h inode client number stamp is. h (inode, (client, number)) stamp is) (λ h key stamp is. h key.0 key.1.0 key.1.1 stamp is)

pub numbers_decided : (S : TypedRows) → IsTest (numbers_test S) ((server next : ℕ) → get S.next server ≡ Some next → (1 ≤ next) × (next < 2 ^ 32) × (server < 16))
numbers_decided S = decides_each ids number_test S.next (λ server next is.
    decides_as (decides_and _ _ (decides_le 1 next) (decides_and _ _ (decides_lt next 4294967296) (decides_lt server 16)))
    (λ h. (h.0, h.1.0, h.1.1)) (λ h. (h.0, (h.1, h.2))))

-- ---- all of it

pub rows_decided : (C : Settings) (S : TypedRows) → IsTest (rows_test C S) (IsWellFormed C S)
rows_decided C S =
    decides_as
    (decides_and _ _ (root_decided S) (decides_and _ _ (linked_decided S) (decides_and _ _ (fits_decided C S) (decides_and _ _ (leads_decided S) (decides_and _ _ (entry_decided S) (decides_and _ _ (doomed_decided C S) (decides_and _ _ (session_decided S) (numbers_decided S))))))))
    (λ h. record { root = h.0; linked = h.1.0; fits = h.1.1.0; leads = h.1.1.1.0; entry = h.1.1.1.1.0; doomed = h.1.1.1.1.1.0; session = h.1.1.1.1.1.1.0; numbers = h.1.1.1.1.1.1.1 })
    (λ w. (w.root, (w.linked, (w.fits, (w.leads, (w.entry, (w.doomed, (w.session, w.numbers))))))))
