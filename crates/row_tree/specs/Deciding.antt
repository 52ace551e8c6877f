-- Tests that compute whether typed rows are well formed, a test for each clause.
use Rattle.std.specs.Prelude.{◌≡◌, ℕ, zero, suc, ◌/◌, ◌%◌, ◌==◌, nat_le, nat_lt, ◌&&◌, ◌||◌, Bool, true, false, not, List, Option, Some, None, is_some, unwrap_or}
use Rattle.std.specs.FinMap.{FinMap, get, len}
use Rattle.std.specs.Ordering.{nat_cmp}
use Rattle.fs_base.specs.Config.{Settings, admits}
use Rattle.fs_base.specs.declared.kind.Kind.{Kind}
use Rattle.fs_base.specs.declared.kind.Kind.TheVariants as kinds
use Rattle.fs_base.specs.declared.layout.Layout.{Layout}
use Rattle.fs_base.specs.declared.limits.TheConstants.{SERVERS}
use Rattle.inode_record.specs.declared.inode.InodePart.{InodePart}
use Rattle.inode_record.specs.declared.inode.InodePart.TheVariants as parts
use Rattle.inode_record.specs.declared.inode.InodeRow.{InodeRow}
use Rattle.row_records.specs.declared.rows.DentRow.{DentRow}
use Rattle.row_records.specs.declared.rows.GcRow.{GcRow}
use Rattle.row_records.specs.declared.rows.GcRow.TheVariants.{Waiting, Purged}
use Rattle.tree_model.specs.Maps.{all_pass}
use Rattle.tree_model.specs.Tree.{next_at}
use Rattle.row_tree.specs.TypedRows.{TypedRows, kind_of, parent_at, entries_to}

-- there is a value, and it passes the test
abbrev pub some_passes : {X : Type 0} → (X → Bool) → Option X → Bool
some_passes p None = false
some_passes p (Some x) = p x

abbrev pub is_kind : Kind → Kind → Bool
is_kind kinds.Dir kinds.Dir = true
is_kind kinds.File kinds.File = true
is_kind kinds.Link kinds.Link = true
is_kind _ _ = false

abbrev pub has_kind : TypedRows → ℕ → Kind → Bool
has_kind S id kind = some_passes (λ row. is_kind (kind_of row.part) kind) (get S.inodes id)

abbrev pub is_given : TypedRows → ℕ → Bool
is_given S id = nat_le 1 (id / 16) && nat_lt (id / 16) (next_at S.next (id % 16))

-- ---- the root

abbrev pub names_root : InodePart → Bool
names_root (parts.Dir parent chunk stripe) = parent == 0
names_root (parts.File length truncs layout hint) = false
names_root (parts.Link target) = false

abbrev pub is_root_row : InodeRow → Bool
is_root_row row = names_root row.part && (row.links == 1)

abbrev pub root_test : TypedRows → Bool
root_test S = some_passes is_root_row (get S.inodes 0)

-- ---- link counts

abbrev pub is_waiting : GcRow → Bool
is_waiting Waiting = true
is_waiting (Purged layout hint) = false

-- the counts that a kind may have; a file without entries has to be doomed
abbrev pub counts_fit : TypedRows → ℕ → Kind → ℕ → Bool
counts_fit S id kinds.Dir links = links == 1
counts_fit S id kinds.Link links = nat_le 1 links
counts_fit S id kinds.File links = not (links == 0) || some_passes is_waiting (get S.doomed id)

-- a map of counts has the number of entries to each id, 0 where it has none
abbrev pub AreCounts : TypedRows → FinMap nat_cmp ℕ → Type 0
AreCounts S counts = (id : ℕ) → unwrap_or (get counts id) 0 ≡ entries_to S id

abbrev pub is_linked : TypedRows → ℕ → InodeRow → Bool
is_linked S id row =
    is_given S id && ((row.links == entries_to S id) && counts_fit S id (kind_of row.part) row.links)

abbrev pub linked_test : TypedRows → Bool
linked_test S = all_pass (λ id row. (id == 0) || is_linked S id row) S.inodes

-- ---- layouts

abbrev pub is_file_layout : Settings → ℕ → Layout → Bool
is_file_layout C id layout =
    admits C (record { chunk = layout.chunk; stripe = layout.stripe })
    && ((layout.start == id % C.chains) && (layout.mix == id))

abbrev pub is_used : Settings → ℕ → Layout → ℕ → Bool
is_used C id layout hint = is_file_layout C id layout && (nat_le 1 hint && nat_le hint layout.stripe)

abbrev pub fits_config : Settings → ℕ → InodePart → Bool
fits_config C id (parts.Dir parent chunk stripe) = admits C (record { chunk = chunk; stripe = stripe })
fits_config C id (parts.File length truncs layout hint) = is_used C id layout hint
fits_config C id (parts.Link target) = true

abbrev pub fits_test : Settings → TypedRows → Bool
fits_test C S = all_pass (λ id row. fits_config C id row.part) S.inodes

-- ---- the way to the root

abbrev pub goes_up : (ℕ → Bool) → Option ℕ → Bool
goes_up climbs None = false
goes_up climbs (Some parent) = climbs parent

-- within so many steps up to the root
abbrev pub climbs : TypedRows → ℕ → ℕ → Bool
climbs S zero id = id == 0
climbs S (suc left) id = (id == 0) || goes_up (climbs S left) (parent_at S id)

abbrev pub leads_test : TypedRows → Bool
leads_test S =
    all_pass (λ id row. not (is_kind (kind_of row.part) kinds.Dir) || climbs S (len S.inodes) id) S.inodes

-- ---- entries, doomed inodes, sessions and next numbers

abbrev pub is_dir_inside : TypedRows → ℕ → DentRow → Bool
is_dir_inside S dir e =
    not (is_kind e.kind kinds.Dir) || some_passes (λ parent. parent == dir) (parent_at S e.inode)

abbrev pub is_entry : TypedRows → ℕ → DentRow → Bool
is_entry S dir e =
    has_kind S dir kinds.Dir && (has_kind S e.inode e.kind && (not (e.inode == 0) && is_dir_inside S dir e))

abbrev pub entry_test : TypedRows → Bool
entry_test S = all_pass (λ (key : ℕ × List ℕ) e. is_entry S key.0 e) S.dents

abbrev pub is_unlinked_file : InodeRow → Bool
is_unlinked_file row = is_kind (kind_of row.part) kinds.File && (row.links == 0)

abbrev pub is_doomed : Settings → TypedRows → ℕ → GcRow → Bool
is_doomed C S id Waiting = some_passes is_unlinked_file (get S.inodes id)
is_doomed C S id (Purged layout hint) = not (is_some (get S.inodes id)) && is_used C id layout hint

abbrev pub doomed_test : Settings → TypedRows → Bool
doomed_test C S = all_pass (λ id row. is_doomed C S id row && is_given S id) S.doomed

abbrev pub session_test : TypedRows → Bool
session_test S = all_pass (λ (key : ℕ × (ℕ × ℕ)) (stamp : ℕ). has_kind S key.0 kinds.File) S.sessions

abbrev pub number_test : ℕ → ℕ → Bool
number_test server next = nat_le 1 next && (nat_lt next 4294967296 && nat_lt server SERVERS)

abbrev pub numbers_test : TypedRows → Bool
numbers_test S = all_pass number_test S.next

-- ---- all of it

abbrev pub rows_test : Settings → TypedRows → Bool
rows_test C S =
    root_test S && (linked_test S
    && (fits_test C S
    && (leads_test S && (entry_test S && (doomed_test C S && (session_test S && numbers_test S))))))
