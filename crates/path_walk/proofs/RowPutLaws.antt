-- What is put for a further entry, or one less: the puts one after another, and that each changes its row.
use Rattle.std.proofs.Common.{◌≡◌, ◌≢◌, ℕ, ◌<◌, ◌≤◌, ◌^◌, List, [], ◌∷◌, refl, sym, ap, ◌∙◌, arith}
use Rattle.std.specs.Prelude.{IsTrue, Option, Some, None}
use Rattle.std.specs.Option.{option_map}
use Rattle.std.specs.FinMap.{get}
use Rattle.std.proofs.lemmas.Bool.{and_parts}
use Rattle.byte_fields.specs.Fields.{mode, number_1, number_4, time}
use Rattle.byte_fields.proofs.InRange.{at_most, both, fits_4, within_fits}
use Rattle.conflict_sets.specs.declared.sets.ReadSet.{ReadSet}
use Rattle.fs_base.specs.Config.{Settings}
use Rattle.fs_base.specs.Names.{is_name}
use Rattle.fs_base.specs.declared.kind.Kind.{Kind}
use Rattle.inode_record.specs.Inode.{access, head, head_of, is_inode, spelled_inode, times}
use Rattle.inode_record.specs.declared.inode.InodeRow.{InodeRow}
use Rattle.inode_record.proofs.InRange.{fits_row, same_part}
use Rattle.key_schema.specs.Keys.{spelled_key}
use Rattle.key_schema.specs.declared.key.Key.{Key}
use Rattle.key_schema.specs.declared.key.Key.TheVariants as keys
use Rattle.row_records.specs.Rows.{by_phase, gc, is_gc, spelled_dent, spelled_gc}
use Rattle.row_records.specs.declared.rows.DentRow.{DentRow}
use Rattle.row_records.specs.declared.rows.GcRow.{GcRow}
use Rattle.row_records.specs.declared.rows.GcRow.TheVariants.{Waiting}
use Rattle.row_records.proofs.InRange.{entry_fits}
use Rattle.row_tree.specs.Steps.{recounted}
use Rattle.row_tree.specs.TypedRows.{TypedRows, kind_of}
use Rattle.row_tree.specs.Values.{Value, DentValue, GcValue, InodeValue, spelled_value}
use Rattle.row_tree.specs.WellFormed.{IsWellFormed}
use Rattle.txn_task.specs.Agreeing.{Agrees}
use Rattle.txn_task.specs.Transactions.{Transaction}
use Rattle.txn_task.specs.Writes.{set_write}
use Rattle.path_walk.specs.Puts.{IsPut, put_writes}
use Rattle.path_walk.proofs.PutLaws.{absent_changes}
use Rattle.path_walk.specs.RowPuts.{gone_puts, join_puts, left_puts, waiting_puts}

-- ---- one after another

abbrev with_put : Transaction → Key → Option Value → Transaction
with_put t key value = record t { writes = set_write (spelled_key key) (option_map spelled_value value) t.writes }

two_puts : (t a u : Transaction) (k l : Key) (v w : Option Value) → t.writes ≡ [] → a ≡ with_put t k v → u ≡ with_put a l w → u ≡ record t { writes = put_writes ((l, w) ∷ (k, v) ∷ []) }
two_puts t a u k l v w none first second =
    second ∙ ap (λ (x : Transaction). with_put x l w) (first ∙ ap (λ ws. record t { writes = set_write (spelled_key k) (option_map spelled_value v) ws }) none)

module _ (t a u : Transaction) (none : t.writes ≡ []) (dir : ℕ) (name : List ℕ) (id : ℕ) where
  pub joined_puts : (row : InodeRow) (kind : Kind) → kind ≡ kind_of row.part → a ≡ record t { writes = set_write (spelled_key (keys.Inode id)) (Some (spelled_inode row)) t.writes }
      → u ≡ record a { writes = set_write (spelled_key (keys.Dent dir name)) (Some (spelled_dent (record { inode = id; kind = kind }))) a.writes } → u ≡ record t { writes = put_writes (join_puts dir name id row) }
  unfolding spelled_value
  joined_puts row kind is first second =
      two_puts t a u (keys.Inode id) (keys.Dent dir name) (Some (InodeValue row)) (Some (DentValue (record { inode = id; kind = kind_of row.part }))) none first
      (second ∙ ap (λ (k : Kind). record a { writes = set_write (spelled_key (keys.Dent dir name)) (Some (spelled_dent (record { inode = id; kind = k }))) a.writes }) is)

  pub puts_left : (row : InodeRow) → a ≡ record t { writes = set_write (spelled_key (keys.Dent dir name)) None t.writes }
      → u ≡ record a { writes = set_write (spelled_key (keys.Inode id)) (Some (spelled_inode row)) a.writes } → u ≡ record t { writes = put_writes (left_puts dir name id row) }
  unfolding spelled_value
  puts_left row first second = two_puts t a u (keys.Dent dir name) (keys.Inode id) None (Some (InodeValue row)) none first second

  pub puts_gone : a ≡ record t { writes = set_write (spelled_key (keys.Dent dir name)) None t.writes }
      → u ≡ record a { writes = set_write (spelled_key (keys.Inode id)) None a.writes } → u ≡ record t { writes = put_writes (gone_puts dir name id) }
  puts_gone first second = two_puts t a u (keys.Dent dir name) (keys.Inode id) None None none first second

  pub puts_waiting : (row : InodeRow) → a ≡ record t { writes = put_writes (left_puts dir name id row) }
      → u ≡ record a { writes = set_write (spelled_key (keys.Gc id)) (Some (spelled_gc Waiting)) a.writes } → u ≡ record t { writes = put_writes (waiting_puts dir name id row) }
  unfolding spelled_value
  puts_waiting row first second = second ∙ ap (λ (x : Transaction). record x { writes = set_write (spelled_key (keys.Gc id)) (Some (spelled_gc Waiting)) x.writes }) first

-- ---- the row with another count

-- no row counts more than 65,535 entries
pub links_within : (row : InodeRow) → IsTrue (is_inode row) → row.links ≤ 65535
unfolding head access
links_within row fits =
    let front = and_parts (access.fits (head_of row).access) (times.fits (head_of row).times) (fits_row row fits).0 in
    let mode_there = and_parts (mode.fits row.mode) _ front.0 in
    let owner_there = and_parts (number_4.fits row.owner) _ mode_there.1 in
    let group_there = and_parts (number_4.fits row.group) _ owner_there.1 in
    at_most number_4 0 65535 row.links group_there.1

pub recounted_fits : (stamp links : ℕ) (row : InodeRow) → IsTrue (time.fits stamp) → links ≤ 65535 → IsTrue (is_inode row) → IsTrue (is_inode (recounted stamp links row))
unfolding head access times
recounted_fits stamp links row time_ok few fits =
    let front = and_parts (access.fits (head_of row).access) (times.fits (head_of row).times) (fits_row row fits).0 in
    let mode_there = and_parts (mode.fits row.mode) _ front.0 in
    let owner_there = and_parts (number_4.fits row.owner) _ mode_there.1 in
    let group_there = and_parts (number_4.fits row.group) _ owner_there.1 in
    let atime_there = and_parts (time.fits row.atime) _ front.1 in
    let mtime_there = and_parts (time.fits row.mtime) (time.fits row.ctime) atime_there.1 in
    same_part row (recounted stamp links row) refl
    (both
    (both mode_there.0 (both owner_there.0 (both group_there.0 (within_fits number_4 0 65535 links (fits_4 links (omega arith)) (omega arith) few))))
    (both atime_there.0 (both mtime_there.0 time_ok)))
    fits

waiting_fits : IsTrue (is_gc Waiting)
unfolding gc by_phase number_1
waiting_fits = refl

-- ---- each changes its row

abbrev links_of : Option Value → ℕ
links_of (Some (InodeValue row)) = row.links
links_of _ = 0

-- the row of an inode that was read
pub row_fits : (reads : ReadSet) (id : ℕ) (row : InodeRow) → ((S : TypedRows) → Agrees S reads → get S.inodes id ≡ Some row) → (S : TypedRows) → Agrees S reads → IsTrue (is_inode row)
row_fits reads id row there S agrees = (agrees.spells.fits (keys.Inode id) (InodeValue row) (ap (option_map InodeValue) (there S agrees))).1

module _ (C : Settings) (reads : ReadSet) where
  module _ (id : ℕ) (small : id < 2 ^ 36) (row : InodeRow) (there : (S : TypedRows) → Agrees S reads → get S.inodes id ≡ Some row) where
    -- another count than stands there
    pub row_put : (stamp links : ℕ) → IsTrue (time.fits stamp) → ((S : TypedRows) → IsWellFormed C S → Agrees S reads → (links ≤ 65535) × (links ≢ row.links)) → IsPut C reads (keys.Inode id) (Some (InodeValue (recounted stamp links row)))
    row_put stamp links time_ok other = record {
      valid = small;
      no_kept = refl;
      changes = λ S good agrees. (
        (refl, recounted_fits stamp links row time_ok (other S good agrees).0 (row_fits reads id row there S agrees)),
        (λ same. (other S good agrees).1 (sym (ap links_of (sym (ap (option_map InodeValue) (there S agrees)) ∙ same)))),
      );
    }

  -- a node that is there
  pub node_taken : (id : ℕ) → id < 2 ^ 36 → ((S : TypedRows) → IsWellFormed C S → Agrees S reads → (row : InodeRow) × (get S.inodes id ≡ Some row)) → IsPut C reads (keys.Inode id) None
  node_taken id small there = record {
    valid = small;
    no_kept = refl;
    changes = λ S good agrees. (tt, (λ same. let is = there S good agrees in let clash : Some (InodeValue is.0) ≡ None = sym (ap (option_map InodeValue) is.1) ∙ same in cc));
  }

  module _ (dir : ℕ) (name : List ℕ) (small : dir < 2 ^ 36) (named : IsTrue (is_name name)) where
    pub entry_put : (id : ℕ) (kind : Kind) → id < 2 ^ 36 → ((S : TypedRows) → Agrees S reads → get S.dents (dir, name) ≡ None) → IsPut C reads (keys.Dent dir name) (Some (DentValue (record { inode = id; kind = kind })))
    entry_put id kind below free = record {
      valid = (small, named);
      no_kept = refl;
      changes = λ S good agrees. ((refl, entry_fits id kind below), absent_changes S (keys.Dent dir name) (DentValue (record { inode = id; kind = kind })) (ap (option_map DentValue) (free S agrees)));
    }

    pub entry_taken : (e : DentRow) → ((S : TypedRows) → Agrees S reads → get S.dents (dir, name) ≡ Some e) → IsPut C reads (keys.Dent dir name) None
    entry_taken e there = record {
      valid = (small, named);
      no_kept = refl;
      changes = λ S good agrees. (tt, (λ same. let clash : Some (DentValue e) ≡ None = sym (ap (option_map DentValue) (there S agrees)) ∙ same in cc));
    }

  pub waiting_put : (id : ℕ) → id < 2 ^ 36 → ((S : TypedRows) → IsWellFormed C S → Agrees S reads → get S.doomed id ≢ Some Waiting) → IsPut C reads (keys.Gc id) (Some (GcValue Waiting))
  waiting_put id small other = record {
    valid = small;
    no_kept = refl;
    changes = λ S good agrees. ((refl, waiting_fits), (λ same. other S good agrees (doom_there (get S.doomed id) same)));
  }
    where
      doom_there : (o : Option GcRow) → option_map GcValue o ≡ Some (GcValue Waiting) → o ≡ Some Waiting
      doom_there None same = absurd (cc)
      doom_there (Some g) same = cc
