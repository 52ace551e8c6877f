-- What the read of a key tells of the row that stands there.
use Rattle.std.proofs.Common.{◌≡◌, ℕ, ◌<◌, ◌^◌, List, ap, refl, ◌∙◌, arith}
use Rattle.std.specs.Prelude.{Option, Some, None, Ok}
use Rattle.std.specs.FinMap.{get}
use Rattle.std.specs.Option.{option_map}
use Rattle.conflict_sets.specs.declared.sets.ReadSet.{ReadSet}
use Rattle.fs_base.specs.declared.ids.ClientId.{ClientId}
use Rattle.inode_record.specs.Inode.{read_inode}
use Rattle.inode_record.specs.declared.inode.InodeRow.{InodeRow}
use Rattle.key_schema.specs.Keys.{spelled_key, IsSpellable}
use Rattle.key_schema.specs.declared.key.Key.TheVariants as keys
use Rattle.row_records.specs.Rows.{read_dent, read_session, read_kept, read_alloc}
use Rattle.row_records.specs.declared.rows.AllocRow.{AllocRow}
use Rattle.row_records.specs.declared.rows.DentRow.{DentRow}
use Rattle.row_records.specs.declared.rows.KeptRow.{KeptRow}
use Rattle.row_records.specs.declared.rows.SessionRow.{SessionRow}
use Rattle.row_tree.specs.TypedRows.{TypedRows}
use Rattle.row_tree.specs.Values.{Value, InodeValue, DentValue, SessionValue, KeptValue, AllocValue, spelled_value}
use Rattle.row_tree.proofs.OneValue.{inodes, dents, sessions, kepts, allocs}
use Rattle.row_tree.proofs.Putting.{no_inode, no_dent, no_session, no_kept, no_alloc}
use Rattle.txn_task.specs.Agreeing.{Agrees}
use Rattle.txn_task.specs.Wanted.{IsRowReading}
use Rattle.txn_task.specs.Writes.{read_of}
use Rattle.txn_task.proofs.TxnLaws.{told_absent, told_there, told_never}

mapped_none : {X : Type 0} (form : X → Value) (o : Option X) → option_map form o ≡ None → o ≡ None
mapped_none form None e = refl
mapped_none form (Some x) e = absurd (cc)

-- ---- inodes
pub inode_absent : (reads : ReadSet) (id : ℕ) → id < 2 ^ 36 → read_of reads.keys (spelled_key (keys.Inode id)) ≡ Some None → (S : TypedRows) → Agrees S reads → get S.inodes id ≡ None
inode_absent reads id fits is S a = mapped_none InodeValue (get S.inodes id) (told_absent S reads (keys.Inode id) a (omega arith) is)

pub inode_never : (reads : ReadSet) (id : ℕ) (b : List ℕ) → id < 2 ^ 36 → read_of reads.keys (spelled_key (keys.Inode id)) ≡ Some (Some b) → IsRowReading (read_inode b) None → (S : TypedRows) → Agrees S reads → get S.inodes id ≡ None
inode_never reads id b fits is bad S a = absurd (told_never S reads (keys.Inode id) b a (omega arith) is (no_inode id b bad.0 bad.1))

pub inode_there : (reads : ReadSet) (id : ℕ) (b : List ℕ) (row : InodeRow) → id < 2 ^ 36 → read_of reads.keys (spelled_key (keys.Inode id)) ≡ Some (Some b) → read_inode b ≡ Ok row → (S : TypedRows) → Agrees S reads → get S.inodes id ≡ Some row
unfolding spelled_value
inode_there reads id b row fits is read S a =
    let exact = inodes.exact b row read in
    inner (get S.inodes id) (told_there S reads (keys.Inode id) (InodeValue row) a (omega arith) (is ∙ ap (λ x. Some (Some x)) exact.1) (refl, exact.0))
  where
    inner : (o : Option InodeRow) → option_map InodeValue o ≡ Some (InodeValue row) → o ≡ Some row
    inner None e = absurd (cc)
    inner (Some x) e = cc

-- ---- entries
pub dent_absent : (reads : ReadSet) (dir : ℕ) (name : List ℕ) → dir < 2 ^ 36 → read_of reads.keys (spelled_key (keys.Dent dir name)) ≡ Some None → (S : TypedRows) → Agrees S reads → get S.dents (dir, name) ≡ None
dent_absent reads dir name fits is S a = mapped_none DentValue (get S.dents (dir, name)) (told_absent S reads (keys.Dent dir name) a (omega arith) is)

pub dent_never : (reads : ReadSet) (dir : ℕ) (name b : List ℕ) → dir < 2 ^ 36 → read_of reads.keys (spelled_key (keys.Dent dir name)) ≡ Some (Some b) → IsRowReading (read_dent b) None → (S : TypedRows) → Agrees S reads → get S.dents (dir, name) ≡ None
dent_never reads dir name b fits is bad S a = absurd (told_never S reads (keys.Dent dir name) b a (omega arith) is (no_dent dir name b bad.0 bad.1))

pub dent_there : (reads : ReadSet) (dir : ℕ) (name b : List ℕ) (row : DentRow) → dir < 2 ^ 36 → read_of reads.keys (spelled_key (keys.Dent dir name)) ≡ Some (Some b) → read_dent b ≡ Ok row → (S : TypedRows) → Agrees S reads → get S.dents (dir, name) ≡ Some row
unfolding spelled_value
dent_there reads dir name b row fits is read S a =
    let exact = dents.exact b row read in
    inner (get S.dents (dir, name)) (told_there S reads (keys.Dent dir name) (DentValue row) a (omega arith) (is ∙ ap (λ x. Some (Some x)) exact.1) (refl, exact.0))
  where
    inner : (o : Option DentRow) → option_map DentValue o ≡ Some (DentValue row) → o ≡ Some row
    inner None e = absurd (cc)
    inner (Some x) e = cc

-- ---- next numbers
pub next_absent : (reads : ReadSet) (server : ℕ) → read_of reads.keys (spelled_key (keys.Alloc server)) ≡ Some None → (S : TypedRows) → Agrees S reads → get S.next server ≡ None
next_absent reads server is S a = mapped_none AllocValue (get S.next server) (told_absent S reads (keys.Alloc server) a tt is)

pub next_never : (reads : ReadSet) (server : ℕ) (b : List ℕ) → read_of reads.keys (spelled_key (keys.Alloc server)) ≡ Some (Some b) → IsRowReading (read_alloc b) None → (S : TypedRows) → Agrees S reads → get S.next server ≡ None
next_never reads server b is bad S a = absurd (told_never S reads (keys.Alloc server) b a tt is (no_alloc server b bad.0 bad.1))

pub next_there : (reads : ReadSet) (server : ℕ) (b : List ℕ) (row : AllocRow) → read_of reads.keys (spelled_key (keys.Alloc server)) ≡ Some (Some b) → read_alloc b ≡ Ok row → (S : TypedRows) → Agrees S reads → get S.next server ≡ Some row.next
unfolding spelled_value
next_there reads server b row is read S a =
    let exact = allocs.exact b row read in
    inner (get S.next server) (told_there S reads (keys.Alloc server) (AllocValue row.next) a tt (is ∙ ap (λ x. Some (Some x)) exact.1) (refl, exact.0))
  where
    inner : (o : Option ℕ) → option_map AllocValue o ≡ Some (AllocValue row.next) → o ≡ Some row.next
    inner None e = absurd (cc)
    inner (Some x) e = cc

-- ---- kept replies
pub kept_absent : (reads : ReadSet) (client : ClientId) → client.0 < 2 ^ 128 → read_of reads.keys (spelled_key (keys.Idem client)) ≡ Some None → (S : TypedRows) → Agrees S reads → get S.kept client.0 ≡ None
kept_absent reads client fits is S a = mapped_none KeptValue (get S.kept client.0) (told_absent S reads (keys.Idem client) a fits is)

pub kept_never : (reads : ReadSet) (client : ClientId) (b : List ℕ) → client.0 < 2 ^ 128 → read_of reads.keys (spelled_key (keys.Idem client)) ≡ Some (Some b) → IsRowReading (read_kept b) None → (S : TypedRows) → Agrees S reads → get S.kept client.0 ≡ None
kept_never reads client b fits is bad S a = absurd (told_never S reads (keys.Idem client) b a fits is (no_kept client b bad.0 bad.1))

pub kept_there : (reads : ReadSet) (client : ClientId) (b : List ℕ) (row : KeptRow) → client.0 < 2 ^ 128 → read_of reads.keys (spelled_key (keys.Idem client)) ≡ Some (Some b) → read_kept b ≡ Ok row → (S : TypedRows) → Agrees S reads → get S.kept client.0 ≡ Some row
unfolding spelled_value
kept_there reads client b row fits is read S a =
    let exact = kepts.exact b row read in
    inner (get S.kept client.0) (told_there S reads (keys.Idem client) (KeptValue row) a fits (is ∙ ap (λ x. Some (Some x)) exact.1) (refl, exact.0))
  where
    inner : (o : Option KeptRow) → option_map KeptValue o ≡ Some (KeptValue row) → o ≡ Some row
    inner None e = absurd (cc)
    inner (Some x) e = cc

-- ---- write sessions
module _ (reads : ReadSet) (file : ℕ) (client : ClientId) (number : ℕ) (fits : IsSpellable (keys.Session file client number)) where
  pub session_absent : read_of reads.keys (spelled_key (keys.Session file client number)) ≡ Some None → (S : TypedRows) → Agrees S reads → get S.sessions (file, (client.0, number)) ≡ None
  session_absent is S a = mapped_none SessionValue (get S.sessions (file, (client.0, number))) (told_absent S reads (keys.Session file client number) a fits is)

  pub session_never : (b : List ℕ) → read_of reads.keys (spelled_key (keys.Session file client number)) ≡ Some (Some b) → IsRowReading (read_session b) None → (S : TypedRows) → Agrees S reads → get S.sessions (file, (client.0, number)) ≡ None
  session_never b is bad S a = absurd (told_never S reads (keys.Session file client number) b a fits is (no_session file client number b bad.0 bad.1))

  pub session_there : (b : List ℕ) (row : SessionRow) → read_of reads.keys (spelled_key (keys.Session file client number)) ≡ Some (Some b) → read_session b ≡ Ok row → (S : TypedRows) → Agrees S reads → get S.sessions (file, (client.0, number)) ≡ Some row.stamp
  unfolding spelled_value
  session_there b row is read S a =
      let exact = sessions.exact b row read in
      inner (get S.sessions (file, (client.0, number))) (told_there S reads (keys.Session file client number) (SessionValue row.stamp) a fits (is ∙ ap (λ x. Some (Some x)) exact.1) (refl, exact.0))
    where
      inner : (o : Option ℕ) → option_map SessionValue o ≡ Some (SessionValue row.stamp) → o ≡ Some row.stamp
      inner None e = absurd (cc)
      inner (Some x) e = cc
