-- Within one form of row no two values have one spelling.
use Rattle.std.proofs.Common.{ap}
use Rattle.byte_fields.specs.Spelling.{IsSpelling}
use Rattle.byte_fields.proofs.Spellings.{whole_is}
use Rattle.inode_record.specs.Inode.{inode, spelled_inode, is_inode, read_inode}
use Rattle.inode_record.proofs.InodeLaws.{inode_is}
use Rattle.key_schema.specs.declared.key.Key.TheVariants as keys
use Rattle.row_records.specs.declared.rows.AllocRow.{AllocRow}
use Rattle.row_records.specs.declared.rows.SessionRow.{SessionRow}
use Rattle.row_records.specs.Rows.{dent, session_row, kept, alloc_row, gc, spelled_dent, is_dent, read_dent, spelled_session, is_session, read_session, spelled_kept, is_kept, read_kept, spelled_alloc, is_alloc, read_alloc, spelled_gc, is_gc, read_gc}
use Rattle.row_records.proofs.RowLaws.{dent_is, session_row_is, kept_is, alloc_row_is, gc_is}
use Rattle.row_tree.specs.Spelling.{OneValueEach}
use Rattle.row_tree.specs.Values.{InodeValue, DentValue, SessionValue, KeptValue, GcValue, AllocValue, spelled_value}

pub inodes : IsSpelling spelled_inode is_inode read_inode
inodes = whole_is inode inode_is

pub dents : IsSpelling spelled_dent is_dent read_dent
dents = whole_is dent dent_is

pub sessions : IsSpelling spelled_session is_session read_session
sessions = whole_is session_row session_row_is

pub kepts : IsSpelling spelled_kept is_kept read_kept
kepts = whole_is kept kept_is

pub gcs : IsSpelling spelled_gc is_gc read_gc
gcs = whole_is gc gc_is

pub allocs : IsSpelling spelled_alloc is_alloc read_alloc
allocs = whole_is alloc_row alloc_row_is

pub one_value_each : OneValueEach
unfolding spelled_value
one_value_each (keys.Alloc server) (AllocValue n) (AllocValue m) f g a b e = ap (λ (row : AllocRow). AllocValue row.next) (allocs.one_each (record { next = n }) (record { next = m }) a b e)
one_value_each (keys.Dent dir name) (DentValue x) (DentValue y) f g a b e = ap DentValue (dents.one_each x y a b e)
one_value_each (keys.Gc id) (GcValue x) (GcValue y) f g a b e = ap GcValue (gcs.one_each x y a b e)
one_value_each (keys.Idem client) (KeptValue x) (KeptValue y) f g a b e = ap KeptValue (kepts.one_each x y a b e)
one_value_each (keys.Inode id) (InodeValue x) (InodeValue y) f g a b e = ap InodeValue (inodes.one_each x y a b e)
one_value_each (keys.Session inode client number) (SessionValue s) (SessionValue t) f g a b e = ap (λ (row : SessionRow). SessionValue row.stamp) (sessions.one_each (record { stamp = s }) (record { stamp = t }) a b e)
one_value_each k v w f g a b e = absurd (cc)
