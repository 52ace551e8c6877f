-- What is put for an entry that moves, on top of what was put before; the last put stands first.
use Rattle.std.specs.Prelude.{◌≡◌, ◌==◌, List, [], ◌∷◌, Option, Some, None, if◌then◌else◌}
use Rattle.inode_record.specs.declared.inode.InodeRow.{InodeRow}
use Rattle.key_schema.specs.declared.key.Key.{Key}
use Rattle.key_schema.specs.declared.key.Key.TheVariants as keys
use Rattle.row_records.specs.declared.rows.DentRow.{DentRow}
use Rattle.row_tree.specs.Steps.{under}
use Rattle.row_tree.specs.Values.{Value, DentValue, InodeValue}
use Rattle.txn_task.specs.Transactions.{Transaction}
use Rattle.path_walk.specs.Puts.{put_writes}
use Rattle.path_walk.specs.RowPuts.{HasPut, gone_puts}
use Rattle.op_rename.specs.declared.place.Spots.{Spots}

-- the entry taken away, and put at its new place
abbrev pub moved_puts : Spots → DentRow → List (Key × Option Value) → List (Key × Option Value)
moved_puts spots e before =
    (keys.Dent spots.to.dir spots.to.name, Some (DentValue e))
    ∷ (keys.Dent spots.from.dir spots.from.name, None)
    ∷ before

-- and the directory's row, where it comes to another parent
abbrev pub dir_puts : Spots → DentRow → InodeRow → List (Key × Option Value) → List (Key × Option Value)
dir_puts spots e row before =
    if spots.from.dir == spots.to.dir
    then moved_puts spots e before
    else (keys.Inode e.inode, Some (InodeValue (under spots.to.dir row))) ∷ moved_puts spots e before

-- before that, an empty directory whose place is taken is gone
abbrev pub cleared_puts : Spots → Option DentRow → List (Key × Option Value)
cleared_puts spots None = []
cleared_puts spots (Some old) = gone_puts spots.to.dir spots.to.name old.inode

-- whatever was put before, the writes are those of more puts
abbrev pub PutsMore :
    (List (Key × Option Value) → List (Key × Option Value)) → Transaction → Transaction → Type 0
PutsMore more old new =
    (before : List (Key × Option Value)) → old.writes ≡ put_writes before → HasPut (more before) old new
