-- What a step owes where a way has ended, by what is known there.
use Rattle.std.specs.Prelude.{ℕ, Option}
use Rattle.std.specs.Option.{option_map}
use Rattle.fs_base.specs.Config.{Settings}
use Rattle.fs_base.specs.declared.call.Place.{Place}
use Rattle.row_records.specs.declared.rows.DentRow.{DentRow}
use Rattle.tree_model.specs.declared.walk.Walked.{Walked}
use Rattle.tree_model.specs.declared.walk.Walked.TheVariants.{AtParent}
use Rattle.tree_model.specs.Effects.{Effect}
use Rattle.tree_model.specs.Moving.{rename_at}
use Rattle.tree_model.specs.Tree.{Tree}
use Rattle.txn_task.specs.Transactions.{Transaction}
use Rattle.txn_task.specs.declared.messages.OpStep.{OpStep}
use Rattle.path_walk.specs.Footprint.{moved_at, placed_at, way_to}
use Rattle.path_walk.specs.Owed.{HasDone}
use Rattle.path_walk.specs.Stages.{does, looks}
use Rattle.op_rename.specs.Rename.{rename_does_at, rename_reads_at}
use Rattle.op_rename.specs.declared.place.Spot.{Spot}
use Rattle.op_rename.specs.declared.place.Spots.{Spots}

-- under whatever configuration it reads what the call reads where its first way ends, and does what it does
-- there
abbrev pub IsRenameEndStep : Place → ℕ → Walked → Transaction → Transaction → OpStep → Type 0
IsRenameEndStep to stamp walked before after s =
    (C : Settings)
    → HasDone C (λ T. rename_reads_at to T walked) (λ T. rename_does_at to stamp T walked) before after s

-- the entry at this name goes to where a walk ends
abbrev pub moves_from : Spot → ℕ → Tree → Walked → Effect
moves_from from stamp T = rename_at T stamp (AtParent from.dir from.name)

-- the entry that moves is known, and the second way begins
abbrev pub IsRenameWayStep : Spot → Place → ℕ → DentRow → Transaction → Transaction → OpStep → Type 0
IsRenameWayStep from to stamp entry before after s =
    (C : Settings)
    → HasDone C (looks (λ T. placed_at T entry.kind entry.inode) (way_to to))
    (does (moves_from from stamp) (way_to to)) before after s

-- and where it ends
abbrev pub IsPlaceStep : Spot → ℕ → DentRow → Walked → Transaction → Transaction → OpStep → Type 0
IsPlaceStep from stamp entry walked before after s =
    (C : Settings)
    → HasDone C (λ T. placed_at T entry.kind entry.inode walked) (λ T. moves_from from stamp T walked) before
    after s

-- both entries are known
abbrev pub IsMoveStep : Spots → ℕ → DentRow → Option DentRow → Transaction → Transaction → OpStep → Type 0
IsMoveStep spots stamp entry taken before after s =
    (C : Settings)
    → HasDone C
    (λ T. moved_at T entry.kind entry.inode spots.to.dir (option_map (λ (e : DentRow). e.inode) taken))
    (λ T. moves_from spots.from stamp T (AtParent spots.to.dir spots.to.name))
    before after s
