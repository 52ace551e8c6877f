-- How a task begins: what its call makes, and where.
use Rattle.std.specs.Prelude.{◌≡◌}
use Rattle.fs_base.specs.declared.call.Call.{Call}
use Rattle.fs_base.specs.declared.call.Call.TheVariants as calls
use Rattle.fs_base.specs.declared.call.Place.{Place}
use Rattle.tree_model.specs.declared.new_node.NewNode.{NewNode}
use Rattle.tree_model.specs.declared.new_node.NewPart.{NewPart}
use Rattle.tree_model.specs.declared.new_node.NewPart.TheVariants as parts
use Rattle.tree_model.specs.Creating.{new_dir, new_file, new_link}

-- what is made, and where
abbrev pub IsMade : Call → Place → NewNode → Type 0
IsMade (calls.Mkdir where_to mode layout) place node = (place ≡ where_to) × (node ≡ new_dir mode layout)
IsMade (calls.Create where_to mode layout) place node = (place ≡ where_to) × (node ≡ new_file mode layout)
IsMade (calls.Symlink where_to target) place node = (place ≡ where_to) × (node ≡ new_link target)
IsMade _ place node = ⊥

-- only a link's words take memory to be looked at
abbrev pub HasTarget : NewPart → Type 0
HasTarget (parts.Link target) = Unit {0}
HasTarget _ = ⊥
