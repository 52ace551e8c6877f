-- What is wrong with a call's words, which are looked at before any row.
use Rattle.std.specs.Prelude.{if◌then◌else◌, Option, Some, None, Result, Ok, Err}
use Rattle.fs_base.specs.Config.{Settings}
use Rattle.fs_base.specs.Paths.{path_of}
use Rattle.fs_base.specs.declared.code.Code.{Code}
use Rattle.fs_base.specs.declared.code.Code.TheVariants.{BadLayout, IsRoot}
use Rattle.fs_base.specs.declared.layout.DefaultLayout.{DefaultLayout}
use Rattle.fs_base.specs.declared.path.Path.{Path}
use Rattle.fs_base.specs.declared.call.Place.{Place}
use Rattle.tree_model.specs.declared.new_node.NewNode.{NewNode}
use Rattle.tree_model.specs.declared.new_node.NewPart.{NewPart}
use Rattle.tree_model.specs.declared.new_node.NewPart.TheVariants as new
use Rattle.tree_model.specs.Creating.{admits_given}
use Rattle.tree_model.specs.Maps.{is_end}

abbrev pub refusal : Result Path Code → Option Code
refusal (Ok path) = None
refusal (Err code) = Some code

abbrev pub part_fault : NewPart → Option Code
part_fault new.Dir = None
part_fault new.File = None
part_fault (new.Link target) = refusal (path_of target)

abbrev pub layout_fault : Settings → Option DefaultLayout → Option Code
layout_fault C layout = if admits_given C layout then None else Some BadLayout

abbrev pub first_fault : Option Code → Option Code → Option Code
first_fault (Some code) later = Some code
first_fault None later = later

-- a link's target comes before a layout
abbrev pub node_fault : Settings → NewNode → Option Code
node_fault C node = first_fault (part_fault node.part) (layout_fault C node.layout)

-- a path that leads to where it begins
abbrev pub no_name : Result Path Code → Option Code
no_name (Ok path) = if is_end path.names then Some IsRoot else None
no_name (Err code) = None

-- a rename's second path, and then that both have a name
abbrev pub move_fault : Place → Place → Option Code
move_fault from to =
    first_fault (refusal (path_of to.text))
    (first_fault (no_name (path_of from.text)) (no_name (path_of to.text)))
