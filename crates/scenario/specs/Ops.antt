-- The operation that a JSON value reads as.
use Rattle.std.specs.Prelude.{ℕ, ◌^◌, List, [], ◌∷◌, length, nat_le, Option, Some, None, Result, Ok, Err, codes, if◌then◌else◌}
use Rattle.std.specs.Option.{ok_or}
use Rattle.std.specs.Str.{bytes_eq}
use Rattle.fs_base.specs.Gives.{◌>>=◌}
use Rattle.fs_base.specs.declared.call.Changes.{Changes}
use Rattle.fs_base.specs.declared.call.Place.{Place}
use Rattle.fs_base.specs.declared.layout.DefaultLayout.{DefaultLayout}
use Rattle.fs_base.specs.declared.limits.TheConstants.{INODE_IDS, MODES, TEXT_BYTES, TIMES}
use Rattle.serde_json.specs.Data.{Data}
use Rattle.scenario.specs.Broken.{not_built, need}
use Rattle.scenario.specs.Json.{has_only, text_at}
use Rattle.scenario.specs.Numbers.{number_at, number_or}
use Rattle.scenario.specs.declared.broken.Broken.{Broken}
use Rattle.scenario.specs.declared.ops.Making.{Making}
use Rattle.scenario.specs.declared.ops.OpKind.{OpKind}
use Rattle.scenario.specs.declared.ops.OpKind.TheVariants as kinds
use Rattle.client_core.specs.declared.descriptors.TheConstants.{DESCRIPTORS}
use Rattle.client_core.specs.declared.plan.Op.{Op}
use Rattle.client_core.specs.declared.plan.Op.TheVariants as ops

abbrev pub named : List ℕ → List (List ℕ × OpKind) → Option OpKind
named name [] = None
named name (row ∷ rows) = if bytes_eq name row.0 then Some row.1 else named name rows

abbrev pub kind_table : List (List ℕ × OpKind)
kind_table =
    (codes "mkdir", kinds.Mkdir) ∷ (codes "create", kinds.Create) ∷ (codes "symlink", kinds.Symlink)
    ∷ (codes "setattr", kinds.Setattr)
    ∷ (codes "link", kinds.Link) ∷ (codes "unlink", kinds.Unlink) ∷ (codes "rmdir", kinds.Rmdir)
    ∷ (codes "rename", kinds.Rename)
    ∷ (codes "lookup", kinds.Lookup) ∷ (codes "stat", kinds.Stat) ∷ (codes "list", kinds.List)
    ∷ (codes "readlink", kinds.Readlink)
    ∷ (codes "open", kinds.Open) ∷ (codes "openr", kinds.Openr) ∷ (codes "fstat", kinds.Fstat) ∷ []

abbrev pub kind_of_op : List ℕ → Option OpKind
kind_of_op name = named name kind_table

-- those of a place, and further ones
abbrev pub at_place : List (List ℕ) → List (List ℕ)
at_place keys = codes "path" ∷ codes "dir" ∷ keys

-- the keys that an operation has beside those of every one
abbrev pub own_keys : OpKind → List (List ℕ)
own_keys kinds.Mkdir = at_place (codes "mode" ∷ codes "chunk" ∷ codes "stripe" ∷ [])
own_keys kinds.Create = at_place (codes "mode" ∷ codes "chunk" ∷ codes "stripe" ∷ [])
own_keys kinds.Symlink = at_place (codes "target" ∷ [])
own_keys kinds.Setattr =
    at_place (codes "mode" ∷ codes "uid" ∷ codes "gid" ∷ codes "atime" ∷ codes "mtime" ∷ [])
own_keys kinds.Link = at_place (codes "path2" ∷ codes "dir2" ∷ [])
own_keys kinds.Unlink = at_place []
own_keys kinds.Rmdir = at_place []
own_keys kinds.Rename = at_place (codes "path2" ∷ codes "dir2" ∷ [])
own_keys kinds.Lookup = at_place []
own_keys kinds.Stat = at_place []
own_keys kinds.List = at_place []
own_keys kinds.Readlink = at_place []
own_keys kinds.Open = at_place (codes "fd" ∷ [])
own_keys kinds.Openr = at_place (codes "fd" ∷ [])
own_keys kinds.Fstat = codes "fd" ∷ []

abbrev pub keys_of : OpKind → List (List ℕ)
keys_of kind = codes "op" ∷ codes "time" ∷ own_keys kind

-- a text of at most 65,535 bytes, which must be there
abbrev pub short_text : List ℕ → Data → Result (List ℕ) Broken
short_text name d = do
  text ← ok_or (text_at name d) not_built
  fits ← need (nat_le (length text) TEXT_BYTES) not_built
  Ok text

-- a base, which is the root where none is given, and a path's text
abbrev pub place_at : List ℕ → List ℕ → Data → Result Place Broken
place_at dir path d = do
  base ← number_or dir INODE_IDS 0 d
  text ← short_text path d
  Ok (record { base = base; text = text })

abbrev pub first_place : Data → Result Place Broken
first_place d = place_at (codes "dir") (codes "path") d

abbrev pub second_place : Data → Result Place Broken
second_place d = place_at (codes "dir2") (codes "path2") d

-- a descriptor, which is 1 where none is given
abbrev pub fd_of : Data → Result ℕ Broken
fd_of d = number_or (codes "fd") DESCRIPTORS 1 d

-- a chunk and a stripe are given both or neither
abbrev pub both : Option ℕ → Option ℕ → Result (Option DefaultLayout) Broken
both None None = Ok None
both None (Some stripe) = Err not_built
both (Some chunk) None = Err not_built
both (Some chunk) (Some stripe) = Ok (Some (record { chunk = chunk; stripe = stripe }))

abbrev pub layout_of : Data → Result (Option DefaultLayout) Broken
layout_of d = do
  chunk ← number_at (codes "chunk") (2 ^ 32) d
  stripe ← number_at (codes "stripe") (2 ^ 16) d
  both chunk stripe

abbrev pub making_of : ℕ → Data → Result Making Broken
making_of default d = do
  mode ← number_or (codes "mode") MODES default d
  layout ← layout_of d
  Ok (record { mode = mode; layout = layout })

unfoldable pub changes_of : Data → Result Changes Broken
changes_of d = do
  mode ← number_at (codes "mode") MODES d
  owner ← number_at (codes "uid") (2 ^ 32) d
  group ← number_at (codes "gid") (2 ^ 32) d
  atime ← number_at (codes "atime") TIMES d
  mtime ← number_at (codes "mtime") TIMES d
  Ok (record { mode = mode; owner = owner; group = group; atime = atime; mtime = mtime })

-- 493 is rwxr-xr-x, 420 is rw-r--r--
abbrev pub op_with : OpKind → ℕ → Data → Result Op Broken
op_with kinds.Mkdir stamp d = do
  place ← first_place d
  made ← making_of 493 d
  Ok (ops.Mkdir stamp place made.mode made.layout)
op_with kinds.Create stamp d = do
  place ← first_place d
  made ← making_of 420 d
  Ok (ops.Create stamp place made.mode made.layout)
op_with kinds.Symlink stamp d = do
  place ← first_place d
  target ← short_text (codes "target") d
  Ok (ops.Symlink stamp place target)
op_with kinds.Setattr stamp d = do
  place ← first_place d
  changes ← changes_of d
  Ok (ops.Setattr stamp place changes)
op_with kinds.Link stamp d = do
  from ← first_place d
  to ← second_place d
  Ok (ops.Link stamp from to)
op_with kinds.Unlink stamp d = first_place d >>= λ place. Ok (ops.Unlink stamp place)
op_with kinds.Rmdir stamp d = first_place d >>= λ place. Ok (ops.Rmdir stamp place)
op_with kinds.Rename stamp d = do
  from ← first_place d
  to ← second_place d
  Ok (ops.Rename stamp from to)
op_with kinds.Lookup stamp d = first_place d >>= λ place. Ok (ops.Lookup stamp place)
op_with kinds.Stat stamp d = first_place d >>= λ place. Ok (ops.Stat stamp place)
op_with kinds.List stamp d = first_place d >>= λ place. Ok (ops.List stamp place)
op_with kinds.Readlink stamp d = first_place d >>= λ place. Ok (ops.Readlink stamp place)
op_with kinds.Open stamp d = do
  place ← first_place d
  fd ← fd_of d
  Ok (ops.Open stamp place fd)
op_with kinds.Openr stamp d = do
  place ← first_place d
  fd ← fd_of d
  Ok (ops.Openr stamp place fd)
op_with kinds.Fstat stamp d = fd_of d >>= λ fd. Ok (ops.Fstat stamp fd)

unfoldable pub op_of : Data → Result Op Broken
op_of d = do
  name ← ok_or (text_at (codes "op") d) not_built
  kind ← ok_or (kind_of_op name) not_built
  keys ← need (has_only (keys_of kind) d) not_built
  stamp ← number_or (codes "time") TIMES 0 d
  op_with kind stamp d
