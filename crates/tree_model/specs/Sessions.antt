-- The calls of write sessions: open makes one, openr opens a file without one, fstat and extend are by one.
use Rattle.std.specs.Prelude.{ℕ, zero, suc, ◌+◌, ◌==◌, nat_lt, Bool, false, if◌then◌else◌, Option, Some, None, Result, Ok, Err}
use Rattle.std.specs.Option.{is_some, ok_or, option_map}
use Rattle.std.specs.FinMap.{get, insert}
use Rattle.fs_base.specs.declared.call.Place.{Place}
use Rattle.fs_base.specs.declared.call.Session.{Session}
use Rattle.fs_base.specs.declared.code.Code.{Code}
use Rattle.fs_base.specs.declared.code.Code.TheVariants as codes
use Rattle.fs_base.specs.declared.ids.ClientId.{ClientId}
use Rattle.fs_base.specs.declared.kind.Kind.TheVariants as kinds
use Rattle.fs_base.specs.declared.reply.FileInfo.{FileInfo}
use Rattle.fs_base.specs.declared.reply.Reply.TheVariants as replies
use Rattle.tree_model.specs.declared.node.Node.{Node}
use Rattle.tree_model.specs.declared.node.NodePart.{NodePart}
use Rattle.tree_model.specs.declared.node.NodePart.TheVariants.{Dir, File, Link}
use Rattle.tree_model.specs.declared.walk.WalkEnd.TheVariants.{Follow}
use Rattle.tree_model.specs.declared.walk.Walked.{Walked}
use Rattle.tree_model.specs.declared.walk.Walked.TheVariants.{At, AtParent, NoName, Stopped}
use Rattle.tree_model.specs.Effects.{Effect, Leaves, Makes, refuses}
use Rattle.tree_model.specs.Finding.{at_end}
use Rattle.tree_model.specs.Maps.{set}
use Rattle.tree_model.specs.Tree.{Tree}

-- ---- files

-- what is told of a node as a file, if it is one
abbrev pub file_of : ℕ → NodePart → Option FileInfo
file_of id (Dir layout) = None
file_of id (File length truncs layout hint) =
    Some (record { inode = id; length = length; truncs = truncs; layout = layout; hint = hint })
file_of id (Link target) = None

-- only a file is opened
abbrev pub opened_node : ℕ → Option Node → Result FileInfo Code
opened_node id None = Err codes.NotFound
opened_node id (Some node) = ok_or (file_of id node.part) codes.IsDir

-- the file where a walk ends that follows links
abbrev pub opened_at : Tree → Walked → Result FileInfo Code
opened_at T (At id kinds.Dir) = Err codes.IsDir
opened_at T (At id kinds.File) = opened_node id (get T.nodes id)
opened_at T (At id kinds.Link) = opened_node id (get T.nodes id)
opened_at T (Stopped code) = Err code
opened_at T (AtParent dir name) = Err codes.NotDir
opened_at T (NoName dir) = Err codes.NotDir

abbrev pub on_file : Result FileInfo Code → (FileInfo → Effect) → Effect
on_file (Err code) effect = refuses code
on_file (Ok file) effect = effect file

-- ---- openr

abbrev pub open_to_read_at : Tree → Walked → Effect
open_to_read_at T walked = on_file (opened_at T walked) (λ file. Leaves (replies.File file))

abbrev pub open_to_read : Tree → Place → Effect
open_to_read T place = at_end T place Follow (open_to_read_at T)

-- ---- open

-- the tree with a session of the client at the inode
abbrev pub with_writer : Tree → ℕ → ClientId → ℕ → Tree
with_writer T inode client number = record T { writers = insert T.writers (inode, (client.0, number)) tt }

-- the session has the request's client and number
abbrev pub open_to_write_at : Tree → ClientId → ℕ → Walked → Effect
open_to_write_at T client number walked =
    on_file (opened_at T walked) (λ file. Makes (with_writer T file.inode client number) (replies.File file))

abbrev pub open_to_write : Tree → ClientId → ℕ → Place → Effect
open_to_write T client number place = at_end T place Follow (open_to_write_at T client number)

-- ---- fstat

-- whether the client has this session; number 0 stands for none
abbrev pub has_session : Tree → ClientId → Session → Bool
has_session T client session =
    if session.number == 0 then false else is_some (get T.writers (session.inode, (client.0, session.number)))

-- the file of a session; in a tree of well-formed rows each session is at one
abbrev pub file_there : ℕ → Option Node → Result FileInfo Code
file_there id None = Err codes.NoSession
file_there id (Some node) = ok_or (file_of id node.part) codes.NoSession

abbrev pub session_file : Tree → ClientId → Session → Result FileInfo Code
session_file T client session =
    if has_session T client session then file_there session.inode (get T.nodes session.inode)
    else Err codes.NoSession

abbrev pub fstat : Tree → ClientId → Session → Effect
fstat T client session = on_file (session_file T client session) (λ file. Leaves (replies.File file))

-- ---- extend

-- The hint doubled until it is above the place, so often at most. Sixteen times bring any hint above a place
-- of 16 bits.
unfoldable pub doubled : ℕ → ℕ → ℕ → ℕ
doubled zero place hint = hint
doubled (suc times) place hint = if nat_lt place hint then hint else doubled times place (hint + hint)

abbrev pub at_most : ℕ → ℕ → ℕ
at_most bound n = if nat_lt bound n then bound else n

-- the hint that brings a place of the layout into use; one that does so already stays
abbrev pub hint_over : ℕ → ℕ → ℕ → ℕ
hint_over stripe place hint = if nat_lt place hint then hint else at_most stripe (doubled 16 place hint)

abbrev pub part_with_hint : ℕ → NodePart → NodePart
part_with_hint hint (Dir layout) = Dir layout
part_with_hint hint (File length truncs layout old) = File length truncs layout hint
part_with_hint hint (Link target) = Link target

-- the hint changes alone, and no time does
abbrev pub hinted : ℕ → Node → Node
hinted hint node = record node { part = part_with_hint hint node.part }

abbrev pub with_hint : Tree → ℕ → ℕ → Option Node → Tree
with_hint T id hint node = record T { nodes = set T.nodes id (option_map (hinted hint) node) }

-- no place of the layout lies beyond its stripe
abbrev pub extend_file : Tree → ℕ → FileInfo → Effect
extend_file T place file =
    if nat_lt place file.layout.stripe
    then Makes (with_hint T file.inode (hint_over file.layout.stripe place file.hint) (get T.nodes file.inode))
    (replies.Hint (hint_over file.layout.stripe place file.hint))
    else refuses codes.ShortHint

abbrev pub extend : Tree → ClientId → Session → ℕ → Effect
extend T client session place = on_file (session_file T client session) (extend_file T place)
