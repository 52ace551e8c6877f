-- The words of a reply, and the text of a call with its reply.
use Rattle.std.specs.Prelude.{ℕ, List, [], ◌∷◌, ◌++◌, map, length, codes, decimal, Bool, true, false}
use Rattle.fs_base.specs.declared.call.Call.{Call}
use Rattle.fs_base.specs.declared.call.Call.TheVariants as calls
use Rattle.fs_base.specs.declared.code.Code.{Code}
use Rattle.fs_base.specs.declared.code.Code.TheVariants as refusals
use Rattle.fs_base.specs.declared.code.Limit.{Limit}
use Rattle.fs_base.specs.declared.code.Limit.TheVariants as limits
use Rattle.fs_base.specs.declared.kind.Kind.{Kind}
use Rattle.fs_base.specs.declared.kind.Kind.TheVariants as kinds
use Rattle.fs_base.specs.declared.reply.Attributes.{Attributes}
use Rattle.fs_base.specs.declared.reply.DataRun.{DataRun}
use Rattle.fs_base.specs.declared.reply.DeletionPhase.{DeletionPhase}
use Rattle.fs_base.specs.declared.reply.DeletionPhase.TheVariants as phases
use Rattle.fs_base.specs.declared.reply.DirEntry.{DirEntry}
use Rattle.fs_base.specs.declared.reply.DoomedInode.{DoomedInode}
use Rattle.fs_base.specs.declared.reply.FileInfo.{FileInfo}
use Rattle.fs_base.specs.declared.reply.Reply.{Reply}
use Rattle.fs_base.specs.declared.reply.Reply.TheVariants as replies
use Rattle.run_record.specs.Hex.{hex_word}
use Rattle.run_record.specs.Words.{joined, setting}

abbrev pub kind_word : Kind → List ℕ
kind_word kinds.Dir = codes "dir"
kind_word kinds.File = codes "file"
kind_word kinds.Link = codes "link"

abbrev pub phase_word : DeletionPhase → List ℕ
phase_word phases.Waiting = codes "waiting"
phase_word phases.Purged = codes "purged"

abbrev pub limit_word : Limit → List ℕ
limit_word limits.Inodes = codes "Inodes"
limit_word limits.Links = codes "Links"
limit_word limits.Truncations = codes "Truncations"

-- 1 for yes
abbrev pub flag : Bool → ℕ
flag true = 1
flag false = 0

-- a colon is 58
abbrev pub entry_word : DirEntry → List ℕ
entry_word e = hex_word e.name ++ (58 ∷ decimal e.inode ++ (58 ∷ kind_word e.kind))

abbrev pub doomed_word : DoomedInode → List ℕ
doomed_word d = decimal d.inode ++ (58 ∷ phase_word d.phase)

-- offset, length and value, with + and = between
abbrev pub data_word : DataRun → List ℕ
data_word r = decimal r.offset ++ (43 ∷ decimal r.len ++ (61 ∷ decimal r.fill))

-- a list is its name, how many, and a word each
abbrev pub listed_words : {A : Type 0} → List ℕ → (A → List ℕ) → List A → List (List ℕ)
listed_words name word xs = name ∷ decimal (length xs) ∷ map word xs

abbrev pub attribute_words : Attributes → List (List ℕ)
attribute_words a =
    codes "attr" ∷ decimal a.inode ∷ kind_word a.kind ∷ setting (codes "mode=") a.mode
    ∷ setting (codes "uid=") a.owner
    ∷ setting (codes "gid=") a.group ∷ setting (codes "nlink=") a.links ∷ setting (codes "atime=") a.atime
    ∷ setting (codes "mtime=") a.mtime ∷ setting (codes "ctime=") a.ctime ∷ setting (codes "length=") a.length
    ∷ []

abbrev pub file_words : FileInfo → List (List ℕ)
file_words f =
    codes "file" ∷ decimal f.inode ∷ setting (codes "length=") f.length ∷ setting (codes "truncs=") f.truncs
    ∷ setting (codes "hint=") f.hint ∷ setting (codes "chunk=") f.layout.chunk
    ∷ setting (codes "stripe=") f.layout.stripe
    ∷ setting (codes "start=") f.layout.start ∷ setting (codes "mix=") f.layout.mix ∷ []

-- a refusal is its code's name, with what the code tells
abbrev pub code_words : Code → List (List ℕ)
code_words refusals.BadPath = codes "BadPath" ∷ []
code_words refusals.BadName = codes "BadName" ∷ []
code_words refusals.NotFound = codes "NotFound" ∷ []
code_words refusals.NotDir = codes "NotDir" ∷ []
code_words refusals.IsDir = codes "IsDir" ∷ []
code_words refusals.Exists = codes "Exists" ∷ []
code_words refusals.NotEmpty = codes "NotEmpty" ∷ []
code_words refusals.LinkLoop = codes "LinkLoop" ∷ []
code_words refusals.IntoItself = codes "IntoItself" ∷ []
code_words refusals.IsRoot = codes "IsRoot" ∷ []
code_words refusals.NotLink = codes "NotLink" ∷ []
code_words refusals.NoSession = codes "NoSession" ∷ []
code_words refusals.InUse = codes "InUse" ∷ []
code_words refusals.NotDoomed = codes "NotDoomed" ∷ []
code_words refusals.NotPurged = codes "NotPurged" ∷ []
code_words refusals.BadLayout = codes "BadLayout" ∷ []
code_words refusals.TooLong = codes "TooLong" ∷ []
code_words (refusals.AtLimit limit) = codes "AtLimit" ∷ limit_word limit ∷ []
code_words refusals.ShortHint = codes "ShortHint" ∷ []
code_words (refusals.Stale kept) = codes "Stale" ∷ setting (codes "kept=") kept ∷ []
code_words refusals.Conflict = codes "Conflict" ∷ []
code_words refusals.StoreFull = codes "StoreFull" ∷ []
code_words (refusals.NodeFull node written) =
    codes "NodeFull" ∷ setting (codes "node=") node ∷ setting (codes "written=") written ∷ []
code_words (refusals.Removed version written) =
    codes "Removed" ∷ setting (codes "version=") version ∷ setting (codes "written=") written ∷ []

-- what a call was answered
abbrev pub reply_words : Reply → List (List ℕ)
reply_words (replies.Made id) = codes "made" ∷ decimal id ∷ []
reply_words replies.Done = codes "done" ∷ []
reply_words (replies.Found id kind) = codes "found" ∷ decimal id ∷ kind_word kind ∷ []
reply_words (replies.Attr a) = attribute_words a
reply_words (replies.Names entries) = listed_words (codes "names") entry_word entries
reply_words (replies.Target path) = codes "target" ∷ hex_word path ∷ []
reply_words (replies.File info) = file_words info
reply_words (replies.Hint places) = setting (codes "hint=") places ∷ []
reply_words (replies.Reported adopted length) =
    setting (codes "adopted=") (flag adopted) ∷ setting (codes "length=") length ∷ []
reply_words (replies.Settled length) = setting (codes "length=") length ∷ []
reply_words (replies.Cut length truncs) =
    setting (codes "length=") length ∷ setting (codes "truncs=") truncs ∷ []
reply_words (replies.Doomed inodes) = listed_words (codes "ids") doomed_word inodes
reply_words (replies.Pruned sessions) = setting (codes "pruned=") sessions ∷ []
reply_words (replies.Wrote bytes pieces) =
    setting (codes "bytes=") bytes ∷ setting (codes "pieces=") pieces ∷ []
reply_words (replies.Data runs) = listed_words (codes "data") data_word runs
reply_words (replies.Swept files) = setting (codes "reaped=") files ∷ []
reply_words (replies.Refused code) = code_words code

abbrev pub call_word : Call → List ℕ
call_word (calls.Lookup place) = codes "lookup"
call_word (calls.Stat place) = codes "stat"
call_word (calls.List place) = codes "list"
call_word (calls.Readlink place) = codes "readlink"
call_word (calls.Openr place) = codes "openr"
call_word (calls.Fstat session) = codes "fstat"
call_word calls.Doomed = codes "doomed"
call_word (calls.Mkdir place mode layout) = codes "mkdir"
call_word (calls.Create place mode layout) = codes "create"
call_word (calls.Symlink place target) = codes "symlink"
call_word (calls.Setattr place changes) = codes "setattr"
call_word (calls.Link from to) = codes "link"
call_word (calls.Unlink place) = codes "unlink"
call_word (calls.Rmdir place) = codes "rmdir"
call_word (calls.Rename from to) = codes "rename"
call_word (calls.Open place) = codes "open"
call_word (calls.Extend session place) = codes "extend"
call_word (calls.Report session end truncs) = codes "report"
call_word (calls.Fsync session) = codes "fsync"
call_word (calls.Close session) = codes "close"
call_word (calls.Truncate session length) = codes "truncate"
call_word (calls.Purge inode) = codes "purge"
call_word (calls.Reap inode) = codes "reap"
call_word (calls.Prune living) = codes "prune"
call_word (calls.Write session offset len fill) = codes "write"
call_word (calls.Read inode offset len) = codes "read"
call_word calls.Sweep = codes "sweep"

-- what a reply line ends with: the call's name, and the reply's words
abbrev pub text_of : Call → Reply → List ℕ
text_of call reply = call_word call ++ (32 ∷ joined (reply_words reply))
