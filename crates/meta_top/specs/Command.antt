-- What the program makes of its command line, and the number that it ends with.
use Rattle.std.specs.Prelude.{◌≡◌, ℕ, List, [], drop, Result, Ok, Err, String, IsErrAnd}
use Rattle.std.specs.IoError.{error_kind}
use Rattle.std.specs.Vec.Iter.{into_iter_items}
use Rattle.std.specs.declared.alloc.Global.{Global}
use Rattle.std.specs.declared.io.Error.{Error}
use Rattle.std.specs.declared.io.ErrorKind.TheVariants as kinds
use Rattle.std.specs.declared.vec.IntoIter.{IntoIter}
use Rattle.meta_top.specs.declared.top.Status.{Status}
use Rattle.meta_top.specs.declared.top.Status.TheVariants as status

-- the command line as it came, the program's name first, or why it can't be told
abbrev pub Came : Type 0
Came = Result (IntoIter (String Global) Global) Error

-- the words behind the program's name; none where one of them is no Unicode
abbrev pub words_of : Came → List (String Global)
words_of (Ok words) = drop 1 (into_iter_items words)
words_of (Err error) = []

-- there was no memory for the words
abbrev pub LacksMemory : Came → Type 0
LacksMemory came = IsErrAnd came (λ error. error_kind error ≡ kinds.OutOfMemory)

abbrev pub exit_number : Status → ℕ
exit_number status.Ok = 0
exit_number status.AuditNo = 1
exit_number status.Usage = 2
exit_number status.Bad = 3
exit_number status.ReadFault = 4
exit_number status.WriteFault = 5
exit_number status.Memory = 6
