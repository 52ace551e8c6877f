-- What a source and a sink over std's readers and writers make of an answer of these.
use Rattle.std.specs.Prelude.{ℕ, ◌==◌, nat_lt, ◌||◌, if◌then◌else◌, Result, Ok, Err}
use Rattle.std.specs.declared.io.Error.{Error}
use Rattle.fs_io.specs.InMemory.{source_failed, sink_failed}
use Rattle.fs_io.specs.declared.traits.SourceFailed.{SourceFailed}
use Rattle.fs_io.specs.declared.traits.SinkFailed.{SinkFailed}

-- the same count, and an error exactly for an error
abbrev pub read_answer : Result ℕ Error → Result ℕ SourceFailed
read_answer (Ok count) = Ok count
read_answer (Err error) = Err source_failed

-- the same count, and an error exactly for an error, and where none was taken of a piece that isn't empty
abbrev pub write_answer : ℕ → Result ℕ Error → Result ℕ SinkFailed
write_answer given (Ok count) = if nat_lt 0 count || (given == 0) then Ok count else Err sink_failed
write_answer given (Err error) = Err sink_failed
