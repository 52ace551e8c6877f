-- A source and a sink over memory: what each call answers, and what it leaves.
use Rattle.std.specs.Prelude.{ℕ, ◌-◌, ◌==◌, nat_lt, min, Bool, ◌&&◌, ◌||◌, if◌then◌else◌, List, ◌++◌, length, take, drop, Result, Ok, Err}
use Rattle.std.specs.List.{list_any}
use Rattle.fs_io.specs.Causes.{raised_count}
use Rattle.fs_io.specs.declared.traits.SourceFailed.{SourceFailed}
use Rattle.fs_io.specs.declared.traits.SinkFailed.{SinkFailed}

-- A source over memory: the bytes still to come, the most that one call gives, the calls that
-- fail (the first call is call 1), and how many calls and faults there were. These two counts
-- stop at the greatest u64.
pub record MemoryInput : Type 0 where
  pub left : List ℕ
  pub piece : ℕ
  pub failing : List ℕ
  pub calls : ℕ
  pub faults : ℕ

-- A sink over memory: the bytes written, how many it may hold, and the rest as for a source.
pub record MemoryOutput : Type 0 where
  pub written : List ℕ
  pub room : ℕ
  pub failing : List ℕ
  pub calls : ℕ
  pub faults : ℕ

-- the one value of either error
abbrev pub source_failed : SourceFailed
source_failed = record {}

abbrev pub sink_failed : SinkFailed
sink_failed = record {}

-- after this many calls, the next one is listed
abbrev pub is_next_listed : List ℕ → ℕ → Bool
is_next_listed failing calls = list_any (λ call. call == raised_count calls) failing

-- how many bytes a call gives: as many as are left, as there is space for and as a piece has
abbrev pub count_given : MemoryInput → ℕ → ℕ
count_given source space = min (min (length source.left) space) source.piece

-- `take` fails at the listed calls alone
abbrev pub take_fails : MemoryInput → Bool
take_fails source = is_next_listed source.failing source.calls

-- what `take` answers: how many bytes it gives
abbrev pub take_answer : MemoryInput → ℕ → Result ℕ SourceFailed
take_answer source space = if take_fails source then Err source_failed else Ok (count_given source space)

-- the source after a call: each call counts, and one that fails moves nothing and is a fault
abbrev pub after_take : MemoryInput → ℕ → MemoryInput
after_take source space =
    if take_fails source
    then record source { calls = raised_count source.calls; faults = raised_count source.faults }
    else record source {
      calls = raised_count source.calls;
      left = drop (count_given source space) source.left;
    }

-- what stands in the caller's slice then: the bytes given, and past them what stood there
abbrev pub into_after_take : MemoryInput → List ℕ → List ℕ
into_after_take source into =
    if take_fails source
    then into
    else take (count_given source (length into)) source.left ++ drop (count_given source (length into)) into

-- how many more bytes a sink may hold
abbrev pub free_room : MemoryOutput → ℕ
free_room sink = sink.room - length sink.written

-- `put` fails at the listed calls, and where there are bytes and no room is left
abbrev pub put_fails : MemoryOutput → List ℕ → Bool
put_fails sink bytes =
    is_next_listed sink.failing sink.calls || (nat_lt 0 (length bytes) && (free_room sink == 0))

-- how many of the bytes `put` writes: as many as there is room for
abbrev pub count_written : MemoryOutput → List ℕ → ℕ
count_written sink bytes = min (free_room sink) (length bytes)

-- what `put` answers: how many bytes it takes
abbrev pub put_answer : MemoryOutput → List ℕ → Result ℕ SinkFailed
put_answer sink bytes = if put_fails sink bytes then Err sink_failed else Ok (count_written sink bytes)

-- the sink after a call: each call counts, and one that fails writes nothing and is a fault
abbrev pub after_put : MemoryOutput → List ℕ → MemoryOutput
after_put sink bytes =
    if put_fails sink bytes
    then record sink { calls = raised_count sink.calls; faults = raised_count sink.faults }
    else record sink
    { calls = raised_count sink.calls; written = sink.written ++ take (count_written sink bytes) bytes }
