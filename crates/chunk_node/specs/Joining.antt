-- How runs are put together, and where they are cut.
use Rattle.std.specs.Prelude.{◌≡◌, ◌≢◌, ◌⊎◌, ℕ, ◌+◌, ◌-◌, ◌<◌, ◌≤◌, min, List, [], ◌∷◌, ◌++◌, length, take, drop, replicate, nat_lt, if◌then◌else◌}
use Rattle.chunk_node.specs.declared.runs.Run.{Run}
use Rattle.chunk_node.specs.Reading.{run_bytes, BeginsApart, InRow}

-- ---- a list of runs that grows

-- the last run is of another byte
abbrev pub EndsApart : List Run → ℕ → Type 0
EndsApart [] fill = Unit {0}
EndsApart (run ∷ []) fill = run.fill ≢ fill
EndsApart (run ∷ next ∷ runs) fill = EndsApart (next ∷ runs) fill

-- these are in row, and one more goes on behind them, which may still grow
pub record GoesOn (from : ℕ) (runs : List Run) (run : Run) : Type 0 where
  pub row : InRow from runs
  pub apart : EndsApart runs run.fill
  pub at : run.offset ≡ from + length (run_bytes runs)
  pub begun : run.len ≡ 0 → runs ≡ []

-- with it, unless it is empty
abbrev pub ended_runs : List Run → Run → List Run
ended_runs runs run = if nat_lt 0 run.len then runs ++ run ∷ [] else runs

abbrev pub bytes_so_far : List Run → Run → List ℕ
bytes_so_far runs run = run_bytes runs ++ replicate run.len run.fill

-- so many bytes more make these runs, and the next that goes on behind them, whatever lies before
pub record IsJoined (old : List Run) (run : Run) (len fill : ℕ) (new : List Run) (next : Run) : Type 0 where
  pub goes : (before : List Run) (from : ℕ) → GoesOn from (before ++ old) run
      → GoesOn from (before ++ new) next
  pub bytes : (before : List Run)
      → bytes_so_far (before ++ new) next ≡ bytes_so_far (before ++ old) run ++ replicate len fill
  pub last : len ≢ 0 → next.fill ≡ fill

-- ---- a list of runs that is cut

-- the first bytes, so many: so many whole runs, and a part of the next
pub record IsFront (runs : List Run) (size count : ℕ) (run : Run) : Type 0 where
  pub within : count ≤ length runs
  pub goes : GoesOn 0 (take count runs) run
  pub ends : run.offset + run.len ≡ size
  pub bytes : bytes_so_far (take count runs) run ≡ take size (run_bytes runs)

-- the bytes behind the first so many: a part of one run, and those behind it
pub record IsRest (runs : List Run) (size count : ℕ) (run : Run) : Type 0 where
  pub within : count ≤ length runs
  pub bytes : replicate run.len run.fill ++ run_bytes (drop count runs) ≡ drop size (run_bytes runs)
  pub row : InRow (size + run.len) (drop count runs)
  pub apart : BeginsApart run.fill (drop count runs)
  pub over : run.len ≡ 0 → count ≡ length runs
  pub past : (size < length (run_bytes (take count runs))) ⊎ (count ≡ length runs)

-- ---- a list of runs that is read

-- the bytes from an offset on up to an end, as far as there are any
pub record IsReadSoFar (runs : List Run) (offset end : ℕ) (out : List Run) (run : Run) : Type 0 where
  pub goes : GoesOn offset out run
  pub bytes : bytes_so_far out run ≡ take (end - offset) (drop offset (run_bytes runs))
  pub ends : run.offset + run.len ≡ offset + min (end - offset) (length (run_bytes runs) - offset)
