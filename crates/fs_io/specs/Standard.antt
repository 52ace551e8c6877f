-- What a source and a sink over std's readers and writers hold.
use Rattle.std.specs.Prelude.{ℕ}
use Rattle.fs_io.specs.declared.standard.StdSource.{StdSource}
use Rattle.fs_io.specs.declared.standard.StdSink.{StdSink}

-- the reader that a source takes from
abbrev pub reader_of : {R : Type 0} → StdSource R → R
reader_of source = source.inner

-- how many of its reads failed, up to the greatest u64
abbrev pub read_faults : {R : Type 0} → StdSource R → ℕ
read_faults source = source.faults

-- the writer that a sink writes to
abbrev pub writer_of : {W : Type 0} → StdSink W → W
writer_of sink = sink.inner

-- how many of its writes failed or took nothing, up to the greatest u64
abbrev pub write_faults : {W : Type 0} → StdSink W → ℕ
write_faults sink = sink.faults
