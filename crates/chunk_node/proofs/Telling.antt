-- The runs of some bytes of a chunk.
use Rattle.std.proofs.Common.{◌≡◌, ◌⊎◌, inl, inr, ℕ, ◌+◌, ◌-◌, ◌<◌, ◌≤◌, min, List, [], ◌++◌, length, get_or, take, drop, replicate, refl, sym, ap, subst, ◌∙◌, arith}
use Rattle.std.specs.Prelude.{Some}
use Rattle.std.proofs.lemmas.List.{append-nil, drop_all, length-drop, take_all}
use Rattle.chunk_node.specs.declared.runs.Run.{Run}
use Rattle.chunk_node.specs.Reading.{run_bytes, InRow, AreRuns, bytes_read}
use Rattle.chunk_node.specs.Joining.{ended_runs, IsJoined, IsReadSoFar}
use Rattle.chunk_node.proofs.Cuts.{whole_bytes, whole_length, offset_at, take_at, end_at}
use Rattle.chunk_node.proofs.Joins.{ended_bytes, ended_row}
use Rattle.chunk_node.proofs.Parts.{part_longer, part_enough, take_padded}

-- those of the first so many runs
pub record TellsSoFar (runs : List Run) (offset end i : ℕ) (out : List Run) (run : Run) : Type 0 where
  pub within : i ≤ length runs
  pub told : IsReadSoFar (take i runs) offset end out run

pub tells_none : (runs : List Run) (offset end i : ℕ) → i ≤ length runs → length (run_bytes (take i runs)) ≤ offset → (out : List Run) → out ≡ [] → TellsSoFar runs offset end i out (record { offset = offset; len = 0; fill = 0 })
tells_none runs offset end i within early out none =
    record {
      within = within;
      told = subst (λ (xs : List Run). IsReadSoFar (take i runs) offset end xs (record { offset = offset; len = 0; fill = 0 })) (sym none)
          (record {
            goes = record { row = tt; apart = tt; at = omega arith; begun = λ e. refl };
            bytes = sym (ap (take (end - offset)) (drop_all offset (run_bytes (take i runs)) early) ∙ take_all (end - offset) [] (omega arith));
            ends = omega arith;
          });
    }

module _ (runs : List Run) (offset end i : ℕ) (out : List Run) (run : Run) (rising : offset ≤ end) (h : TellsSoFar runs offset end i out run) where
  -- one run more
  pub tells_next : (d : Run) (len : ℕ) (new : List Run) (next : Run) → InRow 0 runs → i < length runs
      → len ≡ min ((get_or runs i d).len - (offset - (get_or runs i d).offset)) (end - run.offset - run.len) → IsJoined out run len (get_or runs i d).fill new next
      → next.offset + next.len ≡ run.offset + run.len + len → TellsSoFar runs offset end (i + 1) new next
  tells_next d len new next row inside is joined to =
      let at : (get_or runs i d).offset ≡ length (run_bytes (take i runs)) = offset_at runs i d row inside in
      let long : (get_or runs i d).offset + (get_or runs i d).len ≡ length (run_bytes (take (i + 1) runs)) = end_at runs i d row inside in
      let ends : run.offset + run.len ≡ offset + min (end - offset) (length (run_bytes (take i runs)) - offset) = h.told.ends in
      let same : len ≡ min (end - offset - (length (run_bytes (take i runs)) - offset)) ((get_or runs i d).len - (offset - length (run_bytes (take i runs)))) = omega (arith, is) in
      record {
        within = omega arith;
        told = record {
          goes = joined.goes [] offset h.told.goes;
          bytes = joined.bytes [] ∙ ap (λ (bs : List ℕ). bs ++ replicate len (get_or runs i d).fill) h.told.bytes
              ∙ ap (λ k. take (end - offset) (drop offset (run_bytes (take i runs))) ++ replicate k (get_or runs i d).fill) same
              ∙ sym (part_longer (end - offset) offset (run_bytes (take i runs)) (get_or runs i d).len (get_or runs i d).fill)
              ∙ ap (λ (bs : List ℕ). take (end - offset) (drop offset bs)) (sym (take_at runs i d row inside));
          ends = omega (arith, to);
        };
      }

  -- the others lie behind
  pub tells_all : (length runs ≤ i) ⊎ (end ≤ length (run_bytes (take i runs))) → IsReadSoFar runs offset end out run
  tells_all (inl over) =
      subst (λ (xs : List Run). IsReadSoFar xs offset end out run) (take_all i runs over) h.told
  tells_all (inr far) =
      let ends : run.offset + run.len ≡ offset + min (end - offset) (length (run_bytes (take i runs)) - offset) = h.told.ends in
      record {
        goes = h.told.goes;
        bytes = h.told.bytes ∙ sym (ap (λ (bs : List ℕ). take (end - offset) (drop offset bs)) (whole_bytes i runs)
            ∙ part_enough (end - offset) offset (run_bytes (take i runs)) (run_bytes (drop i runs)) (omega arith));
        ends = omega (arith, whole_length i runs);
      }

-- with zeros behind them
pub read_runs : (runs : List Run) (offset end len absent : ℕ) (out new : List Run) (run whole : Run) → end ≡ offset + len → IsReadSoFar runs offset end out run → absent ≡ end - run.offset - run.len
    → IsJoined out run absent 0 new whole → AreRuns (bytes_read (Some (run_bytes runs)) offset len) offset (ended_runs new whole)
read_runs runs offset end len absent out new run whole is told rest joined =
    let ends : run.offset + run.len ≡ offset + min (end - offset) (length (run_bytes runs) - offset) = told.ends in
    let gap : absent ≡ len - length (drop offset (run_bytes runs)) = omega (arith, is, rest, length-drop offset (run_bytes runs)) in
    let same : end - offset ≡ len = omega (arith, is) in (
      ended_bytes new whole ∙ joined.bytes [] ∙ ap (λ (bs : List ℕ). bs ++ replicate absent 0) (told.bytes ∙ ap (λ k. take k (drop offset (run_bytes runs))) same)
          ∙ ap (λ k. take len (drop offset (run_bytes runs)) ++ replicate k 0) gap
          ∙ sym (take_padded len len (drop offset (run_bytes runs)) (omega arith)),
      subst (InRow offset) (append-nil (ended_runs new whole)) (ended_row offset new whole [] (joined.goes [] offset told.goes) tt tt),
    )
