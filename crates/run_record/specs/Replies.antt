-- The text of the replies.
use Rattle.std.specs.Prelude.{ℕ, ◌+◌, List, [], ◌∷◌, ◌++◌, codes, decimal, Bool, true, false}
use Rattle.std.specs.List.{flat_map}
use Rattle.fs_base.specs.Config.{Settings}
use Rattle.key_schema.specs.Keys.{spelled_key}
use Rattle.key_schema.specs.declared.key.Key.{Key}
use Rattle.run_record.specs.Hex.{hex_word}
use Rattle.run_record.specs.declared.run.Listed.{Listed}
use Rattle.txn_task.specs.declared.outcome.Receipt.{Receipt}
use Rattle.run_record.specs.declared.run.Record.{Record}
use Rattle.run_record.specs.declared.run.Summary.{Summary}
use Rattle.run_record.specs.Words.{spaced, line, number_word, setting}

-- the format and its version, and the configuration
abbrev pub header_line : Settings → List ℕ
header_line s =
    line (codes "fs3" ∷ codes "1" ∷ setting (codes "servers=") s.servers ∷ setting (codes "nodes=") s.nodes
    ∷ setting (codes "chains=") s.chains ∷ setting (codes "chunk=") s.chunk
    ∷ setting (codes "stripe=") s.stripe ∷ [])

abbrev pub mark_word : Bool → List ℕ
mark_word true = codes "commit"
mark_word false = codes "seen"

-- the client, the place and the number
abbrev pub source_words : ℕ → Receipt → List (List ℕ)
source_words client r = decimal client ∷ decimal r.op ∷ number_word r.number ∷ []

-- a stop that took the request away: the server, and which of its stops it was
abbrev pub gone_line : ℕ → Receipt → ℕ × ℕ → List ℕ
gone_line client r stop =
    spaced (codes "gone" ∷ source_words client r) ++ line (decimal stop.0 ∷ decimal stop.1 ∷ [])

-- a conflict: the attempt that met it, the later entry's version, and the key's bytes
abbrev pub conflict_line : ℕ → Receipt → ℕ → ℕ × Key → List ℕ
conflict_line client r attempt pair =
    spaced (codes "conflict" ∷ source_words client r)
    ++ line (decimal attempt ∷ decimal pair.0 ∷ hex_word (spelled_key pair.1) ∷ [])

-- the attempts counted up from this one
abbrev pub conflict_lines : ℕ → Receipt → ℕ → List (ℕ × Key) → List ℕ
conflict_lines client r attempt [] = []
conflict_lines client r attempt (pair ∷ pairs) =
    conflict_line client r attempt pair ++ conflict_lines client r (attempt + 1) pairs

-- the words of a receipt before its text
abbrev pub receipt_words : ℕ → Receipt → List (List ℕ)
receipt_words client r =
    codes "reply" ∷ decimal client ∷ decimal r.op ∷ number_word r.number ∷ number_word r.server
    ∷ mark_word r.committed ∷ decimal r.version ∷ []

-- what a request went through, and then client, place, number, server, mark and version
abbrev pub receipt_front : ℕ → Receipt → List ℕ
receipt_front client r =
    flat_map (gone_line client r) r.gone
    ++ (conflict_lines client r 1 r.conflicts ++ spaced (receipt_words client r))

-- the text comes last
abbrev pub receipt_lines : Listed → List ℕ
receipt_lines listed = receipt_front listed.client listed.receipt ++ (listed.text ++ 10 ∷ [])

abbrev pub end_line : Summary → List ℕ
end_line s =
    line (codes "end" ∷ setting (codes "ops=") s.ops ∷ setting (codes "commits=") s.commits
    ∷ setting (codes "conflicts=") s.conflicts ∷ setting (codes "stops=") s.stops
    ∷ setting (codes "waiting=") s.waiting ∷ [])

abbrev pub replies_text : Record → List ℕ
replies_text run = header_line run.config ++ (flat_map receipt_lines run.receipts ++ end_line run.summary)
