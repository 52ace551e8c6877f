use Rattle.std.proofs.Common.{◌≡◌, ◌++◌, ◌∷◌, codes, decimal, length, take, string_bytes}
use Rattle.std.specs.List.{flat_map}
use Rattle.run_record.specs.ReplyText.{entry_word}
use Rattle.run_record.proofs.reply_text.push_entries.Given as goal

abbrev pub invariant-loop-entry : goal.invariant-loop-entry
invariant-loop-entry l = string_bytes l.out ≡ (string_bytes l.fn.out ++ (codes "names" ++ (32 ∷ decimal (length l.entries)))) ++ flat_map (λ x. 32 ∷ entry_word x) (take l.entry-index l.entries)
