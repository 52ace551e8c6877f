use Rattle.std.proofs.Common.{◌≡◌, ◌++◌, ◌∷◌, codes, decimal, length, take, string_bytes}
use Rattle.std.specs.List.{flat_map}
use Rattle.run_record.specs.ReplyText.{data_word}
use Rattle.run_record.proofs.reply_text.push_data.Given as goal

abbrev pub invariant-loop-run : goal.invariant-loop-run
invariant-loop-run l = string_bytes l.out ≡ (string_bytes l.fn.out ++ (codes "data" ++ (32 ∷ decimal (length l.runs)))) ++ flat_map (λ x. 32 ∷ data_word x) (take l.run-index l.runs)
