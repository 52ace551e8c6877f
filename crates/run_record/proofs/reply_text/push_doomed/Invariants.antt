use Rattle.std.proofs.Common.{◌≡◌, ◌++◌, ◌∷◌, codes, decimal, length, take, string_bytes}
use Rattle.std.specs.List.{flat_map}
use Rattle.run_record.specs.ReplyText.{doomed_word}
use Rattle.run_record.proofs.reply_text.push_doomed.Given as goal

abbrev pub invariant-loop-inode : goal.invariant-loop-inode
invariant-loop-inode l = string_bytes l.out ≡ (string_bytes l.fn.out ++ (codes "ids" ++ (32 ∷ decimal (length l.inodes)))) ++ flat_map (λ x. 32 ∷ doomed_word x) (take l.inode-index l.inodes)
