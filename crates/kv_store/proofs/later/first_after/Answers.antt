use Rattle.std.proofs.Common.{◌∙◌, ap, arith}
use Rattle.std.specs.List.{list_any}
use Rattle.std.specs.Ordering.{is_eq}
use Rattle.conflict_sets.specs.Keys.{key_cmp}
use Rattle.conflict_sets.specs.Reads.{range_holds}
use Rattle.conflict_sets.specs.declared.sets.KeyRead.{KeyRead}
use Rattle.conflict_sets.specs.declared.sets.RangeRead.{RangeRead}
use Rattle.kv_store.specs.Versions.{chain_at}
use Rattle.kv_store.proofs.ChainLemmas.{AreOutside_narrower}
use Rattle.kv_store.proofs.HoldLemmas.{or_either}
use Rattle.kv_store.proofs.later.first_after.Goals as goal

pub returns-clause-outside : goal.returns-clause-outside
returns-clause-outside c =
    λ key t. or_either (list_any (λ (read : KeyRead). is_eq (key_cmp key read.key)) c.args.reads.now.keys) (list_any (λ (read : RangeRead). range_holds read key) c.args.reads.now.ranges) t
    (λ u. AreOutside_narrower c.args.version c.after_keys-until.result c.args.version c.after_ranges.result (chain_at c.args.chains.now.entries key) (omega arith) c.after_ranges.ensures.until
    (c.after_keys-until.ensures.outside key (ap (list_any (λ (read : KeyRead). is_eq (key_cmp key read.key))) c.as_slice.ensures ∙ u)))
    (λ u. c.after_ranges.ensures.outside key (ap (list_any (λ (read : RangeRead). range_holds read key)) c.as_slice-2.ensures ∙ u))
