use Rattle.std.proofs.Common.{◌+◌, leb, rules, arith}
use Rattle.std.proofs.lemmas.Bool.{leb-false}
use Rattle.std.proofs.lemmas.List.Sorted.{IsPartitionPoint-from_clause, IsPartitionedBy-leb}
use Rattle.chunk_node.specs.declared.runs.Run.{Run}
use Rattle.chunk_node.proofs.Cuts.{rising, ended_of}
use Rattle.chunk_node.proofs.runs.ended_by.Goals as goal

pub returns-clause-ended : goal.returns-clause-ended
returns-clause-ended c =
    let parted = IsPartitionedBy-leb (λ (r : Run). r.offset + r.len) c.args.runs.now c.args.at (rising c.args.runs.now c.requires) in
    let point = IsPartitionPoint-from_clause (λ (r : Run). leb (r.offset + r.len) c.args.at) _ _ c.partition_point.ensures.partitioned parted (λ a r q k. search rules) in
    ended_of c.args.runs.now c.args.at c.partition_point.result c.requires c.partition_point.ensures.bound point.0

pub returns-clause-next : goal.returns-clause-next
returns-clause-next c = λ d inside.
    let parted = IsPartitionedBy-leb (λ (r : Run). r.offset + r.len) c.args.runs.now c.args.at (rising c.args.runs.now c.requires) in
    let point = IsPartitionPoint-from_clause (λ (r : Run). leb (r.offset + r.len) c.args.at) _ _ c.partition_point.ensures.partitioned parted (λ a r q k. search rules) in
    leb-false _ _ (point.1 c.partition_point.result d (omega arith) inside)
