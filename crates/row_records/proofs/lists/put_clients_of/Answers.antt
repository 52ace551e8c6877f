use Rattle.std.proofs.Common.{refl}
use Rattle.byte_fields.specs.Fields.{client}
use Rattle.byte_fields.proofs.Lists.{written_more}
use Rattle.row_records.proofs.lists.put_clients_of.Goals as goal

pub loop-item-preserved : goal.loop-item-preserved
loop-item-preserved c = written_more client c.args.items.now c.loop-item.item-index _ _ c.loop-item-test.true refl c.args.writer.now c.loop-item.writer _ c.loop-item.invariant c.in_ok-client.ensures
