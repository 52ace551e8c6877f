use Rattle.byte_fields.proofs.Bytes.{front_reads}
use Rattle.byte_fields.proofs.cursor.Cursor.take.Goals as goal

pub returns-clause-gives : goal.returns-clause-gives
returns-clause-gives c =
    front_reads c.args.count c.self.inside.rest.now c.args.self.now c.split_at.result.0.now c.split_at.result.1.now c.self.view_is c.if-count-self.false c.split_at.ensures.front c.split_at.ensures.back c.known_bytes.ensures
