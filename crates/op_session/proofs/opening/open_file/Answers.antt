use Rattle.op_session.proofs.OpenLaws.{opened_to_read, opened_to_write}
use Rattle.op_session.proofs.opening.open_file.Goals as goal

pub returns-in-Read : goal.returns-in-Read
returns-in-Read c = opened_to_read c.args.txn.now c.requires.writes c.args.mode c.args.client c.args.id c.args.file c.requires.file c.in-Read.is

pub returns-in_ok-put_session-in-Write : goal.returns-in_ok-put_session-in-Write
returns-in_ok-put_session-in-Write c =
    let may = rw c.in-Write.is at c.requires.ready in
    rw c.in-Write.is
    (opened_to_write c.args.txn.now c.put_session.new.txn c.requires.writes c.args.client c.args.id c.in-Write.number c.in-Write.stamp c.args.file c.requires.file may
    c.in_range.ensures.id c.in_range.ensures.client c.in_range.ensures.number c.new.result c.new.ensures
    (record {
      inode = c.in_types.ensures.inode;
      length = c.in_types.ensures.length;
      truncs = c.in_types.ensures.truncs;
      chunk = c.in_types.ensures.chunk;
      stripe = c.in_types.ensures.stripe;
      start = c.in_types.ensures.start;
      mix = c.in_types.ensures.mix;
      hint = c.in_types.ensures.hint;
    })
    c.in_ok-put_session-in-Write.ensures.ok)
