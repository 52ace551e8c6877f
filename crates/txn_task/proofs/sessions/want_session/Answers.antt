use Rattle.std.proofs.Common.{rules, ◌≡◌, Some, None}
use Rattle.key_schema.specs.Keys.{spelled_key}
use Rattle.key_schema.specs.declared.key.Key.TheVariants as keys
use Rattle.row_records.specs.Rows.{read_session}
use Rattle.txn_task.specs.Wanted.{IsRowReading}
use Rattle.txn_task.specs.Writes.{read_of}
use Rattle.txn_task.proofs.TellLaws.{session_absent, session_never, session_there}
use Rattle.txn_task.proofs.sessions.want_session.Goals as goal

pub returns-in-Some-None : goal.returns-in-Some-None
returns-in-Some-None c =
    let kept : read_of c.args.txn.now.reads.keys (spelled_key (keys.Session c.args.file c.args.client c.args.number)) ≡ Some None = search rules in
    ((None, kept), session_absent c.args.txn.now.reads c.args.file c.args.client c.args.number (search rules) kept)

pub returns-in-None-2 : goal.returns-in-None-2
returns-in-None-2 c =
    let kept : read_of c.args.txn.now.reads.keys (spelled_key (keys.Session c.args.file c.args.client c.args.number)) ≡ Some (Some c.in-Some-Some.bytes.now) = search rules in
    let none : IsRowReading (read_session c.in-Some-Some.bytes.now) None = search rules in
    ((Some c.in-Some-Some.bytes.now, kept), session_never c.args.txn.now.reads c.args.file c.args.client c.args.number (search rules) c.in-Some-Some.bytes.now kept none)

pub returns : goal.returns
returns c =
    let kept : read_of c.args.txn.now.reads.keys (spelled_key (keys.Session c.args.file c.args.client c.args.number)) ≡ Some (Some c.in-Some-Some.bytes.now) = search rules in
    let row : IsRowReading (read_session c.in-Some-Some.bytes.now) (Some c.in-Some.row) = search rules in
    ((Some c.in-Some-Some.bytes.now, kept), session_there c.args.txn.now.reads c.args.file c.args.client c.args.number (search rules) c.in-Some-Some.bytes.now c.in-Some.row kept row)
