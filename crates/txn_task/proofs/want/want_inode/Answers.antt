use Rattle.std.proofs.Common.{rules, ◌≡◌, Some, None}
use Rattle.key_schema.specs.Keys.{spelled_key}
use Rattle.key_schema.specs.declared.key.Key.TheVariants as keys
use Rattle.inode_record.specs.Inode.{read_inode}
use Rattle.txn_task.specs.Wanted.{IsRowReading}
use Rattle.txn_task.specs.Writes.{read_of}
use Rattle.txn_task.proofs.TellLaws.{inode_absent, inode_never, inode_there}
use Rattle.txn_task.proofs.want.want_inode.Goals as goal

pub returns-in-Some-None : goal.returns-in-Some-None
returns-in-Some-None c =
    let kept : read_of c.args.txn.now.reads.keys (spelled_key (keys.Inode c.args.id)) ≡ Some None = search rules in
    ((None, kept), inode_absent c.args.txn.now.reads c.args.id (search rules) kept)

pub returns-in-None-2 : goal.returns-in-None-2
returns-in-None-2 c =
    let kept : read_of c.args.txn.now.reads.keys (spelled_key (keys.Inode c.args.id)) ≡ Some (Some c.in-Some-Some.bytes.now) = search rules in
    let none : IsRowReading (read_inode c.in-Some-Some.bytes.now) None = search rules in
    ((Some c.in-Some-Some.bytes.now, kept), inode_never c.args.txn.now.reads c.args.id c.in-Some-Some.bytes.now (search rules) kept none)

pub returns : goal.returns
returns c =
    let kept : read_of c.args.txn.now.reads.keys (spelled_key (keys.Inode c.args.id)) ≡ Some (Some c.in-Some-Some.bytes.now) = search rules in
    let row : IsRowReading (read_inode c.in-Some-Some.bytes.now) (Some c.in-Some.row) = search rules in
    ((Some c.in-Some-Some.bytes.now, kept), inode_there c.args.txn.now.reads c.args.id c.in-Some-Some.bytes.now c.in-Some.row (search rules) kept row)
