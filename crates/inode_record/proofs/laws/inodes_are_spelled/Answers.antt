use Rattle.byte_fields.proofs.Spellings.{whole_is}
use Rattle.inode_record.specs.Inode.{inode}
use Rattle.inode_record.proofs.InodeLaws.{inode_is}
use Rattle.inode_record.proofs.laws.inodes_are_spelled.Goals as goal

pub returns : goal.returns
returns c = whole_is inode inode_is
