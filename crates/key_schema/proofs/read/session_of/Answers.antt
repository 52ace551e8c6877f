use Rattle.key_schema.proofs.Forms.{no_session}
use Rattle.key_schema.proofs.read.session_of.Goals as goal

-- src/read.rt:128:1
pub returns-in_default-holder_in : goal.returns-in_default-holder_in
returns-in_default-holder_in c = no_session c.args.bytes.now c.in-Some.rest.now c.in-Some.inode c.in-Some.ensures.1 c.in_default-holder_in.ensures
