use Rattle.key_schema.proofs.Prefixes.{sessions_in}
use Rattle.key_schema.proofs.range.session_range.Goals as goal

-- src/range.rt:31:1
pub returns-clause-holds : goal.returns-clause-holds
returns-clause-holds c = sessions_in c.args.id c.get.result c.range_of.result c.get.ensures.value c.get.ensures.bound c.range_of.ensures
