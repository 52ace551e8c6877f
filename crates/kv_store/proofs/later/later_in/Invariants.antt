use Rattle.std.proofs.Common.{◌≡◌, drop, ◌+◌}
use Rattle.kv_store.specs.Journal.{later_from}
use Rattle.kv_store.proofs.later.later_in.Given as goal

abbrev pub invariant-loop-entry : goal.invariant-loop-entry
invariant-loop-entry g l =
    let writes_of = g.E.EntryLaw.writes_of in
    record {
      left : later_from writes_of l.reads l.at (drop l.entry-index l.entries) ≡ later_from writes_of l.reads l.version l.entries;
      at : l.at ≡ l.version + l.entry-index;
    }
