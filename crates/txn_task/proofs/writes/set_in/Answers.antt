use Rattle.std.proofs.Common.{◌∙◌, true, false}
use Rattle.txn_task.proofs.WriteLaws.{Found, found, replaced, inserted, has_key_within}
use Rattle.txn_task.proofs.writes.set_in.Goals as goal

pub returns-then-has_key_at-clause-ok : goal.returns-then-has_key_at-clause-ok
returns-then-has_key_at-clause-ok c =
    let f : Found c.args.writes.now.items c.args.write.key c.place_of-place.result true
    = found c.args.writes.now.items c.as_slice.result.now c.as_slice-3.result.now c.args.write.key c.as_slice-2.result.now c.as_slice-4.result.now c.place_of-place.result c.has_key_at.result true
    c.as_slice.ensures.value c.as_slice-3.ensures.value c.as_slice-2.ensures c.as_slice-4.ensures c.place_of-place.ensures c.has_key_at.ensures c.if-has_key_at.true in
    replaced c.args.write.key c.args.write.value c.args.writes.now.items c.place_of-place.result (has_key_within c.args.write.key c.args.writes.now.items c.place_of-place.result f.test) f

pub returns-clause-ok : goal.returns-clause-ok
returns-clause-ok c =
    let f : Found c.args.writes.now.items c.args.write.key c.place_of-place.result false
    = found c.args.writes.now.items c.as_slice.result.now c.as_slice-3.result.now c.args.write.key c.as_slice-2.result.now c.as_slice-4.result.now c.place_of-place.result c.has_key_at.result false
    c.as_slice.ensures.value c.as_slice-3.ensures.value c.as_slice-2.ensures c.as_slice-4.ensures c.place_of-place.ensures c.has_key_at.ensures c.if-has_key_at.false in
    c.in_ok-insert.ensures.items ∙ inserted c.args.write.key c.args.write.value c.args.writes.now.items c.place_of-place.result f
