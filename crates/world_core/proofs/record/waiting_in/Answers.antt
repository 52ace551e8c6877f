use Rattle.std.proofs.Common.{◌∙◌, arith}
use Rattle.world_core.proofs.Waiting.{page_waits}
use Rattle.world_core.proofs.record.waiting_in.Goals as goal

pub returns : goal.returns
returns c =
    c.len.ensures
    ∙ page_waits c.args.store.now c.front.result 4294967295 c.as_slice.result.now c.as_slice-2.result.now c.in_ok-rows.rows c.requires c.sound_store.ensures.sound c.sound_store.ensures.few (omega arith)
    c.front.ensures.front c.as_slice.ensures c.as_slice-2.ensures c.in_ok-rows.ensures
