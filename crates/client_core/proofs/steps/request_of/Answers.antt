use Rattle.client_core.proofs.Fits.{valid_request}
use Rattle.client_core.proofs.steps.request_of.Goals as goal

pub returns-clause-valid : goal.returns-clause-valid
returns-clause-valid c =
    rw (c.stamp_of.ensures, c.in_ok-call_of.ensures)
    (valid_request c.args.config c.args.client c.args.server c.args.number c.args.session c.args.step.now c.requires.server c.requires.number c.is_in_ranges.ensures.inode c.is_in_ranges.ensures.number
    c.requires.op c.texts_are_bytes.ensures)
