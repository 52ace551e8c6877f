use Rattle.fs_base.specs.declared.kind.Kind.TheVariants as kinds
use Rattle.op_session.proofs.opening.open_kind.Goals as goal

pub returns-in_ok-step-in-File : goal.returns-in_ok-step-in-File
returns-in_ok-step-in-File c = rw c.in-File.is (c.in_ok-step-in-File.ensures kinds.File (λ e. cc))

pub returns-in_ok-step-in-Link : goal.returns-in_ok-step-in-Link
returns-in_ok-step-in-Link c = rw c.in-Link.is (c.in_ok-step-in-Link.ensures kinds.Link (λ e. cc))
