use Rattle.std.proofs.Common.{subst}
use Rattle.fs_base.specs.Config.{Settings}
use Rattle.request_run.specs.Entries.{entries_of}
use Rattle.run_record.specs.Sound.{IsSoundJournal}
use Rattle.request_run.proofs.Continuing.{config_grown, covered_after, growth_by, growth_of, may_answer, may_take, open_grown, serves}
use Rattle.request_run.proofs.requests.serve.Goals as goal

pub exchange-requires-clause-may : goal.exchange-requires-clause-may
exchange-requires-clause-may c = may_answer c.requires.served c.args.serving.ask c.requires.pending

pub exchange-requires-clause-fits : goal.exchange-requires-clause-fits
exchange-requires-clause-fits c = λ new answer is. may_take c.args.store.now.config (entries_of c.args.store.now.journal) new c.args.serving.task c.args.serving.ask answer c.requires.pending is

pub sound_store-requires-2 : goal.sound_store-requires-2
sound_store-requires-2 c = open_grown (growth_by c.args.store.now c.exchange.new.store c.args.serving.task.request (growth_of c.args.store.now c.exchange.new.store c.args.serving.task c.args.serving.ask c.exchange.ensures.grows c.args.store.now.config c.requires.pending)) c.requires.opened

pub returns-clause-served : goal.returns-clause-served
returns-clause-served c =
    let growth = growth_by c.args.store.now c.exchange.new.store c.args.serving.task.request (growth_of c.args.store.now c.exchange.new.store c.args.serving.task c.args.serving.ask c.exchange.ensures.grows c.args.store.now.config c.requires.pending) in
    serves c.requires.served (entries_of c.exchange.new.store.journal) c.args.serving.ask c.in_ok-ask.ask c.exchange.new.task c.sound_store.ensures.sound
    (subst (λ (C : Settings). IsSoundJournal C (entries_of c.exchange.new.store.journal)) (config_grown growth) c.sound_store-2.ensures.sound) c.requires.pending c.in_ok-ask.ensures.exchanged

pub returns-in_err-ask-clause-grows : goal.returns-in_err-ask-clause-grows
returns-in_err-ask-clause-grows c = growth_of c.args.store.now c.exchange.new.store c.args.serving.task c.args.serving.ask c.exchange.ensures.grows c.args.store.now.config c.requires.pending

pub returns-clause-grows : goal.returns-clause-grows
returns-clause-grows c = growth_of c.args.store.now c.exchange.new.store c.args.serving.task c.args.serving.ask c.exchange.ensures.grows c.args.store.now.config c.requires.pending

pub returns-clause-covered : goal.returns-clause-covered
returns-clause-covered c = covered_after c.args.store.now c.exchange.new.store c.args.serving.task c.args.serving.ask c.exchange.ensures.grows c.args.store.now.config c.args.serving.task.attempts c.args.serving.front c.args.serving.task.request c.requires.served c.requires.pending
