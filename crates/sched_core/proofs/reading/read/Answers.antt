use Rattle.std.proofs.Common.{◌<◌, Err, arith, subst}
use Rattle.cb_meaning.specs.Writable.{IsWritable}
use Rattle.jcl_job.specs.Jobs.{job_of}
use Rattle.jcl_refs.specs.Plans.{most_steps}
use Rattle.machine_meaning.specs.declared.machine.TheConstants.{MOST_JOBS}
use Rattle.value_core.specs.Reads.{Gives}
use Rattle.value_core.specs.declared.refusal.ReadError.TheVariants.{Refused}
use Rattle.world_meaning.specs.Readings.{Reads}
use Rattle.sched_core.specs.Machines.{config_in, world_in}
use Rattle.sched_core.specs.Reading.{ReadsPlan}
use Rattle.sched_core.proofs.Entered.{answers_as, fit_numbered, rejected}
use Rattle.sched_core.proofs.reading.read.Goals as goal

pub accept-requires-clause-writable : goal.accept-requires-clause-writable
accept-requires-clause-writable g c =
    subst (λ n. IsWritable most_steps n c.in-Ok.plan) c.requires.named
    (c.job_is_writable.ensures c.args.units.now c.args.library.now c.args.deck.now c.in-Ok.plan c.in-Ok.ensures)

pub returns-in_ok-lines-in-Err-Refused-clause-done : goal.returns-in_ok-lines-in-Err-Refused-clause-done
returns-in_ok-lines-in-Err-Refused-clause-done g c = record {
  answer =
      let s = c.args.state.now in
      let few : s.jobs < MOST_JOBS = omega arith in
      let denotes = job_of c.args.units.now c.args.library.now in
      let denied : Gives (Err (Refused c.in-Err-Refused.cause)) (denotes c.args.deck.now) =
      subst (λ e. Gives (Err e) (denotes c.args.deck.now)) c.in-Err-Refused.field-0-is c.in-Err-Refused.ensures in
      rejected g.Q.RecordStore.queue (config_in g.Q.RecordStore.queue c.args.profile.now s) s c.requires.kept few denotes c.args.deck.now c.in-Err-Refused.cause
      c.in_ok-lines-in-Err-Refused.lines denied c.in_ok-lines-in-Err-Refused.ensures;
  fit =
      let s = c.args.state.now in
      let few : s.jobs < MOST_JOBS = omega arith in
      fit_numbered g.Q.RecordStore.queue (config_in g.Q.RecordStore.queue c.args.profile.now s) s c.requires.kept few;
  same = tt;
}

pub returns-in-Ok-clause-done : goal.returns-in-Ok-clause-done
returns-in-Ok-clause-done g c = record {
  answer =
      let s = c.args.state.now in
      let config = config_in g.Q.RecordStore.queue c.args.profile.now s in
      let denotes = job_of c.args.units.now c.args.library.now in
      answers_as c.accept.result (world_in g.Q.RecordStore.queue config s) (world_in g.Q.RecordStore.queue config c.accept.new.state)
      (ReadsPlan (world_in g.Q.RecordStore.queue config s) c.in-Ok.plan) (Reads denotes (world_in g.Q.RecordStore.queue config s) c.args.deck.now)
      (λ lines w reads. reads denotes c.args.deck.now c.in-Ok.ensures) c.accept.ensures.done.answer;
  fit = c.accept.ensures.done.fit;
  same = c.accept.ensures.done.same;
}
