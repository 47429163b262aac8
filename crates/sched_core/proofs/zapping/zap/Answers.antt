use Rattle.std.proofs.Common.{refl, subst, sym}
use Rattle.world_meaning.specs.Zaps.{ZapsRecord}
use Rattle.sched_core.specs.Events.{LeadsTo}
use Rattle.sched_core.specs.Machines.{config_in, world_in}
use Rattle.sched_core.specs.Zapping.{IsJudged}
use Rattle.sched_core.proofs.Zapped.{fit, is_refused, leads, never_refused, refused_first}
use Rattle.sched_core.proofs.zapping.zap.Goals as goal

pub returns-in-Some-clause-done : goal.returns-in-Some-clause-done
returns-in-Some-clause-done g c = record {
  answer =
      let s = c.args.state.now in
      let config = config_in g.Q.RecordStore.queue c.args.profile.now s in (
        is_refused g.Q.RecordStore.queue config s c.requires c.args.n c.args.offset c.args.bytes.now c.in-Some.fault
            (subst (IsJudged (world_in g.Q.RecordStore.queue config s) c.args.n c.args.offset _) c.in-Some.is (c.zap_fault.ensures.judged config refl)),
        refl,
      );
  fit = c.requires.fit;
  same = λ names library. refl;
}

pub returns-in-Some-clause-refusal : goal.returns-in-Some-clause-refusal
returns-in-Some-clause-refusal g c =
    let s = c.args.state.now in
    let config = config_in g.Q.RecordStore.queue c.args.profile.now s in
    refused_first g.Q.RecordStore.queue config s c.requires c.args.n c.args.offset c.args.bytes.now c.in-Some.fault
    (subst (IsJudged (world_in g.Q.RecordStore.queue config s) c.args.n c.args.offset _) c.in-Some.is (c.zap_fault.ensures.judged config refl)) _ refl

pub returns-clause-done : goal.returns-clause-done
returns-clause-done g c = record {
  answer =
      let s = c.args.state.now in
      let config = config_in g.Q.RecordStore.queue c.args.profile.now s in
      subst (λ ls. LeadsTo (ZapsRecord (world_in g.Q.RecordStore.queue config s) c.args.n c.args.offset c.args.bytes.now ls)
      (world_in g.Q.RecordStore.queue config (record s { parts = record s.parts { queue = c.overwrite.new.queue } }))) (sym c.empty.ensures)
      (leads g.Q.RecordStore.queue config s c.requires c.args.n c.args.offset c.args.bytes.now
      (subst (IsJudged (world_in g.Q.RecordStore.queue config s) c.args.n c.args.offset _) c.in_default.is (c.zap_fault.ensures.judged config refl))
      c.overwrite.new.queue c.overwrite.ensures refl);
  fit =
      let s = c.args.state.now in
      let config = config_in g.Q.RecordStore.queue c.args.profile.now s in
      fit g.Q.RecordStore.queue config s c.requires c.args.n c.args.offset c.args.bytes.now
      (subst (IsJudged (world_in g.Q.RecordStore.queue config s) c.args.n c.args.offset _) c.in_default.is (c.zap_fault.ensures.judged config refl))
      c.overwrite.new.queue c.overwrite.ensures;
  same = tt;
}

pub returns-clause-refusal : goal.returns-clause-refusal
returns-clause-refusal g c =
    let s = c.args.state.now in
    let config = config_in g.Q.RecordStore.queue c.args.profile.now s in
    never_refused g.Q.RecordStore.queue config s c.requires c.args.n c.args.offset c.args.bytes.now
    (subst (IsJudged (world_in g.Q.RecordStore.queue config s) c.args.n c.args.offset _) c.in_default.is (c.zap_fault.ensures.judged config refl))
    c.overwrite.new.queue c.overwrite.ensures _
