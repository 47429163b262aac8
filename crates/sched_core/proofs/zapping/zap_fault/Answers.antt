use Rattle.std.proofs.Common.{subst, sym, ap, ◌∙◌}
use Rattle.std.specs.List.{list_any}
use Rattle.world_meaning.specs.Zaps.{is_within}
use Rattle.sched_core.specs.Cancelling.{has_job}
use Rattle.sched_core.specs.Machines.{world_in}
use Rattle.sched_core.specs.Zapping.{IsJudged}
use Rattle.sched_core.proofs.Zapped.{is_open, judged}
use Rattle.sched_core.proofs.zapping.zap_fault.Goals as goal

pub returns-clause-judged : goal.returns-clause-judged
returns-clause-judged g c = λ config layout.
    let s = c.args.state.now in
    subst (IsJudged (world_in g.Q.RecordStore.queue config s) c.args.n c.args.offset c.args.count) (sym c.fault_of_owner.ensures)
    (judged g.Q.RecordStore.queue config s c.args.n c.args.offset c.args.count c.requires layout
    (sym (c.is_within.ensures ∙ ap (λ l. is_within l.most_records c.args.n c.args.offset c.args.count) c.layout.ensures.value)
    ∙ c.if-not-is_within.false)
    c.in-Some.owner c.in-Some.ensures.some c.has_initiator-runs.result c.has.result
    (sym (c.has_initiator-runs.ensures ∙ ap (list_any (λ x. has_job x.running c.in-Some.owner)) c.as_slice.ensures.value)) (sym c.has.ensures))

pub returns-clause-within : goal.returns-clause-within
returns-clause-within g c = λ none.
    is_open (g.Q.RecordStore.queue c.args.state.now.parts.queue) c.args.n c.args.offset c.args.count c.in-Some.owner
    (sym (c.is_within.ensures ∙ ap (λ l. is_within l.most_records c.args.n c.args.offset c.args.count) c.layout.ensures.value)
    ∙ c.if-not-is_within.false)
    c.in-Some.ensures.some
