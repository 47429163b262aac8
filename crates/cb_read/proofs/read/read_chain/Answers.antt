use Rattle.std.proofs.Common.{◌∷◌, ◌∙◌, List, subst, sym, ℕ}
use Rattle.cb_meaning.specs.Spelled.{Denotes}
use Rattle.cb_queue.specs.RecordQueues.{shown}
use Rattle.cb_read.specs.Chains.{plan_of}
use Rattle.cb_read.proofs.InRange.{job_in_range}
use Rattle.cb_read.proofs.OfKind.{job_of_kind}
use Rattle.cb_read.proofs.read.read_chain.Goals as goal

pub plan_read-requires-clause-range : goal.plan_read-requires-clause-range
plan_read-requires-clause-range g c =
    let q = g.S.RecordStore.queue c.args.store.now in
    let job = c.faultless_denotes.ensures q.layout c.args.units (shown q) c.args.job c.args.first c.requires c.are_records.ensures
    (sym c.in_ok-fault.ensures ∙ c.in_default.is) in
    job_in_range q.layout.most_steps c.args.units (plan_of q c.args.first) job.1.in_range

pub plan_read-requires-clause-kinds : goal.plan_read-requires-clause-kinds
plan_read-requires-clause-kinds g c =
    let q = g.S.RecordStore.queue c.args.store.now in
    let job = c.faultless_denotes.ensures q.layout c.args.units (shown q) c.args.job c.args.first c.requires c.are_records.ensures
    (sym c.in_ok-fault.ensures ∙ c.in_default.is) in
    job_of_kind q c.args.job c.args.units c.args.first job.0 (plan_of q c.args.first) job.1

pub returns : goal.returns
returns g c =
    let q = g.S.RecordStore.queue c.args.store.now in
    let job = c.faultless_denotes.ensures q.layout c.args.units (shown q) c.args.job c.args.first c.requires c.are_records.ensures
    (sym c.in_ok-fault.ensures ∙ c.in_default.is) in
    subst (λ plan. (behind : List ℕ) × Denotes q.layout c.args.units (shown q) c.args.job (c.args.first ∷ behind) plan) (sym c.in_ok-plan_read.ensures) job
