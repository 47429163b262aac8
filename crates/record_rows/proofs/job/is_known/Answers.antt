use Rattle.std.proofs.Common.{subst, sym}
use Rattle.cb_meaning.specs.Layouts.{HasOwnFields}
use Rattle.cb_chain.specs.Written.{HoldsJobs}
use Rattle.record_rows.proofs.job.is_known.Goals as goal

pub returns-then-is_first-clause-holds : goal.returns-then-is_first-clause-holds
returns-then-is_first-clause-holds g c = λ yes. subst HoldsJobs (sym (c.is_first.ensures c.if-is_first.true)) c.the_layouts_hold_jobs.ensures.first

pub returns-then-is_first-clause-own : goal.returns-then-is_first-clause-own
returns-then-is_first-clause-own g c = λ yes. subst HasOwnFields (sym (c.is_first.ensures c.if-is_first.true)) c.the_layouts_have_own_fields.ensures.first

pub returns-clause-holds : goal.returns-clause-holds
returns-clause-holds g c = λ yes. subst HoldsJobs (sym (c.is_second.ensures yes)) c.the_layouts_hold_jobs.ensures.second

pub returns-clause-own : goal.returns-clause-own
returns-clause-own g c = λ yes. subst HasOwnFields (sym (c.is_second.ensures yes)) c.the_layouts_have_own_fields.ensures.second
