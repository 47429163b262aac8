use Rattle.std.proofs.Common.{List, None, drop, ap, sym, ◌-◌, ◌∙◌}
use Rattle.jcl_plan.specs.declared.entry.JobLine.{JobLine}
use Rattle.jcl_meaning.specs.States.{Fixed}
use Rattle.jcl_meaning.specs.EndActs.{left_at}
use Rattle.jcl_meaning.specs.Programs.{ending_of}
use Rattle.disp_core.specs.Acting.{Meets, MeetsIfGranted, at_site, disposition, taking}
use Rattle.disp_core.specs.Courses.{fixed_by}
use Rattle.disp_core.specs.Grants.{primary_granted}
use Rattle.disp_core.specs.declared.site.Site.{Site}
use Rattle.std.proofs.Common.{subst}
use Rattle.job_text.specs.Places.{dd_at, step_at}
use Rattle.turn_core.specs.Ending.{ended_at}
use Rattle.turn_core.specs.Passing.{is_idle}
use Rattle.turn_core.specs.Places.{IsThere, action_of}
use Rattle.turn_core.specs.declared.todo.Task.TheVariants as task
use Rattle.turn_core.specs.Performing.{StoreAnswers, volume_started}
use Rattle.turn_core.proofs.Places.{step_at_is}
use Rattle.turn_core.proofs.Performing.{PerformsTask, as_told, performs_ask, performs_dispose, performs_finish, performs_left, performs_receive, performs_start, performs_take}
use Rattle.turn_core.proofs.perform.perform.Goals as goal

pub returns-in_ok-begin-in-Start-clause-ok : goal.returns-in_ok-begin-in-Start-clause-ok
returns-in_ok-begin-in-Start-clause-ok g c =
    let grants : StoreAnswers = record { new = g.S.JobStore.grants_new c.args.setting.now.job c.args.store.now; growth = g.S.JobStore.grants_growth c.args.setting.now.job c.args.store.now } in
    let seen = g.S.JobStore.seen c.args.setting.now.job c.args.store.now in
    let fixed : Fixed = fixed_by c.args.setting.now.given in
    let programs = c.args.setting.now.programs.now in
    let cancel = c.args.setting.now.cancelled in
    let before = c.args.course.now in
    let steps = (g.T.JobText.plan c.args.text.now).steps in
    subst (PerformsTask programs steps grants cancel fixed seen before seen c.begin.new.course c.acted.result) (sym c.in-Start.is)
    (as_told c.acted.result _ programs steps grants cancel fixed (action_of steps (task.Start c.in-Start.n)) seen seen before c.begin.new.course c.acted.ensures
    (performs_start programs steps grants cancel fixed c.in-Start.n (step_at steps (c.in-Start.n - 1)) seen before c.begin.new.course c.in_ok-begin-in-Start.ensures.ok))

pub returns-in_ok-taken-in-Take-clause-ok : goal.returns-in_ok-taken-in-Take-clause-ok
returns-in_ok-taken-in-Take-clause-ok g c =
    let grants : StoreAnswers = record { new = g.S.JobStore.grants_new c.args.setting.now.job c.args.store.now; growth = g.S.JobStore.grants_growth c.args.setting.now.job c.args.store.now } in
    let seen = g.S.JobStore.seen c.args.setting.now.job c.args.store.now in
    let fixed : Fixed = fixed_by c.args.setting.now.given in
    let programs = c.args.setting.now.programs.now in
    let cancel = c.args.setting.now.cancelled in
    let before = c.args.course.now in
    let steps = (g.T.JobText.plan c.args.text.now).steps in
    let d = dd_at (step_at steps (c.in-Take.n - 1)).dds (c.in-Take.dd - 1) in
    let after = c.take.new.course in
    subst (PerformsTask programs steps grants cancel fixed seen before (g.S.JobStore.seen c.args.setting.now.job c.take.new.store) after c.acted-in-Take.result) (sym c.in-Take.is)
    (as_told c.acted-in-Take.result _ programs steps grants cancel fixed (action_of steps (task.Take c.in-Take.n c.in-Take.dd)) seen (g.S.JobStore.seen c.args.setting.now.job c.take.new.store) before after c.acted-in-Take.ensures
    (performs_take programs steps grants cancel fixed c.in-Take.n c.in-Take.dd d seen (g.S.JobStore.seen c.args.setting.now.job c.take.new.store) before after
    c.in_ok-taken-in-Take.taken.meets c.in_ok-taken-in-Take.taken.made (ap (λ t. is_idle (action_of steps t) before.own) (sym c.in-Take.is) ∙ c.requires.acts)
    (subst (λ (at : Site). MeetsIfGranted (primary_granted (g.S.JobStore.grants_new at.job c.args.store.now) fixed at.step at.dd d.kind (g.S.JobStore.seen at.job c.args.store.now) before.own)
    (taking c.args.setting.now.given at d.kind) (g.S.JobStore.seen at.job c.args.store.now) before (g.S.JobStore.seen at.job c.take.new.store) after c.in_ok-taken-in-Take.taken)
    c.site_of-at.ensures (c.in_ok-taken-in-Take.ensures d.kind (sym c.take_text-reads.ensures)).ok)))

pub returns-in_ok-ask-in-Ask-clause-ok : goal.returns-in_ok-ask-in-Ask-clause-ok
returns-in_ok-ask-in-Ask-clause-ok g c =
    let grants : StoreAnswers = record { new = g.S.JobStore.grants_new c.args.setting.now.job c.args.store.now; growth = g.S.JobStore.grants_growth c.args.setting.now.job c.args.store.now } in
    let seen = g.S.JobStore.seen c.args.setting.now.job c.args.store.now in
    let fixed : Fixed = fixed_by c.args.setting.now.given in
    let programs = c.args.setting.now.programs.now in
    let cancel = c.args.setting.now.cancelled in
    let before = c.args.course.now in
    let steps = (g.T.JobText.plan c.args.text.now).steps in
    subst (PerformsTask programs steps grants cancel fixed seen before (g.S.JobStore.seen c.args.setting.now.job c.ask.new.store) c.ask.new.course (record { made = None; starts = c.started_at.result; cancelled = c.args.setting.now.cancelled })) (sym c.in-Ask.is)
    (performs_ask programs steps grants cancel fixed (step_at steps (c.in-Ask.n - 1)) c.in-Ask.wants seen (g.S.JobStore.seen c.args.setting.now.job c.ask.new.store) before c.ask.new.course
    c.started_at.result (ap (λ t. is_idle (action_of steps t) before.own) (sym c.in-Ask.is) ∙ c.requires.acts) c.len-place.result c.len-place.ensures
    (c.started_at.ensures ∙ ap (λ (ls : List JobLine). volume_started (drop c.len-place.result ls)) c.as_slice.ensures) c.in_ok-ask-in-Ask.ensures.ok.its_act)

pub returns-in_ok-receive-in-Receive-clause-ok : goal.returns-in_ok-receive-in-Receive-clause-ok
returns-in_ok-receive-in-Receive-clause-ok g c =
    let grants : StoreAnswers = record { new = g.S.JobStore.grants_new c.args.setting.now.job c.args.store.now; growth = g.S.JobStore.grants_growth c.args.setting.now.job c.args.store.now } in
    let seen = g.S.JobStore.seen c.args.setting.now.job c.args.store.now in
    let fixed : Fixed = fixed_by c.args.setting.now.given in
    let programs = c.args.setting.now.programs.now in
    let cancel = c.args.setting.now.cancelled in
    let before = c.args.course.now in
    let steps = (g.T.JobText.plan c.args.text.now).steps in
    subst (PerformsTask programs steps grants cancel fixed seen before (g.S.JobStore.seen c.args.setting.now.job c.receive.new.store) c.receive.new.course c.acted-in-Receive.result) (sym c.in-Receive.is)
    (as_told c.acted-in-Receive.result _ programs steps grants cancel fixed (action_of steps task.Receive) seen (g.S.JobStore.seen c.args.setting.now.job c.receive.new.store) before c.receive.new.course c.acted-in-Receive.ensures
    (performs_receive programs steps grants cancel fixed seen (g.S.JobStore.seen c.args.setting.now.job c.receive.new.store) before c.receive.new.course
    (ap (λ t. is_idle (action_of steps t) before.own) (sym c.in-Receive.is) ∙ c.requires.acts) c.in_ok-receive-in-Receive.ensures.ok))

pub returns-in_ok-finish-in-Finish-clause-ok : goal.returns-in_ok-finish-in-Finish-clause-ok
returns-in_ok-finish-in-Finish-clause-ok g c =
    let grants : StoreAnswers = record { new = g.S.JobStore.grants_new c.args.setting.now.job c.args.store.now; growth = g.S.JobStore.grants_growth c.args.setting.now.job c.args.store.now } in
    let seen = g.S.JobStore.seen c.args.setting.now.job c.args.store.now in
    let fixed : Fixed = fixed_by c.args.setting.now.given in
    let programs = c.args.setting.now.programs.now in
    let cancel = c.args.setting.now.cancelled in
    let before = c.args.course.now in
    let steps = (g.T.JobText.plan c.args.text.now).steps in
    subst (PerformsTask programs steps grants cancel fixed seen before seen c.finish.new.course c.acted-in-Finish.result) (sym c.in-Finish.is)
    (as_told c.acted-in-Finish.result _ programs steps grants cancel fixed (action_of steps (task.Finish c.in-Finish.n)) seen seen before c.finish.new.course c.acted-in-Finish.ensures
    (performs_finish programs steps grants cancel fixed c.in-Finish.n (step_at steps (c.in-Finish.n - 1)) c.ending_of-outcome.result seen before c.finish.new.course
    (ap (λ t. is_idle (action_of steps t) before.own) (sym c.in-Finish.is) ∙ c.requires.acts)
    (ap (λ t. ended_at (action_of steps t) before.own) (sym c.in-Finish.is) ∙ c.requires.goes_on)
    (step_at_is steps c.in-Finish.n (subst (IsThere steps) c.in-Finish.is c.requires.there))
    (c.ending_of-outcome.ensures ∙ ap (ending_of programs) c.program-program.ensures) c.in_ok-finish-in-Finish.ensures.ok))

pub returns-in_ok-dispose-in-Dispose-clause-ok : goal.returns-in_ok-dispose-in-Dispose-clause-ok
returns-in_ok-dispose-in-Dispose-clause-ok g c =
    let grants : StoreAnswers = record { new = g.S.JobStore.grants_new c.args.setting.now.job c.args.store.now; growth = g.S.JobStore.grants_growth c.args.setting.now.job c.args.store.now } in
    let seen = g.S.JobStore.seen c.args.setting.now.job c.args.store.now in
    let fixed : Fixed = fixed_by c.args.setting.now.given in
    let programs = c.args.setting.now.programs.now in
    let cancel = c.args.setting.now.cancelled in
    let before = c.args.course.now in
    let steps = (g.T.JobText.plan c.args.text.now).steps in
    let d = dd_at (step_at steps (c.in-Dispose.n - 1)).dds (c.in-Dispose.dd - 1) in
    let after = c.dispose.new.course in
    subst (PerformsTask programs steps grants cancel fixed seen before (g.S.JobStore.seen c.args.setting.now.job c.dispose.new.store) after c.acted-in-Dispose.result) (sym c.in-Dispose.is)
    (as_told c.acted-in-Dispose.result _ programs steps grants cancel fixed (action_of steps (task.Dispose c.in-Dispose.n c.in-Dispose.dd)) seen (g.S.JobStore.seen c.args.setting.now.job c.dispose.new.store) before after c.acted-in-Dispose.ensures
    (performs_dispose programs steps grants cancel fixed c.in-Dispose.n c.in-Dispose.dd d seen (g.S.JobStore.seen c.args.setting.now.job c.dispose.new.store) before after
    c.in_ok-dispose-in-Dispose.field-0 (ap (λ t. is_idle (action_of steps t) before.own) (sym c.in-Dispose.is) ∙ c.requires.acts)
    (subst (λ (at : Site). Meets (disposition c.args.setting.now.given at d.kind) (g.S.JobStore.seen at.job c.args.store.now) before
    (g.S.JobStore.seen at.job c.dispose.new.store) after c.in_ok-dispose-in-Dispose.field-0)
    c.site_of-at-in-Dispose.ensures (c.in_ok-dispose-in-Dispose.ensures d.kind (sym c.disp_text-reads.ensures)).ok)))

pub returns-in_ok-leave-in-Left-clause-ok : goal.returns-in_ok-leave-in-Left-clause-ok
returns-in_ok-leave-in-Left-clause-ok g c =
    let grants : StoreAnswers = record { new = g.S.JobStore.grants_new c.args.setting.now.job c.args.store.now; growth = g.S.JobStore.grants_growth c.args.setting.now.job c.args.store.now } in
    let seen = g.S.JobStore.seen c.args.setting.now.job c.args.store.now in
    let fixed : Fixed = fixed_by c.args.setting.now.given in
    let programs = c.args.setting.now.programs.now in
    let cancel = c.args.setting.now.cancelled in
    let before = c.args.course.now in
    let steps = (g.T.JobText.plan c.args.text.now).steps in
    let d = dd_at (step_at steps (c.in-Left.n - 1)).dds (c.in-Left.dd - 1) in
    let after = c.leave.new.course in
    subst (PerformsTask programs steps grants cancel fixed seen before (g.S.JobStore.seen c.args.setting.now.job c.leave.new.store) after c.acted-in-Left.result) (sym c.in-Left.is)
    (as_told c.acted-in-Left.result _ programs steps grants cancel fixed (action_of steps (task.Left c.in-Left.n c.in-Left.dd)) seen (g.S.JobStore.seen c.args.setting.now.job c.leave.new.store) before after c.acted-in-Left.ensures
    (performs_left programs steps grants cancel fixed c.in-Left.n c.in-Left.dd d seen (g.S.JobStore.seen c.args.setting.now.job c.leave.new.store) before after
    c.in_ok-leave-in-Left.field-0 (ap (λ t. is_idle (action_of steps t) before.own) (sym c.in-Left.is) ∙ c.requires.acts)
    (subst (λ (at : Site). Meets (at_site left_at c.args.setting.now.given at d.kind) (g.S.JobStore.seen at.job c.args.store.now) before
    (g.S.JobStore.seen at.job c.leave.new.store) after c.in_ok-leave-in-Left.field-0)
    c.site_of-at-in-Left.ensures (c.in_ok-leave-in-Left.ensures d.kind (sym c.disp_text-reads-in-Left.ensures)).ok)))
