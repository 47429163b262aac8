-- The end of a step whose program is over already, carried out.
use Rattle.std.proofs.Common.{◌≡◌, ◌++◌, ℕ, true, false, List, [], None, is_some, refl, sym, ap, ◌∙◌}
use Rattle.std.proofs.lemmas.List.{append-nil}
use Rattle.jcl_plan.specs.declared.entry.JobLine.{JobLine}
use Rattle.jcl_plan.specs.declared.outcome.Outcome.{Outcome}
use Rattle.jcl_plan.specs.declared.outcome.Outcome.TheVariants as outcome
use Rattle.jcl_meaning.specs.EndActs.{finished}
use Rattle.jcl_meaning.specs.States.{Answers, State}
use Rattle.jcl_meaning.specs.Stores.{Store}
use Rattle.store_core.specs.Actions.{state_at}
use Rattle.disp_core.specs.Courses.{CarriedEnd}
use Rattle.disp_core.specs.declared.course.Course.{Course}
use Rattle.turn_core.specs.Ending.{course_ended, ended_by}
use Rattle.turn_core.proofs.Turning.{finished_over}

nothing_stored : Store
nothing_stored = record { set = λ key serial. None; catalog = λ name. None }

no_answers : Answers
no_answers = record { outcomes = []; cancels = []; grants = []; primary = true }

pub course_after : (n : ℕ) (o : Outcome) (before after : Course) → before.own.runs ≡ true → is_some before.own.over ≡ true → outcome.Code 0 ≡ o →
    CarriedEnd (λ s. finished n s) o false before after → after ≡ course_ended n before
unfolding no_answers
course_after n o before after runs over is h =
    let does = h nothing_stored no_answers is refl in
    let ends = finished_over before.own.runs before.own.over n (state_at nothing_stored before.own no_answers) runs over in
    let own : after.own ≡ ended_by before.own.over n before.own = sym (ap (λ (s : State). s.own) does.its_state) ∙ ends.own in
    let lines : after.lines ≡ before.lines = does.its_lines ∙ ap (λ (l : List JobLine). before.lines ++ l) ends.lines ∙ append-nil before.lines in
    λ i. record { own = own i; lines = lines i }
