-- The end of a step whose program is over already: it says nothing, and enters how the program ended.
use Rattle.std.specs.Prelude.{ℕ, ◌∷◌, Option, Some, None, remove}
use Rattle.jcl_plan.specs.declared.outcome.Outcome.{Outcome}
use Rattle.jcl_meaning.specs.declared.state.Own.{Own}
use Rattle.jcl_meaning.specs.Agendas.{Action, Finish}
use Rattle.jcl_meaning.specs.EndActs.{passed_after}
use Rattle.disp_core.specs.declared.course.Course.{Course}
use Rattle.turn_core.specs.declared.ended.BeforeEnd.{BeforeEnd}

-- the number of the step that ends so
abbrev pub number_over : Option Outcome → ℕ → Option ℕ
number_over None n = None
number_over (Some o) n = Some n

abbrev pub ended_at : Action → Own → Option ℕ
ended_at (Finish n) own = number_over own.over n
ended_at other own = None

abbrev pub ended_by : Option Outcome → ℕ → Own → Own
ended_by None n own = own
ended_by (Some o) n own = record own {
  passed = passed_after o n own.passed;
  ended = record { step = n; outcome = o } ∷ own.ended;
  over = Some o;
  due = None;
  lines = 0;
}

abbrev pub course_ended : ℕ → Course → Course
course_ended n c = record { own = ended_by c.own.over n c.own; lines = c.lines }

-- what such an end changes, as it was, and how it is put back
abbrev pub kept_of : Own → BeforeEnd
kept_of own = record { passed = own.passed; over = own.over; due = own.due; lines = own.lines }

abbrev pub own_before : Own → BeforeEnd → Own
own_before own before = record own {
  passed = before.passed;
  ended = remove own.ended 0;
  over = before.over;
  due = before.due;
  lines = before.lines;
}
