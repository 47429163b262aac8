-- An agenda ends with Over, and so does a job.
use Rattle.std.proofs.Common.{◌≡◌, ◌≤◌, ◌-◌, ◌++◌, ℕ, zero, suc, List, [], ◌∷◌, Some, append_assoc, arith, drop, length, length-drop, leb-true, refl, sym, ap, ◌∙◌, subst}
use Rattle.jcl_plan.specs.declared.entry.JobLine.{JobLine}
use Rattle.jcl_plan.specs.declared.plan.JobPlan.{JobPlan}
use Rattle.jcl_meaning.specs.declared.program.SoloProgram.{SoloProgram}
use Rattle.jcl_meaning.specs.declared.state.Own.{Own}
use Rattle.jcl_meaning.specs.Acts.{act}
use Rattle.jcl_meaning.specs.Agendas.{Action, Over, agenda, lefts_from, steps_from}
use Rattle.jcl_meaning.specs.Programs.{moves_of}
use Rattle.jcl_meaning.specs.States.{Answers, Fixed, State}
use Rattle.world_meaning.specs.Lenses.{seen}
use Rattle.world_meaning.specs.Turns.{Advanced, advance, answers_due, granting, state_in, unless_silent}
use Rattle.turn_laws.specs.Decided.{JobsEndWithOver}

-- the last of some actions, if there is one, is Over
abbrev EndsOver : List Action → Type 0
EndsOver [] = Unit {0}
EndsOver (a ∷ actions) = (actions ≡ [] → a ≡ Over) × EndsOver actions

over_behind : (actions : List Action) → EndsOver (actions ++ (Over ∷ []))
over_behind [] = (λ e. refl, tt)
over_behind (a ∷ []) = (λ e. absurd cc, over_behind [])
over_behind (a ∷ b ∷ actions) = (λ e. absurd cc, over_behind (b ∷ actions))

over_dropped : (count : ℕ) (actions : List Action) → EndsOver actions → EndsOver (drop count actions)
over_dropped zero actions ends = ends
over_dropped (suc count) [] ends = ends
over_dropped (suc count) (a ∷ actions) ends = over_dropped count actions ends.1

agenda_ends : (plan : JobPlan) (programs : List SoloProgram) → EndsOver (agenda plan programs)
agenda_ends plan programs =
    subst EndsOver (append_assoc (steps_from (moves_of programs) 1 plan.steps) (lefts_from 1 plan.steps) (Over ∷ []))
    (over_behind (steps_from (moves_of programs) 1 plan.steps ++ lefts_from 1 plan.steps))

none_left : (actions : List Action) → length actions ≤ 0 → actions ≡ []
none_left [] few = refl
none_left (a ∷ actions) few = absurd (omega arith)

module _ (answers : Action → Own → Answers) (fixed : Fixed) where
  last_is_over : (actions : List Action) (s : State) (count : ℕ) (x : Advanced) → EndsOver actions → advance answers fixed actions s count ≡ Some x →
      length actions ≤ x.count - count → x.action ≡ Over
  unfolding advance
  last_is_over [] s count x ends e few = absurd cc
  last_is_over (a ∷ actions) s count x ends e few =
      by_lines (act fixed a here).lines e (λ f. last_is_over actions (act fixed a here).state (suc count) x ends.1 f (omega arith))
    where
      here : State
      here = record s { answers = answers a s.own }

      now : Advanced
      now = record { action = a; before = here; done = act fixed a here; count = suc count }

      by_lines : (lines : List JobLine) → unless_silent lines now (advance answers fixed actions (act fixed a here).state (suc count)) ≡ Some x →
          (advance answers fixed actions (act fixed a here).state (suc count) ≡ Some x → x.action ≡ Over) → x.action ≡ Over
      by_lines [] f later = later f
      by_lines (line ∷ lines) f later =
          let is : now ≡ x = cc in
          let done : x.count ≡ suc count = sym (ap (λ (y : Advanced). y.count) is) in
          sym (ap (λ (y : Advanced). y.action) is) ∙ ends.0 (none_left actions (omega arith))

pub jobs_end_with_over : JobsEndWithOver
jobs_end_with_over c old job plan a count own growth primary x e over =
    last_is_over (answers_due c.programs plan.steps (granting old job growth primary)) a.fixed (drop count (agenda plan c.programs))
    (state_in (seen job old.store) own) count x (over_dropped count (agenda plan c.programs) (agenda_ends plan c.programs)) e
    (let few : length (agenda plan c.programs) ≤ x.count = leb-true _ x.count over in
    omega (arith, length-drop count (agenda plan c.programs)))
