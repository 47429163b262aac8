-- A turn that asks nothing when all is granted is the same turn, whatever is granted.
use Rattle.std.proofs.Common.{◌≡◌, ◌≤◌, ◌<◌, ◌⊎◌, inl, inr, ℕ, suc, Bool, true, List, [], ◌∷◌, Option, Some, drop, length, refl, sym, ap, ◌∙◌, subst}
use Rattle.std.proofs.lemmas.Bool.{both_ways, cases_lt}
use Rattle.std.proofs.lemmas.List.{drop_all}
use Rattle.jcl_plan.specs.declared.entry.JobLine.{JobLine}
use Rattle.jcl_plan.specs.declared.plan.JobPlan.{JobPlan}
use Rattle.jcl_plan.specs.declared.plan.StepPlan.{StepPlan}
use Rattle.jcl_meaning.specs.declared.program.SoloProgram.{SoloProgram}
use Rattle.jcl_meaning.specs.declared.state.Own.{Own}
use Rattle.jcl_meaning.specs.declared.state.Place.{Place}
use Rattle.jcl_meaning.specs.Acts.{act}
use Rattle.jcl_meaning.specs.Agendas.{Action, agenda}
use Rattle.jcl_meaning.specs.States.{Answers, Done, Fixed, State}
use Rattle.jcl_meaning.specs.Stores.{Store}
use Rattle.world_meaning.specs.Lenses.{seen}
use Rattle.world_meaning.specs.Turns.{Advanced, advance, advanced, answers_due, granting, has_cancel, outcomes_due, state_in, unless_silent}
use Rattle.world_meaning.specs.Worlds.{Admission, Config, Shared}
use Rattle.case_laws.specs.Cases.{with_answers}
use Rattle.case_laws.specs.Gains.{Gains, grows as gains_grows, none, one}
use Rattle.case_laws.specs.Lines.{AsksNothing, is_growth}
use Rattle.case_laws.proofs.Gaining.{act_gains}
use Rattle.case_laws.proofs.Granted.{IsBeside, act_beside, grows, makes, same}
use Rattle.case_laws.proofs.Known.{end_ahead}
use Rattle.case_laws.proofs.Turned.{turn_told}

-- the same action, in the same own state, writes the same
pub record IsSameTurn (x y : Advanced) : Type 0 where
  pub action : x.action ≡ y.action
  pub own : x.before.own ≡ y.before.own
  pub lines : x.done.lines ≡ y.done.lines

-- the action at hand writes, or it does not and a later one does
told_or_silent : (lines : List JobLine) (now x : Advanced) (further : Option Advanced) → unless_silent lines now further ≡ Some x →
    ((now ≡ x) × (lines ≡ [] → ⊥)) ⊎ ((lines ≡ []) × (further ≡ Some x))
told_or_silent [] now x further e = inr (refl, e)
told_or_silent (line ∷ lines) now x further e = inl (cc, λ none. absurd cc)

-- what makes a set writes
silent_makes_none : (fixed : Fixed) (a : Action) (s : State) (p : Place) (ps : List Place) → (act fixed a s).lines ≡ [] → (act fixed a s).made ≡ p ∷ ps → ⊥
silent_makes_none fixed a s p ps silent made = by_gains (act_gains fixed a s)
  where
    no_place : (qs : List Place) → qs ≡ [] → qs ≡ p ∷ ps → ⊥
    no_place qs e f = absurd cc

    no_line : (lines : List JobLine) (l : JobLine) → lines ≡ [] → lines ≡ l ∷ [] → ⊥
    no_line lines l e f = absurd cc

    by_gains : Gains fixed a s (act fixed a s) → ⊥
    by_gains (none g e) = no_place (act fixed a s).made e made
    by_gains (gains_grows granted e) = no_place (act fixed a s).made e made
    by_gains (one m) = no_line (act fixed a s).lines m.line silent m.told

module _ (programs : List SoloProgram) (steps : List StepPlan) (fixed : Fixed) (cancel growth primary : Bool) where
  abbrev these : Action → Own → Answers
  these = answers_due programs steps (record { cancel = cancel; growth = growth; primary = primary })

  abbrev all_granted : Action → Own → Answers
  all_granted = answers_due programs steps (record { cancel = cancel; growth = true; primary = true })

  same_next : (actions : List Action) (store : Store) (own : Own) (first other : Answers) (count : ℕ) (x y : Advanced) →
      advance these fixed actions (with_answers store own first) count ≡ Some x →
      advance all_granted fixed actions (with_answers store own other) count ≡ Some y → AsksNothing y → IsSameTurn x y
  unfolding advance
  same_next [] store own first other count x y e f asks = absurd cc
  same_next (a ∷ actions) store own first other count x y e f asks =
      by_act (act_beside fixed store own (outcomes_due programs steps a) (these a own).cancels growth primary a)
      (told_or_silent here.lines _ x (advance these fixed actions here.state (suc count)) e)
      (told_or_silent there.lines _ y (advance all_granted fixed actions there.state (suc count)) f)
      (λ g h. same_next actions there.state.store there.state.own here.state.answers there.state.answers (suc count) x y g h asks)
    where
      here : Done
      here = act fixed a (with_answers store own (these a own))

      there : Done
      there = act fixed a (with_answers store own (all_granted a own))

      now : Advanced
      now = record { action = a; before = with_answers store own (these a own); done = here; count = suc count }

      then : Advanced
      then = record { action = a; before = with_answers store own (all_granted a own); done = there; count = suc count }

      asks_now : then ≡ y → AsksNothing then
      asks_now is = subst AsksNothing (sym is) asks

      no_place : (p : Place) (ps qs : List Place) → qs ≡ [] → qs ≡ p ∷ ps → ⊥
      no_place p ps qs g h = absurd cc

      by_act : IsBeside here there →
          ((now ≡ x) × (here.lines ≡ [] → ⊥)) ⊎ ((here.lines ≡ []) × (advance these fixed actions here.state (suc count) ≡ Some x)) →
          ((then ≡ y) × (there.lines ≡ [] → ⊥)) ⊎ ((there.lines ≡ []) × (advance all_granted fixed actions there.state (suc count) ≡ Some y)) →
          (advance these fixed actions (with_answers there.state.store there.state.own here.state.answers) (suc count) ≡ Some x →
          advance all_granted fixed actions there.state (suc count) ≡ Some y → IsSameTurn x y) → IsSameTurn x y
      by_act (makes p ps made) g (inl (is, told)) later = absurd (no_place p ps there.made (asks_now is).made made)
      by_act (makes p ps made) g (inr (silent, more)) later = absurd (silent_makes_none fixed a (with_answers store own (all_granted a own)) p ps silent made)
      by_act (grows grown) g (inl (is, told)) later = absurd (both_ways (is_growth there.lines) (asks_now is).grown grown)
      by_act (grows grown) g (inr (silent, more)) later = absurd (both_ways (is_growth there.lines) (ap is_growth silent) grown)
      by_act (same r) (inl (is, told)) (inl (so, told_too)) later =
          subst (λ (z : Advanced). IsSameTurn z y) is (subst (λ (z : Advanced). IsSameTurn now z) so (record { action = refl; own = refl; lines = r.lines }))
      by_act (same r) (inl (is, told)) (inr (silent, more)) later = absurd (told (r.lines ∙ silent))
      by_act (same r) (inr (silent, more)) (inl (so, told)) later = absurd (told (sym r.lines ∙ silent))
      by_act (same r) (inr (silent, more)) (inr (silent_too, more_too)) later =
          later (subst (λ (u : State). advance these fixed actions u (suc count) ≡ Some x)
          (λ i. with_answers (r.store i) (r.own i) here.state.answers) more) more_too

module _ (c : Config) (old : Shared) (job : ℕ) (plan : JobPlan) (a : Admission) (count : ℕ) (own : Own) where
  -- a turn that is there has an action left
  no_turn : (answers : Action → Own → Answers) (s : State) (x : Advanced) → advance answers a.fixed [] s count ≡ Some x → ⊥
  unfolding advance
  no_turn answers s x e = absurd cc

  some_left : (growth primary : Bool) (x : Advanced) → advanced c old job plan a count own growth primary ≡ Some x → count < length (agenda plan c.programs)
  some_left growth primary x e = by_count (cases_lt count (length (agenda plan c.programs)))
    where
      by_count : (count < length (agenda plan c.programs)) ⊎ (length (agenda plan c.programs) ≤ count) → count < length (agenda plan c.programs)
      by_count (inl less) = less
      by_count (inr more) =
          absurd (no_turn (answers_due c.programs plan.steps (granting old job growth primary)) (state_in (seen job old.store) own) x
          (subst (λ (actions : List Action). advance (answers_due c.programs plan.steps (granting old job growth primary)) a.fixed actions
          (state_in (seen job old.store) own) count ≡ Some x) (drop_all count (agenda plan c.programs) more) e))

  as_granted : (growth primary : Bool) (x y : Advanced) → advanced c old job plan a count own growth primary ≡ Some x →
      advanced c old job plan a count own true true ≡ Some y → AsksNothing y → IsSameTurn x y
  as_granted growth primary x y e f asks =
      same_next c.programs plan.steps a.fixed (has_cancel old.cancels job) growth primary (drop count (agenda plan c.programs)) (seen job old.store) own
      (state_in (seen job old.store) own).answers (state_in (seen job old.store) own).answers count x y e f asks

  pub turn_same : ((z : Advanced) → advanced c old job plan a count own true true ≡ Some z → AsksNothing z) →
      (growth primary other another : Bool) (x y : Advanced) →
      advanced c old job plan a count own growth primary ≡ Some x → advanced c old job plan a count own other another ≡ Some y → IsSameTurn x y
  turn_same asks growth primary other another x y e f =
      let z = turn_told (answers_due c.programs plan.steps (granting old job true true)) a.fixed (drop count (agenda plan c.programs))
      (state_in (seen job old.store) own) count (end_ahead plan c.programs count (some_left growth primary x e)) in
      let one_turn : IsSameTurn x z.0 = as_granted growth primary x z.0 e z.1 (asks z.0 z.1) in
      let other_turn : IsSameTurn y z.0 = as_granted other another y z.0 f z.1 (asks z.0 z.1) in
      record {
        action = one_turn.action ∙ sym other_turn.action;
        own = one_turn.own ∙ sym other_turn.own;
        lines = one_turn.lines ∙ sym other_turn.lines;
      }
