-- Whatever is granted, the same action is a job's next to write, from the same store and own part.
use Rattle.std.proofs.Common.{◌≡◌, ◌⊎◌, inl, inr, ℕ, suc, Bool, false, List, [], ◌∷◌, Option, Some, refl, ap, subst}
use Rattle.jcl_plan.specs.declared.entry.JobLine.{JobLine}
use Rattle.jcl_plan.specs.declared.plan.StepPlan.{StepPlan}
use Rattle.jcl_meaning.specs.declared.program.SoloProgram.{SoloProgram}
use Rattle.jcl_meaning.specs.declared.state.Own.{Own}
use Rattle.jcl_meaning.specs.Acts.{act}
use Rattle.jcl_meaning.specs.Agendas.{Action}
use Rattle.jcl_meaning.specs.States.{Answers, Done, Fixed, State}
use Rattle.jcl_meaning.specs.Stores.{Store}
use Rattle.world_meaning.specs.Turns.{Advanced, advance, answers_due, outcomes_due, unless_silent}
use Rattle.turn_laws.proofs.Alike.{IsAlike, acts_alike, writes}

-- of two actions that write alike both are the next to write, or both are passed
both_write : (lines more : List JobLine) (here there x y : Advanced) (on off : Option Advanced) → writes lines ≡ writes more →
    unless_silent lines here on ≡ Some x → unless_silent more there off ≡ Some y →
    ((x ≡ here) × (y ≡ there)) ⊎ ((writes lines ≡ false) × (on ≡ Some x) × (off ≡ Some y))
both_write [] [] here there x y on off alike e f = inr (refl, e, f)
both_write (line ∷ lines) (other ∷ more) here there x y on off alike e f = inl (cc, cc)
both_write [] (other ∷ more) here there x y on off alike e f = absurd cc
both_write (line ∷ lines) [] here there x y on off alike e f = absurd cc

module _ (programs : List SoloProgram) (steps : List StepPlan) (fixed : Fixed) (cancel : Bool) where
  abbrev answers_with : Bool → Bool → Action → Own → Answers
  answers_with growth primary = answers_due programs steps (record { cancel = cancel; growth = growth; primary = primary })

  abbrev pub state_with : Action → Store → Own → Bool → Bool → State
  state_with a store own growth primary = record { store = store; own = own; answers = answers_with growth primary a own }

  -- an action that writes, by what is granted
  abbrev pub turn_at : Action → Store → Own → ℕ → Bool → Bool → Advanced
  turn_at a store own count growth primary = record {
    action = a;
    before = state_with a store own growth primary;
    done = act fixed a (state_with a store own growth primary);
    count = count;
  }

  module _ (growth primary other another : Bool) where
    pub record IsOneTurn (x y : Advanced) : Type 0 where
      pub action : Action
      pub store : Store
      pub own : Own
      pub count : ℕ
      pub first : x ≡ turn_at action store own count growth primary
      pub second : y ≡ turn_at action store own count other another

    -- the answers that stand before an action are not looked at
    pub one_turn : (actions : List Action) (store : Store) (own : Own) (those these : Answers) (count : ℕ) (x y : Advanced) →
        advance (answers_with growth primary) fixed actions (record { store = store; own = own; answers = those }) count ≡ Some x →
        advance (answers_with other another) fixed actions (record { store = store; own = own; answers = these }) count ≡ Some y → IsOneTurn x y
    unfolding advance
    one_turn [] store own those these count x y e f = absurd cc
    one_turn (a ∷ actions) store own those these count x y e f =
        by_writing (both_write here.lines there.lines _ _ x y _ _ alike.writing e f)
        (λ g h. one_turn actions there.state.store there.state.own here.state.answers there.state.answers (suc count) x y g h)
      where
        here : Done
        here = act fixed a (state_with a store own growth primary)

        there : Done
        there = act fixed a (state_with a store own other another)

        alike : IsAlike a own here there
        alike = acts_alike a own fixed store (outcomes_due programs steps a) (answers_with growth primary a own).cancels growth primary other another

        by_writing : ((x ≡ turn_at a store own (suc count) growth primary) × (y ≡ turn_at a store own (suc count) other another)) ⊎
            ((writes here.lines ≡ false) × (advance (answers_with growth primary) fixed actions here.state (suc count) ≡ Some x) ×
            (advance (answers_with other another) fixed actions there.state (suc count) ≡ Some y)) →
            (advance (answers_with growth primary) fixed actions (record there.state { answers = here.state.answers }) (suc count) ≡ Some x →
            advance (answers_with other another) fixed actions there.state (suc count) ≡ Some y → IsOneTurn x y) → IsOneTurn x y
        by_writing (inl (g, h)) later = record { action = a; store = store; own = own; count = suc count; first = g; second = h }
        by_writing (inr (none, g, h)) later =
            later (subst (λ (s : State). advance (answers_with growth primary) fixed actions s (suc count) ≡ Some x)
            (ap (λ (d : Done). d.state) (alike.silent none)) g) h
