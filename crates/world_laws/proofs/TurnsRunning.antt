-- The turns of a job are its solo meaning, for some answers.
use Rattle.std.proofs.Common.{◌≡◌, ◌≤◌, ◌+◌, ◌-◌, ◌++◌, inl, ℕ, zero, suc, Bool, true, false, cond, List, [], ◌∷◌, drop, length, map, Some, None, append-nil, append_assoc, arith, length-append, refl, sym, ap, ◌∙◌, subst}
use Rattle.std.specs.Prelude.{slice_get}
use Rattle.jcl_plan.specs.declared.entry.JobLine.{JobLine}
use Rattle.jcl_plan.specs.declared.outcome.Outcome.{Outcome}
use Rattle.jcl_plan.specs.declared.plan.DdPlan.{DdPlan}
use Rattle.jcl_plan.specs.declared.plan.JobPlan.{JobPlan}
use Rattle.jcl_plan.specs.declared.plan.StepPlan.{StepPlan}
use Rattle.jcl_meaning.specs.declared.program.Move.{Move}
use Rattle.jcl_meaning.specs.declared.program.SoloProgram.{SoloProgram}
use Rattle.jcl_meaning.specs.declared.state.Own.{Own}
use Rattle.jcl_meaning.specs.Agendas.{Action, agenda, disposes_from, lefts_from, lefts_in, moves_from, step_actions, steps_from, takes_from}
use Rattle.jcl_meaning.specs.Names.{names_of}
use Rattle.jcl_meaning.specs.Plans.{passes}
use Rattle.jcl_meaning.specs.Programs.{ending_of, moves_of}
use Rattle.jcl_meaning.specs.Solo.{nothing_own, run}
use Rattle.jcl_meaning.specs.States.{Fixed}
use Rattle.jcl_meaning.specs.Stores.{Store}
use Rattle.part_laws.specs.Fits.{Fits}
use Rattle.part_laws.proofs.RunsAlike.{run_alike}
use Rattle.world_meaning.specs.Turns.{answers_due, end_of, state_in}
use Rattle.world_laws.specs.JobTurns.{AreTurns, Mean, Turn, done_behind, lines_in}
use Rattle.world_laws.proofs.Answering.{Found, IsOrderly, Leads, answering, drop_orderly, ends_first, outcomes_in, turn_found}
use Rattle.world_laws.proofs.Behind.{advance_behind}
use Rattle.world_laws.proofs.Looking.{with}

drop_past : {X : Type 0} (n : ℕ) (xs : List X) → length xs ≤ n → drop n xs ≡ []
drop_past zero [] h = refl
drop_past zero (x ∷ xs) h = absurd (omega (arith, h))
drop_past (suc n) [] h = refl
drop_past (suc n) (x ∷ xs) h = drop_past n xs (omega (arith, h))

module _ (programs : List SoloProgram) (plan : JobPlan) (fixed : Fixed) where
  -- answers for the turns from a place of the agenda on
  turns_found : (ts : List Turn) (s : Store) (count : ℕ) (own : Own) → IsOrderly plan.steps (agenda plan programs) →
      Fits (names_of plan) fixed.meanings (drop count (agenda plan programs)) own → AreTurns programs plan fixed s count own ts →
      Found programs plan.steps fixed (length (agenda plan programs) ≤ done_behind count ts) (drop count (agenda plan programs)) s own (lines_in ts)
  unfolding run
  turns_found [] s count own orderly fits are = record {
    entry = None;
    later = [];
    grants = [];
    not_before = λ e. tt;
    runs = λ e fine. record {
      behind = (run fixed (drop count (agenda plan programs)) (with s own (answering programs plan.steps fixed (drop count (agenda plan programs)) e [] []))).lines;
      joined = refl;
      over = λ past. ap (λ (rest : List Action). (run fixed rest (with s own (answering programs plan.steps fixed (drop count (agenda plan programs)) e [] []))).lines)
          (drop_past count (agenda plan programs) past);
    };
  }
  turns_found (t ∷ ts) s count own orderly fits are =
      let behind = advance_behind (names_of plan) (answers_due programs plan.steps (record { cancel = t.cancel; growth = t.growth; primary = true })) fixed
      (agenda plan programs) (drop count (agenda plan programs)) (state_in t.store own) count t.did refl fits are.1 in
      let later : Found programs plan.steps fixed (length (agenda plan programs) ≤ done_behind t.did.count ts) (drop t.did.count (agenda plan programs))
      t.did.done.state.store t.did.done.state.own (lines_in ts) =
      turns_found ts t.did.done.state.store t.did.count t.did.done.state.own orderly behind.fits are.2 in
      let here : Found programs plan.steps fixed (length (agenda plan programs) ≤ done_behind t.did.count ts) (drop count (agenda plan programs))
      t.store own (t.did.done.lines ++ lines_in ts) =
      turn_found programs plan.steps fixed (length (agenda plan programs) ≤ done_behind t.did.count ts) t.cancel t.growth (agenda plan programs) (lines_in ts)
      (drop count (agenda plan programs)) (state_in t.store own) count t.did refl (drop_orderly programs plan.steps fixed
      (length (agenda plan programs) ≤ done_behind t.did.count ts) count (agenda plan programs) orderly) are.1 later in
      record {
        entry = here.entry;
        later = here.later;
        grants = here.grants;
        not_before = here.not_before;
        runs = λ e fine.
            let h = here.runs e fine in
            let alike = run_alike (names_of plan) fixed (drop count (agenda plan programs))
            (with s own (answering programs plan.steps fixed (drop count (agenda plan programs)) e here.later here.grants))
            (with t.store own (answering programs plan.steps fixed (drop count (agenda plan programs)) e here.later here.grants))
            (record { part = are.0; own = refl; answers = refl }) fits in
            record { behind = h.behind; joined = h.joined ∙ sym alike.lines; over = h.over };
      }

-- the agenda is in order
module _ (programs : List SoloProgram) (all : List StepPlan) (fixed : Fixed) where
  takes_orderly : (n dd : ℕ) (dds : List DdPlan) (rest : List Action) → IsOrderly all rest → IsOrderly all (takes_from n dd dds ++ rest)
  takes_orderly n dd [] rest o = o
  takes_orderly n dd (d ∷ dds) rest o = takes_orderly n (dd + 1) dds rest o

  disposes_orderly : (n dd : ℕ) (dds : List DdPlan) (rest : List Action) → IsOrderly all rest → IsOrderly all (disposes_from n dd dds ++ rest)
  disposes_orderly n dd [] rest o = o
  disposes_orderly n dd (d ∷ dds) rest o = disposes_orderly n (dd + 1) dds rest o

  moves_end : (step : StepPlan) (moves : List Move) (rest : List Action) → ends_first rest ≡ true → ends_first (moves_from step moves ++ rest) ≡ true
  moves_end step [] rest e = e
  moves_end step (m ∷ moves) rest e = moves_end step moves rest e

  moves_orderly : (step : StepPlan) (moves : List Move) (rest : List Action) → ends_first rest ≡ true → IsOrderly all rest →
      IsOrderly all (moves_from step moves ++ rest)
  moves_orderly step [] rest e o = o
  moves_orderly step (m ∷ moves) rest e o = (moves_end step moves rest e, (moves_end step moves rest e, moves_orderly step moves rest e o))

  lefts_orderly : (n dd : ℕ) (dds : List DdPlan) (rest : List Action) → IsOrderly all rest → IsOrderly all (lefts_in n dd dds ++ rest)
  lefts_orderly n dd [] rest o = o
  lefts_orderly n dd (d ∷ dds) rest o = by_word (passes d.kind) (lefts_orderly n (dd + 1) dds rest o)
    where
      by_word : (b : Bool) → IsOrderly all (lefts_in n (dd + 1) dds ++ rest) →
          IsOrderly all ((cond b (Action.Left n dd d ∷ []) [] ++ lefts_in n (dd + 1) dds) ++ rest)
      by_word true o = o
      by_word false o = o

  all_lefts_orderly : (n : ℕ) (steps : List StepPlan) → IsOrderly all (lefts_from n steps ++ (Action.Over ∷ []))
  all_lefts_orderly n [] = tt
  all_lefts_orderly n (step ∷ steps) =
      subst (IsOrderly all) (sym (append_assoc (lefts_in n 1 step.dds) (lefts_from (n + 1) steps) (Action.Over ∷ [])))
      (lefts_orderly n 1 step.dds (lefts_from (n + 1) steps ++ (Action.Over ∷ [])) (all_lefts_orderly (n + 1) steps))

  -- the step of a number
  there : (before : List StepPlan) (step : StepPlan) (steps : List StepPlan) → slice_get (before ++ step ∷ steps) (length before) ≡ Some step
  there [] step steps = refl
  there (s ∷ before) step steps = there before step steps

  numbered : (n : ℕ) (before : List StepPlan) (step : StepPlan) (steps : List StepPlan) → all ≡ before ++ step ∷ steps → n ≡ length before + 1 →
      slice_get all (n - 1) ≡ Some step
  numbered n before step steps e m =
      let at : n - 1 ≡ length before = omega (arith, m) in
      (λ i. slice_get (e i) (at i)) ∙ there before step steps

  more_before : (before : List StepPlan) (step : StepPlan) (steps : List StepPlan) → all ≡ before ++ step ∷ steps → all ≡ (before ++ step ∷ []) ++ steps
  more_before before step steps e = e ∙ sym (append_assoc before (step ∷ []) steps)

  longer : (n : ℕ) (before : List StepPlan) (step : StepPlan) → n ≡ length before + 1 → n + 1 ≡ length (before ++ step ∷ []) + 1
  longer n before step e = omega (arith, e, length-append before (step ∷ []))

  in_a_row : (n : ℕ) (step : StepPlan) (moves : List Move) (more rest : List Action) →
      (step_actions n step moves ++ more) ++ rest
      ≡ Action.Start n step ∷ (takes_from n 1 step.dds ++ (moves_from step moves ++ (Action.Finish n ∷ (disposes_from n 1 step.dds ++ (more ++ rest)))))
  in_a_row n step moves more rest =
      append_assoc (step_actions n step moves) more rest
      ∙ ap (λ (xs : List Action). Action.Start n step ∷ xs)
      (append_assoc (takes_from n 1 step.dds) (moves_from step moves ++ (Action.Finish n ∷ disposes_from n 1 step.dds)) (more ++ rest)
      ∙ ap (λ (xs : List Action). takes_from n 1 step.dds ++ xs)
      (append_assoc (moves_from step moves) (Action.Finish n ∷ disposes_from n 1 step.dds) (more ++ rest)))

  steps_orderly : (n : ℕ) (before steps : List StepPlan) (rest : List Action) → all ≡ before ++ steps → n ≡ length before + 1 → IsOrderly all rest →
      IsOrderly all (steps_from (moves_of programs) n steps ++ rest)
  steps_orderly n before [] rest e m o = o
  steps_orderly n before (step ∷ steps) rest e m o =
      subst (IsOrderly all) (sym (in_a_row n step (moves_of programs step.program) (steps_from (moves_of programs) (n + 1) steps) rest))
      (takes_orderly n 1 step.dds _ (moves_orderly step (moves_of programs step.program) _ refl (
        (step, numbered n before step steps e m),
        disposes_orderly n 1 step.dds _
            (steps_orderly (n + 1) (before ++ step ∷ []) steps rest (more_before before step steps e) (longer n before step m) o),
      )))

  takes_out : (n dd : ℕ) (dds : List DdPlan) (rest : List Action) →
      outcomes_in programs all fixed (takes_from n dd dds ++ rest) ≡ outcomes_in programs all fixed rest
  takes_out n dd [] rest = refl
  takes_out n dd (d ∷ dds) rest = takes_out n (dd + 1) dds rest

  disposes_out : (n dd : ℕ) (dds : List DdPlan) (rest : List Action) →
      outcomes_in programs all fixed (disposes_from n dd dds ++ rest) ≡ outcomes_in programs all fixed rest
  disposes_out n dd [] rest = refl
  disposes_out n dd (d ∷ dds) rest = disposes_out n (dd + 1) dds rest

  moves_out : (step : StepPlan) (moves : List Move) (rest : List Action) →
      outcomes_in programs all fixed (moves_from step moves ++ rest) ≡ outcomes_in programs all fixed rest
  moves_out step [] rest = refl
  moves_out step (m ∷ moves) rest = moves_out step moves rest

  lefts_out : (n dd : ℕ) (dds : List DdPlan) (rest : List Action) →
      outcomes_in programs all fixed (lefts_in n dd dds ++ rest) ≡ outcomes_in programs all fixed rest
  lefts_out n dd [] rest = refl
  lefts_out n dd (d ∷ dds) rest = by_word (passes d.kind) (lefts_out n (dd + 1) dds rest)
    where
      by_word : (b : Bool) → outcomes_in programs all fixed (lefts_in n (dd + 1) dds ++ rest) ≡ outcomes_in programs all fixed rest →
          outcomes_in programs all fixed ((cond b (Action.Left n dd d ∷ []) [] ++ lefts_in n (dd + 1) dds) ++ rest) ≡ outcomes_in programs all fixed rest
      by_word true e = e
      by_word false e = e

  all_lefts_out : (n : ℕ) (steps : List StepPlan) → outcomes_in programs all fixed (lefts_from n steps ++ (Action.Over ∷ [])) ≡ []
  all_lefts_out n [] = refl
  all_lefts_out n (step ∷ steps) =
      ap (outcomes_in programs all fixed) (append_assoc (lefts_in n 1 step.dds) (lefts_from (n + 1) steps) (Action.Over ∷ []))
      ∙ (lefts_out n 1 step.dds (lefts_from (n + 1) steps ++ (Action.Over ∷ [])) ∙ all_lefts_out (n + 1) steps)

  steps_out : (n : ℕ) (before steps : List StepPlan) (rest : List Action) → all ≡ before ++ steps → n ≡ length before + 1 →
      outcomes_in programs all fixed (steps_from (moves_of programs) n steps ++ rest)
      ≡ map (λ step. ending_of programs step.program) steps ++ outcomes_in programs all fixed rest
  steps_out n before [] rest e m = refl
  steps_out n before (step ∷ steps) rest e m =
      let tail : List Action = steps_from (moves_of programs) (n + 1) steps ++ rest in
      ap (outcomes_in programs all fixed) (in_a_row n step (moves_of programs step.program) (steps_from (moves_of programs) (n + 1) steps) rest)
      ∙ (takes_out n 1 step.dds (moves_from step (moves_of programs step.program) ++ (Action.Finish n ∷ (disposes_from n 1 step.dds ++ tail)))
      ∙ (moves_out step (moves_of programs step.program) (Action.Finish n ∷ (disposes_from n 1 step.dds ++ tail))
      ∙ ((λ i. end_of programs (numbered n before step steps e m i) ++ disposes_out n 1 step.dds tail i)
      ∙ ap (λ (os : List Outcome). ending_of programs step.program ∷ os)
      (steps_out (n + 1) (before ++ step ∷ []) steps rest (more_before before step steps e) (longer n before step m)))))

pub turns_run : (programs : List SoloProgram) (plan : JobPlan) (fixed : Fixed) (start : Store) (turns : List Turn) →
    Fits (names_of plan) fixed.meanings (agenda plan programs) nothing_own → AreTurns programs plan fixed start 0 nothing_own turns →
    Mean programs plan fixed start turns
turns_run programs plan fixed start turns fits are =
    let orderly : IsOrderly plan.steps (agenda plan programs) =
    steps_orderly programs plan.steps fixed 1 [] plan.steps (lefts_from 1 plan.steps ++ (Action.Over ∷ [])) refl refl
    (all_lefts_orderly programs plan.steps fixed 1 plan.steps) in
    let f : Found programs plan.steps fixed (length (agenda plan programs) ≤ done_behind 0 turns) (agenda plan programs) start nothing_own (lines_in turns) =
    turns_found programs plan fixed turns start 0 nothing_own orderly fits are in
    let h : Leads (run fixed (agenda plan programs) (with start nothing_own
    (answering programs plan.steps fixed (agenda plan programs) f.entry f.later f.grants))).lines (lines_in turns)
    (length (agenda plan programs) ≤ done_behind 0 turns) = f.runs f.entry (inl refl) in
    let ends : outcomes_in programs plan.steps fixed (agenda plan programs) ≡ map (λ step. ending_of programs step.program) plan.steps =
    steps_out programs plan.steps fixed 1 [] plan.steps (lefts_from 1 plan.steps ++ (Action.Over ∷ [])) refl refl
    ∙ (ap (λ (os : List Outcome). map (λ step. ending_of programs step.program) plan.steps ++ os) (all_lefts_out programs plan.steps fixed 1 plan.steps)
    ∙ append-nil (map (λ step. ending_of programs step.program) plan.steps)) in
    let same : lines_in turns ++ h.behind ≡ (run fixed (agenda plan programs) (with start nothing_own (record {
      outcomes = map (λ step. ending_of programs step.program) plan.steps;
      cancels = f.entry ∷ f.later;
      grants = f.grants;
      primary = true;
    }))).lines = h.joined ∙ ap (λ (os : List Outcome). (run fixed (agenda plan programs) (with start nothing_own (record {
      outcomes = os;
      cancels = f.entry ∷ f.later;
      grants = f.grants;
      primary = true;
    }))).lines) ends in
    record {
      answers = record { grants = f.grants; cancels = f.entry ∷ f.later };
      prefix = record { behind = h.behind; joined = same };
      whole = λ past. sym (append-nil (lines_in turns)) ∙ (ap (λ (more : List JobLine). lines_in turns ++ more) (sym (h.over past)) ∙ same);
    }
