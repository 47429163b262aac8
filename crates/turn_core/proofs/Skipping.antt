-- Stretches of an agenda that are passed over at once.
use Rattle.std.proofs.Common.{◌≡◌, ◌+◌, ◌-◌, ◌<◌, ◌≤◌, ℕ, zero, suc, Bool, true, false, not, ◌&&◌, List, [], ◌∷◌, ◌++◌, drop, length, Option, Some, None, is_some, if◌then◌else◌, slice_get, refl, sym, ap, subst, ◌∙◌, arith, inl, inr, append_assoc}
use Rattle.std.specs.Prelude.{is_none}
use Rattle.std.proofs.lemmas.Option.{slice_get_cases, slice_get_past}
use Rattle.std.proofs.lemmas.List.{drop-drop}
use Rattle.jcl_plan.specs.declared.plan.DdKind.{DdKind}
use Rattle.jcl_plan.specs.declared.plan.DdKind.TheVariants.{Sysout, Dummy, Cards, Set}
use Rattle.jcl_plan.specs.declared.plan.DdPlan.{DdPlan}
use Rattle.jcl_plan.specs.declared.plan.StepPlan.{StepPlan}
use Rattle.jcl_meaning.specs.declared.program.Move.{Move}
use Rattle.jcl_meaning.specs.declared.state.DdState.{DdState}
use Rattle.jcl_meaning.specs.declared.state.Own.{Own}
use Rattle.jcl_meaning.specs.declared.state.Passed.{Passed}
use Rattle.jcl_meaning.specs.Agendas.{Action, Start, Take, Ask, Receive, Finish, Dispose, Left, Over, disposes_from, lefts_from, lefts_in, moves_from, takes_from}
use Rattle.jcl_meaning.specs.EndActs.{passed_by}
use Rattle.jcl_meaning.specs.Plans.{passes}
use Rattle.jcl_meaning.specs.States.{asks_open}
use Rattle.world_meaning.specs.Turns.{advance, state_in}
use Rattle.turn_core.specs.Passing.{Passes, is_idle, is_left}
use Rattle.turn_core.specs.Places.{agenda_at, disposes_left, in_step, lefts_left, requests_left, steps_left, takes_left}
use Rattle.turn_core.specs.declared.todo.Todo.TheVariants as todo
use Rattle.turn_core.proofs.Passing.{passes_along, passes_more}
use Rattle.turn_core.proofs.Places.{finish_at, here}

-- all of these are passed over
abbrev AreIdle : Own → List Action → Type 0
AreIdle own [] = Unit {0}
AreIdle own (a ∷ actions) = (is_idle a own ≡ true) × AreIdle own actions

idle_both : (own : Own) (xs ys : List Action) → AreIdle own xs → AreIdle own ys → AreIdle own (xs ++ ys)
idle_both own [] ys g h = h
idle_both own (x ∷ xs) ys g h = (g.0, idle_both own xs ys g.1 h)

pub passes_none : (own : Own) (from : List Action) → Passes own from from
passes_none own from = record {
  passed = 0;
  left = refl;
  same = λ answers fixed seen count. ap (advance answers fixed from (state_in seen own)) (let e : count ≡ count + 0 = omega arith in e);
}

passes_list : (own : Own) (from xs to : List Action) → Passes own from (xs ++ to) → AreIdle own xs → Passes own from to
passes_list own from [] to p h = p
passes_list own from (x ∷ xs) to p h = passes_list own from xs to (passes_more own from (xs ++ to) x p h.0) h.1

-- one stretch and then another
pub passes_then : (own : Own) (from to more : List Action) → Passes own from to → Passes own to more → Passes own from more
passes_then own from to more p q = record {
  passed = p.passed + q.passed;
  left = sym (drop-drop q.passed p.passed from) ∙ ap (drop q.passed) p.left ∙ q.left;
  same = λ answers fixed seen count. p.same answers fixed seen count ∙ q.same answers fixed seen (count + p.passed)
      ∙ ap (advance answers fixed more (state_in seen own)) (add_assoc' count p.passed q.passed);
}
  where
    add_assoc' : (a b c : ℕ) → a + b + c ≡ a + (b + c)
    add_assoc' a b c = omega arith

module _ (own : Own) where
  moves_idle : asks_open own ≡ false → (step : StepPlan) (ms : List Move) → AreIdle own (moves_from step ms)
  moves_idle closed step [] = tt
  moves_idle closed step (m ∷ ms) = (ap not closed, (ap (λ b. not (b && is_some own.due)) closed, moves_idle closed step ms))

  -- a step that does not run
  module _ (still : own.runs ≡ false) where
    pub closed : asks_open own ≡ false
    closed = ap (λ b. b && is_none own.over) still

    takes_idle : (n d : ℕ) (ds : List DdPlan) → AreIdle own (takes_from n d ds)
    takes_idle n d [] = tt
    takes_idle n d (x ∷ ds) = (ap not still, takes_idle n (d + 1) ds)

    disposes_idle : (n d : ℕ) (ds : List DdPlan) → AreIdle own (disposes_from n d ds)
    disposes_idle n d [] = tt
    disposes_idle n d (x ∷ ds) = (ap (λ b. not (b && is_some (slice_get own.dds (d - 1)))) still, disposes_idle n (d + 1) ds)

    disposes_skipped : (moves : List ℕ → List Move) (steps : List StepPlan) (k d : ℕ) (step : StepPlan) →
        Passes own (disposes_left moves steps k d step) (steps_left moves steps (k + 1))
    disposes_skipped moves steps k d step =
        passes_list own (disposes_left moves steps k d step) (disposes_from (k + 1) (d + 1) (drop d step.dds)) (steps_left moves steps (k + 1))
        (passes_none own (disposes_left moves steps k d step)) (disposes_idle (k + 1) (d + 1) (drop d step.dds))

    requests_skipped : (moves : List ℕ → List Move) (steps : List StepPlan) (k r : ℕ) (step : StepPlan) →
        Passes own (requests_left moves steps k r step) (steps_left moves steps (k + 1))
    requests_skipped moves steps k r step =
        let all : List Action = requests_left moves steps k r step in
        let asked : Passes own all (Finish (k + 1) ∷ disposes_left moves steps k 0 step) =
        passes_list own all (moves_from step (drop r (moves step.program))) (Finish (k + 1) ∷ disposes_left moves steps k 0 step) (passes_none own all)
        (moves_idle closed step (drop r (moves step.program))) in
        passes_then own all (disposes_left moves steps k 0 step) (steps_left moves steps (k + 1))
        (passes_more own all (disposes_left moves steps k 0 step) (Finish (k + 1)) asked (ap not still)) (disposes_skipped moves steps k 0 step)

    takes_skipped : (moves : List ℕ → List Move) (steps : List StepPlan) (k d : ℕ) (step : StepPlan) →
        Passes own (takes_left moves steps k d step) (steps_left moves steps (k + 1))
    takes_skipped moves steps k d step =
        let all : List Action = takes_left moves steps k d step in
        passes_then own all (requests_left moves steps k 0 step) (steps_left moves steps (k + 1))
        (passes_list own all (takes_from (k + 1) (d + 1) (drop d step.dds)) (requests_left moves steps k 0 step) (passes_none own all)
        (takes_idle (k + 1) (d + 1) (drop d step.dds)))
        (requests_skipped moves steps k 0 step)

-- the same at a place of the agenda, whose step is there
at_place : (own : Own) (moves : List ℕ → List Move) (steps : List StepPlan) (k : ℕ) (step : StepPlan) (to : List Action) (rest : StepPlan → List Action) →
    slice_get steps k ≡ Some step → Passes own (rest step) to → Passes own (in_step (slice_get steps k) rest) to
at_place own moves steps k step to rest e p = subst (λ l. Passes own l to) (sym (here moves steps k step rest e)) p

pub skips_takes : (own : Own) (moves : List ℕ → List Move) (steps : List StepPlan) (k d : ℕ) (step : StepPlan) → own.runs ≡ false → slice_get steps k ≡ Some step →
    Passes own (agenda_at moves steps (todo.Take k d)) (agenda_at moves steps (todo.Start (k + 1)))
skips_takes own moves steps k d step still e =
    at_place own moves steps k step (steps_left moves steps (k + 1)) (λ step. takes_left moves steps k d step) e (takes_skipped own still moves steps k d step)

pub skips_requests : (own : Own) (moves : List ℕ → List Move) (steps : List StepPlan) (k r : ℕ) (step : StepPlan) → own.runs ≡ false → slice_get steps k ≡ Some step →
    Passes own (agenda_at moves steps (todo.Ask k r)) (agenda_at moves steps (todo.Start (k + 1)))
skips_requests own moves steps k r step still e =
    at_place own moves steps k step (steps_left moves steps (k + 1)) (λ step. requests_left moves steps k r step) e (requests_skipped own still moves steps k r step)

-- what is due of a program that is over is passed over too
pub skips_receive : (own : Own) (moves : List ℕ → List Move) (steps : List StepPlan) (k r : ℕ) (to : List Action) → asks_open own ≡ false →
    Passes own (agenda_at moves steps (todo.Ask k r)) to → Passes own (agenda_at moves steps (todo.Receive k r)) to
skips_receive own moves steps k r to closed p =
    let all : List Action = agenda_at moves steps (todo.Receive k r) in
    passes_then own all (agenda_at moves steps (todo.Ask k r)) to
    (passes_more own all (agenda_at moves steps (todo.Ask k r)) Receive (passes_none own all) (ap (λ b. not (b && is_some own.due)) closed)) p

-- a program that is over asks no more
pub skips_to_end : (own : Own) (moves : List ℕ → List Move) (steps : List StepPlan) (k r : ℕ) (step : StepPlan) → asks_open own ≡ false → slice_get steps k ≡ Some step →
    Passes own (agenda_at moves steps (todo.Ask k r)) (agenda_at moves steps (todo.Ask k (length (moves step.program))))
skips_to_end own moves steps k r step closed e =
    let end : List Action = Finish (k + 1) ∷ disposes_left moves steps k 0 step in
    let there : end ≡ agenda_at moves steps (todo.Ask k (length (moves step.program))) =
    ap (λ l. Finish (k + 1) ∷ l) (sym (here moves steps k step (λ step. disposes_left moves steps k 0 step) e))
    ∙ sym (finish_at moves steps k (length (moves step.program)) step e (omega arith)) in
    at_place own moves steps k step (agenda_at moves steps (todo.Ask k (length (moves step.program)))) (λ step. requests_left moves steps k r step) e
    (passes_along own (requests_left moves steps k r step) end (agenda_at moves steps (todo.Ask k (length (moves step.program)))) there
    (passes_list own (requests_left moves steps k r step) (moves_from step (drop r (moves step.program))) end (passes_none own (requests_left moves steps k r step))
    (moves_idle own closed step (drop r (moves step.program)))))

-- DDs that were not taken
untaken_idle : (own : Own) (n d : ℕ) (ds : List DdPlan) → length own.dds ≤ d → AreIdle own (disposes_from n (d + 1) ds)
untaken_idle own n d [] h = tt
untaken_idle own n d (x ∷ ds) h =
    let past : slice_get own.dds (d + 1 - 1) ≡ None = slice_get_past own.dds (d + 1 - 1) (omega arith) in
    (ap (λ (o : Option DdState). not (own.runs && is_some o)) past ∙ none own.runs, untaken_idle own n (d + 1) ds (omega arith))
  where
    none : (b : Bool) → not (b && false) ≡ true
    none true = refl
    none false = refl

pub skips_untaken : (own : Own) (moves : List ℕ → List Move) (steps : List StepPlan) (k d : ℕ) (step : StepPlan) → length own.dds ≤ d → slice_get steps k ≡ Some step →
    Passes own (agenda_at moves steps (todo.Dispose k d)) (agenda_at moves steps (todo.Start (k + 1)))
skips_untaken own moves steps k d step h e =
    at_place own moves steps k step (steps_left moves steps (k + 1)) (λ step. disposes_left moves steps k d step) e
    (passes_list own (disposes_left moves steps k d step) (disposes_from (k + 1) (d + 1) (drop d step.dds)) (steps_left moves steps (k + 1))
    (passes_none own (disposes_left moves steps k d step)) (untaken_idle own (k + 1) d (drop d step.dds) h))

pub skips_disposes : (own : Own) (moves : List ℕ → List Move) (steps : List StepPlan) (k d : ℕ) (step : StepPlan) → own.runs ≡ false → slice_get steps k ≡ Some step →
    Passes own (agenda_at moves steps (todo.Dispose k d)) (agenda_at moves steps (todo.Start (k + 1)))
skips_disposes own moves steps k d step still e =
    at_place own moves steps k step (steps_left moves steps (k + 1)) (λ step. disposes_left moves steps k d step) e (disposes_skipped own still moves steps k d step)

-- nothing that was passed is left
module _ (own : Own) (none : own.passed ≡ []) where
  left_none : (n dd : ℕ) (kind : DdKind) → not (is_left kind (passed_by own.passed n dd)) ≡ true
  left_none n dd kind = ap (λ (ps : List Passed). not (is_left kind (passed_by ps n dd))) none ∙ by kind
    where
      by : (kind : DdKind) → not (is_left kind None) ≡ true
      by (Sysout class) = refl
      by Dummy = refl
      by (Cards cards) = refl
      by (Set p) = refl

  by_idle : (n dd : ℕ) (d : DdPlan) (b : Bool) → AreIdle own (if b then Left n dd d ∷ [] else [])
  by_idle n dd d true = (left_none n dd d.kind, tt)
  by_idle n dd d false = tt

  in_idle : (n dd : ℕ) (ds : List DdPlan) → AreIdle own (lefts_in n dd ds)
  in_idle n dd [] = tt
  in_idle n dd (d ∷ ds) = idle_both own (if passes d.kind then Left n dd d ∷ [] else []) (lefts_in n (dd + 1) ds) (by_idle n dd d (passes d.kind)) (in_idle n (dd + 1) ds)

  from_idle : (n : ℕ) (steps : List StepPlan) → AreIdle own (lefts_from n steps)
  from_idle n [] = tt
  from_idle n (step ∷ steps) = idle_both own (lefts_in n 1 step.dds) (lefts_from (n + 1) steps) (in_idle n 1 step.dds) (from_idle (n + 1) steps)

  left_idle : (o : Option StepPlan) (behind : List StepPlan) (k d : ℕ) → AreIdle own (lefts_left o behind k d)
  left_idle None behind k d = tt
  left_idle (Some step) behind k d =
      idle_both own (lefts_in (k + 1) (d + 1) (drop d step.dds)) (lefts_from (k + 1 + 1) behind) (in_idle (k + 1) (d + 1) (drop d step.dds)) (from_idle (k + 1 + 1) behind)

  pub skips_lefts : (moves : List ℕ → List Move) (steps : List StepPlan) (k d : ℕ) →
      Passes own (agenda_at moves steps (todo.Left k d)) (agenda_at moves steps (todo.Left (length steps) 0))
  skips_lefts moves steps k d =
      let all : List Action = agenda_at moves steps (todo.Left k d) in
      let end : Over ∷ [] ≡ agenda_at moves steps (todo.Left (length steps) 0) =
      ap (λ o. lefts_left o (drop (length steps + 1) steps) (length steps) 0 ++ (Over ∷ [])) (sym (slice_get_past steps (length steps) (omega arith))) in
      passes_along own all (Over ∷ []) (agenda_at moves steps (todo.Left (length steps) 0)) end
      (passes_list own all (lefts_left (slice_get steps k) (drop (k + 1) steps) k d) (Over ∷ []) (passes_none own all) (left_idle (slice_get steps k) (drop (k + 1) steps) k d))

pub skips_disposed : (own : Own) (moves : List ℕ → List Move) (steps : List StepPlan) (k d : ℕ) (step : StepPlan) → (own.runs ≡ true → length own.dds ≤ d) → slice_get steps k ≡ Some step →
    Passes own (agenda_at moves steps (todo.Dispose k d)) (agenda_at moves steps (todo.Start (k + 1)))
skips_disposed own moves steps k d step h e = by own.runs refl
  where
    by : (b : Bool) → own.runs ≡ b → Passes own (agenda_at moves steps (todo.Dispose k d)) (agenda_at moves steps (todo.Start (k + 1)))
    by true r = skips_untaken own moves steps k d step (h r) e
    by false r = skips_disposes own moves steps k d step r e
