-- The path of a report is taken: along it the fault is met where it is told.
use Rattle.std.proofs.Common.{eqb-true, ltb, ltb-true, ltb-false}
use Rattle.std.proofs.Common.{◌≡◌, ◌+◌, ◌-◌, ◌++◌, ◌==◌, ◌≤◌, ◌<◌, ℕ, zero, suc, Bool, true, false, Option, List, [], ◌∷◌, Some, drop, take, length, map, refl, sym, ap, ◌∙◌, subst, arith}
use Rattle.std.specs.Prelude.{All, slice_get}
use Rattle.std.specs.List.{Contains}
use Rattle.std.proofs.lemmas.List.{drop_all, length-append, length-take-le}
use Rattle.std.proofs.lemmas.List.Elements.{All-contains, All-head}
use Rattle.std.proofs.lemmas.Option.{slice_get_within}
use Rattle.jcl_plan.specs.declared.fault.Fault.{Fault}
use Rattle.jcl_plan.specs.declared.outcome.Fate.{Fate}
use Rattle.jcl_plan.specs.declared.outcome.Fate.TheVariants.{Run}
use Rattle.jcl_plan.specs.declared.outcome.Outcome.{Outcome}
use Rattle.jcl_plan.specs.declared.plan.DdPlan.{DdPlan}
use Rattle.jcl_plan.specs.declared.plan.JobPlan.{JobPlan}
use Rattle.jcl_plan.specs.declared.plan.StepPlan.{StepPlan}
use Rattle.jcl_meaning.specs.Agendas.{Action, Ask, Dispose, Finish, Left, Over, Receive, Start, Take, disposes_from, path_agenda, takes_from}
use Rattle.jcl_meaning.specs.Names.{names_of}
use Rattle.jcl_meaning.specs.Solo.{Met, Ran, at_start, given, is_clean, nothing_own, run, solo_path_of}
use Rattle.jcl_meaning.specs.States.{Answers, Fixed, State}
use Rattle.jcl_meaning.specs.Stores.{Store}
use Rattle.jcl_meaning.specs.Views.{ran_to}
use Rattle.meaning_laws.specs.Laws.{behind}
use Rattle.part_laws.specs.Fits.{Fits}
use Rattle.path_meaning.specs.Certificates.{AreOfFates, TakesPath}
use Rattle.path_meaning.specs.Paths.{FaultPlace, fates_in, fault_place, path_shown}
use Rattle.path_meaning.specs.Verdicts.{IsEarliest}
use Rattle.path_search.proofs.PartPlaces.{all_of_part, at_place}
use Rattle.path_search.proofs.Across.{drop_inside}
use Rattle.path_laws.specs.Paths.{before_part}
use Rattle.path_laws.proofs.Before.{fits_before}
use Rattle.path_laws.proofs.Fates.{tells_fates}
use Rattle.path_laws.proofs.Faults.{met_within}
use Rattle.path_laws.proofs.Parts.{cut_at_part, front_of, path_begins}
use Rattle.solo_core.specs.Meets.{meets_in}
use Rattle.solo_core.proofs.Runs.{meets_in-append}
use Rattle.path_laws.specs.PathParts.{IsBefore, next_outcome, part_from, part_runs, path_part}
use Rattle.path_laws.specs.ViewLaws.{DidTheSame}
use Rattle.path_laws.proofs.PartsSee.{part_sees}
use Rattle.path_core.proofs.Locating.{Located, locate, meets_at_part}
use Rattle.path_core.proofs.Members.{get_front}
use Rattle.path_core.proofs.MetPlaces.{meets_from, meets_size, met_from}
use Rattle.path_core.proofs.SamePaths.{first_fates, front_fates, part_same, run_told, same_to, stands, step_same}
use Rattle.path_core.proofs.ShownOutcomes.{all_fit, same_class, shown_size}
use Rattle.path_core.proofs.TakesBeside.{beside, start_and_takes}

-- no fault is met below a place where none comes before
none_below : (ms later : List Met) (bound place : ℕ) → All (λ m. m.place < bound) ms → All (λ m. place ≤ m.place) (ms ++ later) → bound ≤ place →
    (length ms == 0) ≡ true
none_below [] later bound place low high h = refl
none_below (m ∷ ms) later bound place low high h =
    let less : m.place < bound = All-head (λ (m : Met). m.place < bound) m ms low in
    let more : place ≤ m.place = All-head (λ (m : Met). place ≤ m.place) m (ms ++ later) high in
    absurd (omega arith)

none_in : (ms : List Met) {m : Met} → (length ms == 0) ≡ true → Contains ms m → ⊥
none_in [] e (n, h, is) = absurd (omega (arith, h))
none_in (x ∷ ms) e there = let size : length (x ∷ ms) ≡ 0 = eqb-true (length (x ∷ ms)) 0 e in absurd (omega (arith, size))

-- an element of a front of a list
get_take : (n k : ℕ) (xs : List Fate) → k < n → slice_get (take n xs) k ≡ slice_get xs k
get_take zero k xs h = absurd (omega arith)
get_take (suc n) k [] h = refl
get_take (suc n) zero (x ∷ xs) h = refl
get_take (suc n) (suc k) (x ∷ xs) h = get_take n k xs (omega arith)

-- a take stands before what is behind the takes
module _ (n dd : ℕ) (d : DdPlan) where
  no_dispose : (m e : ℕ) (ds : List DdPlan) (k : ℕ) → slice_get (disposes_from m e ds) k ≡ Some (Take n dd d) → ⊥
  no_dispose m e [] k is = absurd cc
  no_dispose m e (x ∷ ds) zero is = absurd cc
  no_dispose m e (x ∷ ds) (suc k) is = no_dispose m (e + 1) ds k is

  no_take_behind : (m e : ℕ) (ds : List DdPlan) (k : ℕ) → slice_get (Finish m ∷ disposes_from m e ds) k ≡ Some (Take n dd d) → ⊥
  no_take_behind m e ds zero is = absurd cc
  no_take_behind m e ds (suc k) is = no_dispose m e ds k is

  in_front : (xs ys : List Action) (k : ℕ) → ((i : ℕ) → slice_get ys i ≡ Some (Take n dd d) → ⊥) → slice_get (xs ++ ys) k ≡ Some (Take n dd d) →
      k < length xs
  in_front [] ys k never is = absurd (never k is)
  in_front (x ∷ xs) ys zero never is = omega arith
  in_front (x ∷ xs) ys (suc k) never is = let less : k < length xs = in_front xs ys k never is in omega arith

-- before what is behind its takes a step meets the same, whatever outcomes are given for it and those behind it
take_meets : (fixed : Fixed) (m : ℕ) (step : StepPlan) (at : ℕ) (b : Answers) (s : State) → s.answers.primary ≡ b.primary →
    at < length (Start m step ∷ takes_from m 1 step.dds) →
    slice_get (meets_in fixed (Start m step ∷ (takes_from m 1 step.dds ++ (Finish m ∷ disposes_from m 1 step.dds))) (beside b s)) at
    ≡ slice_get (meets_in fixed (Start m step ∷ (takes_from m 1 step.dds ++ (Finish m ∷ disposes_from m 1 step.dds))) s) at
take_meets fixed m step at b s primary less =
    let front : List Action = Start m step ∷ takes_from m 1 step.dds in
    let rest : List Action = Finish m ∷ disposes_from m 1 step.dds in
    let there : (t : State) → slice_get (meets_in fixed (front ++ rest) t) at ≡ slice_get (meets_in fixed front t) at = λ t.
    let size : length (meets_in fixed front t) ≡ length front = meets_size fixed front t in
    ap (λ ms. slice_get ms at) (meets_in-append fixed front rest t)
    ∙ get_front (meets_in fixed front t) (meets_in fixed rest (run fixed front t).state) at (omega arith) in
    there (beside b s) ∙ ap (λ ms. slice_get ms at) (start_and_takes fixed b m step step.dds s primary) ∙ sym (there s)

module _ (fixed : Fixed) (plan : JobPlan) (store : Store) (job : fixed.job_tests ≡ plan.tests.items)
    (fits : Fits (names_of plan) fixed.meanings (path_agenda plan) nothing_own) (limit : ℕ) (fault : Fault) (step dd : ℕ) (path : List Outcome)
    (earliest : IsEarliest fixed plan store limit fault step dd path) where
  abbrev os : List Outcome
  os = earliest.meets.outcomes

  abbrev ended : ℕ
  ended = earliest.meets.ended

  abbrev whole_fates : List Outcome → List Fate
  whole_fates outcomes = fates_in (solo_path_of fixed plan store outcomes).lines

  abbrev fates : List Fate
  fates = take ended (whole_fates os)

  abbrev ps : List Outcome
  ps = path_shown fates os

  ended_within : ended ≤ length plan.steps → length ps ≡ ended
  ended_within h =
      let front = front_fates fixed plan store (length plan.steps) os in
      let size : length (fates_in (ran_to fixed plan store (length plan.steps) os).lines) ≡ length plan.steps =
      tells_fates fixed plan store (length plan.steps) os (omega arith) in
      let all : length (whole_fates os) ≡ length (fates_in (ran_to fixed plan store (length plan.steps) os).lines) + length front.0 =
      ap length front.1 ∙ length-append (fates_in (ran_to fixed plan store (length plan.steps) os).lines) front.0 in
      shown_size fates os ∙ length-take-le ended (whole_fates os) (omega arith)

  module _ (j at : ℕ) (within : j ≤ length plan.steps) (place : earliest.meets.place ≡ before_part plan j + at)
      (there : slice_get (path_part plan j) at ≡ Some earliest.meets.action) where
    less : at < length (path_part plan j)
    less = slice_get_within (path_part plan j) at earliest.meets.action there

    clean : is_clean (ran_to fixed plan store j os) ≡ true
    clean =
        let begins = path_begins fixed plan store j os in
        none_below (ran_to fixed plan store j os).faults (map (behind (before_part plan j)) begins.0.faults) (before_part plan j) earliest.meets.place
        (met_within fixed (front_of plan j) (at_start store (given os)))
        (subst (λ (ms : List Met). All (λ m. earliest.meets.place ≤ m.place) ms) (ap (λ (r : Ran). r.faults) begins.1)
        (earliest.none_before os earliest.meets.within))
        (omega arith)

    -- it is met in the part along the outcomes,
    met_then : slice_get (meets_in fixed (path_part plan j) (ran_to fixed plan store j os).state) at ≡ Some (Some fault)
    met_then =
        sym (meets_at_part fixed plan store j at os less)
        ∙ ap (slice_get (meets_in fixed (path_agenda plan) (at_start store (given os)))) (sym place)
        ∙ meets_from fixed (path_agenda plan) (at_start store (given os)) earliest.meets.place fault earliest.meets.met

    told : (n : ℕ) → n < ended → n < length plan.steps → is_clean (ran_to fixed plan store n os) ≡ true →
        part_runs fixed (drop n plan.steps) (ran_to fixed plan store n os).state.own ≡ true → slice_get fates n ≡ Some Run
    told n h inside clean runs = get_take ended n (whole_fates os) h ∙ run_told fixed plan store n os inside clean runs

    same : j ≤ ended → DidTheSame plan fixed.date j (ran_to fixed plan store j os) (ran_to fixed plan store j ps)
    same h = same_to fixed plan store job fits os fates j within clean (λ n below. told n (omega arith) (omega arith))

    abbrev here : State
    here = (ran_to fixed plan store j ps).state

    clean_too : j ≤ ended → is_clean (ran_to fixed plan store j ps) ≡ true
    clean_too h = ap (λ faults. length faults == 0) (sym (same h).faults) ∙ clean

    -- before that none is met there,
    none_then : (i : ℕ) (f : Fault) → i < at → slice_get (meets_in fixed (path_part plan j) (ran_to fixed plan store j os).state) i ≡ Some (Some f) → ⊥
    none_then i f h e =
        let met = met_from fixed (path_agenda plan) (at_start store (given os)) (before_part plan j + i) f
        (meets_at_part fixed plan store j i os (omega (arith, h, less)) ∙ e) in
        let late : earliest.meets.place ≤ before_part plan j + i =
        All-contains (λ (m : Met). earliest.meets.place ≤ m.place) (solo_path_of fixed plan store os).faults _ (earliest.none_before os earliest.meets.within) met in
        absurd (omega (arith, late, place, h))

    -- what the part meets elsewhere it meets there, if its faults are the same
    met_back : (t : State) → (run fixed (path_part plan j) (ran_to fixed plan store j os).state).faults ≡ (run fixed (path_part plan j) t).faults →
        (i : ℕ) (f : Fault) → slice_get (meets_in fixed (path_part plan j) t) i ≡ Some (Some f) →
        slice_get (meets_in fixed (path_part plan j) (ran_to fixed plan store j os).state) i ≡ Some (Some f)
    met_back t faults i f e =
        meets_from fixed (path_part plan j) (ran_to fixed plan store j os).state i f
        (subst (λ (ms : List Met). Contains ms (record { place = i; fault = f })) (sym faults) (met_from fixed (path_part plan j) t i f e))

    -- and in the part along the path, if the part meets the same faults there,
    met_there : (t : State) → (run fixed (path_part plan j) (ran_to fixed plan store j os).state).faults ≡ (run fixed (path_part plan j) t).faults →
        slice_get (meets_in fixed (path_part plan j) t) at ≡ Some (Some fault)
    met_there t faults =
        meets_from fixed (path_part plan j) t at fault (subst (λ (ms : List Met). Contains ms (record { place = at; fault = fault })) faults
        (met_from fixed (path_part plan j) (ran_to fixed plan store j os).state at fault met_then))

    -- it is met there, and none before it
    abbrev IsFirst : Type 0
    IsFirst = (slice_get (meets_in fixed (path_part plan j) here) at ≡ Some (Some fault))
        × ((i : ℕ) (f : Fault) → i < at → slice_get (meets_in fixed (path_part plan j) here) i ≡ Some (Some f) → ⊥)

    -- which it does at a take, whatever comes then
    met_at_take : j ≤ ended → (first : StepPlan) (later : List StepPlan) → drop j plan.steps ≡ first ∷ later → (n e : ℕ) (d : DdPlan) →
        earliest.meets.action ≡ Take n e d → IsFirst
    met_at_take h first later is n e d take =
        let own : Answers = given (drop j os) in
        let before : IsBefore here (drop j ps) = stands fixed plan store j ps within (clean_too h) in
        let ahead = fits_before fixed plan store j os within fits in
        let part : path_part plan j ≡ Start (j + 1) first ∷ (takes_from (j + 1) 1 first.dds ++ (Finish (j + 1) ∷ disposes_from (j + 1) 1 first.dds)) =
        ap (part_from j plan.steps) is in
        let did : DidTheSame plan fixed.date (j + 1) (run fixed (path_part plan j) (ran_to fixed plan store j os).state)
        (run fixed (path_part plan j) (beside own here)) =
        part_sees plan fixed j ahead.0 (ran_to fixed plan store j os).state (beside own here) (drop j os) (drop j os) job (same h).view
        (stands fixed plan store j os within clean) (record { unfaulted = before.unfaulted; answers = refl })
        (λ runs. same_class (j + 1) plan.tests.items (drop (j + 1) plan.steps) (next_outcome (drop j os))) ahead.1 in
        let front : List Action = Start (j + 1) first ∷ takes_from (j + 1) 1 first.dds in
        let rest : List Action = Finish (j + 1) ∷ disposes_from (j + 1) 1 first.dds in
        let inside : at < length front = in_front n e d front rest at (no_take_behind n e d (j + 1) 1 first.dds)
        (ap (λ (actions : List Action). slice_get actions at) (sym part) ∙ there ∙ ap Some take) in
        let same_meets : (i : ℕ) → i < length front →
        slice_get (meets_in fixed (path_part plan j) here) i ≡ slice_get (meets_in fixed (path_part plan j) (beside own here)) i = λ i less_here.
        ap (λ (actions : List Action). slice_get (meets_in fixed actions here) i) part
        ∙ sym (take_meets fixed (j + 1) first i own here (ap (λ (a : Answers). a.primary) before.answers) less_here)
        ∙ ap (λ (actions : List Action). slice_get (meets_in fixed actions (beside own here)) i) (sym part) in (
          same_meets at inside ∙ met_there (beside own here) did.faults,
          λ i f before_it e. none_then i f before_it (met_back (beside own here) did.faults i f (sym (same_meets i (omega (arith, before_it, inside))) ∙ e)),
        )

    -- and elsewhere
    met_behind : j ≤ ended → (part_runs fixed (drop j plan.steps) (ran_to fixed plan store j os).state.own ≡ true → slice_get fates j ≡ Some Run) → IsFirst
    met_behind h run =
        let did = part_same fixed plan store job fits os fates j within clean (same h) run in
        (met_there here did.faults, λ i f before_it e. none_then i f before_it (met_back here did.faults i f e))

    -- The fates are those of the path too.
    taken : ended ≤ length plan.steps → fates_in (ran_to fixed plan store ended os).lines ≡ fates_in (ran_to fixed plan store ended ps).lines →
        slice_get (meets_in fixed (path_part plan j) here) at ≡ Some (Some fault) → TakesPath fixed plan store fault step dd ps
    taken h same_fates met =
        let size : length ps ≡ ended = ended_within h in
        let its : take (length ps) (whole_fates ps) ≡ fates =
        ap (λ n. take n (whole_fates ps)) size ∙ first_fates fixed plan store ended ps h ∙ sym same_fates ∙ sym (first_fates fixed plan store ended os h) in
        record {
          place = earliest.meets.place;
          action = earliest.meets.action;
          due = earliest.meets.due;
          at = earliest.meets.at ∙ ap (λ n. Some (record { step = step; dd = dd; ended = n })) (sym size);
          fates = subst (λ fs. AreOfFates fs ps) (sym its) (all_fit fates os earliest.meets.within);
          met = met_from fixed (path_agenda plan) (at_start store (given ps)) earliest.meets.place fault
              (ap (slice_get (meets_in fixed (path_agenda plan) (at_start store (given ps)))) place
              ∙ meets_at_part fixed plan store j at ps less ∙ met);
        }

    -- the number of steps that have ended there
    ended_is : (p : FaultPlace) → Some p ≡ Some (record { step = step; dd = dd; ended = ended }) → p.ended ≡ ended
    ended_is p e = let same_place : p ≡ record { step = step; dd = dd; ended = ended } = cc in ap (λ (q : FaultPlace). q.ended) same_place

    fates_to : j ≡ ended → fates_in (ran_to fixed plan store ended os).lines ≡ fates_in (ran_to fixed plan store ended ps).lines
    fates_to e =
        subst (λ n. fates_in (ran_to fixed plan store n os).lines ≡ fates_in (ran_to fixed plan store n ps).lines) e (same (omega arith)).fates

    abbrev At : Action → Type 0
    At a = (earliest.meets.action ≡ a) × (fault_place (length plan.steps) a ≡ Some (record { step = step; dd = dd; ended = ended }))

    -- the path is taken, and up to the fault no other is met along it
    record Passes : Type 0 where
      path_taken : TakesPath fixed plan store fault step dd ps
      to : j ≤ ended
      first : IsFirst

    by_action : (a : Action) → At a → Passes
    by_action (Start n s) h = absurd cc
    by_action (Ask s move) h = absurd cc
    by_action Receive h = absurd cc
    by_action (Finish n) h = absurd cc
    by_action Over h = absurd cc
    by_action (Take n e d) h =
        let of = at_place _ (path_part plan j) at (Take n e d) (all_of_part plan j within) (there ∙ ap Some h.0) in
        let number : n ≡ j + 1 = of.0 in
        let inside : j < length plan.steps = of.1 in
        let count : n - 1 ≡ ended = ended_is (record { step = n; dd = e; ended = n - 1 }) h.1 in
        let is : j ≡ ended = omega arith in
        let first = drop_inside j plan.steps inside in
        let met = met_at_take (omega arith) first.0 first.1 first.2 n e d h.0 in
        record { path_taken = taken (omega arith) (fates_to is) met.0; to = omega arith; first = met }
    by_action (Dispose n e d) h =
        let of = at_place _ (path_part plan j) at (Dispose n e d) (all_of_part plan j within) (there ∙ ap Some h.0) in
        let number : n ≡ j + 1 = of.0 in
        let inside : j < length plan.steps = of.1 in
        let count : n ≡ ended = ended_is (record { step = n; dd = e; ended = n }) h.1 in
        let is : suc j ≡ ended = omega arith in
        let run : part_runs fixed (drop j plan.steps) (ran_to fixed plan store j os).state.own ≡ true → slice_get fates j ≡ Some Run =
        told j (omega arith) inside clean in
        let through : DidTheSame plan fixed.date (suc j) (ran_to fixed plan store (suc j) os) (ran_to fixed plan store (suc j) ps) =
        step_same fixed plan store job fits os fates j inside clean (same (omega arith)) run in
        let met = met_behind (omega arith) run in
        record {
          path_taken = taken (omega arith)
              (subst (λ m. fates_in (ran_to fixed plan store m os).lines ≡ fates_in (ran_to fixed plan store m ps).lines) is through.fates) met.0;
          to = omega arith;
          first = met;
        }
    by_action (Left n e d) h =
        let of = at_place _ (path_part plan j) at (Left n e d) (all_of_part plan j within) (there ∙ ap Some h.0) in
        let number : j ≡ length plan.steps = of in
        let count : length plan.steps ≡ ended = ended_is (record { step = n; dd = e; ended = length plan.steps }) h.1 in
        let met = met_behind (omega arith) (λ runs. absurd (never number runs)) in
        record { path_taken = taken (omega arith) (fates_to (omega arith)) met.0; to = omega arith; first = met }
      where
        never : j ≡ length plan.steps → part_runs fixed (drop j plan.steps) (ran_to fixed plan store j os).state.own ≡ true → ⊥
        never last runs =
            let none : drop j plan.steps ≡ [] = drop_all j plan.steps (omega arith) in
            let idle : false ≡ true = ap (λ (steps : List StepPlan). part_runs fixed steps (ran_to fixed plan store j os).state.own) (sym none) ∙ runs in
            absurd cc

    pub there_taken : TakesPath fixed plan store fault step dd path
    there_taken =
        subst (TakesPath fixed plan store fault step dd) (sym earliest.meets.shown) (by_action earliest.meets.action (refl, earliest.meets.at)).path_taken

    -- along the whole path it is met at its place,
    abbrev along : List (Option Fault)
    along = meets_in fixed (path_agenda plan) (at_start store (given ps))

    pub its_fault : slice_get along earliest.meets.place ≡ Some (Some fault)
    its_fault =
        ap (slice_get along) place ∙ meets_at_part fixed plan store j at ps less ∙ (by_action earliest.meets.action (refl, earliest.meets.at)).first.0

    -- and none before it
    pub none_earlier : (k : ℕ) (f : Fault) → k < earliest.meets.place → slice_get along k ≡ Some (Some f) → ⊥
    none_earlier k f h e = by_part (ltb k (before_part plan j)) refl
      where
        passed : Passes
        passed = by_action earliest.meets.action (refl, earliest.meets.at)

        in_parts_before : k < before_part plan j → ⊥
        in_parts_before low =
            let cut = cut_at_part plan j in
            let start : State = at_start store (given ps) in
            let front = meets_in fixed (front_of plan j) start in
            let size : length front ≡ before_part plan j = meets_size fixed (front_of plan j) start in
            let there_too : slice_get front k ≡ Some (Some f) =
            sym (get_front front (meets_in fixed (path_part plan j ++ cut.rest) here) k (omega arith))
            ∙ ap (λ (ms : List (Option Fault)). slice_get ms k) (sym (meets_in-append fixed (front_of plan j) (path_part plan j ++ cut.rest) start))
            ∙ ap (λ (actions : List Action). slice_get (meets_in fixed actions start) k) (sym cut.whole) ∙ e in
            none_in (ran_to fixed plan store j ps).faults (clean_too passed.to) (met_from fixed (front_of plan j) start k f there_too)

        in_this_part : before_part plan j ≤ k → ⊥
        in_this_part high =
            let i : ℕ = k - before_part plan j in
            let number : before_part plan j + i ≡ k = omega arith in
            let before_it : i < at = omega (arith, place) in
            passed.first.1 i f before_it
            (sym (meets_at_part fixed plan store j i ps (omega (arith, less))) ∙ ap (slice_get along) number ∙ e)

        by_part : (b : Bool) → ltb k (before_part plan j) ≡ b → ⊥
        by_part true is = in_parts_before (ltb-true k (before_part plan j) is)
        by_part false is = in_this_part (ltb-false k (before_part plan j) is)

  pub passes : TakesPath fixed plan store fault step dd path
  passes =
      let located : Located plan earliest.meets.place earliest.meets.action = locate plan earliest.meets.place earliest.meets.action earliest.meets.due in
      there_taken located.part located.at located.within located.place_is located.there

  -- along the path the fault is met at its place, and none before it
  pub first_fault : (slice_get (meets_in fixed (path_agenda plan) (at_start store (given path))) earliest.meets.place ≡ Some (Some fault))
      × ((k : ℕ) (f : Fault) → k < earliest.meets.place → slice_get (meets_in fixed (path_agenda plan) (at_start store (given path))) k ≡ Some (Some f) → ⊥)
  first_fault =
      let located : Located plan earliest.meets.place earliest.meets.action = locate plan earliest.meets.place earliest.meets.action earliest.meets.due in
      subst (λ (os : List Outcome). (slice_get (meets_in fixed (path_agenda plan) (at_start store (given os))) earliest.meets.place ≡ Some (Some fault))
      × ((k : ℕ) (f : Fault) → k < earliest.meets.place → slice_get (meets_in fixed (path_agenda plan) (at_start store (given os))) k ≡ Some (Some f) → ⊥))
      (sym earliest.meets.shown)
      (its_fault located.part located.at located.within located.place_is located.there, none_earlier located.part located.at located.within located.place_is located.there)
