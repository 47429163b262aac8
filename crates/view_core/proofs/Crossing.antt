-- A part of a job's path led over from a plain view: what the code comes to is what each state with the view comes to.
use Rattle.std.proofs.Common.{◌≡◌, ◌++◌, ◌∷◌, ◌∙◌, ◌+◌, ◌==◌, ℕ, Bool, true, false, List, [], drop, length, refl, sym, ap, subst, map, add-one}
use Rattle.std.specs.Prelude.{slice_get, ◌||◌}
use Rattle.std.specs.List.{list_any}
use Rattle.std.proofs.lemmas.Bool.{or_right}
use Rattle.jcl_plan.specs.declared.outcome.Abend.{Abend}
use Rattle.jcl_plan.specs.declared.outcome.Abend.TheVariants.{User}
use Rattle.jcl_plan.specs.declared.outcome.Fate.{Fate}
use Rattle.jcl_plan.specs.declared.outcome.Fate.TheVariants as fate
use Rattle.jcl_plan.specs.declared.outcome.Outcome.{Outcome}
use Rattle.jcl_plan.specs.declared.outcome.Outcome.TheVariants as outcome
use Rattle.jcl_plan.specs.declared.plan.DdPlan.{DdPlan}
use Rattle.jcl_plan.specs.declared.plan.JobPlan.{JobPlan}
use Rattle.jcl_plan.specs.declared.plan.StepPlan.{StepPlan}
use Rattle.jcl_plan.specs.declared.plan.Test.{Test}
use Rattle.jcl_meaning.specs.declared.state.Ended.{Ended}
use Rattle.jcl_meaning.specs.declared.state.Own.{Own}
use Rattle.jcl_meaning.specs.Agendas.{Action, Start}
use Rattle.jcl_meaning.specs.History.{abended, is_abend, is_run, met_by, satisfied}
use Rattle.jcl_meaning.specs.Names.{names_of}
use Rattle.jcl_meaning.specs.Solo.{Met, Ran, is_clean, later, run}
use Rattle.jcl_meaning.specs.States.{Fixed, State}
use Rattle.jcl_meaning.specs.Stores.{store_of}
use Rattle.jcl_meaning.specs.TakeActs.{fate_at}
use Rattle.jcl_meaning.specs.Takes.{dd_volume}
use Rattle.jcl_meaning.specs.Views.{View, kind_refers, steps_refer, view_at}
use Rattle.part_laws.specs.Fits.{Fits}
use Rattle.path_meaning.specs.Paths.{fates_in}
use Rattle.path_laws.specs.PathParts.{IsBefore, next_outcome, part_from, path_part}
use Rattle.path_laws.proofs.PartsSee.{behind, volume_if, volume_of}
use Rattle.path_laws.specs.Steps.{DoTheSame, PassesOver, ShowTheSame, StartsFrom, behind_start}
use Rattle.path_laws.proofs.StepEnding.{step_ends}
use Rattle.path_laws.proofs.Showing.{step_does}
use Rattle.path_laws.proofs.Starting.{step_passes, step_starts}
use Rattle.view_domain.specs.declared.crossed.Stop.{Stop}
use Rattle.view_domain.specs.Crossings.{IsStop}
use Rattle.view_core.specs.declared.scene.Scene.{Scene}
use Rattle.view_core.specs.Bits.{bits_ended, bits_kept, fate_shown, kept_tests}
use Rattle.view_core.specs.PlainViews.{shown_parts, shown_so}
use Rattle.view_core.specs.Shows.{Shows}
use Rattle.view_core.specs.Scenes.{IsBegun, state_on}
use Rattle.view_core.specs.Walks.{LeavesScene, StopsIn}
use Rattle.view_core.proofs.Runs.{due_there, first_fault}
use Rattle.view_core.proofs.Shown.{HasScene, begun_has, begun_started, came_abend, fate_is, met_bits, shown_as, shown_on, shows_scene}
use Rattle.view_core.proofs.TestBits.{AreBits, ended_bits, kept_bits}

not_run : (f : Fate) → (f ≡ fate.Run → ⊥) → is_run f ≡ false
not_run fate.Run isnt = absurd (isnt refl)
not_run fate.Bypassed isnt = refl
not_run fate.Flushed isnt = refl

module _ (plan : JobPlan) (fixed : Fixed) (k : ℕ) (step : StepPlan) (after : List StepPlan) (is : drop k plan.steps ≡ step ∷ after)
    (job_tests : fixed.job_tests ≡ plan.tests.items) (v : Shows) where
  abbrev pub tests : ℕ
  tests = length plan.tests.items

  abbrev pub kept : List Test
  kept = kept_tests plan.tests.items after

  abbrev pub bits : List Bool
  bits = bits_kept tests (length step.tests.items) v.met

  abbrev IsHere : State → Type 0
  IsHere s = shown_so plan fixed.date k v ≡ view_at plan k fixed.date s

  abbrev FitsPart : State → List Action → Type 0
  FitsPart s rest = Fits (names_of plan) fixed.meanings (path_part plan k ++ rest) s.own

  abbrev ran_from : State → Ran
  ran_from s = run fixed (path_part plan k) s

  after_is : drop (k + 1) plan.steps ≡ after
  after_is = ap (λ (n : ℕ). drop n plan.steps) (add-one k) ∙ behind plan.steps k step after is

  part_is : path_part plan k ≡ Start (k + 1) step ∷ behind_start (k + 1) step
  part_is = ap (part_from k plan.steps) is

  fate_here : (s : State) (outcomes : List Outcome) → IsHere s → IsBefore s outcomes → fate_at fixed step s.own ≡ fate_shown tests step v
  fate_here s outcomes here before = fate_is plan fixed k step after is job_tests v s outcomes here before

  -- the bits that are kept behind the step
  bits_here : (s : State) → IsHere s → AreBits (satisfied s.own.ended) plan.tests.items after bits
  bits_here s here =
      kept_bits (satisfied s.own.ended) plan.tests.items step after v.met
      (subst (λ (steps : List StepPlan). AreBits (satisfied s.own.ended) plan.tests.items steps v.met) is
      (met_bits plan fixed.date k s v.scene v.abended v.met here))

  -- what later steps refer to this one and later ones refer to
  asked : (a b : ℕ) → steps_refer (drop (k + 1) plan.steps) a b ≡ true → steps_refer (drop k plan.steps) a b ≡ true
  asked a b e =
      subst (λ (steps : List StepPlan). steps_refer steps a b ≡ true) (sym is)
      (or_right (list_any (λ (d : DdPlan). kind_refers d.kind a b) step.dds) (steps_refer after a b)
      (subst (λ (steps : List StepPlan). steps_refer steps a b ≡ true) after_is e))

  shows_next : (s t : State) → ShowTheSame plan fixed.date k s t → ShowTheSame plan fixed.date (k + 1) s t
  shows_next s t h = record {
    sets = h.sets;
    catalog = h.catalog;
    passed = h.passed;
    volumes = λ i a b.
        volume_if (steps_refer (drop (k + 1) plan.steps) a b) (dd_volume s.own.volumes a b) (dd_volume t.own.volumes a b)
        (λ e. volume_of (steps_refer (drop k plan.steps) a b) (dd_volume s.own.volumes a b) (dd_volume t.own.volumes a b) (asked a b e) (λ j. h.volumes j a b)) i;
    abended = h.abended;
  }

  view_kept : (s t : State) → t.store ≡ s.store → t.own.passed ≡ s.own.passed → t.own.volumes ≡ s.own.volumes → t.own.ended ≡ s.own.ended →
      view_at plan k fixed.date s ≡ view_at plan k fixed.date t
  view_kept s t store passed volumes ended = λ i. view_at plan k fixed.date (record {
    store = sym store i;
    own = record s.own { passed = sym passed i; volumes = sym volumes i; ended = sym ended i };
    answers = s.answers;
  })

  -- a step that does not run
  abbrev on_scene : State → State
  on_scene t = record {
    store = store_of v.scene.store;
    own = record t.own { passed = v.scene.passed; volumes = v.scene.volumes };
    answers = t.answers;
  }

  module _ (s : State) (outcomes : List Outcome) (here : IsHere s) (before : IsBefore s outcomes) (idle : fate_shown tests step v ≡ fate.Run → ⊥) where
    over : PassesOver fixed step s (ran_from s)
    over = step_passes plan fixed k step after s outcomes is before (ap is_run (fate_here s outcomes here before) ∙ not_run (fate_shown tests step v) idle)

    abbrev end : State
    end = (ran_from s).state

    here_still : IsHere end
    here_still = here ∙ view_kept s end over.store over.passed over.volumes over.ended

    passed_view : view_at plan (k + 1) fixed.date end ≡ shown_parts plan fixed.date (k + 1) v.scene v.abended bits
    passed_view =
        let came : abended end.own.ended ≡ v.abended = came_abend plan fixed.date k end v.scene v.abended v.met here_still in
        let has : HasScene v.scene (on_scene end) = record { store = refl; passed = refl; volumes = refl } in
        shown_as plan fixed.date (k + 1) end (on_scene end) v.scene v.abended bits
        (shows_next end (on_scene end) (shows_scene plan fixed.date k end v.scene v.abended v.met here_still (on_scene end) has came)) has came
        (subst (λ (steps : List StepPlan). AreBits (satisfied end.own.ended) plan.tests.items steps bits) (sym after_is) (bits_here end here_still))

    pub passes : (f : Fate) (w : View) → f ≡ fate_shown tests step v → w ≡ shown_parts plan fixed.date (k + 1) v.scene v.abended bits →
        (fates_in (ran_from s).lines ≡ f ∷ []) × ((f ≡ fate.Run) → ⊥) × ((ran_from s).faults ≡ []) × ((ran_from s).made ≡ [])
        × (view_at plan (k + 1) fixed.date (ran_from s).state ≡ w)
    passes f w told same = (
      over.fates ∙ ap (λ (g : Fate). g ∷ []) (fate_here s outcomes here before ∙ sym told),
      λ e. idle (sym told ∙ e),
      over.faults,
      over.made,
      passed_view ∙ sym same,
    )

  -- a step that runs
  module _ (runs : fate_shown tests step v ≡ fate.Run) (s : State) (outcomes : List Outcome) (rest : List Action) (here : IsHere s)
      (before : IsBefore s outcomes) (fits : FitsPart s rest) where
    starts : StartsFrom plan fixed k step s outcomes (ran_from s)
    starts = step_starts plan fixed k step after s outcomes is before (ap is_run (fate_here s outcomes here before ∙ runs))

    pub fates_are : fates_in (ran_from s).lines ≡ fate.Run ∷ []
    fates_are = starts.fates

    abbrev from_start : State → Ran
    from_start t = run fixed (behind_start (k + 1) step) t

    module _ (own : Own) (begun : IsBegun v.scene v.abended own) (ps : List Outcome)
        (alike : is_abend (next_outcome outcomes) ≡ is_abend (next_outcome ps)) where
      abbrev on : State
      on = state_on v.scene own ps

      did : DoTheSame plan fixed.date (k + 1) (from_start starts.started) (from_start on)
      did = step_does plan fixed k step after is rest starts.started on outcomes ps
          (shown_on plan fixed.date k s starts.started on starts.shows
          (shows_scene plan fixed.date k s v.scene v.abended v.met here on (begun_has v.scene v.abended own ps begun) begun.abended))
          starts.has_started (begun_started v.scene v.abended own ps begun) alike (starts.fits rest fits)

      faults_are : (ran_from s).faults ≡ map later (from_start on).faults
      faults_are = starts.faults ∙ ap (map later) did.faults

      pub made_are : (ran_from s).made ≡ (from_start on).made
      made_are = starts.made ∙ did.made

      pub stop_is : (stop : Stop) → StopsIn fixed (k + 1) step on stop → IsStop plan k stop (ran_from s).faults
      stop_is stop h =
          let first : (more : List Met) × ((from_start on).faults ≡ record { place = h.place; fault = stop.fault } ∷ more) =
          first_fault fixed (behind_start (k + 1) step) on h.place h.action stop.fault h.meets in
          record {
            behind = map later first.0;
            first = faults_are ∙ ap (map later) first.1 ∙ ap (λ (n : ℕ). record { place = n; fault = stop.fault } ∷ map later first.0) (sym h.at);
            action = h.action;
            due = (λ i. slice_get (part_is i) (h.at i)) ∙ due_there fixed (behind_start (k + 1) step) on h.place h.action stop.fault h.meets;
            at = h.told (length plan.steps);
          }

      module _ (scene : Scene) (leaves : LeavesScene (from_start on) scene) where
        pub none_met : (ran_from s).faults ≡ []
        none_met = faults_are ∙ ap (map later) leaves.faults

        clean : is_clean (from_start starts.started) ≡ true
        clean = ap (λ (fs : List Met). length fs == 0) (did.faults ∙ leaves.faults)

        abbrev behind_it : State
        behind_it = (from_start starts.started).state

        ended : behind_it.own.ended ≡ record { step = k + 1; outcome = next_outcome outcomes } ∷ s.own.ended
        ended = step_ends fixed (k + 1) step starts.started outcomes starts.has_started clean
            ∙ ap (λ (es : List Ended). record { step = k + 1; outcome = next_outcome outcomes } ∷ es) starts.ended

        pub view_behind : (abend : Bool) (met : List Bool) → is_abend (next_outcome outcomes) || v.abended ≡ abend →
            AreBits (λ t. met_by t (k + 1) (next_outcome outcomes) || satisfied s.own.ended t) plan.tests.items after met →
            view_at plan (k + 1) fixed.date (ran_from s).state ≡ shown_parts plan fixed.date (k + 1) scene abend met
        view_behind abend met came are =
            ap (view_at plan (k + 1) fixed.date) starts.state
            ∙ shown_as plan fixed.date (k + 1) behind_it (from_start on).state scene abend met did.shows
            (record { store = leaves.store; passed = leaves.passed; volumes = leaves.volumes })
            (ap abended ended ∙ ap (λ (b : Bool). is_abend (next_outcome outcomes) || b)
            (came_abend plan fixed.date k s v.scene v.abended v.met here) ∙ came)
            (subst (λ (steps : List StepPlan). AreBits (satisfied behind_it.own.ended) plan.tests.items steps met) (sym after_is)
            (subst (λ (es : List Ended). AreBits (satisfied es) plan.tests.items after met) (sym ended) are))

    -- it ended by a code
    module _ (own : Own) (begun : IsBegun v.scene v.abended own) (scene : Scene) (c : ℕ) (by_c : next_outcome outcomes ≡ outcome.Code c)
        (leaves : LeavesScene (from_start (state_on v.scene own (outcome.Code 0 ∷ []))) scene) where
      pub view_by_code : view_at plan (k + 1) fixed.date (ran_from s).state
          ≡ shown_parts plan fixed.date (k + 1) scene v.abended (bits_ended (k + 1) (outcome.Code c) kept bits)
      view_by_code =
          view_behind own begun (outcome.Code 0 ∷ []) (ap is_abend by_c) scene leaves v.abended (bits_ended (k + 1) (outcome.Code c) kept bits)
          (ap (λ (o : Outcome). is_abend o || v.abended) by_c)
          (subst (λ (o : Outcome). AreBits (λ t. met_by t (k + 1) o || satisfied s.own.ended t) plan.tests.items after
          (bits_ended (k + 1) (outcome.Code c) kept bits)) (sym by_c)
          (ended_bits (satisfied s.own.ended) (k + 1) (outcome.Code c) plan.tests.items after bits (bits_here s here)))

    -- it ended by an ABEND, which meets no test
    module _ (own : Own) (begun : IsBegun v.scene v.abended own) (scene : Scene) (a : Abend) (by_a : next_outcome outcomes ≡ outcome.Abend a)
        (leaves : LeavesScene (from_start (state_on v.scene own (outcome.Abend (User 0) ∷ []))) scene) where
      pub view_by_abend : view_at plan (k + 1) fixed.date (ran_from s).state ≡ shown_parts plan fixed.date (k + 1) scene true bits
      view_by_abend =
          view_behind own begun (outcome.Abend (User 0) ∷ []) (ap is_abend by_a) scene leaves true bits
          (ap (λ (o : Outcome). is_abend o || v.abended) by_a)
          (subst (λ (o : Outcome). AreBits (λ t. met_by t (k + 1) o || satisfied s.own.ended t) plan.tests.items after bits) (sym by_a)
          (bits_here s here))
