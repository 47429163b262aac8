-- A part of a job's path does the same from two states with one view.
use Rattle.std.proofs.Common.{◌≡◌, ◌++◌, ◌+◌, ◌||◌, ℕ, zero, suc, Bool, true, false, cond, List, [], ◌∷◌, map, drop, Option, None}
use Rattle.std.proofs.Common.{refl, sym, ap, ◌∙◌, subst, add-one}
use Rattle.std.specs.List.{AllByRecursion, list_any}
use Rattle.std.proofs.lemmas.Bool.{or_left, or_right}
use Rattle.jcl_plan.specs.declared.outcome.Outcome.{Outcome}
use Rattle.jcl_plan.specs.declared.plan.DdPlan.{DdPlan}
use Rattle.jcl_plan.specs.declared.plan.JobPlan.{JobPlan}
use Rattle.jcl_plan.specs.declared.plan.StepPlan.{StepPlan}
use Rattle.jcl_plan.specs.declared.plan.Test.{Test}
use Rattle.jcl_meaning.specs.declared.state.Ended.{Ended}
use Rattle.jcl_meaning.specs.declared.store.DataSet.{DataSet}
use Rattle.jcl_meaning.specs.Acts.{act}
use Rattle.jcl_meaning.specs.Agendas.{Action, Finish, Over, Start, disposes_from, lefts_from, step_actions, takes_from}
use Rattle.jcl_meaning.specs.History.{fate_of, is_run, satisfied, some_satisfied}
use Rattle.jcl_meaning.specs.Names.{names_of}
use Rattle.jcl_meaning.specs.Parts.{sees_key}
use Rattle.jcl_meaning.specs.Solo.{run}
use Rattle.jcl_meaning.specs.States.{Fixed, State}
use Rattle.jcl_meaning.specs.TakeActs.{fate_at}
use Rattle.jcl_meaning.specs.Takes.{dd_volume}
use Rattle.jcl_meaning.specs.Views.{View, kind_refers, shown_set, steps_refer, view_at}
use Rattle.part_laws.specs.Fits.{Fits}
use Rattle.path_laws.specs.PathParts.{IsBefore, IsOneClass, next_outcome, part_from, part_runs, path_part}
use Rattle.path_laws.specs.ViewLaws.{DidTheSame}
use Rattle.path_laws.proofs.RunsSee.{Lead, end_leads, first_leads, step_leads}
use Rattle.path_laws.proofs.Sights.{DidAlike, MetAlike, OpenAlike, Outlook, RanAlike, SeenAlike, ShutAlike, sight_of}

-- two maps of a list, and the list one by one
each_of_maps : {X Y : Type 0} (f g : X → Y) (xs : List X) → map f xs ≡ map g xs → AllByRecursion (λ (x : X). f x ≡ g x) xs
each_of_maps f g [] e = tt
each_of_maps f g (x ∷ xs) e = let one : f x ≡ g x = cc in let more : map f xs ≡ map g xs = cc in (one, each_of_maps f g xs more)

maps_of_each : {X Y : Type 0} (f g : X → Y) (xs : List X) → AllByRecursion (λ (x : X). f x ≡ g x) xs → map f xs ≡ map g xs
maps_of_each f g [] h = refl
maps_of_each f g (x ∷ xs) h = let more : map f xs ≡ map g xs = maps_of_each f g xs h.1 in λ i. h.0 i ∷ more i

any_of_each : {X : Type 0} (f g : X → Bool) (xs : List X) → AllByRecursion (λ (x : X). f x ≡ g x) xs → list_any f xs ≡ list_any g xs
any_of_each f g [] h = refl
any_of_each f g (x ∷ xs) h = let more : list_any f xs ≡ list_any g xs = any_of_each f g xs h.1 in λ i. h.0 i || more i

abbrev told : List Ended → StepPlan → List Bool
told es step = map (satisfied es) step.tests.items

abbrev AllMetAlike : List Ended → List Ended → List StepPlan → Type 0
AllMetAlike es fs steps = AllByRecursion (λ (step : StepPlan). MetAlike es fs step.tests.items) steps

steps_of_maps : (es fs : List Ended) (steps : List StepPlan) → map (told es) steps ≡ map (told fs) steps → AllMetAlike es fs steps
steps_of_maps es fs [] e = tt
steps_of_maps es fs (step ∷ steps) e =
    let one : told es step ≡ told fs step = cc in
    let more : map (told es) steps ≡ map (told fs) steps = cc in
    (each_of_maps (satisfied es) (satisfied fs) step.tests.items one, steps_of_maps es fs steps more)

maps_of_steps : (es fs : List Ended) (steps : List StepPlan) → AllMetAlike es fs steps → map (told es) steps ≡ map (told fs) steps
maps_of_steps es fs [] h = refl
maps_of_steps es fs (step ∷ steps) h =
    let one : told es step ≡ told fs step = maps_of_each (satisfied es) (satisfied fs) step.tests.items h.0 in
    let more : map (told es) steps ≡ map (told fs) steps = maps_of_steps es fs steps h.1 in
    λ i. one i ∷ more i

-- what is shown where a test says so
pub shown_of : (b : Bool) (x y : Option DataSet) (date : ℕ) → b ≡ true → shown_set (cond b x None) date ≡ shown_set (cond b y None) date →
    shown_set x date ≡ shown_set y date
shown_of true x y date seen e = e
shown_of false x y date seen e = absurd cc

pub shown_if : (b : Bool) (x y : Option DataSet) (date : ℕ) → (b ≡ true → shown_set x date ≡ shown_set y date) →
    shown_set (cond b x None) date ≡ shown_set (cond b y None) date
shown_if true x y date e = e refl
shown_if false x y date e = refl

pub volume_of : (b : Bool) (x y : Option (List ℕ)) → b ≡ true → cond b x None ≡ cond b y None → x ≡ y
volume_of true x y asked e = e
volume_of false x y asked e = absurd cc

pub volume_if : (b : Bool) (x y : Option (List ℕ)) → (b ≡ true → x ≡ y) → cond b x None ≡ cond b y None
volume_if true x y e = e refl
volume_if false x y e = refl

-- steps behind the k-th
pub behind : (steps : List StepPlan) (k : ℕ) (step : StepPlan) (later : List StepPlan) → drop k steps ≡ step ∷ later → drop (suc k) steps ≡ later
behind [] zero step later e = absurd cc
behind [] (suc k) step later e = absurd cc
behind (x ∷ steps) zero step later e = cc
behind (x ∷ steps) (suc k) step later e = behind steps k step later e

none_behind : (steps : List StepPlan) (k : ℕ) → drop k steps ≡ [] → drop (suc k) steps ≡ []
none_behind [] k e = refl
none_behind (x ∷ steps) zero e = absurd cc
none_behind (x ∷ steps) (suc k) e = none_behind steps k e

-- what a view tells of two states, and what makes one view
module _ (plan : JobPlan) (date : ℕ) where
  abbrev outlook_at : List StepPlan → (ℕ → ℕ → Bool) → Outlook
  outlook_at later refers = record { tests = plan.tests.items; later = later; refers = refers }

  seen_of_view : (k : ℕ) (later : List StepPlan) (s t : State) → view_at plan k date s ≡ view_at plan k date t → AllMetAlike s.own.ended t.own.ended later →
      SeenAlike (names_of plan) date (outlook_at later (steps_refer (drop k plan.steps))) (sight_of s) (sight_of t)
  seen_of_view k later s t e met = record {
    stores = record {
      sets = λ key serial seen.
          shown_of (sees_key (names_of plan) key) (s.store.set key serial) (t.store.set key serial) date seen (ap (λ (v : View). v.sets key serial) e);
      entries = λ name. ap (λ (v : View). v.catalog name) e;
    };
    passed = ap (λ (v : View). v.passed) e;
    volumes = λ a b asked.
        volume_of (steps_refer (drop k plan.steps) a b) (dd_volume s.own.volumes a b) (dd_volume t.own.volumes a b) asked (ap (λ (v : View). v.volumes a b) e);
    abended = ap (λ (v : View). v.abended) e;
    job = each_of_maps (satisfied s.own.ended) (satisfied t.own.ended) plan.tests.items (ap (λ (v : View). v.job_tests) e);
    steps = met;
  }

  view_of_seen : (k : ℕ) (refers : ℕ → ℕ → Bool) (s t : State) → ((a b : ℕ) → steps_refer (drop k plan.steps) a b ≡ true → refers a b ≡ true) →
      SeenAlike (names_of plan) date (outlook_at (drop k plan.steps) refers) (sight_of s) (sight_of t) → view_at plan k date s ≡ view_at plan k date t
  view_of_seen k refers s t asked h = λ i. record {
    sets = λ key serial.
        shown_if (sees_key (names_of plan) key) (s.store.set key serial) (t.store.set key serial) date (h.stores.sets key serial) i;
    catalog = λ name. h.stores.entries name i;
    passed = h.passed i;
    volumes = λ a b.
        volume_if (steps_refer (drop k plan.steps) a b) (dd_volume s.own.volumes a b) (dd_volume t.own.volumes a b) (λ e. h.volumes a b (asked a b e)) i;
    abended = h.abended i;
    job_tests = maps_of_each (satisfied s.own.ended) (satisfied t.own.ended) plan.tests.items h.job i;
    step_tests = maps_of_steps s.own.ended t.own.ended (drop k plan.steps) h.steps i;
  }

-- a step
module _ (plan : JobPlan) (fixed : Fixed) (k : ℕ) (step : StepPlan) (os ps : List Outcome) (job : fixed.job_tests ≡ plan.tests.items)
    (at : drop k plan.steps ≡ step ∷ drop (k + 1) plan.steps) where
  abbrev outlook : Outlook
  outlook = outlook_at plan fixed.date (drop (k + 1) plan.steps) (steps_refer (drop k plan.steps))

  abbrev Open : State → State → Type 0
  Open s t = OpenAlike (names_of plan) fixed.date outlook (k + 1) os ps s t

  abbrev Shut : State → State → Type 0
  Shut s t = ShutAlike (names_of plan) fixed.date outlook s t

  record Ready (s t : State) : Type 0 where
    view : view_at plan k fixed.date s ≡ view_at plan k fixed.date t
    before : IsBefore s os
    before_too : IsBefore t ps
    class : is_run (fate_at fixed step s.own) ≡ true → IsOneClass (k + 1) plan.tests.items (drop (k + 1) plan.steps) (next_outcome os) (next_outcome ps)

  met_by_steps : (s t : State) → Ready s t → AllMetAlike s.own.ended t.own.ended (step ∷ drop (k + 1) plan.steps)
  met_by_steps s t h =
      subst (AllMetAlike s.own.ended t.own.ended) at
      (steps_of_maps s.own.ended t.own.ended (drop k plan.steps) (ap (λ (v : View). v.step_tests) h.view))

  job_met : (s t : State) → Ready s t → some_satisfied s.own.ended fixed.job_tests ≡ some_satisfied t.own.ended fixed.job_tests
  job_met s t h =
      subst (λ (tests : List Test). some_satisfied s.own.ended tests ≡ some_satisfied t.own.ended tests) (sym job)
      (any_of_each (satisfied s.own.ended) (satisfied t.own.ended) plan.tests.items
      (each_of_maps (satisfied s.own.ended) (satisfied t.own.ended) plan.tests.items (ap (λ (v : View). v.job_tests) h.view)))

  fate_alike : (s t : State) → Ready s t → fate_at fixed step s.own ≡ fate_at fixed step t.own
  fate_alike s t h =
      let own : some_satisfied s.own.ended step.tests.items ≡ some_satisfied t.own.ended step.tests.items =
      any_of_each (satisfied s.own.ended) (satisfied t.own.ended) step.tests.items (met_by_steps s t h).0 in
      λ i. fate_of ((h.before.unfaulted ∙ sym h.before_too.unfaulted) i) (job_met s t h i) step.after_abend (ap (λ (v : View). v.abended) h.view i) (own i)

  start_sees : (s t : State) → Ready s t → DidAlike Open (act fixed (Start (k + 1) step) s) (act fixed (Start (k + 1) step) t)
  unfolding act
  start_sees s t h =
      record {
        fates = λ i. fate_alike s t h i ∷ [];
        meets = refl;
        made = refl;
        state = record {
          seen = seen_of_view plan fixed.date k (drop (k + 1) plan.steps) s t h.view (met_by_steps s t h).1;
          runs = ap is_run (fate_alike s t h);
          dds = tt;
          unended = refl;
          unended_too = refl;
          answers = h.before.answers;
          answers_too = h.before_too.answers;
          class = h.class;
        };
      }

  asked_now : (a b : ℕ) → list_any (λ (d : DdPlan). kind_refers d.kind a b) step.dds ≡ true → steps_refer (drop k plan.steps) a b ≡ true
  asked_now a b e =
      subst (λ (steps : List StepPlan). steps_refer steps a b ≡ true) (sym at)
      (or_left (list_any (λ (d : DdPlan). kind_refers d.kind a b) step.dds) (steps_refer (drop (k + 1) plan.steps) a b) e)

  asked_later : (a b : ℕ) → steps_refer (drop (k + 1) plan.steps) a b ≡ true → steps_refer (drop k plan.steps) a b ≡ true
  asked_later a b e =
      subst (λ (steps : List StepPlan). steps_refer steps a b ≡ true) (sym at)
      (or_right (list_any (λ (d : DdPlan). kind_refers d.kind a b) step.dds) (steps_refer (drop (k + 1) plan.steps) a b) e)

  step_does : (rest : List Action) → Lead (names_of plan) fixed Ready Shut (step_actions (k + 1) step []) rest
  step_does rest =
      first_leads (names_of plan) fixed Ready Open Shut (Start (k + 1) step)
      (takes_from (k + 1) 1 step.dds ++ (Finish (k + 1) ∷ disposes_from (k + 1) 1 step.dds)) rest (λ s t h fits. start_sees s t h)
      (step_leads (names_of plan) fixed outlook (k + 1) os ps step rest asked_now)

  step_sees : (rest : List Action) (s t : State) → Ready s t → Fits (names_of plan) fixed.meanings (step_actions (k + 1) step [] ++ rest) s.own →
      DidTheSame plan fixed.date (k + 1) (run fixed (step_actions (k + 1) step []) s) (run fixed (step_actions (k + 1) step []) t)
  step_sees rest s t h fits =
      let ran : RanAlike Shut (run fixed (step_actions (k + 1) step []) s) (run fixed (step_actions (k + 1) step []) t) = step_does rest s t h fits in
      record {
        fates = ran.fates;
        faults = ran.faults;
        made = ran.made;
        view = view_of_seen plan fixed.date (k + 1) (steps_refer (drop k plan.steps)) (run fixed (step_actions (k + 1) step []) s).state
            (run fixed (step_actions (k + 1) step []) t).state asked_later ran.state.seen;
      }

-- the job's end: no step is left
module _ (plan : JobPlan) (fixed : Fixed) (k : ℕ) (none : drop k plan.steps ≡ []) where
  none_later : drop (k + 1) plan.steps ≡ []
  none_later = ap (λ (n : ℕ). drop n plan.steps) (add-one k) ∙ none_behind plan.steps k none

  abbrev last : Outlook
  last = outlook_at plan fixed.date (drop (k + 1) plan.steps) (steps_refer (drop k plan.steps))

  abbrev Seen : State → State → Type 0
  Seen s t = SeenAlike (names_of plan) fixed.date last (sight_of s) (sight_of t)

  asked_no_more : (a b : ℕ) → steps_refer (drop (k + 1) plan.steps) a b ≡ true → steps_refer (drop k plan.steps) a b ≡ true
  asked_no_more a b e = subst (λ (steps : List StepPlan). steps_refer steps a b ≡ true) (none_later ∙ sym none) e

  abbrev ending : List Action
  ending = lefts_from 1 plan.steps ++ (Over ∷ [])

  end_sees : (rest : List Action) (s t : State) → view_at plan k fixed.date s ≡ view_at plan k fixed.date t →
      Fits (names_of plan) fixed.meanings (ending ++ rest) s.own → DidTheSame plan fixed.date (k + 1) (run fixed ending s) (run fixed ending t)
  end_sees rest s t view fits =
      let seen : Seen s t =
      seen_of_view plan fixed.date k (drop (k + 1) plan.steps) s t view (subst (AllMetAlike s.own.ended t.own.ended) (sym none_later) tt) in
      let ran : RanAlike Seen (run fixed ending s) (run fixed ending t) = end_leads (names_of plan) fixed last plan.steps rest s t seen fits in
      record {
        fates = ran.fates;
        faults = ran.faults;
        made = ran.made;
        view = view_of_seen plan fixed.date (k + 1) (steps_refer (drop k plan.steps)) (run fixed ending s).state (run fixed ending t).state asked_no_more
            ran.state;
      }

pub part_sees : (plan : JobPlan) (fixed : Fixed) (k : ℕ) (rest : List Action) (s t : State) (os ps : List Outcome) → fixed.job_tests ≡ plan.tests.items →
    view_at plan k fixed.date s ≡ view_at plan k fixed.date t → IsBefore s os → IsBefore t ps →
    (part_runs fixed (drop k plan.steps) s.own ≡ true → IsOneClass (k + 1) plan.tests.items (drop (k + 1) plan.steps) (next_outcome os) (next_outcome ps)) →
    Fits (names_of plan) fixed.meanings (path_part plan k ++ rest) s.own →
    DidTheSame plan fixed.date (k + 1) (run fixed (path_part plan k) s) (run fixed (path_part plan k) t)
part_sees plan fixed k rest s t os ps job view before before_too class fits = by_steps (drop k plan.steps) refl class fits
  where
    by_steps : (steps : List StepPlan) → drop k plan.steps ≡ steps →
        (part_runs fixed steps s.own ≡ true → IsOneClass (k + 1) plan.tests.items (drop (k + 1) plan.steps) (next_outcome os) (next_outcome ps)) →
        Fits (names_of plan) fixed.meanings (part_from k plan.steps steps ++ rest) s.own →
        DidTheSame plan fixed.date (k + 1) (run fixed (part_from k plan.steps steps) s) (run fixed (part_from k plan.steps steps) t)
    by_steps [] is class fits = end_sees plan fixed k is rest s t view fits
    by_steps (step ∷ later) is class fits =
        let next : drop (k + 1) plan.steps ≡ later = ap (λ (n : ℕ). drop n plan.steps) (add-one k) ∙ behind plan.steps k step later is in
        step_sees plan fixed k step os ps job (is ∙ ap (λ (steps : List StepPlan). step ∷ steps) (sym next)) rest s t
        (record { view = view; before = before; before_too = before_too; class = class }) fits
