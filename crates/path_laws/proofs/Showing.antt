-- Behind its start a step does the same from states that show the same, and so does the job's end.
use Rattle.std.proofs.Common.{◌≡◌, ◌++◌, ◌+◌, ℕ, Bool, true, List, [], ◌∷◌, drop, refl, sym, ap, ◌∙◌, subst, add-one}
use Rattle.std.specs.List.{list_any}
use Rattle.std.proofs.lemmas.Bool.{or_left, or_right}
use Rattle.jcl_plan.specs.declared.outcome.Outcome.{Outcome}
use Rattle.jcl_plan.specs.declared.plan.DdPlan.{DdPlan}
use Rattle.jcl_plan.specs.declared.plan.JobPlan.{JobPlan}
use Rattle.jcl_plan.specs.declared.plan.StepPlan.{StepPlan}
use Rattle.jcl_meaning.specs.declared.state.DdState.{DdState}
use Rattle.jcl_meaning.specs.Agendas.{Action}
use Rattle.jcl_meaning.specs.History.{is_abend}
use Rattle.jcl_meaning.specs.Names.{names_of}
use Rattle.jcl_meaning.specs.Parts.{sees_key}
use Rattle.jcl_meaning.specs.Solo.{run}
use Rattle.jcl_meaning.specs.States.{Fixed, State}
use Rattle.jcl_meaning.specs.Takes.{dd_volume}
use Rattle.jcl_meaning.specs.Views.{kind_refers, steps_refer}
use Rattle.part_laws.specs.Fits.{Fits}
use Rattle.path_laws.specs.PathParts.{next_outcome, part_from, path_part}
use Rattle.path_laws.proofs.PartsSee.{behind, shown_if, shown_of, volume_if, volume_of}
use Rattle.path_laws.proofs.RunsSee.{end_leads, step_leads}
use Rattle.path_laws.proofs.Sights.{OpenAlike, Outlook, RanAlike, SeenAlike, ShutAlike, TookAlike, sight_of}
use Rattle.path_laws.specs.Steps.{DoTheSame, HasStarted, ShowTheSame, behind_start}

-- the tests apart, what two states show is seen alike
abbrev no_tests : (ℕ → ℕ → Bool) → Outlook
no_tests refers = record { tests = []; later = []; refers = refers }

module _ (plan : JobPlan) (date : ℕ) where
  seen_of_shown : (k : ℕ) (s t : State) → ShowTheSame plan date k s t →
      SeenAlike (names_of plan) date (no_tests (steps_refer (drop k plan.steps))) (sight_of s) (sight_of t)
  seen_of_shown k s t h = record {
    stores = record {
      sets = λ key serial seen.
          shown_of (sees_key (names_of plan) key) (s.store.set key serial) (t.store.set key serial) date seen (λ i. h.sets i key serial);
      entries = λ name. (λ i. h.catalog i name);
    };
    passed = h.passed;
    volumes = λ a b asked.
        volume_of (steps_refer (drop k plan.steps) a b) (dd_volume s.own.volumes a b) (dd_volume t.own.volumes a b) asked (λ i. h.volumes i a b);
    abended = h.abended;
    job = tt;
    steps = tt;
  }

  shown_of_seen : (k : ℕ) (refers : ℕ → ℕ → Bool) (s t : State) → ((a b : ℕ) → steps_refer (drop k plan.steps) a b ≡ true → refers a b ≡ true) →
      SeenAlike (names_of plan) date (no_tests refers) (sight_of s) (sight_of t) → ShowTheSame plan date k s t
  shown_of_seen k refers s t asked h = record {
    sets = λ i key serial. shown_if (sees_key (names_of plan) key) (s.store.set key serial) (t.store.set key serial) date (h.stores.sets key serial) i;
    catalog = λ i name. h.stores.entries name i;
    passed = h.passed;
    volumes = λ i a b.
        volume_if (steps_refer (drop k plan.steps) a b) (dd_volume s.own.volumes a b) (dd_volume t.own.volumes a b) (λ e. h.volumes a b (asked a b e)) i;
    abended = h.abended;
  }

none_took : (xs ys : List DdState) → xs ≡ [] → ys ≡ [] → TookAlike xs ys
none_took [] [] p q = tt
none_took [] (y ∷ ys) p q = absurd cc
none_took (x ∷ xs) ys p q = absurd cc

module _ (plan : JobPlan) (fixed : Fixed) (k : ℕ) (step : StepPlan) (after : List StepPlan) (is : drop k plan.steps ≡ step ∷ after) where
  rest_is : drop (k + 1) plan.steps ≡ after
  rest_is = ap (λ (n : ℕ). drop n plan.steps) (add-one k) ∙ behind plan.steps k step after is

  asked_now : (a b : ℕ) → list_any (λ (d : DdPlan). kind_refers d.kind a b) step.dds ≡ true → steps_refer (drop k plan.steps) a b ≡ true
  asked_now a b e =
      subst (λ (steps : List StepPlan). steps_refer steps a b ≡ true) (sym is)
      (or_left (list_any (λ (d : DdPlan). kind_refers d.kind a b) step.dds) (steps_refer after a b) e)

  asked_later : (a b : ℕ) → steps_refer (drop (k + 1) plan.steps) a b ≡ true → steps_refer (drop k plan.steps) a b ≡ true
  asked_later a b e =
      subst (λ (steps : List StepPlan). steps_refer steps a b ≡ true) (sym is)
      (or_right (list_any (λ (d : DdPlan). kind_refers d.kind a b) step.dds) (steps_refer after a b)
      (subst (λ (steps : List StepPlan). steps_refer steps a b ≡ true) rest_is e))

  pub step_does : (rest : List Action) (s t : State) (os ps : List Outcome) → ShowTheSame plan fixed.date k s t → HasStarted s os → HasStarted t ps →
      is_abend (next_outcome os) ≡ is_abend (next_outcome ps) → Fits (names_of plan) fixed.meanings (behind_start (k + 1) step ++ rest) s.own →
      DoTheSame plan fixed.date (k + 1) (run fixed (behind_start (k + 1) step) s) (run fixed (behind_start (k + 1) step) t)
  step_does rest s t os ps shows h g abend fits =
      let refers : ℕ → ℕ → Bool = steps_refer (drop k plan.steps) in
      let opened : OpenAlike (names_of plan) fixed.date (no_tests refers) (k + 1) os ps s t = record {
        seen = seen_of_shown plan fixed.date k s t shows;
        runs = h.runs ∙ sym g.runs;
        dds = none_took s.own.dds t.own.dds h.none_taken g.none_taken;
        unended = h.unended;
        unended_too = g.unended;
        answers = h.answers;
        answers_too = g.answers;
        class = λ runs. record { abend = abend; job = tt; steps = tt };
      } in
      let ran : RanAlike (ShutAlike (names_of plan) fixed.date (no_tests refers)) (run fixed (behind_start (k + 1) step) s) (run fixed (behind_start (k + 1) step) t) =
      step_leads (names_of plan) fixed (no_tests refers) (k + 1) os ps step rest asked_now s t opened fits in
      record {
        faults = ran.faults;
        made = ran.made;
        shows = shown_of_seen plan fixed.date (k + 1) refers (run fixed (behind_start (k + 1) step) s).state (run fixed (behind_start (k + 1) step) t).state
            asked_later ran.state.seen;
      }

pub end_does : (plan : JobPlan) (fixed : Fixed) (k : ℕ) (rest : List Action) (s t : State) → drop k plan.steps ≡ [] → ShowTheSame plan fixed.date k s t →
    Fits (names_of plan) fixed.meanings (path_part plan k ++ rest) s.own →
    (run fixed (path_part plan k) s).faults ≡ (run fixed (path_part plan k) t).faults
end_does plan fixed k rest s t none shows =
    subst (λ (steps : List StepPlan). Fits (names_of plan) fixed.meanings (part_from k plan.steps steps ++ rest) s.own →
    (run fixed (part_from k plan.steps steps) s).faults ≡ (run fixed (part_from k plan.steps steps) t).faults) (sym none)
    (λ fits. (end_leads (names_of plan) fixed (no_tests (steps_refer (drop k plan.steps))) plan.steps rest s t
    (seen_of_shown plan fixed.date k s t shows) fits).faults)
