-- From states of which a job sees the same, its actions do the same one after the other: those of a step, and those of the job's end.
use Rattle.std.proofs.Common.{◌≡◌, ◌++◌, ◌+◌, ◌&&◌, ◌==◌, ℕ, Bool, true, false, cond, List, [], ◌∷◌, map, refl, sym, ◌∙◌, subst, append_assoc}
use Rattle.std.specs.List.{list_any}
use Rattle.std.proofs.lemmas.Bool.{eq-eqb, or_left, or_right}
use Rattle.std.proofs.lemmas.List.Elements.{filter_map-append}
use Rattle.jcl_plan.specs.declared.outcome.Outcome.{Outcome}
use Rattle.jcl_plan.specs.declared.plan.DdKind.{DdKind}
use Rattle.jcl_plan.specs.declared.plan.DdKind.TheVariants.{Sysout, Dummy, Cards, Set}
use Rattle.jcl_plan.specs.declared.plan.DdPlan.{DdPlan}
use Rattle.jcl_plan.specs.declared.plan.StepPlan.{StepPlan}
use Rattle.jcl_plan.specs.declared.plan.VolumePlan.{VolumePlan}
use Rattle.jcl_plan.specs.declared.plan.VolumePlan.TheVariants as volume
use Rattle.jcl_meaning.specs.declared.names.HeldName.{HeldName}
use Rattle.jcl_meaning.specs.Acts.{act}
use Rattle.jcl_meaning.specs.Agendas.{Action, Dispose, Finish, Left, Over, Take, disposes_from, left_by, lefts_from, lefts_in, takes_from}
use Rattle.jcl_meaning.specs.Plans.{passes}
use Rattle.jcl_meaning.specs.Solo.{later, met_first, run}
use Rattle.jcl_meaning.specs.States.{Fixed, State}
use Rattle.jcl_meaning.specs.Views.{kind_refers, refers}
use Rattle.part_laws.specs.Fits.{Fits}
use Rattle.part_laws.proofs.ActsFit.{act_fits}
use Rattle.path_meaning.specs.Paths.{fate_told}
use Rattle.path_laws.proofs.ActsSee.{dispose_sees, finish_sees, left_sees, over_sees, take_sees}
use Rattle.path_laws.proofs.Sights.{DidAlike, IsKindAsked, IsAsked, OpenAlike, Outlook, RanAlike, SeenAlike, ShutAlike, sight_of}

-- a DD that asks for volumes which are known alike
same_numbers : (a b : ℕ) → (a == a && b == b) ≡ true
same_numbers a b = λ i. eq-eqb a a refl i && eq-eqb b b refl i

volume_asked : (known : ℕ → ℕ → Bool) (v : VolumePlan) → ((a b : ℕ) → refers v a b ≡ true → known a b ≡ true) → IsAsked known v
volume_asked known volume.NotCoded asked = tt
volume_asked known (volume.Serial serial) asked = tt
volume_asked known (volume.OfName name) asked = tt
volume_asked known (volume.OfDd a b) asked = asked a b (same_numbers a b)

kind_asked : (known : ℕ → ℕ → Bool) (kind : DdKind) → ((a b : ℕ) → kind_refers kind a b ≡ true → known a b ≡ true) → IsKindAsked known kind
kind_asked known (Sysout class) asked = tt
kind_asked known Dummy asked = tt
kind_asked known (Cards cards) asked = tt
kind_asked known (Set p) asked = volume_asked known p.volume asked

abbrev dds_refer : List DdPlan → ℕ → ℕ → Bool
dds_refer ds a b = list_any (λ (d : DdPlan). kind_refers d.kind a b) ds

module _ (names : List HeldName) (fixed : Fixed) where
  -- these actions, with those behind them, do the same from states that are related by the one, and lead to states related by the other
  abbrev pub Lead : (State → State → Type 0) → (State → State → Type 0) → List Action → List Action → Type 0
  Lead From To actions rest = (s t : State) → From s t → Fits names fixed.meanings (actions ++ rest) s.own →
      RanAlike To (run fixed actions s) (run fixed actions t)

  nothing_leads : (Related : State → State → Type 0) (rest : List Action) → Lead Related Related [] rest
  unfolding run
  nothing_leads Related rest s t h fits = record { fates = refl; faults = refl; made = refl; state = h }

  pub first_leads : (From Between To : State → State → Type 0) (a : Action) (actions rest : List Action) →
      ((s t : State) → From s t → Fits names fixed.meanings (a ∷ (actions ++ rest)) s.own → DidAlike Between (act fixed a s) (act fixed a t)) →
      Lead Between To actions rest → Lead From To (a ∷ actions) rest
  unfolding run
  first_leads From Between To a actions rest one more s t h fits =
      let d : DidAlike Between (act fixed a s) (act fixed a t) = one s t h fits in
      let r : RanAlike To (run fixed actions (act fixed a s).state) (run fixed actions (act fixed a t).state) =
      more (act fixed a s).state (act fixed a t).state d.state (act_fits names fixed a (actions ++ rest) s fits) in
      record {
        fates = filter_map-append fate_told (act fixed a s).lines (run fixed actions (act fixed a s).state).lines
            ∙ ((λ i. d.fates i ++ r.fates i) ∙ sym (filter_map-append fate_told (act fixed a t).lines (run fixed actions (act fixed a t).state).lines));
        faults = λ i. met_first (d.meets i) (map later (r.faults i));
        made = λ i. d.made i ++ r.made i;
        state = r.state;
      }

  module _ (outlook : Outlook) where
    abbrev Seen : State → State → Type 0
    Seen s t = SeenAlike names fixed.date outlook (sight_of s) (sight_of t)

    abbrev Shut : State → State → Type 0
    Shut s t = ShutAlike names fixed.date outlook s t

    -- behind a step's start
    disposes_lead : (n dd : ℕ) (ds : List DdPlan) (rest : List Action) → Lead Shut Shut (disposes_from n dd ds) rest
    disposes_lead n dd [] rest = nothing_leads Shut rest
    disposes_lead n dd (d ∷ ds) rest =
        first_leads Shut Shut Shut (Dispose n dd d) (disposes_from n (dd + 1) ds) rest
        (dispose_sees names fixed outlook n dd d (disposes_from n (dd + 1) ds ++ rest)) (disposes_lead n (dd + 1) ds rest)

    module _ (n : ℕ) (os ps : List Outcome) where
      abbrev Open : State → State → Type 0
      Open s t = OpenAlike names fixed.date outlook n os ps s t

      takes_lead : (dd : ℕ) (ds : List DdPlan) (actions rest : List Action) → ((a b : ℕ) → dds_refer ds a b ≡ true → outlook.refers a b ≡ true) →
          Lead Open Shut actions rest → Lead Open Shut (takes_from n dd ds ++ actions) rest
      takes_lead dd [] actions rest asked more = more
      takes_lead dd (d ∷ ds) actions rest asked more =
          first_leads Open Open Shut (Take n dd d) (takes_from n (dd + 1) ds ++ actions) rest
          (take_sees names fixed outlook n os ps dd d
          (kind_asked outlook.refers d.kind (λ a b e. asked a b (or_left (kind_refers d.kind a b) (dds_refer ds a b) e)))
          ((takes_from n (dd + 1) ds ++ actions) ++ rest))
          (takes_lead (dd + 1) ds actions rest (λ a b e. asked a b (or_right (kind_refers d.kind a b) (dds_refer ds a b) e)) more)

      pub step_leads : (step : StepPlan) (rest : List Action) → ((a b : ℕ) → dds_refer step.dds a b ≡ true → outlook.refers a b ≡ true) →
          Lead Open Shut (takes_from n 1 step.dds ++ (Finish n ∷ disposes_from n 1 step.dds)) rest
      step_leads step rest asked =
          takes_lead 1 step.dds (Finish n ∷ disposes_from n 1 step.dds) rest asked
          (first_leads Open Shut Shut (Finish n) (disposes_from n 1 step.dds) rest (λ s t h fits. finish_sees names fixed outlook n os ps s t h)
          (disposes_lead n 1 step.dds rest))

    -- the job's end
    left_leads : (n dd : ℕ) (d : DdPlan) (passed : Bool) (actions rest : List Action) → Lead Seen Seen actions rest →
        Lead Seen Seen (cond passed (Left n dd d ∷ []) [] ++ actions) rest
    left_leads n dd d true actions rest more =
        first_leads Seen Seen Seen (Left n dd d) actions rest (left_sees names fixed outlook n dd d (actions ++ rest)) more
    left_leads n dd d false actions rest more = more

    lefts_in_lead : (n dd : ℕ) (ds : List DdPlan) (actions rest : List Action) → Lead Seen Seen actions rest →
        Lead Seen Seen (lefts_in n dd ds ++ actions) rest
    lefts_in_lead n dd [] actions rest more = more
    lefts_in_lead n dd (d ∷ ds) actions rest more =
        subst (λ (xs : List Action). Lead Seen Seen xs rest) (sym (append_assoc (left_by n dd d) (lefts_in n (dd + 1) ds) actions))
        (left_leads n dd d (passes d.kind) (lefts_in n (dd + 1) ds ++ actions) rest (lefts_in_lead n (dd + 1) ds actions rest more))

    lefts_lead : (n : ℕ) (steps : List StepPlan) (actions rest : List Action) → Lead Seen Seen actions rest →
        Lead Seen Seen (lefts_from n steps ++ actions) rest
    lefts_lead n [] actions rest more = more
    lefts_lead n (step ∷ steps) actions rest more =
        subst (λ (xs : List Action). Lead Seen Seen xs rest) (sym (append_assoc (lefts_in n 1 step.dds) (lefts_from (n + 1) steps) actions))
        (lefts_in_lead n 1 step.dds (lefts_from (n + 1) steps ++ actions) rest (lefts_lead (n + 1) steps actions rest more))

    pub end_leads : (steps : List StepPlan) (rest : List Action) → Lead Seen Seen (lefts_from 1 steps ++ (Over ∷ [])) rest
    end_leads steps rest =
        lefts_lead 1 steps (Over ∷ []) rest
        (first_leads Seen Seen Seen Over [] rest (λ s t h fits. over_sees names fixed outlook s t h) (nothing_leads Seen rest))
