-- The takes of a step do not look at the outcomes that are given: beside other answers they meet the same faults.
use Rattle.std.proofs.Common.{◌≡◌, ◌+◌, ℕ, Bool, true, false, List, [], ◌∷◌, Option, refl, ap, ◌∙◌, subst}
use Rattle.std.specs.Prelude.{is_some}
use Rattle.jname_core.specs.declared.key.Key.{Key}
use Rattle.jcl_plan.specs.declared.plan.DdKind.{DdKind}
use Rattle.jcl_plan.specs.declared.plan.DdKind.TheVariants.{Cards, Dummy, Set, Sysout}
use Rattle.jcl_plan.specs.declared.plan.DdPlan.{DdPlan}
use Rattle.jcl_plan.specs.declared.plan.SetPlan.{SetPlan}
use Rattle.jcl_plan.specs.declared.plan.StepPlan.{StepPlan}
use Rattle.jcl_meaning.specs.declared.state.Resolution.{Resolution}
use Rattle.jcl_meaning.specs.declared.state.Resolution.TheVariants.{Fails, Means}
use Rattle.jcl_meaning.specs.declared.take.Decision.{Decision}
use Rattle.jcl_meaning.specs.declared.take.Decision.TheVariants.{Refuses, Takes}
use Rattle.jcl_meaning.specs.declared.take.Target.{Target}
use Rattle.jcl_meaning.specs.Acts.{act}
use Rattle.jcl_meaning.specs.Agendas.{Start, Take, takes_from}
use Rattle.jcl_meaning.specs.Resolutions.{meaning_at}
use Rattle.jcl_meaning.specs.States.{Answers, Done, Fixed, State, if_runs}
use Rattle.jcl_meaning.specs.TakeActs.{decided, decision_at, takes, takes_set, target_at}
use Rattle.jcl_meaning.specs.Takes.{decide, is_known, is_there, looked_at}
use Rattle.solo_core.specs.Meets.{meets_in}

abbrev pub beside : Answers → State → State
beside b s = record { store = s.store; own = s.own; answers = b }

-- one did beside other answers what the other did
record DidBeside (b : Answers) (d e : Done) : Type 0 where
  meets : d.meets ≡ e.meets
  state : d.state ≡ beside b e.state
  primary : e.state.answers.primary ≡ b.primary

module _ (fixed : Fixed) (b : Answers) where
  module _ (n dd : ℕ) (name : Option (List ℕ)) (s : State) (h : s.answers.primary ≡ b.primary) where
    decided_beside : (p : SetPlan) (key : Key) (d : Decision) →
        DidBeside b (decided fixed n dd name p key (beside b s) d) (decided fixed n dd name p key s d)
    decided_beside p key (Refuses fault) = record { meets = refl; state = refl; primary = h }
    decided_beside p key (Takes serial how) = record { meets = refl; state = refl; primary = h }

    set_beside : (p : SetPlan) (r : Resolution) → DidBeside b (takes_set fixed n dd name p (beside b s) r) (takes_set fixed n dd name p s r)
    set_beside p (Fails fault) = record { meets = refl; state = refl; primary = h }
    set_beside p (Means key) =
        let t : Target = target_at fixed n dd p key s in
        subst (λ (granted : Bool). DidBeside b
        (decided fixed n dd name p key (beside b s)
        (decide t (is_known fixed.volumes (looked_at t)) (is_there s.store key (looked_at t)) (is_some p.space) granted))
        (decided fixed n dd name p key s (decision_at fixed p key s t)))
        h (decided_beside p key (decision_at fixed p key s t))

    takes_beside : (kind : DdKind) → DidBeside b (takes fixed n dd name kind (beside b s)) (takes fixed n dd name kind s)
    takes_beside (Sysout class) = record { meets = refl; state = refl; primary = h }
    takes_beside Dummy = record { meets = refl; state = refl; primary = h }
    takes_beside (Cards cards) = record { meets = refl; state = refl; primary = h }
    takes_beside (Set p) = set_beside p (meaning_at fixed.meanings n dd)

    either_beside : (runs : Bool) (d e : Done) → DidBeside b d e → DidBeside b (if_runs runs (beside b s) d) (if_runs runs s e)
    either_beside true d e did = did
    either_beside false d e did = record { meets = refl; state = refl; primary = h }

  take_beside : (n dd : ℕ) (d : DdPlan) (s : State) → s.answers.primary ≡ b.primary →
      DidBeside b (act fixed (Take n dd d) (beside b s)) (act fixed (Take n dd d) s)
  unfolding act
  take_beside n dd d s h = either_beside n dd d.name s h s.own.runs _ _ (takes_beside n dd d.name s h d.kind)

  start_beside : (n : ℕ) (step : StepPlan) (s : State) → s.answers.primary ≡ b.primary →
      DidBeside b (act fixed (Start n step) (beside b s)) (act fixed (Start n step) s)
  unfolding act
  start_beside n step s h = record { meets = refl; state = refl; primary = h }

  all_beside : (n dd : ℕ) (ds : List DdPlan) (s : State) → s.answers.primary ≡ b.primary →
      meets_in fixed (takes_from n dd ds) (beside b s) ≡ meets_in fixed (takes_from n dd ds) s
  all_beside n dd [] s h = refl
  all_beside n dd (d ∷ ds) s h =
      let one : DidBeside b (act fixed (Take n dd d) (beside b s)) (act fixed (Take n dd d) s) = take_beside n dd d s h in
      let more : meets_in fixed (takes_from n (dd + 1) ds) (act fixed (Take n dd d) (beside b s)).state
      ≡ meets_in fixed (takes_from n (dd + 1) ds) (act fixed (Take n dd d) s).state =
      ap (meets_in fixed (takes_from n (dd + 1) ds)) one.state ∙ all_beside n (dd + 1) ds (act fixed (Take n dd d) s).state one.primary in
      λ i. one.meets i ∷ more i

  pub start_and_takes : (n : ℕ) (step : StepPlan) (ds : List DdPlan) (s : State) → s.answers.primary ≡ b.primary →
      meets_in fixed (Start n step ∷ takes_from n 1 ds) (beside b s) ≡ meets_in fixed (Start n step ∷ takes_from n 1 ds) s
  start_and_takes n step ds s h =
      let one : DidBeside b (act fixed (Start n step) (beside b s)) (act fixed (Start n step) s) = start_beside n step s h in
      let more : meets_in fixed (takes_from n 1 ds) (act fixed (Start n step) (beside b s)).state
      ≡ meets_in fixed (takes_from n 1 ds) (act fixed (Start n step) s).state =
      ap (meets_in fixed (takes_from n 1 ds)) one.state ∙ all_beside n 1 ds (act fixed (Start n step) s).state one.primary in
      λ i. one.meets i ∷ more i
