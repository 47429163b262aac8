-- The taking of a set reads no more of its plan than its text has.
use Rattle.std.proofs.Common.{◌≡◌, ℕ, Bool, List, Option, Some, None, is_some, refl, sym, ap, subst, ◌∙◌}
use Rattle.jname_core.specs.declared.key.Key.{Key}
use Rattle.jcl_plan.specs.declared.fault.Fault.{Fault}
use Rattle.jcl_plan.specs.declared.plan.SetPlan.{SetPlan}
use Rattle.jcl_plan.specs.declared.plan.Space.{Space}
use Rattle.jcl_meaning.specs.declared.state.Own.{Own}
use Rattle.jcl_meaning.specs.declared.state.Place.{Place}
use Rattle.jcl_meaning.specs.declared.state.Resolution.{Resolution}
use Rattle.jcl_meaning.specs.declared.state.Resolution.TheVariants.{Means, Fails}
use Rattle.jcl_meaning.specs.declared.take.Decision.{Decision}
use Rattle.jcl_meaning.specs.declared.take.Decision.TheVariants.{Refuses, Takes}
use Rattle.jcl_meaning.specs.declared.take.How.TheVariants as how
use Rattle.jcl_meaning.specs.States.{Fixed, State}
use Rattle.jcl_meaning.specs.Stores.{Store}
use Rattle.jcl_meaning.specs.TakeActs.{decided, takes_set, target_at}
use Rattle.jcl_meaning.specs.Takes.{decide, is_known, is_there, looked_at, primary_of}
use Rattle.job_text.specs.Texts.{primary_in, space_as, take_as, take_set}
use Rattle.store_core.specs.Actions.{state_at}
use Rattle.disp_core.specs.Courses.{Does}
use Rattle.disp_core.specs.Grants.{CarriedWith, granted_by, granted_on}
use Rattle.disp_core.specs.Takings.{target_in}
use Rattle.disp_core.specs.declared.course.Course.{Course}

primary_read : (space : Option Space) → primary_of (space_as (primary_in space)) ≡ primary_of space
primary_read None = refl
primary_read (Some space) = refl

space_read : (space : Option Space) → is_some (space_as (primary_in space)) ≡ is_some space
space_read None = refl
space_read (Some space) = refl

module _ (grants : Key → Place → ℕ → Bool) (fixed : Fixed) (n dd : ℕ) (name : Option (List ℕ)) (p : SetPlan) where
  granted_read : (key : Key) (at : Option (List ℕ)) → granted_on (grants key) n dd (take_as (take_set p)) at ≡ granted_on (grants key) n dd p at
  granted_read key None = refl
  granted_read key (Some serial) = ap (grants key (record { step = n; dd = dd; serial = serial })) (primary_read p.space)

  grants_read : (seen : Store) (own : Own) (means : Resolution) →
      granted_by grants fixed n dd (take_as (take_set p)) seen own means ≡ granted_by grants fixed n dd p seen own means
  grants_read seen own (Fails fault) = refl
  grants_read seen own (Means key) = granted_read key (looked_at (target_in fixed n dd p key seen own))

  made_read : (space : Option Space) (key : Key) (s : State) (serial : List ℕ) →
      decided fixed n dd name (take_as (take_set (record p { space = space }))) key s (Takes serial how.Made)
      ≡ decided fixed n dd name (record p { space = space }) key s (Takes serial how.Made)
  made_read None key s serial = refl
  made_read (Some space) key s serial = refl

  decided_read : (key : Key) (s : State) (d : Decision) → decided fixed n dd name (take_as (take_set p)) key s d ≡ decided fixed n dd name p key s d
  decided_read key s (Refuses fault) = refl
  decided_read key s (Takes serial how.Made) = made_read p.space key s serial
  decided_read key s (Takes serial how.Found) = refl
  decided_read key s (Takes serial how.FoundByCatalog) = refl
  decided_read key s (Takes serial (how.Received made by_catalog)) = refl

  takes_read : (s : State) (means : Resolution) → takes_set fixed n dd name (take_as (take_set p)) s means ≡ takes_set fixed n dd name p s means
  takes_read s (Fails fault) = refl
  takes_read s (Means key) =
      let to = target_at fixed n dd p key s in
      let known : Bool = is_known fixed.volumes (looked_at to) in
      let there : Bool = is_there s.store key (looked_at to) in
      ap (λ space. decided fixed n dd name (take_as (take_set p)) key s (decide to known there space s.answers.primary)) (space_read p.space)
      ∙ decided_read key s (decide to known there (is_some p.space) s.answers.primary)

  -- what was carried out as it was read is what the take of the set does
  pub taken_read : (seen : Store) (before : Course) (after_seen : Store) (after : Course) (meets : Option Fault) (made : List Place) (means : Resolution) →
      CarriedWith (granted_by grants fixed n dd (take_as (take_set p)) seen before.own means) (λ s. takes_set fixed n dd name (take_as (take_set p)) s means)
      seen before after_seen after meets made →
      CarriedWith (granted_by grants fixed n dd p seen before.own means) (λ s. takes_set fixed n dd name p s means) seen before after_seen after meets made
  taken_read seen before after_seen after meets made means h answers e =
      subst (λ d. Does d after_seen after before answers meets made) (takes_read (state_at seen before.own answers) means)
      (h answers (e ∙ sym (grants_read seen before.own means)))
