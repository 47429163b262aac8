-- What is told of a job before it runs is the only answer: two earliest faults have one place, and no step has too many views where a fault comes
-- first. (With the law that a job free of faults has neither.)
use Rattle.std.specs.Prelude.{◌≡◌, ℕ, List}
use Rattle.jcl_plan.specs.declared.fault.Fault.{Fault}
use Rattle.jcl_plan.specs.declared.outcome.Outcome.{Outcome}
use Rattle.jcl_plan.specs.declared.plan.JobPlan.{JobPlan}
use Rattle.jcl_meaning.specs.declared.state.Place.{Place}
use Rattle.jcl_meaning.specs.States.{Fixed}
use Rattle.jcl_meaning.specs.Stores.{Store}
use Rattle.path_meaning.specs.Verdicts.{AreMade, IsEarliest, IsFirstWithMore}

-- two earliest faults are met at one place, by one DD of one step
abbrev pub OnePlace : Type 0
OnePlace = (fixed : Fixed) (plan : JobPlan) (store : Store) (limit : ℕ) (f g : Fault) (m n d e : ℕ) (os ps : List Outcome) →
    (a : IsEarliest fixed plan store limit f m d os) → (b : IsEarliest fixed plan store limit g n e ps) →
    (a.meets.place ≡ b.meets.place) × (m ≡ n) × (d ≡ e)

abbrev pub NotBoth : Type 0
NotBoth = (fixed : Fixed) (plan : JobPlan) (store : Store) (limit step n d : ℕ) (f : Fault) (path : List Outcome) →
    IsEarliest fixed plan store limit f n d path → IsFirstWithMore fixed plan store limit step → ⊥

abbrev pub OneStep : Type 0
OneStep = (fixed : Fixed) (plan : JobPlan) (store : Store) (limit m n : ℕ) → IsFirstWithMore fixed plan store limit m →
    IsFirstWithMore fixed plan store limit n → m ≡ n

abbrev pub OneList : Type 0
OneList = (fixed : Fixed) (plan : JobPlan) (store : Store) (ps qs : List Place) → AreMade fixed plan store ps → AreMade fixed plan store qs → ps ≡ qs

pub record IsOneAnswer : Type 0 where
  pub place : OnePlace
  pub not_both : NotBoth
  pub step : OneStep
  pub places : OneList
