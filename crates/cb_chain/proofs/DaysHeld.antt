-- A layout in which a set can have any day holds what a job says of its sets' expiry.
use Rattle.std.proofs.Common.{ℕ, ◌+◌, ◌<◌, ◌≤◌, ◌^◌, List, [], ◌∷◌, arith}
use Rattle.std.proofs.lemmas.List.Elements.{All-cons, All-nil}
use Rattle.jcl_plan.specs.declared.plan.DdKind.{DdKind}
use Rattle.jcl_plan.specs.declared.plan.DdKind.TheVariants.{Cards, Dummy, Set, Sysout}
use Rattle.jcl_plan.specs.declared.plan.DdPlan.{DdPlan}
use Rattle.jcl_plan.specs.declared.plan.Expiry.{Expiry}
use Rattle.jcl_plan.specs.declared.plan.Expiry.TheVariants as expiry
use Rattle.jcl_plan.specs.declared.plan.JobPlan.{JobPlan}
use Rattle.jcl_plan.specs.declared.plan.StepPlan.{StepPlan}
use Rattle.cb_meaning.specs.declared.layout.Layout.{Layout}
use Rattle.cb_meaning.specs.Writable.{AreDds, AreSteps, IsExpiry, IsKindAt, IsWritable}
use Rattle.cb_chain.specs.Written.{HasDays, HoldsDds, HoldsExpiry, HoldsKind, HoldsSteps}

module _ (l : Layout) (days : HasDays l) where
  wide : 93501 < 256 ^ l.expiry_days.width
  wide = days.days

  expiry_held : (e : Expiry) → IsExpiry e → HoldsExpiry l e
  expiry_held expiry.NotCoded is = (let kind = days.kind in record { kind = omega (arith, kind); days = omega (arith, wide) })
  expiry_held (expiry.Day day) is =
      (let kind = days.kind in let few : day ≤ 93501 = is in record { kind = omega (arith, kind); days = omega (arith, wide, few) })
  expiry_held (expiry.DaysFromToday n) is =
      (let kind = days.kind in let few : n ≤ 9999 = is in record { kind = omega (arith, kind); days = omega (arith, wide, few) })

  kind_held : (units : ℕ) (all : List StepPlan) (k d : ℕ) (kind : DdKind) → IsKindAt units all k d kind → HoldsKind l kind
  kind_held units all k d (Set p) h = expiry_held p.expiry h.expiry_fits
  kind_held units all k d Dummy h = tt
  kind_held units all k d (Sysout class) h = tt
  kind_held units all k d (Cards cards) h = tt

  dds_held : (units : ℕ) (all : List StepPlan) (k d : ℕ) (dds : List DdPlan) → AreDds units all k d dds → HoldsDds l dds
  dds_held units all k d [] h = All-nil (λ (dd : DdPlan). HoldsKind l dd.kind)
  dds_held units all k d (dd ∷ dds) h =
      All-cons (λ (x : DdPlan). HoldsKind l x.kind) dd dds (kind_held units all k d dd.kind h.1) (dds_held units all k (d + 1) dds h.2)

  steps_held : (units : ℕ) (all : List StepPlan) (k : ℕ) (steps : List StepPlan) → AreSteps units all k steps → HoldsSteps l steps
  steps_held units all k [] h = All-nil (λ (step : StepPlan). HoldsDds l step.dds)
  steps_held units all k (step ∷ steps) h =
      All-cons (λ (x : StepPlan). HoldsDds l x.dds) step steps (dds_held units all k 1 step.dds h.0.dds) (steps_held units all (k + 1) steps h.1)

  pub days_held : (most units : ℕ) (plan : JobPlan) → IsWritable most units plan → HoldsSteps l plan.steps
  days_held most units plan h = steps_held units plan.steps 1 plan.steps h.steps
