-- Where F6 is told of a DD with a key, its primary was refused.
use Rattle.std.proofs.Common.{◌≡◌, ℕ, Bool, true, false, List, ◌∷◌, Option, Some, None, is_some, refl, ap, subst}
use Rattle.jname_core.specs.declared.key.Key.{Key}
use Rattle.jcl_plan.specs.declared.entry.JobLine.{JobLine}
use Rattle.jcl_plan.specs.declared.entry.JobLine.TheVariants as line
use Rattle.jcl_plan.specs.declared.fault.Fault.TheVariants.{F6}
use Rattle.jcl_plan.specs.declared.plan.DdKind.{DdKind}
use Rattle.jcl_plan.specs.declared.plan.DdKind.TheVariants.{Set}
use Rattle.jcl_plan.specs.declared.plan.DdPlan.{DdPlan}
use Rattle.jcl_plan.specs.declared.plan.SetPlan.{SetPlan}
use Rattle.jcl_meaning.specs.declared.state.Place.{Place}
use Rattle.jcl_meaning.specs.declared.state.Resolution.{Resolution}
use Rattle.jcl_meaning.specs.declared.state.Resolution.TheVariants.{Means}
use Rattle.jcl_meaning.specs.declared.take.Decision.{Decision}
use Rattle.jcl_meaning.specs.declared.take.Decision.TheVariants.{Refuses, Takes}
use Rattle.jcl_meaning.specs.declared.take.Target.{Target}
use Rattle.jcl_meaning.specs.declared.take.Target.TheVariants as target
use Rattle.jcl_meaning.specs.Acts.{act}
use Rattle.jcl_meaning.specs.Agendas.{Take}
use Rattle.jcl_meaning.specs.Resolutions.{meaning_at}
use Rattle.jcl_meaning.specs.States.{Done, Fixed, State, if_runs}
use Rattle.jcl_meaning.specs.TakeActs.{decided, decision_at, takes, takes_set, target_at}
use Rattle.jcl_meaning.specs.Takes.{decide, is_known, looked_at, primary_of}
use Rattle.disp_core.specs.Grants.{granted_on, primary_granted}

decides_f6 : (t : Target) (known there space granted : Bool) → decide t known there space granted ≡ Refuses F6 → (known ≡ true) × (granted ≡ false)
decides_f6 (target.Makes None) known there space granted e = cc
decides_f6 (target.Makes (Some serial)) false there space granted e = cc
decides_f6 (target.Makes (Some serial)) true true space granted e = cc
decides_f6 (target.Makes (Some serial)) true false false granted e = cc
decides_f6 (target.Makes (Some serial)) true false true false e = (refl, refl)
decides_f6 (target.Makes (Some serial)) true false true true e = cc
decides_f6 (target.Finds serial) false there space granted e = cc
decides_f6 (target.Finds serial) true false space granted e = cc
decides_f6 (target.Finds serial) true true space granted e = cc
decides_f6 (target.Receives p) known false space granted e = cc
decides_f6 (target.Receives p) known true space granted e = cc
decides_f6 (target.FindsByCatalog serial) known false space granted e = cc
decides_f6 (target.FindsByCatalog serial) known true space granted e = cc
decides_f6 target.Misses known there space granted e = cc

tells_f6 : (fixed : Fixed) (n dd : ℕ) (name : Option (List ℕ)) (p : SetPlan) (key : Key) (s : State) (decision : Decision) (backs : List JobLine) →
    (decided fixed n dd name p key s decision).lines ≡ line.Fault F6 n dd ∷ backs → decision ≡ Refuses F6
tells_f6 fixed n dd name p key s (Refuses fault) backs e = let is : fault ≡ F6 = cc in ap Refuses is
tells_f6 fixed n dd name p key s (Takes serial how) backs e = absurd cc

abbrev TellsF6 : ℕ → ℕ → List JobLine → Done → Type 0
TellsF6 n dd backs done = done.lines ≡ line.Fault F6 n dd ∷ backs

-- so it is of the answer with which the DD was taken, and the volume that it looks at is known
pub primary_refused : (fixed : Fixed) (n dd : ℕ) (d : DdPlan) (p : SetPlan) (key : Key) (s : State) (backs : List JobLine) → d.kind ≡ Set p →
    meaning_at fixed.meanings n dd ≡ Means key → (act fixed (Take n dd d) s).lines ≡ line.Fault F6 n dd ∷ backs →
    (is_known fixed.volumes (looked_at (target_at fixed n dd p key s)) ≡ true) × (s.answers.primary ≡ false)
unfolding act
primary_refused fixed n dd d p key s backs kind means e = by s.own.runs e
  where
    at_key : TellsF6 n dd backs (takes fixed n dd d.name d.kind s) → TellsF6 n dd backs (takes_set fixed n dd d.name p s (Means key))
    at_key h = subst (λ (m : Resolution). TellsF6 n dd backs (takes_set fixed n dd d.name p s m)) means
        (subst (λ (k : DdKind). TellsF6 n dd backs (takes fixed n dd d.name k s)) kind h)

    by : (runs : Bool) → TellsF6 n dd backs (if_runs runs s (takes fixed n dd d.name d.kind s)) →
        (is_known fixed.volumes (looked_at (target_at fixed n dd p key s)) ≡ true) × (s.answers.primary ≡ false)
    by false h = absurd cc
    by true h =
        decides_f6 (target_at fixed n dd p key s) _ _ (is_some p.space) s.answers.primary
        (tells_f6 fixed n dd d.name p key s (decision_at fixed p key s (target_at fixed n dd p key s)) backs (at_key h))

-- and the store, if it answered so, has no room on that volume
pub volume_refused : (grants : Key → Place → ℕ → Bool) (fixed : Fixed) (n dd : ℕ) (d : DdPlan) (p : SetPlan) (key : Key) (s : State) → d.kind ≡ Set p →
    meaning_at fixed.meanings n dd ≡ Means key → is_known fixed.volumes (looked_at (target_at fixed n dd p key s)) ≡ true →
    primary_granted grants fixed n dd d.kind s.store s.own ≡ false →
    (serial : List ℕ) × (looked_at (target_at fixed n dd p key s) ≡ Some serial) × (is_known fixed.volumes (Some serial) ≡ true)
    × (grants key (record { step = n; dd = dd; serial = serial }) (primary_of p.space) ≡ false)
volume_refused grants fixed n dd d p key s kind means known e = by (looked_at (target_at fixed n dd p key s)) refl known (rw (kind, means) at e)
  where
    by : (place : Option (List ℕ)) → looked_at (target_at fixed n dd p key s) ≡ place → is_known fixed.volumes place ≡ true →
        granted_on (grants key) n dd p place ≡ false →
        (serial : List ℕ) × (looked_at (target_at fixed n dd p key s) ≡ Some serial) × (is_known fixed.volumes (Some serial) ≡ true)
        × (grants key (record { step = n; dd = dd; serial = serial }) (primary_of p.space) ≡ false)
    by None here there refused = absurd cc
    by (Some serial) here there refused = (serial, here, there, refused)
