-- What a DD goes for and what taking it decides, by the store and the job's own part.
use Rattle.std.specs.Prelude.{ℕ, Bool, true, false, is_some}
use Rattle.jname_core.specs.declared.key.Key.{Key}
use Rattle.jcl_plan.specs.declared.plan.SetPlan.{SetPlan}
use Rattle.jcl_meaning.specs.declared.state.Own.{Own}
use Rattle.jcl_plan.specs.declared.fault.Fault.TheVariants.{F6}
use Rattle.jcl_meaning.specs.declared.take.Decision.{Decision}
use Rattle.jcl_meaning.specs.declared.take.Decision.TheVariants.{Refuses, Takes}
use Rattle.jcl_meaning.specs.declared.take.How.TheVariants as how
use Rattle.jcl_meaning.specs.declared.take.Target.{Target}
use Rattle.jcl_meaning.specs.Resolutions.{place_of}
use Rattle.jcl_meaning.specs.States.{Fixed}
use Rattle.jcl_meaning.specs.Stores.{Store, catalogued}
use Rattle.jcl_meaning.specs.Takes.{decide, first_passed, is_known, is_there, looked_at, target_of, where_of}

abbrev pub target_in : Fixed → ℕ → ℕ → SetPlan → Key → Store → Own → Target
target_in fixed n dd p key seen own = target_of p.status (where_of p.volume seen own.passed own.volumes)
    (first_passed own.passed key) (catalogued seen key) (place_of fixed.places n dd)

-- where its primary is granted, or not
abbrev pub decision_in : Fixed → SetPlan → Key → Store → Target → Bool → Decision
decision_in fixed p key seen t granted = decide t (is_known fixed.volumes (looked_at t)) (is_there seen key (looked_at t)) (is_some p.space) granted

-- what a take decides that decides this where its primary is granted: without its primary a set that is to be made is F6
abbrev pub granted_or_refused : Decision → Bool → Decision
granted_or_refused (Refuses fault) granted = Refuses fault
granted_or_refused (Takes serial how.Made) true = Takes serial how.Made
granted_or_refused (Takes serial how.Made) false = Refuses F6
granted_or_refused (Takes serial how.Found) granted = Takes serial how.Found
granted_or_refused (Takes serial how.FoundByCatalog) granted = Takes serial how.FoundByCatalog
granted_or_refused (Takes serial (how.Received made by_catalog)) granted = Takes serial (how.Received made by_catalog)
