-- What is fixed for each DD at admission: where its set is placed, and what its key means. Relative numbers are resolved once and keep their
-- meaning. (GC28-6704, "Generation data sets"; this profile)
use Rattle.std.specs.Prelude.{ℕ, ◌+◌, ◌&&◌, ◌==◌, List, [], ◌∷◌, ◌++◌, Option, Some, None, if◌then◌else◌}
use Rattle.jcl_plan.specs.declared.fault.Fault.TheVariants.{F5}
use Rattle.jcl_plan.specs.declared.plan.DdKind.{DdKind}
use Rattle.jcl_plan.specs.declared.plan.DdKind.TheVariants.{Sysout, Dummy, Cards, Set}
use Rattle.jcl_plan.specs.declared.plan.DdPlan.{DdPlan}
use Rattle.jcl_plan.specs.declared.plan.JobPlan.{JobPlan}
use Rattle.jcl_plan.specs.declared.plan.StepPlan.{StepPlan}
use Rattle.jcl_meaning.specs.declared.state.KeyMeaning.{KeyMeaning}
use Rattle.jcl_meaning.specs.declared.state.Place.{Place}
use Rattle.jcl_meaning.specs.declared.state.Resolution.{Resolution}
use Rattle.jcl_meaning.specs.declared.state.Resolution.TheVariants.{Fails}
use Rattle.jcl_meaning.specs.Stores.{Store, resolution_of}

-- the place of a DD; of two the first counts
abbrev pub place_of : List Place → ℕ → ℕ → Option (List ℕ)
place_of [] step dd = None
place_of (p ∷ ps) step dd = if p.step == step && p.dd == dd then Some p.serial else place_of ps step dd

-- what the keys of a job's DDs for sets mean in a store, by step and DD, each from 1
abbrev pub meaning_of_dd : Store → ℕ → ℕ → DdKind → List KeyMeaning
meaning_of_dd s step dd (Sysout class) = []
meaning_of_dd s step dd Dummy = []
meaning_of_dd s step dd (Cards cards) = []
meaning_of_dd s step dd (Set p) = record { step = step; dd = dd; means = resolution_of s p.key } ∷ []

abbrev pub meanings_in : Store → ℕ → ℕ → List DdPlan → List KeyMeaning
meanings_in s step dd [] = []
meanings_in s step dd (d ∷ ds) = meaning_of_dd s step dd d.kind ++ meanings_in s step (dd + 1) ds

abbrev pub meanings_from : Store → ℕ → List StepPlan → List KeyMeaning
meanings_from s n [] = []
meanings_from s n (step ∷ steps) = meanings_in s n 1 step.dds ++ meanings_from s (n + 1) steps

abbrev pub meanings_of : Store → JobPlan → List KeyMeaning
meanings_of s plan = meanings_from s 1 plan.steps

-- what the key of a DD means: each DD for a set is in the list, and of two the first counts
abbrev pub meaning_at : List KeyMeaning → ℕ → ℕ → Resolution
meaning_at [] step dd = Fails F5
meaning_at (m ∷ ms) step dd = if m.step == step && m.dd == dd then m.means else meaning_at ms step dd
