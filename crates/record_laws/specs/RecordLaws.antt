-- Laws of what records denote.
use Rattle.std.specs.Prelude.{◌≡◌, ◌≢◌, ℕ, List, ◌∷◌, All}
use Rattle.jcl_plan.specs.declared.plan.JobPlan.{JobPlan}
use Rattle.cb_meaning.specs.declared.layout.Layout.{Layout}
use Rattle.cb_meaning.specs.Spelled.{Denotes, Records}

-- The records from one on denote one job at most, and by their numbers in one way.
abbrev pub OneJobIsDenoted : Type 0
OneJobIsDenoted = (l : Layout) (units : ℕ) (q : Records) (job first : ℕ) (behind others : List ℕ) (plan other : JobPlan) →
    Denotes l units q job (first ∷ behind) plan → Denotes l units q job (first ∷ others) other → (plan ≡ other) × (behind ≡ others)

-- Two jobs have no record in common.
abbrev pub NoneInCommon : Type 0
NoneInCommon = (l : Layout) (units : ℕ) (q : Records) (job other : ℕ) (ms ns : List ℕ) (plan another : JobPlan) → job ≢ other →
    Denotes l units q job ms plan → Denotes l units q other ns another → All (λ n. All (λ m. m ≢ n) ns) ms
