-- Strict reading and what records denote. (This profile)
use Rattle.std.specs.Prelude.{◌≡◌, ℕ, ◌<◌, ◌↔◌, false, List, ◌∷◌, length, None, All}
use Rattle.jcl_plan.specs.declared.plan.JobPlan.{JobPlan}
use Rattle.cb_meaning.specs.declared.layout.Layout.{Layout}
use Rattle.cb_meaning.specs.declared.layout.TheConstants.{RECORD_BYTES}
use Rattle.cb_meaning.specs.Layouts.{HasOwnFields}
use Rattle.cb_meaning.specs.Readings.{plan_read}
use Rattle.cb_meaning.specs.Spelled.{Denotes, Records}
use Rattle.cb_meaning.specs.Walks.{first_fault, is_free}

-- each record in use is one of bytes
pub record IsRecord (r : List ℕ) : Type 0 where
  pub size : length r ≡ RECORD_BYTES
  pub bytes : All (λ b. b < 256) r

abbrev pub AreRecords : Records → Type 0
AreRecords q = (n : ℕ) → is_free q n ≡ false → IsRecord (q.at n)

-- The records of a job that they denote have no fault.
abbrev pub DenotedHasNoFault : Type 0
DenotedHasNoFault = (l : Layout) (units : ℕ) (q : Records) (job n : ℕ) (behind : List ℕ) (plan : JobPlan) →
    Denotes l units q job (n ∷ behind) plan → first_fault l units q job n ≡ None

-- Records without a fault denote the job that is read from them.
abbrev pub FaultlessDenotes : Type 0
FaultlessDenotes = (l : Layout) (units : ℕ) (q : Records) (job n : ℕ) → HasOwnFields l → AreRecords q →
    first_fault l units q job n ≡ None → (behind : List ℕ) × Denotes l units q job (n ∷ behind) (plan_read l q n)

-- the records from one on denote some job
abbrev pub DenotesSome : Layout → ℕ → Records → ℕ → ℕ → Type 0
DenotesSome l units q job n = (behind : List ℕ) × (plan : JobPlan) × Denotes l units q job (n ∷ behind) plan

-- A fault is told exactly where they denote none.
abbrev pub FaultWhereNoneIsDenoted : Type 0
FaultWhereNoneIsDenoted = (l : Layout) (units : ℕ) (q : Records) (job n : ℕ) → HasOwnFields l → AreRecords q →
    (first_fault l units q job n ≡ None) ↔ DenotesSome l units q job n
