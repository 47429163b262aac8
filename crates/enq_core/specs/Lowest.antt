-- The lowest job that stands in the way of a want.
use Rattle.std.specs.Prelude.{ℕ, ◌≤◌, ◌&&◌, ◌==◌, List, All, IsTrue}
use Rattle.std.specs.List.{list_any}
use Rattle.enq_core.specs.declared.table.Hold.{Hold}
use Rattle.enq_core.specs.declared.table.Want.{Want}
use Rattle.enq_core.specs.Holds.{conflicts}

pub record IsLowestHolder (holds : List Hold) (want : Want) (job : ℕ) : Type 0 where
  pub holder : IsTrue (list_any (λ hold. conflicts want hold && hold.job == job) holds)
  pub lowest : All (λ hold. IsTrue (conflicts want hold) → job ≤ hold.job) holds
