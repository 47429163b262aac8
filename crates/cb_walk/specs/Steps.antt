-- The walk over the steps of a job. (This profile)
use Rattle.std.specs.Prelude.{ℕ, suc, ◌+◌, ◌≤◌, Bool, List, length, Result, Ok, Err}
use Rattle.cb_meaning.specs.Walks.{walk_steps, with_dds}
use Rattle.cb_queue.specs.RecordQueues.{RecordQueue, shown}
use Rattle.cb_walk.specs.Follows.{Follows, From, Refuses}

abbrev pub steps_from : RecordQueue → ℕ → ℕ → ℕ → ℕ → List (List Bool) → ℕ → From (List ℕ)
steps_from q units job fuel stated steps n = λ seen. walk_steps q.layout units (shown q) job fuel stated steps seen n

-- one step: which of its DDs are sets, and the number of the next one's SCT
pub record PassesOne (q : RecordQueue) (units job : ℕ) (steps : List (List Bool)) (n : ℕ) (marks later : List ℕ) (dds : List Bool) (next : ℕ) : Type 0 where
  pub within : length steps + 1 ≤ q.layout.most_steps
  pub follows : (fuel stated : ℕ) →
      Follows marks later (steps_from q units job (suc fuel) stated steps n) (steps_from q units job fuel stated (with_dds steps dds) next)

abbrev pub PassesStep : RecordQueue → ℕ → ℕ → List (List Bool) → ℕ → List ℕ → List ℕ → Result (List Bool × ℕ) ℕ → Type 0
PassesStep q units job steps n marks later (Ok p) = PassesOne q units job steps n marks later p.0 p.1
PassesStep q units job steps n marks later (Err fault) = (fuel stated : ℕ) → Refuses marks (steps_from q units job (suc fuel) stated steps n) fault
