-- The order of selection. (GC28-6704, CLASS and PRTY parameters)
use Rattle.std.specs.Prelude.{◌≡◌, ◌≢◌, ℕ, ◌≤◌, List, All}
use Rattle.std.specs.List.{Contains}
use Rattle.queue_core.specs.declared.queue.Queued.{Queued}

-- no job of the class waits
abbrev pub HasNoneOf : List Queued → ℕ → Type 0
HasNoneOf queue class = All (λ x. x.class ≢ class) queue

-- a job that waits, by its number
abbrev pub IsJobOf : List Queued → ℕ → Queued → Type 0
IsJobOf queue job q = Contains queue q × (q.job ≡ job)

-- of the jobs of its class that wait none has a higher priority, and none of the same was read before it
pub record IsFirstOf (queue : List Queued) (class : ℕ) (q : Queued) : Type 0 where
  pub contained : Contains queue q
  pub of_class : q.class ≡ class
  pub highest : All (λ x. x.class ≡ class → x.priority ≤ q.priority) queue
  pub earliest : All (λ x. x.class ≡ class → x.priority ≡ q.priority → q.job ≤ x.job) queue
