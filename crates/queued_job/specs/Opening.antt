-- A queue with which a machine may begin. (This profile)
use Rattle.std.specs.Prelude.{◌≡◌, ◌≢◌, ℕ, ◌≤◌, ◌==◌, true, All}
use Rattle.std.specs.List.{list_any}
use Rattle.cb_meaning.specs.Spelled.{jct}
use Rattle.cb_meaning.specs.Walks.{kind_of}
use Rattle.cb_queue.specs.RecordQueues.{RecordQueue, owner_at, shown}

-- each record in use is of a job that waits, the first of each is a JCT, and the numbers of jobs go up to this one
pub record CanBegin (q : RecordQueue) (last : ℕ) : Type 0 where
  pub owned : (n : ℕ) → owner_at q n ≢ 0 → list_any (λ x. x.job == owner_at q n) q.waiting ≡ true
  pub kinds : All (λ x. kind_of (shown q) x.jct ≡ jct) q.waiting
  pub numbered : All (λ x. x.job ≤ last) q.waiting
