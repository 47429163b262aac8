-- The jobs that wait, by number and by turn.
use Rattle.std.specs.Prelude.{◌≡◌, ◌≤◌, ℕ, Bool, true, false, List, get_or, All, IfSome, Some}
use Rattle.std.specs.declared.cmp.Ordering.{Ordering}
use Rattle.std.specs.BTreeMap.{BTreeMap, IsOrdered, get}
use Rattle.std.specs.BTreeSet.{BTreeSet, contains}
use Rattle.std.specs.BTreeMap.Range.{IsLeBy}
use Rattle.std.specs.Ordering.{nat_cmp, ordering_then}
use Rattle.queue_core.specs.declared.queue.Queued.{Queued}
use Rattle.queue_core.specs.declared.queue.Rank.{Rank}

-- by class, then by falling priority, then by number; those of one number by their first records
abbrev pub rank_cmp : Rank → Rank → Ordering
rank_cmp a b = ordering_then (nat_cmp a.class b.class)
    (ordering_then (nat_cmp b.priority.0 a.priority.0) (ordering_then (nat_cmp a.job b.job) (nat_cmp a.jct b.jct)))

abbrev pub rank_of : Queued → Rank
rank_of q = record { class = q.class; priority = record { 0 = q.priority }; job = q.job; jct = q.jct }

abbrev pub queued_of : Rank → Queued
queued_of r = record { job = r.job; jct = r.jct; class = r.class; priority = r.priority.0 }

-- no priority is above those that a byte holds
abbrev pub AreBounded : BTreeSet Rank → Type 0
AreBounded ranks = (r : Rank) → contains rank_cmp ranks r ≡ true → r.priority.0 ≤ 255

-- a job lies under its number
abbrev pub AreNumbered : ℕ × Queued → Type 0
AreNumbered e = e.1.job ≡ e.0

abbrev pub IsVacant : BTreeSet Rank → ℕ → Type 0
IsVacant ranks class = (r : Rank) → r.class ≡ class → contains rank_cmp ranks r ≡ false

-- the ranks are those of the jobs, and the classes that are marked are those that have a job
pub record IsRanked (jobs : BTreeMap ℕ Queued) (ranks : BTreeSet Rank) (occupied : List Bool) : Type 0 where
  pub ordered : IsOrdered nat_cmp jobs
  pub numbered : All AreNumbered jobs.entries
  pub ranked : (k : ℕ) → IfSome (get nat_cmp jobs k) (λ q. contains rank_cmp ranks (rank_of q) ≡ true)
  pub queued : (r : Rank) → contains rank_cmp ranks r ≡ true → get nat_cmp jobs r.job ≡ Some (queued_of r)
  pub bounded : AreBounded ranks
  pub marked : (k : ℕ) → IfSome (get nat_cmp jobs k) (λ q. get_or occupied q.class false ≡ true)
  pub has_job : (class : ℕ) → get_or occupied class false ≡ true → ¬ IsVacant ranks class

-- the first rank of a class
pub record IsLeast (ranks : BTreeSet Rank) (class : ℕ) (q : Queued) : Type 0 where
  pub there : contains rank_cmp ranks (rank_of q) ≡ true
  pub of_class : q.class ≡ class
  pub least : (r : Rank) → contains rank_cmp ranks r ≡ true → r.class ≡ class → IsLeBy rank_cmp (rank_of q) r
