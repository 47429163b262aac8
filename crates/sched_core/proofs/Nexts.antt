-- The job that is selected next of one class.
use Rattle.std.proofs.Common.{◌≡◌, ℕ, ◌∷◌, ◌++◌, [], List, None, Some, ap, subst, arith}
use Rattle.queue_core.specs.declared.queue.Queued.{Queued}
use Rattle.world_meaning.specs.Selections.{IsFirst, IsSelected}
use Rattle.queued_job.specs.Listed.{AreListed, ListedAreQueued, waiting_in}
use Rattle.queued_job.specs.Selecting.{SelectsOf}
use Rattle.sched_core.specs.Systems.{Machine, world_of}
use Rattle.sched_core.specs.Views.{IsNext}

only_class : (before after : List ℕ) (c class : ℕ) → class ∷ [] ≡ before ++ c ∷ after → c ≡ class
only_class [] after c class e = cc
only_class (b ∷ []) after c class e = absurd cc
only_class (b ∷ x ∷ before) after c class e = absurd cc

module _ (m : Machine) (class : ℕ) (law : ListedAreQueued) (listed : AreListed m.parts.queue.waiting m.backlog) where
  pub next_none : SelectsOf m.parts.queue.waiting (class ∷ []) None → IsNext (world_of m).waiting class None
  next_none h = h (waiting_in m.parts.queue.waiting m.backlog) (law m.parts.queue.waiting m.backlog listed) 0 0 (omega arith)

  pub next_some : (q : Queued) → SelectsOf m.parts.queue.waiting (class ∷ []) (Some q) → IsNext (world_of m).waiting class (Some q.job)
  next_some q h =
      let found = h (waiting_in m.parts.queue.waiting m.backlog) (law m.parts.queue.waiting m.backlog listed) in
      let is : IsSelected (waiting_in m.parts.queue.waiting m.backlog) (class ∷ []) found.0 = found.1 in (
        found.0,
        subst (λ (c : ℕ). IsFirst (waiting_in m.parts.queue.waiting m.backlog) c found.0) (only_class is.before is.after is.class class is.stands) is.first,
        ap (λ (x : Queued). x.job) found.2,
      )
