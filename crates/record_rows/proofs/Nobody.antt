-- where nobody waits each job is after all others
use Rattle.std.proofs.Common.{◌≡◌, ◌<◌, ℕ, List, [], ◌∷◌, length, All, arith}
use Rattle.std.proofs.lemmas.List.Elements.{All-nil}
use Rattle.queue_core.specs.declared.queue.Queued.{Queued}

pub is_behind_nobody : (job : ℕ) (waiting : List Queued) → length waiting ≡ 0 → All (λ x. x.job < job) waiting
is_behind_nobody job [] none = All-nil (λ x. x.job < job)
is_behind_nobody job (x ∷ others) none = absurd (omega (arith, none))
