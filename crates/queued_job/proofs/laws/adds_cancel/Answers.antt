use Rattle.std.proofs.Common.{◌≡◌, Bool, true, false, cond, ℕ, [], ◌∷◌, ◌++◌, refl}
use Rattle.world_meaning.specs.Turns.{has_cancel}
use Rattle.world_meaning.specs.Worlds.{Shared}
use Rattle.queued_job.proofs.laws.adds_cancel.Goals as goal

added : (s : Shared) (job : ℕ) (b : Bool) → cond b s (record s { cancels = s.cancels ++ job ∷ [] }) ≡ record s { cancels = cond b s.cancels (s.cancels ++ job ∷ []) }
added s job true = refl
added s job false = refl

pub returns : goal.returns
returns c = λ s job. added s job (has_cancel s.cancels job)
