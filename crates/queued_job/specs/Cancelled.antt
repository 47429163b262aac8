-- The jobs whose cancel has not acted yet. (This profile)
use Rattle.std.specs.Prelude.{◌≡◌, ℕ, List, [], ◌∷◌, ◌++◌, if◌then◌else◌}
use Rattle.world_meaning.specs.Cancels.{with_cancel}
use Rattle.world_meaning.specs.Turns.{has_cancel}
use Rattle.world_meaning.specs.Worlds.{Shared}

-- one more, where it is not there already
abbrev pub with_job : List ℕ → ℕ → List ℕ
with_job cancels job = if has_cancel cancels job then cancels else cancels ++ job ∷ []

abbrev pub AddsCancel : Type 0
AddsCancel = (s : Shared) (job : ℕ) → with_cancel s job ≡ record s { cancels = with_job s.cancels job }
