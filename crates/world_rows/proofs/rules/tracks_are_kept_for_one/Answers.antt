use Rattle.std.proofs.Common.{◌≡◌, ℕ, ◌+◌, refl, arith}
use Rattle.world_rows.proofs.rules.tracks_are_kept_for_one.Goals as goal

no_room : (n : ℕ) → n + 10 ≡ 1 → ⊥
no_room n e = absurd (omega (arith, e))

pub returns : goal.returns
returns c = record { kept = refl; left = no_room }
