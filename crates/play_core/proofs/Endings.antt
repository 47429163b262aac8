-- Lines of a text.
use Rattle.std.proofs.Common.{◌≡◌, ℕ, not, ◌==◌, List, [], ◌∷◌, ◌++◌, refl}
use Rattle.play_core.specs.Texts.{is_open}

pub open_last : (text : List ℕ) (b : ℕ) → is_open (text ++ b ∷ []) ≡ not (b == 10)
open_last [] b = refl
open_last (a ∷ []) b = refl
open_last (a ∷ c ∷ text) b = open_last (c ∷ text) b
