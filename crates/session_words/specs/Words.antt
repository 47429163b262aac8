-- What is said of a fault of a session. (This profile)
use Rattle.std.specs.Prelude.{◌≡◌, ℕ, List, ◌++◌}

-- a text is longer than another
abbrev pub GoesOn : List ℕ → List ℕ → Type 0
GoesOn old new = (more : List ℕ) × (new ≡ old ++ more)
