-- Bytes read as one number. (This profile)
use Rattle.std.specs.Prelude.{ℕ, ◌+◌, ◌*◌, ◌^◌, List, [], ◌∷◌, length}

-- the first byte counts most
abbrev pub worth : List ℕ → ℕ
worth [] = 0
worth (x ∷ xs) = x * 256 ^ length xs + worth xs
