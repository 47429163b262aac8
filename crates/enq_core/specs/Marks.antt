-- A number that tells most names apart.
use Rattle.std.specs.Prelude.{ℕ, ◌+◌, ◌*◌, ◌%◌, List, fold}

-- the same of the same names; of names that differ it mostly differs too
unfoldable pub mark_of : List ℕ → ℕ
mark_of name = fold (λ mark byte. (mark * 9 + byte) % 8192) 0 name
