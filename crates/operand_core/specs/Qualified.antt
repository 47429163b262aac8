-- Names qualified by a period. (GC28-6704, "DD statement": stepname.ddname)
use Rattle.std.specs.Prelude.{ℕ, ◌==◌, Bool, not, List, take_while}
use Rattle.std.specs.List.{list_any}

abbrev pub is_no_period : ℕ → Bool
is_no_period c = not (c == 46)

-- the characters before the first period
abbrev pub head_of : List ℕ → List ℕ
head_of key = take_while is_no_period key

abbrev pub is_qualified : List ℕ → Bool
is_qualified key = list_any (λ c. c == 46) key
