-- The lines of a text, and those of a job among them. (This profile)
use Rattle.std.specs.Prelude.{◌≡◌, ◌⊎◌, ℕ, Bool, ◌==◌, List, [], ◌∷◌, ◌++◌, filter, length, take, codes, if◌then◌else◌}
use Rattle.std.specs.Str.{bytes_eq}
use Rattle.jcl_plan.specs.Texts.{digits}

-- The whole lines: each is ended by a line feed, and what stands behind the last one is none. The line that is begun is the first argument.
abbrev pub lines_from : List ℕ → List ℕ → List (List ℕ)
lines_from begun [] = []
lines_from begun (c ∷ text) = if c == 10 then begun ∷ lines_from [] text else lines_from (begun ++ c ∷ []) text

abbrev pub whole_lines : List ℕ → List (List ℕ)
whole_lines text = lines_from [] text

-- it begins with the four digits of a job's number, and a blank
abbrev pub begins_with : List ℕ → List ℕ → Bool
begins_with front text = bytes_eq (take (length front) text) front

abbrev pub is_of_job : ℕ → List ℕ → Bool
is_of_job job text = begins_with (digits 4 job ++ codes " ") text

abbrev pub lines_of_job : ℕ → List ℕ → List (List ℕ)
lines_of_job job text = filter (is_of_job job) (whole_lines text)

-- a line begins behind this
abbrev pub IsLineStart : List ℕ → Type 0
IsLineStart front = (front ≡ []) ⊎ ((before : List ℕ) × (front ≡ before ++ codes "\n"))
