-- The order in which a table's holds stand, and the first of all conflicts of a job's wants with them.
use Rattle.std.specs.Prelude.{◌≡◌, ℕ, ◌<◌, ◌≤◌, true, List, [], ◌∷◌, length, All, Option, Some, None, slice_index_or, ◌⊎◌}
use Rattle.std.specs.List.{AllWithin, HoldsAt}
use Rattle.std.specs.Ordering.{nat_cmp}
use Rattle.std.specs.Cmp.Lexicographic.{slice_cmp}
use Rattle.std.specs.declared.cmp.Ordering.TheVariants.{Less, Equal}
use Rattle.enq_core.specs.declared.conflict.Conflict.{Conflict}
use Rattle.enq_core.specs.declared.table.Hold.{Hold}
use Rattle.enq_core.specs.declared.table.Want.{Want}
use Rattle.enq_core.specs.Holds.{conflicts}

-- a name stands before another in byte order
abbrev pub IsBefore : List ℕ → List ℕ → Type 0
IsBefore name other = slice_cmp nat_cmp name other ≡ Less

-- of a job's wants, those before a place stand before a name
abbrev pub ArePassed : List Want → List ℕ → ℕ → Type 0
ArePassed wants name place = AllWithin (λ want. IsBefore want.name name) wants 0 place

-- those from a place on stand behind it
abbrev pub AreBehind : List Want → List ℕ → ℕ → Type 0
AreBehind wants name place = AllWithin (λ want. IsBefore name want.name) wants place (length wants)

-- the want at a place has the name
abbrev pub IsNamed : List Want → List ℕ → ℕ → Type 0
IsNamed wants name place = HoldsAt (λ want. slice_cmp nat_cmp want.name name ≡ Equal) wants place

-- the holds of each job stand in byte order of their names, each name once
abbrev pub AreInOrder : List Hold → Type 0
AreInOrder [] = Unit {0}
AreInOrder (hold ∷ holds) = All (λ other. hold.job ≡ other.job → IsBefore hold.name other.name) holds × AreInOrder holds

-- among the first so many holds there is one of a job that conflicts with the want at a place
abbrev pub Meets : List Hold → List Want → ℕ → ℕ → ℕ → Type 0
Meets holds wants n place job =
    (k : ℕ)
    × (k < n)
    × (place < length wants)
    × ((want : Want) (hold : Hold) → conflicts (slice_index_or wants place want) (slice_index_or holds k hold) ≡ true)
    × ((hold : Hold) → (slice_index_or holds k hold).job ≡ job)

-- a conflict is at an earlier want than another, or at the same and the job is not above the other's
abbrev pub ComesFirst : Conflict → ℕ → ℕ → Type 0
ComesFirst conflict place job = (conflict.place < place) ⊎ ((conflict.place ≡ place) × (conflict.job ≤ job))

-- the first of the conflicts at places with jobs, if there is one
abbrev pub IsFirst : (ℕ → ℕ → Type 0) → Option Conflict → Type 0
IsFirst P None = (place job : ℕ) → P place job → ⊥
IsFirst P (Some conflict) = P conflict.place conflict.job × ((place job : ℕ) → P place job → ComesFirst conflict place job)
