-- The sets that a step may make: for each of its DDs, from 0, the volumes on which it does.
use Rattle.std.specs.Prelude.{◌≡◌, ◌⊎◌, ℕ, ◌+◌, ◌-◌, ◌≤◌, ◌==◌, Bool, false, List, [], ◌++◌, Option, Some, None, get_or, length, replicate, All}
use Rattle.std.specs.List.{Contains}
use Rattle.jcl_meaning.specs.declared.state.Place.{Place}
use Rattle.path_meaning.specs.Verdicts.{AreRising}
use Rattle.view_domain.specs.declared.crossed.Crossed.{Crossed}
use Rattle.view_domain.specs.declared.crossed.Crossed.TheVariants as crossed

abbrev pub Rows : Type 0
Rows = List (List (List ℕ))

abbrev pub no_rows : ℕ → Rows
no_rows dds = replicate dds []

abbrev pub row_at : Rows → ℕ → List (List ℕ)
row_at rows dd = get_or rows dd []

-- a DD's volume is marked; the DD counts from 0
abbrev pub IsMarked : Rows → ℕ → List ℕ → Type 0
IsMarked rows dd serial = Contains (row_at rows dd) serial

-- the place is that of one of so many DDs
abbrev pub IsOfDd : ℕ → Place → Type 0
IsOfDd dds p = (1 ≤ p.dd) × (p.dd ≤ dds)

-- the sets that are made in what a part comes to
abbrev pub made_of : {V : Type 0} → Crossed V → List Place
made_of (crossed.Stops stop) = []
made_of crossed.Ends = []
made_of (crossed.Passes fate view) = []
made_of (crossed.Runs made by_code by_abend) = made

-- these places, and no other, are marked beside those that were
pub record AreMarked (places : List Place) (old new : Rows) : Type 0 where
  pub count : length new ≡ length old
  pub kept : (dd : ℕ) (serial : List ℕ) → IsMarked old dd serial → IsMarked new dd serial
  pub all : All (λ p. IsMarked new (p.dd - 1) p.serial) places
  pub only : (dd : ℕ) (serial : List ℕ) → IsMarked new dd serial →
      IsMarked old dd serial ⊎ ((p : Place) × Contains places p × (p.dd ≡ dd + 1) × (p.serial ≡ serial))

abbrev pub is_some_of : ℕ → Option ℕ → Bool
is_some_of n None = false
is_some_of n (Some m) = m == n

-- Places are put behind others: those of one DD, on each volume that is marked, in the order of the volumes as configured;
abbrev pub IsOfRow : ℕ → ℕ → List (List ℕ) → Place → Type 0
IsOfRow step dd row p = (p.step ≡ step) × (p.dd ≡ dd) × Contains row p.serial

pub record IsRowAdded (volumes : List (List ℕ)) (step dd : ℕ) (row : List (List ℕ)) (old new : List Place) : Type 0 where
  pub more : List Place
  pub added : new ≡ old ++ more
  pub each : All (IsOfRow step dd row) more
  pub all : (serial : List ℕ) → Contains row serial → Contains volumes serial → Contains more (record { step = step; dd = dd; serial = serial })
  pub rising : AreRising volumes more

-- and those of all DDs of a step, by DD.
pub record IsOfStep (step : ℕ) (rows : Rows) (p : Place) : Type 0 where
  pub of_step : p.step ≡ step
  pub from_one : 1 ≤ p.dd
  pub marked : IsMarked rows (p.dd - 1) p.serial

pub record AreAdded (volumes : List (List ℕ)) (step : ℕ) (rows : Rows) (old new : List Place) : Type 0 where
  pub more : List Place
  pub added : new ≡ old ++ more
  pub each : All (IsOfStep step rows) more
  pub all : (dd : ℕ) (serial : List ℕ) → IsMarked rows dd serial → Contains volumes serial →
      Contains more (record { step = step; dd = dd + 1; serial = serial })
  pub rising : AreRising volumes more
