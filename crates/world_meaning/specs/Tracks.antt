-- The tracks of a volume: free, kept, and in sets. What one of these loses another gains.
use Rattle.std.specs.Prelude.{◌≡◌, ℕ, ◌+◌, Bool, true, false, not, ◌&&◌, ◌==◌, List, filter, sum_by, Option, Some, None}
use Rattle.std.specs.List.{list_any}
use Rattle.std.specs.Str.{bytes_eq}
use Rattle.vtoc_core.specs.declared.entry.SetKey.{SetKey}
use Rattle.vtoc_core.specs.Entries.{same_key}
use Rattle.jcl_meaning.specs.declared.state.Place.{Place}
use Rattle.jcl_meaning.specs.declared.store.DataSet.{DataSet}
use Rattle.world_meaning.specs.Lenses.{WorldStore}
use Rattle.world_meaning.specs.Worlds.{Kept, Shared}
use Rattle.plain.specs.Lists.{all_different}

abbrev pub tracks_of : Option DataSet → ℕ
tracks_of None = 0
tracks_of (Some set) = set.tracks

-- the tracks of sets of these keys on a volume
abbrev pub used_by : WorldStore → List ℕ → List SetKey → ℕ
used_by w serial keys = sum_by (λ k. tracks_of (w.set k serial)) keys

-- the tracks kept on a volume
abbrev pub kept_on : (List ℕ → List Kept) → List ℕ → ℕ
kept_on kept serial = sum_by (λ k. k.tracks) (kept serial)

abbrev pub is_touched : List SetKey → SetKey → Bool
is_touched keys k = list_any (same_key k) keys

-- On a volume sets of these keys alone changed, and free, kept and used tracks add to as many as before.
pub record IsConserved (old new : Shared) (serial : List ℕ) : Type 0 where
  pub touched : List SetKey
  pub once : all_different same_key touched ≡ true
  pub others : (k : SetKey) → is_touched touched k ≡ false → new.store.set k serial ≡ old.store.set k serial
  pub sum : new.free serial + (kept_on new.kept serial + used_by new.store serial touched)
      ≡ old.free serial + (kept_on old.kept serial + used_by old.store serial touched)

abbrev pub Conserves : Shared → Shared → Type 0
Conserves old new = (serial : List ℕ) → IsConserved old new serial

-- what is kept for a job, for others than a job, and for others than the DDs of it that made these sets
abbrev pub kept_of : ℕ → (List ℕ → List Kept) → List ℕ → List Kept
kept_of job kept serial = filter (λ k. k.job == job) (kept serial)

abbrev pub kept_without : (List ℕ → List Kept) → ℕ → List ℕ → List Kept
kept_without kept job serial = filter (λ k. not (k.job == job)) (kept serial)

abbrev pub is_kept_for : ℕ → Place → List ℕ → Kept → Bool
is_kept_for job p serial k = k.job == job && k.step == p.step && k.dd == p.dd && bytes_eq serial p.serial

abbrev pub kept_unless_made : (List ℕ → List Kept) → ℕ → List Place → List ℕ → List Kept
kept_unless_made kept job made serial = filter (λ k. not (list_any (λ p. is_kept_for job p serial k) made)) (kept serial)
