-- Where the sets of a spool lie, in the order in which they entered.
use Rattle.std.specs.Prelude.{◌≡◌, ◌≢◌, ℕ, ◌+◌, ◌<◌, ◌≤◌, ◌==◌, ◌&&◌, ◌++◌, Bool, true, List, [], length, filter, map, All, AllPairs, get_or, slice_get, Some, false}
use Rattle.std.specs.Option.{unwrap_or}
use Rattle.slab.specs.Slab.{HasRoomFor, Slab, get, slab_len}
use Rattle.machine_meaning.specs.declared.machine.SpoolSet.{SpoolSet}
use Rattle.machine_meaning.specs.Spools.{has_lines}
use Rattle.spool_core.specs.declared.spool.Place.{Place}

abbrev pub no_set : SpoolSet
no_set = record { class = 0; job = 0; lines = [] }

abbrev pub set_under : Slab SpoolSet → ℕ → SpoolSet
set_under sets key = unwrap_or (get sets key) no_set

abbrev pub sets_at : Slab SpoolSet → List Place → List SpoolSet
sets_at sets places = map (λ (p : Place). set_under sets p.key) places

-- the places whose sets are not written out
abbrev pub filled_places : List Place → List Place
filled_places places = filter (λ (p : Place). p.filled) places

-- of these sets those with lines lie after the sets that lay there before
abbrev pub AddsSets : Slab SpoolSet → List Place → List SpoolSet → Slab SpoolSet → List Place → Type 0
AddsSets sets places added sets_now places_now =
    sets_at sets_now (filled_places places_now) ≡ sets_at sets (filled_places places) ++ filter has_lines added

-- a set of the class lies there
abbrev pub is_of : ℕ → Place → Bool
is_of class p = p.filled && p.class == class

-- under the key lies a set of the class with lines
pub record HasSet (sets : Slab SpoolSet) (place : Place) : Type 0 where
  pub of_class : (set_under sets place.key).class ≡ place.class
  pub with_lines : has_lines (set_under sets place.key) ≡ true

-- no two places have the same key
pub record Stand (sets : Slab SpoolSet) (places : List Place) : Type 0 where
  pub filled : All (HasSet sets) places
  pub apart : AllPairs (λ p q. p.key ≢ q.key) places

-- no set of the class lies before this place
abbrev pub NoneBefore : ℕ → ℕ → List Place → Type 0
NoneBefore class from places = (k : ℕ) (d : Place) → k < from → k < length places → is_of class (get_or places k d) ≡ false

-- the first place of a class
pub record IsFirst (places : List Place) (class index : ℕ) : Type 0 where
  pub place : Place
  pub at : slice_get places index ≡ Some place
  pub of_class : is_of class place ≡ true
  pub none_before : NoneBefore class index places

-- where the queue of each class begins
abbrev pub AreStarts : List ℕ → List Place → Type 0
AreStarts starts places = (class : ℕ) (d : ℕ) → class < length starts → (get_or starts class d ≤ length places) × NoneBefore class (get_or starts class d) places

-- The start of a class is moved: wherever none of its sets lies before the new one, all starts are right again.
abbrev pub MovesStart : ℕ → ℕ → List ℕ → List ℕ → Type 0
MovesStart class start old new =
    (places : List Place) → start ≤ length places → NoneBefore class start places → AreStarts old places → AreStarts new places

-- so many sets more may be entered without memory, where the list of places has this length and this room
abbrev pub HasRoom : Slab SpoolSet → ℕ → ℕ → ℕ → Type 0
HasRoom sets len room n = HasRoomFor sets n × (len + n ≤ room)

-- at most one was entered, where there was room for it
abbrev pub TakesRoom : Slab SpoolSet → Slab SpoolSet → Type 0
TakesRoom sets sets_now = (slab_len sets_now ≤ slab_len sets + 1) × (sets_now.capacity ≡ sets.capacity)
