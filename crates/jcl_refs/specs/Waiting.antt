-- The DDs of a step that are not looked at yet, and where those of each name are among them.
use Rattle.std.specs.Prelude.{◌≡◌, ℕ, suc, Bool, true, false, List, [], ◌∷◌, ◌++◌, drop, length, reverse, slice_get, take_while, Option, Some, None}
use Rattle.std.specs.List.{flat_map}
use Rattle.std.specs.Global.{Vec}
use Rattle.name_places.specs.Places.{place_of}
use Rattle.jcl_dds.specs.declared.dd.DdCard.{DdCard}
use Rattle.jcl_refs.specs.declared.places.Places.{Places}
use Rattle.jcl_refs.specs.declared.waiting.Named.{Named}
use Rattle.jcl_refs.specs.declared.waiting.Waiting.{Waiting}
use Rattle.jcl_refs.specs.LaterDds.{Found, found_in, has_name, has_no_name}
use Rattle.std.specs.Str.{bytes_eq}

-- a place, where it counts
abbrev pub own : Bool → ℕ → List ℕ
own true place = place ∷ []
own false place = []

abbrev pub items_of : Option (Vec ℕ) → List ℕ
items_of None = []
items_of (Some places) = places.items

abbrev pub listed : List (Vec ℕ) → Option ℕ → List ℕ
listed places None = []
listed places (Some n) = items_of (slice_get places n)

-- the places of a name
abbrev pub places_at : Places → List ℕ → List ℕ
places_at p x = listed p.places.items (place_of p.names x)

-- each name has its list of places
abbrev pub AreAligned : Places → Type 0
AreAligned p = length p.names ≡ length p.places.items

-- a DD of a name, unless it is taken, and those that continue it
abbrev pub first_of : Option DdCard → List DdCard
first_of None = []
first_of (Some dd) = dd ∷ []

abbrev pub cards_of : Named → List DdCard
cards_of g = first_of g.first ++ reverse g.continued.items

-- all in their order
abbrev pub ahead : Waiting → List DdCard
ahead w = reverse w.next.items

abbrev pub groups : Waiting → List Named
groups w = reverse w.named.items

abbrev pub waiting : Waiting → List DdCard
waiting w = ahead w ++ flat_map cards_of (groups w)

-- where those of a name stand, counted from the last
abbrev pub is_of : List ℕ → Option DdCard → Bool
is_of x None = false
is_of x (Some dd) = has_name x dd

abbrev pub places_in : List ℕ → List Named → List ℕ
places_in x [] = []
places_in x (g ∷ later) = own (is_of x g.first) (length later) ++ places_in x later

abbrev pub Each : {A : Type 0} → (A → Type 0) → List A → Type 0
Each P [] = Unit {0}
Each P (x ∷ xs) = P x × Each P xs

-- one that is taken has none that continue it
abbrev pub Continues : DdCard → Type 0
Continues dd = has_no_name dd ≡ true

abbrev pub IsFirst : Option DdCard → List DdCard → Type 0
IsFirst None continued = continued ≡ []
IsFirst (Some dd) continued = has_no_name dd ≡ false

abbrev pub HasName : List ℕ → Option DdCard → Type 0
HasName name None = Unit {0}
HasName name (Some dd) = dd.name ≡ Some name

pub record IsGroup (g : Named) : Type 0 where
  pub named : HasName g.name g.first
  pub continue : Each Continues (reverse g.continued.items)
  pub first : IsFirst g.first (reverse g.continued.items)

pub record AreWaiting (next : List DdCard) (named : List Named) (places : List ℕ → List ℕ) : Type 0 where
  pub continue : Each Continues next
  pub each : Each IsGroup named
  pub stand : (x : List ℕ) → places x ≡ places_in x named

pub record IsWaiting (w : Waiting) : Type 0 where
  pub aligned : AreAligned w.places
  pub are : AreWaiting (ahead w) (groups w) (λ x. reverse (places_at w.places x))

-- the first of a name, what stands before it, and what comes after it
abbrev pub found_with : List DdCard → DdCard → List DdCard → Found
found_with before first tail = record {
  before = before;
  first = first;
  continued = take_while has_no_name tail;
  behind = drop (length (take_while has_no_name tail)) tail;
}

-- one is taken out where there is one of the name
abbrev pub Takes : List ℕ → List DdCard → Option DdCard → List DdCard → Type 0
Takes name old None new = (found_in name old ≡ None) × (new ≡ old)
Takes name old (Some dd) new =
    (f : Found) × (found_in name old ≡ Some f) × (f.first ≡ dd) × (new ≡ f.continued ++ (f.before ++ f.behind)) × (suc (length new) ≡ length old)

-- the last place of a name is taken
abbrev pub LosesPlace : Places → List ℕ → ℕ → Places → Type 0
LosesPlace old name place new = (x : List ℕ) → places_at old x ≡ places_at new x ++ own (bytes_eq name x) place
