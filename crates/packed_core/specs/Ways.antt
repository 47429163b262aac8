-- Ways into the views behind a part: the classes of codes by which its step may end, and by which of them rows were told.
use Rattle.std.specs.Global.{Global}
use Rattle.std.specs.Prelude.{◌≡◌, ◌⊎◌, ◌<◌, ◌++◌, ℕ, Bool, true, false, All, Contains, List, [], ◌∷◌, Option, Some, Vec, IfSome, length, map, slice_get}
use Rattle.jcl_plan.specs.declared.plan.JobPlan.{JobPlan}
use Rattle.packed_core.specs.declared.classes.Class.{Class}
use Rattle.packed_core.specs.declared.classes.Classes.{Classes}
use Rattle.packed_core.specs.declared.ways.Looked.{Looked}
use Rattle.packed_core.specs.declared.ways.Ways.{Ways}
use Rattle.packed_core.specs.Classes.{AreMasks, codes_of, tests_before}
use Rattle.packed_core.specs.Rooms.{room_at}
use Rattle.packed_core.specs.Rows.{has_row}
use Rattle.packed_core.specs.Words.{joined_words}

-- the codes of the classes of these ways
abbrev pub codes_by : Ways → List ℕ
codes_by ways = codes_of ways.classes.value.list.items

-- the row to which a class leads stands among these
abbrev pub Stands : List (List ℕ) → List ℕ → Class → Type 0
Stands rows base class = has_row (joined_words base class.mask.items) rows ≡ true

-- one of two rows has all bits of the other
abbrev pub AreNested : List ℕ → List ℕ → Type 0
AreNested a b = (joined_words a b ≡ b) ⊎ (joined_words b a ≡ a)

-- where bits rise the second has all bits of the first, else the first all of the second
abbrev pub Leads : Bool → List ℕ → List ℕ → Type 0
Leads true a b = joined_words a b ≡ b
Leads false a b = joined_words b a ≡ a

abbrev pub AreAllNested : List Class → Type 0
AreAllNested list = (i j : ℕ) (a b : Class) → slice_get list i ≡ Some a → slice_get list j ≡ Some b → AreNested a.mask.items b.mask.items

-- a number came behind others, or these rows are nested
abbrev pub IsNotedApart : List ℕ → List ℕ → ℕ → List ℕ → List ℕ → Type 0
IsNotedApart old new i a b = (new ≡ old ++ i ∷ []) ⊎ ((new ≡ old) × AreNested a b)

-- Numbers of classes: any other has all bits of this one, or none beside those of this one.
pub record AreApartFrom (list : List Class) (class : Class) (numbers : List ℕ) : Type 0 where
  pub below : All (λ j. j < length list) numbers
  pub others : (j : ℕ) (other : Class) → slice_get list j ≡ Some other → Contains numbers j ⊎ AreNested class.mask.items other.mask.items

-- the numbers of all classes, and of those that are apart from each
pub record AreCompared (classes : Classes) : Type 0 where
  pub below : All (λ j. j < length classes.list.items) classes.every.items
  pub every : (j : ℕ) → j < length classes.list.items → Contains classes.every.items j
  pub apart : (i : ℕ) (class : Class) (numbers : Vec ℕ Global) → slice_get classes.list.items i ≡ Some class →
      slice_get classes.apart.items i ≡ Some numbers → AreApartFrom classes.list.items class numbers.items

-- any class that has none of these numbers leads to a row that stands
pub record AreOffered (rows : List (List ℕ)) (list : List Class) (base : List ℕ) (numbers : List ℕ) : Type 0 where
  pub below : All (λ j. j < length list) numbers
  pub others : (j : ℕ) (class : Class) → slice_get list j ≡ Some class → Contains numbers j ⊎ Stands rows base class

-- row i is that to which class c leads from a row of which all stands to which it leads
pub record IsNoted (rows : List (List ℕ)) (list : List Class) (i c : ℕ) : Type 0 where
  pub base : List ℕ
  pub class : Class
  pub there : slice_get list c ≡ Some class
  pub row : slice_get rows i ≡ Some (joined_words base class.mask.items)
  pub all : (j : ℕ) (other : Class) → slice_get list j ≡ Some other → Stands rows base other

abbrev pub AreNotes : List (List ℕ) → List Class → List (Option ℕ) → Type 0
AreNotes rows list notes = (i c : ℕ) → slice_get notes i ≡ Some (Some c) → IsNoted rows list i c

-- each class was looked at, or leads to a row that stands
abbrev pub AreLooked : List (List ℕ) → List Class → List ℕ → List Looked → Type 0
AreLooked rows list base looked = (j : ℕ) (class : Class) → slice_get list j ≡ Some class → Contains (map (λ l. l.class) looked) j ⊎ Stands rows base class

-- one came behind those that were looked at, or nothing is told by it
abbrev pub IsLookedAt : List Looked → List Looked → Looked → Bool → Type 0
IsLookedAt old new one told = (new ≡ old ++ one ∷ []) ⊎ ((told ≡ false) × (new ≡ old))

-- the row of a class that was looked at stands at its number
abbrev pub IsThere : List (List ℕ) → List Class → List ℕ → Looked → Type 0
IsThere rows list base l = (class : Class) × (slice_get list l.class ≡ Some class) × (slice_get rows l.row ≡ Some (joined_words base class.mask.items))

-- no note is new but of this class at this row
abbrev pub HasNoOther : List (Option ℕ) → List (Option ℕ) → Looked → Type 0
HasNoOther old new l = (i c : ℕ) → slice_get new i ≡ Some (Some c) → (slice_get old i ≡ Some (Some c)) ⊎ ((i ≡ l.row) × (c ≡ l.class))

-- or of one of these
abbrev pub HasNoOthers : List (Option ℕ) → List (Option ℕ) → List Looked → Type 0
HasNoOthers old new looked = (i c : ℕ) → slice_get new i ≡ Some (Some c) →
    (slice_get old i ≡ Some (Some c)) ⊎ ((l : Looked) × Contains looked l × (i ≡ l.row) × (c ≡ l.class))

-- what is known of the ways to these rows is so
pub record AreKept (rows : List (List ℕ)) (ways : Ways) : Type 0 where
  pub compared : AreCompared ways.classes.value
  pub notes : AreNotes rows ways.classes.value.list.items ways.notes.items
  pub pending : IfSome ways.pending (λ p. AreLooked rows ways.classes.value.list.items p.value.base.items p.value.looked.items)

-- and the classes are those by which the step before a part may end
pub record AreWays (plan : JobPlan) (part : ℕ) (rows : List (List ℕ)) (ways : Ways) : Type 0 where
  pub masks : AreMasks part (tests_before plan part) (room_at plan part) ways.classes.value.list.items
  pub kept : AreKept rows ways
