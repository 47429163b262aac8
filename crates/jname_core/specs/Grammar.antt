-- What a name is, by cases on its characters.
use Rattle.std.specs.Prelude.{ℕ, Bool, IsTrue, List, [], ◌∷◌, length, ◌≤◌, ◌==◌}
use Rattle.std.specs.List.{slice_split, AllByRecursion}
use Rattle.jname_core.specs.Characters.{is_first, is_name_character, is_component_character}
use Rattle.jname_core.specs.Generations.{IsGoodGeneration}

-- each character is of the kind
abbrev pub Consists : (ℕ → Bool) → List ℕ → Type 0
Consists kind [] = Unit {0}
Consists kind (c ∷ cs) = IsTrue (kind c) × Consists kind cs

-- a name of a job, a step, a DD, a program, a temporary set: 1 to 8 characters, the first no digit
abbrev pub IsName8 : List ℕ → Type 0
IsName8 [] = ⊥
IsName8 (c ∷ cs) = IsTrue (is_first c) × Consists is_name_character cs × (length cs ≤ 7)

-- a name of units: 1 to 8 characters
abbrev pub IsUnitName : List ℕ → Type 0
IsUnitName [] = ⊥
IsUnitName (c ∷ cs) = Consists is_name_character (c ∷ cs) × (length cs ≤ 7)

-- a volume's serial: 1 to 6 characters, hyphens among them
abbrev pub IsSerial : List ℕ → Type 0
IsSerial [] = ⊥
IsSerial (c ∷ cs) = Consists is_component_character (c ∷ cs) × (length cs ≤ 5)

-- a component of a data set name: as a name, but hyphens may follow the first character
abbrev pub IsComponent : List ℕ → Type 0
IsComponent [] = ⊥
IsComponent (c ∷ cs) = IsTrue (is_first c) × Consists is_component_character cs × (length cs ≤ 7)

-- the components, which periods join
abbrev pub components_of : List ℕ → List (List ℕ)
components_of text = slice_split (λ c. c == 46) text

-- components joined by periods, of so many characters at most
pub record IsDotted (limit : ℕ) (text : List ℕ) : Type 0 where
  pub fits : length text ≤ limit
  pub joined : AllByRecursion IsComponent (components_of text)

-- a data set name: where it has the form of a generation, a good one
pub record IsDsNameWithin (limit : ℕ) (text : List ℕ) : Type 0 where
  pub dotted : IsDotted limit text
  pub generation : IsGoodGeneration text
