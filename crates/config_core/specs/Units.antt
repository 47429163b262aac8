-- The units, of their names and of the volumes of each.
use Rattle.std.specs.Prelude.{ℕ, List, [], ◌∷◌}
use Rattle.machine_meaning.specs.declared.config.ConfiguredUnit.{ConfiguredUnit}

abbrev pub units_of : List (List ℕ) → List (List (List ℕ)) → List ConfiguredUnit
units_of [] volumes = []
units_of (name ∷ names) [] = []
units_of (name ∷ names) (serials ∷ volumes) = record { name = name; serials = serials } ∷ units_of names volumes
