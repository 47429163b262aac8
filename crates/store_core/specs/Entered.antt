-- An entry of the catalog that is a group, changed.
use Rattle.std.specs.Prelude.{ℕ, List, ◌≡◌, Some}
use Rattle.group_core.specs.declared.entry.CatEntry.{CatEntry}
use Rattle.group_core.specs.declared.entry.CatEntry.TheVariants.{Volume, Group}
use Rattle.group_core.specs.Groups.{with_entered, without, GroupState}
use Rattle.jcl_meaning.specs.Stores.{Store, group_of, with_entry}

abbrev pub entry_without : CatEntry → ℕ → CatEntry
entry_without (Volume there) number = Volume there
entry_without (Group g) number = Group (record g { generations = without g.generations number })

abbrev pub entry_with : CatEntry → ℕ → List ℕ → CatEntry
entry_with (Volume there) number serial = Volume there
entry_with (Group g) number serial = Group (with_entered g number serial)

-- the group of a base has lost a number
abbrev pub LosesNumber : Store → List ℕ → ℕ → Store → Type 0
LosesNumber old base number new = (g : GroupState) → group_of old base ≡ Some g →
    new ≡ with_entry old base (Some (Group (record g { generations = without g.generations number })))
