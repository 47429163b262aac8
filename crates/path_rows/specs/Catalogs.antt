-- A catalog without groups.
use Rattle.std.specs.Prelude.{List}
use Rattle.std.specs.List.{AllByRecursion}
use Rattle.group_core.specs.declared.entry.CatEntry.{CatEntry}
use Rattle.group_core.specs.declared.entry.CatEntry.TheVariants.{Volume, Group}
use Rattle.jcl_meaning.specs.declared.store.SoloEntry.{SoloEntry}

abbrev pub IsVolume : CatEntry → Type 0
IsVolume (Volume serial) = Unit {0}
IsVolume (Group g) = ⊥

abbrev pub AreVolumes : List SoloEntry → Type 0
AreVolumes catalog = AllByRecursion (λ e. IsVolume e.entry) catalog
