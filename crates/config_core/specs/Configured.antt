-- What every configuration has.
use Rattle.std.specs.Prelude.{◌≡◌, ℕ, ◌≤◌, true, List, length, map, All, IfSome, IsSome}
use Rattle.std.specs.FinMap as finite
use Rattle.cat_core.specs.Catalogs.{Contents}
use Rattle.jname_core.specs.Generations.{generation_of}
use Rattle.jname_core.specs.Grammar.{IsDotted}
use Rattle.jcl_meaning.specs.WellFormed.{AreWellFormedPrograms, IsEntry}
use Rattle.vtoc_core.specs.declared.entry.SetKey.{SetKey}
use Rattle.vtoc_core.specs.declared.entry.SetKey.TheVariants.{Named, Temporary, Unnamed}
use Rattle.machine_meaning.specs.declared.config.TheConstants.{LAST_INITIATOR, MOST_UNITS, MOST_VOLUMES}
use Rattle.machine_meaning.specs.declared.config.ConfiguredInitiator.{ConfiguredInitiator}
use Rattle.mount_core.specs.Mounts.{MountedState}
use Rattle.shared_core.specs.LaidOut.{VolumesAreLaidOut}
use Rattle.config_core.specs.Configs.{Configuration, are_classes}
use Rattle.config_core.specs.Sets.{NothingKept}
use Rattle.plain.specs.Lists.{Differ}

-- a data set name, and the number of a generation
abbrev pub IsName : List ℕ → Type 0
IsName name = IsDotted 44 name × IfSome (generation_of name) (λ n. n ≤ 9999)

-- the serials of volumes, and the numbers of initiators, in their order
abbrev pub serials_of : List MountedState → List (List ℕ)
serials_of volumes = map (λ m. m.serial) volumes

abbrev pub numbers_of : List ConfiguredInitiator → List ℕ
numbers_of initiators = map (λ x. x.number) initiators

-- each set has a name of its own, and is no job's
abbrev pub IsNamed : SetKey → Type 0
IsNamed (Named name) = Unit {0}
IsNamed (Temporary job name) = ⊥
IsNamed (Unnamed job step dd) = ⊥

abbrev pub HasNamedSets : MountedState → Type 0
HasNamedSets m = (key : SetKey) → IsSome (finite.get m.volume.sets key) → IsNamed key

-- what is entered stands under a name, and groups are well formed
abbrev pub AreEntries : Contents → Type 0
AreEntries catalog = (name : List ℕ) → IsEntry name (finite.get catalog name)

-- a number of 1 to 15, and one to eight different classes
abbrev pub IsInitiator : ConfiguredInitiator → Type 0
IsInitiator x = (1 ≤ x.number) × (x.number ≤ LAST_INITIATOR) × (are_classes x.classes ≡ true)

pub record IsConfigured (c : Configuration) : Type 0 where
  pub few_volumes : length c.volumes ≤ MOST_VOLUMES
  pub serials : Differ (serials_of c.volumes)
  pub kept : NothingKept c.volumes
  pub sets : All HasNamedSets c.volumes
  pub laid_out : VolumesAreLaidOut c.volumes
  pub entries : AreEntries c.catalog
  pub few_units : length c.units ≤ MOST_UNITS
  pub programs : AreWellFormedPrograms c.programs
  pub numbers : Differ (numbers_of c.initiators)
  pub initiators : All IsInitiator c.initiators
