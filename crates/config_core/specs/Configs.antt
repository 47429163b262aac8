-- The configuration: what each of its statements adds, and what refuses it. (This profile)
use Rattle.std.specs.Prelude.{ℕ, ◌+◌, ◌*◌, Bool, true, false, not, ◌&&◌, ◌||◌, ◌==◌, nat_le, nat_lt, List, [], ◌∷◌, ◌++◌, map, length, Option, Some, None, is_some, if◌then◌else◌}
use Rattle.std.specs.FinMap as finite
use Rattle.std.specs.List.{list_all, list_any}
use Rattle.std.specs.Str.{bytes_eq}
use Rattle.extent_core.specs.declared.extent.Extent.{Extent}
use Rattle.group_core.specs.Entries.{Member}
use Rattle.cat_core.specs.Catalogs.{Contents, has_generation_entered, is_entered, member_of, with_group, with_name}
use Rattle.jname_core.specs.Characters.{is_job_class}
use Rattle.jname_core.specs.declared.ds_name.TheConstants.{MOST_OF_A_BASE}
use Rattle.jcl_refs.specs.Plans.{unit_number}
use Rattle.jcl_plan.specs.declared.plan.TheConstants.{RECORDS_A_TRACK}
use Rattle.jcl_meaning.specs.declared.program.Request.{Request}
use Rattle.jcl_meaning.specs.declared.program.SoloProgram.{SoloProgram}
use Rattle.jcl_meaning.specs.Programs.{is_iefbr14, program_of}
use Rattle.vtoc_core.specs.declared.entry.SetKey.TheVariants.{Named}
use Rattle.vtoc_core.specs.Extents.{free_extents, planned}
use Rattle.vtoc_core.specs.Volumes.{first_tracks, marked}
use Rattle.vtoc_core.specs.declared.volume.Track.TheVariants.{InSet}
use Rattle.mount_core.specs.Mounts.{MountedState, holds}
use Rattle.jcl_plan.specs.declared.plan.TheConstants.{MOST_TRACKS}
use Rattle.machine_meaning.specs.declared.config.TheConstants.{LAST_INITIATOR, MOST_UNITS, MOST_VOLUMES}
use Rattle.machine_meaning.specs.declared.config.ConfigFault.{ConfigFault}
use Rattle.machine_meaning.specs.declared.config.ConfigFault.TheVariants.{BadValue, DefinedTwice}
use Rattle.machine_meaning.specs.declared.config.ConfiguredInitiator.{ConfiguredInitiator}
use Rattle.machine_meaning.specs.declared.config.ConfiguredUnit.{ConfiguredUnit}
use Rattle.proc_library.specs.declared.library.LibraryProcedure.{LibraryProcedure}
use Rattle.proc_library.specs.Libraries.{has_procedure}
use Rattle.shared_core.specs.Shown.{mounted_in}
use Rattle.session_input.specs.declared.statement.ConfigStatement.{ConfigStatement}
use Rattle.session_input.specs.declared.statement.ConfigStatement.TheVariants as statement
use Rattle.session_input.specs.declared.statement.SetStatement.{SetStatement}
use Rattle.session_input.specs.declared.statement.TheConstants.{MOST_GENERATIONS, MOST_REQUESTS}
use Rattle.plain.specs.Lists.{are_different}

-- in the order of the statements; a volume with the sets that were made on it
pub record Configuration : Type 0 where
  pub volumes : List MountedState
  pub catalog : Contents
  pub units : List ConfiguredUnit
  pub library : List LibraryProcedure
  pub programs : List SoloProgram
  pub initiators : List ConfiguredInitiator

abbrev pub nothing_configured : Configuration
nothing_configured = record { volumes = []; catalog = finite.empty; units = []; library = []; programs = []; initiators = [] }

-- a value is refused before a name that is there
abbrev pub refused_by : Bool → Bool → Option ConfigFault
refused_by true twice = Some BadValue
refused_by false true = Some DefinedTwice
refused_by false false = None

-- VOLUME: the tracks that are never free lie on it, in rising extents
abbrev pub has_volume : List MountedState → List ℕ → Bool
has_volume volumes serial = list_any (λ m. bytes_eq m.serial serial) volumes

abbrev pub are_rising : ℕ → ℕ → List Extent → Bool
are_rising from tracks [] = true
are_rising from tracks (e ∷ es) = nat_le from e.start && nat_lt 0 e.tracks && nat_le (e.start + e.tracks) tracks && are_rising (e.start + e.tracks) tracks es

abbrev pub volume_fault : Configuration → List ℕ → ℕ → List Extent → Option ConfigFault
volume_fault c serial tracks used =
    refused_by (nat_lt tracks 1 || nat_lt MOST_TRACKS tracks || not (are_rising 0 tracks used) || nat_le MOST_VOLUMES (length c.volumes)) (has_volume c.volumes serial)

abbrev pub new_volume : List ℕ → ℕ → List Extent → MountedState
new_volume serial tracks used = record { serial = serial; volume = record { tracks = first_tracks tracks used; sets = finite.empty }; kept = finite.empty }

abbrev pub with_volume : Configuration → List ℕ → ℕ → List Extent → Configuration
with_volume c serial tracks used = record c { volumes = c.volumes ++ new_volume serial tracks used ∷ [] }

-- UNIT
abbrev pub unit_names : List ConfiguredUnit → List (List ℕ)
unit_names units = map (λ u. u.name) units

abbrev pub unit_volumes : List ConfiguredUnit → List (List (List ℕ))
unit_volumes units = map (λ u. u.serials) units

abbrev pub has_unit : List ConfiguredUnit → List ℕ → Bool
has_unit units name = is_some (unit_number (unit_names units) name)

abbrev pub unit_fault : Configuration → List ℕ → List (List ℕ) → Option ConfigFault
unit_fault c name serials =
    refused_by (nat_le MOST_UNITS (length c.units) || length serials == 0 || not (list_all (has_volume c.volumes) serials)) (has_unit c.units name)

abbrev pub with_unit : Configuration → List ℕ → List (List ℕ) → Configuration
with_unit c name serials = record c { units = c.units ++ record { name = name; serials = serials } ∷ [] }

-- GROUP: the names of its generations fit behind its base, and neither the base nor one of them is entered
abbrev pub group_fault : Configuration → List ℕ → ℕ → Option ConfigFault
group_fault c base limit =
    refused_by (nat_lt limit 1 || nat_lt MOST_GENERATIONS limit || nat_lt MOST_OF_A_BASE (length base)) (is_entered c.catalog base || has_generation_entered c.catalog base)

abbrev pub with_group_of : Configuration → List ℕ → ℕ → Bool → Configuration
with_group_of c base limit scratch = record c { catalog = with_group c.catalog base limit scratch }

-- SET: its volume has room, and the extents that it takes
abbrev pub has_room : Option MountedState → ℕ → Bool
has_room None tracks = false
has_room (Some m) tracks = holds None m.volume tracks

abbrev pub extents_on : Option MountedState → ℕ → Option (List Extent)
extents_on None tracks = None
extents_on (Some m) tracks = planned (free_extents m.volume.tracks) tracks

abbrev pub stands_on : Option MountedState → List ℕ → Bool
stands_on None name = false
stands_on (Some m) name = is_some (finite.get m.volume.sets (Named name))

-- a name is catalogued where it is not entered, of a generation where its group is not full
abbrev pub is_full_for : Option Member → Bool
is_full_for None = false
is_full_for (Some m) = nat_le m.1.limit (length m.1.generations)

abbrev pub set_fault : Configuration → SetStatement → Option ConfigFault
set_fault c s = refused_by
    (not (has_room (mounted_in c.volumes s.serial) s.tracks) || nat_lt (s.tracks * RECORDS_A_TRACK) (length s.records) || (s.catalogued && is_full_for (member_of c.catalog s.name)))
    (stands_on (mounted_in c.volumes s.serial) s.name || (s.catalogued && is_entered c.catalog s.name))

abbrev pub with_set_on : MountedState → List Extent → SetStatement → MountedState
with_set_on m extents s = record m {
  volume = record {
    tracks = marked InSet extents m.volume.tracks;
    sets = finite.insert m.volume.sets (Named s.name) (record { extents = record { items = extents }; expires = s.expires; records = s.records });
  };
}

-- the first volume of a serial is changed
abbrev pub changed_at : (MountedState → MountedState) → List MountedState → List ℕ → List MountedState
changed_at f [] serial = []
changed_at f (m ∷ ms) serial = if bytes_eq m.serial serial then f m ∷ ms else m ∷ changed_at f ms serial

abbrev pub with_set_in : List MountedState → Option (List Extent) → SetStatement → List MountedState
with_set_in volumes None s = volumes
with_set_in volumes (Some extents) s = changed_at (λ m. with_set_on m extents s) volumes s.serial

abbrev pub catalog_with : Contents → SetStatement → Contents
catalog_with catalog s = if s.catalogued then with_name catalog s.name s.serial else catalog

abbrev pub with_set : Configuration → SetStatement → Configuration
with_set c s = record c {
  volumes = with_set_in c.volumes (extents_on (mounted_in c.volumes s.serial) s.tracks) s;
  catalog = catalog_with c.catalog s;
}

-- PROC: a procedure by any name; its lines are read where it is called
abbrev pub procedure_fault : Configuration → List ℕ → Option ConfigFault
procedure_fault c name = refused_by false (has_procedure c.library name)

abbrev pub with_procedure : Configuration → List ℕ → List (List ℕ) → Configuration
with_procedure c name lines = record c { library = c.library ++ record { name = name; lines = lines } ∷ [] }

-- PROGRAM: IEFBR14 is there already
abbrev pub has_program : List SoloProgram → List ℕ → Bool
has_program programs name = is_iefbr14 name || is_some (program_of programs name)

abbrev pub program_fault : Configuration → List ℕ → List Request → Option ConfigFault
program_fault c name requests = refused_by (nat_lt MOST_REQUESTS (length requests)) (has_program c.programs name)

abbrev pub with_program : Configuration → List ℕ → List Request → Configuration
with_program c name requests = record c { programs = c.programs ++ record { name = name; requests = requests } ∷ [] }

-- INIT: one to eight different letters A to O
abbrev pub has_class : List ℕ → ℕ → Bool
has_class classes c = list_any (λ other. other == c) classes

abbrev pub are_classes : List ℕ → Bool
are_classes classes = not (length classes == 0) && nat_le (length classes) 8 && list_all is_job_class classes && are_different classes

abbrev pub has_initiator : List ConfiguredInitiator → ℕ → Bool
has_initiator initiators number = list_any (λ x. x.number == number) initiators

abbrev pub initiator_fault : Configuration → ℕ → List ℕ → Option ConfigFault
initiator_fault c number classes =
    refused_by (nat_lt number 1 || nat_lt LAST_INITIATOR number || not (are_classes classes)) (has_initiator c.initiators number)

abbrev pub with_initiator : Configuration → ℕ → List ℕ → Configuration
with_initiator c number classes = record c { initiators = c.initiators ++ record { number = number; classes = classes } ∷ [] }

-- what refuses a statement, and what it adds
abbrev pub config_fault : Configuration → ConfigStatement → Option ConfigFault
config_fault c (statement.Volume serial tracks used) = volume_fault c serial tracks used
config_fault c (statement.Unit name serials) = unit_fault c name serials
config_fault c (statement.Group base limit scratch) = group_fault c base limit
config_fault c (statement.Set s) = set_fault c s
config_fault c (statement.Procedure name lines) = procedure_fault c name
config_fault c (statement.Program name requests) = program_fault c name requests
config_fault c (statement.Initiator number classes) = initiator_fault c number classes

abbrev pub configured : Configuration → ConfigStatement → Configuration
configured c (statement.Volume serial tracks used) = with_volume c serial tracks used
configured c (statement.Unit name serials) = with_unit c name serials
configured c (statement.Group base limit scratch) = with_group_of c base limit scratch
configured c (statement.Set s) = with_set c s
configured c (statement.Procedure name lines) = with_procedure c name lines
configured c (statement.Program name requests) = with_program c name requests
configured c (statement.Initiator number classes) = with_initiator c number classes
