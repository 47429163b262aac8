-- The machine of a printable configuration, before its first event, is printable.
use Rattle.std.proofs.Common.{ℕ, Bool, List, [], ◌∷◌, map, All, Option, Some, None, arith}
use Rattle.std.specs.Prelude.{IfSome}
use Rattle.std.specs.FinMap.{get}
use Rattle.std.specs.Option.{option_map}
use Rattle.std.specs.Str.{bytes_eq}
use Rattle.std.proofs.lemmas.List.Elements.{All-cons, All-head, All-map, All-nil, All-tail, All-weaker}
use Rattle.cb_meaning.specs.declared.layout.Layout.{Layout}
use Rattle.machine_meaning.specs.declared.config.ConfiguredInitiator.{ConfiguredInitiator}
use Rattle.machine_meaning.specs.declared.config.ConfiguredUnit.{ConfiguredUnit}
use Rattle.vtoc_core.specs.declared.entry.SetEntry.{SetEntry}
use Rattle.vtoc_core.specs.declared.entry.SetKey.{SetKey}
use Rattle.mount_core.specs.Mounts.{MountedState}
use Rattle.shared_core.specs.Shown.{data_of, mounted_in, set_on}
use Rattle.world_meaning.specs.Worlds.{Initiator}
use Rattle.line_laws.specs.Printable.{IsPrintable}
use Rattle.print_laws.specs.Printable.{IsPrintableSet}
use Rattle.print_laws.specs.Texts.{ArePrintableTexts, IsPrintableRunning}
use Rattle.print_laws.proofs.GroupsPrintable.{either}
use Rattle.config_core.specs.Configs.{Configuration}
use Rattle.config_core.specs.Starts.{idle, start_of}
use Rattle.machine_laws.proofs.Configurations.{IsPrintableConfiguration}
use Rattle.machine_laws.proofs.Volumes.{IsPrintableEntry, IsPrintableMounted}

-- the volume of a serial
mounted_printable : (volumes : List MountedState) (serial : List ℕ) → All IsPrintableMounted volumes → IfSome (mounted_in volumes serial) IsPrintableMounted
mounted_printable [] serial h = tt
mounted_printable (m ∷ ms) serial h =
    either (λ o. IfSome o IsPrintableMounted) (bytes_eq m.serial serial) (Some m) (mounted_in ms serial) (All-head IsPrintableMounted m ms h)
    (mounted_printable ms serial (All-tail IsPrintableMounted m ms h))

-- and the sets on it
data_printable : (entry : Option SetEntry) → IsPrintableEntry entry → IfSome (option_map data_of entry) IsPrintableSet
data_printable None h = tt
data_printable (Some entry) h = h

set_printable : (m : Option MountedState) (key : SetKey) → IfSome m IsPrintableMounted → IfSome (set_on m key) IsPrintableSet
set_printable None key h = tt
set_printable (Some m) key h = data_printable (get m.volume.sets key) (h.sets key)

-- initiators that run nothing
abbrev IsPrintableInitiator : Initiator → Type 0
IsPrintableInitiator x = IfSome x.running IsPrintableRunning

idle_printable : (initiators : List ConfiguredInitiator) → All IsPrintableInitiator (map idle initiators)
idle_printable [] = All-nil IsPrintableInitiator
idle_printable (x ∷ xs) = All-cons IsPrintableInitiator (idle x) (map idle xs) tt (idle_printable xs)

pub start_printable : (c : Configuration) (refuses : Bool) (views : ℕ) (explains : Bool) (l : Layout) (date : ℕ) → IsPrintableConfiguration c →
    ArePrintableTexts (start_of c refuses views explains l date)
start_printable c refuses views explains l date h = record {
  volumes = All-map IsPrintable (λ (m : MountedState). m.serial) c.volumes
      (All-weaker IsPrintableMounted (λ m. IsPrintable m.serial) (λ m p. p.serial) c.volumes h.volumes);
  units = All-map (λ serials. All IsPrintable serials) (λ (u : ConfiguredUnit). u.serials) c.units h.units;
  programs = h.programs;
  store = record {
    sets = λ key serial. set_printable (mounted_in c.volumes serial) key (mounted_printable c.volumes serial h.volumes);
    entries = h.catalog;
  };
  holds = All-nil _;
  spool = All-nil _;
  jobs = omega arith;
  waiting = All-nil _;
  running = idle_printable c.initiators;
}
