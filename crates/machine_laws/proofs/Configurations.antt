-- Statements that are printable configure what is printable.
use Rattle.std.proofs.Common.{ℕ, List, All}
use Rattle.std.proofs.lemmas.List.Elements.{All-nil, All-push}
use Rattle.extent_core.specs.declared.extent.Extent.{Extent}
use Rattle.jcl_meaning.specs.declared.program.Request.{Request}
use Rattle.jcl_meaning.specs.declared.program.SoloProgram.{SoloProgram}
use Rattle.machine_meaning.specs.declared.config.ConfiguredUnit.{ConfiguredUnit}
use Rattle.session_input.specs.declared.statement.ConfigStatement.{ConfigStatement}
use Rattle.session_input.specs.declared.statement.ConfigStatement.TheVariants as statement
use Rattle.session_input.specs.declared.statement.SetStatement.{SetStatement}
use Rattle.shared_core.specs.Shown.{mounted_in}
use Rattle.line_laws.specs.Printable.{IsPrintable}
use Rattle.print_laws.specs.Printable.{ArePrintablePrograms, IsPrintableRequest}
use Rattle.config_core.specs.Configs.{Configuration, configured, extents_on, new_volume, nothing_configured, with_program, with_set, with_unit, with_volume}
use Rattle.machine_laws.proofs.Blocks.{IsPrintableConfig}
use Rattle.machine_laws.proofs.Volumes.{ArePrintableContents, IsPrintableMounted, catalog_printable, grouped_printable, new_printable, nothing_printable, volumes_printable}

abbrev pub IsPrintableUnit : ConfiguredUnit → Type 0
IsPrintableUnit u = All IsPrintable u.serials

abbrev IsPrintableProgram : SoloProgram → Type 0
IsPrintableProgram program = All IsPrintableRequest program.requests

pub record IsPrintableConfiguration (c : Configuration) : Type 0 where
  pub volumes : All IsPrintableMounted c.volumes
  pub catalog : ArePrintableContents c.catalog
  pub units : All IsPrintableUnit c.units
  pub programs : ArePrintablePrograms c.programs

pub none_printable : IsPrintableConfiguration nothing_configured
none_printable = record {
  volumes = All-nil IsPrintableMounted;
  catalog = nothing_printable;
  units = All-nil IsPrintableUnit;
  programs = All-nil IsPrintableProgram;
}

-- one volume more
volume_configured : (c : Configuration) (serial : List ℕ) (tracks : ℕ) (used : List Extent) → IsPrintableConfiguration c → IsPrintable serial →
    IsPrintableConfiguration (with_volume c serial tracks used)
volume_configured c serial tracks used h p = record {
  volumes = All-push IsPrintableMounted c.volumes (new_volume serial tracks used) h.volumes (new_printable serial tracks used p);
  catalog = h.catalog;
  units = h.units;
  programs = h.programs;
}

-- one unit more
unit_configured : (c : Configuration) (name : List ℕ) (serials : List (List ℕ)) → IsPrintableConfiguration c → All IsPrintable serials →
    IsPrintableConfiguration (with_unit c name serials)
unit_configured c name serials h p = record {
  volumes = h.volumes;
  catalog = h.catalog;
  units = All-push IsPrintableUnit c.units (record { name = name; serials = serials }) h.units p;
  programs = h.programs;
}

-- one set more
set_configured : (c : Configuration) (s : SetStatement) → IsPrintableConfiguration c → IsPrintable s.serial → All IsPrintable s.records →
    IsPrintableConfiguration (with_set c s)
set_configured c s h p records = record {
  volumes = volumes_printable c.volumes (extents_on (mounted_in c.volumes s.serial) s.tracks) s records h.volumes;
  catalog = catalog_printable c.catalog s h.catalog p;
  units = h.units;
  programs = h.programs;
}

-- one program more
program_configured : (c : Configuration) (name : List ℕ) (requests : List Request) → IsPrintableConfiguration c → All IsPrintableRequest requests →
    IsPrintableConfiguration (with_program c name requests)
program_configured c name requests h p = record {
  volumes = h.volumes;
  catalog = h.catalog;
  units = h.units;
  programs = All-push IsPrintableProgram c.programs (record { name = name; requests = requests }) h.programs p;
}

-- any statement
pub configured_printable : (c : Configuration) (s : ConfigStatement) → IsPrintableConfiguration c → IsPrintableConfig s →
    IsPrintableConfiguration (configured c s)
configured_printable c (statement.Volume serial tracks used) h p = volume_configured c serial tracks used h p
configured_printable c (statement.Unit name serials) h p = unit_configured c name serials h p
configured_printable c (statement.Group base limit scratch) h p = record {
  volumes = h.volumes;
  catalog = grouped_printable c.catalog base limit scratch h.catalog;
  units = h.units;
  programs = h.programs;
}
configured_printable c (statement.Set s) h p = set_configured c s h p.0 p.1
configured_printable c (statement.Procedure name lines) h p =
    record { volumes = h.volumes; catalog = h.catalog; units = h.units; programs = h.programs }
configured_printable c (statement.Program name requests) h p = program_configured c name requests h p
configured_printable c (statement.Initiator number classes) h p =
    record { volumes = h.volumes; catalog = h.catalog; units = h.units; programs = h.programs }
