-- A machine of which what is fixed stays.
use Rattle.std.proofs.Common.{refl, ◌∙◌}
use Rattle.sched_core.specs.Systems.{IsSameFixed, Machine}

pub IsSameFixed-none : (m : Machine) → IsSameFixed m m
IsSameFixed-none m = record { config = refl; unit_names = refl; library = refl }

pub IsSameFixed-twice : (a b c : Machine) → IsSameFixed a b → IsSameFixed b c → IsSameFixed a c
IsSameFixed-twice a b c first then = record {
  config = then.config ∙ first.config;
  unit_names = then.unit_names ∙ first.unit_names;
  library = then.library ∙ first.library;
}
