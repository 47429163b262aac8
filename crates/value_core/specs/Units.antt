-- UNIT: the name of a list of volumes; further places are dropped. AFF is left out. (GC28-6704, UNIT parameter)
use Rattle.std.specs.Prelude.{ℕ, ◌||◌, List, [], codes, if◌then◌else◌, nat_eq}
use Rattle.std.specs.List.{starts_with}
use Rattle.jname_core.specs.Faults.{unit_name_fault}
use Rattle.jcl_plan.specs.declared.fault.Cause.TheVariants.{P}
use Rattle.jcl_plan.specs.declared.fault.StatementFault.TheVariants.{LeftOut}
use Rattle.operand_core.specs.Faults.{as_cause}
use Rattle.operand_core.specs.Subparameters.{first_place, subparameters_of}
use Rattle.value_core.specs.Reads.{Read, bad}

abbrev pub unit : List ℕ → Read (List ℕ)
unit text =
    if starts_with nat_eq text (codes "AFF=") || starts_with nat_eq text (codes "(AFF=") then bad [] (P LeftOut)
    else record { value = first_place (subparameters_of text); faults = as_cause (unit_name_fault (first_place (subparameters_of text))) }
