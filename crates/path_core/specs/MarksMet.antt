-- A fault that an action met which is marked.
use Rattle.std.specs.Prelude.{◌≡◌, Bool, true, List}
use Rattle.jcl_plan.specs.declared.fault.Fault.{Fault}
use Rattle.solo_core.specs.declared.path.MetFault.{MetFault}
use Rattle.path_core.specs.Marks.{mark_at}

abbrev pub IsMetBy : MetFault → Fault → List Bool → Type 0
IsMetBy met fault marks = (met.fault ≡ fault) × (mark_at marks met.place ≡ true)
