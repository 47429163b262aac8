-- The faults that actions met, by what each of them met.
use Rattle.std.specs.Prelude.{◌≡◌, List, [], ◌∷◌, map, Option}
use Rattle.jcl_plan.specs.declared.fault.Fault.{Fault}
use Rattle.jcl_meaning.specs.Acts.{act}
use Rattle.jcl_meaning.specs.Agendas.{Action}
use Rattle.jcl_meaning.specs.Solo.{Met, later, met_first}
use Rattle.jcl_meaning.specs.States.{Fixed, State}
use Rattle.solo_core.specs.declared.path.MetFault.{MetFault}

abbrev pub met_of : MetFault → Met
met_of m = record { place = m.place; fault = m.fault }

-- what each of these actions meets, one after another
abbrev pub meets_in : Fixed → List Action → State → List (Option Fault)
meets_in fixed [] s = []
meets_in fixed (a ∷ actions) s = (act fixed a s).meets ∷ meets_in fixed actions (act fixed a s).state

-- the faults among them, each with how many actions come before it
abbrev pub faults_of : List (Option Fault) → List Met
faults_of [] = []
faults_of (m ∷ meets) = met_first m (map later (faults_of meets))
