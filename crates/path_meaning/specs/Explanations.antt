-- How a risk is explained: what the job would write on the path that is told, up to its fault. (This profile)
use Rattle.std.specs.Prelude.{ℕ, Bool, true, false, List, [], ◌∷◌, if◌then◌else◌}
use Rattle.jcl_plan.specs.declared.entry.JobLine.{JobLine}
use Rattle.jcl_plan.specs.declared.entry.JobLine.TheVariants as line
use Rattle.jcl_plan.specs.declared.outcome.Outcome.{Outcome}
use Rattle.jcl_plan.specs.declared.plan.JobPlan.{JobPlan}
use Rattle.jcl_plan.specs.declared.words.DispWord.{DispWord}
use Rattle.jcl_plan.specs.declared.words.DispWord.TheVariants as disp
use Rattle.jcl_meaning.specs.Solo.{solo_path_of}
use Rattle.jcl_meaning.specs.States.{Fixed}
use Rattle.jcl_meaning.specs.Stores.{Store}

-- a line that tells a fault: FAULT, and DISP or LEFT with the word F3, F4 or F8
abbrev pub is_fault_word : DispWord → Bool
is_fault_word disp.F3 = true
is_fault_word disp.F4 = true
is_fault_word disp.F8 = true
is_fault_word other = false

abbrev pub tells_fault : JobLine → Bool
tells_fault (line.Fault fault step dd) = true
tells_fault (line.Disp dd name word) = is_fault_word word
tells_fault (line.Left step dd name word) = is_fault_word word
tells_fault other = false

-- the lines up to the first that tells a fault, and with it
abbrev pub up_to_fault : List JobLine → List JobLine
up_to_fault [] = []
up_to_fault (l ∷ lines) = if tells_fault l then l ∷ [] else l ∷ up_to_fault lines

-- the lines of a job's solo path, up to its fault
abbrev pub path_lines : Fixed → JobPlan → Store → List Outcome → List JobLine
path_lines fixed plan store path = up_to_fault (solo_path_of fixed plan store path).lines
