-- The texts of numbers, names and words in the listing.
use Rattle.std.specs.Prelude.{ℕ, ◌-◌, ◌==◌, List, [], ◌∷◌, ◌++◌, length, replicate, codes, decimal, Option, Some, None, if◌then◌else◌}
use Rattle.jcl_plan.specs.declared.outcome.Abend.{Abend}
use Rattle.jcl_plan.specs.declared.outcome.Abend.TheVariants as abend
use Rattle.jcl_plan.specs.declared.outcome.Fate.{Fate}
use Rattle.jcl_plan.specs.declared.outcome.Fate.TheVariants as fate
use Rattle.jcl_plan.specs.declared.outcome.Outcome.{Outcome}
use Rattle.jcl_plan.specs.declared.outcome.Outcome.TheVariants as outcome
use Rattle.jcl_plan.specs.declared.fault.Fault.{Fault}
use Rattle.jcl_plan.specs.declared.fault.Fault.TheVariants.{F1, F2, F3, F4, F5, F6, F7, F8, F9, F10}
use Rattle.jcl_plan.specs.declared.fault.Cause.{Cause}
use Rattle.jcl_plan.specs.declared.fault.Cause.TheVariants.{C, N, P, Q, B, A}
use Rattle.jcl_plan.specs.RefusalNumbers.{event_number, number_of, queue_number}
use Rattle.jcl_plan.specs.declared.words.TakeWord.{TakeWord}
use Rattle.jcl_plan.specs.declared.words.TakeWord.TheVariants as take
use Rattle.jcl_plan.specs.declared.words.DispWord.{DispWord}
use Rattle.jcl_plan.specs.declared.words.DispWord.TheVariants as disp
use Rattle.jcl_plan.specs.declared.words.BackWord.{BackWord}
use Rattle.jcl_plan.specs.declared.words.BackWord.TheVariants as back

-- a number in at least so many digits
abbrev pub digits : ℕ → ℕ → List ℕ
digits width n = replicate (width - length (decimal n)) 48 ++ decimal n

abbrev pub onto_text : ℕ → List ℕ → List ℕ
onto_text c [] = if c == 32 then [] else c ∷ []
onto_text c (d ∷ ds) = c ∷ d ∷ ds

-- without the blanks at its end
abbrev pub trimmed : List ℕ → List ℕ
trimmed [] = []
trimmed (c ∷ cs) = onto_text c (trimmed cs)

-- a blank and the text, or nothing where it is empty
abbrev pub behind_blank : List ℕ → List ℕ
behind_blank [] = []
behind_blank (c ∷ cs) = 32 ∷ c ∷ cs

-- a DD's name
abbrev pub shown : Option (List ℕ) → List ℕ
shown None = codes "-"
shown (Some name) = name

-- a step's name, and that of the procedure's step
abbrev pub step_shown : Option (List ℕ) → Option (List ℕ) → List ℕ
step_shown name None = shown name
step_shown name (Some step) = shown name ++ codes "." ++ step

abbrev pub fate_text : Fate → List ℕ
fate_text fate.Run = codes "RUN"
fate_text fate.Bypassed = codes "BYPASSED"
fate_text fate.Flushed = codes "FLUSHED"

abbrev pub fault_text : Fault → List ℕ
fault_text F1 = codes "F1"
fault_text F2 = codes "F2"
fault_text F3 = codes "F3"
fault_text F4 = codes "F4"
fault_text F5 = codes "F5"
fault_text F6 = codes "F6"
fault_text F7 = codes "F7"
fault_text F8 = codes "F8"
fault_text F9 = codes "F9"
fault_text F10 = codes "F10"

abbrev pub cause_text : Cause → List ℕ
cause_text (C n) = codes "C" ++ decimal n
cause_text (N n) = codes "N" ++ decimal n
cause_text (P fault) = codes "P" ++ decimal (number_of fault)
cause_text (Q fault) = codes "Q" ++ decimal (queue_number fault)
cause_text (B n) = codes "B" ++ decimal n
cause_text (A fault) = codes "A" ++ decimal (event_number fault)

abbrev pub abend_text : Abend → List ℕ
abend_text abend.S222 = codes "S222"
abend_text abend.S806 = codes "S806"
abend_text abend.SB37 = codes "SB37"
abend_text abend.SD37 = codes "SD37"
abend_text abend.SFF0 = codes "SFF0"
abend_text abend.SFF1 = codes "SFF1"
abend_text (abend.User code) = codes "U" ++ digits 4 code

-- an outcome on a path
abbrev pub outcome_text : Outcome → List ℕ
outcome_text (outcome.Code code) = codes "C" ++ digits 4 code
outcome_text (outcome.Abend a) = abend_text a
outcome_text outcome.Bypassed = codes "B"
outcome_text outcome.Flushed = codes "F"

-- further outcomes, a comma before each
abbrev pub others_text : List Outcome → List ℕ
others_text [] = []
others_text (o ∷ os) = codes "," ++ outcome_text o ++ others_text os

abbrev pub path_text : List Outcome → List ℕ
path_text [] = codes "-"
path_text (o ∷ os) = outcome_text o ++ others_text os

abbrev pub take_text : TakeWord → List ℕ
take_text (take.Made serial) = codes "MADE " ++ serial
take_text (take.Found serial) = codes "FOUND " ++ serial
take_text (take.Received serial) = codes "RECEIVED " ++ serial
take_text (take.Sysout class) = codes "SYSOUT " ++ class ∷ []
take_text take.Dummy = codes "DUMMY"
take_text (take.Cards n) = codes "CARDS " ++ decimal n

abbrev pub disp_text : DispWord → List ℕ
disp_text disp.Kept = codes "KEPT"
disp_text disp.Deleted = codes "DELETED"
disp_text disp.Passed = codes "PASSED"
disp_text disp.Cataloged = codes "CATALOGED"
disp_text disp.Uncataloged = codes "UNCATALOGED"
disp_text disp.Unexpired = codes "UNEXPIRED"
disp_text disp.F3 = codes "F3"
disp_text disp.F4 = codes "F4"
disp_text disp.F8 = codes "F8"
disp_text (disp.Spooled n) = codes "SPOOLED " ++ decimal n
disp_text disp.Nothing = codes "NONE"

abbrev pub back_text : BackWord → List ℕ
back_text back.Deleted = codes "DELETED"
back_text back.Kept = codes "KEPT"
