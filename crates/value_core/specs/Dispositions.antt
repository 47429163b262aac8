-- DISP: status, normal word, conditional word; each may be omitted. (GC28-6704, DISP parameter)
use Rattle.std.specs.Prelude.{ℕ, nat_lt, List, [], ◌∷◌, ◌++◌, length, slice_get, Option, Some, None, codes, if◌then◌else◌}
use Rattle.std.specs.Str.{bytes_eq}
use Rattle.jcl_plan.specs.declared.fault.Cause.TheVariants.{P}
use Rattle.jcl_plan.specs.declared.fault.StatementFault.TheVariants.{BadValue}
use Rattle.jcl_plan.specs.declared.plan.ConditionalWord.{ConditionalWord}
use Rattle.jcl_plan.specs.declared.plan.ConditionalWord.TheVariants as conditional
use Rattle.jcl_plan.specs.declared.plan.Status.{Status}
use Rattle.jcl_plan.specs.declared.plan.Status.TheVariants as status
use Rattle.jcl_plan.specs.declared.plan.Word.{Word}
use Rattle.jcl_plan.specs.declared.plan.Word.TheVariants as word
use Rattle.operand_core.specs.Faults.{when}
use Rattle.operand_core.specs.Subparameters.{subparameters_of}
use Rattle.value_core.specs.declared.set.Disposition.{Disposition}
use Rattle.value_core.specs.Reads.{Read, bad, good}

-- NEW where none is coded
abbrev pub status_of : List ℕ → Read Status
status_of [] = good status.New
status_of (c ∷ cs) =
    if bytes_eq (c ∷ cs) (codes "NEW") then good status.New
    else (if bytes_eq (c ∷ cs) (codes "OLD") then good status.Old
    else (if bytes_eq (c ∷ cs) (codes "SHR") then good status.Shr
    else (if bytes_eq (c ∷ cs) (codes "MOD") then good status.Mod
    else bad status.New (P BadValue))))

abbrev pub word_of : List ℕ → Read (Option Word)
word_of [] = good None
word_of (c ∷ cs) =
    if bytes_eq (c ∷ cs) (codes "DELETE") then good (Some word.Delete)
    else (if bytes_eq (c ∷ cs) (codes "KEEP") then good (Some word.Keep)
    else (if bytes_eq (c ∷ cs) (codes "PASS") then good (Some word.Pass)
    else (if bytes_eq (c ∷ cs) (codes "CATLG") then good (Some word.Catlg)
    else (if bytes_eq (c ∷ cs) (codes "UNCATLG") then good (Some word.Uncatlg)
    else bad None (P BadValue)))))

-- after an ABEND nothing is passed
abbrev pub conditional_of : List ℕ → Read (Option ConditionalWord)
conditional_of [] = good None
conditional_of (c ∷ cs) =
    if bytes_eq (c ∷ cs) (codes "DELETE") then good (Some conditional.Delete)
    else (if bytes_eq (c ∷ cs) (codes "KEEP") then good (Some conditional.Keep)
    else (if bytes_eq (c ∷ cs) (codes "CATLG") then good (Some conditional.Catlg)
    else (if bytes_eq (c ∷ cs) (codes "UNCATLG") then good (Some conditional.Uncatlg)
    else bad None (P BadValue))))

-- a place that is not there is empty
abbrev pub or_empty : Option (List ℕ) → List ℕ
or_empty None = []
or_empty (Some text) = text

abbrev pub place : List (List ℕ) → ℕ → List ℕ
place places k = or_empty (slice_get places k)

abbrev pub disposition_of_places : List (List ℕ) → Read Disposition
disposition_of_places places = record {
  value = record {
    status = (status_of (place places 0)).value;
    normal = (word_of (place places 1)).value;
    conditional = (conditional_of (place places 2)).value;
  };
  faults = (status_of (place places 0)).faults ++ ((word_of (place places 1)).faults ++ ((conditional_of (place places 2)).faults
      ++ when (nat_lt 3 (length places)) (P BadValue)));
}

abbrev pub disposition : List ℕ → Read Disposition
disposition text = disposition_of_places (subparameters_of text)
