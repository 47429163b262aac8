-- PARM: at most 100 characters, without its own parentheses and without apostrophes, a doubled one being one. (GC28-6704, PARM parameter)
use Rattle.std.specs.Prelude.{ℕ, Bool, true, false, ◌+◌, ◌==◌, nat_lt, List, [], ◌∷◌, if◌then◌else◌}
use Rattle.jcl_plan.specs.declared.fault.Cause.{Cause}
use Rattle.jcl_plan.specs.declared.fault.Cause.TheVariants.{P}
use Rattle.jcl_plan.specs.declared.fault.StatementFault.TheVariants.{BadValue}
use Rattle.operand_core.specs.Faults.{when}
use Rattle.operand_core.specs.Subparameters.{inside, is_wrapped}

-- within apostrophes or not; one within may have been the first of two
abbrev pub characters_from : Bool → Bool → List ℕ → ℕ
characters_from within first [] = 0
characters_from false first (c ∷ cs) = if c == 39 then characters_from true false cs else characters_from false false cs + 1
characters_from true false (c ∷ cs) = if c == 39 then characters_from true true cs else characters_from true false cs + 1
characters_from true true (c ∷ cs) = if c == 39 then characters_from true false cs + 1 else characters_from false false cs + 1

abbrev pub characters_of : List ℕ → ℕ
characters_of text = characters_from false false (if is_wrapped text then inside text else text)

abbrev pub parm_faults : List ℕ → List Cause
parm_faults text = when (nat_lt 100 (characters_of text)) (P BadValue)
