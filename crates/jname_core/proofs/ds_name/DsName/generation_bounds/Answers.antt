use Rattle.std.proofs.Common.{subst, sym}
use Rattle.jname_core.specs.Grammar.{IsDotted}
use Rattle.jname_core.proofs.Suffixes.{dotted_above, dotted_below}
use Rattle.jname_core.proofs.ds_name.DsName.generation_bounds.Goals as goal

pub invariant_of-below : goal.invariant_of-below
invariant_of-below c =
    subst (IsDotted 44) (sym c.joined.ensures)
    (dotted_below c.as_slice-base.result.now (subst (IsDotted 44) (sym c.as_slice-base.ensures.value) c.as_slice-base.ensures.name)
    c.if-base-gt-MOST_OF_A_BASE.false)

pub invariant_of-above : goal.invariant_of-above
invariant_of-above c =
    subst (IsDotted 44) (sym c.joined-2.ensures)
    (dotted_above c.as_slice-base.result.now (subst (IsDotted 44) (sym c.as_slice-base.ensures.value) c.as_slice-base.ensures.name)
    c.if-base-gt-MOST_OF_A_BASE.false)
