use Rattle.std.proofs.Common.{◌≡◌, List, ℕ, ◌++◌, subst, sym, ap, ◌∙◌}
use Rattle.jname_core.specs.Grammar.{IsDotted}
use Rattle.jname_core.proofs.Suffixes.{suffix_for, dotted_generation}
use Rattle.jname_core.proofs.ds_name.DsName.generation.Goals as goal

pub invariant_of-result : goal.invariant_of-result
invariant_of-result c =
    let base : List ℕ = c.as_slice-base.result.now in
    let dotted : IsDotted 44 base = subst (IsDotted 44) (sym c.as_slice-base.ensures.value) c.as_slice-base.ensures.name in
    let e : c.joined.result ≡ base ++ suffix_for c.args.number = c.joined.ensures ∙ ap (λ (s : List ℕ). base ++ s) c.suffix_of.ensures in
    subst (IsDotted 44) (sym e) (dotted_generation base c.args.number dotted c.if-base-gt-MOST_OF_A_BASE.false c.if-number-gt9999.false)
