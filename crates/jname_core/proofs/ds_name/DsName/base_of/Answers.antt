use Rattle.std.proofs.Common.{List, ℕ, drop, IsTrue, subst, sym, ◌∙◌}
use Rattle.jname_core.specs.Generations.{before_suffix, is_suffix}
use Rattle.jname_core.specs.Grammar.{IsDotted}
use Rattle.jname_core.proofs.Suffixes.{dotted_base}
use Rattle.jname_core.proofs.ds_name.DsName.base_of.Goals as goal

pub invariant_of-result : goal.invariant_of-result
invariant_of-result c =
    let text : List ℕ = c.as_slice-text.result.now in
    let whole : IsDotted 44 text = subst (IsDotted 44) (sym c.as_slice-text.ensures.value) c.as_slice-text.ensures.name in
    let suffix : IsTrue (is_suffix (drop (before_suffix text) text)) = subst (λ (s : List ℕ). IsTrue (is_suffix s)) c.in-Some.ensures.parts.1 c.in-Some.ensures.suffix in
    subst (IsDotted 44) (sym (c.new.ensures ∙ c.in-Some.ensures.parts.0)) (dotted_base 44 (before_suffix text) text whole suffix)
