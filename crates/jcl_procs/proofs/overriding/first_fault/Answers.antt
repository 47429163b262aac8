use Rattle.std.proofs.Common.{◌≡◌, ◌∙◌, Bool, List, ap, arith, false, is_none, rules, sym}
use Rattle.std.specs.Prelude.{if◌then◌else◌}
use Rattle.jcl_dds.specs.declared.dd.DdCard.{DdCard}
use Rattle.jcl_procs.specs.Overrides.{dds_at, step_at}
use Rattle.jcl_procs.specs.StepDds.{fault_of, named_fault, with_member, with_named}
use Rattle.jcl_procs.proofs.Reached.{dds_are}
use Rattle.jcl_procs.proofs.overriding.first_fault.Goals as goal

pub returns-in-Ok : goal.returns-in-Ok
returns-in-Ok c =
    let steps = c.args.steps.now in
    let dd = c.args.dd.now in
    let named : is_none c.args.dd.now.name ≡ false = first_of (search rules, cc, grind arith) in
    c.named_fault.ensures
    ∙ ap (λ (dds : List DdCard). fault_of (with_named dds dd))
    (c.as_slice-in-Ok.ensures ∙ dds_are steps c.in-Ok.n c.index-steps-n.result c.in-Ok.ensures.there)
    ∙ ap (named_fault steps dd) (sym c.in-Ok.is ∙ c.step_at.ensures.is)
    ∙ ap (λ (b : Bool). if b then fault_of (with_member (dds_at steps 0) 0 dd) else named_fault steps dd (step_at steps 0 dd.qualifier))
    (sym named)
