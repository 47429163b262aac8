use Rattle.std.proofs.Common.{ℕ, Bool, not, ◌++◌, refl, ap}
use Rattle.std.proofs.lemmas.Result.{err_from_is_err_and}
use Rattle.jcl_plan.specs.declared.fault.Cause.TheVariants.{P}
use Rattle.jcl_plan.specs.declared.fault.StatementFault.TheVariants.{BadValue}
use Rattle.jcl_plan.specs.declared.plan.Space.{Space}
use Rattle.operand_core.specs.Faults.{told, when}
use Rattle.operand_core.specs.Subparameters.{subparameters_of}
use Rattle.value_core.specs.Spaces.{further, further_faults, quantities, quantity_faults, space_with}
use Rattle.value_core.proofs.Both.{both_is, err_is, ok_is, pair_of}
use Rattle.value_core.proofs.space.space_with.Goals as goal

pub returns-in_err-primary : goal.returns-in_err-primary
returns-in_err-primary c = λ name unit.
    let asked = subparameters_of c.args.text.now in
    let behind = c.args.places.now in
    err_is (pair_of (quantities name asked) (further behind)) (space_with name asked behind)
    (both_is (quantities name asked) (further behind) (c.quantities.ensures name unit) c.further.ensures c.both.ensures)
    c.in_err-primary.was (ap (λ (b : Bool). told (when (not b) (P BadValue) ++ (quantity_faults name asked ++ further_faults 2 behind))) unit.named)
    (err_from_is_err_and c.from_residual.result c.from_residual.ensures.1)

pub returns : goal.returns
returns c = λ name unit.
    let asked = subparameters_of c.args.text.now in
    let behind = c.args.places.now in
    let made : (ℕ × ℕ) × Bool → Space = λ read. record { primary = read.0.0; secondary = read.0.1; release = read.1 } in
    ok_is made (pair_of (quantities name asked) (further behind)) (space_with name asked behind)
    (both_is (quantities name asked) (further behind) (c.quantities.ensures name unit) c.further.ensures c.both.ensures)
    c.in_ok-primary.was (ap (λ (b : Bool). told (when (not b) (P BadValue) ++ (quantity_faults name asked ++ further_faults 2 behind))) unit.named)
    refl
