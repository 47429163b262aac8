use Rattle.std.proofs.Common.{ℕ, List, refl}
use Rattle.std.proofs.lemmas.Result.{err_from_is_err_and}
use Rattle.jname_core.specs.declared.key.Key.{Key}
use Rattle.jname_core.specs.declared.key.Key.TheVariants.{Relative}
use Rattle.jname_core.specs.declared.key.Sign.{Sign}
use Rattle.value_core.specs.SetNames.{amount, base, relative}
use Rattle.value_core.proofs.Both.{both_is, err_is, ok_is, pair_of}
use Rattle.value_core.proofs.set_name.relative.Goals as goal

pub returns-in_err-base : goal.returns-in_err-base
returns-in_err-base c =
    let text = c.args.text.now in
    let within = c.args.within.now in
    err_is (pair_of (base text) (amount within)) (relative text within)
    (both_is (base text) (amount within) c.base.ensures c.amount.ensures c.both.ensures)
    c.in_err-base.was refl (err_from_is_err_and c.from_residual.result c.from_residual.ensures.1)

pub returns : goal.returns
returns c =
    let text = c.args.text.now in
    let within = c.args.within.now in
    let made : List ℕ × (Sign × ℕ) → Key = λ parts. Relative parts.0 parts.1.0 parts.1.1 in
    ok_is made (pair_of (base text) (amount within)) (relative text within)
    (both_is (base text) (amount within) c.base.ensures c.amount.ensures c.both.ensures)
    c.in_ok-base.was refl refl
