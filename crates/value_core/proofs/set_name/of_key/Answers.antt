use Rattle.std.proofs.Common.{refl}
use Rattle.std.proofs.lemmas.Result.{err_from_is_err_and}
use Rattle.jname_core.specs.declared.key.Key.{Key}
use Rattle.value_core.specs.declared.set.SetName.{SetName}
use Rattle.value_core.specs.declared.set.SetName.TheVariants as name
use Rattle.value_core.specs.SetNames.{key_of, of_key}
use Rattle.value_core.proofs.Both.{err_is, ok_is}
use Rattle.value_core.proofs.set_name.of_key.Goals as goal

pub returns-in_err-key : goal.returns-in_err-key
returns-in_err-key c =
    err_is (key_of c.args.text.now) (of_key c.args.text.now) c.key_of.ensures c.in_err-key.was refl
    (err_from_is_err_and c.from_residual.result c.from_residual.ensures.1)

pub returns : goal.returns
returns c =
    let made : Key → SetName = λ key. name.Of key in
    ok_is made (key_of c.args.text.now) (of_key c.args.text.now) c.key_of.ensures c.in_ok-key.was refl refl
