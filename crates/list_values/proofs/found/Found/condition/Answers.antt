use Rattle.std.proofs.Common.{◌≡◌, Some, None, sym, ◌∙◌}
use Rattle.operand_core.specs.Faults.{told}
use Rattle.value_core.proofs.Both.{refused_is, whole_is}
use Rattle.list_values.specs.Conditions.{condition_of_places}
use Rattle.list_values.proofs.PlaceByPlace.{faults_are, value_is}
use Rattle.list_values.proofs.found.Found.condition.Goals as goal

pub returns-in-None : goal.returns-in-None
returns-in-None c = λ steps places left.
    let none : told (condition_of_places steps places).faults ≡ None = sym (faults_are steps c.args.self places left) ∙ cc in
    whole_is (condition_of_places steps places) (value_is steps c.args.self places left none) none

pub returns-in-Some : goal.returns-in-Some
returns-in-Some c = λ steps places left.
    let some : told (condition_of_places steps places).faults ≡ Some c.in-Some.fault = sym (faults_are steps c.args.self places left) ∙ cc in
    refused_is (condition_of_places steps places) some
