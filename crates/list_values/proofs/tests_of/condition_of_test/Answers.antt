use Rattle.std.proofs.Common.{[], ◌∷◌}
use Rattle.list_values.proofs.tests_of.condition_of_test.Goals as goal

pub returns : goal.returns
returns c =
    let places = c.args.text.now ∷ [] in
    c.condition.ensures c.args.steps places (c.take.ensures [] places (c.new-found.ensures c.args.steps places))
