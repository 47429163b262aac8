use Rattle.std.proofs.Common.{ℕ, List, ◌∷◌, subst}
use Rattle.list_values.specs.Found.{Continues}
use Rattle.list_values.proofs.tests_of.condition_of_places.Goals as goal

pub loop-place-init : goal.loop-place-init
loop-place-init c = c.new-found.ensures c.args.steps c.args.places

pub loop-place-preserved : goal.loop-place-preserved
loop-place-preserved c =
    let before : Continues c.args.steps c.loop-place.found (c.in-Some.place.now ∷ c.next.new.self) c.args.places =
    subst (λ (places : List (List ℕ)). Continues c.args.steps c.loop-place.found places c.args.places) c.in-Some.ensures c.loop-place.invariant in
    c.take.ensures c.next.new.self c.args.places before
