use Rattle.std.proofs.Common.{◌<◌, ℕ, List, arith, length, subst}
use Rattle.std.specs.Prelude.{All}
use Rattle.std.proofs.lemmas.List.{take_all}
use Rattle.std.proofs.lemmas.List.Elements.{All-more}
use Rattle.jcl_plan.specs.declared.plan.Test.{Test}
use Rattle.packed_core.specs.Classes.{LooksAlike}
use Rattle.packed_core.proofs.masks.look_alike.Goals as goal

pub loop-test-preserved : goal.loop-test-preserved
loop-test-preserved c =
    let tests : List Test = c.args.tests.now in
    let i : ℕ = c.loop-test.test-index in
    let within : i < length tests = omega (arith, c.loop-test-test.true) in
    All-more (LooksAlike c.args.n) tests i c.test-item.result within c.loop-test.invariant
    (subst (LooksAlike c.args.n) c.test-item.is (c.looks_alike.ensures c.if-not-looks_alike.false))

pub returns : goal.returns
returns c e =
    let tests : List Test = c.args.tests.now in
    subst (All (LooksAlike c.args.n)) (take_all c.loop-test.test-index tests (omega (arith, c.loop-test-test.false))) c.loop-test.invariant
