use Rattle.std.proofs.Common.{◌≡◌, true, false, ℕ, List, refl, sym, ◌∙◌, subst}
use Rattle.operand_core.specs.Operands.{places_of}
use Rattle.operand_core.specs.Subparameters.{inside, is_wrapped}
use Rattle.value_core.specs.Reads.{IsRead}
use Rattle.list_values.specs.Conditions.{is_word, test_of_items}
use Rattle.list_values.proofs.PlaceByPlace.{at_test, at_word}
use Rattle.list_values.proofs.found.Found.take.Goals as goal

pub returns-in-Some : goal.returns-in-Some
returns-in-Some c = λ left all before.
    at_word c.args.steps c.args.self.now (record { tests = c.args.self.now.tests; words = c.take.new.self; has_other = c.args.self.now.has_other })
    c.args.place.now c.in-Some.word left all c.in-Some.ensures refl refl c.take.ensures.first c.take.ensures.second before

pub returns-then-is_wrapped : goal.returns-then-is_wrapped
returns-then-is_wrapped c = λ left all before.
    let none : is_word c.args.steps c.args.place.now ≡ false = c.in_default.ensures in
    let wrapped : is_wrapped c.args.place.now ≡ true = sym c.is_wrapped.ensures ∙ c.if-is_wrapped.true in
    let read : IsRead c.test_of.result (test_of_items c.args.steps (places_of (inside c.args.place.now))) =
    subst (λ (text : List ℕ). IsRead c.test_of.result (test_of_items c.args.steps (places_of text))) c.inside.ensures c.test_of.ensures in
    at_test c.args.steps c.args.self.now (record { tests = c.take-then-is_wrapped.new.self; words = c.args.self.now.words; has_other = c.args.self.now.has_other })
    c.args.place.now c.test_of.result left all none wrapped refl refl read c.take-then-is_wrapped.ensures before
