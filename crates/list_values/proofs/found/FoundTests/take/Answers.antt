use Rattle.std.proofs.Common.{sym, ◌∙◌}
use Rattle.list_values.proofs.PlaceByPlace.{refuses_test, takes_test}
use Rattle.list_values.proofs.found.FoundTests.take.Goals as goal

pub returns-in-Ok : goal.returns-in-Ok
returns-in-Ok c = λ r left all read before.
    takes_test c.args.self.now c.keep.new.self c.in-Ok.test r left all (sym c.in-Ok.is ∙ read)
    (record { tests = c.keep.ensures.tests; ninth = c.keep.ensures.ninth }) c.keep.ensures.fault before

pub returns-in-Err : goal.returns-in-Err
returns-in-Err c = λ r left all read before.
    refuses_test c.args.self.now c.keep-in-Err.new.self c.default.result c.in-Err.fault r left all (sym c.in-Err.is ∙ read)
    (record { tests = c.keep-in-Err.ensures.tests; ninth = c.keep-in-Err.ensures.ninth }) (c.keep-in-Err.ensures.fault ∙ c.earlier-self.ensures) before
