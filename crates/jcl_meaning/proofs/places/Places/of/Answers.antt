use Rattle.std.proofs.Common.{◌∙◌, ap, sym}
use Rattle.jcl_meaning.specs.Resolutions.{place_of}
use Rattle.jcl_meaning.proofs.Firsts.{placed, place_is_first}
use Rattle.jcl_meaning.proofs.places.Places.of.Goals as goal

pub returns-in-Some : goal.returns-in-Some
returns-in-Some c =
    sym (ap (λ list. place_of list c.args.step c.args.dd) (sym c.self.view_is ∙ sym c.as_slice.ensures) ∙ place_is_first c.as_slice.result.now c.args.step c.args.dd ∙ ap placed (sym c.in-Some.ensures))

pub returns-in-None : goal.returns-in-None
returns-in-None c =
    sym (ap (λ list. place_of list c.args.step c.args.dd) (sym c.self.view_is ∙ sym c.as_slice.ensures) ∙ place_is_first c.as_slice.result.now c.args.step c.args.dd ∙ ap placed (sym c.in-None.ensures))
