use Rattle.std.proofs.Common.{◌∙◌, ap, sym}
use Rattle.jcl_meaning.specs.Resolutions.{meaning_at}
use Rattle.jcl_meaning.proofs.Firsts.{meant, meaning_is_first}
use Rattle.jcl_meaning.proofs.meanings.Meanings.at.Goals as goal

pub returns-in-Some : goal.returns-in-Some
returns-in-Some c =
    sym (ap (λ list. meaning_at list c.args.step c.args.dd) (sym c.self.view_is ∙ sym c.as_slice.ensures) ∙ meaning_is_first c.as_slice.result.now c.args.step c.args.dd ∙ ap meant (sym c.in-Some.ensures))

pub returns-in-None : goal.returns-in-None
returns-in-None c =
    sym (ap (λ list. meaning_at list c.args.step c.args.dd) (sym c.self.view_is ∙ sym c.as_slice.ensures) ∙ meaning_is_first c.as_slice.result.now c.args.step c.args.dd ∙ ap meant (sym c.in-None.ensures))
