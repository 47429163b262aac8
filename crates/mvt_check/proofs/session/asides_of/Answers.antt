use Rattle.std.proofs.Common.{◌≡◌, IfOk, ap, ◌∙◌, subst, sym}
use Rattle.deck_places.specs.Stands.{Stood, stood_in, stood_with}
use Rattle.mvt_check.specs.Cards.{KnowsOrigins, TellsAnswer, TellsChecked}
use Rattle.mvt_check.proofs.session.asides_of.Goals as goal

pub returns-in-Taken : goal.returns-in-Taken
returns-in-Taken c =
    let f = c.args.found in
    let answers = c.args.known.answers.now in
    let known : stood_in f.library.now f.lines.now ≡ stood_with f.lines.now c.as_slice.result.now =
    subst (KnowsOrigins f.library.now f.lines.now) c.in-Taken.is c.requires ∙ ap (stood_with f.lines.now) (sym c.as_slice.ensures.value) in
    subst (λ checked. IfOk c.taken_asides.result (λ text. TellsChecked f.first (stood_in f.library.now f.lines.now) checked answers c.args.deck text.items))
    (sym c.in-Taken.is)
    (subst (λ (s : Stood). IfOk c.taken_asides.result (λ text. TellsAnswer f.first s c.in-Taken.plan answers c.args.deck text.items)) (sym known)
    c.taken_asides.ensures)
