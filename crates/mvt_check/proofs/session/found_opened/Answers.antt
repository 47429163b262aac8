use Rattle.std.proofs.Common.{◌∙◌, ◌||◌, ap, subst}
use Rattle.std.specs.Prelude.{is_some}
use Rattle.config_core.specs.Configs.{unit_names}
use Rattle.mvt_check.specs.Checking.{TellsFault, some_refused}
use Rattle.mvt_check.proofs.session.found_opened.Goals as goal

pub returns : goal.returns
returns c =
    let fixed = c.args.opened.now.fixed in
    let statements = c.args.statements.now in
    let own = c.in_ok-found.ensures in
    record {
      opened = c.args.opened.now;
      is = c.requires;
      told = c.in_ok-found.found.text.items;
      fault = subst (λ f. TellsFault c.args.above f c.in_ok-found.found.text.items) c.later_fault.ensures own.text;
      text = c.in_ok-check_opened.ensures.text;
      refused = c.in_ok-check_opened.ensures.refused
          ∙ ap (λ b. b || some_refused (unit_names fixed.units) fixed.library statements) (own.refused ∙ ap is_some c.later_fault.ensures);
      answers = c.in_ok-answers.answers;
      answered = c.in_ok-answers.ensures;
      risk = c.in_ok-check_opened.ensures.risk;
    }
