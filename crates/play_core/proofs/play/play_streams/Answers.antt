use Rattle.std.proofs.Common.{ap, inl, ◌∙◌}
use Rattle.session_text.specs.Statements.{statements_of}
use Rattle.play_core.specs.Texts.{line_behind}
use Rattle.play_core.proofs.Finding.{plays_on}
use Rattle.play_core.proofs.play.play_streams.Goals as goal

pub returns : goal.returns
returns g c =
    let input = c.in-Ok.input in
    record {
      plays = inl (plays_on c.args.options _ _ _ _ input.text.items input.ending c.in-Ok.ensures.ok c.in-Ok-statements.statements
          (c.in-Ok-statements.ensures ∙ ap (statements_of input.ending) c.as_slice.ensures.value) c.in-Ok-line_behind.line
          (c.in-Ok-line_behind.ensures.line ∙ ap line_behind c.as_slice-2.ensures.value) c.in-Ok-extend.added.given.items c.in-Ok-extend.ensures.found _
          (c.as_slice-3.ensures ∙ c.in-Ok-extend.ensures.behind) c.run-outcome.result c.run-outcome.ensures.outcome);
    }
