use Rattle.std.proofs.Common.{◌≡◌, ◌∙◌}
use Rattle.std.specs.Prelude.{is_err}
use Rattle.std.proofs.lemmas.Result.{IfOk-weaker, on_ok_weaker}
use Rattle.jcl_job.specs.Jobs.{job_of}
use Rattle.mvt_check.specs.Checking.{AddsFound, is_refused_so}
use Rattle.mvt_check.proofs.Decks.{origins_so, refused_so}
use Rattle.mvt_check.proofs.session.check_lines.Goals as goal

pub tell_deck-requires : goal.tell_deck-requires
tell_deck-requires c =
    origins_so c.args.sources.now.units.now c.args.sources.now.library.now c.args.lines.now c.in_ok-checked.checked c.in_ok-checked.ensures

pub returns : goal.returns
returns c =
    let units = c.args.sources.now.units.now in
    let library = c.args.sources.now.library.now in
    let lines = c.args.lines.now in
    let checked = c.in_ok-checked.checked in
    record {
      refused = IfOk-weaker c.tell_deck.result (λ r. r ≡ is_refused_so checked) (λ r. r ≡ is_err (job_of units library lines))
          (λ r so. so ∙ refused_so units library lines checked c.in_ok-checked.ensures) c.tell_deck.ensures.refused;
      added = on_ok_weaker c.tell_deck.result
          (λ (adds : AddsFound library c.args.known.answers.now c.args.deck c.args.first lines checked c.args.text.now.items c.tell_deck.new.text.items).
          record { checked = checked; told = c.in_ok-checked.ensures; adds = adds })
          c.tell_deck.ensures.added;
    }
