use Rattle.std.proofs.Common.{ap, ◌∙◌}
use Rattle.place_core.specs.Volumes.{aside_at, back_on, changed_on}
use Rattle.place_core.proofs.Undoing.{aside_undone}
use Rattle.place_core.proofs.place.place_among.Goals as goal

pub returns-in-Err-clause-err : goal.returns-in-Err-clause-err
returns-in-Err-clause-err c = (
  c.give_back.ensures
      ∙ ap (changed_on (back_on c.args.at) c.in-Some.serial)
      (c.in_ok-serial.ensures.ok ∙ ap (λ o. aside_at o c.args.at c.args.tracks c.args.volumes.now) c.in-Some.is)
      ∙ aside_undone c.args.volumes.now c.args.at c.args.tracks c.in-Some.serial c.requires,
  c.in-Err.ensures.err,
)
