use Rattle.std.proofs.Common.{◌≡◌, drop}
use Rattle.deck_places.specs.Stands.{exec_behind, exec_of}
use Rattle.deck_places.proofs.stands.exec_of.Given as goal

abbrev pub invariant-loop-step : goal.invariant-loop-step
invariant-loop-step l = exec_of l.fn.steps l.fn.own ≡ exec_behind l.call (drop l.step-index l.more) l.rest
