use Rattle.std.proofs.Common.{All, take}
use Rattle.mvt_check.specs.Cards.{HasAside}
use Rattle.mvt_check.proofs.session.push_in_order.Given as goal

abbrev pub invariant-loop-aside : goal.invariant-loop-aside
invariant-loop-aside l = All (HasAside l.text.items) (take l.aside-index l.asides)
