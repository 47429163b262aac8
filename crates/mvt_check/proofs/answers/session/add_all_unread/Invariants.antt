use Rattle.std.proofs.Common.{◌≡◌, ◌++◌, [], drop}
use Rattle.mvt_check.specs.Telling.{decks_from}
use Rattle.mvt_check.proofs.answers.session.add_all_unread.Given as goal

abbrev pub invariant-loop-at : goal.invariant-loop-at
invariant-loop-at l = l.fn.decks.items ++ decks_from l.fn.from (drop l.fn.from l.statements) [] ≡ l.decks.items ++ decks_from l.at (drop l.at l.statements) []
