use Rattle.std.proofs.Common.{◌≡◌, ◌+◌, drop}
use Rattle.deck_places.specs.Parts.{place_from}
use Rattle.deck_places.proofs.marks.place_on.Given as goal

abbrev pub invariant-loop-at : goal.invariant-loop-at
invariant-loop-at l =
    place_from l.fn.first l.initial.place l.initial.field (drop (l.fn.first + 1) l.fn.cards) ≡ place_from l.at l.place l.field (drop (l.at + 1) l.fn.cards)
