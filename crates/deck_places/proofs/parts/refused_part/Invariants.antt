use Rattle.std.proofs.Common.{◌≡◌, ◌<◌, ℕ}
use Rattle.jcl_deck.specs.Places.{denoted}
use Rattle.deck_places.specs.Parts.{IsRefusedWithout}
use Rattle.deck_places.proofs.parts.refused_part.Given as goal

abbrev pub invariant-loop-n : goal.invariant-loop-n
invariant-loop-n l = record {
  place : denoted l.place ≡ denoted l.initial.place;
  refused : (m : ℕ) → m < l.n → IsRefusedWithout (denoted l.initial.place) l.fn.statement l.fn.cause m;
}
