-- A walk over cards as it is kept.
use Rattle.std.specs.Prelude.{◌≡◌, ℕ, ◌≤◌, ◌++◌, Bool, List, map, None, Some}
use Rattle.card_core.specs.Cards.{filled}
use Rattle.deck_places.specs.Cards.{Walk, bad_line, walk_by}
use Rattle.deck_places.specs.declared.lines.Lined.{Lined}
use Rattle.deck_places.specs.declared.lines.Lined.TheVariants.{Bad, Cards}
use Rattle.deck_places.specs.declared.walk.Onward.{Onward}
use Rattle.deck_places.specs.declared.walk.Onward.TheVariants.{Ends, Goes}
use Rattle.deck_places.specs.declared.walk.Step.{Step}
use Rattle.deck_places.specs.declared.walk.Step.TheVariants.{Begins, Over, Passed, Refused}
use Rattle.deck_places.specs.declared.walk.Walk as code

abbrev pub walked : code.Walk → Walk
walked w = record { begun = w.begun.items; refused = w.refused }

-- a statement takes no more cards than there are
abbrev pub Fits : ℕ → Step → Type 0
Fits count Over = Unit {0}
Fits count Passed = Unit {0}
Fits count (Begins called used) = used ≤ count
Fits count (Refused more) = more ≤ count

-- a walk that goes on behind statements
abbrev pub behind : List ℕ → Walk → Walk
behind front walk = record { begun = front ++ walk.begun; refused = walk.refused }

-- lines are cards, or one of them is none
abbrev pub AreLined : List (List ℕ) → Lined → Type 0
AreLined lines (Cards cards) = (bad_line lines ≡ None) × (cards ≡ map filled lines)
AreLined lines (Bad n) = bad_line lines ≡ Some n

-- what is noted at a card leads on as the walk does, whatever follows
abbrev pub LeadsOn : Bool → ℕ → Step → List ℕ → List ℕ → Onward → Type 0
LeadsOn called at step old new (Goes c used) = (next : Bool → ℕ → Walk) → behind old (walk_by at step called next) ≡ behind new (next c used)
LeadsOn called at step old new (Ends refused) =
    (next : Bool → ℕ → Walk) → behind old (walk_by at step called next) ≡ record { begun = new; refused = refused }

abbrev pub GoesWithin : ℕ → Onward → Type 0
GoesWithin count (Goes called used) = used ≤ count
GoesWithin count (Ends refused) = Unit {0}
