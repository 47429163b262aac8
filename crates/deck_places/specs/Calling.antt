-- A called procedure as it is kept.
use Rattle.std.specs.Prelude.{◌≤◌, ◌+◌, length}
use Rattle.deck_places.specs.Called.{Called, Found}
use Rattle.deck_places.specs.Cards.{walk_of}
use Rattle.deck_places.specs.declared.called.Calling.{Calling}
use Rattle.deck_places.specs.declared.called.Found as code

abbrev pub denoted : code.Found → Found
denoted found = record {
  body = record { symbols = found.symbols.now; statements = found.statements.now };
  proc = found.proc;
  lines = found.lines.now;
  first = found.first;
}

abbrev pub called_of : Calling → code.Found → Called
called_of calling found = record { calling = calling; found = denoted found }

-- each statement of its body begins on a card
abbrev pub StandsOnCards : Found → Type 0
StandsOnCards found = found.first + length found.body.statements ≤ length (walk_of found.lines).begun
