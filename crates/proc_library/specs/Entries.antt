-- The procedures of the library as they are kept: each with what its cards are.
use Rattle.std.specs.Prelude.{◌≡◌, List}
use Rattle.std.specs.List.{All}
use Rattle.card_core.specs.Deck.{statements_of}
use Rattle.proc_library.specs.declared.library.Entry.{Entry}

abbrev pub AreRead : List Entry → Type 0
AreRead entries = All (λ e. e.reading ≡ statements_of e.procedure.lines) entries
