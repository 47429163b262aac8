-- The library: a name is that of one procedure, the first that was given it. (GC28-6704, "Cataloged and in-stream procedures")
use Rattle.std.specs.Prelude.{ℕ, Bool, List, [], ◌∷◌, Option, Some, None, is_some, Result, if◌then◌else◌}
use Rattle.std.specs.Option.{option_map}
use Rattle.std.specs.Str.{bytes_eq}
use Rattle.card_core.specs.declared.fault.CardFault.{CardFault}
use Rattle.card_core.specs.declared.statement.Statement.{Statement}
use Rattle.card_core.specs.Deck.{statements_of}
use Rattle.proc_library.specs.declared.library.LibraryProcedure.{LibraryProcedure}

abbrev pub in_library : List LibraryProcedure → List ℕ → Option LibraryProcedure
in_library [] name = None
in_library (p ∷ library) name = if bytes_eq p.name name then Some p else in_library library name

abbrev pub has_procedure : List LibraryProcedure → List ℕ → Bool
has_procedure library name = is_some (in_library library name)

-- what the cards of the procedure of a name are: its statements, or the first fault of its cards
abbrev pub reading_in : List LibraryProcedure → List ℕ → Option (Result (List Statement) CardFault)
reading_in library name = option_map (λ p. statements_of p.lines) (in_library library name)
