-- Statements that are written as cards read back.
use Rattle.std.specs.Prelude.{◌≡◌, ◌≤◌, false, true, List, [], ◌∷◌, ◌++◌, ℕ, map, length, codes, Ok, All}
use Rattle.card_core.specs.Deck.{statements_of}
use Rattle.reader_laws.specs.WrittenCards.{IsLine, IsWritten, Written, has_cards, is_in_order, lines_of, lines_of_all, on_card, statement_of}

abbrev pub StatementReadsBack : Type 0
StatementReadsBack = (w : Written) → IsWritten w → has_cards w.cards ≡ false → statements_of (lines_of w) ≡ Ok (statement_of w ∷ [])

abbrev pub DeckReadsBack : Type 0
DeckReadsBack = (deck : List Written) → All IsWritten deck → is_in_order false deck ≡ true → statements_of (lines_of_all deck) ≡ Ok (map statement_of deck)

-- lines behind a null statement have to be lines, and are not read
abbrev pub NullStatementEnds : Type 0
NullStatementEnds = (deck : List Written) (others : List (List ℕ)) → All IsWritten deck → is_in_order false deck ≡ true → All IsLine others →
    statements_of (lines_of_all deck ++ (codes "//" ∷ others)) ≡ Ok (map statement_of deck)

abbrev pub ShortLinesAreFilled : Type 0
ShortLinesAreFilled = (lines : List (List ℕ)) → All (λ line. length line ≤ 80) lines → statements_of (map on_card lines) ≡ statements_of lines
