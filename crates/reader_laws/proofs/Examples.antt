-- A statement as it is written, which meets what the laws ask for: over two cards, with comments, one on a card of its own, and data.
use Rattle.std.proofs.Common.{◌≡◌, ℕ, List, [], ◌∷◌, Some, arith, refl}
use Rattle.std.specs.Prelude.{codes, map}
use Rattle.std.proofs.lemmas.List.Elements.{All-cons, All-nil}
use Rattle.reader_laws.specs.WrittenCards.{CommentCard, IsContinuation, IsLine, IsWritten, Part, Written, lines_of, on_card}

abbrev first : Part
first = record { blanks_before = 1; text = codes "*,"; comment = codes " IN STREAM"; mark = 88; identification = codes "00000010" }

abbrev second : Part
second = record { blanks_before = 12; text = codes "DCB='A B'"; comment = codes " FIXED"; mark = 42; identification = [] }

abbrev comment : CommentCard
comment = record { text = codes " AND NOTHING ELSE"; mark = 32; identification = [] }

abbrev cards : List (List ℕ)
cards = codes "HELLO" ∷ codes " // IS NO STATEMENT HERE" ∷ []

abbrev example : Written
example = record { name = codes "IN"; blanks_before = 3; operation = codes "DD"; first = first; more = second ∷ []; comment = Some comment; cards = Some cards }

-- what a user writes, with the blanks at the ends of lines
written : map on_card (lines_of example) ≡ map on_card
    (codes "//IN   DD *, IN STREAM                                                 X00000010"
    ∷ codes "//             DCB='A B' FIXED                                         *"
    ∷ codes "//  AND NOTHING ELSE"
    ∷ codes "HELLO"
    ∷ codes " // IS NO STATEMENT HERE"
    ∷ codes "/*"
    ∷ [])
written = refl

it_is_written : IsWritten example
it_is_written = record {
  name = refl;
  no_comment = refl;
  apart = omega arith;
  operation = refl;
  something = refl;
  operand_apart = refl;
  card = record { fits = omega arith; line = record { fits = omega arith; printable = refl } };
  first = record { whole = refl; apart = refl };
  bare = refl;
  more = All-cons IsContinuation second [] (record {
    text = record { whole = refl; apart = refl };
    resumes = omega arith;
    something = refl;
    columns = record { fits = omega arith; line = record { fits = omega arith; printable = refl } };
  }) (All-nil IsContinuation);
  chain = refl;
  goes_on = (refl, record { something = refl; columns = record { fits = omega arith; line = record { fits = omega arith; printable = refl } } });
  in_stream = refl;
  lines = All-cons IsLine (codes "HELLO") (codes " // IS NO STATEMENT HERE" ∷ []) (record { fits = omega arith; printable = refl })
      (All-cons IsLine (codes " // IS NO STATEMENT HERE") [] (record { fits = omega arith; printable = refl }) (All-nil IsLine));
}
