-- The laws of cards, from their parts.
use Rattle.std.proofs.Common.{◌≡◌, ◌++◌, Bool, true, false, List, [], ◌∷◌, Option, All, Ok, map, refl, sym, ap, ◌∙◌, append-nil, arith}
use Rattle.std.specs.Prelude.{not, ◌&&◌, codes}
use Rattle.std.proofs.lemmas.List.{map-append}
use Rattle.std.proofs.lemmas.List.Elements.{All-append, All-cons, All-nil}
use Rattle.card_core.specs.declared.fault.CardFault.{CardFault}
use Rattle.card_core.specs.Cards.{filled}
use Rattle.card_core.specs.Deck.{Card, statements_behind, statements_of, unless}
use Rattle.reader_laws.specs.WrittenCards.{IsLine, IsWritten, Written, has_cards, is_in_order, lines_of, lines_of_all, statement_of}
use Rattle.reader_laws.proofs.Decks.{all_are}
use Rattle.reader_laws.proofs.Lines.{all_written_lines, no_faults}

-- lines without a fault are read as cards
read_as_cards : (lines : List Card) → All IsLine lines → statements_of lines ≡ statements_behind false 0 (map filled lines)
read_as_cards lines all = ap (λ (fault : Option CardFault). unless fault (statements_behind false 0 (map filled lines))) (no_faults lines all)

pub deck_is : (deck : List Written) → All IsWritten deck → is_in_order false deck ≡ true → statements_of (lines_of_all deck) ≡ Ok (map statement_of deck)
deck_is deck all order =
    read_as_cards (lines_of_all deck) (all_written_lines deck all)
    ∙ ap (statements_behind false 0) (sym (append-nil (map filled (lines_of_all deck))))
    ∙ all_are false deck [] all order (λ c. refl)

null_line : IsLine (codes "//")
null_line = record { fits = omega arith; printable = refl }

pub ended_is : (deck : List Written) (others : List Card) → All IsWritten deck → is_in_order false deck ≡ true → All IsLine others →
    statements_of (lines_of_all deck ++ (codes "//" ∷ others)) ≡ Ok (map statement_of deck)
ended_is deck others all order lines =
    read_as_cards (lines_of_all deck ++ (codes "//" ∷ others))
    (All-append IsLine (lines_of_all deck) (codes "//" ∷ others) (all_written_lines deck all) (All-cons IsLine (codes "//") others null_line lines))
    ∙ ap (statements_behind false 0) (map-append filled (lines_of_all deck) (codes "//" ∷ others))
    ∙ all_are false deck (filled (codes "//") ∷ map filled others) all order (λ c. refl)

alone : (b rest : Bool) → b ≡ false → (not b && true) ≡ true
alone true rest h = absurd cc
alone false rest h = refl

pub statement_is : (w : Written) → IsWritten w → has_cards w.cards ≡ false → statements_of (lines_of w) ≡ Ok (statement_of w ∷ [])
statement_is w h none =
    ap statements_of (sym (append-nil (lines_of w)))
    ∙ deck_is (w ∷ []) (All-cons IsWritten w [] h (All-nil IsWritten)) (alone (has_cards w.cards) true none)
