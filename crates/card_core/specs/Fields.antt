-- The fields of a statement, and an operand over its cards.
use Rattle.std.specs.Prelude.{ℕ, ◌+◌, Bool, false, not, ◌&&◌, ◌||◌, ◌==◌, nat_lt, nat_eq, List, [], ◌∷◌, ◌++◌, length, take_while, drop, codes, Option, Some, None, Result, Ok, Err, if◌then◌else◌}
use Rattle.std.specs.List.{starts_with}
use Rattle.std.specs.Str.{bytes_eq}
use Rattle.card_core.specs.declared.fault.CardFault.{CardFault}
use Rattle.card_core.specs.declared.fault.CardFault.TheVariants.{NotContinued, ResumedOutside, OpenApostrophe, NoOperation}
use Rattle.card_core.specs.declared.data.Opens.{Opens}
use Rattle.card_core.specs.declared.data.Opens.TheVariants.{Nothing, ToStatement, ToDelimiter}
use Rattle.card_core.specs.declared.operand.Operand.{Operand}
use Rattle.card_core.specs.Cards.{is_blank, columns, may_continue}

-- the characters at the front that pass, and what is behind them
abbrev pub front : (ℕ → Bool) → List ℕ → List ℕ
front kind text = take_while kind text

abbrev pub behind : (ℕ → Bool) → List ℕ → List ℕ
behind kind text = drop (length (take_while kind text)) text

abbrev pub is_not_blank : ℕ → Bool
is_not_blank c = not (is_blank c)

abbrev pub without_blanks : List ℕ → List ℕ
without_blanks text = behind is_blank text

-- an apostrophe opens or closes
abbrev pub quoted_after : Bool → ℕ → Bool
quoted_after quoted c = if c == 39 then not quoted else quoted

-- neither a blank nor an apostrophe
abbrev pub is_unquoted : ℕ → Bool
is_unquoted c = not (is_blank c) && not (c == 39)

abbrev pub begins_quoted : List ℕ → Bool
begins_quoted [] = false
begins_quoted (c ∷ cs) = c == 39

abbrev pub begun_with : ℕ → Option (List ℕ) → Option (List ℕ)
begun_with c None = None
begun_with c (Some text) = Some (c ∷ text)

-- an operand's text on one card: to a blank outside apostrophes, or to the end, where apostrophes must be closed
abbrev pub operand_text : Bool → List ℕ → Option (List ℕ)
operand_text quoted [] = if quoted then None else Some []
operand_text quoted (c ∷ cs) =
    if is_blank c && not quoted then Some [] else begun_with c (operand_text (quoted_after quoted c) cs)

abbrev pub ends_with_comma : List ℕ → Bool
ends_with_comma [] = false
ends_with_comma (c ∷ []) = c == 44
ends_with_comma (c ∷ d ∷ cs) = ends_with_comma (d ∷ cs)

abbrev pub one_card_more : Result Operand CardFault → Result Operand CardFault
one_card_more (Ok operand) = Ok (record { text = operand.text; cards = operand.cards + 1; last = operand.last })
one_card_more (Err fault) = Err fault

-- what an operand is with this text on this card: it goes on where that ends with a comma
abbrev pub goes_on : List ℕ → Option (List ℕ) → List ℕ → (List ℕ → Result Operand CardFault) → Result Operand CardFault
goes_on before None card more = Err OpenApostrophe
goes_on before (Some text) card more =
    if ends_with_comma text then more (before ++ text)
    else Ok (record { text = before ++ text; cards = 0; last = card })

-- where a continued operand resumes: columns 4 to 16, so at most twelve blanks stand before it
abbrev pub resumes_outside : List ℕ → Bool
resumes_outside card = nat_lt 12 (length (front is_blank (columns 4 71 card)))

-- an operand that ended with a comma
abbrev pub continued : List ℕ → List (List ℕ) → Result Operand CardFault
continued before [] = Err NotContinued
continued before (card ∷ cards) =
    if may_continue card
    then (if resumes_outside card then Err ResumedOutside
    else one_card_more (goes_on before (operand_text false (without_blanks (columns 4 71 card))) card (λ text. continued text cards)))
    else Err NotContinued

-- the fields of a statement's first card, in columns 3 to 71
abbrev pub name_of : List ℕ → List ℕ
name_of card = front is_not_blank (columns 3 71 card)

abbrev pub behind_name : List ℕ → List ℕ
behind_name card = without_blanks (behind is_not_blank (columns 3 71 card))

abbrev pub operation_of : List ℕ → List ℕ
operation_of card = front is_not_blank (behind_name card)

abbrev pub behind_operation : List ℕ → List ℕ
behind_operation card = without_blanks (behind is_not_blank (behind_name card))

-- behind PEND all is comment
abbrev pub operand_of : List ℕ → List (List ℕ) → Result Operand CardFault
operand_of card cards =
    if bytes_eq (operation_of card) (codes "PEND") then Ok (record { text = []; cards = 0; last = card })
    else goes_on [] (operand_text false (behind_operation card)) card (λ text. continued text cards)

abbrev pub operand_behind : List ℕ → List (List ℕ) → Result Operand CardFault
operand_behind card cards = if length (operation_of card) == 0 then Err NoOperation else operand_of card cards

-- the word alone, or before a comma
abbrev pub begins_with_word : List ℕ → List ℕ → Bool
begins_with_word operand word = bytes_eq operand word || starts_with nat_eq operand (word ++ codes ",")

abbrev pub opens : List ℕ → List ℕ → Opens
opens operation operand =
    if bytes_eq operation (codes "DD")
    then (if begins_with_word operand (codes "*") then ToStatement
    else (if begins_with_word operand (codes "DATA") then ToDelimiter else Nothing))
    else Nothing
