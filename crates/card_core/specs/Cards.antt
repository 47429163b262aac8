-- What a card is by its columns, which count from 1.
use Rattle.std.specs.Prelude.{ℕ, ◌+◌, ◌-◌, Bool, not, ◌&&◌, ◌==◌, nat_le, nat_lt, nat_eq, List, [], ◌∷◌, ◌++◌, length, take, drop, replicate, codes, Option, Some, None, if◌then◌else◌}
use Rattle.std.specs.List.{list_any, list_all, starts_with}
use Rattle.card_core.specs.declared.card.Kind.{Kind}
use Rattle.card_core.specs.declared.card.Kind.TheVariants.{Comment, Delimiter, Null, Jcl, Data}
use Rattle.card_core.specs.declared.fault.CardFault.{CardFault}
use Rattle.card_core.specs.declared.fault.CardFault.TheVariants.{LineTooLong, BadByte}

abbrev pub is_blank : ℕ → Bool
is_blank c = c == 32

-- bytes 20 to 7E, hexadecimal
abbrev pub is_printable : ℕ → Bool
is_printable c = nat_le 32 c && nat_le c 126

abbrev pub line_fault : List ℕ → Option CardFault
line_fault line =
    if nat_lt 80 (length line) then Some LineTooLong
    else (if list_any (λ c. not (is_printable c)) line then Some BadByte
    else None)

abbrev pub first_of : Option CardFault → Option CardFault → Option CardFault
first_of (Some fault) other = Some fault
first_of None other = other

-- line by line, over all lines of the deck
abbrev pub first_line_fault : List (List ℕ) → Option CardFault
first_line_fault [] = None
first_line_fault (line ∷ lines) = first_of (line_fault line) (first_line_fault lines)

-- a line filled with blanks to 80 columns
abbrev pub filled : List ℕ → List ℕ
filled line = line ++ replicate (80 - length line) 32

-- the columns from the first to the last
abbrev pub columns : ℕ → ℕ → List ℕ → List ℕ
columns first last card = take (last + 1 - first) (drop (first - 1) card)

abbrev pub are_blank : List ℕ → Bool
are_blank text = list_all is_blank text

abbrev pub is_jcl : List ℕ → Bool
is_jcl card = starts_with nat_eq card (codes "//")

abbrev pub is_delimiter : List ℕ → Bool
is_delimiter card = starts_with nat_eq card (codes "/*")

abbrev pub is_null : List ℕ → Bool
is_null card = is_jcl card && are_blank (columns 3 71 card)

abbrev pub kind_of : List ℕ → Kind
kind_of card =
    if starts_with nat_eq card (codes "//*") then Comment
    else (if is_delimiter card then Delimiter
    else (if is_null card then Null
    else (if is_jcl card then Jcl
    else Data)))

-- a card that may continue another: column 3 is blank, and it is not the null statement
abbrev pub may_continue : List ℕ → Bool
may_continue card = is_jcl card && are_blank (columns 3 3 card) && not (is_null card)

-- column 72 says that a comment goes on
abbrev pub is_marked : List ℕ → Bool
is_marked card = not (are_blank (columns 72 72 card))
