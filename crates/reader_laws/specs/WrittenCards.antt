-- How a statement is written on cards, column by column. (GC28-6704, "Fields in control statements", "Continuing control statements",
-- "Data in the input stream")
use Rattle.std.specs.Prelude.{◌≡◌, ℕ, ◌-◌, ◌≤◌, Bool, true, false, not, ◌&&◌, ◌||◌, ◌==◌, nat_le, nat_eq, List, [], ◌∷◌, ◌++◌, map, length, replicate, codes, Option, Some, None, All, if◌then◌else◌}
use Rattle.std.specs.List.{flat_map, list_all, starts_with}
use Rattle.std.specs.Str.{bytes_eq}
use Rattle.card_core.specs.declared.statement.Statement.{Statement}

abbrev pub blanks : ℕ → List ℕ
blanks n = replicate n 32

-- a card: // in columns 1 and 2, these fields from column 3 on, this in column 72, and these from column 73 on
abbrev pub card_with : List ℕ → ℕ → List ℕ → List ℕ
card_with fields mark identification = codes "//" ++ (fields ++ (blanks (69 - length fields) ++ (mark ∷ identification)))

-- what one card has of an operand: so many blanks, its text, a comment behind it, column 72, and the columns from 73 on
pub record Part : Type 0 where
  pub blanks_before : ℕ
  pub text : List ℕ
  pub comment : List ℕ
  pub mark : ℕ
  pub identification : List ℕ

abbrev pub fields_of_part : Part → List ℕ
fields_of_part part = blanks part.blanks_before ++ (part.text ++ part.comment)

-- a card that continues a statement has column 3 blank
abbrev pub continuation : Part → List ℕ
continuation part = card_with (32 ∷ fields_of_part part) part.mark part.identification

-- a card that continues a comment, by what it has behind column 3
pub record CommentCard : Type 0 where
  pub text : List ℕ
  pub mark : ℕ
  pub identification : List ℕ

abbrev pub comment_card : CommentCard → List ℕ
comment_card card = card_with (32 ∷ card.text) card.mark card.identification

-- a statement as it is written: its operand in parts, a card each, and its data cards where it has any
pub record Written : Type 0 where
  pub name : List ℕ
  pub blanks_before : ℕ
  pub operation : List ℕ
  pub first : Part
  pub more : List Part
  pub comment : Option CommentCard
  pub cards : Option (List (List ℕ))

abbrev pub first_fields : Written → List ℕ
first_fields w = w.name ++ (blanks w.blanks_before ++ (w.operation ++ fields_of_part w.first))

abbrev pub first_card : Written → List ℕ
first_card w = card_with (first_fields w) w.first.mark w.first.identification

abbrev pub comment_lines : Option CommentCard → List (List ℕ)
comment_lines None = []
comment_lines (Some card) = comment_card card ∷ []

-- data end at a delimiter
abbrev pub data_lines : Option (List (List ℕ)) → List (List ℕ)
data_lines None = []
data_lines (Some cards) = cards ++ codes "/*" ∷ []

abbrev pub lines_of : Written → List (List ℕ)
lines_of w = first_card w ∷ (map continuation w.more ++ (comment_lines w.comment ++ data_lines w.cards))

abbrev pub lines_of_all : List Written → List (List ℕ)
lines_of_all deck = flat_map lines_of deck

-- a line filled with blanks to 80 columns
abbrev pub on_card : List ℕ → List ℕ
on_card line = line ++ blanks (80 - length line)

abbrev pub on_cards : Option (List (List ℕ)) → Option (List (List ℕ))
on_cards None = None
on_cards (Some cards) = Some (map on_card cards)

-- the text of an operand, over its cards
abbrev pub operand_of : Part → List Part → List ℕ
operand_of part [] = part.text
operand_of part (next ∷ parts) = part.text ++ operand_of next parts

-- the statement that is written
abbrev pub statement_of : Written → Statement
statement_of w = record { name = w.name; operation = w.operation; operand = operand_of w.first w.more; cards = on_cards w.cards }

abbrev pub is_blank : ℕ → Bool
is_blank c = c == 32

abbrev pub has_no_blank : List ℕ → Bool
has_no_blank text = list_all (λ c. not (is_blank c)) text

-- no blank stands outside apostrophes, and they are closed
abbrev pub is_whole : Bool → List ℕ → Bool
is_whole within [] = not within
is_whole within (c ∷ cs) = not (is_blank c && not within) && is_whole (if c == 39 then not within else within) cs

abbrev pub begins_with : ℕ → List ℕ → Bool
begins_with c [] = false
begins_with c (d ∷ text) = c == d

-- nothing, or something behind a blank
abbrev pub is_apart : List ℕ → Bool
is_apart [] = true
is_apart (c ∷ text) = is_blank c

abbrev pub is_empty : List ℕ → Bool
is_empty [] = true
is_empty (c ∷ cs) = false

abbrev pub ends_in_comma : List ℕ → Bool
ends_in_comma [] = false
ends_in_comma (c ∷ []) = c == 44
ends_in_comma (c ∷ d ∷ text) = ends_in_comma (d ∷ text)

-- all of it is printable, bytes 20 to 7E (hexadecimal), in at most 80 columns
pub record IsLine (line : List ℕ) : Type 0 where
  pub fits : length line ≤ 80
  pub printable : list_all (λ c. nat_le 32 c && nat_le c 126) line ≡ true

-- the columns 3 to 71 are enough for these fields
pub record IsCard (fields : List ℕ) (mark : ℕ) (identification : List ℕ) : Type 0 where
  pub fits : length fields ≤ 69
  pub line : IsLine (card_with fields mark identification)

pub record IsPart (part : Part) : Type 0 where
  pub whole : is_whole false part.text ≡ true
  pub apart : is_apart part.comment ≡ true

-- a part on a card of its own begins in columns 4 to 16
pub record IsContinuation (part : Part) : Type 0 where
  pub text : IsPart part
  pub resumes : part.blanks_before ≤ 12
  pub something : is_empty part.text ≡ false
  pub columns : IsCard (32 ∷ fields_of_part part) part.mark part.identification

-- each part but the last ends with a comma
abbrev pub is_chain : Part → List Part → Bool
is_chain part [] = not (ends_in_comma part.text)
is_chain part (next ∷ parts) = ends_in_comma part.text && is_chain next parts

abbrev pub last_part : Part → List Part → Part
last_part part [] = part
last_part part (next ∷ parts) = last_part next parts

pub record IsCommentCard (card : CommentCard) : Type 0 where
  pub something : list_all is_blank card.text ≡ false
  pub columns : IsCard (32 ∷ card.text) card.mark card.identification

-- a comment goes on where column 72 says so
abbrev pub GoesOn : ℕ → Option CommentCard → Type 0
GoesOn mark None = is_blank mark ≡ true
GoesOn mark (Some card) = (is_blank mark ≡ false) × IsCommentCard card

-- behind PEND all is comment; behind no operand there is none
abbrev pub is_bare : List ℕ → Part → List Part → Bool
is_bare operation first more =
    if bytes_eq operation (codes "PEND") then is_empty (operand_of first more)
    else not (is_empty first.text) || is_empty first.comment

abbrev pub has_word : List ℕ → List ℕ → Bool
has_word operand word = bytes_eq operand word || starts_with nat_eq operand (word ++ codes ",")

-- DD * and DD DATA
abbrev pub takes_data : List ℕ → List ℕ → Bool
takes_data operation operand = bytes_eq operation (codes "DD") && (has_word operand (codes "*") || has_word operand (codes "DATA"))

abbrev pub ends_data : List ℕ → Bool
ends_data line = starts_with nat_eq (on_card line) (codes "/*")

abbrev pub begins_statement : List ℕ → Bool
begins_statement line = starts_with nat_eq (on_card line) (codes "//")

-- data of DATA may look as statements do
abbrev pub is_data_line : List ℕ → List ℕ → Bool
is_data_line operand line = not (ends_data line) && (not (has_word operand (codes "*")) || not (begins_statement line))

abbrev pub is_data : List ℕ → List ℕ → Option (List (List ℕ)) → Bool
is_data operation operand None = not (takes_data operation operand)
is_data operation operand (Some cards) = takes_data operation operand && list_all (is_data_line operand) cards

abbrev pub AreLines : Option (List (List ℕ)) → Type 0
AreLines None = Unit {0}
AreLines (Some cards) = All IsLine cards

pub record IsWritten (w : Written) : Type 0 where
  pub name : has_no_blank w.name ≡ true
  -- //* would be a comment
  pub no_comment : begins_with 42 w.name ≡ false
  pub apart : 1 ≤ w.blanks_before
  pub operation : has_no_blank w.operation ≡ true
  pub something : is_empty w.operation ≡ false
  pub operand_apart : is_apart (fields_of_part w.first) ≡ true
  pub card : IsCard (first_fields w) w.first.mark w.first.identification
  pub first : IsPart w.first
  pub bare : is_bare w.operation w.first w.more ≡ true
  pub more : All IsContinuation w.more
  pub chain : is_chain w.first w.more ≡ true
  pub goes_on : GoesOn (last_part w.first w.more).mark w.comment
  pub in_stream : is_data w.operation (operand_of w.first w.more) w.cards ≡ true
  pub lines : AreLines w.cards

abbrev pub has_cards : Option (List (List ℕ)) → Bool
has_cards None = false
has_cards (Some []) = false
has_cards (Some (card ∷ cards)) = true

abbrev pub is_exec : List ℕ → Bool
is_exec operation = bytes_eq operation (codes "EXEC")

-- data cards stand behind the first EXEC statement
abbrev pub is_in_order : Bool → List Written → Bool
is_in_order called [] = true
is_in_order called (w ∷ deck) = (called || not (has_cards w.cards)) && is_in_order (called || is_exec w.operation) deck
