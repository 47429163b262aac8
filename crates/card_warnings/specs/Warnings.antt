-- What a card of a deck warns of. Columns count from 1. (This profile)
use Rattle.std.specs.Prelude.{ℕ, Bool, true, false, not, ◌&&◌, ◌==◌, nat_eq, List, [], ◌∷◌, codes, drop, length, take, take_while, slice_index_or, Option, None, Some, if◌then◌else◌}
use Rattle.std.specs.List.{starts_with}
use Rattle.std.specs.Str.{bytes_eq}
use Rattle.card_core.specs.declared.card.Kind.{Kind}
use Rattle.card_core.specs.declared.card.Kind.TheVariants as kind
use Rattle.card_core.specs.declared.fault.CardFault.{CardFault}
use Rattle.card_core.specs.Cards.{filled, is_blank, kind_of, line_fault}
use Rattle.card_core.specs.Fields.{behind_operation, name_of, operand_text, operation_of, without_blanks}
use Rattle.jname_core.specs.Characters.{is_first, is_name_character}
use Rattle.card_warnings.specs.declared.warning.Warning.{Warning}
use Rattle.card_warnings.specs.declared.warning.Warning.TheVariants.{Comment, Cut, JobLibrary, OneSlash, Swallowed}
use Rattle.card_warnings.specs.Keywords.{is_keyword_of}

-- what is said of a card
abbrev pub words_of : Warning → List ℕ
words_of Swallowed = codes "a ./ line is a card of this deck: a ./ END is missing before it"
words_of Cut = codes "the text is cut after column 71"
words_of Comment = codes "a blank ends the operand: what looks like a keyword after it is a comment"
words_of JobLibrary = codes "JOBLIB is dropped: programs are those of ./ PROGRAM"
words_of OneSlash = codes "with one slash it is a card of data; a statement begins with two"

-- text stands in columns 71 and 72
abbrev pub is_cut : List ℕ → Bool
is_cut card = not (slice_index_or card 70 0 == 32) && not (slice_index_or card 71 0 == 32)

-- the word in front of a comment
abbrev pub word_in : List ℕ → List ℕ
word_in comment = take (length (take_while is_name_character comment)) comment

abbrev pub behind_word : List ℕ → List ℕ
behind_word comment = drop (length (take_while is_name_character comment)) comment

-- a comment begins as a keyword of the operation does: a word, and an equals sign behind it
abbrev pub begins_keyword : List ℕ → List ℕ → Bool
begins_keyword operation comment = starts_with nat_eq (behind_word comment) (codes "=") && is_keyword_of operation (word_in comment)

-- the comment behind an operand, if that ends on the card
abbrev pub keyword_behind : List ℕ → List ℕ → Option (List ℕ) → Bool
keyword_behind operation text None = false
keyword_behind operation text (Some operand) = begins_keyword operation (without_blanks (drop (length operand) text))

abbrev pub has_keyword_in_comment : List ℕ → Bool
has_keyword_in_comment card = keyword_behind (operation_of card) (behind_operation card) (operand_text false (behind_operation card))

abbrev pub is_job_library : List ℕ → Bool
is_job_library card = bytes_eq (name_of card) (codes "JOBLIB") && bytes_eq (operation_of card) (codes "DD")

-- a slash, and a letter or `#`, `@`, `$` behind it
abbrev pub has_one_slash : List ℕ → Bool
has_one_slash card = slice_index_or card 0 0 == 47 && is_first (slice_index_or card 1 0)

-- of a statement its first of these
abbrev pub of_statement : List ℕ → Option Warning
of_statement card =
    if is_cut card then Some Cut
    else (if has_keyword_in_comment card then Some Comment
    else (if is_job_library card then Some JobLibrary
    else None))

abbrev pub of_other : List ℕ → Option Warning
of_other card = if has_one_slash card then Some OneSlash else None

abbrev pub of_kind : Kind → List ℕ → Option Warning
of_kind kind.Jcl card = of_statement card
of_kind kind.Comment card = of_other card
of_kind kind.Delimiter card = of_other card
of_kind kind.Null card = of_other card
of_kind kind.Data card = of_other card

-- a line that is no card warns of nothing
abbrev pub of_line : Option CardFault → List ℕ → Option Warning
of_line (Some fault) line = None
of_line None line = of_kind (kind_of (filled line)) (filled line)

-- what a line of a deck warns of
abbrev pub warning_of : List ℕ → Option Warning
warning_of line = if starts_with nat_eq line (codes "./ ") then Some Swallowed else of_line (line_fault line) line
