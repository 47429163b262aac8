-- What is told of a deck, as text. Lines of the session count from 1, cards from 0. (This profile)
use Rattle.std.specs.Prelude.{◌≡◌, ℕ, ◌+◌, ◌-◌, ◌==◌, Bool, false, not, ◌&&◌, nat_eq, nat_le, min, List, [], ◌∷◌, ◌++◌, map, replicate, take, slice_get, Option, None, Some, codes, decimal, if◌then◌else◌}
use Rattle.std.specs.List.{starts_with}
use Rattle.std.specs.Option.{option_map_or}
use Rattle.jcl_plan.specs.Texts.{cause_text}
use Rattle.jcl_plan.specs.declared.fault.Cause.{Cause}
use Rattle.check_core.specs.declared.report.Checked.{Checked}
use Rattle.check_core.specs.declared.report.Checked.TheVariants.{Refused, Taken}
use Rattle.check_core.specs.declared.report.Inside.{Inside}
use Rattle.check_core.specs.declared.report.Report.{Report}
use Rattle.check_core.specs.declared.report.Spot.{Spot}
use Rattle.check_core.specs.declared.warnings.Warned.{Warned}
use Rattle.check_core.specs.Warnings.{count_before, warnings_text}

-- what is told of a refusal begins with the line and the number
abbrev pub head : ℕ → Cause → List ℕ
head line cause = codes "line " ++ decimal line ++ codes ": " ++ cause_text cause ++ codes " "

-- the line of a card, where the deck's first one stands on this line; the line before them, where there is no card
abbrev pub line_of : ℕ → Option ℕ → ℕ
line_of first None = first - 1
line_of first (Some n) = first + n

-- a character as it is shown: what is no printable one is a question mark
abbrev pub shown : ℕ → ℕ
shown c = if nat_le 32 c && nat_le c 126 then c else 63

-- a card has text in a column, which counts from 0
abbrev pub has_text : ℕ → List ℕ → Bool
has_text column card = option_map_or (λ c. not (c == 32)) (slice_get card column) false

-- the text of a statement goes on behind column 71, where it is not read
abbrev pub is_cut : List ℕ → Bool
is_cut card =
    starts_with nat_eq card (codes "//") && not (starts_with nat_eq card (codes "//*")) && has_text 70 card && has_text 71 card

-- how many columns of a card are shown: where its text is cut those that are read, else all 80
abbrev pub column_count : Bool → ℕ
column_count cut = if cut then 71 else 80

-- a cut is marked by a bar
abbrev pub cut_mark : Bool → List ℕ
cut_mark cut = if cut then codes "|" else []

-- a card as it is shown
abbrev pub card_text : List ℕ → List ℕ
card_text card = codes "    " ++ map shown (take (column_count (is_cut card)) card) ++ cut_mark (is_cut card) ++ 10 ∷ []

-- the mark below a column
abbrev pub mark_text : Option ℕ → List ℕ
mark_text None = []
mark_text (Some column) = codes "    " ++ replicate (min column 80) 32 ++ codes "^\n"

-- the card of a place, if there is one, and the mark below it
abbrev pub marked_text : Option (List ℕ) → Option ℕ → List ℕ
marked_text None column = []
marked_text (Some card) column = card_text card ++ mark_text column

abbrev pub card_of : List (List ℕ) → Option ℕ → Option (List ℕ)
card_of lines None = None
card_of lines (Some n) = slice_get lines n

abbrev pub spot_text : List (List ℕ) → Spot → List ℕ
spot_text lines spot = marked_text (card_of lines spot.card) spot.column

-- the line of the session that a line of a procedure is, if it is one
abbrev pub of_session_text : Option ℕ → List ℕ
of_session_text None = []
of_session_text (Some line) = codes ", line " ++ decimal line ++ codes " of the session"

-- the statement of a called procedure, if it is for one: its line in the procedure, and its card
abbrev pub inside_text : Option Inside → List ℕ
inside_text None = []
inside_text (Some inside) =
    codes "    line " ++ decimal inside.line ++ codes " of the procedure " ++ inside.procedure ++ of_session_text inside.of_session ++ codes ":\n"
    ++ card_text inside.card

-- what is wrong is told in words, then the card with its mark, then the statement of a called procedure, then the rest
abbrev pub TellsPlace : List (List ℕ) → Report → List ℕ → Type 0
TellsPlace lines report text =
    (words : List ℕ) × (rest : List ℕ) × (text ≡ words ++ 10 ∷ spot_text lines report.spot ++ inside_text report.inside ++ rest)

-- Of a deck that is refused there come the warnings of cards before that of its refusal, then the line and the number of this, then its words and its place.
abbrev pub AddsRefusedText : ℕ → List (List ℕ) → Report → List Warned → List ℕ → List ℕ → Type 0
AddsRefusedText first lines report warned old new =
    (rest : List ℕ) × (new ≡ old ++ warnings_text first (take (count_before report.spot.card warned) warned)
    ++ head (line_of first report.spot.card) report.cause ++ rest) × TellsPlace lines report rest

-- Behind a text nothing is added of a deck that denotes a job. Of another there come the warnings of cards before that of its refusal, then the line and the
-- number of this, then its words and its place.
abbrev pub AddsToldText : ℕ → List (List ℕ) → Checked → List Warned → List ℕ → List ℕ → Type 0
AddsToldText first lines (Taken plan origins) warned old new = new ≡ old
AddsToldText first lines (Refused report later) warned old new = AddsRefusedText first lines report warned old new
