-- Warnings of the cards of a deck, as text. Lines of the session count from 1, cards from 0. (This profile)
use Rattle.std.specs.Prelude.{ℕ, ◌+◌, ◌==◌, nat_lt, Bool, false, not, ◌&&◌, ◌||◌, List, [], ◌∷◌, ◌++◌, length, take_while, Option, None, Some, codes, decimal, if◌then◌else◌}
use Rattle.std.specs.List.{list_any}
use Rattle.std.specs.Option.{option_map}
use Rattle.card_warnings.specs.Warnings.{warning_of, words_of}
use Rattle.check_core.specs.declared.report.Checked.{Checked}
use Rattle.check_core.specs.declared.report.Checked.TheVariants.{Refused, Taken}
use Rattle.check_core.specs.declared.report.Report.{Report}
use Rattle.check_core.specs.declared.warnings.Warned.{Warned}

-- a report has a sentence for its card, and is at this one
abbrev pub hint_at : ℕ → Option ℕ → List ℕ → Bool
hint_at n None hint = false
hint_at n (Some card) hint = card == n && not (length hint == 0)

abbrev pub tells_hint : ℕ → Report → Bool
tells_hint n report = hint_at n report.spot.card report.hint

-- a refusal at this card tells already of what the card warns of
abbrev pub is_told : Checked → ℕ → Bool
is_told (Taken plan origins) n = false
is_told (Refused first later) n = tells_hint n first || list_any (tells_hint n) later.items

-- what a card of a deck warns of, of which this is told
abbrev pub warned_at : Checked → ℕ → List ℕ → Option Warned
warned_at checked n line = if is_told checked n then None else option_map (λ warning. record { card = n; warning = warning }) (warning_of line)

abbrev pub listed : Option Warned → List Warned
listed None = []
listed (Some w) = w ∷ []

-- what the cards from this one on warn of, and those of a whole deck
abbrev pub warned_from : Checked → ℕ → List (List ℕ) → List Warned
warned_from checked n [] = []
warned_from checked n (line ∷ lines) = listed (warned_at checked n line) ++ warned_from checked (n + 1) lines

abbrev pub warned_of : Checked → List (List ℕ) → List Warned
warned_of checked lines = warned_from checked 0 lines

-- a warning on this line of the session
abbrev pub warning_text : ℕ → List ℕ → List ℕ
warning_text line words = codes "line " ++ decimal line ++ codes ": warning: " ++ words ++ codes "\n"

-- warnings of cards, where the deck's first one stands on this line
abbrev pub warnings_text : ℕ → List Warned → List ℕ
warnings_text first [] = []
warnings_text first (w ∷ warned) = warning_text (first + w.card) (words_of w.warning) ++ warnings_text first warned

-- a warning is of a card before this one; none is where there is no card
abbrev pub is_before : Option ℕ → Warned → Bool
is_before None w = false
is_before (Some card) w = nat_lt w.card card

-- how many warnings in front are
abbrev pub count_before : Option ℕ → List Warned → ℕ
count_before card warned = length (take_while (is_before card) warned)
