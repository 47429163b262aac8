-- What is written of warnings, one after another.
use Rattle.std.proofs.Common.{◌≡◌, ℕ, ◌+◌, ◌<◌, List, ◌++◌, length, drop, get_or, ap}
use Rattle.std.proofs.lemmas.List.{drop_more}
use Rattle.card_warnings.specs.Warnings.{words_of}
use Rattle.check_core.specs.declared.report.Checked.{Checked}
use Rattle.check_core.specs.Warnings.{listed, warned_at, warned_from, warning_text, warnings_text}
use Rattle.check_core.specs.declared.warnings.Warned.{Warned}

-- what is written of the warnings from a place on
pub text_from : (first : ℕ) (warned : List Warned) (i : ℕ) (d : Warned) → i < length warned →
    warnings_text first (drop i warned)
    ≡ warning_text (first + (get_or warned i d).card) (words_of (get_or warned i d).warning) ++ warnings_text first (drop (i + 1) warned)
text_from first warned i d within = ap (warnings_text first) (drop_more warned i d within)

-- what the cards from a place on warn of
pub warned_next : (checked : Checked) (lines : List (List ℕ)) (i : ℕ) (d : List ℕ) → i < length lines →
    warned_from checked i (drop i lines) ≡ listed (warned_at checked i (get_or lines i d)) ++ warned_from checked (i + 1) (drop (i + 1) lines)
warned_next checked lines i d within = ap (warned_from checked i) (drop_more lines i d within)
