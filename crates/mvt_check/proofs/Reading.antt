-- Which statements of a session have decks.
use Rattle.std.proofs.Common.{◌≡◌, ℕ, zero, suc, ◌+◌, ◌≤◌, ◌||◌, Bool, true, false, List, [], ◌∷◌, ◌++◌, Option, drop, length, map, take, refl, ap, ◌∙◌, arith}
use Rattle.std.specs.Prelude.{if◌then◌else◌}
use Rattle.std.proofs.lemmas.List.{map-append}
use Rattle.jcl_plan.specs.declared.entry.Entry.{Entry}
use Rattle.session_core.specs.Sessions.{has_begun, has_events}
use Rattle.session_text.specs.declared.statement.Says.{Says}
use Rattle.session_text.specs.declared.statement.Says.TheVariants.{Config, Events, Refused}
use Rattle.session_text.specs.declared.statement.Statement.{Statement}
use Rattle.mvt_check.specs.Answers.{first_number, statement_of}
use Rattle.mvt_check.specs.Reading.{is_read, reading_from, reads}
use Rattle.mvt_check.specs.Telling.{behind_of, deck_if, deck_of, decks_from}

abbrev place_if : Bool → ℕ → List ℕ
place_if b at = if b then at ∷ [] else []

numbers_of : (b : Bool) (at : ℕ) (job : Option ℕ) → map statement_of (deck_if b at job) ≡ place_if b at
numbers_of true at job = refl
numbers_of false at job = refl

numbers_by : (at : ℕ) (says : Says) (entries : List (List Entry)) → map statement_of (deck_of at says entries) ≡ place_if (reads says) at
numbers_by at (Events e times) entries = numbers_of (is_read e) at (first_number (take times entries))
numbers_by at (Config s has_end) entries = refl
numbers_by at (Refused f) entries = refl

pick : (b : Bool) (at : ℕ) (more : List ℕ) → place_if b at ++ more ≡ (if b then at ∷ more else more)
pick true at more = refl
pick false at more = refl

-- the decks are those of the statements that read one
pub statements_of_decks : (at : ℕ) (statements : List Statement) (entries : List (List Entry)) →
    map statement_of (decks_from at statements entries) ≡ reading_from at statements
statements_of_decks at [] entries = refl
statements_of_decks at (s ∷ statements) entries =
    map-append statement_of (deck_of at s.says entries) (decks_from (at + 1) statements (behind_of s.says entries))
    ∙ (λ i. numbers_by at s.says entries i ++ statements_of_decks (at + 1) statements (behind_of s.says entries) i)
    ∙ pick (reads s.says) at (reading_from (at + 1) statements)

-- what is no event reads none
no_read : (says : Says) → has_events says ≡ false → reads says ≡ false
no_read (Events e times) is = absurd cc
no_read (Config s has_end) is = refl
no_read (Refused f) is = refl

both_no : (a b : Bool) → (a || b) ≡ false → (a ≡ false) × (b ≡ false)
both_no false false is = (refl, refl)
both_no false true is = absurd cc
both_no true b is = absurd cc

-- before the first event no deck is read
pub reading_behind : (from at : ℕ) (all : List Statement) → has_begun (take at all) ≡ false → at ≤ length all →
    reading_from from all ≡ reading_from (from + at) (drop at all)
reading_behind from zero all none within = ap (λ n. reading_from n all) (omega arith)
reading_behind from (suc at) [] none within = absurd (omega (arith, within))
reading_behind from (suc at) (s ∷ all) none within =
    let parts = both_no (has_events s.says) (has_begun (take at all)) none in
    ap (λ b. if b then from ∷ reading_from (from + 1) all else reading_from (from + 1) all) (no_read s.says parts.0)
    ∙ reading_behind (from + 1) at all parts.1 (omega (arith, within))
    ∙ ap (λ n. reading_from n (drop at all)) (omega arith)
