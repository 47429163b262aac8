-- Lines of which statements are made.
use Rattle.std.proofs.Common.{◌≡◌, ◌∙◌, ℕ, true, false, List, None, Option, Some, Result, Ok, Err, ap, length, map, refl, sym, subst}
use Rattle.std.proofs.lemmas.Result.{IfOk-weaker}
use Rattle.std.specs.Prelude.{IfOk, is_some}
use Rattle.std.specs.declared.alloc.AllocError.{AllocError}
use Rattle.card_core.specs.declared.fault.CardFault.{CardFault}
use Rattle.card_core.specs.declared.statement.Statement.{Statement}
use Rattle.card_core.specs.Cards.{filled, first_line_fault}
use Rattle.card_core.specs.Deck.{Card, statements_behind, statements_of, unless}
use Rattle.card_core.specs.Reading.{ok_unless}
use Rattle.jcl_deck.specs.Decks.{start}
use Rattle.jcl_job.specs.Jobs.{statements_in}
use Rattle.jcl_plan.specs.declared.fault.Cause.{Cause}
use Rattle.deck_places.specs.Cards.{bad_line, walk_from, walk_in}
use Rattle.deck_places.specs.Parts.{IsMark, IsMarkAmong}
use Rattle.deck_places.specs.Statements.{RefusedAt, read_from}
use Rattle.deck_places.specs.declared.marks.Mark.{Mark}
use Rattle.deck_places.proofs.Begun.{as_many}
use Rattle.deck_places.proofs.Cards.{bad_so}

-- they are the ones that are meant
pub the_statements : (lines : List (List ℕ)) (items statements : List Statement) → statements_of lines ≡ Ok items → statements_in lines ≡ Ok statements →
    items ≡ statements
the_statements lines items statements read = rw read (λ meant. ap found meant)
  where
    found : Result (List Statement) Cause → List Statement
    found (Ok all) = all
    found (Err cause) = items

by_fault : (fault : Option CardFault) (lines : List (List ℕ)) (statements : List Statement) → is_some fault ≡ true →
    unless fault (statements_behind false 0 (map filled lines)) ≡ Ok statements → ⊥
by_fault (Some fault) lines statements h e = absurd cc
by_fault None lines statements h e = absurd cc

-- each line is a card
pub none_bad : (lines : List (List ℕ)) (statements : List Statement) (n : ℕ) → statements_of lines ≡ Ok statements → bad_line lines ≡ Some n → ⊥
none_bad lines statements n read bad = by_fault (first_line_fault lines) lines statements (bad_so 0 lines ∙ ap is_some bad) read

-- as many statements begin on these cards
pub begun_on : (lines cards : List (List ℕ)) (statements : List Statement) → statements_of lines ≡ Ok statements → bad_line lines ≡ None → cards ≡ map filled lines →
    length (walk_from false 0 0 cards).begun ≡ length statements
begun_on lines cards statements read none so =
    ap (λ c. length (walk_from false 0 0 c).begun) so ∙ ap (λ bad. length (walk_in bad lines).begun) (sym none) ∙ as_many lines statements read

-- the mark among them is the deck's
pub marked : (lines cards : List (List ℕ)) (own items statements : List Statement) (k : ℕ) (cause : Cause) (result : Result Mark AllocError) →
    statements_of lines ≡ Ok items → own ≡ items → statements_in lines ≡ Ok statements → bad_line lines ≡ None → cards ≡ map filled lines →
    read_from 0 start statements ≡ RefusedAt k cause →
    (read_from 0 start own ≡ RefusedAt k cause → length (walk_from false 0 0 cards).begun ≡ length own → IfOk result (IsMarkAmong cards own k cause)) →
    IfOk result (IsMark lines k cause)
marked lines cards own items statements k cause result read its meant none so refused given =
    let same : own ≡ statements = its ∙ the_statements lines items statements read meant in
    IfOk-weaker result (IsMarkAmong cards own k cause) (IsMark lines k cause)
    (λ mark m. (
      statements,
      meant,
      subst (λ s. IsMarkAmong (map filled lines) s k cause mark) same (subst (λ c. IsMarkAmong c own k cause mark) so m),
    ))
    (given (ap (read_from 0 start) same ∙ refused) (begun_on lines cards items read none so ∙ ap length (sym its)))

-- lines that are cards, and a line that is none
pub are_cards : (fault : Option CardFault) (bad : Option ℕ) (lines : List (List ℕ)) (cards : List Card) → is_some fault ≡ is_some bad →
    Ok cards ≡ ok_unless fault (map filled lines) → (bad ≡ None) × (cards ≡ map filled lines)
are_cards (Some fault) bad lines cards same is = absurd cc
are_cards None (Some n) lines cards same is = absurd cc
are_cards None None lines cards same is = (refl, cc)

pub not_none : (fault : Option CardFault) (bad : Option ℕ) (lines : List (List ℕ)) (found : CardFault) → is_some fault ≡ is_some bad →
    Err found ≡ ok_unless fault (map filled lines) → None ≡ bad → ⊥
not_none (Some fault) bad lines found same is none = cc
not_none None bad lines found same is none = cc
