-- a deck statement by statement
use Rattle.std.proofs.Common.{◌≡◌, List, ◌∷◌, Result, Ok, Err, sym, ap, ◌∙◌, subst}
use Rattle.card_core.specs.declared.statement.Statement.{Statement}
use Rattle.jcl_plan.specs.declared.fault.Cause.{Cause}
use Rattle.value_core.specs.declared.refusal.ReadError.{ReadError}
use Rattle.value_core.specs.declared.refusal.ReadError.TheVariants.{Refused, Memory}
use Rattle.value_core.specs.Reads.{Gives}
use Rattle.jcl_deck.specs.declared.deck.Deck.{Deck}
use Rattle.jcl_deck.specs.declared.place.Place as code
use Rattle.jcl_deck.specs.Decks.{Place, behind, deck_behind, deck_from}
use Rattle.jcl_deck.specs.Places.{Moves}

deck_more : (place : Place) (s : Statement) (rest : List Statement) {moved : Result Place Cause} → behind place s ≡ moved →
    deck_from place (s ∷ rest) ≡ deck_behind moved (λ next. deck_from next rest)
deck_more place s rest is = ap (λ r. deck_behind r (λ next. deck_from next rest)) is

pub deck_step : (place : Place) (s : Statement) (rest : List Statement) {statements : List Statement} {next : Place} {deck : Result Deck Cause} →
    deck ≡ deck_from place statements → statements ≡ s ∷ rest → behind place s ≡ Ok next → deck ≡ deck_from next rest
deck_step place s rest is split moved = is ∙ ap (deck_from place) split ∙ deck_more place s rest moved

gives_by : (e : ReadError) (moved : Result Place Cause) (deck : Result Deck Cause) (place : code.Place) →
    ((fault : Cause) → moved ≡ Err fault → deck ≡ Err fault) → Moves (Err e) place moved → Gives (let r : Result Deck ReadError = Err e in r) deck
gives_by (Refused fault) moved deck place f h = f fault h
gives_by Memory moved deck place f h = tt

pub deck_refused : (place : Place) (s : Statement) (rest : List Statement) (new : code.Place) {statements : List Statement} {deck : Result Deck Cause}
    {taken : Result (Unit {0}) ReadError} {e : ReadError} {result : Result Deck ReadError} →
    deck ≡ deck_from place statements → statements ≡ s ∷ rest → Moves taken new (behind place s) → taken ≡ Err e →
    (d : ReadError) × (result ≡ Err d) × (d ≡ e) → Gives result deck
deck_refused place s rest new {statements} {deck} {taken} {e} {result} is split moves was exit =
    let P : Result (Unit {0}) ReadError → Type 0 = λ r. Moves r new (behind place s) in
    let Q : Result Deck ReadError → Type 0 = λ r. Gives r deck in
    subst Q (sym (exit.1 ∙ ap (λ d. let a : Result Deck ReadError = Err d in a) exit.2))
    (gives_by e (behind place s) deck new (λ f h. is ∙ ap (deck_from place) split ∙ deck_more place s rest h) (subst P was moves))
