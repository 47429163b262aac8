-- The data of a deck's statements.
use Rattle.std.proofs.Common.{◌≡◌, ℕ, zero, suc, ◌+◌, Bool, true, false, ◌||◌, List, [], ◌∷◌, map, drop, Option, Some, None, Result, Ok, Err}
use Rattle.std.proofs.Common.{if◌then◌else◌, refl, subst}
use Rattle.std.specs.Prelude.{All}
use Rattle.std.proofs.lemmas.List.Elements.{All-cons, All-drop, All-head, All-nil, All-tail, All-take}
use Rattle.card_core.specs.declared.card.Kind.{Kind}
use Rattle.card_core.specs.declared.card.Kind.TheVariants.{Comment, Data, Delimiter, Jcl, Null}
use Rattle.card_core.specs.declared.data.Opens.{Opens}
use Rattle.card_core.specs.declared.data.Opens.TheVariants.{Nothing, ToDelimiter, ToStatement}
use Rattle.card_core.specs.declared.fault.CardFault.{CardFault}
use Rattle.card_core.specs.declared.fault.CardFault.TheVariants.{DataBeforeExec}
use Rattle.card_core.specs.declared.operand.Operand.{Operand}
use Rattle.card_core.specs.declared.statement.Statement.{Statement}
use Rattle.card_core.specs.Cards.{filled, first_line_fault, kind_of}
use Rattle.card_core.specs.Deck.{Card, Statements, begins, comment_cards, data_cards, data_of, is_early, is_exec, loose, onto, statements_behind, statements_of, unless, used_by_data, with_data, with_operand}
use Rattle.card_core.specs.Fields.{name_of, opens, operand_behind, operation_of}
use Rattle.cb_meaning.specs.Writable.{IsCard}
use Rattle.statement_laws.specs.CardLaws.{AreCards}
use Rattle.deck_laws.specs.Sound.{HoldsCards}
use Rattle.deck_laws.proofs.Cards.{all_filled}

-- all statements that are denoted hold cards
abbrev Hold : Statements → Type 0
Hold r = (statements : List Statement) → r ≡ Ok statements → All HoldsCards statements

none_hold : (fault : CardFault) → Hold (Err fault)
none_hold fault statements is = absurd (cc)

no_more_hold : Hold (Ok [])
no_more_hold statements is = subst (All HoldsCards) (let same : [] ≡ statements = cc in same) (All-nil HoldsCards)

onto_holds : (s : Statement) (r : Statements) → HoldsCards s → Hold r → Hold (onto s r)
onto_holds s (Err fault) h hold statements is = absurd (cc)
onto_holds s (Ok more) h hold statements is =
    subst (All HoldsCards) (let same : s ∷ more ≡ statements = cc in same) (All-cons HoldsCards s more h (hold more refl))

either_holds : (b : Bool) (r s : Statements) → Hold r → Hold s → Hold (if b then r else s)
either_holds true r s first second = first
either_holds false r s first second = second

abbrev HoldBehind : (Bool → ℕ → Statements) → Type 0
HoldBehind next = (called : Bool) (used : ℕ) → Hold (next called used)

data_hold : (kind : Opens) (cards : List Card) → All IsCard cards → All IsCard (data_cards kind cards)
data_hold kind cards all = All-take IsCard _ cards all

are_cards : (kind : Opens) (cards : List Card) → All IsCard cards → AreCards (data_of kind cards)
are_cards Nothing cards all = tt
are_cards ToStatement cards all = data_hold ToStatement cards all
are_cards ToDelimiter cards all = data_hold ToDelimiter cards all

with_data_holds : (called : Bool) (name operation operand : List ℕ) (used : ℕ) (behind : List Card) (next : Bool → ℕ → Statements) →
    All IsCard behind → HoldBehind next → Hold (with_data called name operation operand used behind next)
with_data_holds called name operation operand used behind next all hold =
    let kind = opens operation operand in
    let rest = next (called || is_exec operation) (used + used_by_data kind behind) in
    let s : Statement = record { name = name; operation = operation; operand = operand; cards = data_of kind behind } in
    either_holds (is_early called (data_of kind behind)) (Err DataBeforeExec) (onto s rest) (none_hold DataBeforeExec)
    (onto_holds s rest (are_cards kind behind all) (hold (called || is_exec operation) (used + used_by_data kind behind)))

with_operand_holds : (called : Bool) (card : Card) (cards : List Card) (operand : Result Operand CardFault) (next : Bool → ℕ → Statements) →
    All IsCard cards → HoldBehind next → Hold (with_operand called card cards operand next)
with_operand_holds called card cards (Err fault) next all hold = none_hold fault
with_operand_holds called card cards (Ok operand) next all hold =
    let used = operand.cards + comment_cards operand.last (drop operand.cards cards) in
    with_data_holds called (name_of card) (operation_of card) operand.text used (drop used cards) next (All-drop IsCard used cards all) hold

loose_holds : (called : Bool) (card : Card) (cards : List Card) (next : Bool → ℕ → Statements) → IsCard card → All IsCard cards →
    HoldBehind next → Hold (loose called card cards next)
loose_holds false card cards next is all hold = none_hold DataBeforeExec
loose_holds true card cards next is all hold =
    onto_holds _ (next true (used_by_data ToStatement cards)) (All-cons IsCard card (data_cards ToStatement cards) is (data_hold ToStatement cards all))
    (hold true (used_by_data ToStatement cards))

begins_holds : (kind : Kind) (called : Bool) (card : Card) (cards : List Card) (next : Bool → ℕ → Statements) → IsCard card → All IsCard cards →
    HoldBehind next → Hold (begins kind called card cards next)
begins_holds Comment called card cards next is all hold = hold called 0
begins_holds Delimiter called card cards next is all hold = hold called 0
begins_holds Null called card cards next is all hold = no_more_hold
begins_holds Jcl called card cards next is all hold = with_operand_holds called card cards (operand_behind card cards) next all hold
begins_holds Data called card cards next is all hold = loose_holds called card cards next is all hold

behind_hold : (called : Bool) (used : ℕ) (cards : List Card) → All IsCard cards → Hold (statements_behind called used cards)
behind_hold called used [] all = no_more_hold
behind_hold called (suc used) (card ∷ cards) all = behind_hold called used cards (All-tail IsCard card cards all)
behind_hold called zero (card ∷ cards) all =
    begins_holds (kind_of card) called card cards (λ c used. statements_behind c used cards) (All-head IsCard card cards all)
    (All-tail IsCard card cards all) (λ c used. behind_hold c used cards (All-tail IsCard card cards all))

unless_holds : (fault : Option CardFault) (r : Statements) → (fault ≡ None → Hold r) → Hold (unless fault r)
unless_holds None r hold = hold refl
unless_holds (Some fault) r hold = none_hold fault

pub data_are_cards : (lines : List (List ℕ)) → Hold (statements_of lines)
data_are_cards lines =
    unless_holds (first_line_fault lines) (statements_behind false 0 (map filled lines))
    (λ none. behind_hold false 0 (map filled lines) (all_filled lines none))
