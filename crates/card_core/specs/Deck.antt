-- The statements of a deck.
use Rattle.std.specs.Prelude.{◌≡◌, ℕ, zero, suc, ◌+◌, Bool, true, false, not, ◌||◌, ◌&&◌, List, [], ◌∷◌, map, length, drop, take_while, codes, Option, Some, None, Result, Ok, Err, if◌then◌else◌}
use Rattle.std.specs.Str.{bytes_eq}
use Rattle.card_core.specs.declared.fault.CardFault.{CardFault}
use Rattle.card_core.specs.declared.fault.CardFault.TheVariants.{DataBeforeExec}
use Rattle.card_core.specs.declared.statement.Statement.{Statement}
use Rattle.card_core.specs.declared.read.ReadError.{ReadError}
use Rattle.card_core.specs.declared.read.ReadError.TheVariants.{Fault, Memory}
use Rattle.card_core.specs.declared.card.Kind.{Kind}
use Rattle.card_core.specs.declared.card.Kind.TheVariants.{Comment, Delimiter, Null, Jcl, Data}
use Rattle.card_core.specs.Cards.{kind_of, filled, first_line_fault, is_jcl, is_delimiter, may_continue, is_marked}
use Rattle.card_core.specs.declared.data.Opens.{Opens}
use Rattle.card_core.specs.declared.data.Opens.TheVariants.{Nothing, ToStatement, ToDelimiter}
use Rattle.card_core.specs.declared.operand.Operand.{Operand}
use Rattle.card_core.specs.Fields.{opens, operand_behind, name_of, operation_of}

abbrev pub Card : Type 0
Card = List ℕ

abbrev pub Statements : Type 0
Statements = Result (List Statement) CardFault

abbrev pub onto : Statement → Statements → Statements
onto statement (Ok statements) = Ok (statement ∷ statements)
onto statement (Err fault) = Err fault

abbrev pub ends_data : Opens → Card → Bool
ends_data Nothing card = true
ends_data ToStatement card = is_delimiter card || is_jcl card
ends_data ToDelimiter card = is_delimiter card

abbrev pub data_cards : Opens → List Card → List Card
data_cards kind cards = take_while (λ card. not (ends_data kind card)) cards

-- a delimiter that ends data is used up
abbrev pub delimiters_at : List Card → ℕ
delimiters_at [] = 0
delimiters_at (card ∷ cards) = if is_delimiter card then 1 else 0

-- how many of the cards the data take
abbrev pub used_by_data : Opens → List Card → ℕ
used_by_data Nothing cards = 0
used_by_data kind cards = length (data_cards kind cards) + delimiters_at (drop (length (data_cards kind cards)) cards)

-- a card that continues a comment is passed over: one, and only behind a card that says so
abbrev pub comment_cards : Card → List Card → ℕ
comment_cards last [] = 0
comment_cards last (card ∷ cards) = if is_marked last && may_continue card then 1 else 0

abbrev pub data_of : Opens → List Card → Option (List Card)
data_of Nothing cards = None
data_of kind cards = Some (data_cards kind cards)

-- data before the first EXEC are refused
abbrev pub is_early : Bool → Option (List Card) → Bool
is_early called None = false
is_early called (Some []) = false
is_early called (Some (card ∷ cards)) = not called

abbrev pub is_exec : List ℕ → Bool
is_exec operation = bytes_eq operation (codes "EXEC")

-- the statement, what is behind it, and what more cards it takes
abbrev pub with_data : Bool → List ℕ → List ℕ → List ℕ → ℕ → List Card → (Bool → ℕ → Statements) → Statements
with_data called name operation operand used behind next =
    if is_early called (data_of (opens operation operand) behind) then Err DataBeforeExec
    else onto (record { name = name; operation = operation; operand = operand; cards = data_of (opens operation operand) behind })
    (next (called || is_exec operation) (used + used_by_data (opens operation operand) behind))

abbrev pub with_operand : Bool → Card → List Card → Result Operand CardFault → (Bool → ℕ → Statements) → Statements
with_operand called card cards (Err fault) next = Err fault
with_operand called card cards (Ok operand) next =
    let used = operand.cards + comment_cards operand.last (drop operand.cards cards) in
    with_data called (name_of card) (operation_of card) operand.text used (drop used cards) next

-- a data card that no statement opens
abbrev pub loose : Bool → Card → List Card → (Bool → ℕ → Statements) → Statements
loose called card cards next =
    if called
    then onto (record { name = codes "SYSIN"; operation = codes "DD"; operand = codes "*"; cards = Some (card ∷ data_cards ToStatement cards) })
    (next called (used_by_data ToStatement cards))
    else Err DataBeforeExec

-- what begins with a card; next gives the statements behind, after so many more cards
abbrev pub begins : Kind → Bool → Card → List Card → (Bool → ℕ → Statements) → Statements
begins Comment called card cards next = next called 0
begins Delimiter called card cards next = next called 0
begins Null called card cards next = Ok []
begins Jcl called card cards next = with_operand called card cards (operand_behind card cards) next
begins Data called card cards next = loose called card cards next

-- The statements of these cards, behind so many that are used; called says whether an EXEC statement came before. So with these cards
--     //S1 EXEC PGM=IEFBR14      takes no more cards
--     //A DD DUMMY,              takes one more, its continuation, which is passed over
--     //   DCB=BLKSIZE=80
--     //B DD *                   takes two more, its data and their delimiter, which are passed over
--     HELLO
--     /*
-- there are three statements.
abbrev pub statements_behind : Bool → ℕ → List Card → Statements
statements_behind called used [] = Ok []
statements_behind called (suc used) (card ∷ cards) = statements_behind called used cards
statements_behind called zero (card ∷ cards) = begins (kind_of card) called card cards (λ c used. statements_behind c used cards)

abbrev pub unless : Option CardFault → Statements → Statements
unless (Some fault) statements = Err fault
unless None statements = statements

-- faults of lines first, those behind a null statement too
abbrev pub statements_of : List (List ℕ) → Statements
statements_of lines = unless (first_line_fault lines) (statements_behind false 0 (map filled lines))

-- a reading, seen by view, is what cards denote, memory apart
abbrev pub Gives : {X Y : Type 0} → (X → Y) → Result X ReadError → Result Y CardFault → Type 0
Gives view (Ok x) denoted = denoted ≡ Ok (view x)
Gives view (Err (Fault fault)) denoted = denoted ≡ Err fault
Gives view (Err Memory) denoted = Unit {0}
