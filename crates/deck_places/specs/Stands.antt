-- On which card of a deck the statement begins that brings a step of its job, or a DD. Where a call brings it, that is the card of the call, or of the DD
-- statement there that overrides it by the name of its step. Steps and DDs count from 1, statements and cards from 0. (This profile)
use Rattle.std.specs.Prelude.{◌≡◌, ℕ, zero, suc, ◌+◌, ◌-◌, ◌==◌, Bool, true, false, List, [], ◌∷◌, ◌++◌, drop, slice_get, take, Option, None, Some, unwrap_or, if◌then◌else◌, map, Ok}
use Rattle.std.specs.Str.{bytes_eq}
use Rattle.card_core.specs.declared.statement.Statement.{Statement}
use Rattle.jcl_deck.specs.declared.deck.Deck.{Deck}
use Rattle.jcl_deck.specs.declared.operation.Operation.{Operation}
use Rattle.jcl_deck.specs.declared.operation.Operation.TheVariants.{IsDd, IsExec}
use Rattle.jcl_deck.specs.Decks.{deck_of, operation_of}
use Rattle.jcl_job.specs.Jobs.{statements_in}
use Rattle.jcl_plan.specs.declared.plan.TheConstants.{MOST_STEPS}
use Rattle.jcl_procs.specs.declared.expansion.Expansion.{Expansion}
use Rattle.jcl_procs.specs.declared.expansion.Expansion.TheVariants.{Steps, TooMany}
use Rattle.jcl_procs.specs.declared.step.FlatStep.{FlatStep}
use Rattle.jcl_procs.specs.Counting.{counted}
use Rattle.jcl_procs.specs.Expansions.{flat_of}
use Rattle.proc_library.specs.declared.library.LibraryProcedure.{LibraryProcedure}
use Rattle.deck_places.specs.declared.stands.Own.{Own}
use Rattle.deck_places.specs.declared.stands.StepOrigin.{StepOrigin}
use Rattle.deck_places.specs.Called.{if_ok, if_some}
use Rattle.deck_places.specs.Cards.{walk_of}
use Rattle.deck_places.specs.Cuts.{inside_behind}

-- the EXEC and DD statements of a deck outside its procedures, each with its number
abbrev pub exec_or_dd : Operation → Option Bool
exec_or_dd IsExec = Some true
exec_or_dd IsDd = Some false
exec_or_dd other = None

abbrev pub own_as : Option Bool → ℕ → Statement → List Own → List Own
own_as None k s own = own
own_as (Some is_exec) k s own = record { number = k; is_exec = is_exec; name = s.name } ∷ own

abbrev pub own_from : Bool → ℕ → List Statement → List Own
own_from inside k [] = []
own_from inside k (s ∷ statements) =
    own_as (if inside then None else exec_or_dd (operation_of s.operation)) k s (own_from (inside_behind s inside) (k + 1) statements)

-- where a step of the job comes from: the call that brings it, its name in the procedure, and the names of its DDs
abbrev pub origin_of : FlatStep → StepOrigin
origin_of step = record { call = step.call; procedure_step = step.procedure_step; dd_names = map (λ dd. dd.name) step.dds }

abbrev pub origins_in : Expansion → List StepOrigin
origins_in (Steps steps) = map origin_of steps
origins_in TooMany = []

-- a deck as far as it tells where steps and DDs stand: these statements, where the steps of the job come from, and the cards on which statements begin
pub record Stood : Type 0 where
  pub own : List Own
  pub steps : List StepOrigin
  pub begun : List ℕ

abbrev pub no_stood : Stood
no_stood = record { own = []; steps = []; begun = [] }

abbrev pub stood_from : List (List ℕ) → List Statement → List StepOrigin → Stood
stood_from lines statements origins = record { own = own_from false 0 statements; steps = origins; begun = (walk_of lines).begun }

abbrev pub steps_within : Expansion → Option (List FlatStep)
steps_within (Steps steps) = Some steps
steps_within TooMany = None

abbrev pub steps_in : List LibraryProcedure → Deck → Option (List FlatStep)
steps_in library deck = if_ok (counted MOST_STEPS (flat_of library deck)) steps_within

abbrev pub stood_by : List LibraryProcedure → List (List ℕ) → List Statement → Deck → Option Stood
stood_by library lines statements deck = if_some (steps_in library deck) (λ steps. Some (stood_from lines statements (map origin_of steps)))

-- those of a deck that denotes no job tell of none
abbrev pub stood_in : List LibraryProcedure → List (List ℕ) → Stood
stood_in library lines =
    unwrap_or (if_ok (statements_in lines) (λ statements. if_ok (deck_of statements) (stood_by library lines statements))) no_stood

-- the same, where it is known from where the steps come
abbrev pub stood_with : List (List ℕ) → List StepOrigin → Stood
stood_with lines origins = unwrap_or (if_ok (statements_in lines) (λ statements. Some (stood_from lines statements origins))) no_stood

-- the steps of a deck of these statements come from there
pub record HaveOrigins (library : List LibraryProcedure) (statements : List Statement) (origins : List StepOrigin) : Type 0 where
  pub deck : Deck
  pub so : deck_of statements ≡ Ok deck
  pub steps : List FlatStep
  pub flat : steps_in library deck ≡ Some steps
  pub from : origins ≡ map origin_of steps

-- from the next EXEC statement on
abbrev pub next_exec : List Own → List Own
next_exec [] = []
next_exec (o ∷ own) = if o.is_exec then o ∷ own else next_exec own

-- steps of one call have the same EXEC statement; each other step has the next one
abbrev pub is_same_call : Option ℕ → Option ℕ → Bool
is_same_call (Some a) (Some b) = a == b
is_same_call _ _ = false

abbrev pub exec_behind : Option ℕ → List StepOrigin → List Own → List Own
exec_behind before [] own = own
exec_behind before (step ∷ steps) own =
    exec_behind step.call steps (if is_same_call before step.call then own else next_exec (drop 1 own))

-- from the EXEC statement on that brings the last of these steps, which are all up to it
abbrev pub exec_of : List StepOrigin → List Own → List Own
exec_of [] own = []
exec_of (step ∷ steps) own = exec_behind step.call steps (next_exec own)

-- the n-th DD statement before the next EXEC statement, from 0
abbrev pub dd_behind : ℕ → List Own → Option ℕ
dd_behind n [] = None
dd_behind zero (o ∷ own) = if o.is_exec then None else Some o.number
dd_behind (suc n) (o ∷ own) = if o.is_exec then None else dd_behind n own

-- so many behind the first of a name
abbrev pub named_behind : List ℕ → ℕ → List Own → Option ℕ
named_behind name n [] = None
named_behind name n (o ∷ own) =
    if o.is_exec then None else (if bytes_eq o.name name then dd_behind n (o ∷ own) else named_behind name n own)

-- the name with which a concatenation begins, and where: of the last of the DDs that have these names
pub record Head : Type 0 where
  pub name : Option (List ℕ)
  pub at : ℕ

abbrev pub head_with : Option (List ℕ) → ℕ → Head → Head
head_with None n head = head
head_with (Some name) n head = record { name = Some name; at = n }

abbrev pub head_from : ℕ → List (Option (List ℕ)) → Head → Head
head_from n [] head = head
head_from n (name ∷ names) head = head_from (n + 1) names (head_with name n head)

abbrev pub head_of : List (Option (List ℕ)) → Head
head_of names = head_from 0 names (record { name = None; at = 0 })

-- what overrides a DD of a procedure's step has the names of both
abbrev pub overriding_name : List ℕ → List ℕ → List ℕ
overriding_name step dd = step ++ 46 ∷ dd

abbrev pub overriding_by : Option (List ℕ) → Head → ℕ → List Own → Option ℕ
overriding_by (Some step) head dd own = if_some head.name (λ name. named_behind (overriding_name step name) (dd - 1 - head.at) own)
overriding_by None head dd own = None

abbrev pub dd_number : Option ℕ → StepOrigin → ℕ → List Own → Option ℕ
dd_number None step dd own = dd_behind (dd - 1) own
dd_number (Some call) step dd own = overriding_by step.procedure_step (head_of (take dd step.dd_names)) dd own

-- the card of a statement, or else of the EXEC statement with which these begin
abbrev pub exec_number : List Own → Option ℕ
exec_number [] = None
exec_number (o ∷ own) = Some o.number

abbrev pub or_else : Option ℕ → Option ℕ → Option ℕ
or_else (Some n) other = Some n
or_else None other = other

abbrev pub card_by : Stood → Option ℕ → Option ℕ
card_by s number = if_some number (λ n. slice_get s.begun n)

-- the EXEC statement that brings a step
abbrev pub exec_at : Stood → ℕ → List Own
exec_at s step = exec_of (take step s.steps) s.own

abbrev pub card_of_step : Stood → ℕ → Option ℕ
card_of_step s step = card_by s (exec_number (exec_at s step))

-- and the statement that brings a DD
abbrev pub number_of_dd : Stood → ℕ → ℕ → Option ℕ
number_of_dd s step dd = if_some (slice_get s.steps (step - 1)) (λ from. dd_number from.call from dd (drop 1 (exec_at s step)))

abbrev pub card_of_dd : Stood → ℕ → ℕ → Option ℕ
card_of_dd s step dd = card_by s (or_else (number_of_dd s step dd) (exec_number (exec_at s step)))
