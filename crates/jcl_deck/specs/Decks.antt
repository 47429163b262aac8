-- A deck of statements: the job, the procedures in the stream, which are cut out, and the steps. Each statement is read where it stands, and the
-- first that is refused is told. (GC28-6704, "Job control statements"; "PROC statement"; "DD statement": JOBLIB, concatenation)
use Rattle.std.specs.Prelude.{ℕ, Bool, true, false, not, ◌&&◌, ◌||◌, ◌==◌, nat_le, List, [], ◌∷◌, ◌++◌, length, map, codes, unwrap_or, Option, Some, None, is_none, Result, Ok, Err, if◌then◌else◌}
use Rattle.std.specs.Str.{bytes_eq}
use Rattle.card_core.specs.declared.statement.Statement.{Statement}
use Rattle.jcl_plan.specs.declared.fault.Cause.{Cause}
use Rattle.jcl_plan.specs.declared.fault.Cause.TheVariants.{P}
use Rattle.jcl_plan.specs.declared.fault.StatementFault.TheVariants.{DdBeforeExec, MissingPend, NoStep, NotOneJob, NothingToContinue, TooManyProcedures, UnknownOperation}
use Rattle.operand_core.specs.Faults.{or_fault, told, when, written_name_faults}
use Rattle.operand_core.specs.Keywords.{is_long}
use Rattle.value_core.specs.Reads.{Read}
use Rattle.jcl_cards.specs.declared.job.JobCard.{JobCard}
use Rattle.jcl_cards.specs.declared.procedure.ProcedureCard.{ProcedureCard}
use Rattle.jcl_cards.specs.ExecCards.{exec_card}
use Rattle.jcl_cards.specs.JobCards.{job_card}
use Rattle.jcl_cards.specs.ProcedureCards.{procedure_card}
use Rattle.jcl_dds.specs.declared.dd.DdCard.{DdCard}
use Rattle.jcl_dds.specs.DdCards.{dd_card}
use Rattle.jcl_deck.specs.declared.deck.Deck.{Deck}
use Rattle.jcl_deck.specs.declared.deck.DeckStep.{DeckStep}
use Rattle.jcl_deck.specs.declared.deck.Procedure.{Procedure}
use Rattle.jcl_deck.specs.declared.operation.Operation.{Operation}
use Rattle.jcl_deck.specs.declared.operation.Operation.TheVariants.{IsJob, IsExec, IsDd, IsProc, IsPend, IsOther}

-- what a statement is by its operation
abbrev pub operation_of : List ℕ → Operation
operation_of text =
    if bytes_eq text (codes "JOB") then IsJob
    else (if bytes_eq text (codes "EXEC") then IsExec
    else (if bytes_eq text (codes "DD") then IsDd
    else (if bytes_eq text (codes "PROC") then IsProc
    else (if bytes_eq text (codes "PEND") then IsPend
    else IsOther))))

-- The deck so far: whether a procedure is open, which is the last; and whether a JOBLIB stands before the first step.
pub record Place : Type 0 where
  pub job : Option JobCard
  pub procedures : List Procedure
  pub is_open : Bool
  pub job_library : Bool
  pub steps : List DeckStep

abbrev pub start : Place
start = record { job = None; procedures = []; is_open = false; job_library = false; steps = [] }

abbrev pub most_procedures : ℕ
most_procedures = 15

-- what is read, unless it has a fault, or one by its place; of an operand that is too long no fault of the place is told
abbrev pub taken : {A : Type 0} → Statement → Read A → List Cause → (A → Place) → Result Place Cause
taken s r faults next = or_fault (told (if is_long s.operand then r.faults else r.faults ++ faults)) (next r.value)

-- each deck begins with a JOB statement, and has no other
abbrev pub not_first : Place → List Cause
not_first place = when (is_none place.job) (P NotOneJob)

abbrev pub takes_job : Place → Statement → Result Place Cause
takes_job place s = taken s (job_card s.name s.operand) (when (not (is_none place.job)) (P NotOneJob)) (λ card. record place { job = Some card })

abbrev pub takes_exec : Place → Statement → Result Place Cause
takes_exec place s =
    taken s (exec_card s.name s.operand) (not_first place) (λ card. record place { steps = place.steps ++ record { exec = card; dds = [] } ∷ [] })

abbrev pub procedure_with : ProcedureCard → Procedure
procedure_with card = record { name = unwrap_or card.name []; symbols = card.symbols; statements = [] }

abbrev pub takes_proc : Place → Statement → Result Place Cause
takes_proc place s =
    taken s (procedure_card true s.name s.operand) (not_first place ++ when (nat_le most_procedures (length place.procedures)) (P TooManyProcedures))
    (λ card. record place { procedures = place.procedures ++ procedure_with card ∷ []; is_open = true })

-- DDs: before the first step JOBLIB, and what continues it; without a name one continues the DD before it in its step
abbrev pub has_no_name : Statement → Bool
has_no_name s = length s.name == 0

abbrev pub is_job_library : Statement → Bool
is_job_library s = bytes_eq s.name (codes "JOBLIB")

abbrev pub last_has_dd : List (List DdCard) → Bool
last_has_dd [] = false
last_has_dd (dds ∷ []) = not (length dds == 0)
last_has_dd (dds ∷ next ∷ steps) = last_has_dd (next ∷ steps)

-- the DDs so far step by step, and whether a JOBLIB stands before the first step
abbrev pub dd_place_faults : Bool → List (List DdCard) → Statement → List Cause
dd_place_faults job_library steps s =
    if length steps == 0
    then (if is_job_library s || (has_no_name s && job_library) then []
    else P DdBeforeExec ∷ when (has_no_name s) (P NothingToContinue))
    else when (has_no_name s && not (last_has_dd steps)) (P NothingToContinue)

abbrev pub onto_last : DdCard → List DeckStep → List DeckStep
onto_last dd [] = []
onto_last dd (step ∷ []) = record step { dds = step.dds ++ dd ∷ [] } ∷ []
onto_last dd (step ∷ next ∷ steps) = step ∷ onto_last dd (next ∷ steps)

abbrev pub takes_dd : Place → Statement → Result Place Cause
takes_dd place s = taken s (dd_card s.name s.operand s.cards) (not_first place ++ dd_place_faults place.job_library (map (λ step. step.dds) place.steps) s)
    (λ dd. record place { job_library = place.job_library || length place.steps == 0; steps = onto_last dd place.steps })

-- any other: its name is read, its operand is not
abbrev pub refuses_other : Place → Statement → Result Place Cause
refuses_other place s = or_fault (told (written_name_faults s.name ++ not_first place ++ P UnknownOperation ∷ [])) place

abbrev pub outside : Operation → Place → Statement → Result Place Cause
outside IsJob place s = takes_job place s
outside IsExec place s = takes_exec place s
outside IsDd place s = takes_dd place s
outside IsProc place s = takes_proc place s
outside IsPend place s = refuses_other place s
outside IsOther place s = refuses_other place s

-- Within a procedure EXEC and DD statements are kept as they are, up to PEND; any other is told by its operation alone.
abbrev pub onto_open : Statement → List Procedure → List Procedure
onto_open s [] = []
onto_open s (p ∷ []) = record p { statements = p.statements ++ s ∷ [] } ∷ []
onto_open s (p ∷ q ∷ procedures) = p ∷ onto_open s (q ∷ procedures)

abbrev pub keeps : Place → Statement → Place
keeps place s = record place { procedures = onto_open s place.procedures }

abbrev pub within : Operation → Place → Statement → Result Place Cause
within IsExec place s = Ok (keeps place s)
within IsDd place s = Ok (keeps place s)
within IsPend place s = Ok (record place { is_open = false })
within IsJob place s = Err (P NotOneJob)
within IsProc place s = Err (P MissingPend)
within IsOther place s = Err (P UnknownOperation)

abbrev pub behind : Place → Statement → Result Place Cause
behind place s = if place.is_open then within (operation_of s.operation) place s else outside (operation_of s.operation) place s

-- at the deck's end
abbrev pub ended_with : Option JobCard → Place → Result Deck Cause
ended_with None place = Err (P NotOneJob)
ended_with (Some job) place =
    or_fault (told (when (length place.steps == 0) (P NoStep) ++ when place.is_open (P MissingPend)))
    (record { job = job; procedures = place.procedures; steps = place.steps })

abbrev pub deck_behind : Result Place Cause → (Place → Result Deck Cause) → Result Deck Cause
deck_behind (Err fault) next = Err fault
deck_behind (Ok place) next = next place

abbrev pub deck_from : Place → List Statement → Result Deck Cause
deck_from place [] = ended_with place.job place
deck_from place (s ∷ statements) = deck_behind (behind place s) (λ next. deck_from next statements)

-- the deck that statements are, or its first refusal
abbrev pub deck_of : List Statement → Result Deck Cause
deck_of statements = deck_from start statements
