-- The actions of a printable plan are printable.
use Rattle.std.proofs.Common.{◌++◌, ◌+◌, ℕ, Bool, true, false, cond, List, [], ◌∷◌, Some, All}
use Rattle.std.specs.Str.{bytes_eq}
use Rattle.std.proofs.lemmas.List.Elements.{All-append, All-cons, All-head, All-nil, All-tail}
use Rattle.jcl_plan.specs.declared.plan.DdPlan.{DdPlan}
use Rattle.jcl_plan.specs.declared.plan.JobPlan.{JobPlan}
use Rattle.jcl_plan.specs.declared.plan.StepPlan.{StepPlan}
use Rattle.jcl_meaning.specs.declared.program.Move.{Move}
use Rattle.jcl_meaning.specs.declared.program.Move.TheVariants.{From, To}
use Rattle.jcl_meaning.specs.declared.program.Request.{Request}
use Rattle.jcl_meaning.specs.declared.program.Request.TheVariants.{Abend, End, Get, Put}
use Rattle.jcl_meaning.specs.declared.program.SoloProgram.{SoloProgram}
use Rattle.jcl_meaning.specs.Agendas.{Ask, Dispose, Finish, Left, Over, Receive, Start, Take, disposes_from, left_by, lefts_from, lefts_in, moves_from, step_actions, steps_from, takes_from}
use Rattle.jcl_meaning.specs.Plans.{passes}
use Rattle.jcl_meaning.specs.Programs.{is_iefbr14, moves_by, moves_in, moves_of, program_of}
use Rattle.print_laws.specs.Printable.{ArePrintablePrograms, IsPrintableAction, IsPrintableDd, IsPrintableMove, IsPrintablePlan, IsPrintableRequest, IsPrintableStep}
use Rattle.print_laws.specs.PrintLaws.{AgendasArePrintable}

-- the requests of a program
requests_printable : (requests : List Request) → All IsPrintableRequest requests → All IsPrintableMove (moves_in requests)
requests_printable [] h = All-nil IsPrintableMove
requests_printable (Get dd ∷ requests) h =
    All-cons IsPrintableMove (From dd) (moves_in requests) (All-head IsPrintableRequest (Get dd) requests h)
    (requests_printable requests (All-tail IsPrintableRequest (Get dd) requests h))
requests_printable (Put dd text ∷ requests) h =
    All-cons IsPrintableMove (To dd text) (moves_in requests) (All-head IsPrintableRequest (Put dd text) requests h)
    (requests_printable requests (All-tail IsPrintableRequest (Put dd text) requests h))
requests_printable (End code ∷ requests) h = All-nil IsPrintableMove
requests_printable (Abend code ∷ requests) h = All-nil IsPrintableMove

abbrev AreRequests : SoloProgram → Type 0
AreRequests program = All IsPrintableRequest program.requests

program_printable : (programs : List SoloProgram) (name : List ℕ) → ArePrintablePrograms programs → All IsPrintableMove (moves_by (program_of programs name))
program_printable [] name h = All-nil IsPrintableMove
program_printable (p ∷ ps) name h = by_name (bytes_eq p.name name) (program_printable ps name (All-tail AreRequests p ps h))
  where
    by_name : (b : Bool) → All IsPrintableMove (moves_by (program_of ps name)) → All IsPrintableMove (moves_by (cond b (Some p.requests) (program_of ps name)))
    by_name true later = requests_printable p.requests (All-head AreRequests p ps h)
    by_name false later = later

moves_printable : (programs : List SoloProgram) (name : List ℕ) → ArePrintablePrograms programs → All IsPrintableMove (moves_of programs name)
moves_printable programs name h = by_name (is_iefbr14 name)
  where
    by_name : (b : Bool) → All IsPrintableMove (cond b [] (moves_by (program_of programs name)))
    by_name true = All-nil IsPrintableMove
    by_name false = program_printable programs name h

-- the actions of DDs
takes_printable : (n dd : ℕ) (ds : List DdPlan) → All IsPrintableDd ds → All IsPrintableAction (takes_from n dd ds)
takes_printable n dd [] h = All-nil IsPrintableAction
takes_printable n dd (d ∷ ds) h =
    All-cons IsPrintableAction (Take n dd d) (takes_from n (dd + 1) ds) (All-head IsPrintableDd d ds h)
    (takes_printable n (dd + 1) ds (All-tail IsPrintableDd d ds h))

disposes_printable : (n dd : ℕ) (ds : List DdPlan) → All IsPrintableDd ds → All IsPrintableAction (disposes_from n dd ds)
disposes_printable n dd [] h = All-nil IsPrintableAction
disposes_printable n dd (d ∷ ds) h =
    All-cons IsPrintableAction (Dispose n dd d) (disposes_from n (dd + 1) ds) (All-head IsPrintableDd d ds h)
    (disposes_printable n (dd + 1) ds (All-tail IsPrintableDd d ds h))

left_printable : (b : Bool) (n dd : ℕ) (d : DdPlan) → IsPrintableDd d → All IsPrintableAction (cond b (Left n dd d ∷ []) [])
left_printable true n dd d h = All-cons IsPrintableAction (Left n dd d) [] h (All-nil IsPrintableAction)
left_printable false n dd d h = All-nil IsPrintableAction

lefts_printable : (n dd : ℕ) (ds : List DdPlan) → All IsPrintableDd ds → All IsPrintableAction (lefts_in n dd ds)
lefts_printable n dd [] h = All-nil IsPrintableAction
lefts_printable n dd (d ∷ ds) h =
    All-append IsPrintableAction (left_by n dd d) (lefts_in n (dd + 1) ds) (left_printable (passes d.kind) n dd d (All-head IsPrintableDd d ds h))
    (lefts_printable n (dd + 1) ds (All-tail IsPrintableDd d ds h))

-- those of a step
asks_printable : (step : StepPlan) (moves : List Move) → IsPrintableStep step → All IsPrintableMove moves → All IsPrintableAction (moves_from step moves)
asks_printable step [] s h = All-nil IsPrintableAction
asks_printable step (m ∷ ms) s h =
    All-cons IsPrintableAction (Ask step m) (Receive ∷ moves_from step ms) (s, All-head IsPrintableMove m ms h)
    (All-cons IsPrintableAction Receive (moves_from step ms) tt (asks_printable step ms s (All-tail IsPrintableMove m ms h)))

step_printable : (n : ℕ) (step : StepPlan) (moves : List Move) → IsPrintableStep step → All IsPrintableMove moves →
    All IsPrintableAction (step_actions n step moves)
step_printable n step moves s h =
    All-cons IsPrintableAction (Start n step) (takes_from n 1 step.dds ++ (moves_from step moves ++ (Finish n ∷ disposes_from n 1 step.dds))) s
    (All-append IsPrintableAction (takes_from n 1 step.dds) (moves_from step moves ++ (Finish n ∷ disposes_from n 1 step.dds))
    (takes_printable n 1 step.dds s.dds)
    (All-append IsPrintableAction (moves_from step moves) (Finish n ∷ disposes_from n 1 step.dds) (asks_printable step moves s h)
    (All-cons IsPrintableAction (Finish n) (disposes_from n 1 step.dds) tt (disposes_printable n 1 step.dds s.dds))))

-- and of all steps
steps_printable : (moves : List ℕ → List Move) (n : ℕ) (steps : List StepPlan) → ((name : List ℕ) → All IsPrintableMove (moves name)) →
    All IsPrintableStep steps → All IsPrintableAction (steps_from moves n steps)
steps_printable moves n [] each h = All-nil IsPrintableAction
steps_printable moves n (step ∷ steps) each h =
    All-append IsPrintableAction (step_actions n step (moves step.program)) (steps_from moves (n + 1) steps)
    (step_printable n step (moves step.program) (All-head IsPrintableStep step steps h) (each step.program))
    (steps_printable moves (n + 1) steps each (All-tail IsPrintableStep step steps h))

all_lefts_printable : (n : ℕ) (steps : List StepPlan) → All IsPrintableStep steps → All IsPrintableAction (lefts_from n steps)
all_lefts_printable n [] h = All-nil IsPrintableAction
all_lefts_printable n (step ∷ steps) h =
    All-append IsPrintableAction (lefts_in n 1 step.dds) (lefts_from (n + 1) steps)
    (lefts_printable n 1 step.dds (All-head IsPrintableStep step steps h).dds) (all_lefts_printable (n + 1) steps (All-tail IsPrintableStep step steps h))

agenda_printable : (plan : JobPlan) (programs : List SoloProgram) → IsPrintablePlan plan → ArePrintablePrograms programs →
    All IsPrintableAction (steps_from (moves_of programs) 1 plan.steps ++ (lefts_from 1 plan.steps ++ (Over ∷ [])))
agenda_printable plan programs p h =
    All-append IsPrintableAction (steps_from (moves_of programs) 1 plan.steps) (lefts_from 1 plan.steps ++ (Over ∷ []))
    (steps_printable (moves_of programs) 1 plan.steps (λ name. moves_printable programs name h) p.steps)
    (All-append IsPrintableAction (lefts_from 1 plan.steps) (Over ∷ []) (all_lefts_printable 1 plan.steps p.steps)
    (All-cons IsPrintableAction Over [] tt (All-nil IsPrintableAction)))

pub agendas_printable : AgendasArePrintable
agendas_printable = record {
  whole = agenda_printable;
  path = λ plan p. agenda_printable plan [] p (All-nil AreRequests);
}
