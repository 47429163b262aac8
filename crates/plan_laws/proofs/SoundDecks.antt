-- Records can spell the job that a deck denotes.
use Rattle.std.proofs.Common.{◌≡◌, ℕ, List, length, Result, Ok, Err, refl, sym, ap, ◌∙◌}
use Rattle.proc_library.specs.declared.library.LibraryProcedure.{LibraryProcedure}
use Rattle.card_core.specs.declared.fault.CardFault.{CardFault}
use Rattle.card_core.specs.declared.statement.Statement.{Statement}
use Rattle.card_core.specs.Deck.{statements_of}
use Rattle.card_core.specs.RefusalNumbers.{number_of}
use Rattle.jcl_plan.specs.declared.fault.Cause.{Cause}
use Rattle.jcl_plan.specs.declared.fault.Cause.TheVariants.{C}
use Rattle.jcl_plan.specs.declared.plan.JobPlan.{JobPlan}
use Rattle.jcl_deck.specs.Decks.{deck_of}
use Rattle.jcl_procs.specs.Expansions.{and_then, flat_of}
use Rattle.cb_meaning.specs.Writable.{IsWritable}
use Rattle.jcl_refs.specs.Plans.{most_steps, plan_of}
use Rattle.jcl_job.specs.Jobs.{job_in, job_of, statements_in}
use Rattle.deck_laws.proofs.Decks.{decks_are_sound}
use Rattle.deck_laws.proofs.Expansions.{steps_are_sound}
use Rattle.deck_laws.proofs.Given.{and_ok, same_ok}
use Rattle.deck_laws.proofs.Statements.{data_are_cards}
use Rattle.plan_laws.proofs.SoundPlans.{plan_is_writable}

-- the statements that are read are those that the lines denote
read_of : (lines : List (List ℕ)) (r : Result (List Statement) CardFault) (statements : List Statement) → statements_of lines ≡ r →
    statements_in lines ≡ Ok statements → r ≡ Ok statements
read_of lines (Err fault) statements is h =
    let e : statements_in lines ≡ Err (C (number_of fault)) = rw (is) refl in
    absurd (let no : (let r : Result (List Statement) Cause = Err (C (number_of fault)) in r) ≡ Ok statements = sym e ∙ h in cc)
read_of lines (Ok read) statements is h =
    let e : statements_in lines ≡ Ok read = rw (is) refl in
    ap (λ s. let r : Result (List Statement) CardFault = Ok s in r) (same_ok read statements (sym e ∙ h))

pub job_is_writable : (units : List (List ℕ)) (library : List LibraryProcedure) (lines : List (List ℕ)) (plan : JobPlan) →
    job_of units library lines ≡ Ok plan → IsWritable most_steps (length units) plan
job_is_writable units library lines plan is =
    let read = and_ok (statements_in lines) (λ statements. and_then (deck_of statements) (job_in units library)) plan is in
    let placed = and_ok (deck_of read.0) (job_in units library) plan read.2 in
    let deck = placed.0 in
    let expanded = and_ok (flat_of library deck) (plan_of units deck.job) plan placed.2 in
    let cards = data_are_cards lines read.0 (read_of lines (statements_of lines) read.0 refl read.1) in
    let sound = decks_are_sound read.0 deck cards placed.1 in
    let steps = steps_are_sound library deck expanded.0 sound expanded.1 in
    plan_is_writable units deck.job expanded.0 plan sound.job steps.0 steps.1 expanded.2
