-- Decks, and the plans of their jobs, or their first refusal. (This profile)
use Rattle.std.specs.Prelude.{◌≡◌, ℕ, zero, suc, List, [], ◌∷◌, codes, Some, None, Result, Ok, Err}
use Rattle.jname_core.specs.declared.key.Key.{Key}
use Rattle.jname_core.specs.declared.key.Key.TheVariants.{Named, Unnamed}
use Rattle.jcl_plan.specs.declared.fault.Cause.{Cause}
use Rattle.jcl_plan.specs.declared.fault.Cause.TheVariants.{P}
use Rattle.jcl_plan.specs.declared.fault.StatementFault.TheVariants.{ExcludeOneAnother, ForwardReference, ReferenceToNothing, TestOfNoEarlierStep, TooManyDdNames, UnknownUnit}
use Rattle.jcl_plan.specs.declared.plan.AfterAbend.TheVariants.{Unsaid}
use Rattle.jcl_plan.specs.declared.plan.DdKind.{DdKind}
use Rattle.jcl_plan.specs.declared.plan.DdKind.TheVariants.{Dummy, Set, Sysout}
use Rattle.jcl_plan.specs.declared.plan.DdPlan.{DdPlan}
use Rattle.jcl_plan.specs.declared.plan.Expiry.TheVariants as expiry
use Rattle.jcl_plan.specs.declared.plan.Operator.TheVariants.{Eq}
use Rattle.jcl_plan.specs.declared.plan.SetPlan.{SetPlan}
use Rattle.jcl_plan.specs.declared.plan.Status.TheVariants.{New}
use Rattle.jcl_plan.specs.declared.plan.StepPlan.{StepPlan}
use Rattle.jcl_plan.specs.declared.plan.VolumePlan.{VolumePlan}
use Rattle.jcl_plan.specs.declared.plan.VolumePlan.TheVariants as volume
use Rattle.jcl_deck.specs.Decks.{deck_of}
use Rattle.jcl_procs.specs.Examples.{library, statements_in}
use Rattle.jcl_procs.specs.Expansions.{and_then, flat_of}
use Rattle.jcl_refs.specs.Plans.{plan_of}

-- the steps of a deck that begins with a plain JOB statement; there are two names of units
abbrev pub planned : List (List ℕ) → Result (List StepPlan) Cause
planned lines =
    and_then (statements_in (codes "//J JOB 1" ∷ lines)) (λ statements. and_then (deck_of statements) (λ deck. and_then (flat_of library deck) (λ steps.
    and_then (plan_of (codes "DISK" ∷ codes "SYSDA" ∷ []) deck.job steps) (λ plan. Ok plan.steps))))

abbrev pub of_dds : List (List ℕ) → Result (List StepPlan) Cause
of_dds lines = planned (codes "//S EXEC PGM=X" ∷ lines)

abbrev pub step_with : List ℕ → List DdPlan → StepPlan
step_with name dds =
    record { name = Some name; procedure_step = None; program = codes "X"; after_abend = Unsaid; tests = record { items = [] }; dds = dds }

abbrev pub one_step : List DdPlan → Result (List StepPlan) Cause
one_step dds = Ok (step_with (codes "S") dds ∷ [])

abbrev pub dd : List ℕ → DdKind → DdPlan
dd name kind = record { name = Some name; kind = kind }

abbrev pub set_of : Key → SetPlan
set_of key = record {
  key = key;
  status = New;
  normal = None;
  conditional = None;
  volume = volume.NotCoded;
  units = None;
  space = None;
  expiry = expiry.NotCoded;
}

abbrev pub set : Key → DdKind
set key = Set (set_of key)

abbrev pub set_on : Key → VolumePlan → DdKind
set_on key where_it_is = Set (record (set_of key) { volume = where_it_is })

-- so many DDs that look for a later one
abbrev pub later : ℕ → List (List ℕ)
later zero = []
later (suc n) = codes "//D DD DDNAME=E" ∷ later n

abbrev pub a : Key
a = Named (codes "A")

pub record Plans : Type 0 where
  pub unnamed : of_dds (codes "//D DD" ∷ []) ≡ one_step (dd (codes "D") (set (Unnamed 1 1)) ∷ [])
  pub null_file : of_dds (codes "//D DD DSN=NULLFILE,DISP=OLD" ∷ []) ≡ one_step (dd (codes "D") Dummy ∷ [])
  pub name_of_a_dd : of_dds (codes "//D DD DSN=A" ∷ codes "//E DD DSN=*.D" ∷ [])
      ≡ one_step (dd (codes "D") (set a) ∷ dd (codes "E") (set a) ∷ [])
  pub stem : of_dds (codes "//D DD" ∷ codes "//E DD DSN=*.D" ∷ codes "//F DD DSN=*.E" ∷ [])
      ≡ one_step (dd (codes "D") (set (Unnamed 1 1)) ∷ dd (codes "E") (set (Unnamed 1 1)) ∷ dd (codes "F") (set (Unnamed 1 1)) ∷ [])
  pub name_of_a_dummy : of_dds (codes "//D DD DUMMY" ∷ codes "//E DD DSN=*.D" ∷ []) ≡ one_step (dd (codes "D") Dummy ∷ dd (codes "E") Dummy ∷ [])
  pub volume_of_a_dd : of_dds (codes "//D DD DSN=A" ∷ codes "//E DD DSN=B,VOL=REF=*.D" ∷ [])
      ≡ one_step (dd (codes "D") (set a) ∷ dd (codes "E") (set_on (Named (codes "B")) (volume.OfDd 1 1)) ∷ [])
  pub volume_of_a_dummy : of_dds (codes "//D DD DUMMY" ∷ codes "//E DD DSN=B,VOL=REF=*.D" ∷ []) ≡ Err (P ReferenceToNothing)
  pub volume_for_a_dummy : of_dds (codes "//D DD DUMMY" ∷ codes "//E DD DUMMY,VOL=REF=*.D" ∷ []) ≡ one_step (dd (codes "D") Dummy ∷ dd (codes "E") Dummy ∷ [])
  pub blocks_of_a_dummy : of_dds (codes "//D DD DUMMY" ∷ codes "//E DD DUMMY,DCB=*.D" ∷ []) ≡ one_step (dd (codes "D") Dummy ∷ dd (codes "E") Dummy ∷ [])
  pub of_output : of_dds (codes "//D DD SYSOUT=A" ∷ codes "//E DD DUMMY,DCB=*.D" ∷ []) ≡ Err (P ReferenceToNothing)
  pub of_none : of_dds (codes "//D DD DSN=*.E" ∷ []) ≡ Err (P ReferenceToNothing)
  pub of_itself : of_dds (codes "//D DD DSN=*.D" ∷ []) ≡ Err (P ForwardReference)
  pub of_a_later_one : of_dds (codes "//D DD DSN=*.E" ∷ codes "//E DD" ∷ []) ≡ Err (P ForwardReference)
  pub of_a_later_step : planned (codes "//S EXEC PGM=X" ∷ codes "//D DD DSN=*.T.E" ∷ codes "//T EXEC PGM=X" ∷ codes "//E DD" ∷ []) ≡ Err (P ForwardReference)
  pub of_an_earlier_step : planned (codes "//S EXEC PGM=X" ∷ codes "//D DD DSN=A" ∷ codes "//T EXEC PGM=X" ∷ codes "//E DD DSN=*.S.D" ∷ [])
      ≡ Ok (step_with (codes "S") (dd (codes "D") (set a) ∷ []) ∷ step_with (codes "T") (dd (codes "E") (set a) ∷ []) ∷ [])
  pub of_a_step_of_a_call : planned (codes "//C EXEC COPY" ∷ codes "//T EXEC PGM=X" ∷ codes "//E DD VOL=REF=*.C.P1.OUT" ∷ codes "//F DD DSN=*.C.OUT" ∷ [])
      ≡ Err (P ReferenceToNothing)
  pub later_dd : of_dds (codes "//D DD DDNAME=E" ∷ codes "//F DD SYSOUT=A" ∷ codes "//E DD DSN=A" ∷ codes "// DD DUMMY" ∷ [])
      ≡ one_step (dd (codes "D") (set a) ∷ record { name = None; kind = Dummy } ∷ dd (codes "F") (Sysout 65) ∷ [])
  pub no_later_dd : of_dds (codes "//D DD DDNAME=E" ∷ []) ≡ one_step (dd (codes "D") Dummy ∷ [])
  pub later_dd_of_a_later_one : of_dds (codes "//D DD DDNAME=E" ∷ codes "//E DD DDNAME=F" ∷ codes "//F DD DSN=A" ∷ []) ≡ one_step (dd (codes "D") (set a) ∷ [])
  pub taken_by_another : of_dds (codes "//D DD DDNAME=E" ∷ codes "//E DD DSN=A" ∷ codes "//F DD DSN=*.E" ∷ []) ≡ Err (P ReferenceToNothing)
  pub five : of_dds (later 5) ≡ one_step (dd (codes "D") Dummy ∷ dd (codes "D") Dummy ∷ dd (codes "D") Dummy ∷ dd (codes "D") Dummy ∷ dd (codes "D") Dummy ∷ [])
  pub six : of_dds (later 6) ≡ Err (P TooManyDdNames)
  pub uncataloged : of_dds (codes "//D DD DSN=&&T,DISP=(NEW,UNCATLG)" ∷ []) ≡ Err (P ExcludeOneAnother)
  pub uncataloged_after_abend : of_dds (codes "//D DD DISP=(,,UNCATLG)" ∷ []) ≡ Err (P ExcludeOneAnother)
  pub unknown_unit : of_dds (codes "//D DD DUMMY,UNIT=TAPE" ∷ []) ≡ Err (P UnknownUnit)
  pub on_a_unit : of_dds (codes "//D DD DSN=A,UNIT=SYSDA" ∷ []) ≡ one_step (dd (codes "D") (Set (record (set_of a) { units = Some 2 })) ∷ [])
  pub forward_before_unit : of_dds (codes "//D DD DUMMY,UNIT=TAPE" ∷ codes "//E DD DSN=*.E" ∷ []) ≡ Err (P ForwardReference)
  pub test_of_itself : planned (codes "//S EXEC PGM=X,COND=(0,EQ,S)" ∷ []) ≡ Err (P TestOfNoEarlierStep)
  pub test_of_an_earlier_step : planned (codes "//S EXEC PGM=X" ∷ codes "//T EXEC PGM=X,COND=(4,EQ,S)" ∷ [])
      ≡ Ok (step_with (codes "S") [] ∷ record (step_with (codes "T") []) { tests = record { items = record { code = 4; operator = Eq; step = Some 1 } ∷ [] } } ∷ [])
  pub tests_before_dds : planned (codes "//S EXEC PGM=X" ∷ codes "//D DD DSN=*.D" ∷ codes "//T EXEC PGM=X,COND=(4,EQ,T)" ∷ []) ≡ Err (P ForwardReference)
  pub tests_first : planned (codes "//S EXEC PGM=X,COND=(4,EQ,T)" ∷ codes "//D DD DSN=*.D" ∷ []) ≡ Err (P TestOfNoEarlierStep)
