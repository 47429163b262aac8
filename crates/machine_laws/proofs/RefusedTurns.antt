-- Of a job's turns only an action tells SB37: a request, and alone.
use Rattle.std.proofs.Common.{◌≡◌, ℕ, zero, suc, Bool, true, false, List, [], ◌∷◌, arith, Option, refl, sym, ap, ◌∙◌}
use Rattle.std.specs.Prelude.{◌||◌}
use Rattle.std.specs.List.{Contains, list_any}
use Rattle.std.proofs.lemmas.Bool.{both_ways, or_from, or_right}
use Rattle.jcl_plan.specs.declared.entry.Entry.{Entry}
use Rattle.jcl_plan.specs.declared.entry.Entry.TheVariants as entry
use Rattle.jcl_plan.specs.declared.entry.JobLine.{JobLine}
use Rattle.jcl_plan.specs.declared.entry.JobLine.TheVariants as line
use Rattle.jcl_plan.specs.declared.outcome.Abend.TheVariants.{SB37}
use Rattle.jcl_plan.specs.declared.plan.JobPlan.{JobPlan}
use Rattle.jcl_plan.specs.declared.plan.StepPlan.{StepPlan}
use Rattle.jcl_meaning.specs.declared.program.Move.{Move}
use Rattle.jcl_meaning.specs.declared.state.Own.{Own}
use Rattle.jcl_meaning.specs.Agendas.{Ask, Over}
use Rattle.jcl_meaning.specs.States.{Fixed}
use Rattle.turn_laws.specs.Decided.{JobsEndWithOver}
use Rattle.world_meaning.specs.Admissions.{Answered, MayFail, assured, fixed_at, no_space, refused, risk, risky, too_many}
use Rattle.world_meaning.specs.Choices.{AtAction, Choice, choice_of_advance, choice_of_going}
use Rattle.world_meaning.specs.Holdings.{Holds, ReadsRecords, blocked, broken, held, read as reads_plan}
use Rattle.world_meaning.specs.Transitions.{GoesOn}
use Rattle.world_meaning.specs.Turns.{Advanced, Advances, acts as does_act, ends, has_cancel, waits}
use Rattle.world_meaning.specs.Worlds.{Admission, Admitted, Config, Named, Running, Selected, Shared, Stage, Wanting}
use Rattle.machine_laws.proofs.RefusedActs.{Asks, none, one, turn_asks}
use Rattle.machine_laws.proofs.RefusedLines.{is_sb37}

-- the choice that an event leaves is an action of this job: a request with SB37 alone
pub record IsRequest (c : Choice) (job : ℕ) : Type 0 where
  pub cancel : Bool
  pub admission : Admission
  pub x : Advanced
  pub growth : Bool
  pub primary : Bool
  pub chosen : c ≡ AtAction job cancel admission x growth primary
  pub step : StepPlan
  pub move : Move
  pub asks : x.action ≡ Ask step move
  pub told : x.done.lines ≡ line.Abend SB37 ∷ []

abbrev pub sb37 : JobLine
sb37 = line.Abend SB37

-- an entry that is such a line, whichever its job
abbrev pub tells_sb37 : Entry → Bool
tells_sb37 (entry.Job job l) = is_sb37 l
tells_sb37 other = false

-- a line that is there is found
found : {X : Type 0} (test : X → Bool) (told : X) (lines : List X) → Contains lines told → test told ≡ true → list_any test lines ≡ true
found test told [] (n, less, is) e = let no : ⊥ = omega (arith, less) in absurd no
found test told (l ∷ lines) (zero, less, is) e = ap (λ (b : Bool). b || list_any test lines) (ap test is ∙ e)
found test told (l ∷ lines) (suc n, less, is) e = or_right (test l) (list_any test lines) (found test told lines (n, omega (arith, less), is) e)

-- lines without an SB37 hold none
none_there : (lines : List JobLine) → list_any is_sb37 lines ≡ false → Contains lines sb37 → ⊥
none_there lines h there = absurd (both_ways (list_any is_sb37 lines) h (found is_sb37 sb37 lines there refl))

none_among : (lines told : List JobLine) → lines ≡ told → list_any is_sb37 told ≡ false → Contains lines sb37 → ⊥
none_among lines told is h = none_there lines (ap (list_any is_sb37) is ∙ h)

pub none_told : (lines told : List Entry) → lines ≡ told → list_any tells_sb37 told ≡ false → (job : ℕ) → Contains lines (entry.Job job sb37) → ⊥
none_told lines told is h job there =
    absurd (both_ways (list_any tells_sb37 lines) (ap (list_any tells_sb37) is ∙ h) (found tells_sb37 (entry.Job job sb37) lines there refl))

-- a turn of a job
module _ (over : JobsEndWithOver) (c : Config) (old : Shared) (r : Running) (lines : List JobLine) (new : Shared) (runs : Option Running)
    (there : Contains lines sb37) where
  in_holds : (plan : JobPlan) → Holds old r plan lines new runs → ⊥
  in_holds plan (held free told n on) = none_among lines _ told refl there
  in_holds plan (blocked by is told n on) = none_among lines _ told refl there

  in_reading : (first : ℕ) → ReadsRecords c old r first lines new runs → ⊥
  in_reading first (broken n free f told e conserved gone) = none_among lines _ told refl there
  in_reading first (reads_plan plan rest denoted h) = in_holds plan h

  in_failing : (plan : JobPlan) (fixed : Fixed) (told : JobLine) → is_sb37 told ≡ false → MayFail c old r plan fixed told lines new runs → ⊥
  in_failing plan fixed told other (risky b t n on) = none_among lines _ t (or_from (is_sb37 told) false other refl) there
  in_failing plan fixed told other (refused free b t n conserved gone) = none_among lines _ t (or_from (is_sb37 told) false other refl) there

  in_answer : (plan : JobPlan) (fixed : Fixed) → Answered c old r plan fixed lines new runs → ⊥
  in_answer plan fixed (assured places kept free safe made are others t n conserved on) = none_among lines _ t refl there
  in_answer plan fixed (no_space serial among t n on) = none_among lines _ t refl there
  in_answer plan fixed (risk fault step dd path meets m) = in_failing plan fixed _ refl m
  in_answer plan fixed (too_many step low high views m) = in_failing plan fixed _ refl m

  of_over : (x : Advanced) → lines ≡ x.done.lines → x.action ≡ Over → Asks x → ⊥
  of_over x told last (none h) = none_among lines _ told h there
  of_over x told last (one step move is h) = let no : Over ≡ Ask step move = sym last ∙ is in absurd cc

  in_advance : (plan : JobPlan) (a : Admission) (count : ℕ) (own : Own) (g : Advances c old r plan a count own lines new runs) →
      IsRequest (choice_of_advance g) r.job
  in_advance plan a count own (waits x growth primary is must told n on) = absurd (none_among lines [] told refl there)
  in_advance plan a count own (does_act x growth primary free is grants further more told n conserved on) =
      by (turn_asks c old r.job plan a count own growth primary x is)
    where
      by : Asks x → IsRequest (AtAction r.job (has_cancel old.cancels r.job) a x growth primary) r.job
      by (none h) = absurd (none_among lines _ told h there)
      by (one step move asked h) = record {
        cancel = has_cancel old.cancels r.job;
        admission = a;
        x = x;
        growth = growth;
        primary = primary;
        chosen = refl;
        step = step;
        move = move;
        asks = asked;
        told = h;
      }
  in_advance plan a count own (ends x growth primary free is grants further last told n conserved off) =
      absurd (of_over x told (over c old r.job plan a count own growth primary x is last) (turn_asks c old r.job plan a count own growth primary x is))

  pub in_stage : (stage : Stage) (g : GoesOn c old r stage lines new runs) → IsRequest (choice_of_going c old r stage lines new runs g) r.job
  in_stage (Selected first) g = absurd (in_reading first g)
  in_stage (Wanting plan) g = absurd (in_holds plan g)
  in_stage (Named plan) g = absurd (in_answer plan (fixed_at c old r.job plan g.places) g.answers)
  in_stage (Admitted plan a count own) g = in_advance plan a count own g
