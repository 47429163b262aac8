-- The steps of a job, walked through, spell those that are read of them.
use Rattle.std.proofs.Common.{◌≡◌, ℕ, zero, suc, ◌+◌, ◌≤◌, ◌==◌, Bool, true, false, cond, List, [], ◌∷◌, ◌++◌, length, take, None, refl, sym, ap, ◌∙◌, subst, arith, inl, inr, eqb-true}
use Rattle.std.specs.Prelude.{Result, Ok, Err, if◌then◌else◌}
use Rattle.std.proofs.lemmas.Bool.{cases_Bool, eqb-false}
use Rattle.std.proofs.lemmas.List.{append_assoc, length-append}
use Rattle.jcl_plan.specs.declared.plan.StepPlan.{StepPlan}
use Rattle.cb_meaning.specs.declared.layout.Layout.{Layout}
use Rattle.cb_meaning.specs.Fields.{byte_at, number_at, part}
use Rattle.cb_meaning.specs.Layouts.{all_apart, siot_places}
use Rattle.cb_meaning.specs.Readings.{dds_read, step_read, steps_read}
use Rattle.cb_meaning.specs.Spelled.{Records, StepChain, sct}
use Rattle.cb_meaning.specs.Walks.{and_then, arrival_fault, lowest, sct_faults, sct_tests, unless_fault, walk_dds, walk_steps, with_dds}
use Rattle.cb_meaning.specs.Writable.{AreDds, AreSteps, BeginsNamed, IsStepAt, most_dds}
use Rattle.walk_laws.specs.WalkLaws.{AreRecords}
use Rattle.walk_laws.proofs.faultless.DdChains.{Out, dds_walked}
use Rattle.walk_laws.proofs.faultless.Earlier.{length_steps, step_marks, steps_more}
use Rattle.walk_laws.proofs.faultless.Heads.{SctFine, sct_fine, sct_spelled}
use Rattle.walk_laws.proofs.faultless.Names.{name_in, name_of}
use Rattle.walk_laws.proofs.faultless.Passing.{Passes, passes_both, passes_first, passes_none}
use Rattle.walk_laws.proofs.faultless.Tests.{are_step_tests}
use Rattle.walk_laws.proofs.faultless.Told.{arrives, counted, first_of, not_refused, one_more, rest_of, then_parts, unless_parts}

steps_spent : (l : Layout) (units : ℕ) (q : Records) (job stated : ℕ) (steps : List (List Bool)) (seen : List ℕ) (n : ℕ) (met : List ℕ) →
    walk_steps l units q job 0 stated steps seen n ≡ Ok met → ⊥
unfolding walk_steps
steps_spent l units q job stated steps seen n met h = cc

steps_end : (l : Layout) (units : ℕ) (q : Records) (job fuel stated : ℕ) (steps : List (List Bool)) (seen : List ℕ) (n : ℕ) (met : List ℕ) →
    (n == 0) ≡ true → walk_steps l units q job (suc fuel) stated steps seen n ≡ Ok met → ((length steps == stated) ≡ true) × (seen ≡ met)
unfolding walk_steps
steps_end l units q job fuel stated steps seen n met e h = counted (length steps == stated) 5 seen met (first_of (n == 0) _ _ met e h)

-- a step that is passed
record StepStep (l : Layout) (units : ℕ) (q : Records) (job fuel stated : ℕ) (steps : List (List Bool)) (seen : List ℕ) (n : ℕ) (met : List ℕ) : Type 0 where
  read : Out
  arrival : arrival_fault l q job sct seen n ≡ None
  room : (length steps == l.most_steps) ≡ false
  faults : lowest (sct_faults l (length steps + 1) (q.at n)) ≡ None
  dds : walk_dds l units q job (l.most_records + 1) (number_at (q.at n) l.dds) steps [] (n ∷ seen) (number_at (q.at n) l.first_dd) ≡ Ok read
  goes : walk_steps l units q job fuel stated (with_dds steps read.0) read.1 (number_at (q.at n) l.next_step) ≡ Ok met

step_step : (l : Layout) (units : ℕ) (q : Records) (job fuel stated : ℕ) (steps : List (List Bool)) (seen : List ℕ) (n : ℕ) (met : List ℕ) →
    (n == 0) ≡ false → walk_steps l units q job (suc fuel) stated steps seen n ≡ Ok met → StepStep l units q job fuel stated steps seen n met
unfolding walk_steps
step_step l units q job fuel stated steps seen n met e h =
    let behind : Out → Result (List ℕ) ℕ = λ read. walk_steps l units q job fuel stated (with_dds steps read.0) read.1 (number_at (q.at n) l.next_step) in
    let below = walk_dds l units q job (l.most_records + 1) (number_at (q.at n) l.dds) steps [] (n ∷ seen) (number_at (q.at n) l.first_dd) in
    let told = lowest (sct_faults l (length steps + 1) (q.at n)) in
    let on : Unit {0} → Result (List ℕ) ℕ = λ _. and_then below behind in
    let a = unless_parts (arrival_fault l q job sct seen n) (λ _. if length steps == l.most_steps then Err 10 else unless_fault told on) met
    (rest_of (n == 0) _ _ met e h) in
    let b = not_refused (length steps == l.most_steps) 10 (unless_fault told on) met a.1 in
    let c = unless_parts told on met b.1 in
    let g = then_parts below behind met c.1 in
    record { read = g.0; arrival = a.0; room = b.0; faults = c.0; dds = g.1; goes = g.2 }

none_read : (l : Layout) (q : Records) (fuel n : ℕ) → (n == 0) ≡ true → steps_read l q (suc fuel) n ≡ []
unfolding steps_read
none_read l q fuel n e = ap (λ b. cond b [] (step_read l q (q.at n) ∷ steps_read l q fuel (number_at (q.at n) l.next_step))) e

pub more_read : (l : Layout) (q : Records) (fuel n : ℕ) → (n == 0) ≡ false →
    steps_read l q (suc fuel) n ≡ step_read l q (q.at n) ∷ steps_read l q fuel (number_at (q.at n) l.next_step)
unfolding steps_read
more_read l q fuel n e = ap (λ b. cond b [] (step_read l q (q.at n) ∷ steps_read l q fuel (number_at (q.at n) l.next_step))) e

pub record StepsWalked (l : Layout) (units : ℕ) (q : Records) (job stated : ℕ) (all done : List StepPlan) (seen : List ℕ) (n : ℕ) (met : List ℕ)
    (steps : List StepPlan) : Type 0 where
  pub numbers : List ℕ
  pub chain : StepChain l q job n numbers steps
  pub passes : Passes seen numbers met
  pub count : length done + length steps ≡ stated
  pub few : length done ≤ l.most_steps → length done + length steps ≤ l.most_steps
  pub fits : AreSteps units all (length (step_marks done) + 1) steps

module _ (l : Layout) (own : all_apart (siot_places l) ≡ true) (units : ℕ) (q : Records) (job : ℕ) (known : AreRecords q) (all : List StepPlan) where
  abbrev Walked : ℕ → List StepPlan → List ℕ → ℕ → List ℕ → List StepPlan → Type 0
  Walked stated done seen n met steps = StepsWalked l units q job stated all done seen n met steps

  ended : (fuel stated : ℕ) (done : List StepPlan) (seen : List ℕ) (n : ℕ) (met : List ℕ) (steps : List StepPlan) → (n == 0) ≡ true → steps ≡ [] →
      walk_steps l units q job (suc fuel) stated (step_marks done) seen n ≡ Ok met → Walked stated done seen n met steps
  ended fuel stated done seen n met steps e none h =
      let stop = steps_end l units q job fuel stated (step_marks done) seen n met e h in
      let same = eqb-true (length (step_marks done)) stated stop.0 in
      let size = length_steps done in
      let end : n ≡ 0 = eqb-true n 0 e in
      let Ends : List StepPlan → Type 0 = Walked stated done seen n met in
      let nothing : Ends [] = record {
        numbers = [];
        chain = (end, refl);
        passes = passes_none seen met (sym stop.1);
        count = omega (arith, same, size);
        few = λ low. omega (arith, low);
        fits = tt;
      } in
      subst Ends (sym none) nothing

  -- the step that an SCT and its DDs say is fit for its place
  step_fits : (k : ℕ) (r : List ℕ) → SctFine l k r → (length (dds_read l q (l.most_records + 1) (number_at r l.first_dd)) ≤ most_dds) →
      BeginsNamed (dds_read l q (l.most_records + 1) (number_at r l.first_dd)) →
      AreDds units all k 1 (dds_read l q (l.most_records + 1) (number_at r l.first_dd)) → IsStepAt units all k (step_read l q r)
  step_fits k r fine few begins dds = record {
    name = name_in (part r 16 8) fine.name;
    procedure_step = name_in (part r 24 8) fine.procedure_step;
    program = name_of (part r 32 8) fine.program;
    tests = are_step_tests k (take (byte_at r 15) (sct_tests r)) fine.tests fine.earlier;
    few_dds = few;
    begins_named = begins;
    dds = dds;
  }

  stepped : (fuel stated : ℕ) (done : List StepPlan) (seen : List ℕ) (n : ℕ) (met : List ℕ) (rest : List StepPlan) →
      all ≡ done ++ step_read l q (q.at n) ∷ rest → (step : StepStep l units q job fuel stated (step_marks done) seen n met) →
      ((more : List StepPlan) → all ≡ more ++ rest →
      walk_steps l units q job fuel stated (step_marks more) step.read.1 (number_at (q.at n) l.next_step) ≡ Ok met →
      Walked stated more step.read.1 (number_at (q.at n) l.next_step) met rest) → Walked stated done seen n met (step_read l q (q.at n) ∷ rest)
  stepped fuel stated done seen n met rest whole step later =
      let r = q.at n in
      let here = step_read l q r in
      let k = length (step_marks done) + 1 in
      let came = arrives l q job sct seen n refl known step.arrival in
      let record_is = known n came.in_use in
      let fine = sct_fine l k r step.faults in
      let under = dds_walked l own units q job known all done rest here whole (l.most_records + 1) (number_at r l.dds) [] (n ∷ seen)
      (number_at r l.first_dd) step.read refl (omega arith) step.dds in
      let more = done ++ here ∷ [] in
      let next = number_at r l.next_step in
      let marks : step_marks more ≡ with_dds (step_marks done) step.read.0 = steps_more done here ∙ ap (with_dds (step_marks done)) (sym under.marks) in
      let goes : walk_steps l units q job fuel stated (step_marks more) step.read.1 next ≡ Ok met =
      ap (λ (ms : List (List Bool)). walk_steps l units q job fuel stated ms step.read.1 next) marks ∙ step.goes in
      let after = later more (whole ∙ sym (append_assoc done (here ∷ []) rest)) goes in
      let size = length-append done (here ∷ []) in
      let marked = length_steps done in
      let all_marked = length_steps more in
      let counted_is = after.count in
      let longer = after.few in
      let other = eqb-false (length (step_marks done)) l.most_steps step.room in
      let dds_count = under.count in
      let count : number_at r l.dds ≡ length here.dds = omega (arith, dds_count) in
      let few_dds : length here.dds ≤ most_dds = (let few = under.few (omega arith) in omega (arith, few)) in
      let place : length (step_marks more) + 1 ≡ k + 1 = omega (arith, all_marked, size, marked) in
      record {
        numbers = n ∷ (under.numbers ++ after.numbers);
        chain = (under.numbers, after.numbers, refl, came.owned, sct_spelled l q k r record_is fine count, under.chain, after.chain);
        passes = passes_first n seen (under.numbers ++ after.numbers) met came.new
            (passes_both (n ∷ seen) under.numbers step.read.1 after.numbers met under.passes after.passes);
        count = omega (arith, size, counted_is);
        few = λ low. (let short = longer (one_more (length (step_marks done)) (length done) (length more) l.most_steps marked size other low) in
            omega (arith, size, short));
        fits = (step_fits k r fine few_dds (under.begins refl) under.fits, subst (λ m. AreSteps units all m rest) place after.fits);
      }

  pub steps_walked : (fuel stated : ℕ) (done : List StepPlan) (seen : List ℕ) (n : ℕ) (met : List ℕ) → all ≡ done ++ steps_read l q fuel n →
      walk_steps l units q job fuel stated (step_marks done) seen n ≡ Ok met → Walked stated done seen n met (steps_read l q fuel n)
  steps_walked zero stated done seen n met whole h = absurd (steps_spent l units q job stated (step_marks done) seen n met h)
  steps_walked (suc fuel) stated done seen n met whole h =
      elim (cases_Bool (n == 0)) [
        | inl end ↦ ended fuel stated done seen n met (steps_read l q (suc fuel) n) end (none_read l q fuel n end) h
        | inr some ↦ (let step = step_step l units q job fuel stated (step_marks done) seen n met some h in
            let next = number_at (q.at n) l.next_step in
            let read = more_read l q fuel n some in
            subst (λ (ss : List StepPlan). Walked stated done seen n met ss) (sym read)
            (stepped fuel stated done seen n met (steps_read l q fuel next) (whole ∙ ap (λ (ss : List StepPlan). done ++ ss) read) step
            (λ more behind_is goes. steps_walked fuel stated more step.read.1 next met behind_is goes)))
      ]
