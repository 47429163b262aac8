-- Records without a fault denote the job that is read from them.
use Rattle.std.proofs.Common.{◌≡◌, ℕ, zero, suc, ◌+◌, ◌≤◌, ◌==◌, false, List, [], ◌∷◌, length, take, None, refl, ap, arith}
use Rattle.std.specs.Prelude.{Result, Ok, Err, if◌then◌else◌}
use Rattle.cb_meaning.specs.declared.layout.Layout.{Layout}
use Rattle.cb_meaning.specs.Fields.{byte_at, number_at, part}
use Rattle.cb_meaning.specs.Layouts.{HasOwnFields}
use Rattle.cb_meaning.specs.Readings.{plan_read, steps_read}
use Rattle.cb_meaning.specs.Spelled.{Denotes, Records, jct}
use Rattle.cb_meaning.specs.Walks.{arrival_fault, jct_faults, jct_tests, lowest, unless_fault, walk_job, walk_steps}
use Rattle.walk_laws.specs.WalkLaws.{AreRecords, FaultlessDenotes}
use Rattle.walk_laws.proofs.faultless.Heads.{jct_fine, jct_spelled}
use Rattle.walk_laws.proofs.faultless.Names.{name_of}
use Rattle.walk_laws.proofs.faultless.Passing.{all_different}
use Rattle.walk_laws.proofs.faultless.StepChains.{more_read, steps_walked}
use Rattle.walk_laws.proofs.faultless.Tests.{are_job_tests}
use Rattle.walk_laws.proofs.faultless.Told.{arrives, none_told, not_refused, unless_parts}

record JobStep (l : Layout) (units : ℕ) (q : Records) (job n : ℕ) (met : List ℕ) : Type 0 where
  arrival : arrival_fault l q job jct [] n ≡ None
  faults : lowest (jct_faults l (q.at n)) ≡ None
  some : (number_at (q.at n) l.first_step == 0) ≡ false
  goes : walk_steps l units q job (l.most_records + 1) (number_at (q.at n) l.steps) [] (n ∷ []) (number_at (q.at n) l.first_step) ≡ Ok met

job_step : (l : Layout) (units : ℕ) (q : Records) (job n : ℕ) (met : List ℕ) → walk_job l units q job n ≡ Ok met → JobStep l units q job n met
job_step l units q job n met h =
    let steps = walk_steps l units q job (l.most_records + 1) (number_at (q.at n) l.steps) [] (n ∷ []) (number_at (q.at n) l.first_step) in
    let on : Unit {0} → Result (List ℕ) ℕ = λ _. if number_at (q.at n) l.first_step == 0 then Err 5 else steps in
    let a = unless_parts (arrival_fault l q job jct [] n) (λ _. unless_fault (lowest (jct_faults l (q.at n))) on) met h in
    let b = unless_parts (lowest (jct_faults l (q.at n))) on met a.1 in
    let c = not_refused (number_at (q.at n) l.first_step == 0) 5 steps met b.1 in
    record { arrival = a.0; faults = b.0; some = c.0; goes = c.1 }

-- the first link leads to a step
one_step : (l : Layout) (q : Records) (fuel n : ℕ) → 1 ≤ fuel → (n == 0) ≡ false → 1 ≤ length (steps_read l q fuel n)
one_step l q zero n h e = absurd (omega (arith, h))
one_step l q (suc fuel) n h e = let size = ap length (more_read l q fuel n e) in omega (arith, size)

walked_denotes : (l : Layout) (units : ℕ) (q : Records) (job n : ℕ) (met : List ℕ) → HasOwnFields l → AreRecords q → walk_job l units q job n ≡ Ok met →
    (behind : List ℕ) × Denotes l units q job (n ∷ behind) (plan_read l q n)
walked_denotes l units q job n met own known h =
    let step = job_step l units q job n met h in
    let r = q.at n in
    let first = number_at r l.first_step in
    let all = steps_read l q (l.most_records + 1) first in
    let came = arrives l q job jct [] n refl known step.arrival in
    let record_is = known n came.in_use in
    let fine = jct_fine l r step.faults in
    let under = steps_walked l own.siot units q job known all (l.most_records + 1) (number_at r l.steps) [] (n ∷ []) first met refl step.goes in
    let steps_count = under.count in
    let count : number_at r l.steps ≡ length all = omega (arith, steps_count) in
    let few : length all ≤ l.most_steps = (let short = under.few (omega arith) in omega (arith, short)) in (
      under.numbers,
      record {
        in_range = record {
          name = name_of (part r 16 8) fine.name;
          class = fine.class;
          priority = fine.priority;
          message_class = fine.message_class;
          tests = are_job_tests (take (byte_at r 24) (jct_tests r)) fine.tests;
          some_step = one_step l q (l.most_records + 1) first (omega arith) step.some;
          few_steps = few;
          steps = under.fits;
        };
        spelled = record {
          first = n;
          behind = under.numbers;
          begins = refl;
          once = all_different (n ∷ under.numbers) [] (refl, under.passes.new);
          owned = came.owned;
          head = jct_spelled l q n record_is fine count;
          steps = under.chain;
        };
      },
    )

pub faultless_denotes : FaultlessDenotes
faultless_denotes l units q job n own known h =
    let walked = none_told (walk_job l units q job n) h in
    walked_denotes l units q job n walked.0 own known walked.1
