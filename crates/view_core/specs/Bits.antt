-- Which tests are met, as a view keeps it: of the tests of the JOB statement, then of those of each step to come.
use Rattle.std.specs.Prelude.{ℕ, Bool, false, ◌||◌, List, ◌++◌, take, drop, length, map, zip, filter}
use Rattle.std.specs.List.{flat_map, list_any}
use Rattle.jcl_plan.specs.declared.outcome.Fate.{Fate}
use Rattle.jcl_plan.specs.declared.outcome.Outcome.{Outcome}
use Rattle.jcl_plan.specs.declared.plan.StepPlan.{StepPlan}
use Rattle.jcl_plan.specs.declared.plan.Test.{Test}
use Rattle.jcl_meaning.specs.History.{fate_of, looks_at, met_by}
use Rattle.view_core.specs.Shows.{Shows}

-- the tests that are kept before these steps
abbrev pub kept_tests : List Test → List StepPlan → List Test
kept_tests job later = job ++ flat_map (λ s. s.tests.items) later

-- a step is passed, and with it its own tests, which stand behind those of the JOB statement
abbrev pub bits_kept : ℕ → ℕ → List Bool → List Bool
bits_kept tests own bits = take tests bits ++ drop own (drop tests bits)

-- step n ended so: a test is met that it meets, or that was met before
abbrev pub bits_ended : ℕ → Outcome → List Test → List Bool → List Bool
bits_ended n o tests bits = map (λ p. met_by p.0 n o || p.1) (zip tests bits)

-- the tests that look at step n
abbrev pub looking : ℕ → List Test → List Test
looking n tests = filter (λ test. looks_at test.step n) tests

-- what becomes of a step, where so many tests stand in the JOB statement
abbrev pub some_met : List Bool → Bool
some_met bits = list_any (λ b. b) bits

abbrev pub fate_shown : ℕ → StepPlan → Shows → Fate
fate_shown tests step v = fate_of false (some_met (take tests v.met)) step.after_abend v.abended
    (some_met (take (length step.tests.items) (drop tests v.met)))
