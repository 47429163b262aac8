-- How the tests of a JOB statement and those of a step are read, each of so many bytes.
use Rattle.std.specs.Prelude.{ℕ, List}
use Rattle.jcl_plan.specs.declared.plan.Test.{Test}
use Rattle.cb_meaning.specs.Readings.{job_test_read, step_test_read}
use Rattle.cb_read.specs.declared.tests_read.TestsOf.{TestsOf}
use Rattle.cb_read.specs.declared.tests_read.TestsOf.TheVariants as tests_of

abbrev pub width_of : TestsOf → ℕ
width_of tests_of.Job = 3
width_of tests_of.Step = 5

abbrev pub test_read : TestsOf → List ℕ → Test
test_read tests_of.Job = job_test_read
test_read tests_of.Step = step_test_read
