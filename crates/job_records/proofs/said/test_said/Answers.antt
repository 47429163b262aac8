use Rattle.std.proofs.Common.{◌≡◌, ◌+◌, ◌-◌, ◌*◌, ◌∙◌, arith, drop, take}
use Rattle.cb_meaning.specs.Readings.{step_test_read}
use Rattle.job_records.proofs.said.test_said.Goals as goal

pub returns : goal.returns
returns c =
    let five : 5 * c.args.test + 5 - 5 * c.args.test ≡ 5 = omega arith in
    c.step_test_read.ensures ∙ (λ i. step_test_read (take (five i) (drop (5 * c.args.test) (c.tests.ensures.value i))))
