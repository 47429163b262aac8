use Rattle.std.proofs.Common.{arith, refl}
use Rattle.cb_meaning.specs.Codes.{job_test_bytes}
use Rattle.cb_chain.proofs.PutBehind.{more_put}
use Rattle.cb_chain.proofs.texts.job_tests.Goals as goal

pub loop-i-preserved : goal.loop-i-preserved
loop-i-preserved c =
    let few = c.as_slice-tests.ensures.fits in
    more_put job_test_bytes 3 24 c.as_slice-tests.result.now c.loop-i.i c.index-tests-i.result c.loop-i.own c.put_behind.new.own c.job_test_bytes.result
    (λ t. refl) (omega (arith, few)) c.loop-i-test.true c.index-tests-i.is c.job_test_bytes.ensures c.loop-i.invariant c.put_behind.ensures
