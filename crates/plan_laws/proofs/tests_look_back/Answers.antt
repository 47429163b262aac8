use Rattle.plan_laws.proofs.Tests.{tests_look_back}
use Rattle.plan_laws.proofs.tests_look_back.Goals as goal

pub returns : goal.returns
returns c = tests_look_back
