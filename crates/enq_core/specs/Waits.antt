-- What is noted of jobs that wait for names.
use Rattle.std.specs.Prelude.{List, All}
use Rattle.enq_core.specs.declared.table.Hold.{Hold}
use Rattle.enq_core.specs.declared.waits.Wait.{Wait}
use Rattle.enq_core.specs.Holds.{IsFirstBlock}
use Rattle.enq_core.specs.Order.{AreInOrder}

-- what is noted stands in the way among these holds
abbrev pub AreRight : List Hold → List Wait → Type 0
AreRight holds waits = All (λ wait. IsFirstBlock holds wait.wants wait.blocked) waits

-- holds stand in the order in which they were held, and what is noted is right
pub record IsTable (holds : List Hold) (waits : List Wait) : Type 0 where
  pub in_order : AreInOrder holds
  pub right : AreRight holds waits
