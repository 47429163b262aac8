use Rattle.std.proofs.lemmas.Result.{on_ok_weaker}
use Rattle.mvt_check.specs.Cards.{IsPutAmong}
use Rattle.mvt_check.proofs.asides.put_read.Goals as goal

pub returns : goal.returns
returns c =
    on_ok_weaker c.put_aside.result
    (λ (put : IsPutAmong c.in_ok-aside.aside c.put_aside.new.asides.items).
    record { aside = c.in_ok-aside.aside; there = put; begins = c.in_ok-aside.ensures })
    c.put_aside.ensures
