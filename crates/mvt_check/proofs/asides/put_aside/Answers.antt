use Rattle.std.proofs.Common.{take, drop}
use Rattle.mvt_check.proofs.asides.put_aside.Goals as goal

pub returns : goal.returns
returns c = record {
  front = take c.min.result c.args.asides.now.items;
  back = drop c.min.result c.args.asides.now.items;
  so = c.in_ok-insert.ensures.items;
}
