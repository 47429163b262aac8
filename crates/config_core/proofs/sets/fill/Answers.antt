use Rattle.std.proofs.Common.{[], refl}
use Rattle.config_core.proofs.Filling.{filled, still_there}
use Rattle.config_core.proofs.sets.fill.Goals as goal

pub returns-in-Ok : goal.returns-in-Ok
returns-in-Ok c = λ m extents expires was. filled m extents c.args.key.now expires c.args.records c.args.mounted.now c.put_records.new.self was c.in-Ok.ensures.ok c.in-Ok.ensures.others

pub returns-in-Err : goal.returns-in-Err
returns-in-Err c = λ m extents expires was. absurd (still_there m extents c.args.key.now expires [] c.args.mounted.now was (c.in-Err.ensures.missing.0 refl))
