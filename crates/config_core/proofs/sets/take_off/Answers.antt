use Rattle.std.proofs.Common.{refl}
use Rattle.config_core.proofs.Filling.{scratched, still_there}
use Rattle.config_core.proofs.sets.take_off.Goals as goal

pub returns-in-Ok : goal.returns-in-Ok
returns-in-Ok c = λ m extents expires records n plan none was.
    let ok = c.in-Ok.ensures.ok in
    scratched m extents c.args.key.now expires records n plan none c.args.mounted.now c.scratch.new.self was ok.0 ok.1 ok.2 c.in-Ok.ensures.others

pub returns-in-Err : goal.returns-in-Err
returns-in-Err c = λ m extents expires records n plan none was. absurd (still_there m extents c.args.key.now expires records c.args.mounted.now was (c.in-Err.ensures.missing.0 refl))
