use Rattle.std.specs.Prelude.{not}
use Rattle.std.specs.Str.{bytes_eq}
use Rattle.machine_rows.proofs.Ended.{few_left}
use Rattle.machine_rows.proofs.operations.end_operation.Goals as goal

pub returns : goal.returns
returns c =
    few_left (λ o. not (bytes_eq o.serial c.args.serial)) c.args.units.now c.device_end.new.self c.device_end.result c.device_end.ensures.ok c.device_end.ensures.err
