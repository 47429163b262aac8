-- Which fault is told of a DD's keywords.
use Rattle.std.specs.Prelude.{Option}
use Rattle.jcl_plan.specs.declared.fault.Cause.{Cause}
use Rattle.operand_core.specs.Faults.{earlier}
use Rattle.jcl_dds.specs.declared.dd_faults.DdFaults.{DdFaults}

abbrev pub told_of : DdFaults → Option Cause
told_of faults =
    let set = earlier faults.set_name faults.disposition in
    let device = earlier (earlier set faults.unit) faults.volume in
    let placed = earlier (earlier device faults.space) faults.sysout in
    let named = earlier (earlier placed faults.dd_name) faults.label in
    earlier (earlier named faults.control_blocks) faults.unknown
