-- A line, once more.
use Rattle.std.specs.Prelude.{Option, Some, None}
use Rattle.jcl_plan.specs.declared.entry.JobLine.{JobLine}
use Rattle.jcl_plan.specs.declared.entry.JobLine.TheVariants as line

-- a line but RISK
abbrev pub unless_risk : JobLine → Option JobLine
unless_risk (line.Risk fault step dd path) = None
unless_risk other = Some other
