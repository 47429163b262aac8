-- What is left of a set, as it lies: lines of a listing, or records of an output.
use Rattle.std.specs.Prelude.{List, map}
use Rattle.jcl_plan.specs.declared.entry.Written.{Written}
use Rattle.jcl_plan.specs.declared.entry.Written.TheVariants as written
use Rattle.spool_core.specs.declared.queued.Rest.{Rest}
use Rattle.spool_core.specs.declared.queued.Rest.TheVariants.{Listing, Output}

abbrev pub lines_of : Rest → List Written
lines_of (Listing lines) = map written.Line lines.items
lines_of (Output records) = map written.Record records.items
