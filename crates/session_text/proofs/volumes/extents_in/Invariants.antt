use Rattle.std.proofs.Common.{◌≡◌, length}
use Rattle.session_text.specs.Fields.{listed_in}
use Rattle.session_text.specs.Volumes.{extents_in}
use Rattle.session_text.proofs.Extents.{behind_read}
use Rattle.session_text.proofs.volumes.extents_in.Given as goal

abbrev pub invariant-loop-comma : goal.invariant-loop-comma
invariant-loop-comma l = extents_in (listed_in l.text) ≡ behind_read l.extents (extents_in (listed_in l.rest))

abbrev pub decreases-loop-comma : goal.decreases-loop-comma
decreases-loop-comma l = length l.rest
