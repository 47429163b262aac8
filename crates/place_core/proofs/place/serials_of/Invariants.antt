use Rattle.std.proofs.Common.{◌≡◌, take}
use Rattle.place_core.specs.Placings.{serials_of}
use Rattle.place_core.proofs.place.serials_of.Given as goal

abbrev pub invariant-loop-mounted : goal.invariant-loop-mounted
invariant-loop-mounted l = l.serials ≡ serials_of (take l.mounted-index l.volumes)
