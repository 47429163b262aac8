use Rattle.std.proofs.Common.{◌≡◌, take}
use Rattle.config_core.specs.Configured.{serials_of}
use Rattle.config_core.proofs.start.serials_of.Given as goal

abbrev pub invariant-loop-mounted : goal.invariant-loop-mounted
invariant-loop-mounted l = l.serials ≡ serials_of (take l.mounted-index l.volumes)
