use Rattle.std.proofs.Common.{Some, refl, sym, ◌∙◌}
use Rattle.prog_core.specs.Operations.{is_busy}
use Rattle.machine_core.specs.Shown.{shown}
use Rattle.machine_core.proofs.Devices.{device_ends, device_idle, device_missing, not_idle}
use Rattle.machine_core.proofs.events.end_device.Goals as goal

pub returns-then-not-is_among-clause-refused : goal.returns-then-not-is_among-clause-refused
returns-then-not-is_among-clause-refused g c w of =
    device_missing w c.args.serial c.args.volumes.now of.volumes_so (sym c.is_among.ensures ∙ c.if-not-is_among.true)

pub returns-in-Ok-clause-ends : goal.returns-in-Ok-clause-ends
returns-in-Ok-clause-ends g c w of =
    device_ends w (shown g.Q.RecordStore.queue c.args.parts.now) c.device_end.new.self c.args.serial c.args.volumes.now of.volumes_so of.shared_so
    (sym c.is_among.ensures ∙ c.if-not-is_among.false)
    (not_idle (is_busy c.args.parts.now.units (Some c.args.serial)) (λ e. c.in-Ok.ensures.missing.1 e)) c.in-Ok.ensures.ok

pub returns-in-Err-clause-refused : goal.returns-in-Err-clause-refused
returns-in-Err-clause-refused g c w of =
    device_idle w (shown g.Q.RecordStore.queue c.args.parts.now) c.args.serial c.args.volumes.now of.volumes_so of.shared_so
    (sym c.is_among.ensures ∙ c.if-not-is_among.false) (c.in-Err.ensures.missing.0 refl)
