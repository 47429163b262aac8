use Rattle.std.proofs.Common.{lit≤, refl, true}
use Rattle.std.specs.Fmt.{digits}
use Rattle.std.specs.Prelude.{[]}
use Rattle.std.proofs.lemmas.List.Elements.{Contains-push}
use Rattle.jcl_meaning.specs.Acts.{act}
use Rattle.world_meaning.specs.declared.event.Event.TheVariants as event
use Rattle.world_meaning.specs.Devices.{ended as ends_device}
use Rattle.world_meaning.specs.Turns.{advance, waits}
use Rattle.world_meaning.proofs.Following.{acted, happened, turned}
use Rattle.world_rows.specs.Machines.{serial}
use Rattle.world_rows.proofs.sessions.waits_for_a_device.Goals as goal

pub returns : goal.returns
unfolding act advance digits
returns c job_of = record {
  end = _;
  reach = (
    _,
    _,
    turned job_of _ 0 _ _ _ _ _ (lit≤ tt) refl refl (acted _ _ _ _ _ _ _ _ true true refl (λ h. refl) refl refl refl refl) refl,
    refl,
    (
      _,
      _,
      turned job_of _ 1 _ _ _ _ _ (lit≤ tt) refl refl (waits _ true true refl refl refl refl refl) refl,
      refl,
      (
        _,
        _,
        happened job_of _ _ (event.DeviceEnd serial) _ (lit≤ tt) (ends_device (Contains-push [] serial) refl refl refl),
        refl,
        (
          _,
          _,
          turned job_of _ 0 _ _ _ _ _ (lit≤ tt) refl refl (acted _ _ _ _ _ _ _ _ true true refl (λ h. refl) refl refl refl refl) refl,
          refl,
          (
            _,
            _,
            turned job_of _ 1 _ _ _ _ _ (lit≤ tt) refl refl (acted _ _ _ _ _ _ _ _ true true refl (λ h. refl) refl refl refl refl) refl,
            refl,
            refl,
          ),
        ),
      ),
    ),
  );
}
