use Rattle.std.proofs.Common.{lit≤, refl, true, [], Some, None}
use Rattle.std.specs.Fmt.{digits}
use Rattle.jcl_meaning.specs.Acts.{act}
use Rattle.world_meaning.specs.Turns.{advance}
use Rattle.world_meaning.proofs.Following.{acted, acted_on, happened, turned}
use Rattle.world_rows.specs.Machines.{serial, set_of}
use Rattle.world_meaning.specs.declared.event.Event.TheVariants as event
use Rattle.world_meaning.specs.Cancels.{admitted}
use Rattle.world_rows.specs.Cancels.{name}
use Rattle.world_rows.proofs.sessions.is_cancelled.Goals as goal

pub returns : goal.returns
unfolding act advance digits
returns c job_of = record {
  end = _;
  reach = (
    _,
    _,
    turned job_of _ 0 _ _ _ _ _ (lit≤ tt) refl refl (acted_on _ _ _ _ _ _ _ _ true true name serial (Some (set_of 1 [])) 99 refl (λ h. refl) refl refl refl refl refl refl) refl,
    refl,
    (
      _,
      _,
      turned job_of _ 0 _ _ _ _ _ (lit≤ tt) refl refl (acted_on _ _ _ _ _ _ _ _ true true name serial (Some (set_of 1 [])) 99 refl (λ h. refl) refl refl refl refl refl refl) refl,
      refl,
      (
        _,
        _,
        happened job_of _ _ (event.Cancel 1) _ (lit≤ tt) (admitted 0 _ _ refl refl refl refl refl refl),
        refl,
        (
          _,
          _,
          turned job_of _ 0 _ _ _ _ _ (lit≤ tt) refl refl (acted _ _ _ _ _ _ _ _ true true refl (λ h. refl) refl refl refl refl) refl,
          refl,
          (
            _,
            _,
            turned job_of _ 0 _ _ _ _ _ (lit≤ tt) refl refl (acted_on _ _ _ _ _ _ _ _ true true name serial (None) 100 refl (λ h. refl) refl refl refl refl refl refl) refl,
            refl,
            (
              _,
              _,
              turned job_of _ 0 _ _ _ _ _ (lit≤ tt) refl refl (acted _ _ _ _ _ _ _ _ true true refl (λ h. refl) refl refl refl refl) refl,
              refl,
              (
                _,
                _,
                turned job_of _ 0 _ _ _ _ _ (lit≤ tt) refl refl (acted _ _ _ _ _ _ _ _ true true refl (λ h. refl) refl refl refl refl) refl,
                refl,
                refl,
              ),
            ),
          ),
        ),
      ),
    ),
  );
}
