use Rattle.std.proofs.Common.{lit≤, refl, true, false, [], Some, None}
use Rattle.std.specs.Fmt.{digits}
use Rattle.jcl_meaning.specs.Acts.{act}
use Rattle.world_meaning.specs.Turns.{advance}
use Rattle.world_meaning.proofs.Following.{acted_on, ended, turned}
use Rattle.world_rows.specs.Growths.{name}
use Rattle.world_rows.specs.Machines.{serial, set_of}
use Rattle.world_rows.proofs.sessions.is_refused_growth.Goals as goal

pub returns : goal.returns
unfolding act advance digits
returns c job_of = record {
  end = _;
  reach = (
    _,
    _,
    turned job_of _ 1 _ _ _ _ _ (lit≤ tt) refl refl (acted_on _ _ _ _ _ _ _ _ true true name serial (Some (set_of 0 [])) 1
        refl (λ h. refl) refl refl refl refl refl refl) refl,
    refl,
    (
      _,
      _,
      turned job_of _ 1 _ _ _ _ _ (lit≤ tt) refl refl (acted_on _ _ _ _ _ _ _ _ false true name serial (Some (set_of 0 [])) 1
          refl (λ h. refl) refl refl refl refl refl refl) refl,
      refl,
      (
        _,
        _,
        turned job_of _ 1 _ _ _ _ _ (lit≤ tt) refl refl (acted_on _ _ _ _ _ _ _ _ true true name serial None 1
            refl (λ h. refl) refl refl refl refl refl refl) refl,
        refl,
        (
          _,
          _,
          turned job_of _ 1 _ _ _ _ _ (lit≤ tt) refl refl (ended _ _ _ _ _ _ _ _ true true refl (λ h. refl) refl refl refl refl) refl,
          refl,
          refl,
        ),
      ),
    ),
  );
}
