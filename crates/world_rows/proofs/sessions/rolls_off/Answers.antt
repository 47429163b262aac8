use Rattle.std.proofs.Common.{lit≤, refl, ap, true, [], Some, None}
use Rattle.std.specs.Fmt.{digits}
use Rattle.jcl_meaning.specs.Acts.{act}
use Rattle.world_meaning.specs.Turns.{advance, acts}
use Rattle.world_meaning.proofs.Following.{acted, acted_on, happened, turned}
use Rattle.world_rows.specs.Machines.{serial, set_of}
use Rattle.std.specs.Prelude.{codes}
use Rattle.vtoc_core.specs.declared.entry.SetKey.TheVariants as world
use Rattle.world_meaning.specs.declared.event.Event.TheVariants as event
use Rattle.world_meaning.specs.Lenses.{with_world_set}
use Rattle.world_meaning.specs.Transitions.{shown}
use Rattle.world_meaning.proofs.Conserved.{conserved_there, with_free}
use Rattle.world_meaning.proofs.JobLens.{put_named}
use Rattle.world_rows.specs.Generations.{new_name, store}
use Rattle.world_rows.specs.Machines.{free_tracks}
use Rattle.world_rows.proofs.sessions.rolls_off.Goals as goal

pub returns : goal.returns
unfolding act advance digits
returns c job_of = record {
  end = _;
  reach = (
    _,
    _,
    turned job_of _ 1 _ _ _ _ _ (lit≤ tt) refl refl (acted_on _ _ _ _ _ _ _ _ true true new_name serial (Some (set_of 1 [])) 97 refl (λ h. refl) refl refl refl refl refl refl) refl,
    refl,
    (
      _,
      _,
      turned job_of _ 1 _ _ _ _ _ (lit≤ tt) refl refl (acted _ _ _ _ _ _ _ _ true true refl (λ h. refl) refl refl refl refl) refl,
      refl,
      (
        _,
        _,
        turned job_of _ 1 _ _ _ _ _ (lit≤ tt) refl refl (acts _ true true (with_free (with_free (free_tracks 98) serial 97) serial 98) refl (λ h. refl) refl refl refl refl (conserved_there _ _ (world.Named (codes "PAY.G.G0001V00")) serial None 98 refl (ap (λ w. w.set) (put_named 2 (with_world_set store (world.Named new_name) serial (Some (set_of 1 []))) (codes "PAY.G.G0001V00") serial None)) refl refl refl) refl) refl,
        refl,
        (
          _,
          _,
          happened job_of _ _ event.Display _ (lit≤ tt) (shown refl refl),
          refl,
          refl,
        ),
      ),
    ),
  );
}
