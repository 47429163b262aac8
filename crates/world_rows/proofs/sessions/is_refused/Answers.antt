use Rattle.std.proofs.Common.{lit≤, refl, [], ◌∷◌}
use Rattle.std.specs.Fmt.{digits}
use Rattle.world_meaning.specs.declared.event.Event.TheVariants as event
use Rattle.world_meaning.specs.Zaps.{not_owned, selected}
use Rattle.world_meaning.proofs.Following.{happened}
use Rattle.world_rows.proofs.sessions.is_refused.Goals as goal

pub returns : goal.returns
unfolding digits
returns c job_of = record {
  end = _;
  reach = (
    _,
    _,
    happened job_of _ _ (event.Zap 4 8 (0 ∷ 3 ∷ [])) _ (lit≤ tt) (selected refl refl refl refl),
    refl,
    (
      _,
      _,
      happened job_of _ _ (event.Zap 8 8 (0 ∷ [])) _ (lit≤ tt) (not_owned refl refl refl),
      refl,
      refl,
    ),
  );
}
