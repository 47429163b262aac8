use Rattle.place_core.proofs.Tried.{noted_lacks}
use Rattle.place_core.proofs.aside.is_vain.Goals as goal

pub returns-then-place-lt-MOST_TRIED : goal.returns-then-place-lt-MOST_TRIED
returns-then-place-lt-MOST_TRIED c = λ noted.
    noted_lacks c.args.volumes.now c.args.tracks c.args.vain.now.tried c.args.serial c.in-Some.place c.in-Some.ensures.there c.requires.tried noted
