-- The machine is sound behind an event, and behind many.
use Rattle.std.proofs.Common.{◌≡◌, List, [], ◌∷◌, subst, sym}
use Rattle.jcl_plan.specs.declared.entry.Entry.{Entry}
use Rattle.jcl_meaning.specs.WellFormed.{AreWellFormedPrograms}
use Rattle.world_meaning.specs.declared.event.Event.{Event}
use Rattle.world_meaning.specs.Readings.{Denoting}
use Rattle.world_meaning.specs.Records.{IsQueueLayout}
use Rattle.world_meaning.specs.Transitions.{Runs, Transition}
use Rattle.world_meaning.specs.Worlds.{Config, World}
use Rattle.world_laws.proofs.Effects.{changes}
use Rattle.law_core.specs.Soundness.{IsSound}
use Rattle.law_core.proofs.Alone.{alone_kept, in_order_kept, numbered_kept, numbers_kept}
use Rattle.law_core.proofs.Fitting.{fits_kept, groups_kept}
use Rattle.law_core.proofs.Holding.{compatible_kept, held_kept}
use Rattle.law_core.proofs.Moves.{Moved, moved}
use Rattle.law_core.proofs.Reading.{denoted_kept}

pub sound_behind : (job_of : Denoting) (old new : World) (e : Event) (lines : List Entry) → IsSound old → Transition job_of old e lines new → IsSound new
sound_behind job_of old new e lines s t =
    let config : new.config ≡ old.config = (changes job_of old new e lines t).config in
    let m : Moved old new = moved job_of old new e lines t in
    record {
      layout = subst (λ (k : Config). IsQueueLayout k.layout) (sym config) s.layout;
      programs = subst (λ (k : Config). AreWellFormedPrograms k.programs) (sym config) s.programs;
      initiators = numbers_kept old new s m;
      in_order = in_order_kept old new s m;
      numbered = numbered_kept old new s m;
      alone = alone_kept old new s m;
      held = held_kept old new s m;
      compatible = compatible_kept old new s m;
      denoted = denoted_kept job_of old new e lines s t;
      fits = fits_kept job_of old new e lines s t;
      groups = groups_kept job_of old new e lines s t;
    }

pub sound_along : (job_of : Denoting) (w end : World) (es : List Event) (told : List (List Entry)) → IsSound w → Runs job_of w es told end → IsSound end
sound_along job_of w end [] [] s runs = subst IsSound (sym runs) s
sound_along job_of w end [] (lines ∷ more) s runs = absurd runs
sound_along job_of w end (e ∷ es) [] s runs = absurd runs
sound_along job_of w end (e ∷ es) (lines ∷ more) s runs =
    sound_along job_of runs.0 end es more (sound_behind job_of w runs.0 e lines s runs.1) runs.2
