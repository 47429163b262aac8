-- A job's turn as an event of the machine.
use Rattle.std.proofs.Common.{◌≡◌, ℕ, ◌++◌, true, List, [], ◌∷◌, Some, refl, sym, ap, ◌∙◌, if◌then◌else◌}
use Rattle.std.specs.Prelude.{filter}
use Rattle.jcl_plan.specs.declared.entry.JobLine.{JobLine}
use Rattle.machine_meaning.specs.Spools.{sets_of, with_sets}
use Rattle.world_meaning.specs.Holdings.{cancels_without, released}
use Rattle.world_meaning.specs.Lenses.{put_back, seen}
use Rattle.world_meaning.specs.Tracks.{kept_unless_made}
use Rattle.world_meaning.specs.Turns.{ends as machine_ends, acts as machine_acts, waits as machine_waits, operations_after, cancels_after, shared_after, with_output}
use Rattle.world_meaning.specs.Worlds.{Admitted, Kept}
use Rattle.turn_core.specs.MachineTurns.{ActsAdvance, EndsAdvance, WaitsAdvance, around, running_told, shared_ended, shared_told}
use Rattle.turn_core.specs.Standing.{count_at, undone}
use Rattle.turn_core.specs.Turning.{Acts, Ends}

pub waits_advances : WaitsAdvance
waits_advances c s r plan a grants walk h = (machine_waits h.its_turn true true h.advances h.waits refl refl refl, refl)

pub acts_advances : ActsAdvance
acts_advances c s r plan a grants before after new told free listing h assured conserved =
    let q : Acts (around c s r.job plan a.fixed grants) (undone plan c.programs before.todo) (seen r.job s.store) before.course new after.course
    (undone plan c.programs after.todo) (count_at plan c.programs before.todo) told = h.acts in
    let lines : List JobLine = q.its_turn.done.lines in
    let left : shared_told s r.job new told free ≡ shared_after s r.job q.its_turn free = λ i. record s {
      store = put_back r.job s.store (sym q.store i);
      free = free;
      kept = kept_unless_made s.kept r.job (sym q.made i);
      operations = sym q.operations i;
      cancels = if q.cancelled i then cancels_without s.cancels r.job else s.cancels;
    } in
    let on : Some (running_told c r plan a after) ≡ Some (record r { listing = r.listing ++ lines; stage = Admitted plan a q.its_turn.count q.its_turn.done.state.own }) = λ i. Some (record r {
      listing = (q.lines ∙ ap (λ (l : List JobLine). l ++ lines) (sym listing)) i;
      stage = Admitted plan a (sym h.counted i) (sym q.own i);
    }) in
    (machine_acts q.its_turn q.growth q.primary free q.advances assured q.goes h.goes_on refl left conserved on, refl)

-- where nothing is made all that is kept stays
all_there : (kept : List Kept) → kept ≡ filter (λ k. true) kept
all_there [] = refl
all_there (k ∷ kept) = ap (λ l. k ∷ l) (all_there kept)

all_kept : (job : ℕ) (kept : List ℕ → List Kept) → kept ≡ kept_unless_made kept job []
all_kept job kept = λ i serial. all_there (kept serial) i

pub ends_advances : EndsAdvance
ends_advances c s r plan a grants walk free listing h conserved =
    let q : Ends (around c s r.job plan a.fixed grants) (undone plan c.programs walk.todo) (seen r.job s.store) walk.course.own (count_at plan c.programs walk.todo) = h.ends in
    let left : shared_ended c s r.job plan walk.course.lines walk.course.own.outputs free ≡ released c (with_output (shared_after s r.job q.its_turn free) r plan q.its_turn) r.job free =
    λ i. released c (record s {
      store = put_back r.job s.store (sym q.store i);
      free = free;
      kept = (all_kept r.job s.kept ∙ ap (kept_unless_made s.kept r.job) (sym q.made)) i;
      operations = operations_after s.operations r.job (sym q.lines i);
      cancels = cancels_after s.cancels r.job (sym q.lines i);
      spool = with_sets s.spool (sets_of r.job plan.message_class (sym listing i ++ sym q.lines i) (sym q.outputs i));
    }) r.job free in
    (machine_ends q.its_turn true true free q.advances (λ e. refl) q.goes h.is_over (sym q.lines) left conserved refl, refl)
