-- Each SB37 among the lines of an event is a request of its job, and was refused.
use Rattle.std.proofs.Common.{◌≡◌, ℕ, false, List, [], ◌∷◌, ◌++◌, map, Option, Some, None, refl, sym, subst}
use Rattle.std.specs.List.{Contains, list_any}
use Rattle.jcl_plan.specs.declared.entry.Entry.{Entry}
use Rattle.jcl_plan.specs.declared.entry.Entry.TheVariants as entry
use Rattle.turn_laws.specs.Decided.{JobsEndWithOver}
use Rattle.world_meaning.specs.declared.event.Event.{Event}
use Rattle.world_meaning.specs.declared.event.Event.TheVariants as event
use Rattle.world_meaning.specs.Cancels.{CancelsJob, admitted as cancels_admitted, no_job, selected as cancels_selected, waiting as cancels_waiting}
use Rattle.world_meaning.specs.Choices.{choice_of, choice_of_acting, choice_of_event, choice_of_going}
use Rattle.world_meaning.specs.Devices.{ended, idle, no_volume, nothing_written, wrote}
use Rattle.world_meaning.specs.Displays.{queue_line, set, volume_line}
use Rattle.world_meaning.specs.Readings.{Denoting, full, no_number, read, rejected}
use Rattle.world_meaning.specs.Selections.{nothing, selected}
use Rattle.world_meaning.specs.Transitions.{Acts, Does, Transition, acts, past, shown, taken, unknown}
use Rattle.world_meaning.specs.Worlds.{Initiator, Running, Shared, World, counted}
use Rattle.world_meaning.specs.Zaps.{not_owned, selected as zaps_selected, zapped}
use Rattle.machine_laws.specs.Deciding.{GrowthIsRefused, IsAction, IsRefusedGrowth, RefusedGrowthIsTold}
use Rattle.sched_core.specs.Systems.{denoting, meant_by, world_of}
use Rattle.machine_laws.proofs.ExactAnswers.{in_told}
use Rattle.machine_laws.proofs.RefusedTurns.{IsRequest, in_stage, none_told, sb37, tells_sb37}

-- what is shown is no line of a job
in_volumes : (s : Shared) (volumes : List (List ℕ)) (w : World) → list_any tells_sb37 (map (volume_line s) volumes ++ queue_line w ∷ []) ≡ false
in_volumes s [] w = refl
in_volumes s (serial ∷ volumes) w = in_volumes s volumes w

-- an event
module _ (over : JobsEndWithOver) (job_of : Denoting) (w mid : World) (lines : List Entry) (job : ℕ) (there : Contains lines (entry.Job job sb37)) where
  other : (told : List Entry) → lines ≡ told → list_any tells_sb37 told ≡ false → ⊥
  other told is h = none_told lines told is h job there

  in_acts : (place : ℕ) (x : Initiator) (o : Option Running) (g : Acts w place x o lines mid) → IsRequest (choice_of_acting w place x o lines mid g) job
  in_acts place x None (nothing n told same) = absurd (other [] told refl)
  in_acts place x None (selected v is told same) = absurd (other _ told refl)
  in_acts place x (Some r) g =
      let its = in_told r.job job g.job_lines _ sb37 (subst (λ (ls : List Entry). Contains ls (entry.Job job sb37)) g.told there) in
      subst (IsRequest (choice_of_going w.config w.shared r r.stage g.job_lines g.shared g.runs g.goes)) (sym its.0)
      (in_stage over w.config w.shared r g.job_lines g.shared g.runs its.1 r.stage g.goes)

  in_cancel : (cancelled : ℕ) → CancelsJob w cancelled lines mid → ⊥
  in_cancel cancelled (no_job absent told n) = other _ told refl
  in_cancel cancelled (cancels_waiting z free contained is told n conserved) = other _ told refl
  in_cancel cancelled (cancels_selected place x r free at runs not_yet is told n conserved) = other _ told refl
  in_cancel cancelled (cancels_admitted place x r at runs is yet told n) = other _ told refl

  in_event : (e : Event) (d : Does job_of w e lines mid) → IsRequest (choice_of_event job_of w e lines mid d) job
  in_event (event.Read deck) (no_number more told n) = absurd (other _ told refl)
  in_event (event.Read deck) (rejected cause less f told n) = absurd (other _ told refl)
  in_event (event.Read deck) (full plan less f few told n) = absurd (other _ told refl)
  in_event (event.Read deck) (read plan first records less f z told n) = absurd (other _ told refl)
  in_event (event.Turn number) (unknown absent told n) = absurd (other _ told refl)
  in_event (event.Turn number) (acts place x at is a) = in_acts place x x.running a
  in_event (event.DeviceEnd serial) (no_volume absent told n) = absurd (other _ told refl)
  in_event (event.DeviceEnd serial) (idle contained not_busy told n) = absurd (other _ told refl)
  in_event (event.DeviceEnd serial) (ended contained is_busy told n) = absurd (other [] told refl)
  in_event (event.Write class) (nothing_written absent told n) = absurd (other [] told refl)
  in_event (event.Write class) (wrote owner l left took told n) = absurd (other _ told refl)
  in_event (event.Cancel cancelled) d = absurd (in_cancel cancelled d)
  in_event (event.Zap n offset bytes) (not_owned fails told is) = absurd (other _ told refl)
  in_event (event.Zap n offset bytes) (zaps_selected may has told is) = absurd (other _ told refl)
  in_event (event.Zap n offset bytes) (zapped may has told is) = absurd (other [] told refl)
  in_event event.Display (shown told n) = absurd (other _ told (in_volumes w.shared w.config.volumes w))
  in_event (event.Date day) (set years of_year is told n) = absurd (other _ told refl)

in_step : JobsEndWithOver → (job_of : Denoting) (w : World) (e : Event) (lines : List Entry) (new : World) (t : Transition job_of w e lines new) (job : ℕ) →
    Contains lines (entry.Job job sb37) → IsRequest (choice_of t) job
in_step over job_of w e lines new (past more told n) job there = absurd (none_told lines _ told refl job there)
in_step over job_of w e lines new (taken less h) job there = in_event over job_of (counted w) h.middle lines job there e h.does

pub refused_growth_is_told : JobsEndWithOver → GrowthIsRefused → RefusedGrowthIsTold
refused_growth_is_told over growth_is_refused old e lines new s job there = by (in_step over (denoting old) (world_of old) (meant_by e) lines new s.0 job there)
  where
    by : IsRequest (choice_of s.0) job → IsRefusedGrowth old e lines new s job
    by r =
        let action : IsAction old e lines new s job r.cancel r.admission r.x = record { growth = r.growth; primary = r.primary; chosen = r.chosen } in
        let g = growth_is_refused old e lines new s job r.cancel r.admission r.x r.step r.move action r.asks r.told in
        record {
          cancel = r.cancel;
          admission = r.admission;
          x = r.x;
          step = r.step;
          move = r.move;
          action = action;
          asks = r.asks;
          told = r.told;
          growth = g.0;
          asked = g.1;
          refused = g.2;
        }
