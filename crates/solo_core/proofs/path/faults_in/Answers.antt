use Rattle.std.proofs.Common.{◌∙◌, Some, None, refl, sym, ap, map}
use Rattle.solo_core.specs.declared.path.MetFault.{MetFault}
use Rattle.solo_core.specs.Meets.{met_of}
use Rattle.solo_core.proofs.FaultsFound.{faults_more, fault_more, none_more}
use Rattle.solo_core.proofs.path.faults_in.Goals as goal
use Rattle.solo_core.proofs.path.faults_in.Goals.{in-Some+in_ok-push-in-Some, in-None}

pub loop-place-preserved : goal.loop-place-preserved
loop-place-preserved c = elim c.match-met.branch [
  | in-Some+in_ok-push-in-Some w ↦
      faults_more c.args.meets.now c.loop-place.place (Some w.in-Some.fault) c.loop-place.faults c.match-met.faults c.loop-place-test.true (sym w.in-Some.is)
      c.loop-place.invariant (ap (map met_of) (w.faults-is ∙ w.in_ok-push-in-Some.ensures.ok) ∙ fault_more c.loop-place.faults c.loop-place.place w.in-Some.fault)
  | in-None w ↦
      faults_more c.args.meets.now c.loop-place.place None c.loop-place.faults c.match-met.faults c.loop-place-test.true (sym w.in-None.is)
      c.loop-place.invariant (ap (map met_of) w.faults-is ∙ none_more c.loop-place.faults c.loop-place.place)
]
