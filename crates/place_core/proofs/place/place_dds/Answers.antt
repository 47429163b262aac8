use Rattle.std.proofs.Common.{◌≡◌, ◌+◌, ℕ, List, ◌∷◌, drop, Option, Some, sym, ap, subst, ◌∙◌}
use Rattle.std.proofs.lemmas.List.{at_drop_more}
use Rattle.jcl_plan.specs.declared.plan.DdPlan.{DdPlan}
use Rattle.world_meaning.specs.Admissions.{primary_asked}
use Rattle.mount_core.specs.declared.place.KeptPlace.{KeptPlace}
use Rattle.mount_core.specs.Mounts.{MountedState}
use Rattle.place_core.specs.Placings.{IsClearFrom, Placing, chosen, placed_dd, placed_dds, volumes_for}
use Rattle.place_core.specs.Volumes.{all_back, aside_at}
use Rattle.place_core.proofs.Undoing.{clear_here, clear_more, spot_undone}
use Rattle.place_core.proofs.place.place_dds.Goals as goal

pub loop-i-preserved : goal.loop-i-preserved
loop-i-preserved c =
    let all = c.args.all.now in
    let units = c.args.units.now in
    let i = c.loop-i.i in
    let d = c.index-dds-i.result in
    let n : ℕ = primary_asked (Some d.kind) in
    let at : KeptPlace = record { job = c.args.job; step = c.args.step; dd = i + 1 } in
    let o : Option (List ℕ) = chosen c.loop-i.volumes n (volumes_for all units d.kind) in
    let state : Placing = record { volumes = c.loop-i.volumes; places = c.loop-i.places } in
    let volumes : c.place_dd.new.volumes ≡ aside_at o at n c.loop-i.volumes = c.in_ok-place_dd.ensures.ok.0 in
    let places : c.place_dd.new.places ≡ (placed_dd all units at d.kind state).places = c.in_ok-place_dd.ensures.ok.1 in
    record {
      run =
          (λ k. placed_dds all units c.args.job c.args.step (i + 1 + 1) (drop (i + 1) c.args.dds.now) (record { volumes = volumes k; places = places k }))
          ∙ ap (λ (x : DdPlan). placed_dds all units c.args.job c.args.step (i + 1) (x ∷ drop (i + 1) c.args.dds.now) state) c.index-dds-i.is
          ∙ sym (at_drop_more (λ (ds : List DdPlan). placed_dds all units c.args.job c.args.step (i + 1) ds state) c.args.dds.now i d c.loop-i-test.true)
          ∙ c.loop-i.invariant.run;
      clear = subst (λ (v : List MountedState). IsClearFrom v c.args.job c.args.step (i + 1 + 1)) (sym volumes)
          (clear_more c.args.job c.args.step (i + 1) n o c.loop-i.volumes c.loop-i.invariant.clear);
      back =
          (λ k. all_back c.args.job (places k) (volumes k))
          ∙ spot_undone c.args.job c.args.step (i + 1) n o c.loop-i.places c.loop-i.volumes
          (clear_here c.loop-i.volumes c.args.job c.args.step (i + 1) c.loop-i.invariant.clear)
          ∙ c.loop-i.invariant.back;
    }
