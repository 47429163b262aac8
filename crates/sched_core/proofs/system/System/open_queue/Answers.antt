use Rattle.std.proofs.Common.{map, length, refl, sym, subst, ap, ◌∙◌}
use Rattle.config_core.specs.Configs.{unit_names}
use Rattle.init_core.specs.declared.running.Profile.{Profile}
use Rattle.sched_core.specs.Starting.{AreRising, no_lines}
use Rattle.sched_core.proofs.Begun.{begins_kept, idle_seat, is_start, units_counted, units_few, volumes_apart, world_at}
use Rattle.sched_core.proofs.Opened.{rising}
use Rattle.sched_core.proofs.system.System.open_queue.Goals as goal

pub backlog_of-requires : goal.backlog_of-requires
backlog_of-requires g c = subst AreRising (sym c.requires.waiting) (rising (g.Q.RecordStore.queue c.args.queue).waiting c.layout-layout.ensures.sound.in_order)

pub invariant_of-system : goal.invariant_of-system
invariant_of-system g c = record {
  few_units = units_few c.requires.configured.0 c.args.store c.args.fixed.now c.requires.configured.1 c.requires.configured.2 c.volumes.result.now c.volumes.ensures;
  apart = volumes_apart c.requires.configured.0 c.args.store c.args.fixed.now c.requires.configured.1 c.requires.configured.2 c.as_slice-2.result.now c.as_slice-2.ensures;
}

pub invariant_of-system-2 : goal.invariant_of-system-2
invariant_of-system-2 g c =
    let fixed = c.args.fixed.now in
    let few = units_few c.requires.configured.0 c.args.store fixed c.requires.configured.1 c.requires.configured.2 c.volumes.result.now c.volumes.ensures in
    let differ = volumes_apart c.requires.configured.0 c.args.store fixed c.requires.configured.1 c.requires.configured.2 c.as_slice-2.result.now c.as_slice-2.ensures in
    let p : Profile = record {
      volumes = c.as_slice-2.result;
      units = c.volumes.result;
      programs = record { ref_ptr = c.args.fixed.ref_ptr; now = fixed.programs };
      refuses = c.args.refuses;
      most_views = c.args.most_views;
      explains = c.args.explains;
      few_units = few;
      apart = differ;
    } in
    record {
      kept = begins_kept g.Q.RecordStore.queue c.args.store c.args.queue fixed p c.started.result c.started.ensures.parts
          (c.started.ensures.initiators ∙ c.in-Ok-idle_of.ensures ∙ ap (map idle_seat) c.as_slice.ensures)
          (c.started.ensures.backlog ∙ c.in-Ok.ensures ∙ ap (map no_lines) c.requires.waiting) c.args.last c.started.ensures.jobs c.started.ensures.events
          c.as_slice-2.ensures c.volumes.ensures refl c.layout-layout.ensures.sound c.requires.begins c.requires.few c.requires.layout
          c.requires.configured.0 c.requires.configured.2 c.requires.configured.1
          c.jobs_may_wait_at_the_start.ensures c.starts_sound.ensures c.starts_supplied.ensures c.layout_reads_what_it_holds.ensures;
      named = ap length c.names.ensures ∙ units_counted fixed.units ∙ sym (ap length c.volumes.ensures);
    }

pub returns-clause-opened : goal.returns-clause-opened
returns-clause-opened g c = λ config configured apart.
    let fixed = c.args.fixed.now in
    let few = units_few config c.args.store fixed configured apart c.volumes.result.now c.volumes.ensures in
    let differ = volumes_apart config c.args.store fixed configured apart c.as_slice-2.result.now c.as_slice-2.ensures in
    let p : Profile = record {
      volumes = c.as_slice-2.result;
      units = c.volumes.result;
      programs = record { ref_ptr = c.args.fixed.ref_ptr; now = fixed.programs };
      refuses = c.args.refuses;
      most_views = c.args.most_views;
      explains = c.args.explains;
      few_units = few;
      apart = differ;
    } in
    record {
      is_start = is_start g.Q.RecordStore.queue c.args.store c.args.queue fixed p c.started.result c.started.ensures.parts
          (c.started.ensures.initiators ∙ c.in-Ok-idle_of.ensures ∙ ap (map idle_seat) c.as_slice.ensures)
          (c.started.ensures.backlog ∙ c.in-Ok.ensures ∙ ap (map no_lines) c.requires.waiting) c.args.last c.started.ensures.jobs c.started.ensures.events
          c.as_slice-2.ensures c.volumes.ensures refl c.layout-layout.ensures.sound c.requires.begins c.requires.few c.requires.layout config apart configured
          c.jobs_may_wait_at_the_start.ensures c.starts_sound.ensures c.starts_supplied.ensures c.layout_reads_what_it_holds.ensures;
      world = world_at g.Q.RecordStore.queue c.args.store c.args.queue fixed p c.started.result c.started.ensures.parts
          (c.started.ensures.initiators ∙ c.in-Ok-idle_of.ensures ∙ ap (map idle_seat) c.as_slice.ensures)
          (c.started.ensures.backlog ∙ c.in-Ok.ensures ∙ ap (map no_lines) c.requires.waiting) c.args.last c.started.ensures.jobs c.started.ensures.events
          c.as_slice-2.ensures c.volumes.ensures refl c.layout-layout.ensures.sound c.requires.begins c.requires.few c.requires.layout
          config apart configured;
      unit_names = c.names.ensures ∙ ap unit_names apart.units;
      library = apart.library;
      volumes = ap (λ x. x.store.volumes) c.started.ensures.parts ∙ apart.volumes;
    }
