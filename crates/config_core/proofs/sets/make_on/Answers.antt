use Rattle.std.proofs.Common.{◌∙◌}
use Rattle.vtoc_core.specs.declared.entry.SetKey.TheVariants.{Named}
use Rattle.config_core.specs.Sets.{with_records_on}
use Rattle.config_core.proofs.Filling.{made_free}
use Rattle.config_core.proofs.sets.make_on.Goals as goal

pub returns-clause-ok : goal.returns-clause-ok
returns-clause-ok c =
    let made = made_free c.args.mounted.now c.make.new.self c.no_place.result _ c.args.set.now.tracks c.day_number.result c.requires.nothing_kept c.in-Ok.ensures.made in
    record {
      extents = made.0;
      planned_so = made.1;
      made = c.fill.ensures c.args.mounted.now made.0 c.day_number.result made.2
          ∙ (λ i. with_records_on c.args.mounted.now made.0 (Named c.args.set.now.name) (c.day_number.ensures i) (c.in_ok-records.ensures i));
    }
