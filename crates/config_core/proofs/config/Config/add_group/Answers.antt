use Rattle.std.proofs.Common.{◌≡◌, None, ap, subst, sym, ◌∙◌}
use Rattle.config_core.specs.Configs.{Configuration, group_fault}
use Rattle.config_core.specs.Configured.{IsConfigured}
use Rattle.config_core.proofs.Keeping.{group_configured}
use Rattle.config_core.proofs.config.Config.add_group.Goals as goal
use Rattle.config_core.proofs.config.Config.add_group.Goals.{in-Ok, in-Err}

pub invariant_of-self : goal.invariant_of-self
invariant_of-self c =
    let config : Configuration = record {
      volumes = c.self.inside.volumes;
      catalog = c.self.inside.catalog;
      units = c.self.inside.units;
      library = c.self.inside.library;
      programs = c.self.inside.programs;
      initiators = c.self.inside.initiators;
    } in
    let none : group_fault config c.args.base c.args.limit ≡ None =
    ap (λ v. group_fault v c.args.base c.args.limit) c.self.view_is ∙ sym c.group_fault.ensures ∙ c.in_default.is in
    elim c.match-make_group.branch [
      | in-Ok w ↦ subst (λ catalog. IsConfigured (record config { catalog = catalog })) (sym w.in-Ok.ensures.ok)
          (group_configured config c.args.base c.args.limit c.args.scratch c.self.invariant none c.is_name.ensures)
      | in-Err w ↦ subst (λ catalog. IsConfigured (record config { catalog = catalog })) (sym w.in-Err.ensures.err) c.self.invariant
    ]
