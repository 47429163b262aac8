use Rattle.std.proofs.Common.{◌∷◌, ◌++◌, [], ap, subst, sym, ◌∙◌}
use Rattle.config_core.specs.Configs.{Configuration, initiator_fault}
use Rattle.config_core.specs.Configured.{IsConfigured}
use Rattle.config_core.proofs.Keeping.{initiator_configured}
use Rattle.config_core.proofs.config.Config.add_initiator.Goals as goal

pub invariant_of-self-2 : goal.invariant_of-self-2
invariant_of-self-2 c =
    let config : Configuration = record {
      volumes = c.self.inside.volumes;
      catalog = c.self.inside.catalog;
      units = c.self.inside.units;
      library = c.self.inside.library;
      programs = c.self.inside.programs;
      initiators = c.self.inside.initiators;
    } in
    subst (λ initiators. IsConfigured (record config { initiators = initiators }))
    (sym (c.in_ok-push.ensures.ok ∙ ap (λ classes. config.initiators ++ record { number = c.args.number; classes = classes } ∷ []) c.new-classes.ensures))
    (initiator_configured config c.args.number c.args.classes.now c.self.invariant
    (ap (λ v. initiator_fault v c.args.number c.args.classes.now) c.self.view_is ∙ sym c.initiator_fault.ensures ∙ c.in_default.is))
