use Rattle.std.proofs.Common.{◌∷◌, ◌++◌, [], ap, subst, sym, ◌∙◌}
use Rattle.config_core.specs.Configs.{Configuration, volume_fault}
use Rattle.shared_core.specs.LaidOut.{VolumesAreLaidOut}
use Rattle.config_core.specs.Configured.{IsConfigured}
use Rattle.config_core.proofs.Keeping.{volume_configured}
use Rattle.config_core.proofs.config.Config.add_volume.Goals as goal

pub invariant_of-self-2 : goal.invariant_of-self-2
invariant_of-self-2 c =
    let config : Configuration = record {
      volumes = c.self.inside.volumes;
      catalog = c.self.inside.catalog;
      units = c.self.inside.units;
      library = c.self.inside.library;
      programs = c.self.inside.programs;
      initiators = c.self.inside.initiators;
    } in
    let made = c.in_ok-push.ensures.ok ∙ ap (λ m. config.volumes ++ m ∷ []) c.in_ok-new.ensures in
    subst (λ volumes. IsConfigured (record config { volumes = volumes })) (sym made)
    (volume_configured config c.args.serial c.args.tracks c.args.used.now c.self.invariant
    (ap (λ v. volume_fault v c.args.serial c.args.tracks c.args.used.now) c.self.view_is ∙ sym c.volume_fault.ensures ∙ c.in_default.is)
    (subst VolumesAreLaidOut (c.as_slice.ensures ∙ made) c.volumes_are_laid_out.ensures))
