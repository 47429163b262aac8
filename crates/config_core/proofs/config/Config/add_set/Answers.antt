use Rattle.std.proofs.Common.{◌≡◌, ap, subst, sym, ◌∙◌, None}
use Rattle.config_core.specs.Configs.{Configuration, set_fault}
use Rattle.shared_core.specs.LaidOut.{VolumesAreLaidOut}
use Rattle.config_core.specs.Configured.{IsConfigured}
use Rattle.config_core.proofs.Adding.{can_hold}
use Rattle.config_core.proofs.Keeping.{set_configured}
use Rattle.config_core.proofs.config.Config.add_set.Goals as goal

pub enter_set-requires : goal.enter_set-requires
enter_set-requires c =
    let config : Configuration = record {
      volumes = c.self.inside.volumes;
      catalog = c.self.inside.catalog;
      units = c.self.inside.units;
      library = c.self.inside.library;
      programs = c.self.inside.programs;
      initiators = c.self.inside.initiators;
    } in
    can_hold config c.args.set.now c.self.invariant.kept
    (ap (λ v. set_fault v c.args.set.now) (c.self.view_is ∙ c.set_fault.ensures.same) ∙ sym c.set_fault.ensures.answer ∙ c.in_default.is)

pub invariant_of-self-2 : goal.invariant_of-self-2
invariant_of-self-2 c =
    let config : Configuration = record {
      volumes = c.self.inside.volumes;
      catalog = c.self.inside.catalog;
      units = c.self.inside.units;
      library = c.self.inside.library;
      programs = c.self.inside.programs;
      initiators = c.self.inside.initiators;
    } in
    let none : set_fault config c.args.set.now ≡ None =
    ap (λ v. set_fault v c.args.set.now) (c.self.view_is ∙ c.set_fault.ensures.same) ∙ sym c.set_fault.ensures.answer ∙ c.in_default.is in
    subst IsConfigured (λ i. record config { volumes = sym c.in_ok-enter_set.ensures.made i; catalog = sym c.in_ok-enter_set.ensures.entered i })
    (set_configured config c.args.set.now c.self.invariant none c.is_name.ensures
    (subst VolumesAreLaidOut (c.as_slice.ensures ∙ c.in_ok-enter_set.ensures.made) c.volumes_are_laid_out.ensures))
