use Rattle.std.proofs.Common.{subst, sym}
use Rattle.config_core.specs.Configured.{IsConfigured}
use Rattle.config_core.proofs.Keeping.{nothing_is_configured}
use Rattle.config_core.proofs.config.Config.new.Goals as goal

pub invariant_of-result : goal.invariant_of-result
invariant_of-result c =
    subst IsConfigured
    (λ i. record {
      volumes = sym c.empty.ensures i;
      catalog = sym c.new.ensures i;
      units = sym c.new-2.ensures i;
      library = sym c.new-3.ensures i;
      programs = sym c.new-4.ensures i;
      initiators = sym c.empty-2.ensures i;
    })
    nothing_is_configured
