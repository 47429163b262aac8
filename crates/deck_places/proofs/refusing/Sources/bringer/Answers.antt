use Rattle.std.proofs.Common.{◌∙◌, inl, false, ap, arith, refl}
use Rattle.deck_places.specs.Cuts.{refuses}
use Rattle.deck_places.proofs.Cuts.{some_statement, uncut}
use Rattle.deck_places.proofs.refusing.Sources.bringer.Goals as goal

pub loop-low-init : goal.loop-low-init
loop-low-init c =
    record {
      before = inl refl;
      behind = ap (refuses c.args.part c.args.self.now.units.now c.args.self.now.library.now) (uncut false c.args.statements.now) ∙ c.requires;
      order = some_statement c.args.part c.args.self.now.units.now c.args.self.now.library.now c.args.statements.now c.requires;
      within = omega arith;
    }
