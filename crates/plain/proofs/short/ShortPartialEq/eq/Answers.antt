use Rattle.std.proofs.Common.{is_eq, ◌∙◌, ap, sym}
use Rattle.std.specs.Cmp.Lexicographic.{texts_ties}
use Rattle.plain.proofs.short.ShortPartialEq.eq.Goals as goal

pub returns : goal.returns
returns g c = c.is_eq.ensures ∙ ap is_eq c.cmp.ensures ∙ sym (texts_ties c.args.self.now c.args.other.now)
