use Rattle.std.proofs.Common.{ap, sym, ◌∙◌, Some}
use Rattle.extent_core.specs.Extents.{extent}
use Rattle.extent_core.proofs.Finding.{first_kept, first_kept_none}
use Rattle.extent_core.proofs.free.FreeExtents.first.Goals as goal

pub returns-in_err-place : goal.returns-in_err-place
returns-in_err-place c =
    rw (← c.self.view_is)
    (c.from_residual.ensures ∙ sym (first_kept_none c.self.inside.count c.self.inside.sizes c.self.inside.ends.items c.args.tracks c.max.result c.self.invariant c.max.ensures c.in_err-place.ensures))

pub returns : goal.returns
returns c =
    rw (← c.self.view_is)
    (ap (λ n. Some (extent c.in_ok-place.place n)) c.get.ensures
    ∙ sym (first_kept c.self.inside.count c.self.inside.sizes c.self.inside.ends.items c.args.tracks c.max.result c.in_ok-place.place c.self.invariant c.max.ensures c.in_ok-place.ensures))
