use Rattle.std.proofs.Common.{ap, ◌∙◌}
use Rattle.group_core.specs.Groups.{GroupState, lowest_of}
use Rattle.group_core.proofs.Places.{last_lowest}
use Rattle.group_core.proofs.Falls.{lowest_in_range}
use Rattle.group_core.proofs.group.Group.lowest.Goals as goal

pub returns-clause-lowest : goal.returns-clause-lowest
returns-clause-lowest c =
    c.copied.ensures ∙ c.last.ensures.value ∙ last_lowest c.deref.result.now
    ∙ ap lowest_of c.deref.ensures.value
    ∙ ap (λ (s : GroupState). lowest_of s.generations) c.self.view_is

pub returns-clause-range : goal.returns-clause-range
returns-clause-range c = lowest_in_range _ c.self.inside.generations.items
    (c.copied.ensures ∙ c.last.ensures.value ∙ last_lowest c.deref.result.now ∙ ap lowest_of c.deref.ensures.value) c.self.invariant.0
