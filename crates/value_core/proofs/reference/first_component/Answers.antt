use Rattle.value_core.proofs.Components.{components_none, components_some}
use Rattle.value_core.proofs.reference.first_component.Goals as goal

pub returns-in-Some : goal.returns-in-Some
returns-in-Some c =
    components_some c.args.text.now c.split_at.result.0.now c.split_at.result.1.now c.in-Some.rest.now c.head_len.result _
    c.head_len.ensures.count c.split_at.ensures.front c.split_at.ensures.back c.in-Some.ensures.cases.0

pub returns-in-None : goal.returns-in-None
returns-in-None c =
    components_none c.args.text.now c.split_at.result.0.now c.split_at.result.1.now c.head_len.result
    c.head_len.ensures.count c.split_at.ensures.front c.split_at.ensures.back c.in-None.ensures.cases
