use Rattle.machine_laws.proofs.NextMachine.{decides}
use Rattle.machine_laws.proofs.next_is_decided.Goals as goal

pub returns : goal.returns
returns c =
    decides c.events_go_alike.ensures c.events_are_decided.ensures c.answers_meet.ensures c.is_never_two.ensures c.is_one_answer.ensures
    c.keeping_is_decided.ensures c.next_of_is_decided.ensures c.events_keep_no_more.ensures c.sameness_is_kept.ensures
