use Rattle.deck_places.proofs.Calls.{call_refused}
use Rattle.deck_places.proofs.laws.each_call_with_a_statement_is_refused.Goals as goal

pub returns : goal.returns
returns c library lines statements deck s card k cause place read own there exec is called number dds =
    call_refused library lines statements deck s card k cause place read own there exec is called number dds
