use Rattle.text_laws.proofs.Events.{texts_stay_printable}
use Rattle.text_laws.proofs.texts_stay_printable.Goals as goal

pub returns : goal.returns
returns c = texts_stay_printable c.writable_is_printable.ensures c.agendas_are_printable.ensures c.act_is_printable.ensures
