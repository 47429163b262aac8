use Rattle.std.proofs.Common.{refl}
use Rattle.std.specs.Fmt.{digits}
use Rattle.text_rows.proofs.lines.writes_causes.Goals as goal

pub returns : goal.returns
unfolding digits
returns c = record {
  of_cards = refl;
  of_names = refl;
  of_statements = refl;
  queue_full = refl;
  not_owner = refl;
  already_selected = refl;
  of_records = refl;
  no_such_initiator = refl;
  no_such_job = refl;
  no_such_volume = refl;
  nothing_under_way = refl;
  past_a_limit = refl;
}
