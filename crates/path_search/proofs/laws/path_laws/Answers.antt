use Rattle.path_search.proofs.laws.path_laws.Goals as goal

pub returns : goal.returns
returns c = record {
  goes_on = c.path_goes_on.ensures;
  ends = c.path_ends.ensures;
  begins = c.path_begins.ensures;
  agenda = c.agenda_has.ensures;
  stands = c.stands_before.ensures;
  fits = c.fits_before.ensures;
  fates = c.tells_fates.ensures;
  sees = c.path_sees.ensures;
  few = c.are_few.ensures;
  made = c.made_by_step.ensures;
  none_made = c.none_made_at_end.ensures;
}
