use Rattle.mvt_picture.proofs.session.run_opened.Goals as goal

pub run_on-requires-clause-configured : goal.run_on-requires-clause-configured
run_on-requires-clause-configured c = (c.requires.config, c.requires.sound, c.requires.apart)
