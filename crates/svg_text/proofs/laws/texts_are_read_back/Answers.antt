use Rattle.svg_text.proofs.ReadBack.{reads_back}
use Rattle.svg_text.proofs.laws.texts_are_read_back.Goals as goal

pub returns : goal.returns
returns c = reads_back
