use Rattle.line_laws.proofs.Abends.{s222_alone, sb37_alone}
use Rattle.line_laws.proofs.Alone.{end_alone}
use Rattle.line_laws.proofs.Assured.{says_assured}
use Rattle.line_laws.proofs.CancelLines.{cancel_alone}
use Rattle.line_laws.proofs.texts_are_alone.Goals as goal

pub returns : goal.returns
returns c = record { assured = says_assured; end = end_alone; s222 = s222_alone; sb37 = sb37_alone; cancel = cancel_alone }
