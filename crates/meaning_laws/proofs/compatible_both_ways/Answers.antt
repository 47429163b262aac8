use Rattle.meaning_laws.proofs.Compatible.{both_ways}
use Rattle.meaning_laws.proofs.compatible_both_ways.Goals as goal

pub returns : goal.returns
returns c = both_ways
