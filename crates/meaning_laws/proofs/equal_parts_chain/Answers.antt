use Rattle.meaning_laws.proofs.Parts.{part_along, part_back, part_same}
use Rattle.meaning_laws.proofs.equal_parts_chain.Goals as goal

pub returns : goal.returns
returns c = record { same = part_same; both_ways = part_back; along = part_along }
