use Rattle.deck_places.proofs.Judged.{card_so}
use Rattle.deck_places.proofs.judge.judge_cards.Goals as goal

pub returns : goal.returns
returns c units library = card_so units library c.args.lines.now c.args.fault c.number.result c.in_ok-n.n c.requires c.number.ensures c.in_ok-n.ensures
