use Rattle.jcl_dds.proofs.WordCards.{word_put, word_refused}
use Rattle.jcl_dds.proofs.dd.read_word.Goals as goal

pub returns-in_ok-word-in-Ok : goal.returns-in_ok-word-in-Ok
returns-in_ok-word-in-Ok c = word_put c.args.name.now c.args.operand.now c.args.cards c.requires.word c.requires.nothing c.dd_names.ensures c.in-Ok.is c.in_ok-word-in-Ok.ensures

pub returns-in-Err : goal.returns-in-Err
returns-in-Err c = word_refused c.args.name.now c.args.operand.now c.args.cards c.requires.word c.dd_names.ensures c.in-Err.is
