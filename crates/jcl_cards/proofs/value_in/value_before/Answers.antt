use Rattle.std.proofs.Common.{ap, ◌∙◌, true, ◌≡◌}
use Rattle.value_core.specs.Reads.{answer}
use Rattle.value_core.proofs.Both.{at_true}
use Rattle.jcl_cards.specs.JobCards.{is_key}
use Rattle.jcl_cards.specs.Keywords.{and_later, read_or, value_in}
use Rattle.jcl_cards.proofs.Later.{and_later_is}
use Rattle.jcl_cards.proofs.value_in.value_before.Goals as goal

pub returns-then-eq : goal.returns-then-eq
returns-then-eq g c = λ behind is.
    let reads = g.R.ValueReader.reads in
    let other = g.R.ValueOr.other in
    let key = c.args.key.now in
    let keyword = c.args.keyword.now in
    let same : is_key key keyword.key ≡ true = cc in
    let here = read_or reads other keyword.value in
    let later = value_in (is_key key) reads other behind in
    at_true (is_key key keyword.key) (and_later here later) later same
    (and_later_is here later (c.read_or.ensures ∙ ap (λ text. answer (read_or reads other text)) c.value.ensures) is c.and_later.ensures)
