use Rattle.std.proofs.Common.{◌≡◌, [], true, sym, ap, ◌∙◌}
use Rattle.operand_core.specs.Faults.{told}
use Rattle.operand_core.proofs.Keys.{one_has_none}
use Rattle.jcl_cards.specs.ExecCards.{is_symbol}
use Rattle.jcl_cards.specs.Execs.{faults_on}
use Rattle.jcl_cards.proofs.ExecNames.{symbol_is_named}
use Rattle.jcl_cards.proofs.exec.symbols_of.Goals as goal

pub symbol_of-requires : goal.symbol_of-requires
symbol_of-requires c =
    let keyword = c.keyword-item.result in
    let is : is_symbol keyword ≡ true = sym c.is_symbol.ensures ∙ c.if-is_symbol.true in
    let none : faults_on true keyword ≡ [] =
    ap (faults_on true) c.keyword-item.is ∙ one_has_none (faults_on true) c.args.keywords.now c.loop-keyword.keyword-index keyword c.requires
    c.loop-keyword-test.true in
    ap told (symbol_is_named keyword is none)
