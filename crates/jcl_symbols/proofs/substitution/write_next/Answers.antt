use Rattle.jcl_symbols.proofs.Written.{writes_next}
use Rattle.jcl_symbols.proofs.substitution.write_next.Goals as goal

pub returns-then-needs_values-clause-text : goal.returns-then-needs_values-clause-text
returns-then-needs_values-clause-text c =
    writes_next c.args.symbols.now c.args.text.now.items c.write_comma.new.text.items c.write_place.new.text.items c.args.begun c.args.place.now
    c.in_ok-lacks_value.lacks_value c.in_ok-write_comma.ensures c.in_ok-lacks_value.ensures

pub returns-else-needs_values-clause-text : goal.returns-else-needs_values-clause-text
returns-else-needs_values-clause-text c =
    writes_next c.args.symbols.now c.args.text.now.items c.write_comma.new.text.items c.write_place.new.text.items c.args.begun c.args.place.now
    c.in_ok-lacks_value.lacks_value c.in_ok-write_comma.ensures c.in_ok-lacks_value.ensures
