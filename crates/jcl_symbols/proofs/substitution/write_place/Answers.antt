use Rattle.std.proofs.Common.{◌≡◌, [], Bool, ◌||◌, None, sym, ◌∙◌, ap, subst}
use Rattle.value_core.proofs.Parentheses.{nothing_left}
use Rattle.jcl_symbols.specs.Substitutions.{Substituted, substituted_from, substituted_in}
use Rattle.jcl_symbols.specs.Writing.{Writes}
use Rattle.jcl_symbols.proofs.Walk.{at_end}
use Rattle.jcl_symbols.proofs.Written.{character_step, symbol_step}
use Rattle.jcl_symbols.proofs.substitution.write_place.Goals as goal

pub loop-c-preserved-then-lacks_value : goal.loop-c-preserved-then-lacks_value
loop-c-preserved-then-lacks_value c =
    symbol_step c.args.symbols.now c.loop-c.quoted c.in-Some.c.now c.in-Some.behind.now c.loop-c.rest.now c.in_ok-left.left.now c.args.text.now.items c.loop-c.text.items
    c.write_symbol.new.text.items (substituted_in c.args.symbols.now c.args.place.now) c.loop-c.lacks_value c.in_ok-left.lacks c.loop-c.lacks_value
    (sym c.begins_symbol.ensures ∙ c.if-begins_symbol.true) c.in-Some.ensures.cases.0 c.loop-c.invariant c.in_ok-left.ensures.text
    (ap (λ (b : Bool). b || c.in_ok-left.lacks) c.if-lacks_value.true ∙ sym c.if-lacks_value.true)

pub loop-c-preserved-else-lacks_value : goal.loop-c-preserved-else-lacks_value
loop-c-preserved-else-lacks_value c =
    symbol_step c.args.symbols.now c.loop-c.quoted c.in-Some.c.now c.in-Some.behind.now c.loop-c.rest.now c.in_ok-left.left.now c.args.text.now.items c.loop-c.text.items
    c.write_symbol.new.text.items (substituted_in c.args.symbols.now c.args.place.now) c.loop-c.lacks_value c.in_ok-left.lacks c.in_ok-left.lacks
    (sym c.begins_symbol.ensures ∙ c.if-begins_symbol.true) c.in-Some.ensures.cases.0 c.loop-c.invariant c.in_ok-left.ensures.text
    (ap (λ (b : Bool). b || c.in_ok-left.lacks) c.if-lacks_value.false)

pub loop-c-preserved : goal.loop-c-preserved
loop-c-preserved c =
    character_step c.args.symbols.now c.loop-c.quoted c.quoted_after-quoted.result c.in-Some.c.now c.in-Some.behind.now c.loop-c.rest.now c.args.text.now.items
    c.loop-c.text.items c.write_character.new.text.items (substituted_in c.args.symbols.now c.args.place.now) c.loop-c.lacks_value
    (sym c.begins_symbol.ensures ∙ c.if-begins_symbol.false) c.in-Some.ensures.cases.0 c.loop-c.invariant c.in_ok-write_character.ensures c.quoted_after-quoted.ensures

pub returns : goal.returns
returns c =
    let symbols = c.args.symbols.now in
    let none : c.loop-c.rest.now ≡ [] = nothing_left c.loop-c.rest.now c.in_default.ensures.cases in
    subst (λ (s : Substituted). Writes c.args.text.now.items c.loop-c.text.items (substituted_in symbols c.args.place.now) s c.loop-c.lacks_value)
    (ap (substituted_from symbols c.loop-c.quoted None) none ∙ at_end symbols c.loop-c.quoted) c.loop-c.invariant
