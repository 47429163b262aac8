use Rattle.std.proofs.Common.{◌≡◌, ◌||◌, length}
use Rattle.std.specs.List.{list_any}
use Rattle.operand_core.specs.Operands.{places_of}
use Rattle.jcl_symbols.specs.Substitutions.{lacks_value, text_with}
use Rattle.jcl_symbols.specs.Writing.{Stores, places_left, texts_of}
use Rattle.jcl_symbols.proofs.substitution.written.Given as goal

abbrev pub invariant-loop-place : goal.invariant-loop-place
invariant-loop-place l =
    (Stores l.text.items (places_left l.begun (texts_of l.symbols l.places)) (text_with l.symbols l.operand))
    × ((l.lacks_value || list_any (lacks_value l.symbols l.dd) l.places) ≡ list_any (lacks_value l.symbols l.dd) (places_of l.operand))

abbrev pub decreases-loop-place : goal.decreases-loop-place
decreases-loop-place l = length l.places
