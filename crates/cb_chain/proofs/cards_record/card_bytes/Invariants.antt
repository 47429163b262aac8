use Rattle.std.proofs.Common.{◌≡◌, List, ℕ, take}
use Rattle.std.specs.List.{flat_map}
use Rattle.cb_meaning.specs.Fields.{then_zeros}
use Rattle.cb_chain.proofs.cards_record.card_bytes.Given as goal

abbrev pub invariant-loop-i : goal.invariant-loop-i
invariant-loop-i l = l.own ≡ then_zeros 160 (flat_map (λ (card : List ℕ). card) (take l.i l.cards))
