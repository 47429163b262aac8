use Rattle.std.proofs.Common.{◌≡◌, ◌==◌, ◌+◌, ◌-◌, length, take, drop, sym, arith, length-drop}
use Rattle.std.proofs.lemmas.List.{take_all}
use Rattle.session_text.proofs.Places.{cut_at, not_cut}
use Rattle.session_text.proofs.zaps.next_part.Goals as goal

pub returns-in-None-clause-none : goal.returns-in-None-clause-none
returns-in-None-clause-none c = not_cut (λ b. b == 44) c.args.text.now (sym c.in-None.ensures.comma)

pub returns-in-Some-clause-some : goal.returns-in-Some-clause-some
returns-in-Some-clause-some c =
    let text = c.args.text.now in
    let k = c.in-Some.comma in
    let behind : take (length text - (k + 1)) (drop (k + 1) text) ≡ drop (k + 1) text = take_all _ (drop (k + 1) text) (omega (arith, length-drop (k + 1) text)) in
    rw behind (cut_at (λ b. b == 44) text k (sym c.in-Some.ensures.comma))
