-- no more operations are under way once one is over
use Rattle.std.proofs.Common.{◌≡◌, ◌≤◌, Bool, List, length, filter, Result, Ok, Err, OnOk, OnErr, arith, sym, ap, ◌∙◌, subst}
use Rattle.std.proofs.lemmas.List.Sums.{count_by-le-length, length-filter}

pub few_left : {X A E : Type 0} (p : X → Bool) (old new : List X) (r : Result A E) → OnOk r (new ≡ filter p old) → OnErr r (new ≡ old) → length new ≤ length old
few_left p old new (Ok x) ok err = subst (λ n. n ≤ length old) (sym (ap length ok ∙ length-filter p old)) (count_by-le-length p old)
few_left p old new (Err e) ok err = let same = ap length err in omega (arith, same)
