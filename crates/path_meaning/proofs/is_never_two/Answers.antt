use Rattle.std.proofs.Common.{◌≡◌, arith, length}
use Rattle.std.proofs.lemmas.Bool.{eqb-true}
use Rattle.jcl_meaning.specs.Solo.{solo_path_of}
use Rattle.path_meaning.proofs.is_never_two.Goals as goal

pub returns : goal.returns
returns c = λ fixed plan store limit places free. (
  λ fault step dd path earliest.
      let none : length (solo_path_of fixed plan store earliest.meets.outcomes).faults ≡ 0 =
      eqb-true _ _ (free.safe earliest.meets.outcomes earliest.meets.within) in
      omega (arith, none, earliest.meets.met.1),
  λ step first. free.few step first.from_one first.to_last first.more,
)
