use Rattle.std.proofs.Common.{arith, refl}
use Rattle.std.proofs.lemmas.Option.{slice_get_read}
use Rattle.path_core.proofs.PathFates.{all_of_fates, each_of_fates, fits_more}
use Rattle.path_core.proofs.fates.are_of_fates.Goals as goal

pub loop-place-preserved : goal.loop-place-preserved
loop-place-preserved c =
    fits_more c.args.fates.now c.args.path.now c.loop-place.place c.index-path-place.result c.loop-place-test.true c.index-path-place.is c.loop-place.invariant
    (c.is_of_fate_at.ensures.0 c.if-not-is_of_fate_at.false)

pub returns-then-not-is_of_fate_at : goal.returns-then-not-is_of_fate_at
returns-then-not-is_of_fate_at c =
    let o = c.index-path-place.result in
    let there = slice_get_read c.args.path.now _ c.loop-place.place o refl c.loop-place-test.true c.index-path-place.is in (
      λ yes. absurd cc,
      λ all. let yes = c.is_of_fate_at.ensures.1 (each_of_fates c.args.fates.now c.args.path.now c.loop-place.place o all there) in absurd cc,
    )

pub returns : goal.returns
returns c = (
  λ yes. all_of_fates c.args.fates.now c.args.path.now (λ k o less. c.loop-place.invariant k o (omega arith)),
  λ all. refl,
)
