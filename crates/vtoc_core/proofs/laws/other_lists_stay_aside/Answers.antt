use Rattle.std.proofs.Common.{sym}
use Rattle.vtoc_core.specs.declared.volume.Track.TheVariants.{Aside}
use Rattle.vtoc_core.proofs.KindLemmas.{apart, are_of_apart}
use Rattle.vtoc_core.proofs.laws.other_lists_stay_aside.Goals as goal

pub returns : goal.returns
returns c = record {
  stay = λ kind ts list es a l. are_of_apart kind Aside ts list es a l;
  apart = λ kind ts list es n a b. λ k l. apart k Aside kind ts list es (λ e. n (sym e)) a b l;
}
