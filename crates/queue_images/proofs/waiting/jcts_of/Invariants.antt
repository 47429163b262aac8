use Rattle.std.proofs.Common.{◌≡◌, length, take}
use Rattle.queue_images.specs.Waiting.{AreJctsOf}
use Rattle.queue_images.proofs.waiting.jcts_of.Given as goal

abbrev pub invariant-loop-w : goal.invariant-loop-w
invariant-loop-w l = record { size : length l.jcts.items ≡ 10000; are : AreJctsOf l.jcts.items (take l.w-index l.jobs) }
