-- The walk over what stands below an SIOT, which stands behind these DDs of its step and behind these steps. (This profile)
use Rattle.std.specs.Prelude.{ℕ, ◌+◌, Bool, List, length}
use Rattle.cb_meaning.specs.Walks.{walk_below, walk_jfcb, with_dds}
use Rattle.cb_queue.specs.RecordQueues.{RecordQueue, shown}
use Rattle.cb_walk.specs.Follows.{From}

abbrev pub jfcb_from : RecordQueue → ℕ → List (List Bool) → List Bool → List ℕ → ℕ → From (List ℕ)
jfcb_from q job steps dds siot n = λ seen. walk_jfcb q.layout (shown q) job (with_dds steps dds) (length steps + 1) (length dds + 1) siot seen n

abbrev pub below_from : RecordQueue → ℕ → ℕ → List (List Bool) → List Bool → List ℕ → From (List ℕ)
below_from q job fuel steps dds siot = λ seen. walk_below q.layout (shown q) job fuel (with_dds steps dds) (length steps + 1) (length dds + 1) siot seen
