-- Layouts in which jobs are written and read. (This profile)
use Rattle.cb_meaning.specs.declared.layout.Layout.{Layout}
use Rattle.cb_meaning.specs.Layouts.{HasOwnFields}
use Rattle.cb_chain.specs.Written.{HoldsJobs}

-- a layout that can hold jobs has fields that are apart
abbrev pub ReadsWhatItHolds : Type 0
ReadsWhatItHolds = (l : Layout) → HoldsJobs l → HasOwnFields l
