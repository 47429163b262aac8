use Rattle.std.proofs.Common.{ℕ, ◌∙◌, List, All, ap, map, subst, sym, take}
use Rattle.cb_meaning.specs.Fields.{part}
use Rattle.cb_meaning.specs.Readings.{job_test_read}
use Rattle.cb_meaning.specs.Walks.{in_parts}
use Rattle.cb_queue.specs.RecordQueues.{shown}
use Rattle.cb_read.specs.Ranges.{IsTestInRange}
use Rattle.job_records.specs.Fields.{JctFields}
use Rattle.job_records.proofs.There.{range}
use Rattle.job_records.proofs.records.JobRecords.job_tests.Goals as goal

pub tests_read-requires-clause-range : goal.tests_read-requires-clause-range
tests_read-requires-clause-range g c =
    let q = g.S.RecordStore.queue c.args.self.now.store.now in
    let n = c.args.self.now.jct in
    let InRange : ℕ → List ℕ → Type 0 = λ count bytes. All IsTestInRange (map job_test_read (take count (in_parts 8 3 bytes))) in
    let count = c.test_count.ensures ∙ ap (λ (f : JctFields). f.test_count) c.head-head.ensures.fields in
    let bytes = c.tests.ensures.value ∙ ap (λ (f : JctFields). f.tests) c.head-head.ensures.fields in
    subst (λ b. InRange c.test_count.result b) (sym bytes) (subst (λ m. InRange m (part ((shown q).at n) 26 24)) (sym count) (range q n c.requires.recorded).tests)
