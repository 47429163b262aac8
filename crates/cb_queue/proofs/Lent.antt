-- What is known of a record in use from the bytes that are lent of it.
use Rattle.std.proofs.Common.{◌≡◌, List, ℕ, None, Option, Some, ap, refl, true}
use Rattle.std.specs.Prelude.{is_some}
use Rattle.cb_meaning.specs.declared.layout.Layout.{Layout}
use Rattle.cb_meaning.specs.Fields.{field, number_at, number_of}
use Rattle.cb_records.proofs.Kept.{part_stays}
use Rattle.cb_queue.specs.RecordQueues.{HasOwnLink, IsLent, owner_in}

pub lent_used : (l : Layout) (o r : Option (List ℕ)) → IsLent l o r → is_some r ≡ true → is_some o ≡ true
lent_used l None None h e = cc
lent_used l None (Some s) h e = absurd h
lent_used l (Some r) o h e = refl

pub lent_owner : (l : Layout) (o : Option (List ℕ)) (s : List ℕ) → HasOwnLink l → IsLent l o (Some s) → number_at s (field 2 2) ≡ owner_in o
lent_owner l None s own h = absurd h
lent_owner l (Some r) s own h = ap number_of (part_stays l.link (field 2 2) r s h own.owner)
