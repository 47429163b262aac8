-- Records that are opened again from one state agree but for what is open.
use Rattle.std.proofs.Common.{◌==◌, arith, refl, sym, ap, ◌∙◌, subst}
use Rattle.std.specs.List.{list_any}
use Rattle.cb_meaning.specs.declared.layout.Layout.{Layout}
use Rattle.cb_meaning.specs.Fields.{byte_at}
use Rattle.cb_meaning.specs.Spelled.{Records}
use Rattle.world_meaning.specs.Records.{AgreeBut, IsQueueLayout, SameRecords, has_status, open_fields}
use Rattle.world_laws.proofs.Bytes.{low_byte, opened}

pub both_reopened : (l : Layout) (q one other : Records) → IsQueueLayout l → SameRecords l q one → SameRecords l q other → SameRecords l one other
both_reopened l q one other own a b = record {
  free = b.free ∙ sym a.free;
  used = λ n is.
      let was = ap (list_any (λ f. f == n)) (sym a.free) ∙ is in
      let x : AgreeBut (open_fields l (q.at n)) (q.at n) (one.at n) = a.used n was in
      let y : AgreeBut (open_fields l (q.at n)) (q.at n) (other.at n) = b.used n was in
      let kind = low_byte l own (has_status (byte_at (q.at n) 0)) (q.at n) (one.at n) x 0 (omega arith) in
      subst (λ z. AgreeBut (opened l (has_status z)) (one.at n) (other.at n)) (sym kind)
      (record { size = y.size ∙ sym x.size; bytes = λ k out. y.bytes k out ∙ sym (x.bytes k out) });
}

pub as_they_are : (l : Layout) (q : Records) → SameRecords l q q
as_they_are l q = record { free = refl; used = λ n is. record { size = refl; bytes = λ k out. refl } }
