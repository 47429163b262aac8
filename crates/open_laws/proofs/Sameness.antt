-- Records that agree but for what is open agree so both ways, and one after another.
use Rattle.std.proofs.Common.{◌==◌, refl, sym, ap, ◌∙◌, subst}
use Rattle.std.specs.List.{list_any}
use Rattle.cb_meaning.specs.declared.layout.Layout.{Layout}
use Rattle.cb_meaning.specs.Fields.{byte_at}
use Rattle.cb_meaning.specs.Spelled.{Records}
use Rattle.world_meaning.specs.Records.{AgreeBut, IsQueueLayout, SameRecords, has_status, open_fields}
use Rattle.open_laws.specs.Open.{SamenessIsKept}
use Rattle.open_laws.proofs.Alike.{bare, bare_kind}

itself : (l : Layout) (q : Records) → SameRecords l q q
itself l q = record { free = refl; used = λ n is. record { size = refl; bytes = λ k out. refl } }

module _ (l : Layout) (own : IsQueueLayout l) where
  back : (q r : Records) → SameRecords l q r → SameRecords l r q
  back q r a = record {
    free = sym a.free;
    used = λ n is.
        let was = ap (list_any (λ f. f == n)) (sym a.free) ∙ is in
        let x : AgreeBut (open_fields l (q.at n)) (q.at n) (r.at n) = a.used n was in
        let kind = bare_kind l own (has_status (byte_at (q.at n) 0)) (q.at n) (r.at n) x in
        subst (λ z. AgreeBut (bare l (has_status z)) (r.at n) (q.at n)) (sym kind) (record { size = sym x.size; bytes = λ k out. sym (x.bytes k out) });
  }

  on : (p q r : Records) → SameRecords l p q → SameRecords l q r → SameRecords l p r
  on p q r a b = record {
    free = b.free ∙ a.free;
    used = λ n is.
        let here = ap (list_any (λ f. f == n)) a.free ∙ is in
        let x : AgreeBut (open_fields l (p.at n)) (p.at n) (q.at n) = a.used n is in
        let kind = bare_kind l own (has_status (byte_at (p.at n) 0)) (p.at n) (q.at n) x in
        let y = subst (λ z. AgreeBut (bare l (has_status z)) (q.at n) (r.at n)) kind (b.used n here) in
        record { size = y.size ∙ x.size; bytes = λ k out. y.bytes k out ∙ x.bytes k out };
  }

pub sameness_is_kept : SamenessIsKept
sameness_is_kept l own = record { itself = itself l; back = back l own; on = on l own }
