use Rattle.std.proofs.Common.{◌≡◌, ℕ, List, ◌++◌, drop, length, take, subst, sym, ap, ◌∙◌}
use Rattle.std.proofs.Math.Seq.{take-append_seam}
use Rattle.std.specs.FinMap.{get}
use Rattle.std.specs.List.{AllZip}
use Rattle.mount_core.specs.Mounts.{MountedState}
use Rattle.place_core.specs.Keepings.{IsGivenBackOn}
use Rattle.place_core.proofs.GivenBack.{follow_back, rooms_zip, sets_back, shown_back}
use Rattle.place_core.proofs.keep.give_all_back_for.Goals as goal

pub returns : goal.returns
returns c =
    let old : List MountedState = c.args.store.now.volumes in
    let new : List MountedState = c.give_back_on_each.new.volumes in
    let rest : List MountedState = drop (length new) c.into_vec-volumes.result.items in
    let is : c.new.result ≡ new =
    c.new.ensures ∙ ap (λ (n : ℕ). take n (new ++ rest)) (sym (c.give_back_on_each.auto.volumes ∙ c.as_mut_slice.ensures.len)) ∙ take-append_seam new rest in
    let was : c.as_mut_slice.result.now ≡ old = c.as_mut_slice.ensures.value ∙ c.into_vec-volumes.ensures ∙ c.replace.ensures.value in
    let all : AllZip (IsGivenBackOn c.args.job) old c.new.result =
    subst (AllZip (IsGivenBackOn c.args.job) old) (sym is) (subst (λ (v : List MountedState). AllZip (IsGivenBackOn c.args.job) v new) was c.give_back_on_each.ensures) in
    record {
      kept = shown_back c.args.job old c.new.result all;
      store = λ i. record { set = λ k serial. sets_back c.args.job old c.new.result all k serial i; catalog = λ name. get c.args.store.now.catalog name };
      rooms = rooms_zip c.args.job old c.new.result all;
      follow = follow_back c.args.job old c.new.result all;
    }
