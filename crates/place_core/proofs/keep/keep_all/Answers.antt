use Rattle.std.proofs.Common.{◌≡◌, ℕ, List, ◌++◌, None, drop, length, take, refl, subst, sym, ap, ◌∙◌}
use Rattle.std.proofs.Math.Seq.{take-append_seam}
use Rattle.mount_core.specs.Mounts.{MountedState}
use Rattle.place_core.specs.Keepings.{kept_in}
use Rattle.place_core.proofs.KeptAll.{KeepsEach, keeps_all, none_refused, run_keeps}
use Rattle.place_core.proofs.keep.keep_all.Goals as goal

pub returns-clause-kept : goal.returns-clause-kept
returns-clause-kept c = λ ok.
    let job = c.args.job in
    let plan = c.args.plan.now in
    let places = c.args.places.now in
    let store = c.args.store.now in
    let before : List MountedState = c.as_mut_slice.result.now in
    let after : List MountedState = c.keep_on_each-done.new.volumes in
    let rest : List MountedState = drop (length after) c.into_vec-volumes.result.items in
    let was : before ≡ store.volumes = c.as_mut_slice.ensures.value ∙ c.into_vec-volumes.ensures ∙ c.replace.ensures.value in
    let is : c.new.result ≡ after =
    c.new.ensures ∙ ap (λ (n : ℕ). take n (after ++ rest)) (sym (c.keep_on_each-done.auto.volumes ∙ c.as_mut_slice.ensures.len)) ∙ take-append_seam after rest in
    let refused : (kept_in job plan places store.volumes).refused ≡ None =
    ap (λ (v : List MountedState). (kept_in job plan places v).refused) (sym was)
    ∙ none_refused c.keep_on_each-done.result (kept_in job plan places before).refused c.keep_on_each-done.ensures.refused ok in
    let run : (kept_in job plan places store.volumes).volumes ≡ c.new.result =
    ap (λ (v : List MountedState). (kept_in job plan places v).volumes) (sym was) ∙ sym (c.keep_on_each-done.ensures.volumes ok) ∙ sym is in
    keeps_all job plan places store (record store { volumes = c.new.result }) c.requires.none (λ i. record store { volumes = sym run i })
    (subst (KeepsEach job plan places store.volumes) run (run_keeps job plan places store.volumes refused))
