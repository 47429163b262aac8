-- The code by which kept lists are told apart.
use Rattle.std.specs.Prelude.{ℕ, refl}
use Rattle.std.specs.Coded.{Coded, code_by, coded×, coded_list, coded_ℕ}
use Rattle.std.specs.FinMap.{code}
use Rattle.vtoc_core.specs.Codes.{coded_extent}
use Rattle.mount_core.specs.declared.place.KeptPlace.{KeptPlace}
use Rattle.mount_core.specs.Kept.{Kept}

abbrev pub coded_place : Coded KeptPlace
coded_place =
    code_by (ℕ × (ℕ × ℕ)) (coded× coded_ℕ (coded× coded_ℕ coded_ℕ)) (λ p. (p.job, (p.step, p.dd))) (λ p. record { job = p.0; step = p.1.0; dd = p.1.1 }) (λ _. refl)

abbrev pub coded_kept : Coded Kept
coded_kept = code coded_place (coded_list coded_extent)
