-- The names of a job that holds none, given free.
use Rattle.std.proofs.Common.{◌≡◌, ◌≢◌, ℕ, Bool, true, false, not, cond, List, [], ◌∷◌, refl, ap}
use Rattle.std.specs.Prelude.{◌==◌}
use Rattle.std.proofs.lemmas.Bool.{eqb-true}
use Rattle.std.proofs.lemmas.List.Elements.{All-head, All-tail}
use Rattle.enq_core.specs.declared.table.Hold.{Hold}
use Rattle.enq_core.specs.Holds.{HoldsNone, without_job}

kept : (b : Bool) (hold : Hold) (all rest : List Hold) → (b ≡ true → ⊥) → all ≡ rest → cond (not b) (hold ∷ all) all ≡ hold ∷ rest
kept true hold all rest e h = absurd (e refl)
kept false hold all rest e h = ap (λ hs. hold ∷ hs) h

pub none_given_free : (holds : List Hold) (job : ℕ) → HoldsNone holds job → without_job job holds ≡ holds
none_given_free [] job none = refl
none_given_free (hold ∷ holds) job none =
    kept (hold.job == job) hold (without_job job holds) holds
    (λ e. All-head (λ (h : Hold). h.job ≢ job) hold holds none (eqb-true hold.job job e))
    (none_given_free holds job (All-tail (λ (h : Hold). h.job ≢ job) hold holds none))
