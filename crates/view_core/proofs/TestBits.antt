-- Bits of tests: those that a view shows are those of the steps that ended, and go on being so.
use Rattle.std.proofs.Common.{◌≡◌, ◌++◌, ◌∷◌, ◌∙◌, ℕ, Bool, true, false, List, [], take, drop, length, refl, sym, ap, subst, cond, append_assoc, get_or, map}
use Rattle.std.specs.Prelude.{All, ◌||◌, ◌&&◌}
use Rattle.std.specs.List.{flat_map, list_any}
use Rattle.std.proofs.Math.Seq.{drop-append_seam, take-append_seam}
use Rattle.std.proofs.lemmas.List.{append-nil, length-map, map-append, take-append-drop}
use Rattle.std.proofs.lemmas.List.Elements.{All-head, All-tail}
use Rattle.cond_core.specs.Classes.{IsAlike}
use Rattle.jcl_plan.specs.declared.outcome.Outcome.{Outcome}
use Rattle.jcl_plan.specs.declared.outcome.Outcome.TheVariants.{Code}
use Rattle.jcl_plan.specs.declared.plan.StepPlan.{StepPlan}
use Rattle.jcl_plan.specs.declared.plan.Test.{Test}
use Rattle.jcl_meaning.specs.History.{holds, looks_at, met_by}
use Rattle.view_core.specs.Bits.{bits_ended, bits_kept, kept_tests, looking, some_met}
use Rattle.view_core.specs.PlainViews.{by_step}

abbrev own_tests : StepPlan → List Test
own_tests s = s.tests.items

-- a list in front of another, by its length
front : {X : Type 0} (xs ys : List X) (n : ℕ) → length xs ≡ n → take n (xs ++ ys) ≡ xs
front xs ys n e = subst (λ (m : ℕ). take m (xs ++ ys) ≡ xs) e (take-append_seam xs ys)

behind : {X : Type 0} (xs ys : List X) (n : ℕ) → length xs ≡ n → drop n (xs ++ ys) ≡ ys
behind xs ys n e = subst (λ (m : ℕ). drop m (xs ++ ys) ≡ ys) e (drop-append_seam xs ys)

-- the bits of these tests stand in front
abbrev pub AreBits : (Test → Bool) → List Test → List StepPlan → List Bool → Type 0
AreBits f job later bits = (extra : List Bool) × (bits ≡ map f (kept_tests job later) ++ extra)

module _ (f : Test → Bool) where
  abbrev rest_of : List StepPlan → List Bool → List Bool
  rest_of later extra = map f (flat_map own_tests later) ++ extra

  whole : (job : List Test) (later : List StepPlan) (extra : List Bool) → map f (kept_tests job later) ++ extra ≡ map f job ++ rest_of later extra
  whole job later extra =
      ap (λ (l : List Bool). l ++ extra) (map-append f job (flat_map own_tests later)) ∙ append_assoc (map f job) (map f (flat_map own_tests later)) extra

  stepped : (s : StepPlan) (later : List StepPlan) (extra : List Bool) → rest_of (s ∷ later) extra ≡ map f s.tests.items ++ rest_of later extra
  stepped s later extra =
      ap (λ (l : List Bool). l ++ extra) (map-append f s.tests.items (flat_map own_tests later))
      ∙ append_assoc (map f s.tests.items) (map f (flat_map own_tests later)) extra

  module _ (job : List Test) where
    pub job_bits : (later : List StepPlan) (bits : List Bool) → AreBits f job later bits → take (length job) bits ≡ map f job
    job_bits later bits h =
        ap (take (length job)) (h.1 ∙ whole job later h.0) ∙ front (map f job) (rest_of later h.0) (length job) (length-map job f)

    later_bits : (later : List StepPlan) (bits : List Bool) (h : AreBits f job later bits) → drop (length job) bits ≡ rest_of later h.0
    later_bits later bits h =
        ap (drop (length job)) (h.1 ∙ whole job later h.0) ∙ behind (map f job) (rest_of later h.0) (length job) (length-map job f)

    pub own_bits : (s : StepPlan) (later : List StepPlan) (bits : List Bool) → AreBits f job (s ∷ later) bits →
        take (length s.tests.items) (drop (length job) bits) ≡ map f s.tests.items
    own_bits s later bits h =
        ap (take (length s.tests.items)) (later_bits (s ∷ later) bits h ∙ stepped s later h.0)
        ∙ front (map f s.tests.items) (rest_of later h.0) (length s.tests.items) (length-map s.tests.items f)

    -- a step is passed
    pub kept_bits : (s : StepPlan) (later : List StepPlan) (bits : List Bool) → AreBits f job (s ∷ later) bits →
        AreBits f job later (bits_kept (length job) (length s.tests.items) bits)
    kept_bits s later bits h = (
      h.0,
      (λ i. job_bits (s ∷ later) bits h i ++ drop (length s.tests.items) ((later_bits (s ∷ later) bits h ∙ stepped s later h.0) i))
          ∙ ap (λ (l : List Bool). map f job ++ l)
          (behind (map f s.tests.items) (rest_of later h.0) (length s.tests.items) (length-map s.tests.items f))
          ∙ sym (whole job later h.0),
    )

    -- what the steps show
    pub by_steps : (later : List StepPlan) (bits : List Bool) (extra : List Bool) → bits ≡ rest_of later extra →
        by_step later bits ≡ map (λ (s : StepPlan). map f s.tests.items) later
    by_steps [] bits extra e = refl
    by_steps (s ∷ later) bits extra e =
        λ i. (ap (take (length s.tests.items)) (e ∙ stepped s later extra)
        ∙ front (map f s.tests.items) (rest_of later extra) (length s.tests.items) (length-map s.tests.items f)) i
        ∷ by_steps later (drop (length s.tests.items) bits) extra
        (ap (drop (length s.tests.items)) (e ∙ stepped s later extra)
        ∙ behind (map f s.tests.items) (rest_of later extra) (length s.tests.items) (length-map s.tests.items f)) i

    pub shown_bits : (later : List StepPlan) (bits : List Bool) → AreBits f job later bits →
        by_step later (drop (length job) bits) ≡ map (λ (s : StepPlan). map f s.tests.items) later
    shown_bits later bits h = by_steps later (drop (length job) bits) h.0 (later_bits later bits h)

    -- and bits that are shown so are those
    from_steps : (later : List StepPlan) (bits : List Bool) → by_step later bits ≡ map (λ (s : StepPlan). map f s.tests.items) later →
        (extra : List Bool) × (bits ≡ rest_of later extra)
    from_steps [] bits e = (bits, refl)
    from_steps (s ∷ later) bits e =
        let more : (extra : List Bool) × (drop (length s.tests.items) bits ≡ rest_of later extra) =
        from_steps later (drop (length s.tests.items) bits) (ap (drop 1) e) in (
          more.0,
          sym (take-append-drop (length s.tests.items) bits)
              ∙ (λ i. ap (λ (l : List (List Bool)). get_or l 0 []) e i ++ more.1 i)
              ∙ sym (stepped s later more.0),
        )

    pub bits_shown : (later : List StepPlan) (bits : List Bool) → take (length job) bits ≡ map f job →
        by_step later (drop (length job) bits) ≡ map (λ (s : StepPlan). map f s.tests.items) later → AreBits f job later bits
    bits_shown later bits front_is steps =
        let more : (extra : List Bool) × (drop (length job) bits ≡ rest_of later extra) = from_steps later (drop (length job) bits) steps in (
          more.0,
          sym (take-append-drop (length job) bits) ∙ (λ i. front_is i ++ more.1 i) ∙ sym (whole job later more.0),
        )

  -- some test is met
  pub some_bit : (tests : List Test) → some_met (map f tests) ≡ list_any f tests
  some_bit [] = refl
  some_bit (t ∷ tests) = ap (λ (b : Bool). f t || b) (some_bit tests)

-- a step ended
module _ (f : Test → Bool) (n : ℕ) (o : Outcome) where
  zipped : (tests : List Test) (extra : List Bool) → bits_ended n o tests (map f tests ++ extra) ≡ map (λ (t : Test). met_by t n o || f t) tests
  zipped [] extra = refl
  zipped (t ∷ tests) extra = ap (λ (l : List Bool). (met_by t n o || f t) ∷ l) (zipped tests extra)

  pub ended_bits : (job : List Test) (later : List StepPlan) (bits : List Bool) → AreBits f job later bits →
      AreBits (λ t. met_by t n o || f t) job later (bits_ended n o (kept_tests job later) bits)
  ended_bits job later bits h = (
    [],
    ap (bits_ended n o (kept_tests job later)) h.1 ∙ zipped (kept_tests job later) h.0
        ∙ sym (append-nil (map (λ (t : Test). met_by t n o || f t) (kept_tests job later))),
  )

-- codes of one class are met alike
looks_alike : (n c d : ℕ) (t : Test) (b : Bool) → looks_at t.step n ≡ b → (b ≡ true → IsAlike c d t) → met_by t n (Code c) ≡ met_by t n (Code d)
looks_alike n c d t true e alike = ap (λ (b : Bool). looks_at t.step n && b) (alike refl)
looks_alike n c d t false e alike =
    ap (λ (b : Bool). b && holds t.operator t.code c) e ∙ sym (ap (λ (b : Bool). b && holds t.operator t.code d) e)

filtered_head : (n c d : ℕ) (t : Test) (tests : List Test) (b : Bool) → looks_at t.step n ≡ b → All (IsAlike c d) (looking n (t ∷ tests)) →
    (b ≡ true → IsAlike c d t) × All (IsAlike c d) (looking n tests)
filtered_head n c d t tests true e h =
    let here : All (IsAlike c d) (t ∷ looking n tests) = subst (λ (b : Bool). All (IsAlike c d) (cond b (t ∷ looking n tests) (looking n tests))) e h in
    (λ q. All-head (IsAlike c d) t (looking n tests) here, All-tail (IsAlike c d) t (looking n tests) here)
filtered_head n c d t tests false e h =
    (λ q. absurd cc, subst (λ (b : Bool). All (IsAlike c d) (cond b (t ∷ looking n tests) (looking n tests))) e h)

pub class_bits : (n c d : ℕ) (tests : List Test) (bits : List Bool) → All (IsAlike c d) (looking n tests) →
    bits_ended n (Code c) tests bits ≡ bits_ended n (Code d) tests bits
class_bits n c d [] bits h = refl
class_bits n c d (t ∷ tests) [] h = refl
class_bits n c d (t ∷ tests) (b ∷ bits) h =
    let both : (looks_at t.step n ≡ true → IsAlike c d t) × All (IsAlike c d) (looking n tests) = filtered_head n c d t tests (looks_at t.step n) refl h in
    λ i. (looks_alike n c d t (looks_at t.step n) refl both.0 i || b) ∷ class_bits n c d tests bits both.1 i
