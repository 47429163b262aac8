use Rattle.std.proofs.Common.{lit≤, refl, arith, subst, List, Some, None, ◌++◌, [], ◌∷◌, true, false}
use Rattle.std.specs.List.{Contains}
use Rattle.std.specs.Prelude.{codes, ◌≤◌, ◌≡◌, IsTrue}
use Rattle.enq_core.specs.declared.table.Hold.{Hold}
use Rattle.enq_core.specs.Holds.{conflicts, is_blocked}
use Rattle.enq_core.specs.declared.table.Want.{Want}
use Rattle.std.specs.Fmt.{digits}
use Rattle.std.proofs.lemmas.List.Elements.{All-cons, All-nil}
use Rattle.jcl_meaning.specs.Acts.{act}
use Rattle.jcl_meaning.specs.Solo.{run}
use Rattle.world_meaning.specs.Readings.{Denoting}
use Rattle.world_meaning.specs.Admissions.{AreKept, IsKeptAt, assured}
use Rattle.world_meaning.specs.Holdings.{held, blocked}
use Rattle.world_meaning.specs.Turns.{advance}
use Rattle.world_meaning.proofs.Conserved.{conserved_same}
use Rattle.world_meaning.proofs.Following.{acted, ended, turned}
use Rattle.jname_core.specs.declared.key.Key.TheVariants.{Named}
use Rattle.jcl_plan.specs.declared.entry.JobLine.{JobLine}
use Rattle.jcl_plan.specs.declared.entry.JobLine.TheVariants as line
use Rattle.jcl_plan.specs.declared.outcome.Fate.TheVariants as fate
use Rattle.jcl_plan.specs.declared.outcome.Outcome.{Outcome}
use Rattle.jcl_plan.specs.declared.outcome.Outcome.TheVariants as outcome
use Rattle.jcl_plan.specs.declared.words.DispWord.TheVariants as disp
use Rattle.jcl_plan.specs.declared.words.TakeWord.TheVariants as word
use Rattle.jcl_meaning.specs.declared.state.Own.{Own}
use Rattle.jcl_meaning.specs.declared.state.Resolution.TheVariants.{Means}
use Rattle.jcl_meaning.specs.Solo.{nothing_own, solo_path_of}
use Rattle.jcl_meaning.specs.declared.state.Place.{Place}
use Rattle.jcl_meaning.specs.States.{Fixed}
use Rattle.jcl_meaning.specs.Stores.{Store}
use Rattle.path_meaning.specs.Paths.{IsSafe, Makes}
use Rattle.path_meaning.specs.Verdicts.{AreMade}
use Rattle.world_meaning.specs.Lenses.{seen}
use Rattle.world_meaning.specs.Worlds.{Admitted, Wanting, World}
use Rattle.world_rows.specs.Machines.{Follow, Reach, initiator, serial}
use Rattle.world_rows.specs.Names.{are_free_again, are_held, are_used, deleter, name, reader, start}
use Rattle.world_rows.proofs.Joined.{follow_on}
use Rattle.world_rows.proofs.sessions.waits_for_names.Goals as goal

abbrev held_now : List Hold
held_now = record { job = 1; name = name; exclusive = false } ∷ []

low : 1 ≤ 1
low = lit≤ tt

abbrev wanted : Want
wanted = record { name = name; exclusive = true }

-- both jobs have asked for the name, and the first is admitted
abbrev fixed : Fixed
fixed = record { job_tests = []; volumes = serial ∷ []; places = []; meanings = record { step = 1; dd = 1; means = Means (Named name) } ∷ []; date = 25567 }

abbrev store_now : Store
store_now = seen 1 start.shared.store

abbrev asked_lines : List JobLine
asked_lines = line.WaitNames 1 name ∷ []

abbrev middle : World
middle = record start {
  shared = record start.shared { holds = held_now };
  initiators = initiator 1 (Some (record { job = 1; listing = line.Names 1 ∷ line.Assured 0 5 ∷ []; stage = Admitted reader (record { fixed = fixed; assured = true }) 0 nothing_own }))
      ∷ initiator 2 (Some (record { job = 2; listing = asked_lines; stage = Wanting deleter })) ∷ [];
  events = 7;
}

-- The reader meets no fault, however its step ends, and makes no set.
is_safe : IsSafe fixed reader store_now
unfolding act run
is_safe [] within = refl
is_safe (outcome.Code code ∷ outcomes) within = refl
is_safe (outcome.Abend a ∷ outcomes) within = refl
is_safe (outcome.Bypassed ∷ outcomes) within = refl
is_safe (outcome.Flushed ∷ outcomes) within = refl

nothing_made : (outcomes : List Outcome) → (solo_path_of fixed reader store_now outcomes).made ≡ []
unfolding act run
nothing_made [] = refl
nothing_made (outcome.Code code ∷ outcomes) = refl
nothing_made (outcome.Abend a ∷ outcomes) = refl
nothing_made (outcome.Bypassed ∷ outcomes) = refl
nothing_made (outcome.Flushed ∷ outcomes) = refl

in_none : (p : Place) → Contains [] p → ⊥
in_none p (n, less, is) = omega (arith, less)

none_made : AreMade fixed reader store_now []
none_made = record {
  made = All-nil (Makes fixed reader store_now);
  all = λ p m. absurd (in_none p (subst (λ (made : List Place). Contains made p) (nothing_made m.outcomes) m.made));
  rising = tt;
}

none_kept : AreKept reader 1 [] start.shared.kept
none_kept = record { founded = λ serial. All-nil (IsKeptAt reader [] serial); all = λ p within. absurd (in_none p within); once = λ serial. refl }

first_part : (job_of : Denoting) → Reach job_of start are_held middle
unfolding act run advance digits
first_part job_of = (
  _,
  _,
  turned job_of _ 0 _ _ _ _ _ (lit≤ tt) refl refl (held (All-cons (λ (want : Want). is_blocked [] want ≡ false) (record { name = name; exclusive = false }) [] refl (All-nil _)) refl refl refl) refl,
  refl,
  (
    _,
    _,
    turned job_of _ 1 _ _ _ _ _ (lit≤ tt) refl refl (blocked (record { job = 1; name = name }) (record {
      before = [];
      want = wanted;
      behind = [];
      stands = refl;
      free = All-nil (λ (want : Want). is_blocked held_now want ≡ false);
      name = refl;
      holder = refl;
      lowest = All-cons (λ (hold : Hold). IsTrue (conflicts wanted hold) → 1 ≤ hold.job) (record { job = 1; name = name; exclusive = false }) [] (λ h. low)
          (All-nil (λ (hold : Hold). IsTrue (conflicts wanted hold) → 1 ≤ hold.job));
    }) refl refl refl) refl,
    refl,
    (
      _,
      _,
      turned job_of _ 0 _ _ _ _ _ (lit≤ tt) refl refl (record { places = []; placed = ([], [], refl, ([], [], refl, refl, refl), refl); answers = assured [] start.shared.kept start.shared.free is_safe none_made none_kept refl refl refl (conserved_same _ _ refl refl refl) refl }) refl,
      refl,
      refl,
    ),
  ),
)

-- its step is over
abbrev done_lines : List JobLine
done_lines = line.Names 1 ∷ line.Assured 0 5 ∷ line.Step 1 (Some (codes "S1")) None fate.Run ∷ line.Take 1 (Some (codes "IN")) (word.Found serial) ∷ line.Code 0
    ∷ line.Disp 1 (Some (codes "IN")) disp.Kept ∷ []

abbrev done_own : Own
done_own = record nothing_own {
  ended = record { step = 1; outcome = outcome.Code 0 } ∷ [];
  volumes = record { step = 1; dd = 1; serial = serial } ∷ [];
  runs = true;
  over = Some (outcome.Code 0);
  dds = record {
    number = 1;
    name = Some (codes "IN");
    taken = Some (record { key = Named name; serial = serial; made = false; by_catalog = true; made_here = false });
    member = 0;
    position = 0;
    written = false;
    spooled = [];
  } ∷ [];
}

abbrev step_over : World
step_over = record middle {
  initiators = initiator 1 (Some (record { job = 1; listing = done_lines; stage = Admitted reader (record { fixed = fixed; assured = true }) 4 done_own }))
      ∷ initiator 2 (Some (record { job = 2; listing = asked_lines; stage = Wanting deleter })) ∷ [];
  events = 11;
}

second_part : (job_of : Denoting) → Reach job_of middle are_used step_over
unfolding act run advance digits
second_part job_of = (
  _,
  _,
  turned job_of _ 0 _ _ _ _ _ (lit≤ tt) refl refl (acted _ _ _ _ _ _ _ _ true true refl (λ h. refl) refl refl refl refl) refl,
  refl,
  (
    _,
    _,
    turned job_of _ 0 _ _ _ _ _ (lit≤ tt) refl refl (acted _ _ _ _ _ _ _ _ true true refl (λ h. refl) refl refl refl refl) refl,
    refl,
    (
      _,
      _,
      turned job_of _ 0 _ _ _ _ _ (lit≤ tt) refl refl (acted _ _ _ _ _ _ _ _ true true refl (λ h. refl) refl refl refl refl) refl,
      refl,
      (
        _,
        _,
        turned job_of _ 0 _ _ _ _ _ (lit≤ tt) refl refl (acted _ _ _ _ _ _ _ _ true true refl (λ h. refl) refl refl refl refl) refl,
        refl,
        refl,
      ),
    ),
  ),
)

third_part : (job_of : Denoting) → Follow job_of step_over are_free_again
unfolding act run advance digits
third_part job_of = record {
  end = _;
  reach = (
    _,
    _,
    turned job_of _ 0 _ _ _ _ _ (lit≤ tt) refl refl (ended _ _ _ _ _ _ _ _ true true refl (λ h. refl) refl refl refl refl) refl,
    refl,
    (
      _,
      _,
      turned job_of _ 1 _ _ _ _ _ (lit≤ tt) refl refl (held (All-cons (λ (want : Want). is_blocked [] want ≡ false) wanted [] refl (All-nil _)) refl refl refl) refl,
      refl,
      refl,
    ),
  );
}

pub returns : goal.returns
returns c job_of = follow_on job_of start middle are_held (are_used ++ are_free_again) (first_part job_of)
    (follow_on job_of middle step_over are_used are_free_again (second_part job_of) (third_part job_of))
