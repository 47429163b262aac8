use Rattle.std.proofs.Common.{◌≡◌, lit≤, refl, [], ◌∷◌}
use Rattle.std.specs.Prelude.{◌≤◌}
use Rattle.std.specs.Fmt.{digits}
use Rattle.std.proofs.lemmas.List.Elements.{All-cons, All-nil, Contains-push}
use Rattle.cb_meaning.specs.Walks.{walk_cards, walk_dds, walk_steps}
use Rattle.world_meaning.specs.declared.event.Event.TheVariants as event
use Rattle.world_meaning.specs.Holdings.{broken}
use Rattle.world_meaning.specs.Selections.{HasNone, selected as selects}
use Rattle.world_meaning.specs.Transitions.{acts, shown}
use Rattle.world_meaning.specs.Worlds.{Waiting}
use Rattle.world_meaning.specs.Zaps.{zapped}
use Rattle.world_meaning.proofs.Conserved.{conserved_same}
use Rattle.world_meaning.proofs.Following.{happened, turned}
use Rattle.world_rows.specs.Zaps.{waiting}
use Rattle.world_rows.proofs.sessions.is_broken.Goals as goal

as_high : 6 ≤ 6
as_high = lit≤ tt

as_early : 1 ≤ 1
as_early = lit≤ tt

pub returns : goal.returns
unfolding digits walk_cards walk_dds walk_steps
returns c job_of = record {
  end = _;
  reach = (
    _,
    _,
    happened job_of _ _ (event.Zap 4 8 (0 ∷ 3 ∷ [])) _ (lit≤ tt) (zapped refl refl refl refl),
    refl,
    (
      _,
      _,
      happened job_of _ _ (event.Turn 1) _ (lit≤ tt) (acts 0 _ refl refl (selects waiting (record {
        before = [];
        class = 65;
        after = [];
        stands = refl;
        none_before = All-nil (HasNone (waiting ∷ []));
        first = record {
          contained = Contains-push [] waiting;
          of_class = refl;
          highest = All-cons (λ (x : Waiting). x.class ≡ 65 → x.priority ≤ 6) waiting [] (λ h. as_high) (All-nil (λ (x : Waiting). x.class ≡ 65 → x.priority ≤ 6));
          earliest = All-cons (λ (x : Waiting). x.class ≡ 65 → x.priority ≡ 6 → 1 ≤ x.job) waiting [] (λ h e. as_early)
              (All-nil (λ (x : Waiting). x.class ≡ 65 → x.priority ≡ 6 → 1 ≤ x.job));
        };
      }) refl refl)),
      refl,
      (
        _,
        _,
        turned job_of _ 0 _ _ _ _ _ (lit≤ tt) refl refl (broken 4 _ refl refl refl (conserved_same _ _ refl refl refl) refl) refl,
        refl,
        (
          _,
          _,
          happened job_of _ _ event.Display _ (lit≤ tt) (shown refl refl),
          refl,
          refl,
        ),
      ),
    ),
  );
}
