-- Two chains of machines that begin alike, the one over the first of the events of the other.
use Rattle.std.proofs.Common.{◌≡◌, ◌⊎◌, inl, inr, ℕ, List, [], ◌∷◌, ◌++◌, append_assoc, refl, sym, ap, subst, ◌∙◌}
use Rattle.std.specs.List.{flat_map}
use Rattle.std.proofs.lemmas.List.{append-nil}
use Rattle.plain.specs.Lists.{Differ}
use Rattle.jcl_plan.specs.declared.entry.Entry.{Entry}
use Rattle.jcl_plan.specs.Lines.{text_of}
use Rattle.cb_meaning.specs.declared.layout.TheConstants.{QUEUE_LAYOUT}
use Rattle.world_meaning.specs.Worlds.{Config, World}
use Rattle.law_core.specs.Soundness.{IsSound, SoundnessIsKept, StartsSound}
use Rattle.run_options.specs.declared.Options.{Options}
use Rattle.session_input.specs.declared.event.Event.{Event}
use Rattle.session_text.specs.declared.statement.Statement.{Statement}
use Rattle.sched_core.specs.Systems.{Drives, IsWhole, Machine, denoting, meant_by, world_of}
use Rattle.session_core.specs.Listings.{Lists, text_of_all}
use Rattle.session_core.specs.Sessions.{configuration_of, refuses_in}
use Rattle.machine_laws.specs.Listing.{GoesOn, OneListing, PartSomewhere}
use Rattle.machine_laws.specs.Alike.{AreAlike, NextIsDecided}
use Rattle.machine_laws.proofs.Starts.{starts_alike}

-- the lines of the further events
record IsFront (entries others : List (List Entry)) : Type 0 where
  behind : List (List Entry)
  is : others ≡ entries ++ behind

part_later : (lines more : List Entry) (entries others : List (List Entry)) → lines ≡ more → PartSomewhere entries others →
    PartSomewhere (lines ∷ entries) (more ∷ others)
part_later lines more entries others same p = record {
  before = lines ∷ p.before;
  lines = p.lines;
  more = p.more;
  after = p.after;
  other_after = p.other_after;
  one_so = ap (λ (es : List (List Entry)). lines ∷ es) p.one_so;
  other_so = λ i. sym same i ∷ p.other_so i;
  at_risk = p.at_risk;
}

module _ (decided : NextIsDecided) (kept : SoundnessIsKept) where
  chains : (events further : List Event) (old beside : Machine) → IsSound (world_of old) → Differ old.config.volumes → IsWhole old → AreAlike old beside →
      (entries others : List (List Entry)) (last ending : Machine) → Drives old events entries last → Drives beside (events ++ further) others ending →
      IsFront entries others ⊎ PartSomewhere entries others
  chains [] further old beside sound differ whole alike [] others last ending c d = inl (record { behind = others; is = refl })
  chains [] further old beside sound differ whole alike (l ∷ entries) others last ending c d = absurd c
  chains (e ∷ events) further old beside sound differ whole alike [] others last ending c d = absurd c
  chains (e ∷ events) further old beside sound differ whole alike (l ∷ entries) [] last ending c d = absurd d
  chains (e ∷ events) further old beside sound differ whole alike (l ∷ entries) (m ∷ others) last ending c d =
      elim (decided old beside c.0 d.0 e l m sound differ whole alike c.1 c.2 d.1 d.2) [
        | inl next ↦ elim (chains events further c.0 d.0 (kept (denoting old) (world_of old) (world_of c.0) (meant_by e) l sound c.1.0)
            (subst (λ (x : Config). Differ x.volumes) (sym c.2.fixed.config) differ) c.2.whole next.1 entries others last ending c.3 d.3) [
              | inl front ↦ inl (record { behind = front.behind; is = λ i. sym next.0 i ∷ front.is i })
              | inr parts ↦ inr (part_later l m entries others next.0 parts)
            ]
        | inr risk ↦ inr (record { before = []; lines = l; more = m; after = entries; other_after = others; one_so = refl; other_so = refl; at_risk = risk })
      ]

-- text goes on with the lines
pub text_goes_on : (entries more : List (List Entry)) → text_of_all (entries ++ more) ≡ text_of_all entries ++ text_of_all more
text_goes_on [] more = refl
text_goes_on (lines ∷ entries) more =
    ap (λ (t : List ℕ). flat_map text_of lines ++ t) (text_goes_on entries more)
    ∙ sym (append_assoc (flat_map text_of lines) (text_of_all entries) (text_of_all more))

-- over the same events there are no further lines
none_behind : (events : List Event) (old new : Machine) (entries behind : List (List Entry)) (beside ending : Machine) →
    Drives old events entries new → Drives beside events (entries ++ behind) ending → behind ≡ []
none_behind [] old new [] [] beside ending c d = refl
none_behind [] old new [] (l ∷ behind) beside ending c d = absurd d
none_behind [] old new (l ∷ entries) behind beside ending c d = absurd c
none_behind (e ∷ events) old new [] behind beside ending c d = absurd c
none_behind (e ∷ events) old new (l ∷ entries) behind beside ending c d = none_behind events c.0 new entries behind d.0 ending c.3 d.3

module _ (starts : StartsSound) (kept : SoundnessIsKept) (decided : NextIsDecided) (o : Options) (config : List Statement) where
  module _ (events further : List Event) (one other : List ℕ) (l : Lists o config events one) (m : Lists o config (events ++ further) other) where
    alike : AreAlike l.first m.first
    alike = starts_alike (configuration_of config) (refuses_in o) o.views o.explains QUEUE_LAYOUT l.first m.first l.started m.started

    sound : IsSound (world_of l.first)
    sound = subst IsSound (sym l.started.world) (starts _ l.started.is_start)

    differ : Differ l.first.config.volumes
    differ = subst (λ (w : World). Differ w.config.volumes) (sym l.started.world) l.started.is_start.serials

    entries_front : IsFront l.entries m.entries ⊎ PartSomewhere l.entries m.entries
    entries_front =
        chains decided kept events further l.first m.first sound differ l.whole alike l.entries m.entries l.last m.last l.drives m.drives

    front : GoesOn one other ⊎ PartSomewhere l.entries m.entries
    front = elim entries_front [
      | inl f ↦ inl (record {
        behind = text_of_all f.behind;
        is = m.text ∙ ap text_of_all f.is ∙ text_goes_on l.entries f.behind ∙ sym (ap (λ (t : List ℕ). t ++ text_of_all f.behind) l.text);
      })
      | inr parts ↦ inr parts
    ]

  same : (events : List Event) (one other : List ℕ) (l : Lists o config events one) (m : Lists o config events other) →
      (one ≡ other) ⊎ PartSomewhere l.entries m.entries
  same events one other l m =
      elim (chains decided kept events [] l.first m.first (sound events [] one other l more) (differ events [] one other l more) l.whole
      (starts_alike (configuration_of config) (refuses_in o) o.views o.explains QUEUE_LAYOUT l.first m.first l.started m.started) l.entries m.entries l.last m.last l.drives (subst (λ (es : List Event). Drives m.first es m.entries m.last)
      (sym (append-nil events)) m.drives)) [
        | inl f ↦ inl (l.text ∙ ap text_of_all (sym (f.is ∙ ap (λ (b : List (List Entry)). l.entries ++ b) (none f) ∙ append-nil l.entries)) ∙ sym m.text)
        | inr parts ↦ inr parts
      ]
    where
      more : Lists o config (events ++ []) other
      more = subst (λ (es : List Event). Lists o config es other) (sym (append-nil events)) m

      none : (f : IsFront l.entries m.entries) → f.behind ≡ []
      none f = none_behind events l.first l.last l.entries f.behind m.first m.last l.drives (subst (λ (es : List (List Entry)). Drives m.first events es m.last) f.is m.drives)

pub one_listing : StartsSound → SoundnessIsKept → NextIsDecided → OneListing
one_listing starts kept decided = record {
  same = λ o config events one other l m. same starts kept decided o config events one other l m;
  front = λ o config events more one other l m. front starts kept decided o config events more one other l m;
}
