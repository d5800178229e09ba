-- A cone that came back from its lock, by what is so of each state that did.
use Rattle.std.proofs.{Common.{◌≡◌, ◌≢◌, ◌⊎◌, ℕ, ◌<◌, Bool, false, List, ◌++◌, length, Option, Some, ap, sym, ◌∙◌, subst, inl, inr}}
use Rattle.std.proofs.{lemmas.Option.{none-some, same_Some}}
use Rattle.std.specs.Prelude.{Contains, IsTrue}
use Rattle.lert_base.specs.{declared.held.Held.{Ghosts as HeldOf}, Packet.{Packet, events_of}, declared.cone_fault.ConeFault.ConeFault}
use Rattle.lert_bay.specs.Files.{Files}
use Rattle.lert_cone.specs.{Locked.RefusesUnder, History.most_version, Refuses.IsRefused, declared.state.ConeState.TheVariants.Running}
use Rattle.lert_cone.specs.Stands.{Standing, StandsFor, Terms, WereSound, is_broken, is_finished, terms_of}
use Rattle.lert_conelock.specs.{After.RefusesAfter, Prefix.IsPrefix}
use Rattle.lert_spec.specs.{declared.numbers.Numbers.Numbers, Counts.{weighed, weight_of}}
use Rattle.lert_worker.specs.crew.Crewed.{IsBack as IsStateBack, IsLeftOver}
use Rattle.lert_ingest.specs.{Back.{IsBack, IsFullAt, IsSeen}, Bays.IsLater, Cones.IsHeld}

-- what a cone is under a lock
pub record IsConeHeld {B R : Type 0} (files : B → Option Files) (leaves : B → Files → Type 0) (faults mark : B → ℕ) (held : HeldOf (Standing B) (Terms B) R ConeFault) : Type 0 where
  pub terms_are : (cone : Standing B) → held.terms cone ≡ terms_of faults mark cone
  pub stands : (cone : Standing B) (history : List Packet) → held.stands_for cone history → StandsFor files leaves faults cone history
  pub stood : (cone : Standing B) (history : List Packet) → StandsFor files leaves faults cone history → held.stands_for cone history
  pub stopped_is : (cone : Standing B) → IsTrue (held.stopped cone) → cone.state ≢ Running
  pub over_is : (cone : Standing B) → held.over cone ≡ cone.over
  pub refuses : (terms : Terms B) (history : List Packet) (packet : Packet) (fault : ConeFault) → held.refuses terms history packet fault → RefusesUnder terms history packet fault

module _ {B R : Type 0} (files : B → Option Files) (leaves : B → Files → Type 0) (faults mark : B → ℕ) (held : HeldOf (Standing B) (Terms B) R ConeFault)
    (is_held : IsConeHeld files leaves faults mark held) (s : Numbers) (workers number : ℕ) (before : List Packet) (added : ℕ → List Packet) (turned : ℕ → List (Packet × ConeFault))
    (first closed : Standing B)
    (new : IsHeld files leaves faults s number before first) (back : IsStateBack held workers added turned first closed) where
  stood_first : held.stands_for first before
  stood_first = is_held.stood first before new.stands

  same_terms : terms_of faults mark closed ≡ terms_of faults mark first
  same_terms = sym (is_held.terms_are closed) ∙ (back.terms_are ∙ is_held.terms_are first)

  -- those of a cone that takes packets
  abbrev running : Numbers → ℕ → ℕ → Bool → Terms B
  running t n version finished = record (terms_of faults mark first) { settings = t; cone = n; version = version; finished = finished }

  first_terms : terms_of faults mark first ≡ running s number most_version false
  first_terms =
      λ i. running (new.settings_is i) (new.number_is i) (new.version_is i) (is_finished (new.state_is i))

  terms_here : terms_of faults mark closed ≡ running s number most_version false
  terms_here = same_terms ∙ first_terms

  over_of : (over : Packet) → closed.over ≡ Some over → (fault : ConeFault) × (over.by < workers) × Contains (turned over.by) (over, fault)
  over_of over is = by_case back.over_is
    where
      held_is : held.over closed ≡ Some over
      held_is = is_held.over_is closed ∙ is

      by_case : IsLeftOver held workers turned first closed → (fault : ConeFault) × (over.by < workers) × Contains (turned over.by) (over, fault)
      by_case (inl none) = absurd (none-some over (sym none ∙ held_is))
      by_case (inr (inl same)) = absurd (none-some over (sym (is_held.over_is first ∙ new.stands.none_over (ap is_broken new.state_is)) ∙ (sym same ∙ held_is)))
      by_case (inr (inr left)) =
          subst (λ (p : Packet). (fault : ConeFault) × (p.by < workers) × Contains (turned p.by) (p, fault)) (same_Some left.0 over (sym left.2 ∙ held_is)) (left.1, left.3, left.4)

  refusal_of : (by : ℕ) → by < workers → (e : Packet) (f : ConeFault) → Contains (turned by) (e, f) → (closed.state ≢ Running) ⊎ IsFullAt s before back.history e f
  refusal_of by below e f has = by_case (back.refusals by below e f has)
    where
      by_case : IsTrue (held.stopped closed) ⊎ ((past : List Packet) × IsPrefix past back.history × RefusesAfter held first past e f) →
          (closed.state ≢ Running) ⊎ IsFullAt s before back.history e f
      by_case (inl stopped) = inl (is_held.stopped_is closed stopped)
      by_case (inr rule) =
          let why = is_held.refuses (held.terms first) (before ++ rule.0) e f (rule.2 before stood_first) in
          let terms : held.terms first ≡ running s number most_version false = is_held.terms_are first ∙ first_terms in
          inr (record {
            past = rule.0;
            begins = rule.1;
            refused = subst (λ (t : Terms B). IsRefused t.settings t.version (length (events_of (before ++ rule.0))) (weight_of weighed (events_of (before ++ rule.0))) e.items f) terms why;
          })

  made_first : closed.made ≡ first.made
  made_first = ap (λ (t : Terms B). t.made) terms_here

  pub is_back : IsSeen files faults mark closed → IsBack files leaves faults mark s workers number before added turned first closed
  is_back look = record {
    history = back.history;
    own_are = back.own_are;
    numbered = back.numbered;
    stands = is_held.stands closed (before ++ back.history) (back.stands before stood_first);
    sound = subst (WereSound files) (sym same_terms) new.sound;
    settings_is = ap (λ (t : Terms B). t.settings) terms_here;
    number_is = ap (λ (t : Terms B). t.cone) terms_here;
    unfinished = ap (λ (t : Terms B). t.finished) terms_here;
    made_is = made_first;
    over_is = over_of;
    refusals = refusal_of;
    later = subst (λ (m : B). IsLater files faults mark m closed.bay) made_first (record { marked = look.later.1; never_falls = look.later.0; tells = look.later.2 });
    closed_is = look.closed;
  }
