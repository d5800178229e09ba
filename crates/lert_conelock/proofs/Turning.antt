-- One try of a call: from what `apply` says of the state to what the pass shows.
use Rattle.std.proofs.Common.{◌≡◌, ℕ, ◌<◌, ◌^◌, false, ◌||◌, List, [], ◌∷◌, ◌++◌, ◌⊎◌, length, Option, Some, None, sym, refl, ap, ◌∙◌, subst, inl, inr, ⊎_elim, arith, append_assoc, length-append}
use Rattle.std.proofs.{lemmas.Bool.{cases_Bool, both_ways, or_cases, or_left, or_right}, lemmas.Option.same_Some, lemmas.List.Elements.{Contains-append_left, Contains-push}}
use Rattle.std.specs.Prelude.{IsTrue, Contains}
use Rattle.atomic_table.specs.Table.{rest}
use Rattle.lert_base.specs.{declared.held.Held.Ghosts as HeldOf, Packet.Packet}
use Rattle.lert_conelock.specs.{After.RefusesAfter, Moves.{Move, Take, Free, Moves}, Shown.{Shown, taken, committed, noted, freed}}
use Rattle.lert_conelock.specs.{Steps.{Mine, IsIdle, MayTake, InHand, Took, HasLock, IsTrying, IsReason}, Turns.{WasTaken, WasRefused}}
use Rattle.lert_conelock.proofs.Moving.{moves_on}

pub taker : {H F : Type 0} {me : Mine H F} {e : Packet} (may : MayTake me e) → me.0 ≡ Some may.pass
taker may i = (may.me_is i).0

pub trier : {H F : Type 0} {me : Mine H F} (idle : IsIdle me) → me.0 ≡ Some idle.pass
trier idle i = (idle.me_is i).0

module _ {H T R F : Type 0} (held : HeldOf H T R F) where
  -- another value is in the slot
  pub slot_changed : (state : H) (slot slot' : Option H) (me me' : Mine H F) → HasLock held state slot me
      → me' ≡ (me.0, (0, slot') ∷ rest me.1)
      → HasLock held state slot' me'
  slot_changed state slot slot' me me' lock is = record {
    pass = lock.pass;
    packet = lock.packet;
    me_is = is ∙ ap (λ (m : Mine H F). (m.0, (0, slot') ∷ rest m.1)) lock.me_is;
    tries = lock.tries;
    hand = lock.hand;
  }

  pub slot_held : (e : Packet) (p : Shown H F) (s : H) (slot : Option H) (me : Mine H F) → Took held e p s slot me
      → (x : Option H) × (me.1 ≡ (0, x) ∷ rest me.1)
  slot_held e p s slot me took = (slot, (λ i. (took.after_is i).1) ∙ (λ i. (0, slot) ∷ rest (sym took.after_is i).1))

  module _ (e : Packet) (p : Shown H F) (s : H) (me : Mine H F) (took : Took held e p s None me) where
    abbrev pub pass : Shown H F
    pass = taken e took.seen took.stop took.known took.moves p

    pub me_pass : me.0 ≡ Some pass
    me_pass = λ i. (took.after_is i).0

    pub trying : IsTrying me
    trying = record { pass = pass; packet = e; me_is = me_pass; tries = refl }

    pub fitting : (fits : T → Packet → Type 0) → fits (held.terms p.first) e → fits (held.terms s) e
    fitting fits ok = subst (λ (x : T). fits x e) (sym took.hand.terms_are) ok

    pub short_history : ((state : H) (h : List Packet) → held.stands_for state h → length h < 2 ^ 40)
        → (q : Shown H F) → me.0 ≡ Some q → length q.seen < 2 ^ 40
    short_history short q is = let all = short s (took.opened.0 ++ took.seen) (took.hand.stands took.opened.0 took.opened.1) in
        let same : pass ≡ q = same_Some pass q (sym me_pass ∙ is) in
        subst (λ (x : Shown H F). length x.seen < 2 ^ 40) same (omega (arith, length-append took.opened.0 took.seen))

    module _ (t : H) (terms_same : held.terms t ≡ held.terms s) (stops : IsTrue (held.stopped s) → IsTrue (held.stopped t)) where
      -- the packet was taken in
      module _ (stands : (h : List Packet) → held.stands_for s h → held.stands_for t (h ++ e ∷ []))
          (none_over : (h : List Packet) → held.stands_for s h → held.over t ≡ None) where
        hand_taken : InHand held (committed e pass) t
        hand_taken = let hand = took.hand in record {
          terms_are = terms_same ∙ hand.terms_are;
          stands = λ h opens. subst (held.stands_for t) (append_assoc h took.seen (e ∷ []))
              (stands (h ++ took.seen) (hand.stands h opens));
          stopped_is = λ x. stops (hand.stopped_is x);
          over_is = inl (none_over (took.opened.0 ++ took.seen) (hand.stands took.opened.0 took.opened.1));
          fresh_is = inr (e, inl (Contains-push took.seen e));
        }

        pub lock_taken : (me' : Mine H F) → me' ≡ (Some (committed e pass), me.1) → HasLock held t None me'
        lock_taken me' is = record {
          pass = committed e pass;
          packet = e;
          me_is = is ∙ (λ i. (Some (committed e pass), (took.after_is i).1));
          tries = refl;
          hand = hand_taken;
        }

      -- the packet was refused
      module _ (f : F) (unchanged : (h : List Packet) → held.stands_for s h → held.stands_for t h)
          (declines : (h : List Packet) → held.stands_for s h
          → (held.refuses (held.terms s) h e f × (held.stopped t ≡ held.stopped s) × (held.over t ≡ held.over s))
          ⊎ (IsTrue (held.stopped t) × ((held.over t ≡ held.over s) ⊎ (held.over t ≡ Some e)))) where
        abbrev refused : Shown H F
        refused = noted e f (held.stopped t) pass

        over_kept : held.over t ≡ held.over s → (held.over t ≡ None)
            ⊎ ((held.over t ≡ held.over p.first) ⊎ ((d : Packet) × (held.over t ≡ Some d) × Contains refused.known d))
        over_kept same = ⊎_elim (λ (o : held.over s ≡ None). inl (same ∙ o))
            (λ (o : (held.over s ≡ held.over p.first) ⊎ ((d : Packet) × (held.over s ≡ Some d)
            × Contains took.known d)). inr (⊎_elim
            (λ (z : held.over s ≡ held.over p.first). inl (same ∙ z))
            (λ (z : (d : Packet) × (held.over s ≡ Some d) × Contains took.known d). inr
            (z.0, same ∙ z.1, Contains-append_left took.known (e ∷ []) z.0 z.2)) o))
            took.hand.over_is

        hand_refused : InHand held refused t
        hand_refused = let hand = took.hand in record {
          terms_are = terms_same ∙ hand.terms_are;
          stands = λ h opens. unchanged (h ++ took.seen) (hand.stands h opens);
          stopped_is = λ x. ⊎_elim (λ was. stops (hand.stopped_is was)) (λ now. now) (or_cases took.stop (held.stopped t) x);
          over_is = ⊎_elim (λ (a : held.refuses (held.terms s) (took.opened.0 ++ took.seen) e f
              × (held.stopped t ≡ held.stopped s) × (held.over t ≡ held.over s)). over_kept a.2)
              (λ (a : IsTrue (held.stopped t) × ((held.over t ≡ held.over s)
              ⊎ (held.over t ≡ Some e))). ⊎_elim over_kept
              (λ (z : held.over t ≡ Some e). inr (inr (e, z, Contains-push took.known e))) a.1)
              (declines (took.opened.0 ++ took.seen) (hand.stands took.opened.0 took.opened.1));
          fresh_is = inr (e, inr (Contains-push took.known e));
        }

        pub lock_refused : (me' : Mine H F) → me' ≡ (Some refused, me.1) → HasLock held t None me'
        lock_refused me' is = record {
          pass = refused;
          packet = e;
          me_is = is ∙ (λ i. (Some refused, (took.after_is i).1));
          tries = refl;
          hand = hand_refused;
        }

        by_rule : held.stopped t ≡ false → RefusesAfter held p.first took.seen e f
        by_rule runs h opens = ⊎_elim
            (λ (a : held.refuses (held.terms s) (h ++ took.seen) e f × (held.stopped t ≡ held.stopped s)
            × (held.over t ≡ held.over s)). subst (λ (x : T). held.refuses x (h ++ took.seen) e f) took.hand.terms_are a.0)
            (λ (a : IsTrue (held.stopped t) × ((held.over t ≡ held.over s) ⊎ (held.over t ≡ Some e))). absurd
            (both_ways (held.stopped t) runs a.0))
            (declines (h ++ took.seen) (took.hand.stands h opens))

        reason_of : IsReason held (held.stopped t) pass e f
        reason_of = ⊎_elim inl (λ runs. inr (by_rule runs)) (cases_Bool (held.stopped t))

        pub reasoned : (q : Shown H F) (d : Packet) → me.0 ≡ Some q → q.tries ≡ Some d → IsReason held (held.stopped t) q d f
        reasoned q d is tries = let same : pass ≡ q = same_Some pass q (sym me_pass ∙ is) in
            let same' : e ≡ d = same_Some e d (ap (λ (x : Shown H F). x.tries) same ∙ tries) in
            subst (λ (x : Shown H F). IsReason held (held.stopped t) x d f) same
            (subst (λ (x : Packet). IsReason held (held.stopped t) pass x f) same' reason_of)

        pub was_refused : (more : ℕ) (moves : List Move) → Moves p.lo took.moves (Free p.lo ∷ []) moves
            → WasRefused held e f more p (freed more moves refused)
        was_refused more moves moved = record {
          past = took.seen;
          stop = took.stop || held.stopped t;
          moves = moves;
          moved = moves_on p.lo p.moves took.moves moves (Take p.lo ∷ []) (Free p.lo ∷ []) took.moved.begins took.moved.own moved;
          begins = took.more;
          cause = ⊎_elim (λ stop. inl (or_right took.stop (held.stopped t) stop)) (λ rule. inr rule) reason_of;
          stops = λ x. or_left took.stop (held.stopped t) (took.stops x);
          shows = refl;
        }

        pub was_refused_as : (f' : F) (more : ℕ) → f ≡ f' → (me' : Mine H F)
            → (moves : List Move) × Moves p.lo took.moves (Free p.lo ∷ []) moves × (me' ≡ (Some (freed more moves refused), []))
            → (q : Shown H F) × (me' ≡ (Some q, [])) × WasRefused held e f' more p q
        was_refused_as f' more same me' freed_so = let moves = freed_so.0 in (
          freed more moves (noted e f' (held.stopped t) pass),
          freed_so.2 ∙ (λ i. (Some (freed more moves (noted e (same i) (held.stopped t) pass)), [])),
          subst (λ (x : F). WasRefused held e x more p (freed more moves (noted e x (held.stopped t) pass))) same (was_refused more moves freed_so.1),
        )

    pub was_taken : (reply : R) (more : ℕ) → ((h : List Packet) → held.stands_for s h → held.answers (held.terms s) h e reply)
        → (moves : List Move) → Moves p.lo took.moves (Free p.lo ∷ []) moves → WasTaken held e reply more p (freed more moves (committed e pass))
    was_taken reply more says moves moved = record {
      past = took.seen;
      stop = took.stop;
      moves = moves;
      moved = moves_on p.lo p.moves took.moves moves (Take p.lo ∷ []) (Free p.lo ∷ []) took.moved.begins took.moved.own moved;
      begins = took.more;
      answer = λ h opens. subst (λ (x : T). held.answers x (h ++ took.seen) e reply) took.hand.terms_are
          (says (h ++ took.seen) (took.hand.stands h opens));
      stops = took.stops;
      shows = refl;
    }

    pub was_taken_as : (reply reply' : R) (more : ℕ) → ((h : List Packet) → held.stands_for s h
        → held.answers (held.terms s) h e reply)
        → reply ≡ reply' → (me' : Mine H F)
        → (moves : List Move) × Moves p.lo took.moves (Free p.lo ∷ []) moves × (me' ≡ (Some (freed more moves (committed e pass)), []))
        → (q : Shown H F) × (me' ≡ (Some q, [])) × WasTaken held e reply' more p q
    was_taken_as reply reply' more says same me' freed_so = let moves = freed_so.0 in (
      freed more moves (committed e pass),
      freed_so.2,
      subst (λ (x : R). WasTaken held e x more p (freed more moves (committed e pass))) same (was_taken reply more says moves freed_so.1),
    )
