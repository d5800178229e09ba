-- The rule at the start, and what it says at the end.
use Rattle.std.proofs.Common.{◌≡◌, ℕ, zero, suc, ◌<◌, ◌≤◌, true, eqb, List, [], ◌∷◌, ◌⊎◌, map, get_or, set, Option, Some, None, sym, refl, ap, ◌∙◌, subst, inl, inr, ⊎_elim, arith, append-nil, eq-eqb}
use Rattle.std.proofs.{lemmas.List.Sums.sum_by-cons, lemmas.Option.none-some, lemmas.Bool.false≢true}
use Rattle.std.specs.Prelude.{IsTrue, Contains, sum_by}
use mathlib.Core.Option.{some, some-ne-none}
use mathlib.Core.Logic.{dite}
use native.Mathlib.Decide.{ℕ_discrete}
use lib.ListN.{get_elem?}
use Rattle.atomic_table.specs.{Table.{State, opening, Final, Seen}, Seated.TableId}
use Rattle.atomic_table.proofs.Lists.{at_set}
use Rattle.lert_base.specs.{declared.held.Held.Ghosts as HeldOf, Packet.{Packet, own}}
use Rattle.lert_conelock.specs.{Prefix.IsPrefix, Moves.own_moves, Shown.{Shown, whole}, Rule.{Views, Has, met_of, IsStopped, IsRefused, IsPart, Passes, IsHome, HoldsWith, Holds}}
use Rattle.lert_conelock.specs.Sight.{LockSight, sight, Closed}
use Rattle.lert_conelock.proofs.{Prefixes.prefix_nil, Contained.{no_item, Contains-filter}, Replaced.there_again, Moved.met_replaced}

-- where no pass is live, none missed a take
none_met : {H F : Type 0} (views : Views H F) → ((a : ℕ) (r : Shown H F) → Has views a r → ⊥) → sum_by met_of views ≡ 0
none_met [] none = refl
none_met (None ∷ views) none = omega (arith, sum_by-cons met_of None views, none_met views (λ a r at. none (suc a) r at))
none_met (Some p ∷ views) none = absurd (none 0 p refl)

-- a list of one view
only_one : {H F : Type 0} (v : Shown H F) (seat : ℕ) (p : Shown H F) → Has (Some v ∷ []) seat p → (seat ≡ 0) × (v ≡ p)
only_one v zero p e = (refl, there_again v p e)
only_one v (suc seat) p e = absurd (some-ne-none (Some p) (sym e))

module _ {H T R F : Type 0} (held : HeldOf H T R F) where
  module _ (first : H) (numbers : ℕ) (opened : (h : List Packet) × held.stands_for first h) (not_empty : 1 ≤ numbers) where
    abbrev start : Shown H F
    start = whole first numbers

    abbrev views : Views H F
    views = Some start ∷ []

    start_part : IsPart first numbers [] start
    start_part = record {
      first_is = refl;
      not_empty = omega arith;
      within = omega arith;
      seen = prefix_nil [];
      lesser = prefix_nil [];
      calls = λ n lo hi. refl;
      tried = λ e t. absurd (none-some e t);
    }

    never : (seat : ℕ) (p : Shown H F) (e : Packet) → Has views seat p → p.tries ≡ Some e → ⊥
    never seat p e there t = none-some e (subst (λ (x : Shown H F). x.tries ≡ Some e) (sym (only_one start seat p there).1) t)

    start_passes : Passes held first numbers [] views
    start_passes = record {
      parts = λ seat p there. subst (IsPart first numbers []) (only_one start seat p there).1 start_part;
      apart = λ a b p q there there' ne. absurd (ne ((only_one start a p there).0 ∙ sym (only_one start b q there').0));
      cover = λ n below. record { seat = 0; pass = start; there = refl; low = omega arith; high = below };
      refusals = λ seat p there e f c. absurd (no_item (e, f)
          (subst (λ (x : Shown H F). Contains x.refused (e, f)) (sym (only_one start seat p there).1) c));
      known = λ seat p there e c. absurd (no_item e (subst (λ (x : Shown H F). Contains x.known e)
          (sym (only_one start seat p there).1) c));
      alone = λ a b p q e f there there' _ _. (only_one start a p there).0 ∙ sym (only_one start b q there').0;
      trying = λ seat p e there t. absurd (never seat p e there t);
    }

    start_home : IsHome held first [] views first
    start_home = record {
      terms_are = refl;
      stands = λ h opens. subst (held.stands_for first) (sym (append-nil h)) opens;
      stopped_is = λ s. absurd (false≢true (subst (λ (x : Shown H F). x.stopped ≡ true)
          (sym (only_one start s.seat s.pass s.there).1) s.stopped));
      over_is = inr (inl refl);
      fresh_is = inl refl;
    }

    -- the rule holds when a lock is made
    pub opens : (slots : List (Option H)) → slots ≡ Some first ∷ []
        → Holds held first numbers (opening (0 ∷ 0 ∷ []) slots (Some start))
    opens slots is = (
      [],
      record {
        two_words = refl;
        lock_word = omega arith;
        count_word = refl;
        opened = opened;
        numbered = λ e c. absurd (no_item e c);
        passes = start_passes;
        home = λ _. (first, ap (λ (l : List (Option H)). get_elem? (map some l) 0) is, start_home);
        none_tries = λ _ seat p e there t. never seat p e there t;
        one_tries = λ one. absurd (omega arith);
        moves = [];
        moved = record {
          orderly = tt;
          no_others = λ n over. refl;
          begins = λ seat p there. subst (λ (x : Shown H F). IsPrefix x.moves []) (only_one start seat p there).1 (prefix_nil []);
          own = λ seat p there n lo hi. subst (λ (x : Shown H F). own_moves x.moves n ≡ []) (only_one start seat p there).1 refl;
          counted = refl;
          trying = λ seat p e there t. absurd (never seat p e there t);
        };
        none_holds = λ _. refl;
      },
    )

  -- the packets of a number are its own
  own_contains : (history : List Packet) (e : Packet) → Contains history e → Contains (own history e.by) e
  own_contains history e c = Contains-filter (λ (d : Packet). eqb d.by e.by) history e c (eq-eqb e.by e.by refl)

  module _ (lock : LockSight H) (s : State (Option H) (Option (Shown H F))) (history : List Packet)
      (w : HoldsWith held lock.first lock.numbers s history)
      (id : ℕ) (p : Shown H F) (there : Has s.views id p) (idle : p.tries ≡ None) (lo : p.lo ≡ 0) (hi : p.hi ≡ lock.numbers) where
    -- no other pass is left
    alone : (seat : ℕ) (q : Shown H F) → Has s.views seat q → p ≡ q
    alone seat q e = let b = w.passes in let part = b.parts seat q e in let not_empty = part.not_empty in
        let inside = part.within in dite (ℕ_discrete seat id)
        (λ same. there_again p q (sym there ∙ subst (λ (n : ℕ). Has s.views n q) same e))
        (λ ne. ⊎_elim (λ (far : q.hi ≤ p.lo). absurd (omega arith)) (λ (far : p.hi ≤ q.lo). absurd (omega arith))
        (b.apart seat id q p e there ne))

    is_free : get_or s.words 0 0 ≡ 0
    is_free = dite (ℕ_discrete (get_or s.words 0 0) 0) (λ free. free)
        (λ locked. let bound = w.lock_word in let t = w.one_tries (omega arith) in
        absurd (none-some t.packet (sym idle ∙ subst (λ (x : Shown H F). x.tries ≡ Some t.packet)
        (sym (alone t.seat t.pass t.there)) t.tries)))

    stopped_here : IsStopped s.views → IsTrue p.stopped
    stopped_here x = subst (λ (r : Shown H F). IsTrue r.stopped) (sym (alone x.seat x.pass x.there)) x.stopped

    refused_here : (e : Packet) → IsRefused s.views e → (f : F) × (e.by < lock.numbers) × Contains p.refused (e, f)
    refused_here e r = let same = alone r.seat r.pass r.there in
        let inside = (w.passes.parts r.seat r.pass r.there).within in let below = r.high in
        (r.refusal, omega arith, subst (λ (x : Shown H F). Contains x.refused (e, r.refusal)) (sym same) r.shown)

    -- without this pass there is none
    no_other : (a : ℕ) (r : Shown H F) → Has (set s.views id None) a r → ⊥
    no_other a r at = ⊎_elim (λ (t : (a ≡ id) × (None ≡ Some r)). none-some r t.1)
        (λ (t : (a ≡ id → ⊥) × Has s.views a r). let b = w.passes in let part = b.parts a r t.1 in let not_empty = part.not_empty in
        let inside = part.within in
        ⊎_elim (λ (far : r.hi ≤ p.lo). omega arith) (λ (far : p.hi ≤ r.lo). omega arith) (b.apart a id r p t.1 there t.0))
        (at_set s.views id a None (Some r) at)

    closed : (tid : TableId) (state : H) → IsHome held lock.first history s.views state
        → Closed held lock (sight tid (Some p)) state
    closed tid state h = let part = w.passes.parts id p there in record {
      history = history;
      calls = λ n below. sym (part.calls n (omega arith) (omega arith));
      numbered = w.numbered;
      begins = part.seen;
      terms_are = h.terms_are;
      stands = h.stands;
      stopped_is = λ x. h.stopped_is (record { seat = id; pass = p; there = there; stopped = x });
      over_is = ⊎_elim inl (λ (o : (held.over state ≡ held.over lock.first)
          ⊎ ((e : Packet) × (held.over state ≡ Some e) × IsRefused s.views e)). inr (⊎_elim inl
          (λ (t : (e : Packet) × (held.over state ≡ Some e) × IsRefused s.views e). let r = refused_here t.0 t.2 in inr (t.0, r.0, t.1, r.1, r.2)) o)) h.over_is;
      refusals = λ e f c. ⊎_elim (λ x. inl (h.stopped_is x)) inr (w.passes.refusals id p there e f c);
      untouched = λ no_calls no_refused. ⊎_elim (λ same. same)
          (λ (t : (e : Packet) × (Contains history e ⊎ IsRefused s.views e)). absurd (⊎_elim
          (λ (c : Contains history t.0). let below = w.numbered t.0 c in no_item t.0 (subst (λ (l : List Packet). Contains l t.0)
          (sym (part.calls t.0.by (omega arith) (omega arith)) ∙ ap (λ (l : List Packet). own l t.0.by) no_calls)
          (own_contains history t.0 c)))
          (λ (r : IsRefused s.views t.0). let got = refused_here t.0 r in no_item (t.0, got.0)
          (subst (λ (l : List (Packet × F)). Contains l (t.0, got.0)) no_refused got.2))
          t.1)) h.fresh_is;
      moves = w.moves;
      knows = w.moved.begins id p there;
      orderly = w.moved.orderly;
      no_others = w.moved.no_others;
      freed = w.none_holds is_free;
      met = (let all = w.moved.counted in let rest = met_replaced s.views id (Some p) None there in
          let none = none_met (set s.views id None) no_other in omega (arith, all, rest, none));
    }

  -- where a pass of all numbers is idle, the state is home
  pub closes : (lock : LockSight H) (id : ℕ) (p : Shown H F) (tid : TableId) (words : List ℕ)
      (slots : List (Option H)) → p.tries ≡ None → p.lo ≡ 0 → p.hi ≡ lock.numbers
      → Final (Seen (Holds held lock.first lock.numbers) id (Some p)) words slots
      → (state : H) × (get_elem? slots 0 ≡ some (Some state)) × Closed held lock (sight tid (Some p)) state
  closes lock id p tid words slots idle lo hi f = let s = f.0 in let history = f.1.0.0 in let w = f.1.0.1 in let there = f.1.1 in
      let t = w.home (is_free lock s history w id p there idle lo hi) in
      (t.0, f.4 0 (Some t.0) t.1, closed lock s history w id p there idle lo hi tid t.0 t.2)
