-- A pass takes in the pass that begins where it ends, and the rule goes on.
use Rattle.std.proofs.Common.{◌≡◌, ℕ, ◌<◌, ◌≤◌, ltb, List, ◌⊎◌, length, set, Option, Some, None, sym, ap, ◌∙◌, subst, inl, inr, ⊎_elim, arith, ltb-true, ltb-false}
use Rattle.std.proofs.{lemmas.Option.{same_Some, none-some}, lemmas.Bool.{cases_lt, cond_both, or_cases, or_left, or_right}}
use Rattle.std.specs.Prelude.{IsTrue, Contains}
use mathlib.Core.Logic.{dite}
use native.Mathlib.Decide.{ℕ_discrete}
use Rattle.atomic_table.specs.Table.{Joins}
use Rattle.atomic_table.proofs.Lists.{at_set, set_here, set_else}
use Rattle.lert_base.specs.{declared.held.Held.Ghosts as HeldOf, Packet.Packet}
use Rattle.lert_conelock.specs.{Prefix.IsPrefix, Steps.{Mine, IsIdle}, Moves.{Move, own_moves}, Shown.{Shown, joined, both_of}}
use Rattle.lert_conelock.specs.Rule.{Views, Has, IsStopped, IsRefused, IsCovered, IsTried, IsPart, IsCaused, Passes, Moved, Holds}
use Rattle.lert_conelock.proofs.{Replaced.{at_within, there_again}, Prefixes.comparable, Moving.own_between, Moved.met_replaced, Homes.home_after}
use Rattle.lert_conelock.proofs.Cuts.{joined_below, joined_above, Contains-low, Contains-high, Contains-both_sides}

module _ {H F : Type 0} (views : Views H F) (id : ℕ) (p : Shown H F) (mine : Has views id p) (other : ℕ)
    (q : Shown H F) (theirs : Has views other q) (ne : other ≡ id → ⊥) where
  abbrev after : Views H F
  after = set (set views id (Some (joined p q))) other None

  -- where a pass after the join comes from, and where one from before it goes
  data Kind (a : ℕ) (r : Shown H F) : Type 0 where
    one : a ≡ id → joined p q ≡ r → Kind a r
    else_ : (a ≡ id → ⊥) → (a ≡ other → ⊥) → Has views a r → Kind a r

  data Was (a : ℕ) (r : Shown H F) : Type 0 where
    low : a ≡ id → p ≡ r → Was a r
    high : a ≡ other → q ≡ r → Was a r
    kept : Has after a r → Was a r

  kind : (a : ℕ) (r : Shown H F) → Has after a r → Kind a r
  kind a r e = ⊎_elim
      (λ (t : (a ≡ other) × (None ≡ Some r)). absurd (none-some r t.1))
      (λ t. ⊎_elim (λ (u : (a ≡ id) × (Some (joined p q) ≡ Some r)). one u.0 (same_Some (joined p q) r u.1))
      (λ u. else_ u.0 t.0 u.1)
      (at_set views id a (Some (joined p q)) (Some r) t.1))
      (at_set (set views id (Some (joined p q))) other a None (Some r) e)

  at_one : Has after id (joined p q)
  at_one = set_else (set views id (Some (joined p q))) other id None (λ same. ne (sym same))
      ∙ set_here views id (Some (joined p q)) (at_within views id (Some p) mine)

  at_else : (a : ℕ) (r : Shown H F) → (a ≡ id → ⊥) → (a ≡ other → ⊥) → Has views a r → Has after a r
  at_else a r far far' e = set_else (set views id (Some (joined p q))) other a None far'
      ∙ (set_else views id a (Some (joined p q)) far ∙ e)

  was : (a : ℕ) (r : Shown H F) → Has views a r → Was a r
  was a r e = dite (ℕ_discrete a id)
      (λ same. low same (there_again p r (sym mine ∙ subst (λ (n : ℕ). Has views n r) same e)))
      (λ far. dite (ℕ_discrete a other)
      (λ same. high same (there_again q r (sym theirs ∙ subst (λ (n : ℕ). Has views n r) same e)))
      (λ far'. kept (at_else a r far far' e)))

  stopped_into : (s : IsStopped views) → Was s.seat s.pass → IsStopped after
  stopped_into s (low same is) = record {
    seat = id;
    pass = joined p q;
    there = at_one;
    stopped = or_left p.stopped q.stopped (subst (λ (r : Shown H F). IsTrue r.stopped) (sym is) s.stopped);
  }
  stopped_into s (high same is) = record {
    seat = id;
    pass = joined p q;
    there = at_one;
    stopped = or_right p.stopped q.stopped (subst (λ (r : Shown H F). IsTrue r.stopped) (sym is) s.stopped);
  }
  stopped_into s (kept e) = record { seat = s.seat; pass = s.pass; there = e; stopped = s.stopped }

  stopped_on : IsStopped views → IsStopped after
  stopped_on s = stopped_into s (was s.seat s.pass s.there)

  stopped_from : (s : IsStopped after) → Kind s.seat s.pass → IsStopped views
  stopped_from s (one same is) = ⊎_elim
      (λ (x : IsTrue p.stopped). record { seat = id; pass = p; there = mine; stopped = x })
      (λ (x : IsTrue q.stopped). record { seat = other; pass = q; there = theirs; stopped = x })
      (or_cases p.stopped q.stopped (subst (λ (r : Shown H F). IsTrue r.stopped) (sym is) s.stopped))
  stopped_from s (else_ far far' e) = record { seat = s.seat; pass = s.pass; there = e; stopped = s.stopped }

  stopped_back : IsStopped after → IsStopped views
  stopped_back s = stopped_from s (kind s.seat s.pass s.there)

  module _ {T R : Type 0} (held : HeldOf H T R F) (first : H) (numbers : ℕ)
      (history : List Packet) (b : Passes held first numbers history views) (idle : p.tries ≡ None)
      (idle' : q.tries ≡ None) (meets : q.lo ≡ p.hi) where
    refused_into : (e : Packet) (r : IsRefused views e) → Was r.seat r.pass → IsRefused after e
    refused_into e r (low same is) =
        let shown : Contains p.refused (e, r.refusal) = subst (λ (x : Shown H F). Contains x.refused (e, r.refusal))
        (sym is) r.shown in
        let lo : p.lo ≡ r.pass.lo = ap (λ (x : Shown H F). x.lo) is in
        let hi : p.hi ≡ r.pass.hi = ap (λ (x : Shown H F). x.hi) is in
        let from = r.low in let to = r.high in let not_empty = (b.parts other q theirs).not_empty in
        record {
          seat = id;
          pass = joined p q;
          there = at_one;
          low = omega arith;
          high = omega arith;
          refusal = r.refusal;
          shown = Contains-low (λ (x : Packet × F). x.0.by) q.lo p.refused q.refused (e, r.refusal) (omega arith) shown;
        }
    refused_into e r (high same is) =
        let shown : Contains q.refused (e, r.refusal) = subst (λ (x : Shown H F). Contains x.refused (e, r.refusal))
        (sym is) r.shown in
        let lo : q.lo ≡ r.pass.lo = ap (λ (x : Shown H F). x.lo) is in
        let hi : q.hi ≡ r.pass.hi = ap (λ (x : Shown H F). x.hi) is in
        let from = r.low in let to = r.high in let not_empty = (b.parts id p mine).not_empty in
        record {
          seat = id;
          pass = joined p q;
          there = at_one;
          low = omega arith;
          high = omega arith;
          refusal = r.refusal;
          shown = Contains-high (λ (x : Packet × F). x.0.by) q.lo p.refused q.refused (e, r.refusal) (omega arith) shown;
        }
    refused_into e r (kept there) = record {
      seat = r.seat;
      pass = r.pass;
      there = there;
      low = r.low;
      high = r.high;
      refusal = r.refusal;
      shown = r.shown;
    }

    refused_on : (e : Packet) → IsRefused views e → IsRefused after e
    refused_on e r = refused_into e r (was r.seat r.pass r.there)

    cover_into : (n : ℕ) (c : IsCovered views n) → Was c.seat c.pass → IsCovered after n
    cover_into n c (low same is) =
        let lo : p.lo ≡ c.pass.lo = ap (λ (x : Shown H F). x.lo) is in
        let hi : p.hi ≡ c.pass.hi = ap (λ (x : Shown H F). x.hi) is in
        let from = c.low in let to = c.high in let not_empty = (b.parts other q theirs).not_empty in
        record { seat = id; pass = joined p q; there = at_one; low = omega arith; high = omega arith }
    cover_into n c (high same is) =
        let lo : q.lo ≡ c.pass.lo = ap (λ (x : Shown H F). x.lo) is in
        let hi : q.hi ≡ c.pass.hi = ap (λ (x : Shown H F). x.hi) is in
        let from = c.low in let to = c.high in let not_empty = (b.parts id p mine).not_empty in
        record { seat = id; pass = joined p q; there = at_one; low = omega arith; high = omega arith }
    cover_into n c (kept there) = record { seat = c.seat; pass = c.pass; there = there; low = c.low; high = c.high }

    never : (d : Packet) → p.tries ≡ Some d → ⊥
    never d t = none-some d (sym idle ∙ t)

    one_part : IsPart first numbers history (joined p q)
    one_part = let part = b.parts id p mine in let part' = b.parts other q theirs in let not_empty = part.not_empty in
        let not_empty' = part'.not_empty in record {
          first_is = part.first_is;
          not_empty = omega arith;
          within = part'.within;
          seen = cond_both (ltb (length p.seen) (length q.seen)) q.seen p.seen (λ (l : List Packet). IsPrefix l history)
              (λ _. part'.seen) (λ _. part.seen);
          lesser = cond_both (ltb (length p.seen) (length q.seen)) p.seen q.seen (λ (l : List Packet). IsPrefix l history)
              (λ _. part.seen) (λ _. part'.seen);
          calls = λ n lo hi. ⊎_elim
              (λ (under : n < q.lo). joined_below (λ (e : Packet). e.by) q.lo p.calls q.calls n under ∙ part.calls n lo (omega arith))
              (λ (above : q.lo ≤ n). joined_above (λ (e : Packet). e.by) q.lo p.calls q.calls n above ∙ part'.calls n above hi)
              (cases_lt n q.lo);
          tried = λ d t. absurd (never d t);
        }

    part_of : (a : ℕ) (r : Shown H F) → Kind a r → IsPart first numbers history r
    part_of a r (one same is) = subst (IsPart first numbers history) is one_part
    part_of a r (else_ far far' e) = b.parts a r e

    abbrev Apart : Shown H F → Shown H F → Type 0
    Apart r s = (r.hi ≤ s.lo) ⊎ (s.hi ≤ r.lo)

    one_apart : (c : ℕ) (s : Shown H F) → (c ≡ id → ⊥) → (c ≡ other → ⊥) → Has views c s → Apart (joined p q) s
    one_apart c s far far' e = let not_empty = (b.parts c s e).not_empty in ⊎_elim
        (λ (h : p.hi ≤ s.lo). ⊎_elim (λ (k : q.hi ≤ s.lo). inl k) (λ (k : s.hi ≤ q.lo). absurd (omega arith))
        (b.apart other c q s theirs e (λ same. far' (sym same))))
        (λ (h : s.hi ≤ p.lo). inr h)
        (b.apart id c p s mine e (λ same. far (sym same)))

    turned : (r s : Shown H F) → Apart r s → Apart s r
    turned r s = ⊎_elim inr inl

    apart_of : (a c : ℕ) (r s : Shown H F) → Kind a r → Kind c s → (a ≡ c → ⊥) → Apart r s
    apart_of a c r s (one same is) (one same' is') differ = absurd (differ (same ∙ sym same'))
    apart_of a c r s (one same is) (else_ far far' e) differ = subst (λ (x : Shown H F). Apart x s) is (one_apart c s far far' e)
    apart_of a c r s (else_ far far' e) (one same' is') differ = subst (λ (x : Shown H F). Apart r x) is'
        (turned (joined p q) r (one_apart a r far far' e))
    apart_of a c r s (else_ far far' e) (else_ near near' e') differ = b.apart a c r s e e' differ

    caused_on : (e : Packet) (f : F) → IsCaused held first history views e f → IsCaused held first history after e f
    caused_on e f = ⊎_elim (λ s. inl (stopped_on s)) inr

    refusals_of : (a : ℕ) (r : Shown H F) → Kind a r → (e : Packet) (f : F) → Contains r.refused (e, f)
        → IsCaused held first history views e f
    refusals_of a r (one same is) e f c = ⊎_elim (λ l. b.refusals id p mine e f l) (λ h. b.refusals other q theirs e f h)
        (Contains-both_sides (λ (x : Packet × F). x.0.by) q.lo p.refused q.refused (e, f)
        (subst (λ (x : Shown H F). Contains x.refused (e, f)) (sym is) c))
    refusals_of a r (else_ far far' there) e f c = b.refusals a r there e f c

    known_of : (a : ℕ) (r : Shown H F) → Kind a r → (e : Packet) → Contains r.known e → IsRefused views e
    known_of a r (one same is) e c = b.known id p mine e (subst (λ (x : Shown H F). Contains x.known e) (sym is) c)
    known_of a r (else_ far far' there) e c = b.known a r there e c

    trier : (a : ℕ) (r : Shown H F) (d : Packet) → Kind a r → r.tries ≡ Some d → Has views a r
    trier a r d (one same is) t = absurd (never d (subst (λ (x : Shown H F). x.tries ≡ Some d) (sym is) t))
    trier a r d (else_ far far' there) t = there

    passes_joined : Passes held first numbers history after
    passes_joined = record {
      parts = λ a r e. part_of a r (kind a r e);
      apart = λ a c r s e e' differ. apart_of a c r s (kind a r e) (kind c s e') differ;
      cover = λ n under. (let c = b.cover n under in cover_into n c (was c.seat c.pass c.there));
      refusals = λ a r there e f c. caused_on e f (refusals_of a r (kind a r there) e f c);
      known = λ a r there e c. refused_on e (known_of a r (kind a r there) e c);
      alone = λ a c r s e f there there' t t'. b.alone a c r s e f (trier a r e (kind a r there) t)
          (trier c s f (kind c s there') t') t t';
      trying = λ a r e there t. let h = b.trying a r e (trier a r e (kind a r there) t) t in (h.0, λ x. h.1 (stopped_back x));
    }

    -- the longer list of moves has all own ones of both
    one_moves : (moves : List Move) → Moved numbers views moves → IsPrefix (joined p q).moves moves
        × ((n : ℕ) → p.lo ≤ n → n < q.hi → own_moves (joined p q).moves n ≡ own_moves moves n)
    one_moves moves m = let mine' = m.begins id p mine in let theirs' = m.begins other q theirs in
        let b = ltb (length p.moves) (length q.moves) in (
          cond_both b q.moves p.moves (λ (l : List Move). IsPrefix l moves) (λ _. theirs') (λ _. mine'),
          λ n lo hi. ⊎_elim
              (λ (under : n < q.lo). let own = m.own id p mine n lo (omega (arith, under, meets)) in
              cond_both b q.moves p.moves (λ (l : List Move). own_moves l n ≡ own_moves moves n)
              (λ shorter. own_between p.moves q.moves moves n (comparable p.moves q.moves moves mine' theirs'
              (omega (arith, ltb-true (length p.moves) (length q.moves) shorter))) theirs' own)
              (λ _. own))
              (λ (over : q.lo ≤ n). let own = m.own other q theirs n over hi in
              cond_both b q.moves p.moves (λ (l : List Move). own_moves l n ≡ own_moves moves n)
              (λ _. own)
              (λ no_shorter. own_between q.moves p.moves moves n (comparable q.moves p.moves moves theirs' mine'
              (ltb-false (length p.moves) (length q.moves) no_shorter)) mine' own))
              (cases_lt n q.lo),
        )

    moves_of : (moves : List Move) → Moved numbers views moves → (a : ℕ) (r : Shown H F) → Kind a r → IsPrefix r.moves moves
        × ((n : ℕ) → r.lo ≤ n → n < r.hi → own_moves r.moves n ≡ own_moves moves n)
    moves_of moves m a r (one same is) = subst (λ (x : Shown H F). IsPrefix x.moves moves
        × ((n : ℕ) → x.lo ≤ n → n < x.hi → own_moves x.moves n ≡ own_moves moves n)) is (one_moves moves m)
    moves_of moves m a r (else_ far far' e) = (m.begins a r e, m.own a r e)

    moved_joined : (moves : List Move) → Moved numbers views moves → Moved numbers after moves
    moved_joined moves m = record {
      orderly = m.orderly;
      no_others = m.no_others;
      begins = λ a r e. (moves_of moves m a r (kind a r e)).0;
      own = λ a r e. (moves_of moves m a r (kind a r e)).1;
      counted = (let all = m.counted in let one_met = met_replaced views id (Some p) (Some (joined p q)) mine in
          let spent = met_replaced (set views id (Some (joined p q))) other (Some q) None
          (set_else views id other (Some (joined p q)) ne ∙ theirs) in
          omega (arith, all, one_met, spent));
      trying = λ a r e there t. m.trying a r e (trier a r e (kind a r there) t) t;
    }

    tried_into : (t : IsTried views) → Was t.seat t.pass → IsTried after
    tried_into t (low same is) = absurd (never t.packet (subst (λ (x : Shown H F). x.tries ≡ Some t.packet) (sym is) t.tries))
    tried_into t (high same is) = absurd (none-some t.packet (sym idle'
        ∙ subst (λ (x : Shown H F). x.tries ≡ Some t.packet) (sym is) t.tries))
    tried_into t (kept there) = record { seat = t.seat; pass = t.pass; packet = t.packet; there = there; tries = t.tries }

module _ {H T R F : Type 0} (held : HeldOf H T R F) (first : H) (numbers : ℕ) where
  pub joining : (id : ℕ) (p : Shown H F) (other : ℕ) (q : Shown H F) → p.tries ≡ None → q.tries ≡ None → q.lo ≡ p.hi
      → Joins (Holds held first numbers) id (Some p) other (Some q) (Some (joined p q)) None
  joining id p other q idle idle' meets s holds mine ne there = let history = holds.0 in let w = holds.1 in
      let theirs : Has s.views other q = sym (set_else s.views id other (Some (joined p q)) ne) ∙ there in (
        history,
        record {
          two_words = w.two_words;
          lock_word = w.lock_word;
          count_word = w.count_word;
          opened = w.opened;
          numbered = w.numbered;
          passes = passes_joined s.views id p mine other q theirs ne held first numbers history w.passes idle idle' meets;
          home = λ free. let t = w.home free in (
            t.0,
            t.1,
            home_after held first history s.views (after s.views id p mine other q theirs ne)
                (stopped_back s.views id p mine other q theirs ne)
                (refused_on s.views id p mine other q theirs ne held first numbers history w.passes idle idle' meets) t.0 t.2,
          );
          none_tries = λ free a r d at t. w.none_tries free a r d
              (trier s.views id p mine other q theirs ne held first numbers history w.passes idle idle' meets a r d
              (kind s.views id p mine other q theirs ne a r at) t) t;
          one_tries = λ locked. let t = w.one_tries locked in tried_into s.views id p mine other q theirs ne held first numbers history w.passes idle idle' meets t
              (was s.views id p mine other q theirs ne t.seat t.pass t.there);
          moves = w.moves;
          moved = moved_joined s.views id p mine other q theirs ne held first numbers history w.passes idle idle' meets w.moves w.moved;
          none_holds = w.none_holds;
        },
      )

  -- the same for two seats that have a live pass without the lock
  pub join_at : (id : ℕ) (me : Mine H F) (other : ℕ) (them : Mine H F) → IsIdle me → IsIdle them
      → ((p q : Shown H F) → me.0 ≡ Some p → them.0 ≡ Some q → q.lo ≡ p.hi)
      → Joins (Holds held first numbers) id me.0 other them.0 (both_of me.0 them.0) None
  join_at id me other them idle idle' meets = let p = idle.pass in let q = idle'.pass in
      let is : me.0 ≡ Some p = λ i. (idle.me_is i).0 in let is' : them.0 ≡ Some q = λ i. (idle'.me_is i).0 in
      subst (λ (v : Option (Shown H F)). Joins (Holds held first numbers) id v other them.0 (both_of v them.0) None) (sym is)
      (subst (λ (v : Option (Shown H F)). Joins (Holds held first numbers) id (Some p) other v (both_of (Some p) v) None) (sym is')
      (joining id p other q idle.idle idle'.idle (meets p q is is')))
