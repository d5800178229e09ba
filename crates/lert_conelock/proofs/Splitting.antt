-- A pass is split in two, and the rule goes on.
use Rattle.std.proofs.Common.{◌≡◌, ℕ, zero, suc, ◌<◌, ◌≤◌, List, [], ◌∷◌, ◌++◌, ◌⊎◌, length, set, Option, Some, None, sym, refl, ap, ◌∙◌, subst, inl, inr, ⊎_elim, arith, length-set}
use Rattle.std.proofs.{lemmas.Option.{same_Some, none-some}, lemmas.Bool.cases_lt, lemmas.List.Sums.sum_by_push}
use Rattle.std.specs.{Prelude.{IsTrue, Contains}, Option.option_map}
use mathlib.Core.Option.{some, some-injective, some-ne-none}
use mathlib.Core.Logic.{dite}
use native.Mathlib.Decide.{ℕ_discrete}
use lib.ListN.{get_elem?}
use Rattle.atomic_table.specs.Table.{Splits}
use Rattle.atomic_table.proofs.Lists.{at_set, set_here, set_else, at_longer, at_last}
use Rattle.lert_base.specs.{declared.held.Held.Ghosts as HeldOf, Packet.Packet}
use Rattle.lert_conelock.specs.{Steps.{Mine, IsIdle}, Prefix.IsPrefix, Moves.{Move, own_moves}, Shown.{Shown, lower, upper}}
use Rattle.lert_conelock.specs.Rule.{Views, Has, IsStopped, IsRefused, IsCovered, IsTried, IsPart, IsCaused, Passes, Moved, Holds, met_of}
use Rattle.lert_conelock.proofs.{Replaced.{at_within, there_again}, Moved.met_replaced, Homes.home_after}

snoc_cases : {A : Type 0} (l : List A) (j : ℕ) (a b : A) → get_elem? (l ++ a ∷ []) j ≡ some b
    → (get_elem? l j ≡ some b) ⊎ ((j ≡ length l) × (a ≡ b))
snoc_cases [] zero a b e = inr (refl, some-injective a b e)
snoc_cases [] (suc j) a b e = absurd (some-ne-none b (sym e))
snoc_cases (x ∷ xs) zero a b e = inl e
snoc_cases (x ∷ xs) (suc j) a b e = ⊎_elim inl (λ t. inr (ap suc t.0, t.1)) (snoc_cases xs j a b e)

module _ {H F : Type 0} (views : Views H F) (id : ℕ) (p : Shown H F) (mine : Has views id p) (at : ℕ) where
  -- where a pass after the split comes from
  data Kind (a : ℕ) (r : Shown H F) : Type 0 where
    low : a ≡ id → lower at p ≡ r → Kind a r
    high : a ≡ length views → upper at p ≡ r → Kind a r
    else_ : (a ≡ id → ⊥) → Has views a r → Kind a r

  abbrev after : Views H F
  after = set views id (Some (lower at p)) ++ Some (upper at p) ∷ []

  kind : (a : ℕ) (r : Shown H F) → Has after a r → Kind a r
  kind a r e = ⊎_elim
      (λ old. ⊎_elim (λ (t : (a ≡ id) × (Some (lower at p) ≡ Some r)). low t.0 (same_Some (lower at p) r t.1)) (λ t. else_ t.0 t.1)
      (at_set views id a (Some (lower at p)) (Some r) old))
      (λ (t : (a ≡ length (set views id (Some (lower at p)))) × (Some (upper at p) ≡ Some r)). high
      (t.0 ∙ length-set views id (Some (lower at p))) (same_Some (upper at p) r t.1))
      (snoc_cases (set views id (Some (lower at p))) a (Some (upper at p)) (Some r) e)

  at_low : Has after id (lower at p)
  at_low = at_longer (set views id (Some (lower at p))) (Some (upper at p) ∷ []) id (Some (lower at p))
      (set_here views id (Some (lower at p)) (at_within views id (Some p) mine))

  at_high : Has after (length views) (upper at p)
  at_high = at_last (set views id (Some (lower at p))) (Some (upper at p)) (length views) (length-set views id (Some (lower at p)))

  at_else : (a : ℕ) (r : Shown H F) → (a ≡ id → ⊥) → Has views a r → Has after a r
  at_else a r ne e = at_longer (set views id (Some (lower at p))) (Some (upper at p) ∷ []) a (Some r)
      (set_else views id a (Some (lower at p)) ne ∙ e)

  -- whose pass it was before
  was_mine : (a : ℕ) (r : Shown H F) → Has views a r → ((a ≡ id) × (p ≡ r)) ⊎ (a ≡ id → ⊥)
  was_mine a r e = dite (ℕ_discrete a id) (λ same. inl (
    same,
    there_again p r
        (sym mine ∙ subst (λ (n : ℕ). Has views n r) same e),
  )) inr

  stopped_on : IsStopped views → IsStopped after
  stopped_on s = ⊎_elim
      (λ (t : (s.seat ≡ id) × (p ≡ s.pass)). record {
        seat = id;
        pass = lower at p;
        there = at_low;
        stopped = subst (λ (r : Shown H F). IsTrue r.stopped) (sym t.1) s.stopped;
      })
      (λ ne. record { seat = s.seat; pass = s.pass; there = at_else s.seat s.pass ne s.there; stopped = s.stopped })
      (was_mine s.seat s.pass s.there)

  stopped_from : (s : IsStopped after) → Kind s.seat s.pass → IsStopped views
  stopped_from s (low same is) = record {
    seat = id;
    pass = p;
    there = mine;
    stopped = subst (λ (r : Shown H F). IsTrue r.stopped) (sym is) s.stopped;
  }
  stopped_from s (high same is) = record {
    seat = id;
    pass = p;
    there = mine;
    stopped = subst (λ (r : Shown H F). IsTrue r.stopped) (sym is) s.stopped;
  }
  stopped_from s (else_ ne e) = record { seat = s.seat; pass = s.pass; there = e; stopped = s.stopped }

  stopped_back : IsStopped after → IsStopped views
  stopped_back s = stopped_from s (kind s.seat s.pass s.there)

  refused_on : (e : Packet) → IsRefused views e → IsRefused after e
  refused_on e r = ⊎_elim
      (λ (t : (r.seat ≡ id) × (p ≡ r.pass)).
      let shown : Contains p.refused (e, r.refusal) = subst (λ (x : Shown H F). Contains x.refused (e, r.refusal))
      (sym t.1) r.shown in
      let lo : p.lo ≡ r.pass.lo = ap (λ (x : Shown H F). x.lo) t.1 in
      let hi : p.hi ≡ r.pass.hi = ap (λ (x : Shown H F). x.hi) t.1 in
      let from = r.low in let to = r.high in ⊎_elim
      (λ (under : e.by < at). record {
        seat = id;
        pass = lower at p;
        there = at_low;
        low = omega arith;
        high = under;
        refusal = r.refusal;
        shown = shown;
      })
      (λ (above : at ≤ e.by). record {
        seat = length views;
        pass = upper at p;
        there = at_high;
        low = above;
        high = omega arith;
        refusal = r.refusal;
        shown = shown;
      })
      (cases_lt e.by at))
      (λ ne. record {
        seat = r.seat;
        pass = r.pass;
        there = at_else r.seat r.pass ne r.there;
        low = r.low;
        high = r.high;
        refusal = r.refusal;
        shown = r.shown;
      })
      (was_mine r.seat r.pass r.there)

  cover_on : (n : ℕ) → IsCovered views n → IsCovered after n
  cover_on n c = ⊎_elim
      (λ (t : (c.seat ≡ id) × (p ≡ c.pass)).
      let lo : p.lo ≡ c.pass.lo = ap (λ (x : Shown H F). x.lo) t.1 in
      let hi : p.hi ≡ c.pass.hi = ap (λ (x : Shown H F). x.hi) t.1 in
      let from = c.low in let to = c.high in ⊎_elim
      (λ (under : n < at). record { seat = id; pass = lower at p; there = at_low; low = omega arith; high = under })
      (λ (above : at ≤ n). record { seat = length views; pass = upper at p; there = at_high; low = above; high = omega arith })
      (cases_lt n at))
      (λ ne. record { seat = c.seat; pass = c.pass; there = at_else c.seat c.pass ne c.there; low = c.low; high = c.high })
      (was_mine c.seat c.pass c.there)

  module _ {T R : Type 0} (held : HeldOf H T R F) (first : H) (numbers : ℕ)
      (history : List Packet) (b : Passes held first numbers history views) (idle : p.tries ≡ None)
      (above : p.lo < at) (below : at < p.hi) where
    never : (d : Packet) → p.tries ≡ Some d → ⊥
    never d t = none-some d (sym idle ∙ t)

    low_part : IsPart first numbers history (lower at p)
    low_part = let part = b.parts id p mine in let inside = part.within in record {
      first_is = part.first_is;
      not_empty = above;
      within = omega arith;
      seen = part.seen;
      lesser = part.lesser;
      calls = λ n lo hi. part.calls n lo (omega arith);
      tried = λ d t. absurd (never d t);
    }

    high_part : IsPart first numbers history (upper at p)
    high_part = let part = b.parts id p mine in record {
      first_is = part.first_is;
      not_empty = below;
      within = part.within;
      seen = part.seen;
      lesser = part.lesser;
      calls = λ n lo hi. part.calls n (omega arith) hi;
      tried = λ d t. absurd (never d t);
    }

    part_of : (a : ℕ) (r : Shown H F) → Kind a r → IsPart first numbers history r
    part_of a r (low same is) = subst (IsPart first numbers history) is low_part
    part_of a r (high same is) = subst (IsPart first numbers history) is high_part
    part_of a r (else_ ne e) = b.parts a r e

    abbrev Apart : Shown H F → Shown H F → Type 0
    Apart r s = (r.hi ≤ s.lo) ⊎ (s.hi ≤ r.lo)

    low_apart : (c : ℕ) (s : Shown H F) → (c ≡ id → ⊥) → Has views c s → Apart (lower at p) s
    low_apart c s ne e = ⊎_elim (λ (h : p.hi ≤ s.lo). inl (omega arith)) (λ (h : s.hi ≤ p.lo). inr h)
        (b.apart id c p s mine e (λ same. ne (sym same)))

    high_apart : (c : ℕ) (s : Shown H F) → (c ≡ id → ⊥) → Has views c s → Apart (upper at p) s
    high_apart c s ne e = ⊎_elim (λ (h : p.hi ≤ s.lo). inl h) (λ (h : s.hi ≤ p.lo). inr (omega arith))
        (b.apart id c p s mine e (λ same. ne (sym same)))

    turned : (r s : Shown H F) → Apart r s → Apart s r
    turned r s = ⊎_elim inr inl

    halves_apart : Apart (lower at p) (upper at p)
    halves_apart = inl (omega arith)

    apart_of : (a c : ℕ) (r s : Shown H F) → Kind a r → Kind c s → (a ≡ c → ⊥) → Apart r s
    apart_of a c r s (low same is) (low same' is') ne = absurd (ne (same ∙ sym same'))
    apart_of a c r s (low same is) (high same' is') ne = subst (λ (x : Shown H F). Apart x s) is
        (subst (λ (y : Shown H F). Apart (lower at p) y) is' halves_apart)
    apart_of a c r s (low same is) (else_ far e) ne = subst (λ (x : Shown H F). Apart x s) is (low_apart c s far e)
    apart_of a c r s (high same is) (low same' is') ne = subst (λ (x : Shown H F). Apart x s) is
        (subst (λ (y : Shown H F). Apart (upper at p) y) is' (turned (lower at p) (upper at p) halves_apart))
    apart_of a c r s (high same is) (high same' is') ne = absurd (ne (same ∙ sym same'))
    apart_of a c r s (high same is) (else_ far e) ne = subst (λ (x : Shown H F). Apart x s) is (high_apart c s far e)
    apart_of a c r s (else_ far e) (low same' is') ne = subst (λ (x : Shown H F). Apart r x) is'
        (turned (lower at p) r (low_apart a r far e))
    apart_of a c r s (else_ far e) (high same' is') ne = subst (λ (x : Shown H F). Apart r x) is'
        (turned (upper at p) r (high_apart a r far e))
    apart_of a c r s (else_ far e) (else_ far' e') ne = b.apart a c r s e e' ne

    caused_on : (e : Packet) (f : F) → IsCaused held first history views e f → IsCaused held first history after e f
    caused_on e f = ⊎_elim (λ s. inl (stopped_on s)) inr

    refusals_of : (a : ℕ) (r : Shown H F) → Kind a r → (e : Packet) (f : F) → Contains r.refused (e, f)
        → IsCaused held first history views e f
    refusals_of a r (low same is) e f c = b.refusals id p mine e f (subst (λ (x : Shown H F). Contains x.refused (e, f)) (sym is) c)
    refusals_of a r (high same is) e f c = b.refusals id p mine e f
        (subst (λ (x : Shown H F). Contains x.refused (e, f)) (sym is) c)
    refusals_of a r (else_ ne there) e f c = b.refusals a r there e f c

    known_of : (a : ℕ) (r : Shown H F) → Kind a r → (e : Packet) → Contains r.known e → IsRefused views e
    known_of a r (low same is) e c = b.known id p mine e (subst (λ (x : Shown H F). Contains x.known e) (sym is) c)
    known_of a r (high same is) e c = b.known id p mine e (subst (λ (x : Shown H F). Contains x.known e) (sym is) c)
    known_of a r (else_ ne there) e c = b.known a r there e c

    -- a pass that has the lock is no part of the split
    trier : (a : ℕ) (r : Shown H F) (d : Packet) → Kind a r → r.tries ≡ Some d → Has views a r
    trier a r d (low same is) t = absurd (never d (subst (λ (x : Shown H F). x.tries ≡ Some d) (sym is) t))
    trier a r d (high same is) t = absurd (never d (subst (λ (x : Shown H F). x.tries ≡ Some d) (sym is) t))
    trier a r d (else_ ne there) t = there

    passes_split : Passes held first numbers history after
    passes_split = record {
      parts = λ a r e. part_of a r (kind a r e);
      apart = λ a c r s e e' ne. apart_of a c r s (kind a r e) (kind c s e') ne;
      cover = λ n under. cover_on n (b.cover n under);
      refusals = λ a r there e f c. caused_on e f (refusals_of a r (kind a r there) e f c);
      known = λ a r there e c. refused_on e (known_of a r (kind a r there) e c);
      alone = λ a c r s e f there there' t t'. b.alone a c r s e f (trier a r e (kind a r there) t)
          (trier c s f (kind c s there') t') t t';
      trying = λ a r e there t. let h = b.trying a r e (trier a r e (kind a r there) t) t in (h.0, λ x. h.1 (stopped_back x));
    }

    moves_of : (moves : List Move) → Moved numbers views moves → (a : ℕ) (r : Shown H F) → Kind a r → IsPrefix r.moves moves
        × ((n : ℕ) → r.lo ≤ n → n < r.hi → own_moves r.moves n ≡ own_moves moves n)
    moves_of moves m a r (low same is) = subst (λ (x : Shown H F). IsPrefix x.moves moves
        × ((n : ℕ) → x.lo ≤ n → n < x.hi → own_moves x.moves n ≡ own_moves moves n)) is
        (m.begins id p mine, λ n lo hi. m.own id p mine n lo (omega (arith, hi, below)))
    moves_of moves m a r (high same is) = subst (λ (x : Shown H F). IsPrefix x.moves moves
        × ((n : ℕ) → x.lo ≤ n → n < x.hi → own_moves x.moves n ≡ own_moves moves n)) is
        (m.begins id p mine, λ n lo hi. m.own id p mine n (omega (arith, lo, above)) hi)
    moves_of moves m a r (else_ ne e) = (m.begins a r e, m.own a r e)

    moved_split : (moves : List Move) → Moved numbers views moves → Moved numbers after moves
    moved_split moves m = record {
      orderly = m.orderly;
      no_others = m.no_others;
      begins = λ a r e. (moves_of moves m a r (kind a r e)).0;
      own = λ a r e. (moves_of moves m a r (kind a r e)).1;
      counted = (let all = m.counted in let here = met_replaced views id (Some p) (Some (lower at p)) mine in
          omega (arith, all, here, sum_by_push met_of (set views id (Some (lower at p))) (Some (upper at p))));
      trying = λ a r e there t. m.trying a r e (trier a r e (kind a r there) t) t;
    }

    tried_on : IsTried views → IsTried after
    tried_on t = ⊎_elim
        (λ (u : (t.seat ≡ id) × (p ≡ t.pass)). absurd (never t.packet
        (subst (λ (x : Shown H F). x.tries ≡ Some t.packet) (sym u.1) t.tries)))
        (λ ne. record {
          seat = t.seat;
          pass = t.pass;
          packet = t.packet;
          there = at_else t.seat t.pass ne t.there;
          tries = t.tries;
        })
        (was_mine t.seat t.pass t.there)

module _ {H T R F : Type 0} (held : HeldOf H T R F) (first : H) (numbers : ℕ) where
  pub splitting : (id : ℕ) (p : Shown H F) (at : ℕ) → p.tries ≡ None → p.lo < at → at < p.hi
      → Splits (Holds held first numbers) id (Some p) (Some (lower at p)) (Some (upper at p))
  splitting id p at idle above below s holds mine = let history = holds.0 in let w = holds.1 in let views = s.views in (
    history,
    record {
      two_words = w.two_words;
      lock_word = w.lock_word;
      count_word = w.count_word;
      opened = w.opened;
      numbered = w.numbered;
      passes = passes_split s.views id p mine at held first numbers history w.passes idle above below;
      home = λ free. let t = w.home free in (
        t.0,
        t.1,
        home_after held first history s.views
            (after s.views id p mine at) (stopped_back s.views id p mine at) (refused_on s.views id p mine at) t.0 t.2,
      );
      none_tries = λ free a r d there t. w.none_tries free a r d
          (trier s.views id p mine at held first numbers history w.passes idle above below a r d
          (kind s.views id p mine at a r there) t) t;
      one_tries = λ locked. tried_on s.views id p mine at held first numbers history w.passes idle above below (w.one_tries locked);
      moves = w.moves;
      moved = moved_split s.views id p mine at held first numbers history w.passes idle above below w.moves w.moved;
      none_holds = w.none_holds;
    },
  )

  -- the same for a seat that has a live pass without the lock
  pub split_at : (id : ℕ) (me : Mine H F) (cut at : ℕ) → cut ≡ at → IsIdle me
      → ((p : Shown H F) → me.0 ≡ Some p → (p.lo < at) × (at < p.hi))
      → Splits (Holds held first numbers) id me.0 (option_map (lower cut) me.0) (option_map (upper cut) me.0)
  split_at id me cut at same idle within = let p = idle.pass in let is : me.0 ≡ Some p = λ i. (idle.me_is i).0 in
      let bounds = within p is in
      subst (λ (v : Option (Shown H F)). Splits (Holds held first numbers) id v (option_map (lower cut) v)
      (option_map (upper cut) v)) (sym is)
      (splitting id p cut idle.idle (let lo = bounds.0 in omega arith) (let hi = bounds.1 in omega arith))
