-- A take, won or lost, and the rule goes on.
use Rattle.std.proofs.Common.{◌≡◌, ◌≢◌, ℕ, zero, suc, ◌+◌, ◌<◌, ◌≤◌, eqb, List, [], ◌∷◌, ◌++◌, ◌⊎◌, get_or, set, Option, Some, None, sym, refl, ap, ◌∙◌, subst, inl, inr, ⊎_elim, arith, length-set}
use Rattle.std.proofs.Common.{get_or-set_same, get_or-set_other}
use Rattle.std.specs.Prelude.{IsTrue, Contains}
use Rattle.std.proofs.lemmas.Option.{same_Some, none-some}
use mathlib.Core.Option.{some}
use prog.Atomic.{either}
use Rattle.atomic_table.specs.Table.{State, Act, Valid, Allows, keeps, takes, stepped, carried_after}
use Rattle.atomic_table.proofs.Lists.{exchanged}
use Rattle.lert_base.specs.declared.held.Held.{Ghosts as HeldOf}
use Rattle.lert_base.specs.Packet.{Packet}
use Rattle.lert_conelock.specs.After.{StandsAfter}
use Rattle.lert_conelock.specs.Moves.{Move, Take, Miss, IsAnothers, held_after}
use Rattle.lert_conelock.specs.Shown.{Shown, missed, taken}
use Rattle.lert_conelock.specs.Rule.{Views, Has, IsRefused, IsTried, Passes, IsHome, HoldsWith, Holds}
use Rattle.lert_conelock.specs.Steps.{Mine, MayTake, Missed, Took}
use Rattle.lert_conelock.proofs.Prefixes.{prefix_itself}
use Rattle.lert_conelock.proofs.Replaced.{Grows, has_here, stopped_back, refused_on, passes_after, there_again}
use Rattle.lert_conelock.proofs.Moved.{moved_knows, moved_more}
use Rattle.lert_conelock.proofs.Gathered.{any_stopped, all_refused, stop_shown, stop_counts, refusal_shown, refusal_counts}
use Rattle.lert_conelock.proofs.Words.{set_found}
use Rattle.lert_conelock.proofs.Idling.{idles}

one_of : (n : ℕ) → n ≤ 1 → (n ≡ 0 → ⊥) → n ≡ 1
one_of zero bound none = absurd (none refl)
one_of (suc zero) bound none = refl
one_of (suc (suc n)) bound none = absurd (omega arith)

add_zero : (n : ℕ) → n + 0 ≡ n
add_zero n = omega arith

module _ {H T R F : Type 0} (held : HeldOf H T R F) (first : H) (numbers : ℕ) where
  module _ (s : State (Option H) (Option (Shown H F))) (history : List Packet) (w : HoldsWith held first numbers s history)
      (id : ℕ) (p : Shown H F) (there : Has s.views id p) (e : Packet) (named : e.by ≡ p.lo) (free : get_or s.words 0 0 ≡ 0) where
    -- the take behind all moves until now
    abbrev moves : List Move
    moves = w.moves ++ Take p.lo ∷ []

    abbrev won : Shown H F
    won = taken e history (any_stopped s.views) (all_refused s.views) moves p

    abbrev after : Views H F
    after = set s.views id (Some won)

    stops : IsTrue p.stopped → IsTrue won.stopped
    stops x = stop_counts s.views (record { seat = id; pass = p; there = there; stopped = x })

    grows : Grows p won
    grows = record { lo_is = refl; hi_is = refl; refused = λ d g c. c; stops = stops }

    not_empty : p.lo < p.hi
    not_empty = (w.passes.parts id p there).not_empty

    within : p.hi ≤ numbers
    within = (w.passes.parts id p there).within

    apart : (a : ℕ) (r : Shown H F) → a ≢ id → Has s.views a r → (p.hi ≤ r.lo) ⊎ (r.hi ≤ p.lo)
    apart a r ne at = w.passes.apart id a p r there at (λ same. ne (sym same))

    passes_won : Passes held first numbers history after
    passes_won = let b = w.passes in let part = b.parts id p there in passes_after s.views id p won there held first numbers history history b (prefix_itself history) grows
        (λ a r _ at. b.parts a r at)
        (record {
          first_is = part.first_is;
          not_empty = part.not_empty;
          within = part.within;
          seen = prefix_itself history;
          lesser = part.lesser;
          calls = part.calls;
          tried = λ d t. subst (λ (x : Packet). x.by ≡ p.lo) (same_Some e d t) named;
        })
        (λ d g c. inl c)
        (λ d c. refused_on s.views id p won there grows d (refusal_shown s.views d c))
        (λ d _ a r g ne at t. w.none_tries free a r g at t)
        (λ d _. (refl, λ x. ⊎_elim (λ now. now) (λ was. stop_counts s.views was) (stopped_back s.views id p won there x)))
        (λ a r d ne at t. absurd (w.none_tries free a r d at t))

    pub wins : HoldsWith held first numbers (record {
      words = set s.words 0 1;
      homes = set s.homes 0 mathlib.Core.Option.none;
      views = after;
    }) history
    wins = let two = w.two_words in let one : get_or (set s.words 0 1) 0 0 ≡ 1 = get_or-set_same s.words 0 1 0
        (omega arith) in record {
          two_words = length-set s.words 0 1 ∙ w.two_words;
          lock_word = omega arith;
          count_word = get_or-set_other s.words 0 1 1 0 (omega arith) ∙ w.count_word;
          opened = w.opened;
          numbered = w.numbered;
          passes = passes_won;
          home = λ z. absurd (omega arith);
          none_tries = λ z. absurd (omega arith);
          one_tries = λ _. record { seat = id; pass = won; packet = e; there = has_here s.views id p won there; tries = refl };
          moves = moves;
          moved = moved_more numbers s.views w.moves w.moved id p won there (Take p.lo) refl not_empty within apart (w.none_holds free) refl refl refl (sym (add_zero p.met))
              (λ a r d ne at t. absurd (w.none_tries free a r d at t)) (λ d t. refl);
          none_holds = λ z. absurd (omega arith);
        }

    pub took : (state : H) → IsHome held first history s.views state
        → Took held e p state (Some state) (Some won, (0, Some state) ∷ [])
    took state h = let part = w.passes.parts id p there in let same : first ≡ p.first = sym part.first_is in record {
      seen = history;
      stop = any_stopped s.views;
      known = all_refused s.views;
      moves = moves;
      after_is = refl;
      moved = moved_knows numbers s.views w.moves w.moved id p won there (Take p.lo) refl not_empty within apart (w.none_holds free);
      more = part.seen;
      stops = stops;
      opened = (w.opened.0, subst (λ (x : H). held.stands_for x w.opened.0) same w.opened.1);
      hand = record {
        terms_are = h.terms_are ∙ ap held.terms same;
        stands = subst (λ (x : H). StandsAfter held x history state) same h.stands;
        stopped_is = λ x. h.stopped_is (stop_shown s.views x);
        over_is = ⊎_elim inl (λ (o : (held.over state ≡ held.over first)
            ⊎ ((d : Packet) × (held.over state ≡ Some d) × IsRefused s.views d)). inr (⊎_elim
            (λ (z : held.over state ≡ held.over first). inl (z ∙ ap held.over same))
            (λ (t : (d : Packet) × (held.over state ≡ Some d) × IsRefused s.views d). inr
            (t.0, t.1, refusal_counts s.views t.0 t.2)) o)) h.over_is;
        fresh_is = ⊎_elim (λ (z : state ≡ first). inl (z ∙ same))
            (λ (t : (d : Packet) × (Contains history d ⊎ IsRefused s.views d)). inr
            (t.0, ⊎_elim inl (λ r. inr (refusal_counts s.views t.0 r)) t.1)) h.fresh_is;
      };
    }

  -- a pass that finds the lock held
  module _ (s : State (Option H) (Option (Shown H F))) (history : List Packet) (w : HoldsWith held first numbers s history)
      (id : ℕ) (p : Shown H F) (there : Has s.views id p) (idle : p.tries ≡ None) (locked : get_or s.words 0 0 ≡ 0 → ⊥) where
    abbrev behind : List Move
    behind = w.moves ++ Miss p.lo p.hi ∷ []

    holder : IsTried s.views
    holder = let bound = w.lock_word in w.one_tries (one_of (get_or s.words 0 0) bound locked)

    not_mine : holder.seat ≡ id → ⊥
    not_mine same = none-some holder.packet (sym idle ∙ subst (λ (x : Shown H F). x.tries ≡ Some holder.packet)
        (there_again holder.pass p (sym holder.there ∙ subst (λ (n : ℕ). Has s.views n p) (sym same) there)) holder.tries)

    another : IsAnothers (held_after None w.moves) p.lo p.hi
    another = let part = w.passes.parts holder.seat holder.pass holder.there in let not_empty = part.not_empty in record {
      number = holder.pass.lo;
      held = w.moved.trying holder.seat holder.pass holder.packet holder.there holder.tries;
      outside = ⊎_elim (λ (far : p.hi ≤ holder.pass.lo). inr far) (λ (far : holder.pass.hi ≤ p.lo). inl (omega (arith, far, not_empty)))
          (w.passes.apart id holder.seat p holder.pass there holder.there (λ same. not_mine (sym same)));
    }

    not_empty' : p.lo < p.hi
    not_empty' = (w.passes.parts id p there).not_empty

    within' : p.hi ≤ numbers
    within' = (w.passes.parts id p there).within

    apart' : (a : ℕ) (r : Shown H F) → a ≢ id → Has s.views a r → (p.hi ≤ r.lo) ⊎ (r.hi ≤ p.lo)
    apart' a r ne at = w.passes.apart id a p r there at (λ same. ne (sym same))

    pub loses : HoldsWith held first numbers (record { words = s.words; homes = s.homes; views = set s.views id (Some (missed behind p)) }) history
    loses = idles held first numbers s history w id p there idle p.seen (p.met + 1) behind (w.passes.parts id p there).seen behind
        (moved_more numbers s.views w.moves w.moved id p (missed behind p) there (Miss p.lo p.hi) refl not_empty' within' apart' another refl refl refl refl
        (λ a r d ne at t. w.moved.trying a r d at t) (λ d t. absurd (none-some d (sym idle ∙ t))))
        (λ free. absurd (locked free))

    pub found_held : Missed p (Some (missed behind p), [])
    found_held = record {
      before = w.moves;
      begins = w.moved.begins id p there;
      another = another;
      moved = moved_knows numbers s.views w.moves w.moved id p (missed behind p) there (Miss p.lo p.hi) refl not_empty' within' apart' another;
      after_is = refl;
    }

  pub taking : (slots id : ℕ) (me : Mine H F) (e : Packet) → MayTake me e
      → Allows (Holds held first numbers) slots id me 0 (λ n. either (eqb n 0) 1 n)
      (λ found after. (p' : Shown H F) → me.0 ≡ Some p' → (found ≡ 0 → (state : H)
      × Took held e p' state (Some state) after) × ((found ≡ 0 → ⊥) → Missed p' after))
  taking slots id me e may = let p = may.pass in let idle = may.idle in let named = may.own in subst
      (λ (m : Mine H F). Allows (Holds held first numbers) slots id m 0 (λ n. either (eqb n 0) 1 n)
      (λ found after. (p' : Shown H F) → m.0 ≡ Some p' → (found ≡ 0 → (state : H)
      × Took held e p' state (Some state) after) × ((found ≡ 0 → ⊥) → Missed p' after))) (sym may.me_is)
      (λ s holds one at _.
      let history = holds.0 in let w = holds.1 in
      exchanged (get_or s.words 0 0) 0 1
      (λ (x : ℕ). (v : Option (Shown H F)) × (a : Act (Option H)) × Valid s.homes [] a
      × Holds held first numbers (stepped s 0 x id [] v a)
      × ((p' : Shown H F) → Some p ≡ Some p' → (get_or s.words 0 0 ≡ 0 → (state : H)
      × Took held e p' state (Some state) (v, carried_after [] a))
      × ((get_or s.words 0 0 ≡ 0 → ⊥) → Missed p' (v, carried_after [] a))))
      (λ free. let t = w.home free in (
        Some (won s history w id p at e named free),
        takes 0 (Some t.0),
        t.1,
        (history, wins s history w id p at e named free),
        λ p' same. (
          (λ _. (
            t.0,
            subst (λ (x : Shown H F). Took held e x t.0 (Some t.0)
                (Some (won s history w id p at e named free), (0, Some t.0) ∷ [])) (same_Some p p' same)
                (took s history w id p at e named free t.0 t.2),
          )),
          (λ not_free. absurd (not_free free)),
        ),
      ))
      (λ locked. (
        Some (missed (behind s history w id p at idle locked) p),
        keeps,
        tt,
        (
          history,
          subst (λ (ws : List ℕ). HoldsWith held first numbers
              (record { words = ws; homes = s.homes; views = set s.views id (Some (missed (behind s history w id p at idle locked) p)) }) history)
              (sym (set_found s.words 0 0)) (loses s history w id p at idle locked),
        ),
        λ p' same. (
          (λ free. absurd (locked free)),
          (λ _. subst (λ (x : Shown H F). Missed x (Some (missed (behind s history w id p at idle locked) p), [])) (same_Some p p' same)
              (found_held s history w id p at idle locked)),
        ),
      )))
