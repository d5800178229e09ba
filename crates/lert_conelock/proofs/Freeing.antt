-- The pass that has the lock brings the state home and frees the lock, and the rule goes on.
use Rattle.std.proofs.Common.{◌≡◌, ◌≢◌, ℕ, ◌+◌, List, [], ◌∷◌, ◌++◌, ◌⊎◌, get_or, set, Some, None, sym, refl, ap, ◌∙◌, subst, inl, inr, ⊎_elim, arith, length-set, get_or-set_same, get_or-set_other}
use Rattle.std.proofs.lemmas.Option.{same_Some, none-some}
use Rattle.std.specs.Prelude.{Contains}
use mathlib.Core.Option.{some}
use Rattle.atomic_table.specs.Table.{Allows, gives, rest}
use Rattle.atomic_table.proofs.Lists.{set_here}
use Rattle.lert_base.specs.{declared.held.Held.Ghosts as HeldOf, Packet.Packet}
use Rattle.lert_conelock.specs.{After.StandsAfter, Moves.{Move, Free, Moves}, Shown.{Shown, freed}, Rule.{Views, Has, Passes, IsHome, Holds}, Steps.{Mine, InHand, HasLock}}
use Rattle.lert_conelock.proofs.{Contained.no_item, Prefixes.prefix_itself, Replaced.{Grows, has_after, stopped_back, refused_on, passes_after}, Moving.held_more, Moved.{moved_knows, moved_more}}

add_zero : (n : ℕ) → n + 0 ≡ n
add_zero n = omega arith

module _ {H T R F : Type 0} (held : HeldOf H T R F) (first : H) (numbers : ℕ) where
  module _ (history : List Packet) (views : Views H F) (b : Passes held first numbers history views)
      (id : ℕ) (p : Shown H F) (there : Has views id p) (e : Packet) (tries : p.tries ≡ Some e) (more : ℕ) (known : List Move) where
    abbrev q : Shown H F
    q = freed more known p

    grows : Grows p q
    grows = record { lo_is = refl; hi_is = refl; refused = λ d g c. c; stops = λ s. s }

    pub passes_freed : Passes held first numbers history (set views id (Some q))
    passes_freed = let part = b.parts id p there in passes_after views id p q there held first numbers history history b (prefix_itself history) grows
        (λ a r _ at. b.parts a r at)
        (record {
          first_is = part.first_is;
          not_empty = part.not_empty;
          within = part.within;
          seen = part.seen;
          lesser = part.lesser;
          calls = part.calls;
          tried = λ d t. absurd (none-some d t);
        })
        (λ d g c. inl c)
        (λ d c. absurd (no_item d c))
        (λ d t. absurd (none-some d t))
        (λ d t. absurd (none-some d t))
        (λ a r d ne at t. absurd (ne (b.alone a id r p d e at there t tries)))

    pub home_freed : (state : H) → InHand held p state → IsHome held first history (set views id (Some q)) state
    home_freed state hand = let part = b.parts id p there in let seen = (b.trying id p e there tries).0 in record {
      terms_are = hand.terms_are ∙ ap held.terms part.first_is;
      stands = subst (λ (l : List Packet). StandsAfter held first l state) seen
          (subst (λ (x : H). StandsAfter held x p.seen state) part.first_is hand.stands);
      stopped_is = λ s. hand.stopped_is (⊎_elim (λ now. now) (λ was. (b.trying id p e there tries).1 was)
          (stopped_back views id p q there s));
      over_is = ⊎_elim inl (λ (o : (held.over state ≡ held.over p.first)
          ⊎ ((d : Packet) × (held.over state ≡ Some d) × Contains p.known d)). inr (⊎_elim
          (λ (same : held.over state ≡ held.over p.first). inl (same ∙ ap held.over part.first_is))
          (λ (t : (d : Packet) × (held.over state ≡ Some d) × Contains p.known d). inr
          (t.0, t.1, refused_on views id p q there grows t.0 (b.known id p there t.0 t.2)))
          o)) hand.over_is;
      fresh_is = ⊎_elim (λ (same : state ≡ p.first). inl (same ∙ part.first_is))
          (λ (t : (d : Packet) × (Contains p.seen d ⊎ Contains p.known d)). inr (
            t.0,
            ⊎_elim
                (λ (c : Contains p.seen t.0). inl (subst (λ (l : List Packet). Contains l t.0) seen c))
                (λ (c : Contains p.known t.0). inr (refused_on views id p q there grows t.0 (b.known id p there t.0 c)))
                t.1,
          )) hand.fresh_is;
    }

  pub frees : (slots id : ℕ) (me : Mine H F) (state : H) (more : ℕ) → slots ≡ 1 → HasLock held state (Some state) me
      → Allows (Holds held first numbers) slots id me 0 (λ _. 0)
      (λ found after. (p' : Shown H F) → me.0 ≡ Some p' → (moves : List Move) × Moves p'.lo p'.moves (Free p'.lo ∷ []) moves
      × (after ≡ (Some (freed more moves p'), rest me.1)))
  frees slots id me state more slot lock = let p = lock.pass in let e = lock.packet in let tries = lock.tries in
      let hand = lock.hand in subst
      (λ (m : Mine H F). Allows (Holds held first numbers) slots id m 0 (λ _. 0)
      (λ found after. (p' : Shown H F) → m.0 ≡ Some p' → (moves : List Move) × Moves p'.lo p'.moves (Free p'.lo ∷ []) moves
      × (after ≡ (Some (freed more moves p'), rest m.1)))) (sym lock.me_is)
      (λ s holds one at _.
      let there : Has s.views id p = at in let history = holds.0 in let w = holds.1 in let b = w.passes in
      let moves : List Move = w.moves ++ Free p.lo ∷ [] in
      let q : Shown H F = freed more moves p in
      let mine = w.moved.trying id p e there tries in
      let apart = λ (a : ℕ) (r : Shown H F) (ne : a ≢ id) (seen : Has s.views a r). b.apart id a p r there seen (λ same. ne (sym same)) in
      let not_empty = (b.parts id p there).not_empty in let within = (b.parts id p there).within in (
        Some q,
        gives,
        tt,
        (
          history,
          record {
            two_words = length-set s.words 0 0 ∙ w.two_words;
            lock_word = (let two = w.two_words in let z : get_or
                (set s.words 0 0) 0 0 ≡ 0 = get_or-set_same s.words 0 0 0 (omega arith) in omega arith);
            count_word = get_or-set_other s.words 0 1 0 0 (omega arith) ∙ w.count_word;
            opened = w.opened;
            numbered = w.numbered;
            passes = passes_freed history s.views b id p there e tries more moves;
            home = λ _. (
              state,
              set_here s.homes 0 (some (Some state))
                  (omega arith),
              home_freed history s.views b id p there e tries more moves state hand,
            );
            none_tries = λ _ a r d at t. ⊎_elim
                (λ (u : (a ≡ id) × (q ≡ r)). none-some d (subst (λ (x : Shown H F). x.tries ≡ Some d) (sym u.1) t))
                (λ u. u.0 (b.alone a id r p d e u.1 there t tries))
                (has_after s.views id p q there a r at);
            one_tries = λ one. absurd (let two = w.two_words in
                let z : get_or (set s.words 0 0) 0 0 ≡ 0 = get_or-set_same s.words 0 0 0 (omega arith) in omega arith);
            moves = moves;
            moved = moved_more numbers s.views w.moves w.moved id p q there (Free p.lo) refl not_empty within apart mine refl refl refl (sym (add_zero p.met))
                (λ a r d ne at t. absurd (ne (b.alone a id r p d e at there t tries)))
                (λ d t. absurd (none-some d t));
            none_holds = λ _. held_more None w.moves (Free p.lo);
          },
        ),
        λ p' is'. subst (λ (x : Shown H F). (l : List Move) × Moves x.lo x.moves (Free x.lo ∷ []) l
            × ◌≡◌ {A = Mine H F} (Some q, []) (Some (freed more l x), [])) (same_Some p p' is') (
              moves,
              moved_knows numbers s.views w.moves w.moved id p q there (Free p.lo) refl not_empty within apart mine,
              refl,
            ),
      ))
