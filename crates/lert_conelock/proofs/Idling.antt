-- A pass without the lock sees more of the history, or counts a lost take, and the rule goes on.
use Rattle.std.proofs.{Common.{◌≡◌, ℕ, List, get_or, set, Option, Some, None, sym, refl, ◌∙◌, subst, inl, ⊎_elim}, lemmas.Option.none-some}
use Rattle.std.specs.Prelude.{IsTrue}
use Rattle.atomic_table.specs.Table.{State}
use Rattle.lert_base.specs.{declared.held.Held.Ghosts as HeldOf, Packet.Packet}
use Rattle.lert_conelock.specs.{Prefix.IsPrefix, Moves.{Move, held_after}, Shown.Shown, Rule.{Views, Has, IsStopped, Moved, Passes, IsHome, HoldsWith}}
use Rattle.lert_conelock.proofs.{Prefixes.prefix_itself, Homes.home_after, Replaced.{Grows, has_after, forward, stopped_back, refused_on, passes_after}}

module _ {H T R F : Type 0} (held : HeldOf H T R F) (first : H) (numbers : ℕ) where
  module _ (s : State (Option H) (Option (Shown H F))) (history : List Packet) (w : HoldsWith held first numbers s history)
      (id : ℕ) (p : Shown H F) (there : Has s.views id p) (idle : p.tries ≡ None) (seen : List Packet) (met : ℕ) (known : List Move)
      (known_part : IsPrefix seen history) where
    abbrev q : Shown H F
    q = record p { seen = seen; met = met; moves = known }

    abbrev after : Views H F
    after = set s.views id (Some q)

    grows : Grows p q
    grows = record { lo_is = refl; hi_is = refl; refused = λ d g c. c; stops = λ x. x }

    stop_was : IsStopped after → IsStopped s.views
    stop_was x = ⊎_elim (λ (now : IsTrue p.stopped). record { seat = id; pass = p; there = there; stopped = now })
        (λ was. was) (stopped_back s.views id p q there x)

    never : (d : Packet) → p.tries ≡ Some d → ⊥
    never d t = none-some d (sym idle ∙ t)

    passes_idle : Passes held first numbers history after
    passes_idle = let b = w.passes in let part = b.parts id p there in passes_after s.views id p q there held first numbers history history b (prefix_itself history) grows
        (λ a r _ at. b.parts a r at)
        (record {
          first_is = part.first_is;
          not_empty = part.not_empty;
          within = part.within;
          seen = known_part;
          lesser = part.lesser;
          calls = part.calls;
          tried = part.tried;
        })
        (λ d g c. inl c)
        (λ d c. refused_on s.views id p q there grows d (b.known id p there d c))
        (λ d t. absurd (never d t))
        (λ d t. absurd (never d t))
        (λ a r d ne at t. ((b.trying a r d at t).0, λ x. (b.trying a r d at t).1 (stop_was x)))

    home_idle : (state : H) → IsHome held first history s.views state → IsHome held first history after state
    home_idle = home_after held first history s.views after stop_was (refused_on s.views id p q there grows)

    pub idles : (moves : List Move) → Moved numbers after moves → (get_or s.words 0 0 ≡ 0 → held_after None moves ≡ None)
        → HoldsWith held first numbers (record { words = s.words; homes = s.homes; views = after }) history
    idles moves moved none_holds = record {
      two_words = w.two_words;
      lock_word = w.lock_word;
      count_word = w.count_word;
      opened = w.opened;
      numbered = w.numbered;
      passes = passes_idle;
      home = λ free. let t = w.home free in (t.0, t.1, home_idle t.0 t.2);
      none_tries = λ free a r d at t. ⊎_elim
          (λ (u : (a ≡ id) × (q ≡ r)). never d (subst (λ (x : Shown H F). x.tries ≡ Some d) (sym u.1) t))
          (λ u. w.none_tries free a r d u.1 t)
          (has_after s.views id p q there a r at);
      one_tries = λ locked. let t = w.one_tries locked in ⊎_elim
          (λ (u : (t.seat ≡ id) × (p ≡ t.pass)). absurd (never t.packet
          (subst (λ (x : Shown H F). x.tries ≡ Some t.packet) (sym u.1) t.tries)))
          (λ u. record { seat = t.seat; pass = t.pass; packet = t.packet; there = u.1; tries = t.tries })
          (forward s.views id p q there t.seat t.pass t.there);
      moves = moves;
      moved = moved;
      none_holds = none_holds;
    }
