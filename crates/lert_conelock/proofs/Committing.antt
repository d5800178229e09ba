-- The pass that has the lock counts its packet in, and the rule goes on.
use Rattle.std.proofs.Common.{◌≡◌, ◌≢◌, ℕ, ◌+◌, ◌%◌, ◌^◌, ◌<◌, ◌≤◌, eqb, List, [], ◌∷◌, ◌++◌, length, get_or, set, Some, sym, refl, ap, ◌∙◌}
use Rattle.std.proofs.Common.{subst, inl, ⊎_elim, arith, append-nil, length-append, length-set, get_or-set_same, get_or-set_other, mod-eq_of_lt, ne_eqb}
use Rattle.std.proofs.lemmas.Option.{same_Some}
use Rattle.std.proofs.lemmas.Bool.{cond-false}
use Rattle.std.proofs.lemmas.List.Elements.{Contains-push_cases, filter-append}
use mathlib.Core.Option.{some}
use Rattle.atomic_table.specs.Table.{Allows, keeps}
use Rattle.lert_base.specs.declared.held.Held.{Ghosts as HeldOf}
use Rattle.lert_base.specs.Packet.{Packet, own}
use Rattle.lert_conelock.specs.Prefix.{IsPrefix}
use Rattle.lert_conelock.specs.Shown.{Shown, committed}
use Rattle.lert_conelock.specs.Rule.{Views, Has, Passes, Holds}
use Rattle.lert_conelock.specs.Steps.{Mine}
use Rattle.lert_conelock.proofs.Prefixes.{prefix_itself, prefix_append, prefix_trans}
use Rattle.lert_conelock.proofs.Replaced.{Grows, has_here, stopped_back, refused_on, passes_after}
use Rattle.lert_conelock.proofs.Moved.{moved_same}

-- a packet of another number is none of this number's own
own_other : (history : List Packet) (e : Packet) (n : ℕ) → (e.by ≡ n → ⊥) → own (history ++ e ∷ []) n ≡ own history n
own_other history e n ne = filter-append (λ (d : Packet). eqb d.by n) history (e ∷ [])
    ∙ (ap (λ (l : List Packet). own history n ++ l) (cond-false (eqb e.by n) (e ∷ []) [] (ne_eqb e.by n ne))
    ∙ append-nil (own history n))

own_more : (xs ys : List Packet) (e : Packet) (n : ℕ) → own xs n ≡ own ys n → own (xs ++ e ∷ []) n ≡ own (ys ++ e ∷ []) n
own_more xs ys e n same = filter-append (λ (d : Packet). eqb d.by n) xs (e ∷ [])
    ∙ (ap (λ (l : List Packet). l ++ own (e ∷ []) n) same ∙ sym (filter-append (λ (d : Packet). eqb d.by n) ys (e ∷ [])))

module _ {H T R F : Type 0} (held : HeldOf H T R F) (first : H) (numbers : ℕ) where
  module _ (history : List Packet) (views : Views H F) (b : Passes held first numbers history views)
      (id : ℕ) (p : Shown H F) (there : Has views id p) (e : Packet) (tries : p.tries ≡ Some e) where
    abbrev q : Shown H F
    q = committed e p

    abbrev longer : List Packet
    longer = history ++ e ∷ []

    grows : Grows p q
    grows = record { lo_is = refl; hi_is = refl; refused = λ d g c. c; stops = λ x. x }

    -- the packet's number belongs to no other pass
    other_number : (a : ℕ) (r : Shown H F) → a ≢ id → Has views a r → (n : ℕ) → r.lo ≤ n → n < r.hi → e.by ≡ n → ⊥
    other_number a r ne at n lo hi same = let part = b.parts id p there in let named = part.tried e tries in
        let not_empty = part.not_empty in
        ⊎_elim (λ (far : r.hi ≤ p.lo). omega arith) (λ (far : p.hi ≤ r.lo). omega arith) (b.apart a id r p at there ne)

    pub passes_committed : Passes held first numbers longer (set views id (Some q))
    passes_committed = let part = b.parts id p there in passes_after views id p q there held first numbers history longer b (prefix_append history (e ∷ [])) grows
        (λ a r ne at. let other = b.parts a r at in record {
          first_is = other.first_is;
          not_empty = other.not_empty;
          within = other.within;
          seen = prefix_trans other.seen (prefix_append history (e ∷ []));
          lesser = prefix_trans other.lesser (prefix_append history (e ∷ []));
          calls = λ n lo hi. other.calls n lo hi ∙ sym (own_other history e n (other_number a r ne at n lo hi));
          tried = other.tried;
        })
        (record {
          first_is = part.first_is;
          not_empty = part.not_empty;
          within = part.within;
          seen = subst (λ (l : List Packet). IsPrefix (l ++ e ∷ []) longer) (sym (b.trying id p e there tries).0)
              (prefix_itself longer);
          lesser = prefix_trans part.lesser (prefix_append history (e ∷ []));
          calls = λ n lo hi. own_more p.calls history e n (part.calls n lo hi);
          tried = part.tried;
        })
        (λ d g c. inl c)
        (λ d c. refused_on views id p q there grows d (b.known id p there d c))
        (λ d t a r g ne at t'. ne (b.alone a id r p g d at there t' t))
        (λ d t. (
          ap (λ (l : List Packet). l ++ e ∷ []) (b.trying id p d there t).0,
          λ x. ⊎_elim (λ now. now)
              (λ was. (b.trying id p d there t).1 was) (stopped_back views id p q there x),
        ))
        (λ a r d ne at t. absurd (ne (b.alone a id r p d e at there t tries)))

  pub committing : (slots id : ℕ) (me : Mine H F) (p : Shown H F) (e : Packet) → me.0 ≡ Some p → p.tries ≡ Some e
      → length p.seen < 2 ^ 40
      → Allows (Holds held first numbers) slots id me 1 (λ n. (n + 1) % 2 ^ 64)
      (λ found after. (p' : Shown H F) (e' : Packet) → me.0 ≡ Some p' → p'.tries ≡ Some e' → after ≡ (Some (committed e' p'), me.1))
  committing slots id me p e is tries short s holds _ at _ =
      let there : Has s.views id p = at ∙ ap some is in let history = holds.0 in let w = holds.1 in let b = w.passes in
      let q : Shown H F = committed e p in let n : ℕ = get_or s.words 1 0 in
      let count : n ≡ length p.seen = w.count_word ∙ ap length (sym (b.trying id p e there tries).0) in
      let fits : n + 1 < 2 ^ 64 = omega arith in
      let next : (n + 1) % 2 ^ 64 ≡ n + 1 = mod-eq_of_lt fits in
      let free_is : get_or (set s.words 1 ((n + 1) % 2 ^ 64)) 0 0 ≡ get_or s.words 0 0 = get_or-set_other s.words 1 0
      ((n + 1) % 2 ^ 64) 0 (omega arith) in
      let taken = λ (free : get_or (set s.words 1 ((n + 1) % 2 ^ 64)) 0 0 ≡ 0). w.none_tries
      (sym free_is ∙ free) id p e there tries in
      let two = w.two_words in (
        Some q,
        keeps,
        tt,
        (
          history ++ e ∷ [],
          record {
            two_words = length-set s.words 1 ((n + 1) % 2 ^ 64) ∙ w.two_words;
            lock_word = (let lock = w.lock_word in omega arith);
            count_word = get_or-set_same s.words 1 ((n + 1) % 2 ^ 64) 0 (omega arith)
                ∙ (next ∙ (let c = w.count_word in omega (arith, length-append history (e ∷ []))));
            opened = w.opened;
            numbered = λ d c. ⊎_elim (λ was. w.numbered d was)
                (λ (same : e ≡ d). let part = b.parts id p there in let named = part.tried e tries in
                let not_empty = part.not_empty in let inside = part.within in
                subst (λ (x : Packet). x.by < numbers) same (omega arith))
                (Contains-push_cases history e d c);
            passes = passes_committed history s.views b id p there e tries;
            home = λ free. absurd (taken free);
            none_tries = λ free. absurd (taken free);
            one_tries = λ _. record { seat = id; pass = q; packet = e; there = has_here s.views id p q there; tries = tries };
            moves = w.moves;
            moved = moved_same numbers s.views w.moves w.moved id p q there refl refl refl refl (λ d t. t);
            none_holds = λ free. absurd (taken free);
          },
        ),
        λ p' e' is' tries'.
            let pp : p ≡ p' = same_Some p p' (sym is ∙ is') in
            let ee : e ≡ e' = same_Some e e' (sym tries ∙ (ap (λ (x : Shown H F). x.tries) pp ∙ tries')) in
            λ i. (Some (committed (ee i) (pp i)), me.1),
      )
