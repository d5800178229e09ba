-- The pass that has the lock notes a refusal, and the rule goes on.
use Rattle.std.proofs.{Common.{◌≡◌, ℕ, Bool, List, [], ◌∷◌, get_or, set, Option, Some, sym, refl, ap, ◌∙◌, subst, inl, inr, ⊎_elim, arith}, lemmas.Option.same_Some, lemmas.Bool.{or_left, or_right}}
use Rattle.std.proofs.lemmas.List.Elements.{Contains-append_left, Contains-push, Contains-push_cases}
use Rattle.std.specs.Prelude.{IsTrue}
use mathlib.Core.Option.{some}
use Rattle.atomic_table.specs.Table.{Allows, keeps}
use Rattle.lert_base.specs.{declared.held.Held.Ghosts as HeldOf, Packet.Packet}
use Rattle.lert_conelock.specs.{After.RefusesAfter, Shown.{Shown, noted}, Rule.{Views, Has, IsRefused, IsCaused, Passes, HoldsWith, Holds}, Steps.{Mine, IsReason}}
use Rattle.lert_conelock.proofs.{Prefixes.prefix_itself, Replaced.{Grows, has_here, stopped_back, refused_on, passes_after}, Moved.moved_same, Words.set_found}

module _ {H T R F : Type 0} (held : HeldOf H T R F) (first : H) (numbers : ℕ) where
  module _ (history : List Packet) (views : Views H F) (b : Passes held first numbers history views)
      (id : ℕ) (p : Shown H F) (there : Has views id p) (e : Packet) (f : F) (stop : Bool) (tries : p.tries ≡ Some e)
      (reason : IsReason held stop p e f) where
    abbrev q : Shown H F
    q = noted e f stop p

    grows : Grows p q
    grows = record {
      lo_is = refl;
      hi_is = refl;
      refused = λ d g c. Contains-append_left p.refused ((e, f) ∷ [])
          (d, g) c;
      stops = or_left p.stopped stop;
    }

    caused : IsCaused held first history (set views id (Some q)) e f
    caused = let part = b.parts id p there in ⊎_elim
        (λ (halted : IsTrue stop). inl (record {
          seat = id;
          pass = q;
          there = has_here views id p q there;
          stopped = or_right p.stopped stop halted;
        }))
        (λ (by_rule : RefusesAfter held p.first p.seen e f). inr (
          p.seen,
          part.seen,
          subst (λ (x : H). RefusesAfter held x p.seen e f) part.first_is by_rule,
        ))
        reason

    refused_now : IsRefused (set views id (Some q)) e
    refused_now = let part = b.parts id p there in let at = part.tried e tries in let ne = part.not_empty in
        record {
          seat = id;
          pass = q;
          there = has_here views id p q there;
          low = omega arith;
          high = omega arith;
          refusal = f;
          shown = Contains-push p.refused (e, f);
        }

    pub passes_noted : Passes held first numbers history (set views id (Some q))
    passes_noted = let part = b.parts id p there in passes_after views id p q there held first numbers history history b (prefix_itself history) grows
        (λ a r _ at. b.parts a r at)
        (record {
          first_is = part.first_is;
          not_empty = part.not_empty;
          within = part.within;
          seen = part.seen;
          lesser = part.lesser;
          calls = part.calls;
          tried = part.tried;
        })
        (λ d g c. ⊎_elim inl
        (λ (same : ◌≡◌ {A = Packet × F} (e, f) (d, g)). inr (subst
        (λ (x : Packet × F). IsCaused held first history (set views id (Some q)) x.0 x.1) same caused))
        (Contains-push_cases p.refused (e, f) (d, g) c))
        (λ d c. ⊎_elim
        (λ was. refused_on views id p q there grows d (b.known id p there d was))
        (λ (same : e ≡ d). subst (IsRefused (set views id (Some q))) same refused_now)
        (Contains-push_cases p.known e d c))
        (λ d t a r g ne at t'. ne (b.alone a id r p g d at there t' t))
        (λ d t. (
          (b.trying id p d there t).0,
          λ s. ⊎_elim (λ now. now)
              (λ was. or_left p.stopped stop ((b.trying id p d there t).1 was)) (stopped_back views id p q there s),
        ))
        (λ a r d ne at t. absurd (ne (b.alone a id r p d e at there t tries)))

  pub notes : (slots id : ℕ) (me : Mine H F) (p : Shown H F) (e : Packet) (f : F) (stop : Bool) (told : Option F)
      → me.0 ≡ Some p → p.tries ≡ Some e → told ≡ Some f
      → IsReason held stop p e f
      → Allows (Holds held first numbers) slots id me 1 (λ n. n)
      (λ found after. (p' : Shown H F) (e' : Packet) (f' : F) → me.0 ≡ Some p' → p'.tries ≡ Some e' → told ≡ Some f'
      → after ≡ (Some (noted e' f' stop p'), me.1))
  notes slots id me p e f stop told is tries telling reason s holds _ at _ =
      let there : Has s.views id p = at ∙ ap some is in let history = holds.0 in let w = holds.1 in
      let q : Shown H F = noted e f stop p in
      let taken = λ (free : get_or s.words 0 0 ≡ 0). w.none_tries free id p e there tries in (
        Some q,
        keeps,
        tt,
        (
          history,
          subst (λ (ws : List ℕ). HoldsWith held first numbers
              (record { words = ws; homes = s.homes; views = set s.views id (Some q) }) history)
              (sym (set_found s.words 1 0))
              (record {
                two_words = w.two_words;
                lock_word = w.lock_word;
                count_word = w.count_word;
                opened = w.opened;
                numbered = w.numbered;
                passes = passes_noted history s.views w.passes id p there e f stop tries reason;
                home = λ free. absurd (taken free);
                none_tries = λ free. absurd (taken free);
                one_tries = λ _. record { seat = id; pass = q; packet = e; there = has_here s.views id p q there; tries = tries };
                moves = w.moves;
                moved = moved_same numbers s.views w.moves w.moved id p q there refl refl refl refl (λ d t. t);
                none_holds = λ free. absurd (taken free);
              }),
        ),
        λ p' e' f' is' tries' telling'.
            let pp : p ≡ p' = same_Some p p' (sym is ∙ is') in
            let ee : e ≡ e' = same_Some e e' (sym tries ∙ (ap (λ (x : Shown H F). x.tries) pp ∙ tries')) in
            let ff : f ≡ f' = same_Some f f' (sym telling ∙ telling') in
            λ i. (Some (noted (ee i) (ff i) stop (pp i)), me.1),
      )
