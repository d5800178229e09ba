-- A pass without the lock reads the count of the history, and the rule goes on.
use Rattle.std.proofs.{Common.{◌≡◌, ℕ, ◌≤◌, List, length, get_or, set, Option, Some, None, sym, refl, ap, ◌∙◌, subst}, lemmas.Option.same_Some}
use mathlib.Core.Option.{some}
use Rattle.atomic_table.specs.Table.{Allows, keeps}
use Rattle.atomic_table.proofs.Lists.{set_again}
use Rattle.lert_base.specs.declared.held.Held.{Ghosts as HeldOf}
use Rattle.lert_conelock.specs.{Prefix.IsPrefix, Shown.Shown, Rule.{Has, HoldsWith, Holds}, Steps.{Mine, Looked}}
use Rattle.lert_conelock.proofs.{Prefixes.{prefix_itself, comparable}, Words.set_found, Idling.idles, Moved.moved_same}

module _ {H T R F : Type 0} (held : HeldOf H T R F) (first : H) (numbers : ℕ) where
  pub looking : (slots id : ℕ) (me : Mine H F) (p : Shown H F) → me.0 ≡ Some p → p.tries ≡ None
      → Allows (Holds held first numbers) slots id me 1 (λ n. n)
      (λ found after. (p' : Shown H F) → me.0 ≡ Some p' → (q : Shown H F) × (after ≡ (Some q, me.1)) × Looked found p' q)
  looking slots id me p is idle s holds _ at _ =
      let there : Has s.views id p = at ∙ ap some is in let history = holds.0 in let w = holds.1 in
      let q : Shown H F = record p { seen = history } in
      let moved = moved_same numbers s.views w.moves w.moved id p q there refl refl refl refl (λ e t. t) in (
        Some q,
        keeps,
        tt,
        (
          history,
          subst (λ (ws : List ℕ). HoldsWith held first numbers
              (record { words = ws; homes = s.homes; views = set s.views id (Some q) }) history)
              (sym (set_found s.words 1 0))
              (idles held first numbers s history w id p there idle history p.met p.moves (prefix_itself history) w.moves moved w.none_holds),
        ),
        λ p' is'. let same : p ≡ p' = same_Some p p' (sym is ∙ is') in
            subst (λ (x : Shown H F). (r : Shown H F) × ◌≡◌ {A = Mine H F} (Some q, me.1) (Some r, me.1)
            × Looked (get_or s.words 1 0) x r) same (
              q,
              refl,
              record {
                shows = refl;
                more = (w.passes.parts id p there).seen;
                count = w.count_word;
                calls = λ n lo hi. sym ((w.passes.parts id p there).calls n lo hi);
              },
            ),
      )

  pub agreeing : (slots id : ℕ) (me : Mine H F)
      → Allows (Holds held first numbers) slots id me 1 (λ n. n)
      (λ found after. (after ≡ me) × ((p : Shown H F) → me.0 ≡ Some p → length p.lesser ≤ length p.seen → IsPrefix p.lesser p.seen))
  agreeing slots id me s holds _ at _ = let history = holds.0 in let w = holds.1 in (
    me.0,
    keeps,
    tt,
    (
      history,
      subst (λ (ws : List ℕ). HoldsWith held first numbers (record {
        words = ws;
        homes = s.homes;
        views = set s.views id me.0;
      }) history) (sym (set_found s.words 1 0))
          (subst (λ (vs : List (Option (Shown H F))). HoldsWith held first numbers
          (record { words = s.words; homes = s.homes; views = vs }) history) (sym (set_again s.views id me.0 at)) w),
    ),
    (
      refl,
      λ p is no_longer. let part = w.passes.parts id p (at
          ∙ ap some is) in comparable p.lesser p.seen history part.lesser part.seen no_longer,
    ),
  )
