-- What all passes together show: whether the state is stopped, and which packets were refused.
use Rattle.std.proofs.Common.{◌≡◌, ℕ, zero, suc, ◌<◌, ◌≤◌, Bool, true, false, ◌&&◌, ◌||◌, ltb, leb, List, [], ◌∷◌, ◌++◌, map, filter, Option, Some, None, sym, refl, ap, ◌∙◌, subst, ⊎_elim}
use Rattle.std.proofs.{lemmas.Option.{same_Some, none-some}, lemmas.Bool.{or_cases, or_left, or_right, and_parts, and_from, false≢true, ltb-true, leb-true, lt-ltb, le-leb}}
use Rattle.std.proofs.lemmas.List.Elements.{Contains-append_left, Contains-append_right, Contains-append_cases}
use Rattle.std.specs.Prelude.{Contains}
use mathlib.Core.Option.{some-injective, some-ne-none}
use Rattle.lert_base.specs.Packet.{Packet}
use Rattle.lert_conelock.specs.{Shown.Shown, Rule.{Views, Has, IsStopped, IsRefused}}
use Rattle.lert_conelock.proofs.Contained.{no_item, Contains-map, Contains-map_back, Contains-filter, Contains-filter_back}

module _ {H F : Type 0} where
  abbrev pub any_stopped : Views H F → Bool
  any_stopped [] = false
  any_stopped (None ∷ views) = any_stopped views
  any_stopped (Some p ∷ views) = p.stopped || any_stopped views

  later_stop : (v : Option (Shown H F)) (views : Views H F) → IsStopped views → IsStopped (v ∷ views)
  later_stop v views s = record { seat = suc s.seat; pass = s.pass; there = s.there; stopped = s.stopped }

  pub stop_shown : (views : Views H F) → any_stopped views ≡ true → IsStopped views
  stop_shown [] e = absurd (false≢true e)
  stop_shown (None ∷ views) e = later_stop None views (stop_shown views e)
  stop_shown (Some p ∷ views) e = ⊎_elim
      (λ (now : p.stopped ≡ true). record { seat = zero; pass = p; there = refl; stopped = now })
      (λ later. later_stop (Some p) views (stop_shown views later)) (or_cases p.stopped (any_stopped views) e)

  stop_at : (views : Views H F) (seat : ℕ) (p : Shown H F) → Has views seat p → p.stopped ≡ true → any_stopped views ≡ true
  stop_at [] seat p there e = absurd (some-ne-none (Some p) (sym there))
  stop_at (None ∷ views) zero p there e = absurd (none-some p (some-injective None (Some p) there))
  stop_at (Some r ∷ views) zero p there e = let same : r ≡ p = same_Some r p (some-injective (Some r) (Some p) there) in
      or_left r.stopped (any_stopped views) (ap (λ (x : Shown H F). x.stopped) same ∙ e)
  stop_at (None ∷ views) (suc seat) p there e = stop_at views seat p there e
  stop_at (Some r ∷ views) (suc seat) p there e = or_right r.stopped (any_stopped views) (stop_at views seat p there e)

  pub stop_counts : (views : Views H F) → IsStopped views → any_stopped views ≡ true
  stop_counts views s = stop_at views s.seat s.pass s.there s.stopped

  abbrev pub is_own : Shown H F → Packet × F → Bool
  is_own p r = leb p.lo r.0.by && ltb r.0.by p.hi

  abbrev pub refused_of : Shown H F → List Packet
  refused_of p = map (λ r. r.0) (filter (is_own p) p.refused)

  abbrev pub all_refused : Views H F → List Packet
  all_refused [] = []
  all_refused (None ∷ views) = all_refused views
  all_refused (Some p ∷ views) = refused_of p ++ all_refused views

  later_refusal : (v : Option (Shown H F)) (views : Views H F) (e : Packet) → IsRefused views e → IsRefused (v ∷ views) e
  later_refusal v views e r = record {
    seat = suc r.seat;
    pass = r.pass;
    there = r.there;
    low = r.low;
    high = r.high;
    refusal = r.refusal;
    shown = r.shown;
  }

  here_refusal : (p : Shown H F) (views : Views H F) (e : Packet) → Contains (refused_of p) e → IsRefused (Some p ∷ views) e
  here_refusal p views e c =
      let back = Contains-map_back (λ (r : Packet × F). r.0) (filter (is_own p) p.refused) e c in
      let kept = Contains-filter_back (is_own p) p.refused back.0 back.1 in
      let own = and_parts (leb p.lo back.0.0.by) (ltb back.0.0.by p.hi) kept.1 in
      subst (IsRefused (Some p ∷ views)) back.2
      (record {
        seat = zero;
        pass = p;
        there = refl;
        low = leb-true p.lo back.0.0.by own.0;
        high = ltb-true back.0.0.by p.hi own.1;
        refusal = back.0.1;
        shown = kept.0;
      })

  pub refusal_shown : (views : Views H F) (e : Packet) → Contains (all_refused views) e → IsRefused views e
  refusal_shown [] e c = absurd (no_item e c)
  refusal_shown (None ∷ views) e c = later_refusal None views e (refusal_shown views e c)
  refusal_shown (Some p ∷ views) e c = ⊎_elim (here_refusal p views e)
      (λ later. later_refusal (Some p) views e (refusal_shown views e later))
      (Contains-append_cases (refused_of p) (all_refused views) e c)

  refusal_at : (views : Views H F) (e : Packet) (seat : ℕ) (p : Shown H F) (f : F) → Has views seat p → p.lo ≤ e.by
      → e.by < p.hi → Contains p.refused (e, f) → Contains (all_refused views) e
  refusal_at [] e seat p f there lo hi c = absurd (some-ne-none (Some p) (sym there))
  refusal_at (None ∷ views) e zero p f there lo hi c = absurd (none-some p (some-injective None (Some p) there))
  refusal_at (Some r ∷ views) e zero p f there lo hi c = let same : r ≡ p = same_Some r p
      (some-injective (Some r) (Some p) there) in
      subst (λ (x : Shown H F). Contains (refused_of x ++ all_refused views) e) (sym same)
      (Contains-append_left (refused_of p) (all_refused views) e
      (Contains-map (λ (x : Packet × F). x.0) (filter (is_own p) p.refused) (e, f)
      (Contains-filter (is_own p) p.refused (e, f) c (and_from (leb p.lo e.by) (ltb e.by p.hi) (le-leb p.lo e.by lo)
      (lt-ltb e.by p.hi hi)))))
  refusal_at (None ∷ views) e (suc seat) p f there lo hi c = refusal_at views e seat p f there lo hi c
  refusal_at (Some r ∷ views) e (suc seat) p f there lo hi c = Contains-append_right (refused_of r)
      (all_refused views) e (refusal_at views e seat p f there lo hi c)

  pub refusal_counts : (views : Views H F) (e : Packet) → IsRefused views e → Contains (all_refused views) e
  refusal_counts views e r = refusal_at views e r.seat r.pass r.refusal r.there r.low r.high r.shown
