-- The rows as a run grows.
use Rattle.std.proofs.Common.{◌≡◌, ℕ, suc, zero, ◌+◌, ◌-◌, ◌<◌, ◌≤◌, Bool, true, false, List, [], ◌∷◌, ◌++◌, length, replicate, get_or, set, max, min, refl}
use Rattle.std.proofs.Common.{sym, ap, ◌∙◌, inl, inr, arith, length-append, append_assoc}
use Rattle.std.specs.Prelude.{remove}
use Rattle.std.proofs.lemmas.List.{length-replicate, replicate-append-replicate, map-append, get_or_append_left, get_or-append-add, get_or-replicate, get_or_at, set_at, replicate_more}
use Rattle.std.proofs.lemmas.List.Edits.{remove-append_right}
use Rattle.std.proofs.lemmas.Bool.{cases_lt, false≢true}
use Rattle.lert_slotbits.specs.Bits.{IsFirst, gapped}
use Rattle.lert_cqf.specs.Cells.{cells_from, cells, stop, end_before, first_free}
use Rattle.lert_cqf.specs.Layout.{ends_of}
use Rattle.lert_cqf.specs.Rows.{reshaped, used_text, IsSpread, filled_gap, IsRaised}
use Rattle.lert_cqf.specs.Around.{IsAround}
use Rattle.lert_cqf.proofs.CellLemmas.{pushed, first_free-from, free_there, free_later, apart_cells, stuck_cells}
use Rattle.lert_cqf.proofs.GrownLemmas.{front_of, start_of, length_front, cells_at, grown_cells}
use Rattle.lert_cqf.proofs.SpillLemmas.{spill_within, spill_beyond, below_unmoved}

-- runs of other cells in the same places
module _ {C D : Type 0} (f : ℕ → List D) (same : (k : ℕ) → length (f k) ≡ k) where
  pub stop-reshaped : (at : ℕ) (rs : List (ℕ × List C)) → stop at (reshaped f rs) ≡ stop at rs
  stop-reshaped at [] = refl
  stop-reshaped at (r ∷ rs) = ap (λ k. stop (max at r.0 + k) (reshaped f rs)) (same (length r.1)) ∙ stop-reshaped (max at r.0 + length r.1) rs

  pub free-reshaped : (at : ℕ) (rs : List (ℕ × List C)) → first_free at (reshaped f rs) ≡ first_free at rs
  free-reshaped at [] = refl
  free-reshaped at (r ∷ rs) =
      elim (cases_lt at r.0) [
        | inl apart ↦ free_there at (r.0, f (length r.1)) (reshaped f rs) apart ∙ sym (free_there at r rs apart)
        | inr stuck ↦ free_later at (r.0, f (length r.1)) (reshaped f rs) stuck ∙ ap (λ k. first_free (at + k) (reshaped f rs)) (same (length r.1))
            ∙ free-reshaped (at + length r.1) rs ∙ sym (free_later at r rs stuck)
      ]

  pub reshaped-append : (before : List (ℕ × List C)) (q : ℕ) (t : List C) (after : List (ℕ × List C))
      → reshaped f (before ++ (q, t) ∷ after) ≡ reshaped f before ++ (q, f (length t)) ∷ reshaped f after
  reshaped-append before q t after = map-append (λ (r : ℕ × List C). (r.0, f (length r.1))) before ((q, t) ∷ after)

  pub start-reshaped : (q : ℕ) (before : List (ℕ × List C)) → max (stop 0 (reshaped f before)) q ≡ max (stop 0 before) q
  start-reshaped q before = ap (λ k. max k q) (stop-reshaped 0 before)

pub length_ends_of : (k : ℕ) → length (ends_of k) ≡ k
length_ends_of zero = refl
length_ends_of (suc k) = omega (arith, length-append (replicate k false) (true ∷ []), length-replicate k false)

pub length_used_text : (k : ℕ) → length (used_text k) ≡ k
length_used_text k = length-replicate k true

-- the run ends of a run of one cell more
pub ends_of-more : (k j : ℕ) → j ≤ k → (replicate j false ++ (replicate (k - j) false ++ true ∷ []) ≡ ends_of (suc k))
    × (replicate j false ++ false ∷ (replicate (k - j) false ++ true ∷ []) ≡ ends_of (suc (suc k)))
ends_of-more k j h =
    let whole : j + (k - j) ≡ k = omega arith in
    let one_more : j + suc (k - j) ≡ suc k = omega arith in (
      sym (append_assoc (replicate j false) (replicate (k - j) false) (true ∷ []))
          ∙ ap (λ (t : List Bool). t ++ true ∷ []) (replicate-append-replicate j (k - j) false ∙ ap (λ m. replicate m false) whole),
      sym (append_assoc (replicate j false) (replicate (suc (k - j)) false) (true ∷ []))
          ∙ ap (λ (t : List Bool). t ++ true ∷ []) (replicate-append-replicate j (suc (k - j)) false ∙ ap (λ m. replicate m false) one_more),
    )

-- the used cells from the end of a run on, up to the first free one
used_up : (n at : ℕ) (rs : List (ℕ × List ℕ)) → first_free at rs < n →
    (rest : List Bool) × (cells_from false n at (reshaped used_text rs) ≡ replicate (first_free at rs - at) true ++ false ∷ rest)
used_up n at [] h =
    let none : at - at ≡ 0 = omega arith in
    let one : n - at ≡ suc (n - suc at) = omega arith in (replicate (n - suc at) false, rw (none, one) refl)
used_up n at (r ∷ rs) h =
    elim (cases_lt at r.0) [
      | inl apart ↦ (let none : first_free at (r ∷ rs) - at ≡ 0 = (let f = free_there at r rs apart in omega arith) in
          (cells_from false n (suc at) (reshaped used_text (r ∷ rs)), rw none (apart_cells false n at (r.0, used_text (length r.1)) (reshaped used_text rs) apart)))
      | inr stuck ↦ (let f = free_later at r rs stuck in
          let low = first_free-from (at + length r.1) rs in
          let more = used_up n (at + length r.1) rs (omega arith) in
          let parts : length r.1 + (first_free (at + length r.1) rs - (at + length r.1)) ≡ first_free at (r ∷ rs) - at = omega arith in (
            more.0,
            stuck_cells false n at (r.0, used_text (length r.1)) (reshaped used_text rs) stuck
                ∙ ap (λ k. used_text (length r.1) ++ cells_from false n (at + k) (reshaped used_text rs)) (length_used_text (length r.1))
                ∙ ap (λ (t : List Bool). used_text (length r.1) ++ t) more.1
                ∙ sym (append_assoc (used_text (length r.1)) (replicate (first_free (at + length r.1) rs - (at + length r.1)) true) (false ∷ more.0))
                ∙ ap (λ (t : List Bool). t ++ false ∷ more.0) (replicate-append-replicate (length r.1) (first_free (at + length r.1) rs - (at + length r.1)) true
                ∙ ap (λ m. replicate m true) parts),
          ))
    ]

-- the used cells around one run: all from its start up to the first free cell
module _ (n q : ℕ) (t : List ℕ) (before after : List (ℕ × List ℕ)) (room : first_free (max (stop 0 before) q + length t) after < n) where
  abbrev start : ℕ
  start = max (stop 0 before) q

  abbrev free : ℕ
  free = first_free (max (stop 0 before) q + length t) after

  pub free-from : start + length t ≤ free
  free-from = first_free-from (max (stop 0 before) q + length t) after

  used_around : (front rest : List Bool) × (length front ≡ start) × (cells false n (reshaped used_text (before ++ (q, t) ∷ after)) ≡ front
      ++ (replicate (free - start) true ++ false ∷ rest))
      × (cells_from false n (start + length t) (reshaped used_text after) ≡ replicate (free - (start + length t)) true ++ false ∷ rest)
  used_around =
      let front = front_of false q (reshaped used_text before) in
      let up = used_up n (start + length t) after room in
      let low = free-from in
      let at : start_of false q (reshaped used_text before) ≡ start = start-reshaped used_text length_used_text q before in
      let parts : length t + (free - (start + length t)) ≡ free - start = omega arith in (
        front,
        up.0,
        length_front false q (reshaped used_text before) ∙ at,
        ap (cells false n) (reshaped-append used_text length_used_text before q t after)
            ∙ cells_at false n q (used_text (length t)) (reshaped used_text before) (reshaped used_text after)
            ∙ ap (λ k. front ++ (used_text (length t) ++ cells_from false n k (reshaped used_text after)))
            (let e : start_of false q (reshaped used_text before) + length (used_text (length t)) ≡ start + length t = omega (arith, length_used_text (length t)) in e)
            ∙ ap (λ (s : List Bool). front ++ (used_text (length t) ++ s)) up.1
            ∙ ap (λ (s : List Bool). front ++ s) (sym (append_assoc (used_text (length t)) (replicate (free - (start + length t)) true) (false ∷ up.0)))
            ∙ ap (λ (s : List Bool). front ++ (s ++ false ∷ up.0)) (replicate-append-replicate (length t) (free - (start + length t)) true ∙ ap (λ m. replicate m true) parts),
        up.1,
      )

  -- the scan for a free cell from a place in the run finds it
  pub free_found : (used : List Bool) (place : ℕ) → used ≡ cells false n (reshaped used_text (before ++ (q, t) ∷ after)) → start ≤ place → place ≤ start + length t →
      IsFirst false used place free
  free_found used place is low high =
      let a = used_around in
      let from = free-from in
      let all = is ∙ a.3 in
      let marks = length-replicate (free - start) true in
      let long : length used ≡ start + (free - start) + 1 + length a.1 =
      omega (arith, ap (λ (s : List Bool). length s) all, length-append a.0 (replicate (free - start) true ++ false ∷ a.1), length-append (replicate (free - start) true) (false ∷ a.1), a.2)
      in
      record {
        behind = omega arith;
        within = omega arith;
        found = ap (λ (s : List Bool). get_or s free false) (all ∙ sym (append_assoc a.0 (replicate (free - start) true) (false ∷ a.1)))
            ∙ get_or_at (a.0 ++ replicate (free - start) true) false a.1 false free (omega (arith, length-append a.0 (replicate (free - start) true), a.2));
        others = λ k h less none.
            let inside : k ≡ length a.0 + (k - start) = omega (arith, a.2) in
            let set : get_or used k false ≡ true =
            ap (λ (s : List Bool). get_or s k false) all
            ∙ ap (λ m. get_or (a.0 ++ (replicate (free - start) true ++ false ∷ a.1)) m false) inside
            ∙ get_or-append-add a.0 (replicate (free - start) true ++ false ∷ a.1) (k - start) false
            ∙ get_or_append_left (replicate (free - start) true) (false ∷ a.1) false (k - start) (omega arith)
            ∙ get_or-replicate (free - start) (k - start) true false (omega arith) in
            false≢true (sym none ∙ set);
      }

  -- the used cells once the run has one cell more
  pub used_grown : (used : List Bool) (s : List ℕ) → length s ≡ suc (length t) → used ≡ cells false n (reshaped used_text (before ++ (q, t) ∷ after))
      → set used free true ≡ cells false n (reshaped used_text (before ++ (q, s) ∷ after))
  unfolding used_around
  used_grown used s longer is =
      let a = used_around in
      let from = free-from in
      let front = front_of false q (reshaped used_text before) in
      let at = start-reshaped used_text length_used_text q before in
      let gap = free - (start + length t) in
      let up : first_free (start + length t) (reshaped used_text after) ≡ free = free-reshaped used_text length_used_text (start + length t) after in
      let tail : cells_from false n (start + length s) (reshaped used_text after) ≡ replicate gap true ++ a.1 =
      ap (λ k. cells_from false n k (reshaped used_text after)) (let e : start + length s ≡ suc (start + length t) = omega arith in e)
      ∙ pushed false n (start + length t) (reshaped used_text after) (omega arith)
      ∙ ap (λ (c : List Bool). remove c (first_free (start + length t) (reshaped used_text after) - (start + length t))) a.4
      ∙ ap (λ k. remove (replicate gap true ++ false ∷ a.1) (k - (start + length t))) up
      ∙ remove-append_right (replicate gap true) (false ∷ a.1) gap gap (length-replicate gap true) (omega arith)
      ∙ ap (λ k. replicate gap true ++ remove (false ∷ a.1) k) (let e : gap - gap ≡ 0 = omega arith in e) in
      let new : cells false n (reshaped used_text (before ++ (q, s) ∷ after)) ≡ front ++ (used_text (length s) ++ (replicate gap true ++ a.1)) =
      ap (cells false n) (reshaped-append used_text length_used_text before q s after)
      ∙ cells_at false n q (used_text (length s)) (reshaped used_text before) (reshaped used_text after)
      ∙ ap (λ k. front ++ (used_text (length s) ++ cells_from false n k (reshaped used_text after)))
      (let e : start_of false q (reshaped used_text before) + length (used_text (length s)) ≡ start + length s = omega (arith, length_used_text (length s)) in e)
      ∙ ap (λ (c : List Bool). front ++ (used_text (length s) ++ c)) tail in
      let marks : used_text (length s) ++ (replicate gap true ++ a.1) ≡ replicate (free - start) true ++ true ∷ a.1 =
      sym (append_assoc (used_text (length s)) (replicate gap true) a.1)
      ∙ ap (λ (c : List Bool). c ++ a.1) (replicate-append-replicate (length s) gap true ∙ ap (λ m. replicate m true) (let e : length s + gap ≡ free - start + 1 = omega arith in e)
      ∙ sym (replicate_more (free - start) true))
      ∙ append_assoc (replicate (free - start) true) (true ∷ []) a.1 in
      ap (λ (c : List Bool). set c free true) (is ∙ a.3 ∙ sym (append_assoc front (replicate (free - start) true) (false ∷ a.1)))
      ∙ set_at (front ++ replicate (free - start) true) false a.1 true free (omega (arith, length-append front (replicate (free - start) true), length-replicate (free - start) true, a.2))
      ∙ append_assoc front (replicate (free - start) true) (true ∷ a.1)
      ∙ ap (λ (c : List Bool). front ++ c) (sym marks) ∙ sym new

-- the spills as the run of q has one cell more
pub raised_spill : (n homes q : ℕ) (t s : List ℕ) (before after : List (ℕ × List ℕ)) (spill raised : List ℕ) → length spill ≡ homes + 1
    → ((g : ℕ) → g ≤ homes → get_or spill g 0 ≡ end_before 0 g (before ++ (q, t) ∷ after) - g) → IsAround n homes q before after → length s ≡ suc (length t)
    → IsRaised spill raised (q + 1) (min (first_free (max (stop 0 before) q + length t) after) homes)
    → (g : ℕ) → g ≤ homes → get_or raised g 0 ≡ end_before 0 g (before ++ (q, s) ∷ after) - g
raised_spill n homes q t s before after spill raised spill_long was around longer r g within =
    let old = was g within in
    elim (cases_lt q g) [
      | inr low ↦ r.below g (omega arith) ∙ old ∙ ap (λ e. e - g) (below_unmoved 0 g q t s before after low)
      | inl behind ↦ elim (cases_lt (first_free (max (stop 0 before) q + length t) after) g) [
        | inl beyond ↦ r.above g (omega arith) ∙ old ∙ sym (spill_beyond q t s before after around.below longer g behind beyond)
        | inr reached ↦ r.inside g (omega arith) (omega arith) (omega arith) ∙ ap (λ e. e + 1) old ∙ sym (spill_within q t s before after around.below longer g behind reached)
      ]
    ]

-- the ends of a run that has one cell more: a mark moves on, or comes in
module _ (n q : ℕ) (u w : List ℕ) (v : ℕ) (before after : List (ℕ × List ℕ)) (room : first_free (max (stop 0 before) q + length (u ++ w)) after < n) where
  abbrev home : ℕ
  home = max (stop 0 before) q

  abbrev place : ℕ
  place = first_free (max (stop 0 before) q + length (u ++ w)) after

  -- where a mark of `ends_of` comes in
  ends_gap : (k j : ℕ) (ends : List Bool) → length (u ++ w) ≡ suc k → j ≤ k → ends ≡ cells false n (reshaped ends_of (before ++ (q, u ++ w) ∷ after))
      → gapped ends (home + j) place ≡ cells false n (reshaped ends_of (before ++ (q, u ++ v ∷ w) ∷ after))
  ends_gap k j ends long h is =
      let e = ends_of-more k j h in
      let at = start-reshaped ends_of length_ends_of q before in
      let front_long = length-replicate j false in
      let old : ends_of (length (u ++ w)) ≡ replicate j false ++ (replicate (k - j) false ++ true ∷ []) = ap ends_of long ∙ sym e.0 in
      let longer : length (u ++ v ∷ w) ≡ suc (suc k) = omega (arith, length-append u (v ∷ w), length-append u w) in
      let new : ends_of (length (u ++ v ∷ w)) ≡ replicate j false ++ false ∷ (replicate (k - j) false ++ true ∷ []) = ap ends_of longer ∙ sym e.1 in
      let marks = replicate j false ++ (replicate (k - j) false ++ true ∷ []) in
      let marks_long : length marks ≡ length (u ++ w) = ap (λ (s : List Bool). length s) (sym old) ∙ length_ends_of (length (u ++ w)) in
      let start_same : start_of false q (reshaped ends_of before) + length marks ≡ home + length (u ++ w) = omega arith in
      let free_same : first_free (start_of false q (reshaped ends_of before) + length marks) (reshaped ends_of after) ≡ place =
      ap (λ m. first_free m (reshaped ends_of after)) start_same ∙ free-reshaped ends_of length_ends_of (home + length (u ++ w)) after in
      let grown = grown_cells false n q false (replicate j false) (replicate (k - j) false ++ true ∷ []) (reshaped ends_of before) (reshaped ends_of after) (omega arith) in
      ap (λ (s : List Bool). gapped s (home + j) place) (is ∙ ap (cells false n) (reshaped-append ends_of length_ends_of before q (u ++ w) after)
      ∙ ap (λ (s : List Bool). cells false n (reshaped ends_of before ++ (q, s) ∷ reshaped ends_of after)) old)
      ∙ ap (λ m. gapped (cells false n (reshaped ends_of before ++ (q, marks) ∷ reshaped ends_of after)) m place)
      (let e : home + j ≡ start_of false q (reshaped ends_of before) + length (replicate j false) = omega arith in e)
      ∙ ap (λ m. gapped (cells false n (reshaped ends_of before ++ (q, marks) ∷ reshaped ends_of after)) (start_of false q (reshaped ends_of before) + length (replicate j false)) m)
      (sym free_same)
      ∙ sym grown
      ∙ ap (λ (s : List Bool). cells false n (reshaped ends_of before ++ (q, s) ∷ reshaped ends_of after)) (sym new)
      ∙ sym (ap (cells false n) (reshaped-append ends_of length_ends_of before q (u ++ v ∷ w) after))

  -- a run that has a cell gets one more
  pub spread_grown : (homes k j : ℕ) (slots : List ℕ) (ends used : List Bool) (spill raised : List ℕ) → IsSpread n homes (before ++ (q, u ++ w) ∷ after) slots ends used spill
      → IsAround n homes q before after → length (u ++ w) ≡ suc k → j ≤ k → IsRaised spill raised (q + 1) (min place homes)
      → IsSpread n homes (before ++ (q, u ++ v ∷ w) ∷ after) (filled_gap slots (home + length u) place v) (gapped ends (home + j) place) (set used place true) raised
  spread_grown homes k j slots ends used spill raised s around long h r =
      let longer : length (u ++ v ∷ w) ≡ suc (length (u ++ w)) = omega (arith, length-append u (v ∷ w), length-append u w) in
      record {
        slots_are = ap (λ (c : List ℕ). filled_gap c (home + length u) place v) s.slots_are ∙ sym (grown_cells 0 n q v u w before after room);
        ends_are = ends_gap k j ends long h s.ends_are;
        used_are = used_grown n q (u ++ w) before after room used (u ++ v ∷ w) longer s.used_are;
        spill_long = r.long ∙ s.spill_long;
        spill_is = raised_spill n homes q (u ++ w) (u ++ v ∷ w) before after spill raised s.spill_long s.spill_is around longer r;
      }
