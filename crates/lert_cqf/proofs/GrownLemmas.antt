-- The cells as one run grows.
use Rattle.std.proofs.Common.{◌≡◌, ℕ, suc, ◌+◌, ◌-◌, ◌<◌, ◌≤◌, List, [], ◌∷◌, ◌++◌, length, replicate, max, refl, sym, ap, ◌∙◌, arith, length-append, append_assoc}
use Rattle.std.proofs.{lemmas.List.{length-replicate, replicate-append-replicate}, lemmas.List.Edits.{remove-append_right, insert-append_right}}
use Rattle.std.specs.Prelude.{insert, remove}
use Rattle.lert_cqf.specs.{Around.HomesAscend, Rows.filled_gap, Cells.{cells_from, cells, stop, first_free}}
use Rattle.lert_cqf.proofs.CellLemmas.{pushed, first_free-from}

-- a gap behind a front
gap_behind : {C : Type 0} (front u w back : List C) (v : C) (to : ℕ) → length (front ++ (u ++ w)) ≤ to
    → filled_gap (front ++ ((u ++ w) ++ back)) (length front + length u) to v ≡ front ++ ((u ++ v ∷ w) ++ remove back (to - length (front ++ (u ++ w))))
gap_behind front u w back v to low =
    let long = length-append front (u ++ w) in
    let inner = length-append u w in
    let behind = length-append front u in
    let rest = remove back (to - length (front ++ (u ++ w))) in
    let removed : remove (front ++ ((u ++ w) ++ back)) to ≡ (front ++ u) ++ (w ++ rest) =
    ap (λ (t : List _). remove t to) (sym (append_assoc front (u ++ w) back))
    ∙ remove-append_right (front ++ (u ++ w)) back (length (front ++ (u ++ w))) to refl low
    ∙ append_assoc front (u ++ w) rest ∙ ap (λ (t : List _). front ++ t) (append_assoc u w rest) ∙ sym (append_assoc front u (w ++ rest)) in
    ap (λ (t : List _). insert t (length front + length u) v) removed
    ∙ insert-append_right (front ++ u) (w ++ rest) (length front + length u) (length front + length u) v behind (omega arith)
    ∙ ap (λ k. (front ++ u) ++ insert (w ++ rest) k v) (let e : length front + length u - (length front + length u) ≡ 0 = omega arith in e)
    ∙ append_assoc front u (v ∷ (w ++ rest))
    ∙ ap (λ (t : List _). front ++ t) (sym (append_assoc u (v ∷ w) rest))

module _ {C : Type 0} (z : C) where
  -- the cells of runs and the free ones between them
  abbrev pub placed : ℕ → List (ℕ × List C) → List C
  placed at [] = []
  placed at (r ∷ rs) = replicate (r.0 - at) z ++ (r.1 ++ placed (max at r.0 + length r.1) rs)

  pub stop-from : (at : ℕ) (rs : List (ℕ × List C)) → at ≤ stop at rs
  stop-from at [] = omega arith
  stop-from at (r ∷ rs) = let h = stop-from (max at r.0 + length r.1) rs in omega arith

  pub length_placed : (at : ℕ) (rs : List (ℕ × List C)) → length (placed at rs) + at ≡ stop at rs
  length_placed at [] = omega arith
  length_placed at (r ∷ rs) =
      let h = length_placed (max at r.0 + length r.1) rs in
      omega (arith, length-append (replicate (r.0 - at) z) (r.1 ++ placed (max at r.0 + length r.1) rs), length-append r.1 (placed (max at r.0 + length r.1) rs), length-replicate (r.0 - at) z)

  pub cells-append : (n at : ℕ) (before after : List (ℕ × List C)) → cells_from z n at (before ++ after) ≡ placed at before ++ cells_from z n (stop at before) after
  cells-append n at [] after = refl
  cells-append n at (r ∷ before) after =
      ap (λ (t : List C). replicate (r.0 - at) z ++ (r.1 ++ t)) (cells-append n (max at r.0 + length r.1) before after)
      ∙ ap (λ (t : List C). replicate (r.0 - at) z ++ t) (sym (append_assoc r.1 (placed (max at r.0 + length r.1) before) _))
      ∙ sym (append_assoc (replicate (r.0 - at) z) (r.1 ++ placed (max at r.0 + length r.1) before) _)

  -- what stands before a run of quotient q
  abbrev pub front_of : ℕ → List (ℕ × List C) → List C
  front_of q before = placed 0 before ++ replicate (q - stop 0 before) z

  -- where that run begins
  abbrev pub start_of : ℕ → List (ℕ × List C) → ℕ
  start_of q before = max (stop 0 before) q

  pub length_front : (q : ℕ) (before : List (ℕ × List C)) → length (front_of q before) ≡ start_of q before
  length_front q before = omega (arith, length-append (placed 0 before) (replicate (q - stop 0 before) z), length-replicate (q - stop 0 before) z, length_placed 0 before)

  pub cells_at : (n q : ℕ) (t : List C) (before after : List (ℕ × List C))
      → cells z n (before ++ (q, t) ∷ after) ≡ front_of q before ++ (t ++ cells_from z n (start_of q before + length t) after)
  cells_at n q t before after =
      cells-append n 0 before ((q, t) ∷ after) ∙ sym (append_assoc (placed 0 before) (replicate (q - stop 0 before) z) _)

  -- a run grows by one cell
  pub grown_cells : (n q : ℕ) (v : C) (u w : List C) (before after : List (ℕ × List C)) → first_free (start_of q before + length (u ++ w)) after < n
      → cells z n (before ++ (q, u ++ v ∷ w) ∷ after)
      ≡ filled_gap (cells z n (before ++ (q, u ++ w) ∷ after)) (start_of q before + length u) (first_free (start_of q before + length (u ++ w)) after) v
  grown_cells n q v u w before after room =
      let e = start_of q before + length (u ++ w) in
      let front = front_of q before in
      let long = length_front q before in
      let whole = length-append front (u ++ w) in
      let low = first_free-from e after in
      let next : start_of q before + length (u ++ v ∷ w) ≡ suc e = omega (arith, length-append u (v ∷ w), length-append u w) in
      let at : length front + length u ≡ start_of q before + length u = omega arith in
      let place : length (front ++ (u ++ w)) ≡ e = omega arith in
      cells_at n q (u ++ v ∷ w) before after
      ∙ ap (λ k. front ++ ((u ++ v ∷ w) ++ cells_from z n k after)) next
      ∙ ap (λ (t : List C). front ++ ((u ++ v ∷ w) ++ t)) (pushed z n e after room)
      ∙ ap (λ k. front ++ ((u ++ v ∷ w) ++ remove (cells_from z n e after) (first_free e after - k))) (sym place)
      ∙ sym (gap_behind front u w (cells_from z n e after) v (first_free e after) (omega arith))
      ∙ ap (λ k. filled_gap (front ++ ((u ++ w) ++ cells_from z n e after)) k (first_free e after) v) at
      ∙ ap (λ (t : List C). filled_gap t (start_of q before + length u) (first_free e after) v) (sym (cells_at n q (u ++ w) before after))

  -- a run of no cells is no run
  skip_cells : (n at q : ℕ) (after : List (ℕ × List C)) (limit : ℕ) → HomesAscend q limit after → q ≤ n
      → cells_from z n at after ≡ replicate (q - at) z ++ cells_from z n (max at q) after
  skip_cells n at q [] limit h fits =
      ap (λ k. replicate k z) (let e : n - at ≡ (q - at) + (n - max at q) = omega arith in e) ∙ sym (replicate-append-replicate (q - at) (n - max at q) z)
  skip_cells n at q (r ∷ after) limit h fits =
      let low = h.0 in
      let same : max at r.0 ≡ max (max at q) r.0 = omega arith in
      let parts : r.0 - at ≡ (q - at) + (r.0 - max at q) = omega arith in
      ap (λ k. replicate k z ++ (r.1 ++ cells_from z n (max at r.0 + length r.1) after)) parts
      ∙ ap (λ (t : List C). t ++ (r.1 ++ cells_from z n (max at r.0 + length r.1) after)) (sym (replicate-append-replicate (q - at) (r.0 - max at q) z))
      ∙ append_assoc (replicate (q - at) z) (replicate (r.0 - max at q) z) (r.1 ++ cells_from z n (max at r.0 + length r.1) after)
      ∙ ap (λ k. replicate (q - at) z ++ (replicate (r.0 - max at q) z ++ (r.1 ++ cells_from z n (k + length r.1) after))) same

  pub cells_empty : (n q limit : ℕ) (before after : List (ℕ × List C)) → HomesAscend q limit after → q ≤ n
      → cells z n (before ++ (q, []) ∷ after) ≡ cells z n (before ++ after)
  cells_empty n q limit before after h fits =
      let same : start_of q before + 0 ≡ max (stop 0 before) q = omega arith in
      cells-append n 0 before ((q, []) ∷ after)
      ∙ ap (λ k. placed 0 before ++ (replicate (q - stop 0 before) z ++ cells_from z n k after)) same
      ∙ ap (λ (t : List C). placed 0 before ++ t) (sym (skip_cells n (stop 0 before) q after limit h fits))
      ∙ sym (cells-append n 0 before after)
