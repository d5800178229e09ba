-- Pairs part where no group is cut.
use Rattle.std.proofs.Common.{◌≡◌, ℕ, ◌+◌, ◌<◌, ◌≤◌, List, [], ◌∷◌, ◌++◌, length, get_or, refl, sym, ap, ◌∙◌, inl, inr, arith, length-append, append_assoc}
use Rattle.std.proofs.{lemmas.List.get_or-append-add}
use Rattle.lert_counter.specs.Group.{group}
use Rattle.lert_counter.proofs.GroupLemmas.{group-first}
use Rattle.lert_runs.specs.{RunText.{run_text, RemaindersAscend}, Begins.IsUncut}

-- pairs part where a slot stands that begins a group
pub record Cut (width at front : ℕ) (run : List ℕ) (ps : List (ℕ × ℕ)) : Type 0 where
  pub done : List (ℕ × ℕ)
  pub pair : ℕ × ℕ
  pub rest : List (ℕ × ℕ)
  pub split : ps ≡ done ++ pair ∷ rest
  pub place : at ≡ front + length (run_text width done)
  pub slot : get_or run at 0 ≡ pair.0

-- in front of the first pair
cut_first : (width at : ℕ) (run front : List ℕ) (p : ℕ × ℕ) (ps : List (ℕ × ℕ)) (back : List ℕ) → 1 ≤ p.1
    → run ≡ front ++ (group width p.0 p.1 ++ back) → at ≡ length front → Cut width at (length front) run (p ∷ ps)
cut_first width at run front p ps back positive text here =
    let place : at ≡ length front + 0 = omega arith in
    record {
      done = [];
      pair = p;
      rest = ps;
      split = refl;
      place = place;
      slot = ap (λ i. get_or run i 0) place ∙ ap (λ (t : List ℕ). get_or t (length front + 0) 0) text
          ∙ get_or-append-add front (group width p.0 p.1 ++ back) 0 0 ∙ group-first width p.0 p.1 back positive;
    }

-- behind the first pair
cut_later : (width at : ℕ) (run front : List ℕ) (p : ℕ × ℕ) (ps : List (ℕ × ℕ)) → Cut width at (length (front ++ group width p.0 p.1)) run ps
    → Cut width at (length front) run (p ∷ ps)
cut_later width at run front p ps cut = record {
  done = p ∷ cut.done;
  pair = cut.pair;
  rest = cut.rest;
  split = ap (λ (t : List (ℕ × ℕ)). p ∷ t) cut.split;
  place = omega (arith, cut.place, length-append front (group width p.0 p.1), length-append (group width p.0 p.1) (run_text width cut.done));
  slot = cut.slot;
}

-- a place in a run text that cuts no group
pub uncut_cuts : (width at least : ℕ) (run front : List ℕ) (ps : List (ℕ × ℕ)) (back : List ℕ) → RemaindersAscend least ps
    → run ≡ front ++ (run_text width ps ++ back) → IsUncut width run at → length front ≤ at → at < length front + length (run_text width ps)
    → Cut width at (length front) run ps
uncut_cuts width at least run front [] back ascend text uncut behind within = absurd (omega arith)
uncut_cuts width at least run front (p ∷ ps) back ascend text uncut behind within =
    let texts : run ≡ front ++ (group width p.0 p.1 ++ (run_text width ps ++ back)) =
    text ∙ ap (λ (t : List ℕ). front ++ t) (append_assoc (group width p.0 p.1) (run_text width ps) back) in
    let long = length-append front (group width p.0 p.1) in
    let more = length-append (group width p.0 p.1) (run_text width ps) in
    elim (uncut front p.0 p.1 (run_text width ps ++ back) ascend.1 texts) [
      | inl here ↦ cut_first width at run front p ps (run_text width ps ++ back) (ascend.1).0 texts (omega arith)
      | inr past ↦ cut_later width at run front p ps
          (uncut_cuts width at (p.0 + 1) run (front ++ group width p.0 p.1) ps back ascend.2
          (texts ∙ sym (append_assoc front (group width p.0 p.1) (run_text width ps ++ back))) uncut (omega arith) (omega arith))
    ]
