-- Where a walk to a remainder may begin: at the run's begin, and behind each remainder up to it where no group is cut.
use Rattle.std.proofs.Common.{◌≡◌, ℕ, ◌+◌, ◌<◌, ◌≤◌, List, [], ◌∷◌, ◌++◌, length, get_or, refl, sym, ap, ◌∙◌, subst, arith, length-append, append_assoc}
use Rattle.std.proofs.lemmas.List.{append-nil}
use Rattle.lert_runs.specs.{RunText.{run_text, RemaindersAscend, RemaindersBelow, IsTextOf, count_in, pairs_below}, Begins.IsUncut, Halves.IsBefore}
use Rattle.lert_runs.proofs.{RunLemmas.{run_text-append, count_in-later, pairs_below-more}, WalkLemmas.{Looks, ascend_behind}, CutLemmas.uncut_cuts}

-- the run's begin
pub before_all : (width x : ℕ) (ps : List (ℕ × ℕ)) → IsBefore width x ps 0
before_all width x ps = record { below = []; rest = ps; split = refl; place_is = refl; less = tt }

-- remainders that ascend to one are below it
below_of : (least x : ℕ) (done : List (ℕ × ℕ)) (p : ℕ × ℕ) (rest : List (ℕ × ℕ)) → RemaindersAscend least (done ++ p ∷ rest) → p.0 ≤ x → RemaindersBelow x done
below_of least x [] p rest h le = tt
below_of least x (d ∷ done) p rest h le = (omega (arith, least_of (d.0 + 1) done p rest h.2), below_of (d.0 + 1) x done p rest h.2 le)
  where
    least_of : (least : ℕ) (done : List (ℕ × ℕ)) (p : ℕ × ℕ) (rest : List (ℕ × ℕ)) → RemaindersAscend least (done ++ p ∷ rest) → least ≤ p.0
    least_of least [] p rest h = h.0
    least_of least (d ∷ done) p rest h = let first = h.0 in let more = least_of (d.0 + 1) done p rest h.2 in omega arith

below_cut : (least x : ℕ) (ps done : List (ℕ × ℕ)) (p : ℕ × ℕ) (rest : List (ℕ × ℕ)) → ps ≡ done ++ p ∷ rest → RemaindersAscend least ps → p.0 ≤ x
    → RemaindersBelow x done
below_cut least x ps done p rest split ascend le = below_of least x done p rest (subst (λ (t : List (ℕ × ℕ)). RemaindersAscend least t) split ascend) le

below_append : (x : ℕ) (ps qs : List (ℕ × ℕ)) → RemaindersBelow x ps → RemaindersBelow x qs → RemaindersBelow x (ps ++ qs)
below_append x [] qs h k = k
below_append x (p ∷ ps) qs h k = (h.0, below_append x ps qs h.1 k)

-- the remainders behind the place ascend
ascend_rest : (ps below rest : List (ℕ × ℕ)) → ps ≡ below ++ rest → RemaindersAscend 0 ps → (least : ℕ) × RemaindersAscend least rest
ascend_rest ps below rest split ascend = ascend_behind 0 below rest (subst (λ (t : List (ℕ × ℕ)). RemaindersAscend 0 t) split ascend)

-- the text of both parts
text_of_parts : (width x place : ℕ) (run : List ℕ) (ps : List (ℕ × ℕ)) → IsTextOf width run ps → (b : IsBefore width x ps place)
    → run ≡ run_text width b.below ++ run_text width b.rest
text_of_parts width x place run ps text b = text.text ∙ ap (run_text width) b.split ∙ run_text-append width b.below b.rest

-- behind a place where no group is cut, if the slot there is at most x
pub before_on : (width x at : ℕ) (run : List ℕ) (ps : List (ℕ × ℕ)) (place : ℕ) → IsTextOf width run ps → IsBefore width x ps place
    → IsUncut width run at → place ≤ at → at < length run → get_or run at 0 ≤ x → IsBefore width x ps at
before_on width x at run ps place text b uncut behind within le =
    let texts = text_of_parts width x place run ps text b in
    let ascends = ascend_rest ps b.below b.rest b.split text.ascend in
    let cut = uncut_cuts width at ascends.0 run (run_text width b.below) b.rest [] ascends.1
    (texts ∙ ap (λ (t : List ℕ). run_text width b.below ++ t) (sym (append-nil (run_text width b.rest)))) uncut (omega (arith, b.place_is))
    (omega (arith, ap (λ (t : List ℕ). length t) texts, length-append (run_text width b.below) (run_text width b.rest))) in
    record {
      below = b.below ++ cut.done;
      rest = cut.pair ∷ cut.rest;
      split = b.split ∙ ap (λ (t : List (ℕ × ℕ)). b.below ++ t) cut.split ∙ sym (append_assoc b.below cut.done (cut.pair ∷ cut.rest));
      place_is = cut.place ∙ sym (ap (λ (t : List ℕ). length t) (run_text-append width b.below cut.done) ∙ length-append (run_text width b.below) (run_text width cut.done));
      less = below_append x b.below cut.done b.less (below_cut ascends.0 x b.rest cut.done cut.pair cut.rest cut.split ascends.1 (omega (arith, cut.slot)));
    }

-- what stands before is below x
count_behind_below : (x : ℕ) (below ps : List (ℕ × ℕ)) → RemaindersBelow x below → count_in (below ++ ps) x ≡ count_in ps x
count_behind_below x [] ps h = refl
count_behind_below x (p ∷ below) ps h = count_in-later p (below ++ ps) x (λ same. let less = h.0 in omega arith) ∙ count_behind_below x below ps h.1

pairs_behind_below : (x : ℕ) (below ps : List (ℕ × ℕ)) → RemaindersBelow x below → pairs_below (below ++ ps) x ≡ below ++ pairs_below ps x
pairs_behind_below x [] ps h = refl
pairs_behind_below x (p ∷ below) ps h = pairs_below-more p (below ++ ps) x h.0 ∙ ap (λ (t : List (ℕ × ℕ)). p ∷ t) (pairs_behind_below x below ps h.1)

-- so a walk from there has met only remainders below x
pub looks_before : (width x place : ℕ) (run : List ℕ) (ps : List (ℕ × ℕ)) → IsTextOf width run ps → IsBefore width x ps place → Looks width x place run ps
looks_before width x place run ps text b =
    let ascends = ascend_rest ps b.below b.rest b.split text.ascend in
    record {
      stands = record {
        done = b.below;
        rest = b.rest;
        split = b.split;
        text = text_of_parts width x place run ps text b;
        place = b.place_is;
        least = ascends.0;
        ascend = ascends.1;
      };
      below = ap (λ (t : List (ℕ × ℕ)). pairs_below t x) b.split ∙ pairs_behind_below x b.below b.rest b.less;
      count = ap (λ (t : List (ℕ × ℕ)). count_in t x) b.split ∙ count_behind_below x b.below b.rest b.less;
    }
