-- The run of a quotient among the others, and the occupied row.
use Rattle.std.proofs.Common.{◌≡◌, ℕ, suc, ◌+◌, ◌-◌, ◌<◌, ◌≤◌, Bool, true, false, List, [], ◌∷◌, ◌++◌, length, replicate, get_or, set, refl, sym, ap, ◌∙◌}
use Rattle.std.proofs.Common.{subst, inl, inr, ◌⊎◌, arith, length-append, append_assoc}
use Rattle.std.proofs.lemmas.Bool.{cases_order}
use Rattle.std.proofs.lemmas.List.{map-append, length-replicate, get_or_append_left, get_or-append_right, get_or_at, set_at, get_or-replicate, replicate-append-replicate, set-append_right}
use Rattle.lert_runs.specs.RunText.{run_text, RemaindersAscend, count_in, pairs_plus}
use Rattle.lert_cqf.specs.Layout.{texts, homes_from}
use Rattle.lert_cqf.specs.Around.{HomesAscend, HomesBelow, IsAround}
use Rattle.lert_cqf.proofs.QuotientLemmas.{Runs, RunsAscend, runs_plus, plus-later, plus-same, plus-before, count_runs, count-same, count-other}

-- the runs ascend in their homes
pub runs_homes : (homes q x : ℕ) (rs : Runs) → RunsAscend homes q x rs → HomesAscend q homes rs
runs_homes homes q x [] h = tt
runs_homes homes q x (r ∷ rs) h =
    (elim (h.0) [ inl a ↦ omega (arith, a.0) | inr a ↦ omega (arith, a.0) ], h.1, runs_homes homes (r.0 + 1) 0 rs h.3)

-- a quotient has a run
pub record Holds (homes q : ℕ) (rs : Runs) : Type 0 where
  pub before : Runs
  pub pairs : List (ℕ × ℕ)
  pub after : Runs
  pub split : rs ≡ before ++ (q, pairs) ∷ after
  pub below : HomesBelow q before
  pub above : HomesAscend (q + 1) homes after
  pub within : q < homes
  pub ascend : RemaindersAscend 0 pairs
  pub some : 0 < length pairs
  pub plus : (x n : ℕ) → runs_plus rs q x n ≡ before ++ (q, pairs_plus pairs x n) ∷ after
  pub count : (x : ℕ) → count_runs rs q x ≡ count_in pairs x

-- or it has none
pub record Lacks (homes q : ℕ) (rs : Runs) : Type 0 where
  pub before : Runs
  pub after : Runs
  pub split : rs ≡ before ++ after
  pub below : HomesBelow q before
  pub above : HomesAscend (q + 1) homes after
  pub plus : (x n : ℕ) → runs_plus rs q x n ≡ before ++ (q, (x, n) ∷ []) ∷ after
  pub count : (x : ℕ) → count_runs rs q x ≡ 0

from_zero : (x : ℕ) (ps : List (ℕ × ℕ)) → RemaindersAscend x ps → RemaindersAscend 0 ps
from_zero x [] h = tt
from_zero x (p ∷ ps) h = (omega arith, h.1, h.2)

holds_later : (homes q : ℕ) (r : ℕ × List (ℕ × ℕ)) (rs : Runs) → r.0 < q → Holds homes q rs → Holds homes q (r ∷ rs)
holds_later homes q r rs less h = record {
  before = r ∷ h.before;
  pairs = h.pairs;
  after = h.after;
  split = ap (λ (t : Runs). r ∷ t) h.split;
  below = (less, h.below);
  above = h.above;
  within = h.within;
  ascend = h.ascend;
  some = h.some;
  plus = λ x n. plus-later r rs q x n less ∙ ap (λ (t : Runs). r ∷ t) (h.plus x n);
  count = λ x. count-other r rs q x (omega arith) ∙ h.count x;
}

lacks_later : (homes q : ℕ) (r : ℕ × List (ℕ × ℕ)) (rs : Runs) → r.0 < q → Lacks homes q rs → Lacks homes q (r ∷ rs)
lacks_later homes q r rs less h = record {
  before = r ∷ h.before;
  after = h.after;
  split = ap (λ (t : Runs). r ∷ t) h.split;
  below = (less, h.below);
  above = h.above;
  plus = λ x n. plus-later r rs q x n less ∙ ap (λ (t : Runs). r ∷ t) (h.plus x n);
  count = λ x. count-other r rs q x (omega arith) ∙ h.count x;
}

holds_here : (homes q : ℕ) (r : ℕ × List (ℕ × ℕ)) (rs : Runs) → r.0 ≡ q → r.0 < homes → RemaindersAscend 0 r.1 → 0 < length r.1 → HomesAscend (r.0 + 1) homes rs →
    Holds homes q (r ∷ rs)
holds_here homes q r rs same within ascend some above = record {
  before = [];
  pairs = r.1;
  after = rs;
  split = ap (λ k. (k, r.1) ∷ rs) same;
  below = tt;
  above = subst (λ k. HomesAscend (k + 1) homes rs) same above;
  within = omega arith;
  ascend = ascend;
  some = some;
  plus = λ x n. plus-same r rs q x n same;
  count = λ x. count-same r rs q x same;
}

pub find_quotient : (homes y x q : ℕ) (rs : Runs) → RunsAscend homes y x rs → Holds homes q rs ⊎ Lacks homes q rs
find_quotient homes y x q [] h = inr (record { before = []; after = []; split = refl; below = tt; above = tt; plus = λ x n. refl; count = λ x. refl })
find_quotient homes y x q (r ∷ rs) h =
    elim (cases_order r.0 q) [
      | inl same ↦ inl (holds_here homes q r rs same h.1 (elim (h.0) [ inl a ↦ a.1 | inr a ↦ from_zero x r.1 a.1 ]) h.2 (runs_homes homes (r.0 + 1) 0 rs h.3))
      | inr (inl less) ↦ elim (find_quotient homes (r.0 + 1) 0 q rs h.3) [ inl f ↦ inl (holds_later homes q r rs less f) | inr f ↦ inr (lacks_later homes q r rs less f) ]
      | inr (inr more) ↦ inr (record {
        before = [];
        after = r ∷ rs;
        split = refl;
        below = tt;
        above = (omega arith, h.1, runs_homes homes (r.0 + 1) 0 rs h.3);
        plus = λ x n. plus-before r rs q x n more;
        count = λ x. count-other r rs q x (omega arith) ∙ behind homes q r.0 x rs more h.3;
      })
    ]
  where
    behind : (homes q r x : ℕ) (rs : Runs) → q < r → RunsAscend homes (r + 1) 0 rs → count_runs rs q x ≡ 0
    behind homes q r x [] more h = refl
    behind homes q r x (s ∷ rs) more h =
        let above : q < s.0 = elim (h.0) [ inl a ↦ omega (arith, a.0) | inr a ↦ omega (arith, a.0) ] in
        count-other s rs q x (omega arith) ∙ behind homes q s.0 x rs above h.3

-- the texts around
pub texts-split : (width q : ℕ) (before : Runs) (ps : List (ℕ × ℕ)) (after : Runs) → texts width (before ++ (q, ps) ∷ after) ≡ texts width before ++ (q, run_text width ps)
    ∷ texts width after
texts-split width q before ps after = map-append (λ (r : ℕ × List (ℕ × ℕ)). (r.0, run_text width r.1)) before ((q, ps) ∷ after)

pub texts-append : (width : ℕ) (before after : Runs) → texts width (before ++ after) ≡ texts width before ++ texts width after
texts-append width before after = map-append (λ (r : ℕ × List (ℕ × ℕ)). (r.0, run_text width r.1)) before after

texts_below : (width q : ℕ) (rs : Runs) → HomesBelow q rs → HomesBelow q (texts width rs)
texts_below width q [] h = tt
texts_below width q (r ∷ rs) h = (h.0, texts_below width q rs h.1)

pub texts_above : (width q limit : ℕ) (rs : Runs) → HomesAscend q limit rs → HomesAscend q limit (texts width rs)
texts_above width q limit [] h = tt
texts_above width q limit (r ∷ rs) h = (h.0, h.1, texts_above width (r.0 + 1) limit rs h.2)

pub around_texts : (width n homes q : ℕ) (before after : Runs) → HomesBelow q before → HomesAscend (q + 1) homes after → q < homes → homes ≤ n →
    IsAround n homes q (texts width before) (texts width after)
around_texts width n homes q before after below above within fits = record {
  below = texts_below width q before below;
  above = texts_above width (q + 1) homes after above;
  within = within;
  fits = fits;
}

-- the occupied row
pub length_homes : (n at : ℕ) (rs : Runs) → HomesAscend at n rs → length (homes_from n at rs) ≡ n - at
length_homes n at [] h = length-replicate (n - at) false
length_homes n at (r ∷ rs) h =
    let more = length_homes n (r.0 + 1) rs h.2 in
    omega (arith, length-append (replicate (r.0 - at) false) (true ∷ homes_from n (r.0 + 1) rs), length-replicate (r.0 - at) false, h.0, h.1)

-- a home behind the first run
behind_home : (n at q : ℕ) (r : ℕ × List (ℕ × ℕ)) (rs : Runs) → at ≤ r.0 → r.0 < q →
    get_or (homes_from n at (r ∷ rs)) (q - at) false ≡ get_or (homes_from n (r.0 + 1) rs) (q - (r.0 + 1)) false
behind_home n at q r rs low less =
    let place : q - at - (r.0 - at) ≡ suc (q - (r.0 + 1)) = omega arith in
    get_or-append_right (replicate (r.0 - at) false) (true ∷ homes_from n (r.0 + 1) rs) (r.0 - at) (q - at) false (length-replicate (r.0 - at) false) (omega arith)
    ∙ ap (λ k. get_or (true ∷ homes_from n (r.0 + 1) rs) k false) place

pub home_holds : (n at q : ℕ) (before : Runs) (ps : List (ℕ × ℕ)) (after : Runs) → at ≤ q → HomesAscend at n (before ++ (q, ps) ∷ after) → HomesBelow q before
    → get_or (homes_from n at (before ++ (q, ps) ∷ after)) (q - at) false ≡ true
home_holds n at q [] ps after low h below = get_or_at (replicate (q - at) false) true (homes_from n (q + 1) after) false (q - at) (length-replicate (q - at) false)
home_holds n at q (r ∷ before) ps after low h below =
    behind_home n at q r (before ++ (q, ps) ∷ after) h.0 below.0 ∙ home_holds n (r.0 + 1) q before ps after (omega (arith, below.0)) h.2 below.1

-- a home before the first run, or behind all
before_home : (n at q : ℕ) (after : Runs) → at ≤ q → q < n → HomesAscend (q + 1) n after → get_or (homes_from n at after) (q - at) false ≡ false
before_home n at q [] low within h = get_or-replicate (n - at) (q - at) false false (omega arith)
before_home n at q (r ∷ after) low within h =
    get_or_append_left (replicate (r.0 - at) false) (true ∷ homes_from n (r.0 + 1) after) false (q - at) (let long = length-replicate (r.0 - at) false in omega (arith, h.0))
    ∙ get_or-replicate (r.0 - at) (q - at) false false (omega (arith, h.0))

pub home_lacks : (n at q : ℕ) (before after : Runs) → at ≤ q → q < n → HomesAscend at n (before ++ after) → HomesBelow q before → HomesAscend (q + 1) n after
    → get_or (homes_from n at (before ++ after)) (q - at) false ≡ false
home_lacks n at q [] after low within h below above = before_home n at q after low within above
home_lacks n at q (r ∷ before) after low within h below above =
    behind_home n at q r (before ++ after) h.0 below.0 ∙ home_lacks n (r.0 + 1) q before after (omega (arith, below.0)) within h.2 below.1 above

-- a home that is set
new_home : (n at q : ℕ) (ps : List (ℕ × ℕ)) (after : Runs) → at ≤ q → q < n → HomesAscend (q + 1) n after →
    set (homes_from n at after) (q - at) true ≡ homes_from n at ((q, ps) ∷ after)
new_home n at q ps [] low within h =
    let parts : n - at ≡ (q - at) + suc (n - (q + 1)) = omega arith in
    ap (λ k. set (replicate k false) (q - at) true) parts
    ∙ ap (λ (t : List Bool). set t (q - at) true) (sym (replicate-append-replicate (q - at) (suc (n - (q + 1))) false))
    ∙ set_at (replicate (q - at) false) false (replicate (n - (q + 1)) false) true (q - at) (length-replicate (q - at) false)
new_home n at q ps (r ∷ after) low within h =
    let above = h.0 in
    let parts : r.0 - at ≡ (q - at) + suc (r.0 - (q + 1)) = omega arith in
    let rest = true ∷ homes_from n (r.0 + 1) after in
    ap (λ k. set (replicate k false ++ rest) (q - at) true) parts
    ∙ ap (λ (t : List Bool). set t (q - at) true) (ap (λ (t : List Bool). t ++ rest) (sym (replicate-append-replicate (q - at) (suc (r.0 - (q + 1))) false))
    ∙ append_assoc (replicate (q - at) false) (replicate (suc (r.0 - (q + 1))) false) rest)
    ∙ set_at (replicate (q - at) false) false (replicate (r.0 - (q + 1)) false ++ rest) true (q - at) (length-replicate (q - at) false)

pub home_set : (n at q : ℕ) (before : Runs) (ps : List (ℕ × ℕ)) (after : Runs) → at ≤ q → q < n → HomesAscend at n (before ++ after) → HomesBelow q before →
    HomesAscend (q + 1) n after
    → set (homes_from n at (before ++ after)) (q - at) true ≡ homes_from n at (before ++ (q, ps) ∷ after)
home_set n at q [] ps after low within h below above = new_home n at q ps after low within above
home_set n at q (r ∷ before) ps after low within h below above =
    let place : q - at - (r.0 - at) ≡ suc (q - (r.0 + 1)) = (let l = h.0 in let b = below.0 in omega arith) in
    set-append_right (replicate (r.0 - at) false) (true ∷ homes_from n (r.0 + 1) (before ++ after)) (r.0 - at) (q - at) true (length-replicate (r.0 - at) false) (omega (arith, below.0))
    ∙ ap (λ k. replicate (r.0 - at) false ++ set (true ∷ homes_from n (r.0 + 1) (before ++ after)) k true) place
    ∙ ap (λ (t : List Bool). replicate (r.0 - at) false ++ true ∷ t) (home_set n (r.0 + 1) q before ps after (omega (arith, below.0)) within h.2 below.1 above)

pub homes_alike : (n at q : ℕ) (before : Runs) (ps qs : List (ℕ × ℕ)) (after : Runs) → homes_from n at (before ++ (q, ps) ∷ after) ≡ homes_from n at (before ++ (q, qs) ∷ after)
homes_alike n at q [] ps qs after = refl
homes_alike n at q (r ∷ before) ps qs after = ap (λ (t : List Bool). replicate (r.0 - at) false ++ true ∷ t) (homes_alike n (r.0 + 1) q before ps qs after)
