-- The landings of the levels, and the memory of merges.
use Rattle.std.proofs.Common.{ℕ, ◌≡◌, ◌+◌, ◌-◌, ◌<◌, ◌≤◌, List, [], ◌∷◌, ◌++◌, length, map, take, drop, get_or, set, ap, sym, ◌∙◌, arith, inl, inr, subst, length-append, length-set, length-take}
use Rattle.std.proofs.{Common.{length-drop, Option, Some}, lemmas.Bool.{cases_lt, cases_eq}}
use Rattle.std.proofs.lemmas.List.{get_or-drop, get_or-take, get_or-append-add, length-map, get_or-map, get_or_append_left, get_or_push, get_or-set_same, get_or-set_other}
use Rattle.lert_levels.specs.{landing.Landed.{taken, IsLanding, IsOfLevel}, flush.Merged.picked}
use Rattle.lert_levels.specs.{landing.Landings.{Home, home, AreLandings, AreOfLevels, AreLanding, IsOutside, HaveEnded}}
use Rattle.lert_levels.specs.{landing.Summed.sums_of}
use Rattle.lert_levels.specs.{declared.landing.landing.Landing.Landing, declared.rows.bin_at.BinAt.BinAt, rows.Landing.{IsApart, LeavesRest, KeepsRest}, Ready.AreStarted}
use Rattle.lert_bay.specs.{declared.bay.TheConstants.FRAMES, Files.{Files, IfTold}, Kept.Bays}
use Rattle.lert_frames.specs.Frame.{HoldsFrame}
use Rattle.lert_frames.proofs.WriteLaws.{turns_back}
use Rattle.lert_spec.specs.{declared.piece.Piece.Piece, declared.numbers.Numbers.Numbers}

-- one more
pub count_more : {A : Type 0} (xs after : List A) (x : A) (n : ℕ) → length xs ≡ n → after ≡ xs ++ x ∷ [] → length after ≡ n + 1
count_more {A} xs after x n len after_is = omega (arith, ap (length {A = A}) after_is ∙ length-append xs (x ∷ []), len)

-- what holds of each so far and of one more holds of each
pub each_more : {A : Type 0} (P : ℕ → A → Type 0) (xs after : List A) (x : A) (n : ℕ) → length xs ≡ n → ((k : ℕ) (d : A) → k < length xs → P (k + 1) (get_or xs k d)) →
    P (n + 1) x → after ≡ xs ++ x ∷ [] → (k : ℕ) (d : A) → k < length after → P (k + 1) (get_or after k d)
each_more {A} P xs after x n len each here after_is k d below =
    let count = ap (length {A = A}) after_is ∙ length-append xs (x ∷ []) in
    subst (λ (ys : List A). P (k + 1) (get_or ys k d)) (sym after_is)
    (elim (cases_lt k n) [
      | inl before ↦ subst (P (k + 1)) (sym (get_or_append_left xs (x ∷ []) d k (omega arith))) (each k d (omega arith))
      | inr last ↦ (
          let same : n ≡ k = omega arith in
          subst (λ (i : ℕ). P (i + 1) (get_or (xs ++ x ∷ []) i d)) same (subst (P (n + 1)) (sym (get_or_push xs x d n len)) here))
    ])

-- what holds of each so far, and of the next one in a list in which it was set
pub set_more : {A : Type 0} (P : ℕ → A → Type 0) (xs : List A) (i : ℕ) (x : A) → i < length xs → ((k : ℕ) (d : A) → k < i → P k (get_or xs k d)) → P i x →
    (k : ℕ) (d : A) → k < i + 1 → P k (get_or (set xs i x) k d)
set_more {A} P xs i x within each here k d below = elim (cases_eq k i) [
  | inl same ↦ subst (P k) (sym (ap (λ n. get_or (set xs i x) n d) same ∙ get_or-set_same xs i x d within)) (subst (λ n. P n x) (sym same) here)
  | inr other ↦ subst (P k) (sym (get_or-set_other xs i k x d other)) (each k d (omega (arith, below, other)))
]

-- one of the landings in the place of another of its level
pub landings_set : (s : Numbers) (landings : List Landing) (i : ℕ) (l : Landing) → i < length landings → AreOfLevels s landings → IsOfLevel s (i + 1) l → AreOfLevels s (set landings i l)
landings_set s landings i l within are is k d below = elim (cases_eq k i) [
  | inl same ↦ subst (IsOfLevel s (k + 1)) (sym (ap (λ n. get_or (set landings i l) n d) same ∙ get_or-set_same landings i l d within)) (subst (λ n. IsOfLevel s (n + 1) l) (sym same) is)
  | inr other ↦ subst (IsOfLevel s (k + 1)) (sym (get_or-set_other landings i k l d other)) (are k d (omega (arith, below, length-set landings i l)))
]

-- ---- the same landings

module _ (old new : List Landing) (homes : map home new ≡ map home old) where
  pub same_count : length new ≡ length old
  same_count = sym (length-map new home) ∙ ap (length {A = Home}) homes ∙ length-map old home

  pub home_at : (k : ℕ) (d : Landing) → k < length old → home (get_or new k d) ≡ home (get_or old k d)
  home_at k d below =
      sym (get_or-map home new k d (home d) (omega (arith, below, same_count)))
      ∙ ap (λ hs. get_or hs k (home d)) homes
      ∙ get_or-map home old k d (home d) below

  -- are apart from the same ranges
  pub apart_same : (from to : ℕ) → IsOutside old from to → IsOutside new from to
  apart_same from to apart k d below =
      let within : k < length old = omega (arith, below, same_count) in
      subst (λ (h : Home). IsApart h.settings h.version h.level h.frame from to) (sym (home_at k d within)) (apart k d within)

  pub landings_same : (s : Numbers) (version : ℕ) → AreLandings s version old → AreLandings s version new
  landings_same s version are k d below =
      let within : k < length old = omega (arith, below, same_count) in
      let is = are k d within in
      record {
        settings = ap (λ (h : Home). h.settings) (home_at k d within) ∙ is.settings;
        version_is = ap (λ (h : Home). h.version) (home_at k d within) ∙ is.version_is;
        level_is = ap (λ (h : Home). h.level) (home_at k d within) ∙ is.level_is;
      }

  pub levels_same : (s : Numbers) → AreOfLevels s old → AreOfLevels s new
  levels_same s are k d below =
      let within : k < length old = omega (arith, below, same_count) in
      let is = are k d within in
      record { settings = ap (λ (h : Home). h.settings) (home_at k d within) ∙ is.settings; level_is = ap (λ (h : Home). h.level) (home_at k d within) ∙ is.level_is }

-- what a merge took stands, once all landings ended
pub stand_all : {B : Type 0} (bays : Bays B) (old new : List Landing) (before middle after : B) (s : Numbers) (version : ℕ) (parts : List (Option ℕ)) (lists : List (List Piece)) (seen : Files) →
    map home new ≡ map home old → AreLandings s version old → KeepsRest bays (IsOutside old) before middle → KeepsRest bays (IsOutside new) middle after →
    IfTold (bays.files before) (λ seen. AreLanding old (seen FRAMES)) →
    ((s : Numbers) (version : ℕ) → AreLandings s version old → IfTold (bays.files before) (λ seen. AreLanding old (seen FRAMES) →
    IfTold (bays.files middle) (λ after. AreLanding new (after FRAMES)))) →
    ((s : Numbers) (version : ℕ) → AreLandings s version new → IfTold (bays.files middle) (λ seen. AreLanding new (seen FRAMES) →
    IfTold (bays.files after) (λ after. HaveEnded s version new (after FRAMES)))) →
    ((k : ℕ) (d : Landing) → k < length new → taken (get_or new k d) ≡ sums_of (picked parts k lists)) → bays.files after ≡ Some seen →
    (k : ℕ) (d : Landing) → k < length old → HoldsFrame s version (k + 1) (get_or old k d).frame (seen FRAMES) (sums_of (picked parts k lists))
stand_all bays old new before middle after s version parts lists seen homes are rest_one rest_two landing merged ended took told k d below =
    let last = turns_back (LeavesRest (IsOutside new)) (bays.files middle) (bays.files after) seen rest_two.seen told in
    let first = turns_back (LeavesRest (IsOutside old)) (bays.files before) (bays.files middle) last.0 rest_one.seen last.1 in
    let there = merged s version are first.0 first.1 (landing first.0 first.1) last.0 last.1 in
    let within : k < length new = omega (arith, below, same_count old new homes) in
    let stands = ended s version (landings_same old new homes s version are) last.0 last.1 there seen told k d within in
    let frame_is : (get_or new k d).frame ≡ (get_or old k d).frame = ap (λ (h : Home). h.frame) (home_at old new homes k d below) in
    subst (λ (frame : ℕ). HoldsFrame s version (k + 1) frame (seen FRAMES) (sums_of (picked parts k lists))) frame_is
    (subst (HoldsFrame s version (k + 1) (get_or new k d).frame (seen FRAMES)) (took k d within) stands)

-- ---- the first landings

pub first_landings : (s : Numbers) (n : ℕ) (landings : List Landing) → AreOfLevels s landings → AreOfLevels s (take n landings)
first_landings s n landings are k d below =
    let reached : k < n = omega (arith, below, length-take n landings) in
    subst (IsOfLevel s (k + 1)) (sym (get_or-take n landings k d reached)) (are k d (omega (arith, below, length-take n landings)))

pub first_started : (s : Numbers) (version : ℕ) (m : ℕ) (rows : List (List BinAt)) (n : ℕ) (landings : List Landing) → length rows ≤ n →
    AreStarted s version m rows landings → AreStarted s version m rows (take n landings)
first_started s version m rows n landings few started = record {
  frame = λ k d below. ap (λ (l : Landing). l.frame) (get_or-take n landings k d (omega (arith, below, few))) ∙ started.frame k d below;
  of_version = λ k d below. ap (λ (l : Landing). l.writer.version) (get_or-take n landings k d (omega (arith, below, few))) ∙ started.of_version k d below;
  empty = λ k d below. ap taken (get_or-take n landings k d (omega (arith, below, few))) ∙ started.empty k d below;
  landing = λ k d below file. subst (λ (l : Landing). IsLanding l file) (sym (get_or-take n landings k d (omega (arith, below, few)))) (started.landing k d below file);
}

-- the first ones changed, and the others as they were
pub rest_landings : (s : Numbers) (n : ℕ) (new landings : List Landing) → n ≡ length new → AreOfLevels s new → AreOfLevels s landings → AreOfLevels s (new ++ drop n landings)
rest_landings s n new landings n_is are were k d below = elim (cases_lt k (length new)) [
  | inl first ↦ subst (IsOfLevel s (k + 1)) (sym (get_or_append_left new (drop n landings) d k first)) (are k d first)
  | inr later ↦ (
      let i = k - length new in
      let place : k ≡ length new + i = omega (arith, later) in
      let here_is : n + i ≡ k = omega (arith, later, n_is) in
      let within : k < length landings = omega (arith, below, later, n_is, length-append new (drop n landings), length-drop n landings) in
      let here : get_or (new ++ drop n landings) k d ≡ get_or landings k d =
      ap (λ j. get_or (new ++ drop n landings) j d) place ∙ get_or-append-add new (drop n landings) i d
      ∙ get_or-drop n landings i d ∙ ap (λ j. get_or landings j d) here_is in
      subst (IsOfLevel s (k + 1)) (sym here) (were k d within))
]

pub rest_count : (n : ℕ) (new landings : List Landing) → n ≡ length new → n ≤ length landings → length (new ++ drop n landings) ≡ length landings
rest_count n new landings n_is few = omega (arith, n_is, few, length-append new (drop n landings), length-drop n landings)
