-- Traces that a worker is given and hands back.
use Rattle.std.proofs.Common.{◌≡◌, ℕ, suc, ◌+◌, ◌<◌, ◌≤◌, Bool, false, List, [], ◌∷◌, ◌++◌, length, get_or, slice_index, Result, Ok, Err, OnOk}
use Rattle.std.proofs.Common.{refl, ap, sym, ◌∙◌, subst, inl, inr, arith, length-append}
use Rattle.std.specs.Prelude.{All}
use Rattle.std.specs.List.Sorted.{IsStrictlyIncreasing}
use Rattle.std.specs.Result.{is_err}
use Rattle.std.proofs.lemmas.List.{length_push}
use Rattle.std.proofs.lemmas.List.Elements.{All-push, All-tail}
use Rattle.lert_worker.specs.Ran.{AreGiven, Worked}
use Rattle.lert_worker.proofs.JoinLaws.{front, split_at}

last : (xs : List ℕ) (x d : ℕ) → get_or (xs ++ x ∷ []) (length xs) d ≡ x
last [] x d = refl
last (y ∷ xs) x d = last xs x d

ascend_push : (xs : List ℕ) (x : ℕ) → IsStrictlyIncreasing xs → All (λ other. other < x) xs → IsStrictlyIncreasing (xs ++ x ∷ [])
ascend_push xs x up above = λ k within.
    let low : k < length xs = omega (arith, within, length-append xs (x ∷ [])) in
    let here = front xs (x ∷ []) k 0 low in
    let less = above k 0 low in
    elim (split_at xs (k + 1)) [
      | inl next ↦
          let then = front xs (x ∷ []) (k + 1) 0 next in
          let rise = up k next in
          omega (arith, here, then, rise)
      | inr end ↦
          let same : length xs ≡ k + 1 = omega (arith, low, end) in
          let then = ap (λ n. get_or (xs ++ x ∷ []) n 0) (sym same) ∙ last xs x 0 in
          omega (arith, here, then, less)
    ]

pub given_push : {T : Type 0} (traces more : List ℕ) (readers others : List T) (trace : ℕ) (reader : T) → more ≡ traces ++ trace ∷ [] → others ≡ readers ++ reader ∷ []
    → AreGiven traces readers → All (λ other. other < trace) traces → trace ≤ 1023 → AreGiven more others
given_push traces more readers others trace reader traces_are readers_are given above most = record {
  as_many = omega (arith, ap length traces_are, ap length readers_are, length_push traces trace, length_push readers reader, given.as_many);
  ascend = subst IsStrictlyIncreasing (sym traces_are) (ascend_push traces trace given.ascend above);
  few = subst (All (λ t. t ≤ 1023)) (sym traces_are) (All-push (λ t. t ≤ 1023) traces trace given.few most);
}

pub given_tail : {T : Type 0} (traces rest : List ℕ) (readers others : List T) (trace : ℕ) (reader : T) → traces ≡ trace ∷ rest → readers ≡ reader ∷ others
    → AreGiven traces readers → AreGiven rest others
given_tail traces rest readers others trace reader traces_are readers_are given =
    let is = subst (λ (ts : List ℕ). AreGiven ts (reader ∷ others)) traces_are (subst (λ (rs : List _). AreGiven traces rs) readers_are given) in
    record {
      as_many = let many = is.as_many in omega (arith, many);
      ascend = λ k within.
          let same : suc k + 1 ≡ suc (k + 1) = omega arith in
          subst (λ n. slice_index rest k < slice_index (trace ∷ rest) n) same (is.ascend (suc k) (omega (arith, within)));
      few = All-tail (λ t. t ≤ 1023) trace rest is.few;
    }

pub given_same : {T : Type 0} (traces more : List ℕ) (readers others : List T) → more ≡ traces → others ≡ readers → AreGiven traces readers → AreGiven more others
given_same traces more readers others traces_are readers_are given =
    subst (λ (ts : List ℕ). AreGiven ts others) (sym traces_are) (subst (λ (rs : List _). AreGiven traces rs) (sym readers_are) given)

-- what is read of the numbers of traces is one of them
pub trace_few : (traces : List ℕ) (place trace : ℕ) → All (λ t. t ≤ 1023) traces → place < length traces → trace ≡ get_or traces place trace → trace ≤ 1023
trace_few traces place trace few within is = subst (λ t. t ≤ 1023) (sym is) (few place trace within)

-- the same worker with other lists
module _ {T P : Type 0} (old now : Worked T P) (traces : List ℕ) (readers : List T) (is : old ≡ now) where
  pub lists_kept : traces ≡ old.traces → readers ≡ old.readers → record old { traces = traces; readers = readers } ≡ now
  lists_kept traces_are readers_are =
      ap (λ (ts : List ℕ). record old { traces = ts; readers = readers }) traces_are ∙ (ap (λ (rs : List T). record old { readers = rs }) readers_are ∙ is)

  pub lists_grown : (trace : ℕ) (reader : T) → traces ≡ old.traces ++ trace ∷ [] → readers ≡ old.readers ++ reader ∷ []
      → record old { traces = traces; readers = readers } ≡ record now { traces = now.traces ++ trace ∷ []; readers = now.readers ++ reader ∷ [] }
  lists_grown trace reader traces_are readers_are =
      ap (λ (ts : List ℕ). record old { traces = ts; readers = readers }) traces_are
      ∙ (ap (λ (rs : List T). record old { traces = old.traces ++ trace ∷ []; readers = rs }) readers_are
      ∙ ap (λ (w : Worked T P). record w { traces = w.traces ++ trace ∷ []; readers = w.readers ++ reader ∷ [] }) is)

-- what didn't fail made room for one more
pub has_room : {A E : Type 0} (result : Result A E) (failed : Bool) (long room : ℕ) → failed ≡ is_err result → failed ≡ false → OnOk result (long + 1 ≤ room) → long < room
has_room (Ok done) failed long room is not fits = omega (arith, fits)
has_room (Err fault) failed long room is not fits = absurd (cc)
