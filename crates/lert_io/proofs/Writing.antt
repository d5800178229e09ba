-- How far a sink has come with a list of bytes, and the step of one more write.
use Rattle.std.proofs.Common.{◌≡◌, ℕ, ◌+◌, ◌-◌, ◌<◌, ◌≤◌, List, ◌++◌, length, take, drop, Option, Some, None, refl, ap, sym, ◌∙◌, arith, length-drop, append-nil, append_assoc}
use Rattle.std.proofs.Math.Seq.{take-add, take-length}

-- between two states of a sink the first `done` of the bytes were appended, and the count of faults did not fall
pub record Wrote {K : Type 0} (taken : K → Option (List ℕ)) (faults mark : K → ℕ) (from now : K) (bytes : List ℕ) (done : ℕ) : Type 0 where
  pub within : done ≤ length bytes
  pub told : (before : List ℕ) → taken from ≡ Some before → taken now ≡ Some (before ++ take done bytes)
  pub untold : taken from ≡ None → taken now ≡ None
  pub none_yet : done ≡ 0 → now ≡ from
  pub never_falls : faults from ≤ faults now
  pub marked : mark now ≡ mark from

-- what is left of a list from a place on, as a slice from there writes it
abbrev pub rest_of : List ℕ → ℕ → List ℕ
rest_of bytes done = take (length bytes - done) (drop done bytes)

pub rest_of-drop : (bytes : List ℕ) (done : ℕ) → rest_of bytes done ≡ drop done bytes
rest_of-drop bytes done =
    ap (λ n. take n (drop done bytes)) (sym (length-drop done bytes)) ∙ take-length (drop done bytes)

pub Wrote-more : {K : Type 0} (taken : K → Option (List ℕ)) (faults mark : K → ℕ) (from mid now : K) (bytes : List ℕ) (done count : ℕ) →
    Wrote taken faults mark from mid bytes done → done < length bytes → 0 < count → count ≤ length (rest_of bytes done) →
    ((before : List ℕ) → taken mid ≡ Some before → taken now ≡ Some (before ++ take count (rest_of bytes done))) →
    (taken mid ≡ None → taken now ≡ None) → faults mid ≤ faults now → mark now ≡ mark mid →
    Wrote taken faults mark from now bytes (done + count)
Wrote-more taken faults mark from mid now bytes done count w below some fits told untold falls marked =
    record {
      within = omega (arith, ap length (rest_of-drop bytes done), length-drop done bytes);
      told = λ before was.
          told (before ++ take done bytes) (w.told before was)
          ∙ ap Some (append_assoc before (take done bytes) (take count (rest_of bytes done))
          ∙ ap (λ xs. before ++ (take done bytes ++ take count xs)) (rest_of-drop bytes done)
          ∙ ap (λ xs. before ++ xs) (sym (take-add done count bytes)));
      untold = λ was. untold (w.untold was);
      none_yet = λ zero. absurd (omega arith);
      never_falls = omega (arith, w.never_falls);
      marked = marked ∙ w.marked;
    }

-- nothing yet
pub Wrote-none : {K : Type 0} (taken : K → Option (List ℕ)) (faults mark : K → ℕ) (from : K) (bytes : List ℕ) → Wrote taken faults mark from from bytes 0
Wrote-none taken faults mark from bytes = record {
  within = omega arith;
  told = λ before was. was ∙ ap Some (sym (append-nil before));
  untold = λ was. was;
  none_yet = λ zero. refl;
  never_falls = omega arith;
  marked = refl;
}
