-- What the exits of an opening share: a fault that is counted, none, and what a call says once its result is known.
use Rattle.std.proofs.Common.{◌≡◌, ◌++◌, Bool, cond, ℕ, ◌+◌, ◌≤◌, List, [], ◌∷◌, length, Option, Some, None, true, false, min, refl, sym, ap, subst, ◌∙◌, arith, Result, Ok, Err}
use Rattle.std.proofs.{lemmas.List.Sums.sum_by_push, lemmas.Bool.false≢true}
use Rattle.std.specs.{List.count_by, Result.{is_err, OnOk, OnErr}}
use Rattle.lert_io.specs.Fault.{HasCause, last_count}
use Rattle.lert_place.specs.{Kept.Shelf, declared.opening.Opening.Opening}

pub at_ok : {T E : Type 0} {P : Type 0} (r : Result T E) → is_err r ≡ false → OnOk r P → P
at_ok (Ok x) e h = h
at_ok (Err y) e h = absurd (false≢true (sym e))

pub at_err : {T E : Type 0} {P : Type 0} (r : Result T E) → is_err r ≡ true → OnErr r P → P
at_err (Ok x) e h = absurd (false≢true e)
at_err (Err y) e h = h

-- a call that counted its fault, and one that met none
pub counted : {T E : Type 0} (before now : ℕ) (fault : E) → before ≤ last_count → now ≡ min (before + 1) last_count
    → HasCause {T = T} before now (Err fault)
counted before now fault fits e = record { never_falls = omega arith; failed = λ _. λ below. omega arith }

pub faultless : {T E : Type 0} (before now : ℕ) (x : T) → now ≡ before → HasCause {E = E} before now (Ok x)
faultless before now x e = record { never_falls = omega arith; failed = λ no. absurd (false≢true no) }

-- what a refusal of a place in memory leaves alone, whatever the faults became
pub others : (old new : Shelf) (faults : ℕ) → new ≡ record old { ledger = new.ledger; faults = faults }
    → new ≡ record old { ledger = new.ledger; faults = new.faults }
others old new faults e = e ∙ ap (λ count. record old { ledger = new.ledger; faults = count }) (sym (ap (λ s. s.faults) e))

-- what wasn't handed out yet: the place still has it
pub none_yet : {T B : Type 0} (handed : List B) (kept : Option T) (x : T) → (1 ≤ length handed → kept ≡ None) → kept ≡ Some x → handed ≡ []
none_yet [] kept x gone here = refl
none_yet (bay ∷ others) kept x gone here = absurd (let e = gone (omega arith) in cc)

-- how many openings of one kind are granted with one more opening
pub one_more : (is : Opening → Bool) (asked new : List Opening) (noted opening : Opening) (granted : ℕ)
    → new ≡ asked ++ noted ∷ [] → noted ≡ opening → granted ≡ count_by is asked → granted + cond (is opening) 1 0 ≡ count_by is new
one_more is asked new noted opening granted e same before =
    ap (λ n. n + cond (is opening) 1 0) before ∙ ap (λ o. count_by is asked + cond (is o) 1 0) (sym same)
    ∙ sym (sum_by_push (λ o. cond (is o) 1 0) asked noted) ∙ sym (ap (count_by is) e)

pub no_more : (is : Opening → Bool) (asked new : List Opening) (noted opening : Opening) (granted : ℕ)
    → new ≡ asked ++ noted ∷ [] → noted ≡ opening → is opening ≡ false → granted ≡ count_by is asked → granted ≡ count_by is new
no_more is asked new noted opening granted e same other before =
    let same_count = subst (λ b. granted + cond b 1 0 ≡ count_by is new) other (one_more is asked new noted opening granted e same before) in
    omega (arith, same_count)
