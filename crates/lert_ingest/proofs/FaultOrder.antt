-- The first fault of several.
use Rattle.std.proofs.Common.{◌≡◌, ◌⊎◌, ℕ, ◌+◌, ◌<◌, ◌≤◌, zero, suc, Bool, true, false, cond, eqb, ltb, ◌&&◌, List, length, get_or, Option, Some, None, slice_get, refl, ap, sym, ◌∙◌, subst, inl, inr}
use Rattle.std.proofs.{Common.arith, lemmas.Bool.{and_from, and_parts, cases_lt, eq-eqb, false≢true, lt-ltb, ltb-true, or_cases, or_left, or_right}}
use Rattle.std.proofs.lemmas.Option.{none-some, same_Some, slice_get-get_or}
use Rattle.lert_bay.specs.Files.{Files, Turns}
use Rattle.lert_cone.specs.{Stands.{Standing, is_broken, is_finished}, Wrote.Anything, declared.state.ConeState.ConeState}
use Rattle.lert_ingest.specs.{Back.IsSeen, Faults.{earlier, earliest, end_fault, fault_at, fault_of, goes_before, number_in, rank, state_fault}, declared.status.Status.Status}
use Rattle.lert_fleet.proofs.Places.{read_at}
use Rattle.lert_worker.specs.{crew.Crewed.{end_at, end_of}, declared.end.WorkerEnd.WorkerEnd}
use Rattle.lert_worker.specs.declared.end.WorkerEnd.TheVariants as end
use Rattle.lert_ingest.proofs.PartLaws.{eqb_true}

-- a status isn't answered later than another one
pub record IsNotAfter (one other : Status) : Type 0 where
  pub ranked : rank one ≤ rank other
  pub numbered : rank one ≡ rank other → number_in one ≤ number_in other

-- and not later than a fault, where there is one
abbrev pub IsFirstOf : Status → Option Status → Type 0
IsFirstOf one fault = (other : Status) → fault ≡ Some other → IsNotAfter one other

not_after-trans : (a b c : Status) → IsNotAfter a b → IsNotAfter b c → IsNotAfter a c
not_after-trans a b c one two =
    let r = one.ranked in
    let q = two.ranked in
    record { ranked = omega (arith, r, q); numbered = λ same. let n = one.numbered (omega (arith, r, q, same)) in let m = two.numbered (omega (arith, r, q, same)) in omega (arith, n, m) }

not_after-refl : (a : Status) → IsNotAfter a a
not_after-refl a = record { ranked = omega arith; numbered = λ same. omega arith }

before_not_after : (a b : Status) → goes_before a b ≡ true → IsNotAfter a b
before_not_after a b is = elim (or_cases (ltb (rank a) (rank b)) (eqb (rank a) (rank b) && ltb (number_in a) (number_in b)) is) [
  | inl less ↦ let below = ltb-true (rank a) (rank b) less in record { ranked = omega (arith, below); numbered = λ same. omega (arith, below, same) }
  | inr both ↦
      let parts = and_parts (eqb (rank a) (rank b)) (ltb (number_in a) (number_in b)) both in
      let same = eqb_true (rank a) (rank b) parts.0 in
      let below = ltb-true (number_in a) (number_in b) parts.1 in
      record { ranked = omega (arith, same); numbered = λ _. omega (arith, below) }
]

not_before_not_after : (a b : Status) → goes_before a b ≡ false → IsNotAfter b a
not_before_not_after a b is = elim (cases_lt (rank a) (rank b)) [
  | inl less ↦ absurd (false≢true (sym is ∙ or_left (ltb (rank a) (rank b)) (eqb (rank a) (rank b) && ltb (number_in a) (number_in b)) (lt-ltb (rank a) (rank b) less)))
  | inr most ↦ record {
    ranked = most;
    numbered = λ same. elim (cases_lt (number_in a) (number_in b)) [
      | inl less ↦ absurd (false≢true (sym is ∙ or_right (ltb (rank a) (rank b)) (eqb (rank a) (rank b) && ltb (number_in a) (number_in b))
          (and_from (eqb (rank a) (rank b)) (ltb (number_in a) (number_in b)) (eq-eqb (rank a) (rank b) (sym same)) (lt-ltb (number_in a) (number_in b) less))))
      | inr few ↦ few
    ];
  }
]

-- the one of two
earlier_is : (a b : Status) (c : Bool) → goes_before b a ≡ c → (one : Status) → cond c (Some b) (Some a) ≡ Some one →
    ((Some a ≡ Some one) ⊎ (Some b ≡ Some one)) × IsNotAfter one a × IsNotAfter one b
earlier_is a b true is one same =
    let e = same_Some b one same in
    (inr same, subst (λ (x : Status). IsNotAfter x a) e (before_not_after b a is), subst (λ (x : Status). IsNotAfter x b) e (not_after-refl b))
earlier_is a b false is one same =
    let e = same_Some a one same in
    (inl same, subst (λ (x : Status). IsNotAfter x a) e (not_after-refl a), subst (λ (x : Status). IsNotAfter x b) e (not_before_not_after b a is))

pub of_two : (x y : Option Status) (one : Status) → earlier x y ≡ Some one → ((x ≡ Some one) ⊎ (y ≡ Some one)) × IsFirstOf one x × IsFirstOf one y
of_two None y one is = (
  inr is,
  (λ other some. absurd (none-some other some)),
  λ other some.
      subst (λ (b : Status). IsNotAfter one b) (same_Some one other (sym is ∙ some)) (not_after-refl one),
)
of_two (Some a) None one is = (
  inl is,
  (λ other some. subst (λ (b : Status). IsNotAfter one b) (same_Some one other (sym is ∙ some)) (not_after-refl one)),
  λ other none. absurd (none-some other none),
)
of_two (Some a) (Some b) one is =
    let which = earlier_is a b (goes_before b a) refl one is in (
      which.0,
      (λ other some. subst (λ (c : Status). IsNotAfter one c) (same_Some a other some) which.1),
      λ other some. subst (λ (c : Status). IsNotAfter one c) (same_Some b other some)
          which.2,
    )

pub of_two_none : (x y : Option Status) → earlier x y ≡ None → (x ≡ None) × (y ≡ None)
of_two_none None y is = (refl, is)
of_two_none (Some a) None is = absurd (none-some a (sym is))
of_two_none (Some a) (Some b) is = absurd (neither (goes_before b a) is)
  where
    neither : (c : Bool) → cond c (Some b) (Some a) ≡ None → ⊥
    neither true none = none-some b (sym none)
    neither false none = none-some a (sym none)

module _ (faults : ℕ → Option Status) where
  -- there is none exactly where none of them is one
  pub all_none : (count : ℕ) → earliest faults count ≡ None → (place : ℕ) → place < count → faults place ≡ None
  all_none zero is place below = absurd (omega (arith, below))
  all_none (suc count) is place below =
      let two = of_two_none (earliest faults count) (faults count) is in
      elim (cases_lt place count) [
        | inl less ↦ all_none count two.0 place less
        | inr most ↦ subst (λ k. faults k ≡ None) (let e : count ≡ place = omega (arith, below, most) in e) two.1
      ]

  -- a fault is one of so many, and not later than any of these
  pub record IsFirst (count : ℕ) (one : Status) : Type 0 where
    pub place : ℕ
    pub below : place < count
    pub is : faults place ≡ Some one
    pub first : (other : ℕ) → other < count → IsFirstOf one (faults other)

  module _ (count : ℕ) (one : Status) (two : ((earliest faults count ≡ Some one) ⊎ (faults count ≡ Some one)) × IsFirstOf one (earliest faults count) × IsFirstOf one (faults count))
      (smaller : (first : Status) → earliest faults count ≡ Some first → IsFirst count first) where
    behind : (place : ℕ) → place < count → (first : Option Status) → earliest faults count ≡ first → IsFirstOf one (faults place)
    behind place below None none = λ other some. absurd (none-some other (sym (all_none count none place below) ∙ some))
    behind place below (Some first) some = λ other there. not_after-trans one first other (two.1 first some) ((smaller first some).first place below other there)

    each : (place : ℕ) → place < suc count → IsFirstOf one (faults place)
    each place below = elim (cases_lt place count) [
      | inl less ↦ behind place less (earliest faults count) refl
      | inr most ↦ subst (λ k. IsFirstOf one (faults k)) (let e : count ≡ place = omega (arith, below, most) in e) two.2
    ]

    which : ((earliest faults count ≡ Some one) ⊎ (faults count ≡ Some one)) → IsFirst (suc count) one
    which (inl before) =
        let found = smaller one before in
        record { place = found.place; below = (let b = found.below in omega (arith, b)); is = found.is; first = each }
    which (inr last) = record { place = count; below = omega arith; is = last; first = each }

    one_more : IsFirst (suc count) one
    one_more = which two.0

  -- the first of so many is one of them, and not later than any
  pub of_all : (count : ℕ) (one : Status) → earliest faults count ≡ Some one → IsFirst count one
  of_all zero one is = absurd (none-some one is)
  of_all (suc count) one is = one_more count one (of_two (earliest faults count) (faults count) one is) (λ first some. of_all count first some)

  -- what isn't later than the first isn't later than any
  pub each_of : (count : ℕ) (one : Status) → IsFirstOf one (earliest faults count) → (place : ℕ) → place < count → IsFirstOf one (faults place)
  each_of count one first place below = by_case (earliest faults count) refl
    where
      by_case : (found : Option Status) → earliest faults count ≡ found → IsFirstOf one (faults place)
      by_case None none = λ other some. absurd (none-some other (sym (all_none count none place below) ∙ some))
      by_case (Some least) is = λ other some. not_after-trans one least other (first least is) ((of_all count least is).first place below other some)

-- one fault more
pub earliest_more : (faults : ℕ → Option Status) (count : ℕ) (first fault result : Option Status) → result ≡ earlier first fault → first ≡ earliest faults count
    → fault ≡ faults count →
    result ≡ earliest faults (count + 1)
earliest_more faults count first fault result is first_is fault_is =
    subst (λ n. result ≡ earliest faults n) (let e : suc count ≡ count + 1 = omega arith in e) (is ∙ (ap (λ x. earlier x fault) first_is ∙ ap (earlier (earliest faults count)) fault_is))

-- the fault of a cone that was read
pub fault_there : {B : Type 0} (cones : List (Standing B)) (cone : ℕ) (standing : Standing B) (st : ConeState) (fault : Option Status) → cone < length cones →
    standing ≡ get_or cones cone standing → st ≡ standing.state → fault ≡ state_fault cone st → fault ≡ fault_at cones cone
fault_there cones cone standing st fault below is state_is fault_is =
    fault_is ∙ (ap (state_fault cone) state_is ∙ sym (ap (fault_of cone) (read_at cones cone standing below is)))

-- the fault of a worker whose end was read
pub end_there : (ends : List WorkerEnd) (by : ℕ) (fault : Option Status) → by < length ends → fault ≡ end_fault (get_or ends by end.Ran) → fault ≡ end_fault (end_at ends by)
end_there ends by fault below fault_is = fault_is ∙ sym (ap (λ o. end_fault (end_of o)) (slice_get-get_or ends by end.Ran below))

-- one cone more that was looked at
pub seen_more : {B : Type 0} (files : B → Option Files) (faults mark : B → ℕ) (cones : List (Standing B)) (cone : ℕ) (standing : Standing B) (st : ConeState)
    → cone < length cones →
    standing ≡ get_or cones cone standing → st ≡ standing.state →
    (faults standing.made ≤ faults standing.bay) × (mark standing.bay ≡ mark standing.made) × Turns Anything (files standing.made) (files standing.bay) →
    (is_broken st ≡ false → standing.listing.closed ≡ is_finished st) →
    ((place : ℕ) (other : Standing B) → place < cone → slice_get cones place ≡ Some other → IsSeen files faults mark other) →
    (place : ℕ) (other : Standing B) → place < cone + 1 → slice_get cones place ≡ Some other → IsSeen files faults mark other
seen_more files faults mark cones cone standing st below is state_is later closed before place other less there = elim (cases_lt place cone) [
  | inl lower ↦ before place other lower there
  | inr most ↦
      let place_is : cone ≡ place = omega (arith, less, most) in
      let same : standing ≡ other = same_Some standing other (sym (read_at cones cone standing below is) ∙ (ap (slice_get cones) place_is ∙ there)) in
      subst (IsSeen files faults mark) same (record {
        later = later;
        closed = λ whole. closed (ap is_broken state_is ∙ whole) ∙ ap is_finished state_is;
      })
]
