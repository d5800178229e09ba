-- Readers that are given to workers, and taken back.
use Rattle.std.proofs.Common.{◌≡◌, ◌≢◌, ◌⊎◌, ℕ, ◌+◌, ◌%◌, ◌<◌, ◌≤◌, zero, suc, List, [], ◌∷◌, ◌++◌, length, set, get_or, drop, Some, slice_get, refl, ap, sym, ◌∙◌, subst, inl, inr, arith}
use Rattle.std.proofs.{Common.length-append, lemmas.Bool.{cases_eq, cases_lt}, lemmas.List.{drop_all, length-set}, lemmas.List.Elements.{All-nil, All-push, All-weaker}}
use Rattle.std.proofs.lemmas.Option.{get_or_from_slice_get, none-some, same_Some, slice_get-get_or, slice_get_within}
use Rattle.std.specs.Prelude.{All}
use Rattle.lert_fleet.proofs.Places.{slice_get-set_other, slice_get-set_same, slice_get_seam, some_at}
use Rattle.lert_trace.specs.Reader.{Reading}
use Rattle.lert_worker.specs.Ran.{IsGivenBack, Working}
use Rattle.lert_worker.specs.crew.{Shares.IsShare, Sharing.{AreFree, AreManned, ArePartTaken, AreShared, IsGiven, IsManned, IsPartTaken, IsTaken, WereTaken}}
use Rattle.lert_worker.proofs.{LaneLaws.slice_get-first, crew.Pouring.{given_there, rest_is}}

-- ---- lists

-- what stands in a list with one more element
pushed_at : {A : Type 0} (xs : List A) (y x : A) (place : ℕ) → slice_get (xs ++ y ∷ []) place ≡ Some x → (slice_get xs place ≡ Some x) ⊎ ((place ≡ length xs) × (y ≡ x))
pushed_at xs y x place is = elim (cases_lt place (length xs)) [
  | inl less ↦ inl (sym (slice_get-first xs (y ∷ []) place less) ∙ is)
  | inr most ↦
      let within = slice_get_within (xs ++ y ∷ []) place x is in
      let sum = length-append xs (y ∷ []) in
      let at : place ≡ length xs = omega (arith, most, within, sum) in
      inr (at, same_Some y x (sym (slice_get_seam xs y []) ∙ (ap (slice_get (xs ++ y ∷ [])) (sym at) ∙ is)))
]

kept_at : {A : Type 0} (xs : List A) (y x : A) (place : ℕ) → slice_get xs place ≡ Some x → slice_get (xs ++ y ∷ []) place ≡ Some x
kept_at xs y x place is = slice_get-first xs (y ∷ []) place (slice_get_within xs place x is) ∙ is

-- the rest of a list, by its first element
rest_at : {A : Type 0} (n : ℕ) (xs : List A) (x : A) → slice_get xs n ≡ Some x → drop n xs ≡ x ∷ drop (suc n) xs
rest_at n [] x is = absurd (none-some x is)
rest_at zero (y ∷ xs) x is = ap (λ z. z ∷ xs) (same_Some y x is)
rest_at (suc n) (y ∷ xs) x is = rest_at n xs x is

-- ---- shares
module _ (workers : ℕ) where
  pub share_none : (by : ℕ) → IsShare workers 0 by []
  share_none by = record {
    own = All-nil (λ t. (t < 0) × (t % workers ≡ by));
    all = λ trace below _. absurd (omega (arith, below));
    once = λ place other trace is _. absurd (none-some trace is);
    ascend = λ place other trace later is _ _. absurd (none-some trace is);
  }

  module _ (count by : ℕ) (traces : List ℕ) (share : IsShare workers count by traces) where
    wider : All (λ t. (t < count + 1) × (t % workers ≡ by)) traces
    wider = All-weaker (λ t. (t < count) × (t % workers ≡ by)) (λ t. (t < count + 1) × (t % workers ≡ by)) (λ t p. (let b = p.0 in omega (arith, b), p.1)) traces share.own

    pub below_at : (place trace : ℕ) → slice_get traces place ≡ Some trace → (trace < count) × (trace % workers ≡ by)
    below_at place trace is = subst (λ t. (t < count) × (t % workers ≡ by)) (get_or_from_slice_get traces place trace trace is)
        (share.own place trace (slice_get_within traces place trace is))

    pub share_same : count % workers ≢ by → IsShare workers (count + 1) by traces
    share_same other = record {
      own = wider;
      all = λ trace below is. elim (cases_eq trace count) [
        | inl same ↦ absurd (other (ap (λ t. t % workers) (sym same) ∙ is))
        | inr apart ↦ share.all trace (omega (arith, below, apart)) is
      ];
      once = share.once;
      ascend = share.ascend;
    }

    pub share_more : count % workers ≡ by → IsShare workers (count + 1) by (traces ++ count ∷ [])
    share_more here = record {
      own = All-push (λ t. (t < count + 1) × (t % workers ≡ by)) traces count wider (omega arith, here);
      all = λ trace below is. elim (cases_eq trace count) [
        | inl same ↦ (length traces, slice_get_seam traces count [] ∙ ap Some (sym same))
        | inr apart ↦ let old = share.all trace (omega (arith, below, apart)) is in (old.0, kept_at traces count trace old.0 old.1)
      ];
      once = λ place other trace is also. once_both place other trace (pushed_at traces count trace place is) (pushed_at traces count trace other also);
      ascend = λ place other trace later is also less. ascend_both place other trace later less (pushed_at traces count trace place is) (pushed_at traces count later other also);
    }
      where
        once_both : (place other trace : ℕ) → (slice_get traces place ≡ Some trace) ⊎ ((place ≡ length traces) × (count ≡ trace)) →
            (slice_get traces other ≡ Some trace) ⊎ ((other ≡ length traces) × (count ≡ trace)) → place ≡ other
        once_both place other trace (inl is) (inl also) = share.once place other trace is also
        once_both place other trace (inl is) (inr last) = absurd (let b = (below_at place trace is).0 in let e = last.1 in omega (arith, b, e))
        once_both place other trace (inr last) (inl also) = absurd (let b = (below_at other trace also).0 in let e = last.1 in omega (arith, b, e))
        once_both place other trace (inr last) (inr too) = last.0 ∙ sym too.0

        ascend_both : (place other trace later : ℕ) → trace < later → (slice_get traces place ≡ Some trace) ⊎ ((place ≡ length traces) × (count ≡ trace)) →
            (slice_get traces other ≡ Some later) ⊎ ((other ≡ length traces) × (count ≡ later)) → place < other
        ascend_both place other trace later less (inl is) (inl also) = share.ascend place other trace later is also less
        ascend_both place other trace later less (inl is) (inr last) = let w = slice_get_within traces place trace is in let e = last.0 in omega (arith, w, e)
        ascend_both place other trace later less (inr last) (inl also) = absurd (let b = (below_at other later also).0 in let e = last.1 in omega (arith, b, e, less))
        ascend_both place other trace later less (inr last) (inr too) = absurd (let e = last.1 in let f = too.1 in omega (arith, e, f, less))

module _ {S H : Type 0} where
  -- ---- giving
  pub manned_none : (all : List (Reading S)) (olds : List (Working S H)) → AreFree olds → AreManned 0 all olds olds
  manned_none all olds free = record {
    number = refl;
    each = λ by old new was is.
        let same = same_Some old new (sym was ∙ is) in
        subst (IsManned (length olds) 0 by all old) same (none by old (free by old was));
  }
    where
      none : (by : ℕ) (old : Working S H) → (old.traces ≡ []) × (old.readers ≡ []) → IsManned (length olds) 0 by all old old
      none by old empty = record {
        kept = refl;
        share = subst (IsShare (length olds) 0 by) (sym empty.0) (share_none (length olds) by);
        as_many = ap (λ (xs : List (Reading S)). length xs) empty.1 ∙ sym (ap (λ (xs : List ℕ). length xs) empty.0);
        readers = λ place trace is. absurd (none-some trace (ap (λ (xs : List ℕ). slice_get xs place) (sym empty.0) ∙ is));
      }

  pub manned_more : (count : ℕ) (all : List (Reading S)) (next : Reading S) (olds mids news : List (Working S H)) → slice_get all count ≡ Some next → AreManned count all olds mids →
      IsGiven count next mids news → AreManned (count + 1) all olds news
  manned_more count all next olds mids news there manned given = record {
    number = given.number ∙ manned.number;
    each = λ by old new was is. by_case by old new was is (cases_eq by (count % length mids));
  }
    where
      one : (by : ℕ) (old mid new : Working S H) → count % length olds ≡ by → IsManned (length olds) count by all old mid →
          new ≡ record mid { traces = mid.traces ++ count ∷ []; readers = mid.readers ++ next ∷ [] } → IsManned (length olds) (count + 1) by all old new
      one by old mid new here was made = subst (IsManned (length olds) (count + 1) by all old) (sym made) (record {
        kept = ap (λ (m : Working S H). record m { traces = mid.traces ++ count ∷ []; readers = mid.readers ++ next ∷ [] }) was.kept;
        share = share_more (length olds) count by mid.traces was.share here;
        as_many = (let n = was.as_many in let a = length-append mid.readers (next ∷ []) in let b = length-append mid.traces (count ∷ []) in omega (arith, n, a, b));
        readers = λ place trace is. reader place trace (pushed_at mid.traces count trace place is);
      })
        where
          reader : (place trace : ℕ) → (slice_get mid.traces place ≡ Some trace) ⊎ ((place ≡ length mid.traces) × (count ≡ trace)) →
              (of : Reading S) × (slice_get all trace ≡ Some of) × (slice_get (mid.readers ++ next ∷ []) place ≡ Some of)
          reader place trace (inl is) = let old_one =
              was.readers place trace is in (old_one.0, old_one.1, kept_at mid.readers next old_one.0 place old_one.2)
          reader place trace (inr last) =
              let at : place ≡ length mid.readers = (let n = was.as_many in let e = last.0 in omega (arith, n, e)) in (
                next,
                ap (slice_get all) (sym last.1) ∙ there,
                ap (slice_get (mid.readers ++ next ∷ [])) at ∙ slice_get_seam mid.readers next [],
              )

      same : (by : ℕ) (old mid : Working S H) → count % length olds ≢ by → IsManned (length olds) count by all old mid → IsManned (length olds) (count + 1) by all old mid
      same by old mid apart was = record { kept = was.kept; share = share_same (length olds) count by mid.traces was.share apart; as_many = was.as_many; readers = was.readers }

      by_case : (by : ℕ) (old new : Working S H) → slice_get olds by ≡ Some old → slice_get news by ≡ Some new
          → (by ≡ count % length mids) ⊎ (by ≢ count % length mids) →
          IsManned (length olds) (count + 1) by all old new
      by_case by old new was is (inl here) =
          let mid = some_at mids by (let n = manned.number in let w = slice_get_within olds by old was in omega (arith, n, w)) in
          let at : count % length olds ≡ by = ap (λ n. count % n) (sym manned.number) ∙ sym here in
          one by old mid.0 new at (manned.each by old mid.0 was mid.1)
          (given.here mid.0 new (subst (λ k. slice_get mids k ≡ Some mid.0) here mid.1) (subst (λ k. slice_get news k ≡ Some new) here is))
      by_case by old new was is (inr apart) =
          let there_still = sym (given.others by apart) ∙ is in
          same by old new (λ e. apart (sym e ∙ ap (λ n. count % n) (sym manned.number))) (manned.each by old new was there_still)

  pub given_one : (trace : ℕ) (reader : Reading S) (crew : List (Working S H)) (d other : Working S H) → trace % length crew < length crew →
      other ≡ record (get_or crew (trace % length crew) d) {
        traces = (get_or crew (trace % length crew) d).traces ++ trace ∷ [];
        readers = (get_or crew (trace % length crew) d).readers ++ reader ∷ [];
      } → IsGiven trace reader crew (set crew (trace % length crew) other)
  given_one trace reader crew d other within made = record {
    number = length-set crew (trace % length crew) other;
    here = λ old new was is.
        let old_is : get_or crew (trace % length crew) d ≡ old =
        same_Some (get_or crew (trace % length crew) d) old (sym (slice_get-get_or crew (trace % length crew) d within) ∙ was) in
        let new_is : other ≡ new = same_Some other new (sym (slice_get-set_same crew (trace % length crew) other within) ∙ is) in
        sym new_is ∙ (made ∙ λ i. record (old_is i) { traces = (old_is i).traces ++ trace ∷ []; readers = (old_is i).readers ++ reader ∷ [] });
    others = λ by apart. slice_get-set_other crew (trace % length crew) by other apart;
  }

  -- workers that were manned have traces below the next one alone
  pub all_below : (count : ℕ) (all : List (Reading S)) (olds mids : List (Working S H)) → AreManned count all olds mids → (by : ℕ) (worker : Working S H) → slice_get mids by ≡ Some
      worker →
      All (λ other. other < count) worker.traces
  all_below count all olds mids manned by worker is =
      let old = some_at olds by (let n = manned.number in let w = slice_get_within mids by worker is in omega (arith, n, w)) in
      All-weaker (λ t. (t < count) × (t % length olds ≡ by)) (λ t. t < count) (λ t p. p.0) worker.traces (manned.each by old.0 worker old.1 is).share.own

  -- ---- taking
  taken_at : (trace : ℕ) (reader : Reading S) (crew : List (Working S H)) (one other : Working S H) (t : ℕ) → trace % length crew < length crew →
      slice_get crew (trace % length crew) ≡ Some one → IsGivenBack t reader one other →
      ((worker : Working S H) → slice_get crew (trace % length crew) ≡ Some worker → (rest : List ℕ) × (worker.traces ≡ trace ∷ rest)) →
      IsTaken trace reader crew (set crew (trace % length crew) other)
  taken_at trace reader crew one other t within there back first = record {
    number = length-set crew (trace % length crew) other;
    here = λ old new was now_is.
        let old_is : one ≡ old = same_Some one old (sym there ∙ was) in
        let new_is : other ≡ new = same_Some other new (sym (slice_get-set_same crew (trace % length crew) other within) ∙ now_is) in
        subst (λ (o : Working S H). (o.traces ≡ trace ∷ new.traces) × (o.readers ≡ reader ∷ new.readers)
        × (new ≡ record o { traces = new.traces; readers = new.readers })) old_is
        (subst (λ (n : Working S H). (one.traces ≡ trace ∷ n.traces) × (one.readers ≡ reader ∷ n.readers)
        × (n ≡ record one { traces = n.traces; readers = n.readers })) new_is (first_is, back.readers_are, back.others_are));
    others = λ by apart. slice_get-set_other crew (trace % length crew) by other apart;
  }
    where
      first_is : one.traces ≡ trace ∷ other.traces
      first_is =
          let head = first one there in
          let same : t ≡ trace = (let e = sym back.traces_are ∙ head.1 in cc) in
          back.traces_are ∙ ap (λ n. n ∷ other.traces) same

  pub taken_one : (trace : ℕ) (reader : Reading S) (crew : List (Working S H)) (d other : Working S H) (t : ℕ) → trace % length crew < length crew →
      IsGivenBack t reader (get_or crew (trace % length crew) d) other →
      ((worker : Working S H) → slice_get crew (trace % length crew) ≡ Some worker → (rest : List ℕ) × (worker.traces ≡ trace ∷ rest)) →
      IsTaken trace reader crew (set crew (trace % length crew) other)
  taken_one trace reader crew d other t within back first =
      taken_at trace reader crew (get_or crew (trace % length crew) d) other t within (slice_get-get_or crew (trace % length crew) d within) back first

  -- a worker whose first trace is told has one
  pub none_first : (trace : ℕ) (crew : List (Working S H)) (d : Working S H) → trace % length crew < length crew →
      ((worker : Working S H) → slice_get crew (trace % length crew) ≡ Some worker → (rest : List ℕ) × (worker.traces ≡ trace ∷ rest)) →
      (get_or crew (trace % length crew) d).traces ≡ [] → ⊥
  none_first trace crew d within first none =
      let head = first (get_or crew (trace % length crew) d) (slice_get-get_or crew (trace % length crew) d within) in
      let clash = sym head.1 ∙ none in
      cc

  module _ (count : ℕ) (olds mids : List (Working S H)) (back : List (Reading S)) (shared : AreShared count olds) (trace : ℕ) (below : trace < count) (part : ArePartTaken trace olds mids back)
      (some : 1 ≤ length olds) where
    old_one : (old : Working S H) × (slice_get olds (trace % length olds) ≡ Some old)
    old_one = some_at olds (trace % length olds) (omega (arith, some))

    share : IsShare (length olds) count (trace % length olds) old_one.0.traces
    share = (shared (trace % length olds) old_one.0 old_one.1).0

    place_of : (place : ℕ) × (slice_get old_one.0.traces place ≡ Some trace)
    place_of = share.all trace below refl

    -- the first that is left of its worker is this trace
    at_place : (now : Working S H) → (p : IsPartTaken trace old_one.0 now) → p.taken ≡ place_of.0
    at_place now p = elim (cases_lt p.taken place_of.0) [
      | inl less ↦ absurd (let head = some_at old_one.0.traces p.taken (let w = slice_get_within old_one.0.traces place_of.0 trace place_of.1 in omega (arith, less, w)) in
          clash head.0 head.1 less)
      | inr most ↦ elim (cases_lt place_of.0 p.taken) [
        | inl before ↦ absurd (let b = (p.first place_of.0 trace place_of.1).0 before in omega (arith, b))
        | inr few ↦ omega (arith, most, few)
      ]
    ]
      where
        clash : (head : ℕ) → slice_get old_one.0.traces p.taken ≡ Some head → p.taken < place_of.0 → ⊥
        clash head is less = elim (cases_lt head trace) [
          | inl lower ↦ let b = (p.first p.taken head is).1 lower in omega (arith, b)
          | inr most ↦ elim (cases_eq head trace) [
            | inl same ↦ let e = share.once p.taken place_of.0 trace (is ∙ ap Some same) place_of.1 in omega (arith, e, less)
            | inr apart ↦ let b = share.ascend place_of.0 p.taken trace head place_of.1 is (omega (arith, most, apart)) in omega (arith, b, less)
          ]
        ]

    pub first_left : (worker : Working S H) → slice_get mids (trace % length mids) ≡ Some worker → (rest : List ℕ) × (worker.traces ≡ trace ∷ rest)
    first_left worker is =
        let here : slice_get mids (trace % length olds) ≡ Some worker = ap (λ n. slice_get mids (trace % n)) (sym part.number) ∙ is in
        let p = part.each (trace % length olds) old_one.0 worker old_one.1 here in
        (drop (suc place_of.0) old_one.0.traces, p.traces_are ∙ (ap (λ n. drop n old_one.0.traces) (at_place worker p) ∙ rest_at place_of.0 old_one.0.traces trace place_of.1))

    module _ (news : List (Working S H)) (got : Reading S) (took : IsTaken trace got mids news) where
      -- its worker has one less
      one_less : (mid new : Working S H) → slice_get mids (trace % length olds) ≡ Some mid → slice_get news (trace % length olds) ≡ Some new
          → (p : IsPartTaken trace old_one.0 mid) →
          IsPartTaken (trace + 1) old_one.0 new × ((reader : Reading S) → slice_get old_one.0.readers place_of.0 ≡ Some reader → got ≡ reader)
      one_less mid new mid_is new_is p = (
        record {
          taken = suc place_of.0;
          traces_are = rest_is place_of.0 old_one.0.traces trace new.traces traces_drop;
          readers_are = rest_is place_of.0 old_one.0.readers got new.readers readers_drop;
          kept = made.2 ∙ ap (λ (m : Working S H). record m { traces = new.traces; readers = new.readers }) p.kept;
          first = λ place other there. (
            (λ less. elim (cases_eq place place_of.0) [
              | inl same ↦ (let e = same_Some other trace (sym there ∙ (ap (slice_get old_one.0.traces) same ∙ place_of.1)) in omega (arith, e))
              | inr apart ↦ (let b = (p.first place other there).0 (let t = at_place mid p in omega (arith, t, less, apart)) in omega (arith, b))
            ]),
            λ less. elim (cases_eq other trace) [
              | inl same ↦ (let e = share.once place place_of.0 trace (there ∙ ap Some same) place_of.1 in omega (arith, e))
              | inr apart ↦ (let b = (p.first place other there).1 (omega (arith, less, apart)) in let t = at_place mid p in omega (arith, b, t))
            ],
          );
        },
        λ reader is. same_Some got reader (sym (given_there place_of.0 old_one.0.readers got new.readers readers_drop) ∙ is),
      )
        where
          made : (mid.traces ≡ trace ∷ new.traces) × (mid.readers ≡ got ∷ new.readers) × (new ≡ record mid { traces = new.traces; readers = new.readers })
          made = took.here mid new (ap (λ n. slice_get mids (trace % n)) part.number ∙ mid_is) (ap (λ n. slice_get news (trace % n)) part.number ∙ new_is)

          traces_drop : drop place_of.0 old_one.0.traces ≡ trace ∷ new.traces
          traces_drop = ap (λ n. drop n old_one.0.traces) (sym (at_place mid p)) ∙ (sym p.traces_are ∙ made.0)

          readers_drop : drop place_of.0 old_one.0.readers ≡ got ∷ new.readers
          readers_drop = ap (λ n. drop n old_one.0.readers) (sym (at_place mid p)) ∙ (sym p.readers_are ∙ made.1)

      pub part_more : ArePartTaken (trace + 1) olds news (back ++ got ∷ [])
      part_more = record {
        number = took.number ∙ part.number;
        taken = (let n = part.taken in let sum = length-append back (got ∷ []) in omega (arith, n, sum));
        each = λ by old now was is. each by old now was is (cases_eq by (trace % length olds));
        readers_are = λ by place t old reader was there reader_is less. elim (cases_eq t trace) [
          | inl same ↦ last by place t old reader was there reader_is same
          | inr apart ↦ kept_at back got reader t (part.readers_are by place t old reader was there reader_is (omega (arith, less, apart)))
        ];
      }
        where
          mid_at : (by : ℕ) (old : Working S H) → slice_get olds by ≡ Some old → (mid : Working S H) × (slice_get mids by ≡ Some mid)
          mid_at by old was = some_at mids by (let n = part.number in let w = slice_get_within olds by old was in omega (arith, n, w))

          each : (by : ℕ) (old now : Working S H) → slice_get olds by ≡ Some old → slice_get news by ≡ Some now
              → (by ≡ trace % length olds) ⊎ (by ≢ trace % length olds) →
              IsPartTaken (trace + 1) old now
          each by old now was is (inl here) =
              let old_same : old_one.0 ≡ old = same_Some old_one.0 old (sym old_one.1 ∙ (ap (slice_get olds) (sym here) ∙ was)) in
              let mid = mid_at (trace % length olds) old_one.0 old_one.1 in
              subst (λ (o : Working S H). IsPartTaken (trace + 1) o now) old_same
              (one_less mid.0 now mid.1 (ap (slice_get news) (sym here) ∙ is) (part.each (trace % length olds) old_one.0 mid.0 old_one.1 mid.1)).0
          each by old now was is (inr apart) =
              let apart_mids : by ≢ trace % length mids = λ e. apart (e ∙ ap (λ n. trace % n) part.number) in
              let p = part.each by old now was (sym (took.others by apart_mids) ∙ is) in
              let one = (shared by old was).0 in
              record {
                taken = p.taken;
                traces_are = p.traces_are;
                readers_are = p.readers_are;
                kept = p.kept;
                first = λ place t there. (
                  (λ less. (let b = (p.first place t there).0 less in omega (arith, b))),
                  λ less. elim (cases_eq t trace) [
                    | inl same ↦ absurd (apart (sym (below_at (length olds) count by old.traces one place t there).1 ∙ ap (λ n. n % length olds) same))
                    | inr other ↦ (p.first place t there).1 (omega (arith, less, other))
                  ],
                );
              }

          last : (by place t : ℕ) (old : Working S H) (reader : Reading S) → slice_get olds by ≡ Some old → slice_get old.traces place ≡ Some t → slice_get old.readers
              place ≡ Some reader →
              t ≡ trace → slice_get (back ++ got ∷ []) t ≡ Some reader
          last by place t old reader was there reader_is same =
              let by_is : trace % length olds ≡ by = ap (λ n. n % length olds) (sym same) ∙ (below_at (length olds) count by old.traces (shared by old was).0 place t there).1 in
              let old_same : old ≡ old_one.0 = same_Some old old_one.0 (sym was ∙ (ap (slice_get olds) (sym by_is) ∙ old_one.1)) in
              let place_same : place ≡ place_of.0 =
              share.once place place_of.0 trace (ap (λ (o : Working S H). slice_get o.traces place) (sym old_same) ∙ (there ∙ ap Some same)) place_of.1 in
              let mid = mid_at (trace % length olds) old_one.0 old_one.1 in
              let new = some_at news (trace % length olds) (let n = part.number in let m = took.number in let w =
              slice_get_within olds (trace % length olds) old_one.0 old_one.1 in omega (arith, n, m, w)) in
              let reader_here : slice_get old_one.0.readers place_of.0 ≡ Some reader =
              ap (slice_get old_one.0.readers) (sym place_same) ∙ (ap (λ (o : Working S H). slice_get o.readers place) (sym old_same) ∙ reader_is) in
              let got_is = (one_less mid.0 new.0 mid.1 new.1 (part.each (trace % length olds) old_one.0 mid.0 old_one.1 mid.1)).1 reader reader_here in
              ap (slice_get (back ++ got ∷ [])) (same ∙ sym part.taken) ∙ (slice_get_seam back got [] ∙ ap Some got_is)

  -- all of them
  pub all_taken : (count : ℕ) (olds news : List (Working S H)) (back : List (Reading S)) → AreShared count olds → ArePartTaken count olds news back → WereTaken count olds news back
  all_taken count olds news back shared part = record {
    number = part.number;
    taken = part.taken;
    none_left = λ by new is.
        let old = some_at olds by (let n = part.number in let w = slice_get_within news by new is in omega (arith, n, w)) in
        let p = part.each by old.0 new old.1 is in
        p.traces_are ∙ drop_all p.taken old.0.traces (long by old.0 new old.1 p (cases_lt p.taken (length old.0.traces)));
    kept = λ by old new was is. (part.each by old new was is).kept;
    readers_are = λ by place trace old reader was there reader_is.
        part.readers_are by place trace old reader was there reader_is (below_at (length olds) count by old.traces (shared by old was).0 place trace there).0;
  }
    where
      long : (by : ℕ) (old new : Working S H) → slice_get olds by ≡ Some old → (p : IsPartTaken count old new)
          → (p.taken < length old.traces) ⊎ (length old.traces ≤ p.taken) →
          length old.traces ≤ p.taken
      long by old new was p (inr most) = most
      long by old new was p (inl less) =
          let head = some_at old.traces p.taken less in
          absurd (let b = (p.first p.taken head.0 head.1).1 (below_at (length olds) count by old.traces (shared by old was).0 p.taken head.0 head.1).0 in omega (arith, b))
