-- Where a reader stands in the bytes of its source, and what that says of the next item.
use Rattle.std.proofs.Common.{◌≡◌, ℕ, ◌+◌, ◌*◌, ◌<◌, ◌≤◌, Bool, true, false, List, [], length, drop, slice_get, Option, Some, None, refl, ap, sym, ◌∙◌, subst, arith, length-append}
use Rattle.std.proofs.Common.{length-drop, below_more}
use Rattle.std.proofs.lemmas.List.{drop-append-le, drop-drop}
use Rattle.lert_trace.specs.Trace.{full_len, header_len, item_at, item_size, place_of, version_in, whole}
use Rattle.lert_trace.specs.declared.fault.TraceFault.{TraceFault}
use Rattle.lert_trace.specs.Reader.{IsReader, IsTraceOf, LeavesItem, Stands}
use Rattle.lert_trace.specs.Window.{StillAhead, IsAtEnd, item_in}
use Rattle.lert_trace.proofs.Format.{sizes, full-more, item_ahead, more_whole, slice_get-whole, LeavesAt-weight, LeavesAt-cut, IsTraceOf-end}

module _ (bytes pending : List ℕ) (remaining : Option (List ℕ)) (version given : ℕ) (stands : Stands bytes pending remaining version true given) where
  length-stands : length bytes ≡ place_of version given + (length pending + length stands.rest)
  length-stands =
      omega (arith, stands.within, ap length stands.ahead, length-drop (place_of version given) bytes, length-append pending stands.rest)

  length-at_end : remaining ≡ Some [] → length bytes ≡ place_of version given + length pending
  length-at_end end =
      let none : stands.rest ≡ [] = cc (stands.remains, end) in
      omega (arith, length-stands, ap length none)

  -- the item in front
  item-ahead : item_size version ≤ length pending → item_at version bytes given ≡ item_in version pending
  unfolding item_at
  item-ahead enough = item_ahead version (place_of version given) bytes pending stands.rest stands.ahead enough

-- what the bytes are, where the reader knows their version
module _ (bytes pending : List ℕ) (remaining : Option (List ℕ)) (given : ℕ) (stands : Stands bytes pending remaining (version_in bytes) true given) where
  begins : header_len bytes ≡ 8
  begins = (stands.header refl).0

  within_full : item_size (version_in bytes) ≤ length pending → given < full_len bytes
  within_full enough =
      full-more (item_size (version_in bytes)) given (length bytes) (length pending + length stands.rest) (sizes (version_in bytes))
      (length-stands bytes pending remaining (version_in bytes) given stands) (omega (arith, enough))

  item_is : item_size (version_in bytes) ≤ length pending → item_at (version_in bytes) bytes given ≡ item_in (version_in bytes) pending
  item_is enough = item-ahead bytes pending remaining (version_in bytes) given stands enough

  weight_is : item_size (version_in bytes) ≤ length pending → (item_at (version_in bytes) bytes given).weight ≡ (item_in (version_in bytes) pending).weight
  weight_is enough = ap (λ item. item.weight) (item_is enough)

  here_none : remaining ≡ Some [] → length pending ≡ 0 → IsTraceOf bytes given
  here_none end none =
      IsTraceOf-end bytes begins given (length pending) (omega (arith, none, sizes (version_in bytes))) (length-at_end bytes pending remaining (version_in bytes) given stands end)
      stands.weighed none

  here_cut : remaining ≡ Some [] → (length pending ≡ 0 → ⊥) → length pending < item_size (version_in bytes) →
      LeavesItem bytes (place_of (version_in bytes) given) given 0
  here_cut end some few = record {
    leaves =
        LeavesAt-cut bytes begins given (length pending) few (length-at_end bytes pending remaining (version_in bytes) given stands end) stands.weighed some;
    place_is = omega arith;
  }

  here_weightless : item_size (version_in bytes) ≤ length pending → (item_in (version_in bytes) pending).weight ≡ 0 →
      LeavesItem bytes (place_of (version_in bytes) given + 8) given 8
  here_weightless enough zero = record {
    leaves = LeavesAt-weight bytes begins given (within_full enough) stands.weighed (weight_is enough ∙ zero);
    place_is = refl;
  }

  here_more : item_size (version_in bytes) ≤ length pending → 1 ≤ (item_in (version_in bytes) pending).weight → given < length (whole bytes)
  here_more enough weight = more_whole bytes begins given (within_full enough) stands.weighed (subst (λ w. 1 ≤ w) (sym (weight_is enough)) weight)

  here_item : item_size (version_in bytes) ≤ length pending → 1 ≤ (item_in (version_in bytes) pending).weight →
      slice_get (whole bytes) given ≡ Some (item_in (version_in bytes) pending)
  here_item enough weight =
      slice_get-whole bytes begins given (within_full enough) stands.weighed (subst (λ w. 1 ≤ w) (sym (weight_is enough)) weight)
      ∙ ap Some (item_is enough)

-- a reading call leaves the reader where it stands
pub Stands-read : (bytes pending pending' : List ℕ) (remaining remaining' : Option (List ℕ)) (version : ℕ) (begun : Bool) (given : ℕ) →
    Stands bytes pending remaining version begun given → StillAhead remaining remaining' pending pending' →
    Stands bytes pending' remaining' version begun given
Stands-read bytes pending pending' remaining remaining' version begun given stands still =
    let x = still.told stands.rest stands.remains in
    record { rest = x.0; remains = x.1; ahead = stands.ahead ∙ sym x.2; within = stands.within; header = stands.header; weighed = stands.weighed }

-- an item further on
Stands-item : (bytes pending : List ℕ) (remaining : Option (List ℕ)) (version given : ℕ) → Stands bytes pending remaining version true given →
    item_size version ≤ length pending → 1 ≤ (item_in version pending).weight → Stands bytes (drop (item_size version) pending) remaining version true (given + 1)
Stands-item bytes pending remaining version given stands enough weight = record {
  rest = stands.rest;
  remains = stands.remains;
  ahead =
      ap (λ n. drop n bytes) (further (item_size version))
      ∙ sym (drop-drop (item_size version) (place_of version given) bytes)
      ∙ ap (λ xs. drop (item_size version) xs) stands.ahead
      ∙ drop-append-le (item_size version) pending stands.rest enough;
  within = omega (arith, further (item_size version), length-stands bytes pending remaining version given stands, enough);
  header = stands.header;
  weighed =
      below_more (λ n. 1 ≤ (item_at version bytes n).weight) given stands.weighed
      (subst (λ (item : _). 1 ≤ item.weight) (sym (item-ahead bytes pending remaining version given stands enough)) weight);
}
  where
    further : (size : ℕ) → 8 + size * (given + 1) ≡ (8 + size * given) + size
    further size = omega arith

module _ {S : Type 0} (remaining : S → Option (List ℕ)) (faults mark : S → ℕ) (made source source' : S) (pending pending' : List ℕ)
    (limit version given : ℕ) (begun : Bool) (fault : Option TraceFault)
    (is : IsReader remaining faults mark made source pending limit version given begun fault)
    (falls : faults source ≤ faults source') (marked : mark source' ≡ mark source) (sound : fault ≡ None) where
  pub IsReader-read : StillAhead (remaining source) (remaining source') pending pending' →
      IsReader remaining faults mark made source' pending' limit version given begun fault
  IsReader-read still = record {
    stands = λ bytes was. Stands-read bytes pending pending' _ _ version begun given (is.stands bytes was) still;
    untold = λ was. still.untold (is.untold was);
    never_falls = omega (arith, is.never_falls, falls);
    marked = marked ∙ is.marked;
    within = is.within;
    versioned = is.versioned;
    small = is.small;
    fresh = is.fresh;
    caused = λ f was. absurd (none_is_some (sym sound ∙ was));
  }
    where
      none_is_some : {f : TraceFault} → None ≡ Some f → ⊥
      none_is_some h = cc

-- a reader that has begun, after a call that reads: what the next item is, and what it says that there is none
module _ {S : Type 0} (remaining : S → Option (List ℕ)) (faults mark : S → ℕ) (made source : S) (pending pending' : List ℕ)
    (remaining' : Option (List ℕ)) (limit version given : ℕ) (begun : Bool) (fault : Option TraceFault)
    (is : IsReader remaining faults mark made source pending limit version given begun fault) (has_begun : begun ≡ true)
    (still : StillAhead (remaining source) remaining' pending pending') (bytes : List ℕ) (was : remaining made ≡ Some bytes) where
  after : Stands bytes pending' remaining' version true given
  after =
      Stands-read bytes pending pending' (remaining source) remaining' version true given
      (subst (λ b. Stands bytes pending (remaining source) version b given) has_begun (is.stands bytes was)) still

  known : version ≡ version_in bytes
  known = (after.header refl).1

  after_known : Stands bytes pending' remaining' (version_in bytes) true given
  after_known = subst (λ v. Stands bytes pending' remaining' v true given) known after

  at_end : IsAtEnd (remaining source) remaining' → remaining' ≡ Some []
  at_end end = let stands = is.stands bytes was in end stands.rest stands.remains

  pub next_none : IsAtEnd (remaining source) remaining' → length pending' ≡ 0 → IsTraceOf bytes given × (remaining' ≡ Some [])
  next_none end none = (here_none bytes pending' remaining' given after_known (at_end end) none, at_end end)

  pub next_cut : IsAtEnd (remaining source) remaining' → (length pending' ≡ 0 → ⊥) → length pending' < item_size version →
      LeavesItem bytes (place_of version given) given 0
  next_cut end some =
      subst (λ v. length pending' < item_size v → LeavesItem bytes (place_of v given) given 0) (sym known)
      (here_cut bytes pending' remaining' given after_known (at_end end) some)

  pub next_weightless : item_size version ≤ length pending' → (item_in version pending').weight ≡ 0 → LeavesItem bytes (place_of version given + 8) given 8
  next_weightless =
      subst (λ v. item_size v ≤ length pending' → (item_in v pending').weight ≡ 0 → LeavesItem bytes (place_of v given + 8) given 8) (sym known)
      (here_weightless bytes pending' remaining' given after_known)

  pub next_more : item_size version ≤ length pending' → 1 ≤ (item_in version pending').weight → given < length (whole bytes)
  next_more =
      subst (λ v. item_size v ≤ length pending' → 1 ≤ (item_in v pending').weight → given < length (whole bytes)) (sym known)
      (here_more bytes pending' remaining' given after_known)

  pub next_item : item_size version ≤ length pending' → 1 ≤ (item_in version pending').weight → slice_get (whole bytes) given ≡ Some (item_in version pending')
  next_item =
      subst (λ v. item_size v ≤ length pending' → 1 ≤ (item_in v pending').weight → slice_get (whole bytes) given ≡ Some (item_in v pending')) (sym known)
      (here_item bytes pending' remaining' given after_known)

-- a reader that takes the pending item in front
module _ {S : Type 0} (remaining : S → Option (List ℕ)) (faults mark : S → ℕ) (made source source' : S) (pending pending' : List ℕ)
    (limit version given : ℕ) (begun : Bool) (fault : Option TraceFault)
    (is : IsReader remaining faults mark made source pending limit version given begun fault) (same : source' ≡ source) where
  pub IsReader-item : begun ≡ true → item_size version ≤ length pending → 1 ≤ (item_in version pending).weight → pending' ≡ drop (item_size version) pending →
      given < limit → fault ≡ None → IsReader remaining faults mark made source' pending' limit version (given + 1) begun fault
  IsReader-item has_begun enough weight rest below sound = record {
    stands = λ bytes was.
        let here = subst (λ b. Stands bytes pending (remaining source) version b given) has_begun (is.stands bytes was) in
        let next = Stands-item bytes pending (remaining source) version given here enough weight in
        let rested = subst (λ xs. Stands bytes xs (remaining source) version true (given + 1)) (sym rest) next in
        let moved = subst (λ r. Stands bytes pending' r version true (given + 1)) (sym (ap remaining same)) rested in
        subst (λ b. Stands bytes pending' (remaining source') version b (given + 1)) (sym has_begun) moved;
    untold = λ was. ap remaining same ∙ is.untold was;
    never_falls = subst (λ n. faults made ≤ n) (sym (ap faults same)) is.never_falls;
    marked = ap mark same ∙ is.marked;
    within = omega (arith, below);
    versioned = is.versioned;
    small = is.small;
    fresh = λ not_begun. absurd (both (sym has_begun ∙ not_begun));
    caused = λ f was. absurd (none_is_some (sym sound ∙ was));
  }
    where
      both : true ≡ false → ⊥
      both h = cc

      none_is_some : {f : TraceFault} → None ≡ Some f → ⊥
      none_is_some h = cc
