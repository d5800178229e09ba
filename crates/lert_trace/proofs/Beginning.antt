-- What a reader knows once the header was taken, or couldn't be.
use Rattle.std.proofs.Common.{◌≡◌, ℕ, ◌+◌, ◌-◌, ◌*◌, ◌%◌, ◌<◌, ◌≤◌, Bool, true, false, ltb, eqb, cond, List, [], ◌++◌, length, drop, Option, Some, None, ap, sym, ◌∙◌, subst, inl, inr, arith, lt-ltb}
use Rattle.std.proofs.lemmas.Bool.{cases_lt}
use Rattle.std.specs.List.{prefix_len, take_while}
use Rattle.lert_io.specs.{Fault.HasRisen, Reading.IfTold}
use Rattle.lert_trace.specs.Trace.{full, full_len, header_len, item_size, place_of, trace_header, version_in, weighs}
use Rattle.lert_trace.specs.{declared.fault.TraceFault.TraceFault, declared.fault.TraceFault.TheVariants.{ReadFailed, BadHeader, CutKey, TooLong, ZeroWeight}, Header.HeaderFault}
use Rattle.lert_trace.specs.Reader.{IsReader, LeavesAt, Means, Stands}
use Rattle.lert_trace.proofs.{Agreed.agreed-le_bytes}

-- bytes that differ from a header leave the format there, and have no whole item
LeavesAt-header : (bytes : List ℕ) (at given : ℕ) → header_len bytes ≡ at → at < 8 → given ≡ 0 → LeavesAt bytes at given
LeavesAt-header bytes at given begins below none =
    let early : ltb (header_len bytes) 8 ≡ true = ap (λ n. ltb n 8) begins ∙ lt-ltb at 8 below in
    record {
      place =
          ap (λ b. cond b (Some (header_len bytes)) (cond (ltb (prefix_len weighs (full bytes)) (full_len bytes)) (Some (place_of (version_in bytes) (prefix_len weighs (full bytes)) + 8))
          (cond (eqb ((length bytes - 8) % item_size (version_in bytes)) 0) None (Some (length bytes - (length bytes - 8) % item_size (version_in bytes)))))) early
          ∙ ap Some begins;
      behind = ap (λ b. length (cond b [] (take_while weighs (full bytes)))) early ∙ sym none;
    }

-- the first item begins behind the header
place_of_none : (version given : ℕ) → given ≡ 0 → place_of version given ≡ 8
place_of_none version given none = times_none (item_size version) given none
  where
    times_none : (size n : ℕ) → n ≡ 0 → 8 + size * n ≡ 8
    times_none size n zero = ap (λ m. 8 + size * m) zero ∙ omega arith

HasRisen-earlier : (earlier before now : ℕ) → earlier ≤ before → before ≤ now → HasRisen before now → HasRisen earlier now
HasRisen-earlier earlier before now falls grows rose below =
    elim (cases_lt before 18446744073709551615) [ inl is_below ↦ omega (arith, rose is_below) | inr is_last ↦ omega arith ]

module _ {S : Type 0} (remaining : S → Option (List ℕ)) (faults mark : S → ℕ) (made source source' : S) (pending : List ℕ)
    (limit version given : ℕ) (begun : Bool) (fault : Option TraceFault)
    (is : IsReader remaining faults mark made source pending limit version given begun fault) (not_begun : begun ≡ false)
    (falls : faults source ≤ faults source') where
  at_start : (bytes : List ℕ) → remaining made ≡ Some bytes → Stands bytes pending (remaining source) version false given
  at_start bytes was = subst (λ b. Stands bytes pending (remaining source) version b given) not_begun (is.stands bytes was)

  pub Means-header : (f : TraceFault) → HeaderFault (remaining source) pending (faults source) (faults source') f →
      Means remaining faults made source' limit given f
  Means-header ReadFailed rose = λ below. HasRisen-earlier (faults made) (faults source) (faults source') is.never_falls falls rose below
  Means-header (BadHeader at) differs = (
    differs.0,
    λ bytes was.
        let stands = at_start bytes was in
        LeavesAt-header bytes at given (ap header_len stands.ahead ∙ differs.1 stands.rest stands.remains) differs.0 (is.fresh not_begun),
  )
  Means-header (CutKey at) never = absurd never
  Means-header TooLong never = absurd never
  Means-header (ZeroWeight at) never = absurd never

  pub IsReader-header : (pending' : List ℕ) (version' : ℕ) → mark source' ≡ mark source → fault ≡ None →
      IfTold (remaining source) (λ bytes. header_len (pending ++ bytes) ≡ 8) →
      IfTold (remaining source) (λ bytes. version' ≡ version_in (pending ++ bytes)) → (1 ≤ version') × (version' ≤ 2) →
      IfTold (remaining source) (λ bytes. (rest : List ℕ) × (remaining source' ≡ Some rest) × (pending' ++ rest ≡ drop 8 (pending ++ bytes))) →
      (remaining source ≡ None → remaining source' ≡ None) →
      IsReader remaining faults mark made source' pending' limit version' given true fault
  IsReader-header pending' version' marked sound header named versioned taken untold = record {
    stands = λ bytes was.
        let stands = at_start bytes was in
        let next = taken stands.rest stands.remains in
        let begins = ap header_len stands.ahead ∙ header stands.rest stands.remains in
        record {
          rest = next.0;
          remains = next.1;
          ahead =
              ap (λ n. drop n bytes) (place_of_none version' given (is.fresh not_begun))
              ∙ ap (λ xs. drop 8 xs) stands.ahead
              ∙ sym next.2;
          within =
              omega (arith, place_of_none version' given (is.fresh not_begun), begins, agreed-le_bytes (trace_header (version_in bytes)) bytes);
          header = λ _. (begins, named stands.rest stands.remains ∙ ap version_in (sym stands.ahead));
          weighed = λ n below. absurd (omega (arith, below, is.fresh not_begun));
        };
    untold = λ was. untold (is.untold was);
    never_falls = omega (arith, is.never_falls, falls);
    marked = marked ∙ is.marked;
    within = is.within;
    versioned = versioned;
    small = is.small;
    fresh = λ still_not. absurd (both still_not);
    caused = λ f was. absurd (none_is_some (sym sound ∙ was));
  }
    where
      both : true ≡ false → ⊥
      both h = cc

      none_is_some : {f : TraceFault} → None ≡ Some f → ⊥
      none_is_some h = cc
