-- The texts of keys that are written block by block.
use Rattle.std.proofs.Common.{◌≡◌, ℕ, zero, suc, ◌+◌, ◌-◌, ◌<◌, ◌≤◌, List, [], ◌∷◌, ◌++◌, length, map, take, Option, Some, Result, Ok, Err}
use Rattle.std.proofs.Common.{OnErr, ap, ap₂, sym, ◌∙◌, subst, arith, append_assoc, length-append}
use Rattle.std.proofs.Math.Seq.{take-append-add}
use Rattle.std.proofs.lemmas.List.{map-append, take-append-le}
use Rattle.std.proofs.lemmas.List.Concat.{flat_map-append}
use Rattle.std.specs.List.{flat_map, range_with_len}
use Rattle.byteorder.specs.Endian.{little_bytes}
use Rattle.lert_io.specs.declared.faulty.Failed.{Failed}
use Rattle.lert_io.proofs.Rising.{risen_since}
use Rattle.lert_gen.specs.Generated.{generated, key_at, trace_of}
use Rattle.lert_gen.specs.Writing.{Appends}

pub range-split : (first m n : ℕ) → range_with_len first (m + n) ≡ range_with_len first m ++ range_with_len (first + m) n
range-split first zero n = ap₂ range_with_len (let same : first ≡ first + 0 = omega arith in same) (let same : 0 + n ≡ n = omega arith in same)
range-split first (suc m) n =
    let same : first + 1 + m ≡ first + suc m = omega arith in
    ap (range_with_len first) (let same : suc m + n ≡ suc (m + n) = omega arith in same)
    ∙ ap (λ xs. first ∷ xs) (range-split (first + 1) m n ∙ ap (λ k. range_with_len (first + 1) m ++ range_with_len k n) same)

-- the text of the keys of so many events behind those that are done
abbrev pub keys_text : ℕ → ℕ → ℕ → List ℕ
keys_text seed done count = flat_map (little_bytes 8) (map (key_at seed) (range_with_len (done + 1) count))

pub keys_text-split : (seed done m n : ℕ) → keys_text seed done (m + n) ≡ keys_text seed done m ++ keys_text seed (done + m) n
keys_text-split seed done m n =
    let place : done + 1 + m ≡ done + m + 1 = omega arith in
    ap (λ xs. flat_map (little_bytes 8) (map (key_at seed) xs)) (range-split (done + 1) m n)
    ∙ ap (flat_map (little_bytes 8)) (map-append (key_at seed) (range_with_len (done + 1) m) (range_with_len (done + 1 + m) n))
    ∙ flat_map-append (little_bytes 8) (map (key_at seed) (range_with_len (done + 1) m)) (map (key_at seed) (range_with_len (done + 1 + m) n))
    ∙ ap (λ k. keys_text seed done m ++ flat_map (little_bytes 8) (map (key_at seed) (range_with_len k n))) place

-- a key more
pub keys_text-more : (seed done n : ℕ) → keys_text seed done (n + 1) ≡ keys_text seed done n ++ little_bytes 8 (key_at seed (done + n + 1))
keys_text-more seed done n = keys_text-split seed done n 1

-- a trace is that of its first events and the keys of the others
pub trace-split : (seed done rest : ℕ) → trace_of (generated seed (done + rest)) ≡ trace_of (generated seed done) ++ keys_text seed done rest
trace-split seed done rest =
    ap (λ xs. trace_of [] ++ xs) (keys_text-split seed 0 done rest ∙ ap (λ n. keys_text seed 0 done ++ keys_text seed n rest) (let same : 0 + done ≡ done = omega arith in same))

pub on_err : {T E P : Type 0} (r : Result T E) → P → OnErr r P
on_err (Ok x) p = tt
on_err (Err e) p = p

module _ {K : Type 0} (taken : K → Option (List ℕ)) (faults mark : K → ℕ) where
  -- a text behind one that was written
  pub Appends-behind : (from mid now : K) (text more : List ℕ) (result : Result (Unit {0}) Failed) →
      Appends taken faults mark from mid text (Ok tt) → Appends taken faults mark mid now more result → Appends taken faults mark from now (text ++ more) result
  Appends-behind from mid now text more (Ok x) first next = record {
    told = λ before was. next.told (before ++ text) (first.told before was) ∙ ap Some (append_assoc before text more);
    part = λ before was. tt;
    untold = λ was. next.untold (first.untold was);
    cause = record { never_falls = omega (arith, first.cause.never_falls, next.cause.never_falls); failed = λ is. absurd (cc) };
    mark_kept = next.mark_kept ∙ first.mark_kept;
  }
  Appends-behind from mid now text more (Err fault) first next = record {
    told = λ before was. tt;
    part = λ before was.
        let x = next.part (before ++ text) (first.told before was) in (
          length text + x.0,
          omega (arith, x.1, length-append text more),
          x.2 ∙ ap Some (append_assoc before text (take x.0 more) ∙ ap (λ xs. before ++ xs) (sym (take-append-add text more x.0))),
        );
    untold = λ was. next.untold (first.untold was);
    cause = record {
      never_falls = omega (arith, first.cause.never_falls, next.cause.never_falls);
      failed = λ is. risen_since (faults from) (faults mid) (faults now) first.cause.never_falls next.cause.never_falls (next.cause.failed is);
    };
    mark_kept = next.mark_kept ∙ first.mark_kept;
  }

  -- a part of a text is a part of a longer one
  pub part_of : (from now : K) (text more : List ℕ) (fault : Failed) → Appends taken faults mark from now text (Err fault) → (before : List ℕ) → taken from ≡ Some before →
      (count : ℕ) × (count < length (text ++ more)) × (taken now ≡ Some (before ++ take count (text ++ more)))
  part_of from now text more fault is before was =
      let x = is.part before was in
      (x.0, omega (arith, x.1, length-append text more), x.2 ∙ ap (λ xs. Some (before ++ xs)) (sym (take-append-le x.0 text more (omega (arith, x.1)))))

  pub part_of_trace : (from now : K) (seed done events : ℕ) (fault : Failed) → done ≤ events → Appends taken faults mark from now (trace_of (generated seed done)) (Err fault) →
      (before : List ℕ) → taken from ≡ Some before →
      (count : ℕ) × (count < length (trace_of (generated seed events))) × (taken now ≡ Some (before ++ take count (trace_of (generated seed events))))
  part_of_trace from now seed done events fault within is before was =
      let whole : trace_of (generated seed done) ++ keys_text seed done (events - done) ≡ trace_of (generated seed events) =
      sym (trace-split seed done (events - done)) ∙ ap (λ n. trace_of (generated seed n)) (omega arith) in
      subst (λ text. (count : ℕ) × (count < length text) × (taken now ≡ Some (before ++ take count text))) whole
      (part_of from now (trace_of (generated seed done)) (keys_text seed done (events - done)) fault is before was)
