-- Which fault it is that is answered, where all tell and no fault was counted.
use Rattle.std.proofs.Common.{◌≡◌, ℕ, ◌+◌, ◌^◌, ◌<◌, ◌≤◌, zero, suc, List, [], ◌∷◌, drop, length, map, Option, Some, slice_get, refl, ap, sym, ◌∙◌, subst, inl, inr, arith}
use Rattle.std.proofs.lemmas.Option.{get_or_from_slice_get, none-some, same_Some, slice_get_within}
use Rattle.lert_bay.specs.Files.{Files}
use Rattle.lert_io.specs.Fault.{HasRisen, IsFaultless}
use Rattle.lert_spec.specs.{declared.item.Item.Item, declared.numbers.Numbers.Numbers, Counts.{weighed, weight_of}, Edges.{capacity, weight_room}}
use Rattle.lert_trace.specs.Trace.{left, whole}
use Rattle.lert_base.specs.Packet.{Packet, events_of}
use Rattle.lert_ingest.specs.Past.{Past, no_past, past_of, rests_of}
use Rattle.lert_ingest.specs.{Bays.{HasFailed, IsUntold}, Stops.{AreTelling, IsExact, IsExactBehind, StopShowsBehind}}
use Rattle.lert_ingest.specs.Stops.{trace_fault, bad_trace, too_long, bay_fault, malformed, capacity_full, weight_full, out_of_memory}
use Rattle.lert_ingest.specs.{Traces.{AreBytesOf, AreItemsOf, AreRestsOf, HasTraceFailed, most_items, part_length, part_weight}, declared.status.Status.Status}
use Rattle.lert_ingest.specs.declared.status.Status.TheVariants as status
use Rattle.lert_ingest.proofs.BayLaws.{slice_get-some}

module _ {S : Type 0} (remaining : S → Option (List ℕ)) where
  -- the bytes of a trace that is told
  pub bytes_at : (opened : List S) (texts : List (List ℕ)) → AreBytesOf remaining opened texts → (trace : ℕ) (bytes : List ℕ) → slice_get texts trace ≡ Some bytes →
      (before : S) × (slice_get opened trace ≡ Some before) × (remaining before ≡ Some bytes)
  bytes_at [] [] are trace bytes is = absurd (none-some bytes is)
  bytes_at [] (text ∷ texts) are trace bytes is = absurd (let clash = are in cc)
  bytes_at (one ∷ opened) [] are trace bytes is = absurd (none-some bytes is)
  bytes_at (one ∷ opened) (text ∷ texts) are zero bytes is = (one, refl, (let head : remaining one ≡ Some text = cc in head ∙ is))
  bytes_at (one ∷ opened) (text ∷ texts) are (suc trace) bytes is = bytes_at opened texts (let tail : map remaining opened ≡ map Some texts = cc in tail) trace bytes is

  pub bytes_of : (opened : List S) (texts : List (List ℕ)) → AreBytesOf remaining opened texts → (trace : ℕ) (before : S) → slice_get opened trace ≡ Some before →
      (bytes : List ℕ) × (slice_get texts trace ≡ Some bytes) × (remaining before ≡ Some bytes)
  bytes_of [] texts are trace before is = absurd (none-some before is)
  bytes_of (one ∷ opened) [] are trace before is = absurd (let clash = are in cc)
  bytes_of (one ∷ opened) (text ∷ texts) are zero before is = (text, refl, (let head : remaining one ≡ Some text = cc in ap remaining (sym (same_Some one before is)) ∙ head))
  bytes_of (one ∷ opened) (text ∷ texts) are (suc trace) before is = bytes_of opened texts (let tail : map remaining opened ≡ map Some texts = cc in tail) trace before is

  -- the items of traces that are all told
  pub rests_same : (given : ℕ → ℕ) (opened : List S) (texts : List (List ℕ)) (traces : List (List Item)) → AreBytesOf remaining opened texts → AreRestsOf remaining given opened traces →
      traces ≡ rests_of given texts
  rests_same given [] [] [] are items = refl
  rests_same given [] [] (one ∷ traces) are items = absurd (let n = items.number in omega (arith, n))
  rests_same given [] (text ∷ texts) traces are items = absurd (let clash = are in cc)
  rests_same given (one ∷ opened) [] traces are items = absurd (let clash = are in cc)
  rests_same given (one ∷ opened) (text ∷ texts) [] are items = absurd (let n = items.number in omega (arith, n))
  rests_same given (one ∷ opened) (text ∷ texts) (first ∷ traces) are items =
      let head : remaining one ≡ Some text = cc in
      let tail : map remaining opened ≡ map Some texts = cc in
      let here = items.each 0 one first refl refl text head in
      let rest = rests_same (λ trace. given (suc trace)) opened texts traces tail
      (record { number = (let n = items.number in omega (arith, n)); each = λ trace before found. items.each (suc trace) before found }) in
      ap (λ x. x ∷ traces) here ∙ ap (λ xs. drop (given 0) (whole text) ∷ xs) rest

-- where none was given, they are all whole items
pub rests_none : (texts : List (List ℕ)) → rests_of (λ _. 0) texts ≡ map whole texts
rests_none [] = refl
rests_none (text ∷ texts) = ap (λ xs. whole text ∷ xs) (rests_none texts)

pub items_same : {S : Type 0} (remaining : S → Option (List ℕ)) (opened : List S) (texts : List (List ℕ)) (traces : List (List Item)) → AreBytesOf remaining opened texts →
    AreItemsOf remaining opened traces → traces ≡ map whole texts
items_same remaining opened texts traces are items = rests_same remaining (λ _. 0) opened texts traces are items ∙ rests_none texts

pub fault_risen : (before now : ℕ) → HasRisen before now → IsFaultless before now → ⊥
fault_risen before now rose faultless = let up = rose faultless.below_last in let same = faultless.same in omega (arith, up, same)

-- what is left that may be answered
pub data MayBe (past : Past) (s : Numbers) (texts : List (List ℕ)) : Status → Type 0 where
  may_bad : (trace at : ℕ) (bytes : List ℕ) → slice_get texts trace ≡ Some bytes → left bytes ≡ Some at → MayBe past s texts (status.BadTrace trace at)
  may_full : (cone n len : ℕ) → cone < 2 ^ s.cone_bits → capacity s < past.many cone (past.rests texts) → MayBe past s texts (status.CapacityFull cone n len)
  may_heavy : (cone weight more : ℕ) → cone < 2 ^ s.cone_bits → weight_room s < past.heavy cone (past.rests texts) → MayBe past s texts (status.WeightFull cone weight more)
  may_memory : MayBe past s texts status.OutOfMemory

module _ {S B : Type 0} (remaining : S → Option (List ℕ)) (faults : S → ℕ) (files : B → Option Files) (bay_faults : B → ℕ) (s : Numbers) (given : ℕ → ℕ)
    (before : ℕ → List Packet) (workers : ℕ) (opened were now : List S)
    (bays held later : List B) (texts : List (List ℕ)) (are : AreTelling remaining faults files bay_faults s workers opened now bays later texts) where
  no_trace_failed : (trace : ℕ) → HasTraceFailed faults opened now trace → ⊥
  no_trace_failed trace failed = fault_risen (faults failed.before) (faults failed.now) failed.rose (are.traces_faultless trace failed.before failed.now failed.was failed.is)

  no_bay_failed : (cone : ℕ) → HasFailed bay_faults bays later cone → ⊥
  no_bay_failed cone failed = fault_risen (bay_faults failed.before) (bay_faults failed.now) failed.rose (are.faultless cone failed.before failed.now failed.was failed.is)

  none_untold : (cone : ℕ) → IsUntold files bays cone → ⊥
  none_untold cone untold =
      let bay = slice_get-some bays cone untold.named in
      let seen = are.told cone bay.0 bay.1 in
      untold.untold bay.0 bay.1 seen.0 seen.1

  pub few_at : (trace : ℕ) (bytes : List ℕ) → slice_get texts trace ≡ Some bytes → length (whole bytes) ≤ most_items
  few_at trace bytes is = subst (λ (b : List ℕ). length (whole b) ≤ most_items) (get_or_from_slice_get texts trace bytes bytes is)
      (are.few trace bytes (slice_get_within texts trace bytes is))

  pub may_be : (one : Status) → StopShowsBehind (past_of s given before) remaining faults files bay_faults s workers opened were now bays held later one →
      MayBe (past_of s given before) s texts one
  may_be one (trace_fault trace failed part) = absurd (no_trace_failed trace failed)
  may_be one (bad_trace trace at bad part) =
      let found = bytes_of remaining opened texts are.bytes_are trace bad.before bad.was in
      may_bad trace at found.0 found.1 (bad.told found.0 found.2)
  may_be one (too_long trace long part) =
      let found = bytes_of remaining opened texts are.bytes_are trace long.before long.was in
      absurd (let many = long.told found.0 found.2 in let most = few_at trace found.0 found.1 in omega (arith, many, most))
  may_be one (bay_fault cone failed part) = absurd (no_bay_failed cone failed)
  may_be one (malformed cone file at untold part) = absurd (none_untold cone untold)
  may_be one (capacity_full cone n len full has trace part) =
      let same = rests_same remaining given opened texts has.traces are.bytes_are has.items in
      let enough = has.enough in
      let over = full.over in
      may_full cone n len full.named (subst (λ (ts : List (List Item)). capacity s < length (events_of (before cone)) + part_length s cone ts) same (omega (arith, enough, over)))
  may_be one (weight_full cone weight more heavy has trace part) =
      let same = rests_same remaining given opened texts has.traces are.bytes_are has.items in
      let enough = has.enough in
      let over = heavy.over in
      may_heavy cone weight more heavy.named (subst (λ (ts : List (List Item)). weight_room s < weight_of weighed (events_of (before cone)) + part_weight s cone ts) same (omega (arith, enough, over)))
  may_be one (out_of_memory same_traces same_bays) = may_memory

-- ---- the exact answer

module _ {S B : Type 0} (remaining : S → Option (List ℕ)) (faults : S → ℕ) (files : B → Option Files) (bay_faults : B → ℕ) (s : Numbers) (past : Past) (opened were now : List S) where
  -- where all tell and no fault was counted, want of memory comes
  pub exact_memory_behind : (workers : ℕ) (bays held later : List B) (ok : Type 0) (fails : Status → Type 0) →
      ((texts : List (List ℕ)) → AreTelling remaining faults files bay_faults s workers opened now bays later texts → fails status.OutOfMemory) →
      IsExactBehind past remaining faults files bay_faults s workers opened were now bays held later ok fails
  exact_memory_behind workers bays held later ok fails memory = record {
    bad = λ texts are fits trace at bytes is leaves lower. inr (memory texts are);
    full = λ texts are well over below is_over. inr (inr (memory texts are));
    complete = λ texts are well fits. inr (memory texts are);
  }

  -- what comes of a crew over some bays comes of another one over others, where it tells this
  pub exact_turned_behind : (workers others : ℕ) (bays held later olds held' news : List B) (ok ok' : Type 0) (fails fails' : Status → Type 0) →
      ((texts : List (List ℕ)) → AreTelling remaining faults files bay_faults s others opened now olds news texts →
      AreTelling remaining faults files bay_faults s workers opened now bays later texts × (ok → ok') × ((one : Status) → fails one → fails' one)) →
      IsExactBehind past remaining faults files bay_faults s workers opened were now bays held later ok fails →
      IsExactBehind past remaining faults files bay_faults s others opened were now olds held' news ok' fails'
  exact_turned_behind workers others bays held later olds held' news ok ok' fails fails' turn exact = record {
    bad = λ texts are fits trace at bytes is leaves lower. let to = turn texts are in
        elim (exact.bad texts to.0 fits trace at bytes is leaves lower) [ inl one ↦ inl (to.2 _ one) | inr memory ↦ inr (to.2 _ memory) ];
    full = λ texts are well over below is_over. let to = turn texts are in
        elim (exact.full texts to.0 well over below is_over) [
          | inl one ↦ inl (one.0, one.1, one.2, to.2 _ one.3)
          | inr others ↦ elim others [ inl one ↦ inr (inl (one.0, one.1, one.2, to.2 _ one.3)) | inr memory ↦ inr (inr (to.2 _ memory)) ]
        ];
    complete = λ texts are well fits. let to = turn texts are in
        elim (exact.complete texts to.0 well fits) [ inl done ↦ inl (to.1 done) | inr memory ↦ inr (to.2 _ memory) ];
  }

-- the same where there was nothing before
module _ {S B : Type 0} (remaining : S → Option (List ℕ)) (faults : S → ℕ) (files : B → Option Files) (bay_faults : B → ℕ) (s : Numbers) (opened now : List S) where
  pub exact_memory : (workers : ℕ) (bays later : List B) (ok : Type 0) (fails : Status → Type 0) →
      ((texts : List (List ℕ)) → AreTelling remaining faults files bay_faults s workers opened now bays later texts → fails status.OutOfMemory) →
      IsExact remaining faults files bay_faults s workers opened now bays later ok fails
  exact_memory workers bays later = exact_memory_behind remaining faults files bay_faults s (no_past s) opened opened now workers bays bays later

  pub exact_turned : (workers others : ℕ) (bays later olds news : List B) (ok ok' : Type 0) (fails fails' : Status → Type 0) →
      ((texts : List (List ℕ)) → AreTelling remaining faults files bay_faults s others opened now olds news texts →
      AreTelling remaining faults files bay_faults s workers opened now bays later texts × (ok → ok') × ((one : Status) → fails one → fails' one)) →
      IsExact remaining faults files bay_faults s workers opened now bays later ok fails → IsExact remaining faults files bay_faults s others opened now olds news ok' fails'
  exact_turned workers others bays later olds news =
      exact_turned_behind remaining faults files bay_faults s (no_past s) opened opened now workers others bays bays later olds olds news
