-- Fresh readers and new cones: there was nothing before.
use Rattle.std.proofs.Common.{◌≡◌, ℕ, ◌+◌, zero, suc, List, [], ◌∷◌, map, Option, Result, refl, ap, ◌∙◌, subst, arith}
use Rattle.lert_bay.specs.Files.{Files}
use Rattle.lert_cone.specs.Stands.{Standing}
use Rattle.lert_spec.specs.{declared.numbers.Numbers.Numbers}
use Rattle.lert_trace.specs.{Reader.Reading, Trace.whole}
use Rattle.lert_fleet.proofs.Places.{image_at}
use Rattle.lert_ingest.specs.{Cones.{AreNew, mades_of}, Ingest.{HasIngested, HasIngestedBehind}, Past.{Past, no_past, past_of}}
use Rattle.lert_ingest.specs.Readers.{AreReadable, IsReadable, fresh_reader, fresh_readers, given_of, opened_of, sources_of}
use Rattle.lert_ingest.specs.{Bays.bays_of, Traces.{part_length, part_weight}, declared.status.Status.Status}
use Rattle.lert_ingest.proofs.{Exactly.rests_none, Starting.new_mades}

-- the traces of readers that were just made
sources_fresh : {S : Type 0} (traces : List S) → sources_of (fresh_readers traces) ≡ traces
sources_fresh [] = refl
sources_fresh (trace ∷ traces) = ap (λ ts. trace ∷ ts) (sources_fresh traces)

opened_fresh : {S : Type 0} (traces : List S) → opened_of (fresh_readers traces) ≡ traces
opened_fresh [] = refl
opened_fresh (trace ∷ traces) = ap (λ ts. trace ∷ ts) (opened_fresh traces)

-- which gave nothing
given_fresh : {S : Type 0} (traces : List S) → given_of (fresh_readers traces) ≡ (λ _. 0)
given_fresh traces = λ i trace. none traces trace i
  where
    none : {S : Type 0} (traces : List S) (trace : ℕ) → given_of (fresh_readers traces) trace ≡ 0
    none [] trace = refl
    none (first ∷ traces) zero = refl
    none (first ∷ traces) (suc trace) = none traces trace

pub fresh_readable : {S : Type 0} (traces : List S) → AreReadable (fresh_readers traces)
fresh_readable traces trace reader is =
    let source = image_at fresh_reader traces trace reader is in
    subst IsReadable source.2 (record { limit_is = refl; within = omega arith; no_fault = refl })

none_more : (n : ℕ) → 0 + n ≡ n
none_more n = omega arith

past_none : (s : Numbers) → past_of s (λ _. 0) (λ _. []) ≡ no_past s
past_none s = λ i. record {
  given = λ _. 0;
  before = λ _. [];
  many = λ cone traces. none_more (part_length s cone traces) i;
  heavy = λ cone traces. none_more (part_weight s cone traces) i;
  rests = λ texts. rests_none texts i;
}

module _ {S B : Type 0} (remaining : S → Option (List ℕ)) (s_faults s_mark : S → ℕ) (files : B → Option Files) (leaves : B → Files → Type 0) (b_faults b_mark : B → ℕ) (s : Numbers)
    (workers : ℕ) where
  pub of_fresh : (opened : List S) (olds : List (Reading S)) → olds ≡ fresh_readers opened → (laters now : List S) → laters ≡ now → (firsts backs : List (Standing B)) →
      AreNew files leaves b_faults s firsts → (result : Result (Unit {0}) Status) →
      HasIngestedBehind (past_of s (given_of olds) (λ _. [])) remaining s_faults s_mark files leaves b_faults b_mark s workers (opened_of olds) (sources_of olds) laters (mades_of firsts)
      firsts backs result → HasIngested remaining s_faults s_mark files leaves b_faults b_mark s workers opened now firsts backs result
  of_fresh opened olds olds_are laters now laters_are firsts backs new result has =
      subst (λ (p : Past). HasIngestedBehind p remaining s_faults s_mark files leaves b_faults b_mark s workers opened opened now (bays_of firsts) firsts backs result)
      (ap (λ given. past_of s given (λ _. [])) (ap given_of olds_are ∙ given_fresh opened) ∙ past_none s)
      (subst (λ ts. HasIngestedBehind (past_of s (given_of olds) (λ _. [])) remaining s_faults s_mark files leaves b_faults b_mark s workers ts opened now (bays_of firsts) firsts backs result)
      (ap opened_of olds_are ∙ opened_fresh opened)
      (subst (λ ts. HasIngestedBehind (past_of s (given_of olds) (λ _. [])) remaining s_faults s_mark files leaves b_faults b_mark s workers (opened_of olds) ts now (bays_of firsts)
      firsts backs result)
      (ap sources_of olds_are ∙ sources_fresh opened)
      (subst (λ ts. HasIngestedBehind (past_of s (given_of olds) (λ _. [])) remaining s_faults s_mark files leaves b_faults b_mark s workers (opened_of olds) (sources_of olds) ts (bays_of firsts)
      firsts backs result) laters_are
      (subst (λ bs. HasIngestedBehind (past_of s (given_of olds) (λ _. [])) remaining s_faults s_mark files leaves b_faults b_mark s workers (opened_of olds) (sources_of olds) laters bs
      firsts backs result) (new_mades files leaves b_faults s firsts (λ place cone is. (new place cone is).made_is)) has))))
