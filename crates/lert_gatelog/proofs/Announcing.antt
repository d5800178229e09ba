-- What the bytes that were read at a gate say of the record there, exit by exit.
use Rattle.std.proofs.{Common.{◌≡◌, ◌≢◌, ℕ, ◌+◌, ◌<◌, List, length, drop, get_or, Some, None, Result, Ok, Err, sym, ap, ◌∙◌, subst, inl, inr, arith}, lemmas.List.{get_or-take, get_or-drop}}
use Rattle.lert_bay.specs.Files.{CopiesFrom}
use Rattle.lert_gatelog.specs.{Gated.{IsAnnounced, No_gate, Cut_length}, Looked.Looked, declared.fault.LogFault.LogFault, declared.fault.LogFault.TheVariants.{Failed, Malformed}}

-- a fault is one of a call or of a place
pub malformed_no_fail : {T : Type 0} (at : ℕ) → ◌≡◌ {A = Result T LogFault} (Err (Malformed at)) (Err Failed) → ⊥
malformed_no_fail at same = cc

pub failed_no_place : {T : Type 0} (at : ℕ) → ◌≡◌ {A = Result T LogFault} (Err Failed) (Err (Malformed at)) → ⊥
failed_no_place at same = cc

pub ok_no_fault : {T : Type 0} (found : T) (fault : LogFault) → ◌≡◌ {A = Result T LogFault} (Ok found) (Err fault) → ⊥
ok_no_fault found fault same = cc

malformed_is : {T : Type 0} (at other : ℕ) → ◌≡◌ {A = Result T LogFault} (Err (Malformed at)) (Err (Malformed other)) → at ≡ other
malformed_is at other same = cc

-- the first byte that was read is the gate
byte_read : (gate read : ℕ) (head bytes : List ℕ) → CopiesFrom gate read head bytes → 0 < read → get_or bytes gate 0 ≡ get_or head 0 0
byte_read gate read head bytes copied some =
    ap (λ n. get_or bytes n 0) (omega arith)
    ∙ (sym (get_or-drop gate bytes 0 0)
    ∙ (sym (get_or-take read (drop gate bytes) 0 0 some) ∙ (ap (λ xs. get_or xs 0 0) (sym copied.copied) ∙ get_or-take read head 0 0 some)))

module _ (most gate read end : ℕ) (head bytes : List ℕ) (long : length head ≡ 5) (ends : end ≡ length bytes) (copied : CopiesFrom gate read head bytes) where
  -- no byte stands there
  pub looked_none : read ≡ 0 → Looked most bytes gate (Err (Malformed end))
  looked_none none = record {
    announced = tt;
    closed = tt;
    malformed = λ at is. inl (sym (malformed_is end at is) ∙ ends, No_gate (omega (arith, copied.count_is, none, long)));
  }

  pub looked_shut : read ≢ 0 → get_or head 0 0 ≢ 1 → Looked most bytes gate (Ok None)
  looked_shut some shut = record {
    announced = tt;
    closed = record {
      within = omega (arith, copied.count_is, some, long);
      shut = λ one. shut (sym (byte_read gate read head bytes copied (omega (arith, some))) ∙ one);
    };
    malformed = λ at is. absurd (ok_no_fault None (Malformed at) is);
  }

  -- the file ends in the length
  pub looked_cut : read ≢ 0 → get_or head 0 0 ≡ 1 → read < 5 → Looked most bytes gate (Err (Malformed end))
  looked_cut some one few = record {
    announced = tt;
    closed = tt;
    malformed = λ at is. inl (
      sym (malformed_is end at is) ∙ ends,
      Cut_length (byte_read gate read head bytes copied (omega (arith, some)) ∙ one) (omega (arith, copied.count_is, some, long)) (omega (arith, copied.count_is, few, long)),
    );
  }

-- a length that no payload has
pub looked_wrong_none : (most gate count : ℕ) (bytes : List ℕ) → IsAnnounced most bytes gate count → count ≡ 0 → Looked most bytes gate (Err (Malformed (gate + 1)))
looked_wrong_none most gate count bytes said none = record {
  announced = tt;
  closed = tt;
  malformed = λ at is. inr (sym (malformed_is (gate + 1) at is), record { opened = said.opened; whole = said.whole; wrong = inl (said.counted ∙ none) });
}

pub looked_wrong_many : (most gate count : ℕ) (bytes : List ℕ) → IsAnnounced most bytes gate count → most < count → Looked most bytes gate (Err (Malformed (gate + 1)))
looked_wrong_many most gate count bytes said many = record {
  announced = tt;
  closed = tt;
  malformed = λ at is. inr (
    sym (malformed_is (gate + 1) at is),
    record { opened = said.opened; whole = said.whole; wrong = inr (subst (λ (n : ℕ). most < n) (sym said.counted) many) },
  );
}

pub looked_open : (most gate count : ℕ) (bytes : List ℕ) → IsAnnounced most bytes gate count → Looked most bytes gate (Ok (Some count))
looked_open most gate count bytes said = record { announced = said; closed = tt; malformed = λ at is. absurd (ok_no_fault (Some count) (Malformed at) is) }

pub some_bytes : (count : ℕ) → count ≢ 0 → 0 < count
some_bytes count apart = omega (arith, apart)
