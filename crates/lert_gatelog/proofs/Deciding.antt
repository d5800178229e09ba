-- The bytes at a gate are an open record, a closed gate or a place at which they leave the format: only one of these.
use Rattle.std.proofs.{Common.{◌≡◌, ℕ, ◌+◌, ◌≤◌, List, [], ◌∷◌, length, get_or, refl, sym, subst, ap, ap₂, ◌∙◌, inl, inr, arith}, lemmas.List.get_or_past}
use Rattle.lert_bay.specs.Settled.{part}
use Rattle.lert_gatelog.specs.Gated.{next_gate, IsOpen, IsClosed, Records, IsGated, IsCutShort, No_gate, Cut_length, Cut_payload, IsMiscounted, BreaksAt}
use Rattle.lert_gatelog.proofs.GatedLaws.{part_within}

-- a gate that is 1 lies in the file
gate_within : (bytes : List ℕ) (gate : ℕ) → get_or bytes gate 0 ≡ 1 → length bytes ≤ gate → ⊥
gate_within bytes gate one past = absurd (omega (arith, one, get_or_past bytes gate 0 past))

-- a whole record lies in the file
record_within : (most : ℕ) (bytes : List ℕ) (gate : ℕ) (payload : List ℕ) → IsOpen most bytes gate payload → next_gate gate payload ≤ length bytes
record_within most bytes gate payload stands = part_within bytes payload (gate + 5) (next_gate gate payload) stands.there refl stands.some

-- one gate has one payload
pub one_payload : (most : ℕ) (bytes : List ℕ) (gate : ℕ) (first second : List ℕ) → IsOpen most bytes gate first → IsOpen most bytes gate second → first ≡ second
one_payload most bytes gate first second one other =
    sym one.there ∙ (ap (λ n. part bytes (gate + 5) (gate + 5 + n)) (sym one.counted ∙ other.counted) ∙ other.there)

-- an open gate isn't closed
pub open_or_closed : (most : ℕ) (bytes : List ℕ) (gate : ℕ) (payload : List ℕ) → IsOpen most bytes gate payload → IsClosed bytes gate → ⊥
open_or_closed most bytes gate payload stands closed = closed.shut stands.opened

-- a whole record breaks no rule
pub whole_or_broken : (most : ℕ) (bytes : List ℕ) (gate at : ℕ) (payload : List ℕ) → IsOpen most bytes gate payload → BreaksAt most bytes gate at → ⊥
whole_or_broken most bytes gate at payload stands (inl (at_is, No_gate past)) = gate_within bytes gate stands.opened past
whole_or_broken most bytes gate at payload stands (inl (at_is, Cut_length one within cut)) = absurd (omega (arith, cut, record_within most bytes gate payload stands))
whole_or_broken most bytes gate at payload stands (inl (at_is, Cut_payload one some fits whole cut)) =
    absurd (omega (arith, cut, stands.counted, record_within most bytes gate payload stands))
whole_or_broken most bytes gate at payload stands (inr (at_is, miscounted)) = elim miscounted.wrong [
  | inl none ↦ absurd (omega (arith, none, stands.counted, stands.some))
  | inr many ↦ absurd (omega (arith, many, stands.counted, stands.fits))
]

-- a closed gate breaks none
pub closed_or_broken : (most : ℕ) (bytes : List ℕ) (gate at : ℕ) → IsClosed bytes gate → BreaksAt most bytes gate at → ⊥
closed_or_broken most bytes gate at closed (inl (at_is, No_gate past)) = absurd (omega (arith, past, closed.within))
closed_or_broken most bytes gate at closed (inl (at_is, Cut_length one within cut)) = closed.shut one
closed_or_broken most bytes gate at closed (inl (at_is, Cut_payload one some fits whole cut)) = closed.shut one
closed_or_broken most bytes gate at closed (inr (at_is, miscounted)) = closed.shut miscounted.opened

-- bytes that end early have no whole length of a wrong size
cut_or_miscounted : (most : ℕ) (bytes : List ℕ) (gate : ℕ) → IsCutShort most bytes gate → IsMiscounted most bytes gate → ⊥
cut_or_miscounted most bytes gate (No_gate past) miscounted = gate_within bytes gate miscounted.opened past
cut_or_miscounted most bytes gate (Cut_length one within cut) miscounted = absurd (omega (arith, cut, miscounted.whole))
cut_or_miscounted most bytes gate (Cut_payload one some fits whole cut) miscounted = elim miscounted.wrong [
  | inl none ↦ absurd (omega (arith, none, some))
  | inr many ↦ absurd (omega (arith, many, fits))
]

-- one place is the first
pub one_place : (most : ℕ) (bytes : List ℕ) (gate at other : ℕ) → BreaksAt most bytes gate at → BreaksAt most bytes gate other → at ≡ other
one_place most bytes gate at other (inl (at_is, cut)) (inl (other_is, cut_too)) = at_is ∙ sym other_is
one_place most bytes gate at other (inl (at_is, cut)) (inr (other_is, miscounted)) = absurd (cut_or_miscounted most bytes gate cut miscounted)
one_place most bytes gate at other (inr (at_is, miscounted)) (inl (other_is, cut)) = absurd (cut_or_miscounted most bytes gate cut miscounted)
one_place most bytes gate at other (inr (at_is, miscounted)) (inr (other_is, miscounted_too)) = at_is ∙ sym other_is

-- the open records of a file are one list, which ends at one gate
pub one_list : (most : ℕ) (bytes : List ℕ) (first : ℕ) (one other : List (List ℕ)) (end too : ℕ) → IsGated most bytes first one end → IsGated most bytes first other too →
    (one ≡ other) × (end ≡ too)
one_list most bytes first [] [] end too a b = (refl, a.records ∙ sym b.records)
one_list most bytes first [] (payload ∷ rest) end too a b = absurd
    (open_or_closed most bytes first payload b.records.0 (subst (λ (gate : ℕ). IsClosed bytes gate) a.records a.closed))
one_list most bytes first (payload ∷ rest) [] end too a b = absurd
    (open_or_closed most bytes first payload a.records.0 (subst (λ (gate : ℕ). IsClosed bytes gate) b.records b.closed))
one_list most bytes first (payload ∷ rest) (second ∷ others) end too a b =
    let same = one_payload most bytes first payload second a.records.0 b.records.0 in
    let behind = one_list most bytes (next_gate first payload) rest others end too
    (record { records = a.records.1; closed = a.closed })
    (record { records = subst (λ (text : List ℕ). Records most bytes (next_gate first text) others too) (sym same) b.records.1; closed = b.closed }) in
    (ap₂ (λ x xs. x ∷ xs) same behind.0, behind.1)
