-- Where what stands at a gate of a log leaves the format.
use Rattle.std.proofs.{Common.{ℕ, ◌≡◌, ◌+◌, ◌≤◌, Bool, true, false, Result, Ok, Err, List, refl, ap, sym, ◌∙◌, subst, arith, inl, inr}, lemmas.Bool.true≢false, lemmas.List.get_or_past}
use Rattle.lert_gatelog.specs.Gated.{IsOpen, BreaksAt, No_gate, Cut_length, Cut_payload}
use Rattle.lert_spec.specs.declared.numbers.Numbers.{Numbers}
use Rattle.lert_reports.specs.{Log.{is_closed, most_record, HasLogUpTo, LogLeavesAt, PayloadLeavesAt, At_gate, In_payload, Behind_closing}, LogText.LogRecord}
use Rattle.lert_files.specs.{declared.fault.ReopenFault.ReopenFault, declared.fault.ReopenFault.TheVariants.{Failed, Malformed}, Read.GateLeavesAt}

pub same_place : {T : Type 0} (file at other_file other : ℕ) → ◌≡◌ {A = Result T ReopenFault} (Err (Malformed file at)) (Err (Malformed other_file other)) → at ≡ other
same_place file at other_file other is = cc

pub err_is : {T : Type 0} (one other : ReopenFault) → ◌≡◌ {A = Result T ReopenFault} (Err one) (Err other) → one ≡ other
err_is one other is = cc

pub not_err : {T : Type 0} (x : T) (fault : ReopenFault) → ◌≡◌ {A = Result T ReopenFault} (Ok x) (Err fault) → ⊥
not_err x fault is = cc

pub failed_or_malformed : {T : Type 0} (file at : ℕ) → ◌≡◌ {A = Result T ReopenFault} (Err Failed) (Err (Malformed file at)) → ⊥
failed_or_malformed file at is = cc

pub malformed_or_failed : {T : Type 0} (file at : ℕ) → ◌≡◌ {A = Result T ReopenFault} (Err (Malformed file at)) (Err Failed) → ⊥
malformed_or_failed file at is = cc

-- behind a closing record an open gate is the place itself, which lies before the one that its record breaks at
behind_closing : (most : ℕ) (bytes : List ℕ) (gate at found : ℕ) → BreaksAt most bytes gate at → (gate ≤ at → found ≡ gate) → (at ≤ gate → found ≡ at) →
    GateLeavesAt most true bytes gate found
behind_closing most bytes gate at found (inl (at_is, No_gate past)) behind before =
    inl (inl (before (omega (arith, at_is, past)) ∙ at_is, No_gate past), λ closed one. absurd (omega (arith, one, get_or_past bytes gate 0 past)))
behind_closing most bytes gate at found (inl (at_is, Cut_length one within cut)) behind before = inr (refl, one, behind (omega (arith, at_is, within)))
behind_closing most bytes gate at found (inl (at_is, Cut_payload one some fits whole cut)) behind before = inr (refl, one, behind (omega (arith, at_is, whole)))
behind_closing most bytes gate at found (inr (at_is, miscounted)) behind before = inr (refl, miscounted.opened, behind (omega (arith, at_is)))

pub gate_left : (most : ℕ) (closed : Bool) (bytes : List ℕ) (gate at found : ℕ) → BreaksAt most bytes gate at → (closed ≡ false → found ≡ at) →
    (gate ≤ at → closed ≡ true → found ≡ gate) → (at ≤ gate → found ≡ at) → GateLeavesAt most closed bytes gate found
gate_left most true bytes gate at found breaks alone behind before = behind_closing most bytes gate at found breaks (λ less. behind less refl) before
gate_left most false bytes gate at found breaks alone behind before =
    inl (subst (BreaksAt most bytes gate) (sym (alone refl)) breaks, λ closed. absurd (true≢false (sym closed)))

pub same_fault : {T U : Type 0} (one other : ReopenFault) → ◌≡◌ {A = Result T ReopenFault} (Err one) (Err other) → ◌≡◌ {A = Result U ReopenFault} (Err one) (Err other)
same_fault one other is = let same : one ≡ other = cc in ap Err same

-- behind records that keep the rules it is where the log does
pub gate_leaves : (s : Numbers) (cone most : ℕ) (closed : Bool) (bytes : List ℕ) (records : List LogRecord) (gate at : ℕ) → most ≡ most_record s → closed ≡ is_closed records →
    HasLogUpTo s cone bytes records gate → GateLeavesAt most closed bytes gate at → LogLeavesAt s cone bytes at
gate_leaves s cone most closed bytes records gate at most_is closed_is up (inl (breaks, behind)) =
    At_gate records gate up (record { breaks = subst (λ n. BreaksAt n bytes gate at) most_is breaks; not_behind_closing = λ closing. behind (closed_is ∙ closing) })
gate_leaves s cone most closed bytes records gate at most_is closed_is up (inr (closing, opened, at_is)) =
    Behind_closing records gate up (record { closing = sym closed_is ∙ closing; opened = opened; at_is = at_is })

-- and where the payload does that stands there
pub payload_leaves : (s : Numbers) (cone : ℕ) (bytes : List ℕ) (records : List LogRecord) (gate at place : ℕ) (payload : List ℕ) → HasLogUpTo s cone bytes records gate →
    IsOpen (most_record s) bytes gate payload → is_closed records ≡ false → PayloadLeavesAt s cone records payload place → at ≡ gate + 5 + place → LogLeavesAt s cone bytes at
payload_leaves s cone bytes records gate at place payload up stands still_open leaves at_is =
    In_payload records gate up (record { payload = payload; place = place; stands = stands; still_open = still_open; leaves = leaves; at_is = at_is })
