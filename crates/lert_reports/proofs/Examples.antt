-- The log text, computed on the closing record of three keys 7, on a flush, and on payloads that break each rule.
use Rattle.std.proofs.{Common.{◌≡◌, ℕ, zero, suc, ◌+◌, ◌<◌, ◌≤◌, List, [], ◌∷◌, ◌++◌, take, drop, Some, None, refl, arith, inl}, lemmas.List.Elements.All-cons}
use Rattle.std.specs.Prelude.{slice_index_or}
use Rattle.lert_spec.specs.{declared.numbers.Numbers.Numbers, Edges.key_limit, Mix.{cone_of, mix}}
use Rattle.lert_reports.specs.{declared.log.LogBefore.LogBefore, declared.log.LogKind.LogKind, declared.log.LogParts.LogParts, LogText.{LogRecord, log_payload_of, left_at, log_left, bin_count}}
use Rattle.lert_reports.specs.Log.{log_header, most_record, before_of, AreRecords, HasLog, IsRepeatedAt, LogLeavesAt, In_header, At_gate, In_payload, Behind_closing}
use Rattle.lert_reports.specs.LogRules.{AreFrames, AreNew, KeepsRules, record_in}
use Rattle.lert_gatelog.specs.Gated.{Records, No_gate}
use Rattle.lert_reports.proofs.LogLaws.{records_none, records_more}

abbrev alone : Numbers
alone = record { threshold = 3; bins = 3; ratio = 2; base = 4; levels = 2; cone_bits = 0; room = 32; packet = 8 }

abbrev nothing_before : LogBefore
nothing_before = record { flushes = 0; n0 = 0; reports = 0; at = 0 }

abbrev closed : LogRecord
closed = record {
  kind = LogKind.Closing;
  n0 = 3;
  offset = 32;
  first = 1;
  directory = [] ∷ [] ∷ [];
  reports = record { key = 7; at = 3 } ∷ [];
}

abbrev closed_head : List ℕ
closed_head =
    2 ∷ 3 ∷ 0 ∷ 0 ∷ 0 ∷ 0 ∷ 0 ∷ 0 ∷ 0
    ∷ 32 ∷ 0 ∷ 0 ∷ 0 ∷ 0 ∷ 0 ∷ 0 ∷ 0
    ∷ 1 ∷ 0 ∷ 0 ∷ 0 ∷ 0 ∷ 0 ∷ 0 ∷ 0
    ∷ 0 ∷ 0 ∷ 1 ∷ 0 ∷ 0 ∷ 0
    ∷ 7 ∷ 0 ∷ 0 ∷ 0 ∷ 0 ∷ 0 ∷ 0 ∷ 0 ∷ []

abbrev closed_bytes : List ℕ
closed_bytes = closed_head ++ (3 ∷ 0 ∷ 0 ∷ 0 ∷ 0 ∷ 0 ∷ 0 ∷ 0 ∷ [])

-- the first flush, with frame 2 for the one bin of level 1, and no bin in level 2
abbrev flushed : LogRecord
flushed = record { kind = LogKind.Flush; n0 = 12; offset = 32; first = 5; directory = (2 ∷ []) ∷ [] ∷ []; reports = [] }

payload_of_closed : log_payload_of closed ≡ closed_bytes
payload_of_closed = refl

closed_is_whole : log_left alone 0 nothing_before closed_bytes ≡ None
unfolding left_at mix
closed_is_whole = refl

flushed_is_whole : log_left alone 0 nothing_before (log_payload_of flushed) ≡ None
unfolding left_at mix
flushed_is_whole = refl

-- after 32 events level 1 has the bins up to 8, 16 and 24, of which the first begins at its edge, and level 2 has the one up to 8
bins_after_32 : bin_count alone 1 32 ≡ 2
bins_after_32 = refl

older_bins_after_32 : bin_count alone 2 32 ≡ 1
older_bins_after_32 = refl

-- no byte, and a third kind
no_byte : log_left alone 0 nothing_before [] ≡ Some 0
unfolding left_at
no_byte = refl

third_kind : log_left alone 0 nothing_before (3 ∷ drop 1 closed_bytes) ≡ Some 0
unfolding left_at
third_kind = refl

-- a cut number of events, a flush at another position, and a closing one at the next flush
cut_n0 : log_left alone 0 nothing_before (take 8 closed_bytes) ≡ Some 1
unfolding left_at
cut_n0 = refl

flush_too_early : log_left alone 0 nothing_before (1 ∷ drop 1 closed_bytes) ≡ Some 1
unfolding left_at
flush_too_early = refl

closed_too_late : log_left alone 0 nothing_before (2 ∷ 12 ∷ drop 2 closed_bytes) ≡ Some 1
unfolding left_at
closed_too_late = refl

closed_before_the_last : log_left alone 0 (record nothing_before { n0 = 4 }) closed_bytes ≡ Some 1
unfolding left_at
closed_before_the_last = refl

-- a gate in the journal's header, and the position behind the first one that the levels don't hold
offset_in_header : log_left alone 0 nothing_before (take 9 closed_bytes ++ 31 ∷ drop 10 closed_bytes) ≡ Some 9
unfolding left_at
offset_in_header = refl

first_too_late : log_left alone 0 nothing_before (take 17 closed_bytes ++ 2 ∷ drop 18 closed_bytes) ≡ Some 17
unfolding left_at
first_too_late = refl

-- a frame too many, one that a level hasn't, and one twice
frame_too_many : log_left alone 0 nothing_before (take 25 closed_bytes ++ 1 ∷ drop 26 closed_bytes) ≡ Some 25
unfolding left_at
frame_too_many = refl

no_such_frame : log_left alone 0 nothing_before (log_payload_of (record flushed { directory = (4 ∷ []) ∷ [] ∷ [] })) ≡ Some 26
unfolding left_at
no_such_frame = refl

frame_twice : log_left alone 0 (record nothing_before { flushes = 5 }) (log_payload_of (record flushed { n0 = 32; first = 25; directory = (1 ∷ 1 ∷ []) ∷ (0 ∷ []) ∷ [] })) ≡ Some 27
unfolding left_at
frame_twice = refl

-- more reports than there is room for, and a report that isn't whole
no_room : log_left alone 0 (record nothing_before { reports = 32 }) closed_bytes ≡ Some 27
unfolding left_at
no_room = refl

cut_key : log_left alone 0 nothing_before (take 38 closed_bytes) ≡ Some 31
unfolding left_at
cut_key = refl

-- a key of another cone, no position, one before the last report's, and one behind all events
other_cone : log_left alone 1 nothing_before closed_bytes ≡ Some 31
unfolding left_at mix
other_cone = refl

no_position : log_left alone 0 nothing_before (closed_head ++ 0 ∷ drop 40 closed_bytes) ≡ Some 39
unfolding left_at mix
no_position = refl

position_falls : log_left alone 0 (record nothing_before { at = 4 }) closed_bytes ≡ Some 39
unfolding left_at mix
position_falls = refl

position_to_come : log_left alone 0 nothing_before (closed_head ++ 4 ∷ drop 40 closed_bytes) ≡ Some 39
unfolding left_at mix
position_to_come = refl

-- a byte left over
left_over : log_left alone 0 nothing_before (closed_bytes ++ 0 ∷ []) ≡ Some 47
unfolding left_at mix
left_over = refl

-- ---- the rules, in words of the record

abbrev closed_parts : LogParts
closed_parts = record { kind = LogKind.Closing; n0 = 3; offset = 32; first = 1; directory_at = 25; reports_at = 31; reports = 1 }

abbrev flushed_parts : LogParts
flushed_parts = record { kind = LogKind.Flush; n0 = 12; offset = 32; first = 5; directory_at = 25; reports_at = 32; reports = 0 }

closed_is_found : record_in alone closed_bytes closed_parts ≡ closed
closed_is_found = refl

flushed_is_found : record_in alone (log_payload_of flushed) flushed_parts ≡ flushed
flushed_is_found = refl

no_frames : (level : ℕ) → 0 ≡ bin_count alone level 3 → AreFrames alone level 3 []
no_frames level counted = record {
  counted = counted;
  known = λ k frame below. absurd (omega (arith, below));
  distinct = λ j k frame less below. absurd (omega (arith, below));
}

closed_frames : (k : ℕ) → k < 2 → AreFrames alone (k + 1) 3 (slice_index_or closed.directory k [])
closed_frames zero below = no_frames 1 refl
closed_frames (suc zero) below = no_frames 2 refl
closed_frames (suc (suc k)) below = absurd (omega (arith, below))

of_cone_0 : cone_of alone 7 ≡ 0
unfolding mix
of_cone_0 = refl

closed_is_new : AreNew alone 0 0 3 closed.reports
closed_is_new = record {
  fit = All-cons (λ report. report.key < key_limit alone) (record { key = 7; at = 3 }) [] (omega arith) (λ k other below. absurd (omega (arith, below)));
  of_cone = All-cons (λ report. cone_of alone report.key ≡ 0) (record { key = 7; at = 3 }) [] of_cone_0 (λ k other below. absurd (omega (arith, below)));
  placed = All-cons (λ report. (1 ≤ report.at) × (0 ≤ report.at) × (report.at ≤ 3)) (record { key = 7; at = 3 }) [] (omega arith, omega arith, omega arith)
      (λ k other below. absurd (omega (arith, below)));
  ascending = λ j k other less below. absurd (omega (arith, less, below));
}

closed_keeps_rules : KeepsRules alone 0 nothing_before closed
closed_keeps_rules = record {
  within = omega arith;
  in_turn = (omega arith, omega arith);
  offset_from = omega arith;
  offset_to = omega arith;
  first_from = omega arith;
  first_to = omega arith;
  levels = refl;
  frames = closed_frames;
  room = omega arith;
  reports = closed_is_new;
}

-- a report behind all events, and a flush at another position, break them
report_to_come : KeepsRules alone 0 nothing_before (record closed { reports = record { key = 7; at = 4 } ∷ [] }) → ⊥
report_to_come rules = omega (arith, (rules.reports.placed 0 (record { key = 7; at = 4 }) (omega arith)).2)

flush_out_of_turn : KeepsRules alone 0 nothing_before (record flushed { n0 = 16 }) → ⊥
flush_out_of_turn rules = omega (arith, rules.in_turn)

-- ---- a whole log: the header, the closing record of three keys 7, and a closed gate

abbrev closed_log : List ℕ
closed_log = log_header ++ (1 ∷ 47 ∷ 0 ∷ 0 ∷ 0 ∷ []) ++ closed_bytes

closed_stands : Records (most_record alone) (closed_log ++ 0 ∷ []) 8 (log_payload_of closed ∷ []) 60
closed_stands = (record { opened = refl; counted = refl; some = omega arith; fits = omega arith; there = refl }, refl)

closed_alone : AreRecords alone 0 (closed ∷ [])
closed_alone = records_more alone 0 [] closed (records_none alone 0) refl closed_keeps_rules (λ i j d less within. omega arith)

is_log : HasLog alone 0 (closed_log ++ 0 ∷ []) (closed ∷ []) 60
is_log = record {
  headed = refl;
  records_stand = record { records = closed_stands; closed = record { within = omega arith; shut = λ one. omega (arith, one) } };
  rules = closed_alone;
}

-- another letter, and a header that ends early
other_header : LogLeavesAt alone 0 (take 4 log_header ++ 74 ∷ drop 5 closed_log) 4
other_header = In_header refl (omega arith)

cut_header : LogLeavesAt alone 0 (take 3 log_header) 3
cut_header = In_header refl (omega arith)

-- no gate behind the record, an open one, and a payload with a third kind
no_gate : LogLeavesAt alone 0 closed_log 60
no_gate = At_gate (closed ∷ []) 60
    (record { headed = refl; records_stand = (record { opened = refl; counted = refl; some = omega arith; fits = omega arith; there = refl }, refl); rules = closed_alone })
    (record { breaks = inl (refl, No_gate (omega arith)); not_behind_closing = λ closing one. omega (arith, one) })

behind_closing : LogLeavesAt alone 0 (closed_log ++ 1 ∷ []) 60
behind_closing = Behind_closing (closed ∷ []) 60
    (record { headed = refl; records_stand = (record { opened = refl; counted = refl; some = omega arith; fits = omega arith; there = refl }, refl); rules = closed_alone })
    (record { closing = refl; opened = refl; at_is = refl })

-- a key listed twice: it isn't left by its fields
abbrev twice_bytes : List ℕ
twice_bytes = log_payload_of (record closed { reports = record { key = 7; at = 3 } ∷ record { key = 7; at = 3 } ∷ [] })

twice_by_fields : log_left alone 0 (before_of []) twice_bytes ≡ None
unfolding left_at mix
twice_by_fields = refl

listed_twice : IsRepeatedAt alone [] twice_bytes 47
listed_twice = record { k = 1; some = omega arith; place_is = refl; whole = omega arith; listed_before = refl }

listed_earlier : IsRepeatedAt alone closed.reports closed_bytes 31
listed_earlier = record { k = 0; some = omega arith; place_is = refl; whole = omega arith; listed_before = refl }

-- a third kind, at the first byte of the payload
third_kind_log : LogLeavesAt alone 0 (log_header ++ (1 ∷ 47 ∷ 0 ∷ 0 ∷ 0 ∷ []) ++ 3 ∷ drop 1 closed_bytes) 13
third_kind_log = In_payload [] 8 (record { headed = refl; records_stand = refl; rules = records_none alone 0 })
    (record {
      payload = 3 ∷ drop 1 closed_bytes;
      place = 0;
      stands = record { opened = refl; counted = refl; some = omega arith; fits = omega arith; there = refl };
      still_open = refl;
      leaves = record { leaves = inl third_kind; first_broken = λ other left. omega arith; first_repeated = λ other again. omega arith };
      at_is = refl;
    })
