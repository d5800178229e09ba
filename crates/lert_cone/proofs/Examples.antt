-- The definitions, computed on the files that three keys 7 leave.
use Rattle.lert_spec.specs.Counts.{weighed}
use Rattle.std.proofs.{Common.{◌≡◌, ℕ, zero, suc, ◌+◌, ◌-◌, ◌<◌, ◌≤◌, All, List, [], ◌∷◌, ◌++◌, drop, map, take, Some, None, refl, sym, arith}, lemmas.List.Elements.{All-nil, All-cons}}
use Rattle.std.specs.Prelude.{slice_index_or}
use Rattle.lert_base.specs.Packet.{keys_of, Packet, events_of}
use Rattle.lert_spec.specs.Items.{units}
use Rattle.lert_spec.proofs.ItemLaws.{units_of_version}
use Rattle.lert_bay.specs.Files.{Files}
use Rattle.lert_journal.specs.Payload.{IsJournaled}
use Rattle.lert_spec.specs.{declared.numbers.Numbers.Numbers, Mix.{mix, cone_of}, Bins.bins_of, Edges.{key_limit, edge}, Look.closing_of}
use Rattle.lert_cone.specs.{Framed.last_flush, declared.journal_places.JournalPlace.JournalPlace, History.{end_of}, JournalPlaces.{HoldsPosition, first_place, oldest_place}}
use Rattle.lert_cone.specs.{Sound.{IsSoundClosed, HoldFrames}, Unread.unread}
use Rattle.lert_reports.specs.{declared.log.LogKind.LogKind, Log.{HasLog, before_of, last_directory, listed_in}, LogRules.{AreFrames, KeepsRules}, LogText.{LogRecord, bin_count}}
use Rattle.lert_reports.proofs.LogLaws.{records_none, records_more}
use Rattle.lert_spec.proofs.MixLaws.{unmixed}
use Rattle.lert_journal.specs.Payload.{most_payload}

abbrev small : Numbers
small = record { threshold = 3; bins = 3; ratio = 2; base = 4; levels = 2; cone_bits = 0; room = 32; packet = 8 }

abbrev sevens : Packet
sevens = record { by = 0; trace = 0; items = units (7 ∷ 7 ∷ 7 ∷ []) }

abbrev journal_bytes : List ℕ
journal_bytes =
    0x4c ∷ 0x45 ∷ 0x52 ∷ 0x54 ∷ 0x4a ∷ 1 ∷ 0 ∷ 0
    ∷ 3 ∷ 0 ∷ 0 ∷ 0 ∷ 0x20 ∷ 0 ∷ 0 ∷ 0 ∷ 4 ∷ 0 ∷ 0 ∷ 0 ∷ 8 ∷ 0 ∷ 0 ∷ 0
    ∷ 3 ∷ 2 ∷ 2 ∷ 0 ∷ 0 ∷ 0 ∷ 0 ∷ 0
    ∷ 1 ∷ 0x20 ∷ 0 ∷ 0 ∷ 0
    ∷ 0 ∷ 0 ∷ 0 ∷ 0 ∷ 0 ∷ 0 ∷ 0 ∷ 0
    ∷ 7 ∷ 0 ∷ 0 ∷ 0 ∷ 0 ∷ 0 ∷ 0 ∷ 0 ∷ 7 ∷ 0 ∷ 0 ∷ 0 ∷ 0 ∷ 0 ∷ 0 ∷ 0 ∷ 7 ∷ 0 ∷ 0 ∷ 0 ∷ 0 ∷ 0 ∷ 0 ∷ 0
    ∷ 0 ∷ []

abbrev log_bytes : List ℕ
log_bytes =
    0x4c ∷ 0x45 ∷ 0x52 ∷ 0x54 ∷ 0x4c ∷ 1 ∷ 0 ∷ 0
    ∷ 1 ∷ 47 ∷ 0 ∷ 0 ∷ 0
    ∷ 2 ∷ 3 ∷ 0 ∷ 0 ∷ 0 ∷ 0 ∷ 0 ∷ 0 ∷ 0
    ∷ 32 ∷ 0 ∷ 0 ∷ 0 ∷ 0 ∷ 0 ∷ 0 ∷ 0 ∷ 1 ∷ 0 ∷ 0 ∷ 0 ∷ 0 ∷ 0 ∷ 0 ∷ 0
    ∷ 0 ∷ 0 ∷ 1 ∷ 0 ∷ 0 ∷ 0
    ∷ 7 ∷ 0 ∷ 0 ∷ 0 ∷ 0 ∷ 0 ∷ 0 ∷ 0 ∷ 3 ∷ 0 ∷ 0 ∷ 0 ∷ 0 ∷ 0 ∷ 0 ∷ 0
    ∷ 0 ∷ []

abbrev files : Files
files zero = journal_bytes
files (suc zero) = log_bytes
files (suc (suc number)) = []

-- two packets of these, and where they end
events_of_two : events_of (sevens ∷ sevens ∷ []) ≡ units (7 ∷ 7 ∷ 7 ∷ 7 ∷ 7 ∷ 7 ∷ [])
events_of_two = refl

end_of_one : end_of 1 (sevens ∷ []) ≡ 69
end_of_one = refl

end_of_two : end_of 1 (sevens ∷ sevens ∷ []) ≡ 106
end_of_two = refl

most_of_small : most_payload 1 small ≡ 264
most_of_small = refl

-- a journal may hold them
journaled : IsJournaled 1 small 0 sevens
unfolding mix
journaled = record {
  some = omega arith;
  few = omega arith;
  by_most = omega arith;
  trace_most = omega arith;
  of_cone =
      All-cons (λ key. cone_of small key ≡ 0) 7 (7 ∷ 7 ∷ []) refl
      (All-cons (λ key. cone_of small key ≡ 0) 7 (7 ∷ []) refl
      (All-cons (λ key. cone_of small key ≡ 0) 7 [] refl (All-nil (λ key. cone_of small key ≡ 0))));
  weighed = units_of_version 1 (7 ∷ 7 ∷ 7 ∷ []);
}

keys_fit : All (λ key. key < key_limit small) (keys_of sevens)
keys_fit =
    All-cons (λ key. key < key_limit small) 7 (7 ∷ 7 ∷ []) (omega arith)
    (All-cons (λ key. key < key_limit small) 7 (7 ∷ []) (omega arith)
    (All-cons (λ key. key < key_limit small) 7 [] (omega arith) (All-nil (λ key. key < key_limit small))))

-- the closing record behind them
abbrev ending : LogRecord
ending = record { kind = LogKind.Closing; n0 = 3; offset = 32; first = 1; directory = [] ∷ [] ∷ []; reports = record { key = 7; at = 3 } ∷ [] }

no_frames : (level : ℕ) → bin_count small level 3 ≡ 0 → AreFrames small level 3 []
no_frames level none = record {
  counted = sym none;
  known = All-nil (λ frame. frame ≤ 3);
  distinct = λ i j d less within. absurd (omega (arith, within));
}

no_frames_at : (k : ℕ) → k < 2 → AreFrames small (k + 1) 3 (slice_index_or ending.directory k [])
no_frames_at zero below = no_frames 1 refl
no_frames_at (suc zero) below = no_frames 2 refl
no_frames_at (suc (suc k)) below = absurd (omega (arith, below))

of_cone : cone_of small 7 ≡ 0
unfolding mix
of_cone = refl

ending_keeps : KeepsRules small 0 (before_of []) ending
ending_keeps = record {
  within = omega arith;
  in_turn = (omega arith, omega arith);
  offset_from = omega arith;
  offset_to = omega arith;
  first_from = omega arith;
  first_to = omega arith;
  levels = refl;
  frames = no_frames_at;
  room = omega arith;
  reports = record {
    fit = All-cons (λ report. report.key < key_limit small) (record { key = 7; at = 3 }) [] (omega arith) (All-nil (λ report. report.key < key_limit small));
    of_cone = All-cons (λ report. cone_of small report.key ≡ 0) (record { key = 7; at = 3 }) [] of_cone (All-nil (λ report. cone_of small report.key ≡ 0));
    placed = All-cons (λ report. (1 ≤ report.at) × (0 ≤ report.at) × (report.at ≤ 3)) (record { key = 7; at = 3 }) [] (omega arith, omega arith, omega arith)
        (All-nil (λ report. (1 ≤ report.at) × (0 ≤ report.at) × (report.at ≤ 3)));
    ascending = λ i j d less within. absurd (omega (arith, less, within));
  };
}

log : HasLog small 0 log_bytes (ending ∷ []) 60
log = record {
  headed = refl;
  records_stand = record {
    records = (record { opened = refl; counted = refl; some = omega arith; fits = omega arith; there = refl }, refl);
    closed = record { within = omega arith; shut = λ one. absurd (omega (arith, one)) };
  };
  rules = records_more small 0 [] ending (records_none small 0) refl ending_keeps (λ i j d less within. absurd (omega (arith, less, within)));
}

no_bins : (level : ℕ) → 1 ≤ level → level ≤ 2 → HoldFrames 1 small level [] (slice_index_or (last_directory small (ending ∷ [])) (level - 1) [])
    (bins_of weighed small (take 3 (events_of (sevens ∷ []))) level)
no_bins zero first last = absurd (omega (arith, first))
no_bins (suc zero) first last = tt
no_bins (suc (suc zero)) first last = tt
no_bins (suc (suc (suc level))) first last = absurd (omega (arith, last))

listed : listed_in (ending ∷ []) ≡ closing_of weighed small (events_of (sevens ∷ []))
unfolding mix
listed = refl

-- it names the record that holds position 1
first_holds : HoldsPosition 1 (sevens ∷ []) first_place 1
first_holds = record { done = []; packet = sevens; rest = []; is = refl; gate_is = refl; first_is = refl; from = omega arith; to = omega arith }

-- and the files are sound for them, and closed
sound : IsSoundClosed small 0 (sevens ∷ []) files
sound = record {
  sound = record {
    version = 1;
    known = (omega arith, omega arith);
    journal = record {
      headed = refl;
      records = record {
        records = (record { opened = refl; counted = refl; some = omega arith; fits = omega arith; there = refl }, refl);
        closed = record { within = omega arith; shut = λ one. absurd (omega (arith, one)) };
      };
      journaled = All-cons (IsJournaled 1 small 0) sevens [] journaled (All-nil (IsJournaled 1 small 0));
      fit = All-cons (λ packet. All (λ key. key < key_limit small) (keys_of packet)) sevens [] keys_fit (All-nil (λ packet. All (λ key. key < key_limit small) (keys_of packet)));
      within = omega arith;
      light = omega arith;
    };
    logged = ending ∷ [];
    log_end = 60;
    log = log;
    n0_most = omega arith;
    n0_least = omega arith;
    frames = record { each = no_bins };
    reports_are = listed;
    closed_behind = λ _. refl;
    begins = record { none = λ none. absurd (omega (arith, none)); some = λ _. first_holds };
  };
  closed_is = refl;
  n0_is = refl;
}

-- the flushes of these settings stand at the positions 12, 16, 20, ..
flushes : map (last_flush small) (11 ∷ 12 ∷ 15 ∷ 16 ∷ 35 ∷ []) ≡ 0 ∷ 12 ∷ 12 ∷ 16 ∷ 32 ∷ []
flushes = refl

-- ---- which record of the journal a record of the log names

-- eight packets of 3, 1, 5, 9, 2, 7, 6 and 4 keys: their records begin at 32, 69, 90, 143, 228, 257, 326 and 387, with the
-- positions 1, 4, 5, 10, 19, 21, 28 and 34
abbrev packet_of : List ℕ → Packet
packet_of keys = record { by = 0; trace = 0; items = units keys }

abbrev eight : List Packet
eight =
    packet_of (1 ∷ 2 ∷ 3 ∷ [])
    ∷ packet_of (4 ∷ [])
    ∷ packet_of (5 ∷ 6 ∷ 7 ∷ 8 ∷ 9 ∷ [])
    ∷ packet_of (10 ∷ 11 ∷ 12 ∷ 13 ∷ 14 ∷ 15 ∷ 16 ∷ 17 ∷ 18 ∷ [])
    ∷ packet_of (19 ∷ 20 ∷ [])
    ∷ packet_of (21 ∷ 22 ∷ 23 ∷ 24 ∷ 25 ∷ 26 ∷ 27 ∷ [])
    ∷ packet_of (28 ∷ 29 ∷ 30 ∷ 31 ∷ 32 ∷ 33 ∷ [])
    ∷ packet_of (34 ∷ 35 ∷ 36 ∷ 37 ∷ [])
    ∷ []

-- their flushes and their end, and level 0's edges there
edges_of_eight : map (edge small 0) (12 ∷ 16 ∷ 20 ∷ 24 ∷ 28 ∷ 32 ∷ 36 ∷ 37 ∷ []) ≡ 4 ∷ 8 ∷ 12 ∷ 16 ∷ 20 ∷ 24 ∷ 28 ∷ 28 ∷ []
edges_of_eight = refl

holds_5 : HoldsPosition 1 eight (record { gate = 90; first = 5 }) 5
holds_5 = record { done = take 2 eight; packet = packet_of (5 ∷ 6 ∷ 7 ∷ 8 ∷ 9 ∷ []); rest = drop 3 eight; is = refl; gate_is = refl; first_is = refl; from = omega arith; to = omega arith }

holds_9 : HoldsPosition 1 eight (record { gate = 90; first = 5 }) 9
holds_9 = record { done = take 2 eight; packet = packet_of (5 ∷ 6 ∷ 7 ∷ 8 ∷ 9 ∷ []); rest = drop 3 eight; is = refl; gate_is = refl; first_is = refl; from = omega arith; to = omega arith }

holds_17 : HoldsPosition 1 eight (record { gate = 143; first = 10 }) 17
holds_17 = record {
  done = take 3 eight;
  packet = packet_of (10 ∷ 11 ∷ 12 ∷ 13 ∷ 14 ∷ 15 ∷ 16 ∷ 17 ∷ 18 ∷ []);
  rest = drop 4 eight;
  is = refl;
  gate_is = refl;
  first_is = refl;
  from = omega arith;
  to = omega arith;
}

holds_29 : HoldsPosition 1 eight (record { gate = 326; first = 28 }) 29
holds_29 = record {
  done = take 6 eight;
  packet = packet_of (28 ∷ 29 ∷ 30 ∷ 31 ∷ 32 ∷ 33 ∷ []);
  rest = drop 7 eight;
  is = refl;
  gate_is = refl;
  first_is = refl;
  from = omega arith;
  to = omega arith;
}

-- the places of the bins that begin at 33, 29, 25 and 21, and at 37 in front of these: level 0 begins behind 28 at both places
abbrev late : List JournalPlace
late = record { gate = 326; first = 28 } ∷ record { gate = 326; first = 28 } ∷ record { gate = 257; first = 21 } ∷ record { gate = 257; first = 21 } ∷ []

oldest_at_a_flush : oldest_place (record { settings = small; places = late; passed = 36; from = 1 }) ≡ record { gate = 326; first = 28 }
unfolding oldest_place
oldest_at_a_flush = refl

oldest_at_the_end : oldest_place (record { settings = small; places = record { gate = 387; first = 34 } ∷ late; passed = 37; from = 1 }) ≡ record { gate = 326; first = 28 }
unfolding oldest_place
oldest_at_the_end = refl

-- at a flush at 32 the newest bin begins at 29, and level 0 at 25
oldest_before : oldest_place (record { settings = small; places = drop 1 late; passed = 32; from = 1 }) ≡ record { gate = 257; first = 21 }
unfolding oldest_place
oldest_before = refl

-- ---- items that a reopening doesn't read

-- behind the three items 7 a packet with the items 5 and 9, whose record begins at 69
abbrev two_packets : List ℕ
two_packets =
    take 69 journal_bytes
    ++ 1 ∷ 24 ∷ 0 ∷ 0 ∷ 0
    ∷ 0 ∷ 0 ∷ 0 ∷ 0 ∷ 0 ∷ 0 ∷ 0 ∷ 0
    ∷ 5 ∷ 0 ∷ 0 ∷ 0 ∷ 0 ∷ 0 ∷ 0 ∷ 0 ∷ 9 ∷ 0 ∷ 0 ∷ 0 ∷ 0 ∷ 0 ∷ 0 ∷ 0
    ∷ 0 ∷ []

abbrev two_files : Files
two_files zero = two_packets
two_files (suc number) = []

unread_of_one : unread 1 small 0 3 (Some two_files) ≡ units (7 ∷ 7 ∷ 7 ∷ [])
unfolding unread mix unmixed
unread_of_one = refl

unread_of_two : unread 1 small 0 5 (Some two_files) ≡ units (7 ∷ 7 ∷ 7 ∷ 5 ∷ 9 ∷ [])
unfolding unread mix unmixed
unread_of_two = refl

-- where the journal has no more items, or isn't told, they are items of the cone all the same
unread_behind : unread 1 small 0 6 (Some two_files) ≡ units (7 ∷ 7 ∷ 7 ∷ 5 ∷ 9 ∷ 0 ∷ [])
unfolding unread mix unmixed
unread_behind = refl

unread_untold : unread 1 small 0 2 None ≡ units (0 ∷ 0 ∷ [])
unfolding unread mix unmixed
unread_untold = refl
