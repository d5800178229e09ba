-- What goes together with memory through the append of a packet to the journal.
use Rattle.lert_spec.specs.declared.item.Item.{Item}
use Rattle.std.proofs.Common.{◌≡◌, ℕ, ◌+◌, ◌-◌, ◌<◌, ◌≤◌, false, List, [], ◌∷◌, ◌++◌, length, Some, All, Result, Ok, Err, OnOk, refl, sym, ap, ◌∙◌, subst, inl, inr, arith, length-append}
use Rattle.std.proofs.{Common.append-nil, lemmas.Bool.false≢true, lemmas.List.take_at, lemmas.List.Elements.{All-append, All-nil, All-cons}}
use Rattle.std.specs.Result.{is_err}
use Rattle.lert_base.specs.Packet.{keys_of, Packet, events_of}
use Rattle.lert_bay.specs.{Files.Files, Settled.part}
use Rattle.lert_gatelog.specs.{Gated.next_gate, Kept.{InEach, KeepsOthers, KeepsBefore, IsWhollySettled}}
use Rattle.lert_journal.specs.{Journal.{HasPackets, HasPacketsOrOneMore}, Payload.{payload_of, IsJournaled}}
use Rattle.lert_levels.specs.rows.Rows.{HoldsBins}
use Rattle.lert_reports.specs.Log.{HasLog, last_n0}
use Rattle.lert_spec.specs.{declared.numbers.Numbers.Numbers, Edges.{key_limit, capacity}}
use Rattle.lert_cone.specs.{Framed.last_flush, History.{end_of}, InStep.{IsInStep, IsPartway}, JournalPlaces.{NamesRecord, last_place}, Record.LogPlace}
use Rattle.lert_cone.specs.{Sound.{IsJournal, IsSoundAs, IsSoundOver, but_last}, Stands.IsWhole, Tally.{Tallied, IsCounted}}
use Rattle.lert_cone.proofs.{EndStep.{partway_all, late_all}, JournalPlaceLaws.{places_more, names_more}, SoundLaws.{events_more, counted_more, end_more}}
use Rattle.lert_cone.proofs.StepLaws.{log_since, frames_since, sound_of, sound_as}
use Rattle.lert_journal.specs.Payload.{most_payload}
use Rattle.lert_spec.specs.{Counts.{weighed, weight_of}, Edges.weight_room}

-- ---- what goes together with memory

-- the files of a cone that is whole
pub whole_of : (leaves : Files → Type 0) (seen : Files) (history : List Packet) (t : Tallied) (gate : ℕ) (log : LogPlace) → IsCounted t →
    IsInStep leaves seen history t.listing t.rows t.due.reports log → leaves seen →
    t.listing.events ≡ events_of history → gate ≡ end_of t.listing.version history → IsWhole leaves seen t.listing t.rows t.due.reports gate log history
whole_of leaves seen history t gate log counted up read keys gate_is =
    let sound : (image : Files) → leaves image → IsSoundAs t.listing.settings t.listing.cone t.listing.closed history image =
    λ image may. sound_as t.listing.settings t.listing.cone history t.listing.events t.rows t.listing.closed up.logged log.gate counted.known counted.valid counted.rows
    (partway_all t.listing.settings history t.listing.events keys (late_all history t.listing.events keys))
    (λ _. keys) up.log_of up.begins keys image (up.journal image may) (up.log_there image may) (up.frames image may) in
    record {
      files = record { kept = record { as_read = sound seen read; images = sound }; journal = up.journal_settled; log = up.log_settled };
      gate_is = gate_is;
      keys = keys;
      in_step = up;
    }

-- all but the last of a list with a packet more
but_last_more : (history : List Packet) (packet : Packet) → but_last (history ++ packet ∷ []) ≡ history
but_last_more history packet = take_at history (packet ∷ []) (length (history ++ packet ∷ []) - 1) (omega (arith, length-append history (packet ∷ [])))

-- the items of a packet more are still to come
pub partway_packet : (s : Numbers) (history : List Packet) (packet : Packet) (events : List Item) → events ≡ events_of history → IsPartway s (history ++ packet ∷ []) events packet.items
partway_packet s history packet events keys = record {
  rest = [];
  is = events_more history packet ∙ ap (λ ks. ks ++ packet.items) (sym keys) ∙ ap (λ ks. events ++ ks) (sym (append-nil packet.items));
  late = omega (arith, ap (λ ks. last_flush s (length ks)) keys, ap (λ h. last_flush s (length (events_of h))) (but_last_more history packet));
}

-- ---- an append to the journal

module _ (leaves since : Files → Type 0) (seen : Files) (t : Tallied) (log : LogPlace) (gate : ℕ) (history : List Packet) (packet : Packet)
    (counted : IsCounted t) (still : t.listing.closed ≡ false) (read : leaves seen) (whole : IsWhole leaves seen t.listing t.rows t.due.reports gate log history)
    (journaled : IsJournaled t.listing.version t.listing.settings t.listing.cone packet) (fit : All (λ key. key < key_limit t.listing.settings) (keys_of packet)) (fits : length
    (events_of history) + length packet.items ≤ capacity t.listing.settings)
    (light : weight_of weighed (events_of (history ++ packet ∷ [])) ≤ weight_room t.listing.settings)
    (others : KeepsOthers leaves since seen 0) (before : KeepsBefore leaves since seen 0 gate) where
  up : IsInStep leaves seen history t.listing t.rows t.due.reports log
  up = whole.in_step

  journal : IsJournal t.listing.version t.listing.settings t.listing.cone history (seen 0)
  journal = up.journal seen read

  headed : (image : Files) → since image → part (image 0) 0 32 ≡ part (seen 0) 0 32
  headed = before 0 32 (omega (arith, whole.gate_is)) (record {
    within = omega (arith, journal.records.closed.within);
    same = λ image may. (up.journal image may).headed ∙ sym journal.headed;
  })

  log_then : InEach since 1 (λ bytes. HasLog t.listing.settings t.listing.cone bytes up.logged log.gate)
  log_then = log_since since seen t.listing.settings t.listing.cone up.logged log.gate (up.log_there seen read)
      (others 1 0 (length (seen 1)) (λ same. absurd (omega (arith, same))) up.log_settled)

  frames_then : InEach since 2 (HoldsBins t.listing.settings t.listing.version t.listing.events t.rows)
  frames_then = frames_since leaves since seen t.listing.settings t.listing.events t.rows counted.valid counted.are counted.light read up.frames
      (λ from to named. others 2 from to (λ same. absurd (omega (arith, same))))

  pub records_there : InEach leaves 0 (λ bytes. HasPackets t.listing.version (most_payload t.listing.version t.listing.settings) bytes 32 history gate)
  records_there image may = subst (λ (end : ℕ). HasPackets t.listing.version (most_payload t.listing.version t.listing.settings) (image 0) 32 history end) (sym whole.gate_is) (up.journal image
      may).records

  within_more : length (events_of (history ++ packet ∷ [])) ≤ capacity t.listing.settings
  within_more = omega (arith, counted_more history packet, fits)

  journaled_more : All (IsJournaled t.listing.version t.listing.settings t.listing.cone) (history ++ packet ∷ [])
  journaled_more = All-append (IsJournaled t.listing.version t.listing.settings t.listing.cone) history (packet ∷ []) journal.journaled
      (All-cons (IsJournaled t.listing.version t.listing.settings t.listing.cone) packet [] journaled (All-nil (IsJournaled t.listing.version t.listing.settings t.listing.cone)))

  fit_more : All (λ (p : Packet). All (λ key. key < key_limit t.listing.settings) (keys_of p)) (history ++ packet ∷ [])
  fit_more = All-append (λ (p : Packet). All (λ key. key < key_limit t.listing.settings) (keys_of p)) history (packet ∷ []) journal.fit
      (All-cons (λ (p : Packet). All (λ key. key < key_limit t.listing.settings) (keys_of p)) packet [] fit (All-nil (λ (p : Packet). All (λ key. key < key_limit t.listing.settings) (keys_of p))))

  -- an image with the packets from before, or with these and this one
  journal_same : (image : Files) → since image → HasPackets t.listing.version (most_payload t.listing.version t.listing.settings) (image 0) 32 history gate →
      IsJournal t.listing.version t.listing.settings t.listing.cone history (image 0)
  journal_same image may there = record {
    headed = headed image may ∙ journal.headed;
    records = subst (λ (end : ℕ). HasPackets t.listing.version (most_payload t.listing.version t.listing.settings) (image 0) 32 history end) whole.gate_is there;
    journaled = journal.journaled;
    fit = journal.fit;
    within = journal.within;
    light = journal.light;
  }

  journal_more : (gate_after : ℕ) → gate_after ≡ next_gate gate (payload_of t.listing.version packet) → (image : Files) → since image →
      HasPackets t.listing.version (most_payload t.listing.version t.listing.settings) (image 0) 32
      (history ++ packet ∷ []) gate_after →
      IsJournal t.listing.version t.listing.settings t.listing.cone (history ++ packet ∷ []) (image 0)
  journal_more gate_after is image may there = record {
    headed = headed image may ∙ journal.headed;
    records = subst (λ (end : ℕ). HasPackets t.listing.version (most_payload t.listing.version t.listing.settings) (image 0) 32 (history ++ packet ∷ []) end) (is ∙ (ap (λ g. next_gate g (payload_of
        t.listing.version packet)) whole.gate_is
        ∙ end_more t.listing.version history packet)) there;
    journaled = journaled_more;
    fit = fit_more;
    within = within_more;
    light = light;
  }

  partway_none : IsPartway t.listing.settings (history ++ packet ∷ []) t.listing.events []
  partway_none =
      let whole_packet = partway_packet t.listing.settings history packet t.listing.events whole.keys in
      record { rest = packet.items ++ whole_packet.rest; is = whole_packet.is; late = whole_packet.late }

  -- the records say of the longer list what they said
  begins_more : NamesRecord t.listing.version t.listing.settings (history ++ packet ∷ []) (last_n0 up.logged) (last_place up.logged)
  begins_more = names_more history (packet ∷ []) t.listing.settings (last_n0 up.logged) (last_place up.logged) up.begins

  -- in each image of each moment
  pub sound_appending : InEach since 0 (HasPacketsOrOneMore t.listing.version (most_payload t.listing.version t.listing.settings) 32 history gate packet) → (image : Files) → since image →
      IsSoundOver t.listing.settings t.listing.cone history (Some packet) image
  sound_appending each image may = elim (each image may) [
    | inl same ↦ inl (sound_of t.listing.settings t.listing.cone history t.listing.events t.rows t.listing.closed up.logged log.gate counted.known counted.valid counted.rows
        (partway_all t.listing.settings history t.listing.events whole.keys (late_all history t.listing.events whole.keys)) (λ _. whole.keys) up.log_of up.begins image (journal_same image may same)
        (log_then image may) (frames_then image may))
    | inr more ↦ inr (
      packet,
      refl,
      sound_of t.listing.settings t.listing.cone (history ++ packet ∷ []) t.listing.events t.rows t.listing.closed up.logged log.gate counted.known counted.valid counted.rows
          partway_none (λ ended. absurd (false≢true (sym still ∙ ended))) up.log_of begins_more image (journal_more (next_gate gate (payload_of t.listing.version packet)) refl image may more)
          (log_then image may)
          (frames_then image may),
    )
  ]

  -- after Ok
  pub up_appended : (after : Files → Type 0) (seen_after : Files) (gate_after : ℕ) → ((image : Files) → after image → since image) →
      gate_after ≡ next_gate gate (payload_of t.listing.version packet) →
      InEach after 0 (λ bytes. HasPackets t.listing.version (most_payload t.listing.version t.listing.settings) bytes 32 (history ++ packet ∷ []) gate_after) → IsWhollySettled after seen_after 0 →
      IsWhollySettled after seen_after 1 →
      IsInStep after seen_after (history ++ packet ∷ []) t.listing t.rows t.due.reports log
  up_appended after seen_after gate_after now is there journal_settled log_settled = record {
    logged = up.logged;
    log_of = up.log_of;
    named_is = up.named_is;
    journal = λ image may. journal_more gate_after is image (now image may) (there image may);
    log_there = λ image may. log_then image (now image may);
    frames = λ image may. frames_then image (now image may);
    journal_settled = journal_settled;
    log_settled = log_settled;
    reports_are = up.reports_are;
    begins = begins_more;
    placed = places_more history (packet ∷ []) log.places up.placed;
    reach = up.reach;
  }

-- a call that answered Ok
when_ok : {T E X : Type 0} (result : Result T E) → is_err result ≡ false → OnOk result X → X
when_ok (Ok _) answered holds = holds
when_ok (Err _) answered holds = absurd (false≢true (sym answered))

-- what an append says of a log's file and greatest payload, said of the journal
pub appended_there : (version : ℕ) {T E : Type 0} (result : Result T E) (leaves after : Files → Type 0) (s : Numbers) (file most gate gate_after : ℕ) (packet : Packet) → file ≡ 0 →
    most ≡ most_payload version s →
    is_err result ≡ false
    → ((first : ℕ) (packets : List Packet) → InEach leaves file (λ bytes. HasPackets version most bytes first packets gate) →
    OnOk result (InEach after file (λ bytes. HasPackets version most bytes first
    (packets ++ packet ∷ []) gate_after)))
    → (packets : List Packet) → InEach leaves 0 (λ bytes. HasPackets version (most_payload version s) bytes 32 packets gate) →
    InEach after 0 (λ bytes. HasPackets version (most_payload version s) bytes 32
    (packets ++ packet ∷ []) gate_after)
appended_there version result leaves after s file most gate gate_after packet file_is most_is answered appended packets =
    subst (λ (m : ℕ). InEach leaves 0 (λ bytes. HasPackets version m bytes 32 packets gate) → InEach after 0 (λ bytes. HasPackets version m bytes 32 (packets ++ packet ∷ []) gate_after)) most_is
    (subst (λ (f : ℕ). InEach leaves f (λ bytes. HasPackets version most bytes 32 packets gate) →
    InEach after f (λ bytes. HasPackets version most bytes 32 (packets ++ packet ∷ []) gate_after)) file_is
    (λ all. when_ok result answered (appended 32 packets all)))

-- what an append says of a log's file and greatest payload, said of the journal
pub each_there : (version : ℕ) (leaves since : Files → Type 0) (s : Numbers) (file most gate : ℕ) (history : List Packet) (packet : Packet) → file ≡ 0 → most ≡ most_payload version s
    → (InEach leaves file (λ bytes. HasPackets version most bytes 32 history gate) → InEach since file (HasPacketsOrOneMore version most 32 history gate packet))
    → InEach leaves 0 (λ bytes. HasPackets version (most_payload version s) bytes 32 history gate) → InEach since 0 (HasPacketsOrOneMore version (most_payload version s) 32 history gate packet)
each_there version leaves since s file most gate history packet file_is most_is each =
    subst (λ (m : ℕ). InEach leaves 0 (λ bytes. HasPackets version m bytes 32 history gate) → InEach since 0 (HasPacketsOrOneMore version m 32 history gate packet)) most_is
    (subst (λ (f : ℕ). InEach leaves f (λ bytes. HasPackets version most bytes 32 history gate) → InEach since f (HasPacketsOrOneMore version most 32 history gate packet)) file_is each)

-- a packet more
pub some_more : (history : List Packet) (packet : Packet) → All (λ p. 0 < length p.items) history → 0 < length packet.items → All (λ p. 0 < length p.items) (history ++ packet ∷ [])
some_more history packet all some = All-append (λ p. 0 < length p.items) history (packet ∷ []) all (All-cons (λ p. 0 < length p.items) packet [] some (All-nil (λ p. 0 < length p.items)))

pub keys_more : (history : List Packet) (packet : Packet) (events : List Item) → events ≡ events_of history → events ++ packet.items ≡ events_of (history ++ packet ∷ [])
keys_more history packet events keys = ap (λ ks. ks ++ packet.items) keys ∙ sym (events_more history packet)

-- turns in a row
