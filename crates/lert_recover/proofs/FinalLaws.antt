-- A cone is reopened over files that are in their format to their end; else there is one first place, or another header. What
-- is right of an answer is right the other way round.
use Rattle.std.proofs.{Common.{ℕ, ◌≡◌, ◌-◌, ◌<◌, ◌≤◌, ◌^◌, Bool, Option, Some, Result, Ok, Err, List, length, take, drop, refl, ap, sym, ◌∙◌, subst, arith, inl, inr, ◌⊎◌}, lemmas.Option.same_Some}
use Rattle.std.specs.Prelude.{All, MatchResult, IfErr, IfOk, IsErrAnd}
use Rattle.lert_cone.proofs.SoundLaws.{some_keys_of}
use Rattle.lert_base.specs.{declared.kept.Kept.Kept, Packet.{Packet, events_of}}
use Rattle.lert_bay.specs.{declared.bay.TheConstants.{JOURNAL, LOG}, Files.Files}
use Rattle.lert_journal.specs.Header.{version_in}
use Rattle.lert_cone.specs.{JournalPlaces.{IsPlaceIn, last_place}, Sound.{IsSound, IsJournal}, Unread.unread}
use Rattle.lert_cone.proofs.{UnreadLaws.{length_unread, unread_is}, AdoptLaws.place_named, WeighLaws.{behind_more, weigh_more}}
use Rattle.lert_cone.specs.Replay.{weight_behind}
use Rattle.lert_spec.specs.Edges.{edge}
use Rattle.std.proofs.lemmas.List.{drop_all, take-append-drop}
use Rattle.lert_gatelog.specs.Gated.{IsClosed}
use Rattle.lert_levels.specs.declared.rows.bin_at.BinAt.{BinAt}
use Rattle.lert_reports.specs.{Log.{is_closed, last_first, last_n0, last_offset, HasLog}, LogText.LogRecord}
use Rattle.lert_reports.proofs.LogOnce.{one_log}
use Rattle.lert_spec.specs.{declared.item.Item.Item, declared.numbers.Numbers.Numbers, Counts.{weighed, weight_of}, Limits.IsValid}
use Rattle.lert_files.specs.{declared.fault.ReopenFault.ReopenFault, declared.fault.ReopenFault.TheVariants.{Failed, Malformed, OtherSettings}, Headed.HasOther, Opened.AreOpened}
use Rattle.lert_recover.specs.Replayed.{AreInFormat, FirstLeaves, frames_weigh, Before_records, In_records, HasReplayed, JournalEnds, JournalLeavesAt}
use Rattle.lert_recover.specs.Reopened.{IsReadOn, IsReopened, IsReopenRefused, Of_call, Of_place, Of_header, Of_sight, IsUnsoundAt}
use Rattle.lert_files.proofs.OpenedLaws.{IsOutside, left_or_other, no_other, one_header, one_place, opened_or_left, same_last}
use Rattle.lert_recover.proofs.ReopenLaws.{sound_early, sound_opened, sound_version}
use Rattle.lert_recover.proofs.ReplayedLaws.{all_keys, ends_from_start, ends_here, ends_or_leaves, one_journal_place}

module _ (s : Numbers) (cone : ℕ) (valid : IsValid s) (named : cone < 2 ^ s.cone_bits) (below : cone < 2 ^ 32) (seen : Files) where
  -- the files' version
  abbrev version : ℕ
  version = version_in (seen JOURNAL)

  -- ---- the records of one log

  same_records : (records others : List LogRecord) (log_end other_end : ℕ) (rows other_rows : List (List BinAt)) → AreOpened s cone seen records log_end rows →
      AreOpened s cone seen others other_end other_rows → records ≡ others
  same_records records others log_end other_end rows other_rows opened too = (one_log s cone valid (seen LOG) records others log_end other_end opened.log too.log).0

  -- and the rows that they name
  same_rows : (records others : List LogRecord) (log_end other_end : ℕ) (rows other_rows : List (List BinAt)) → AreOpened s cone seen records log_end rows →
      AreOpened s cone seen others other_end other_rows → rows ≡ other_rows
  same_rows records others log_end other_end rows other_rows opened too =
      same_last s cone valid below seen records others log_end other_end rows other_rows opened.log too.log opened.named too.named

  -- from the record of the journal on that the last one of a log names
  abbrev Leaves : List LogRecord → List (List BinAt) → ℕ → Type 0
  Leaves records rows at =
      JournalLeavesAt version s cone (last_n0 records) (is_closed records) (seen JOURNAL) (last_first records - 1) (frames_weigh s seen rows) (last_offset records) at

  leaves_of : (records others : List LogRecord) (log_end other_end : ℕ) (rows other_rows : List (List BinAt)) (at : ℕ) → AreOpened s cone seen records log_end rows →
      AreOpened s cone seen others other_end other_rows → Leaves records rows at → Leaves others other_rows at
  leaves_of records others log_end other_end rows other_rows at opened too leaves =
      subst (λ (rs : List LogRecord). Leaves rs other_rows at) (same_records records others log_end other_end rows other_rows opened too)
      (subst (λ (r : List (List BinAt)). Leaves records r at) (same_rows records others log_end other_end rows other_rows opened too) leaves)

  -- the keys before that record, as they are had of the files
  abbrev Unread : List LogRecord → List Item
  Unread records = unread version s cone (last_first records - 1) (Some seen)

  -- ---- one of the three, and one place

  -- keys that were had of a whole journal are its own, where the place is one of its packets
  pub read_whole : (events : List Item) (w weight gate : ℕ) (history : List Packet) (records : List LogRecord) → IsJournal version s cone history (seen JOURNAL) →
      IsPlaceIn version history (last_place records) →
      HasReplayed version s cone (last_n0 records) (is_closed records) (seen JOURNAL) (Unread records) w (last_offset records) gate events weight → IsClosed (seen JOURNAL) gate →
      events ≡ events_of history
  read_whole events w weight gate history records journal place has shut =
      let count : last_first records - 1 ≡ length (events_of place.done) = omega (arith, place.first_is) in
      let before : Unread records ≡ events_of place.done =
      ap (λ n. unread version s cone n (Some seen)) count ∙ unread_is version s cone valid named history place.done place.rest seen (Some seen) journal place.is refl in
      all_keys version s cone (last_n0 records) (is_closed records) (seen JOURNAL) history journal place.done place.rest (Unread records) events w (last_offset records) gate weight place.is before
      place.gate_is has shut

  module _ (closed : Bool) (events : List Item) (weight gate : ℕ) (reopened : IsReopened s cone seen closed events weight gate) where
    -- what the frames weigh
    abbrev framed : ℕ
    framed = frames_weigh s seen reopened.rows

    ends : JournalEnds version s cone (last_n0 reopened.records) (is_closed reopened.records) (seen JOURNAL) (last_first reopened.records - 1) framed (last_offset reopened.records)
    ends =
        subst (λ n. JournalEnds version s cone (last_n0 reopened.records) (is_closed reopened.records) (seen JOURNAL) n framed (last_offset reopened.records))
        (length_unread version s cone (last_first reopened.records - 1) (Some seen))
        (ends_from_start version s cone (last_n0 reopened.records) (is_closed reopened.records) (seen JOURNAL) (Unread reopened.records) framed (last_offset reopened.records) gate events weight
        reopened.replayed
        (ends_here version s cone (last_n0 reopened.records) (is_closed reopened.records) (seen JOURNAL) gate (length events) weight reopened.shut reopened.enough))

    -- the keys of the journal
    pub reopened_journal : IsReadOn s cone seen events weight gate
    reopened_journal = record {
      headed = reopened.opened.headed;
      records = reopened.records;
      log_end = reopened.log_end;
      log = reopened.opened.log;
      rows = reopened.rows;
      named = reopened.opened.named;
      replayed = reopened.replayed;
      shut = reopened.shut;
      enough = reopened.enough;
    }

    pub reopened_whole : (history : List Packet) (records : List LogRecord) (log_end : ℕ) → IsJournal version s cone history (seen JOURNAL) → HasLog s cone (seen LOG) records log_end →
        IsPlaceIn version history (last_place records) → events ≡ events_of history
    reopened_whole history records log_end journal log place =
        let same = (one_log s cone valid (seen LOG) records reopened.records log_end reopened.log_end log reopened.opened.log).0 in
        read_whole events framed weight gate history reopened.records journal (subst (λ (rs : List LogRecord). IsPlaceIn version history (last_place rs)) same place) reopened.replayed reopened.shut

    -- are those of a list for which the files are sound
    pub reopened_events : (history : List Packet) → IsSound s cone history seen → events ≡ events_of history
    reopened_events history sound =
        let place = place_named s history (last_n0 sound.logged) (last_place sound.logged) sound.begins in
        reopened_whole history sound.logged sound.log_end (subst (λ (v : ℕ). IsJournal v s cone history (seen JOURNAL)) (sound_version s cone seen history sound) sound.journal) sound.log
        (subst (λ (v : ℕ). IsPlaceIn v history (last_place sound.logged)) (sound_version s cone seen history sound) place)

    -- and weigh as much
    pub reopened_weight : (history : List Packet) → IsSound s cone history seen → weight_of weighed (events_of history) ≡ weight
    reopened_weight history sound =
        let there = sound_opened s cone valid seen history sound in
        let same = same_records reopened.records sound.logged reopened.log_end sound.log_end reopened.rows there.rows reopened.opened there.opened in
        let rows = same_rows reopened.records sound.logged reopened.log_end sound.log_end reopened.rows there.rows reopened.opened there.opened in
        let from = edge s 0 (last_n0 sound.logged) in
        let from_is : edge s 0 (last_n0 reopened.records) ≡ from = ap (λ (rs : List LogRecord). edge s 0 (last_n0 rs)) same in
        let before = Unread reopened.records in
        let early : length before ≤ from =
        omega (arith, length_unread version s cone (last_first reopened.records - 1) (Some seen), ap last_first same, sound_early s cone seen history sound) in
        let all = sym (reopened_events history sound) ∙ reopened.replayed.events_are in
        let behind = events_of reopened.replayed.packets in
        omega (
          arith,
          ap (weight_of weighed) (sym (take-append-drop from (events_of history))),
          weigh_more (take from (events_of history)) (drop from (events_of history)),
          ap (λ (es : List Item). weight_of weighed (drop from es)) all,
          behind_more from before behind,
          ap (weight_of weighed) (drop_all from before early),
          reopened.replayed.weight_is,
          ap (λ n. weight_behind n (length before) behind) from_is,
          ap (frames_weigh s seen) rows,
          there.weighs,
        )

    pub reopened_closed : (history : List Packet) (sound : IsSound s cone history seen) → closed ≡ is_closed sound.logged
    reopened_closed history sound =
        reopened.closed_is ∙ ap is_closed (one_log s cone valid (seen LOG) reopened.records sound.logged reopened.log_end sound.log_end reopened.opened.log sound.log).0

  -- files that are in their format to their end
  pub whole_or_left : (file at : ℕ) → AreInFormat s cone seen → FirstLeaves s cone seen file at → ⊥
  whole_or_left file at whole (Before_records leaves) = opened_or_left s cone valid below seen whole.records whole.log_end whole.rows file at whole.opened leaves
  whole_or_left file at whole (In_records records log_end rows opened file_is leaves) =
      ends_or_leaves version s cone (last_n0 whole.records) (is_closed whole.records) (seen JOURNAL) (last_first whole.records - 1)
      (frames_weigh s seen whole.rows) (last_offset whole.records) at whole.journal (leaves_of records whole.records log_end whole.log_end rows whole.rows at opened whole.opened leaves)

  pub reopened_or_left : (closed : Bool) (events : List Item) (weight gate : ℕ) → IsReopened s cone seen closed events weight gate → (file at : ℕ) → FirstLeaves s cone seen file at → ⊥
  reopened_or_left closed events weight gate reopened file at leaves =
      whole_or_left file at (record {
        records = reopened.records;
        log_end = reopened.log_end;
        rows = reopened.rows;
        opened = reopened.opened;
        journal = ends closed events weight gate reopened;
      }) leaves

  first_or_other : (file at : ℕ) (kept : Kept) → FirstLeaves s cone seen file at → HasOther s cone (seen JOURNAL) kept → ⊥
  first_or_other file at kept (Before_records leaves) has = left_or_other s cone valid below seen file at kept leaves has
  first_or_other file at kept (In_records records log_end rows opened file_is leaves) has = no_other s cone valid below seen opened.headed kept has

  pub one_first : (file at other_file other : ℕ) → FirstLeaves s cone seen file at → FirstLeaves s cone seen other_file other → (file ≡ other_file) × (at ≡ other)
  one_first file at other_file other (Before_records leaves) (Before_records too) = one_place s cone valid below seen file at other_file other leaves too
  one_first file at other_file other (Before_records leaves) (In_records records log_end rows opened file_is too) =
      absurd (opened_or_left s cone valid below seen records log_end rows file at opened leaves)
  one_first file at other_file other (In_records records log_end rows opened file_is leaves) (Before_records too) =
      absurd (opened_or_left s cone valid below seen records log_end rows other_file other opened too)
  one_first file at other_file other (In_records records log_end rows opened file_is leaves) (In_records others other_end other_rows opened_too other_is too) = (
    file_is ∙ sym other_is,
    one_journal_place version s cone (last_n0 others) (is_closed others) (seen JOURNAL) (last_first others - 1) (frames_weigh s seen other_rows)
        (last_offset others) at other (leaves_of records others log_end other_end rows other_rows at opened opened_too leaves) too,
  )

  -- ---- why it isn't

  failed_or_place : (file at : ℕ) → Failed ≡ Malformed file at → ⊥
  failed_or_place file at is = cc

  header_or_place : (kept : Kept) (file at : ℕ) → OtherSettings kept ≡ Malformed file at → ⊥
  header_or_place kept file at is = cc

  failed_or_header : (kept : Kept) → Failed ≡ OtherSettings kept → ⊥
  failed_or_header kept is = cc

  header_of : (kept other : Kept) → OtherSettings kept ≡ OtherSettings other → kept ≡ other
  header_of kept other is = cc

  place_of : (P : ℕ → ℕ → Type 0) (file at other_file other : ℕ) → Malformed file at ≡ Malformed other_file other → P file at → P other_file other
  place_of P file at other_file other is p =
      let file_is : file ≡ other_file = cc in
      let at_is : at ≡ other = cc in
      subst (λ a. P other_file a) at_is (subst (λ f. P f at) file_is p)

  pub by_place : (fault : ReopenFault) (file at : ℕ) → fault ≡ Malformed file at → IsReopenRefused s cone seen fault →
      FirstLeaves s cone seen file at ⊎ IsUnsoundAt s cone seen file at
  by_place fault file at is (Of_call failed) = absurd (failed_or_place file at (sym failed ∙ is))
  by_place fault file at is (Of_place other_file other same leaves) = inl (place_of (FirstLeaves s cone seen) other_file other file at (sym same ∙ is) leaves)
  by_place fault file at is (Of_header kept same has) = absurd (header_or_place kept file at (sym same ∙ is))
  by_place fault file at is (Of_sight other_file other same unsound) = inr (place_of (IsUnsoundAt s cone seen) other_file other file at (sym same ∙ is) unsound)

  pub by_header : (fault : ReopenFault) (kept : Kept) → fault ≡ OtherSettings kept → IsReopenRefused s cone seen fault → HasOther s cone (seen JOURNAL) kept
  by_header fault kept is (Of_call failed) = absurd (failed_or_header kept (sym failed ∙ is))
  by_header fault kept is (Of_place file at same leaves) = absurd (header_or_place kept file at (sym is ∙ same))
  by_header fault kept is (Of_header other same has) = subst (HasOther s cone (seen JOURNAL)) (header_of other kept (sym same ∙ is)) has
  by_header fault kept is (Of_sight file at same unsound) = absurd (header_or_place kept file at (sym is ∙ same))

  -- an answer where the files leave their format there
  abbrev pub Refuses : ReopenFault → ℕ → ℕ → Type 0
  Refuses fault file at = IsOutside fault ⊎ (fault ≡ Malformed file at)

  pub left_there : (fault : ReopenFault) (file at : ℕ) → IsReopenRefused s cone seen fault → FirstLeaves s cone seen file at → Refuses fault file at
  left_there fault file at (Of_call is) leaves = inl is
  left_there fault file at (Of_place other_file other is too) leaves =
      let same = one_first other_file other file at too leaves in
      inr (is ∙ (λ i. Malformed (same.0 i) (same.1 i)))
  left_there fault file at (Of_header kept is has) leaves = absurd (first_or_other file at kept leaves has)
  left_there fault file at (Of_sight other place is unsound) leaves = absurd (whole_or_left file at unsound.whole leaves)

  pub other_there : (fault : ReopenFault) (kept : Kept) → IsReopenRefused s cone seen fault → HasOther s cone (seen JOURNAL) kept → IsOutside fault ⊎ (fault ≡ OtherSettings kept)
  other_there fault kept (Of_call is) has = inl is
  other_there fault kept (Of_place file at is leaves) has = absurd (first_or_other file at kept leaves has)
  other_there fault kept (Of_header other is too) has = inr (is ∙ ap OtherSettings (one_header s cone valid below seen other kept too has))
  other_there fault kept (Of_sight file at is unsound) has = absurd (no_other s cone valid below seen unsound.whole.opened.headed kept has)

  -- ---- what an answer says that is right

  module _ {K E : Type 0} (closed_in : K → Bool) (events_in : K → List Item) (weight_in gate_in : K → ℕ) (fault_in : E → ReopenFault) where
    abbrev pub Told : Result K E → Type 0
    Told result = MatchResult result (λ now. IsReopened s cone seen (closed_in now) (events_in now) (weight_in now) (gate_in now)) (λ refused. IsReopenRefused s cone seen (fault_in refused))

    -- what follows from it, either way
    abbrev pub Says : Result K E → Type 0
    Says result = record {
      journal : IfOk result (λ now. IsReadOn s cone seen (events_in now) (weight_in now) (gate_in now));
      journal_whole : (history : List Packet) → IsJournal version s cone history (seen JOURNAL) → (records : List LogRecord) (log_end : ℕ) → HasLog s cone (seen LOG) records log_end →
          IsPlaceIn version history (last_place records) → IfOk result (λ now. events_in now ≡ events_of history);
      closed : IfOk result (λ now. (records : List LogRecord) × (log_end : ℕ) × HasLog s cone (seen LOG) records log_end × (closed_in now ≡ is_closed records));
      malformed : IfErr result (λ refused. (file at : ℕ) → fault_in refused ≡ Malformed file at → FirstLeaves s cone seen file at ⊎ IsUnsoundAt s cone seen file at);
      other : IfErr result (λ refused. (kept : Kept) → fault_in refused ≡ OtherSettings kept → HasOther s cone (seen JOURNAL) kept);
      refuses : (file at : ℕ) → FirstLeaves s cone seen file at → IsErrAnd result (λ refused. Refuses (fault_in refused) file at);
      differs : (kept : Kept) → HasOther s cone (seen JOURNAL) kept → IsErrAnd result (λ refused. IsOutside (fault_in refused) ⊎ (fault_in refused ≡ OtherSettings kept));
    }

    pub says : (result : Result K E) → Told result → Says result
    says (Ok now) told = record {
      journal = reopened_journal (closed_in now) (events_in now) (weight_in now) (gate_in now) told;
      journal_whole = λ history journal records log_end log place.
          reopened_whole (closed_in now) (events_in now) (weight_in now) (gate_in now) told history records log_end journal log place;
      closed = (told.records, told.log_end, told.opened.log, told.closed_is);
      malformed = tt;
      other = tt;
      refuses = λ file at leaves. reopened_or_left (closed_in now) (events_in now) (weight_in now) (gate_in now) told file at leaves;
      differs = λ kept has. no_other s cone valid below seen told.opened.headed kept has;
    }
    says (Err refused) told = record {
      journal = tt;
      journal_whole = λ history journal records log_end log place. tt;
      closed = tt;
      malformed = λ file at is. by_place (fault_in refused) file at is told;
      other = λ kept is. by_header (fault_in refused) kept is told;
      refuses = λ file at leaves. left_there (fault_in refused) file at told leaves;
      differs = λ kept has. other_there (fault_in refused) kept told has;
    }

    -- of files that are sound for a list
    module _ (told_in : Option Files) (told_is : told_in ≡ Some seen) (counts : K → ℕ) (stands_in : K → List Packet → Type 0) (finishes : K → Bool → Type 0)
        (history : List Packet) (sound : IsSound s cone history seen) where
      some_keys : All (λ packet. 0 < length packet.items) history
      some_keys k d within = some_keys_of s cone _ (sound.journal.journaled k d within)

      pub sound_told : (result : Result K E) → Told result → IfErr result (λ refused. (h : List Packet) → IsSound s cone h seen → IsOutside (fault_in refused)) →
          IfOk result (λ now. (h : List Packet) → All (λ packet. 0 < length packet.items) h →
          (length (events_of h) ≡ counts now) × (weight_of weighed (events_of h) ≡ weight_in now) →
          ((now_seen : Files) → told_in ≡ Some now_seen → (other : List Packet) → IsSound s cone other now_seen → IsSound s cone h now_seen) → stands_in now h) →
          IfOk result (λ now. counts now ≡ length (events_in now)) → IfOk result (λ now. finishes now (closed_in now)) →
          MatchResult result (λ now. stands_in now history × finishes now (is_closed sound.logged)) (λ refused. IsOutside (fault_in refused))
      sound_told (Ok now) told fails stands counted finished =
          let events_are = sym (reopened_events (closed_in now) (events_in now) (weight_in now) (gate_in now) told history sound) in (
            stands history some_keys (ap length events_are ∙ sym counted, reopened_weight (closed_in now) (events_in now) (weight_in now) (gate_in now) told history sound)
                (λ now_seen now_told other is. subst (IsSound s cone history) (same_Some seen now_seen (sym told_is ∙ now_told)) sound),
            subst (finishes now) (reopened_closed (closed_in now) (events_in now) (weight_in now) (gate_in now) told history sound) finished,
          )
      sound_told (Err refused) told fails stands counted finished = fails history sound
