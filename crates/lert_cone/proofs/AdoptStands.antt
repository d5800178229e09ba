-- A cone as it is adopted: what is so of it, and that it is on its way through its journal.
use Rattle.lert_spec.specs.declared.item.Item.{Item}
use Rattle.std.proofs.Common.{◌≡◌, ℕ, ◌*◌, ◌^◌, ◌≤◌, Bool, List, length, Option, Some, None, refl, sym, ap, ◌∙◌, subst, arith}
use Rattle.lert_base.specs.Packet.{Packet}
use Rattle.lert_bay.specs.Files.{Files, IfTold}
use Rattle.lert_gatelog.specs.{Gated.Log, Kept.IsWhollySettled}
use Rattle.lert_levels.specs.{declared.rows.bin_at.BinAt.BinAt, rows.Rows.IsAt}
use Rattle.lert_reports.specs.{Log.{HasLog, HasRecords, last_n0, most_record}, LogText.LogRecord, declared.log_point.LogPoint.LogPoint}
use Rattle.lert_spec.specs.{declared.numbers.Numbers.Numbers, declared.report.Report.Report, Edges.{capacity, edge}, Limits.IsValid}
use Rattle.lert_cone.specs.{KeepsLog.{IsHeadOf, LogHead}, Listing.Listing, Logged.frames_of, JournalPlaces.places_from, Record.LogPlace, Replay.{IsLastOf, IsOnWay, IsPast}}
use Rattle.lert_cone.specs.{Replaying.IsReplaying, Replays.Replays, Room.room_of, Tally.{Tallied, IsRecounted}, Wrote.IsShutIfTold}
use Rattle.lert_cone.proofs.{FaultLaws.turns_as, ReplayStands.seen_as, ReplayStep.told_once}
use Rattle.lert_journal.specs.Payload.{most_payload}
use Rattle.lert_cone.specs.Room.{IsPointOf}
use Rattle.lert_cone.proofs.WeighLaws.{weight_from_none}
use Rattle.lert_base.specs.Packet.{events_of}
use Rattle.lert_spec.specs.{Counts.{weighed, weight_of}, Edges.edge}
use Rattle.std.proofs.Common.{take}

-- its memory goes on with the records of the log that was read
pub adopted_head : (s : Numbers) (cone n0 offset first : ℕ) (closed : Bool) (rows : List (List BinAt)) (reports : List Report) (records : List LogRecord) (log_end : ℕ) (bytes : List ℕ)
    (head : LogHead) → IsAt s n0 rows → HasLog s cone bytes records log_end → IsLastOf s n0 offset first closed rows reports records → head.rows ≡ rows → head.events ≡ n0 →
    head.gate ≡ log_end → IsHeadOf s records head bytes
adopted_head s cone n0 offset first closed rows reports records log_end bytes head at log last rows_is events_is gate_is = record {
  stand = subst (λ gate. HasRecords s bytes records gate) (sym gate_is) log.records_stand;
  names = record {
    directory = last.directory_is ∙ ap frames_of (sym rows_is);
    at = subst (λ (rs : List (List BinAt)). IsAt s (last_n0 records) rs) (sym rows_is) (subst (λ n. IsAt s n rows) last.n0_is at);
  };
  newest = ap (edge s 0) (sym last.n0_is ∙ sym events_is);
}

module _ {B : Type 0} (files : B → Option Files) (leaves : B → Files → Type 0) (faults : B → ℕ) where
  -- as it is adopted: it has the items that it doesn't read
  pub adopted_cone : (mark : B → ℕ) (bay made : B) (s : Numbers) (cone : ℕ) (keys : List Item) (n : ℕ) (tally : Tallied) (journal : Log) (log : LogPlace) (last : LogPoint)
      (room keys_room : ℕ) → IsValid s
      → tally.listing ≡ record { settings = s; version = last.version; cone = cone; events = keys; closed = last.closed } → length keys ≡ n → n ≤ capacity s → n ≤ edge s 0 last.n0 →
      IsPointOf s last → IsRecounted tally last.n0
      → journal.file ≡ 0 → journal.most ≡ most_payload last.version s → journal.gate ≤ 2 ^ 46 → last.log_end ≤ 2 ^ 62
      → log ≡ record { gate = last.log_end; most = most_record s; named = length tally.due.reports; places = places_from s n } → room ≡ room_of s → keys_room ≡ 4 * s.packet →
      made ≡ bay
      → IfTold (files bay) (λ seen. IsWhollySettled (leaves bay) seen 0) → IsShutIfTold (files bay) (leaves bay) 1 last.log_end
      → IsReplaying files leaves faults mark (seen_as bay made tally n last.weight None journal.gate log last) tally journal room keys_room
  adopted_cone mark bay made s cone keys n tally journal log last room keys_room valid is counted fits early point recounted file_is most_is near reach log_is room_is keys_room_is made_is settled
      shut =
      let long : length tally.listing.events ≡ n = ap (λ (l : Listing). length l.events) is ∙ counted in
      let same : s ≡ tally.listing.settings = ap (λ (l : Listing). l.settings) (sym is) in
      record {
        file = file_is;
        most = most_is ∙ ap (λ (l : Listing). most_payload l.version l.settings) (sym is);
        roomy = room_is ∙ ap room_of same;
        keys_roomy = keys_room_is ∙ ap (λ (v : Numbers). 4 * v.packet) same;
        within = subst (λ (v : Numbers). n ≤ capacity v) same fits;
        version = ap (λ (l : Listing). l.version) is;
        point = subst (λ (v : Numbers). IsPointOf v last) same point;
        valid = subst IsValid same valid;
        never_falls = omega (arith, ap faults made_is);
        marked = ap mark (sym made_is);
        tells = turns_as (ap files (sym made_is));
        taking = λ _. record {
          counted = long;
          weight_is = sym (weight_from_none tally.listing.settings last tally.listing.events (omega (arith, long, early, ap (λ (v : Numbers). edge v 0 last.n0) same)));
          recounted = recounted;
          closed = ap (λ (l : Listing). l.closed) is;
          near = omega (arith, near);
          journal_settled = settled;
          logging = record {
            most = ap (λ (l : LogPlace). l.most) log_is ∙ ap most_record same;
            named = omega (arith, ap (λ (l : LogPlace). l.named) log_is);
            near = omega (arith, ap (λ (l : LogPlace). l.gate) log_is, reach);
            roomy = omega (arith, ap (λ (l : LogPlace). l.most) log_is, room_is);
            same = ap (λ (l : LogPlace). l.places.settings) log_is ∙ same;
            passed = ap (λ (l : LogPlace). l.places.passed) log_is ∙ sym long;
          };
          log_shut = subst (λ gate. IsShutIfTold (files bay) (leaves bay) 1 gate) (sym (ap (λ (l : LogPlace). l.gate) log_is)) shut;
        };
      }

  -- what it is adopted with is on the way
  pub adopted_replays : (bay made : B) (s : Numbers) (cone gate : ℕ) (keys : List Item) (n : ℕ) (tally : Tallied) (log : LogPlace) (last : LogPoint) (rows : List (List BinAt))
      (reports : List Report) (history done : List Packet) (seen : Files)
      → tally.listing ≡ record { settings = s; version = last.version; cone = cone; events = keys; closed = last.closed } → tally.rows ≡ rows → tally.due.reports ≡ reports → gate ≡ last.offset →
      log ≡ record {
        gate = last.log_end;
        most = most_record s;
        named = length reports;
        places = places_from s n;
      }
      → files bay ≡ Some seen → weight_of weighed (take (edge s 0 last.n0) (events_of history)) ≡ last.weight → IsPast last.version history done keys last.offset
      → IsOnWay (leaves bay) seen history (record { settings = s; version = last.version; cone = cone; events = keys; closed = last.closed }) rows reports (record {
        gate = last.log_end;
        most = most_record s;
        named = length reports;
        places = places_from s n;
      }) last.n0
      → Replays files leaves (seen_as bay made tally n last.weight None gate log last) history done
  adopted_replays bay made s cone gate keys n tally log last rows reports history done seen is rows_are reports_are gate_is log_is told weighs past on_way = record {
    taking = refl;
    weighed_is = λ _ _. ap (λ (l : Listing). weight_of weighed (take (edge l.settings 0 last.n0) (events_of history))) is ∙ weighs;
    past = subst (λ (l : Listing). IsPast l.version history done l.events gate) (sym is) (subst (IsPast last.version history done keys) (sym gate_is) past);
    on_way = λ after told_after.
        subst (λ (f : Files). IsOnWay (leaves bay) f history tally.listing tally.rows tally.due.reports log last.n0) (told_once (files bay) seen after told told_after)
        (subst (λ (l : Listing). IsOnWay (leaves bay) seen history l tally.rows tally.due.reports log last.n0) (sym is)
        (subst (λ (rs : List (List BinAt)). IsOnWay (leaves bay) seen history (record { settings = s; version = last.version; cone = cone; events = keys; closed = last.closed }) rs
        tally.due.reports log last.n0)
        (sym rows_are)
        (subst (λ (rs : List Report). IsOnWay (leaves bay) seen history (record { settings = s; version = last.version; cone = cone; events = keys; closed = last.closed }) rows rs log last.n0) (sym
        reports_are)
        (subst (λ (l : LogPlace). IsOnWay (leaves bay) seen history (record { settings = s; version = last.version; cone = cone; events = keys; closed = last.closed }) rows reports l last.n0) (sym
        log_is) on_way))));
  }
