-- A cone's log through the calls of a bay: reads, calls in turn, a flush, and the record behind a flush.
use Rattle.std.proofs.Common.{◌≡◌, ◌≢◌, ℕ, ◌-◌, ◌≤◌, List, [], ◌∷◌, ◌++◌, length, map, drop, Option, Some, Result, Ok, Err, OnOk, refl, sym, ap, ◌∙◌, subst, inl, inr, append_assoc, append-nil, arith}
use Rattle.std.proofs.{lemmas.List.{length-map, map-append}, lemmas.Option.same_Some}
use Rattle.lert_bay.specs.{Files.{Files, IfTold, Turns}, Images.Lasts, Kept.Bays, Settled.{part, IsSettled}}
use Rattle.lert_bay.proofs.KeptLaws.{IsLawful}
use Rattle.lert_gatelog.specs.{Gated.{IsGated, next_gate}, Kept.{InEach, OthersStay}}
use Rattle.lert_levels.specs.{Flushed.InNamed, declared.rows.bin_at.BinAt.BinAt, rows.Landing.{KeepsRest, LeavesRest}, rows.Rows.{AreRows, HoldsBins, IsAt, directory_text}}
use Rattle.lert_reports.specs.{declared.log.LogKind.LogKind, Log.{HasRecords, last_n0, most_record}, LogText.{LogRecord, log_payload, log_payload_of}}
use Rattle.lert_reports.proofs.LogLaws.{last_directory-push, last_n0-push}
use Rattle.lert_spec.specs.{declared.numbers.Numbers.Numbers, declared.report.Report.Report, Edges.{edge, capacity}, Limits.IsValid}
use Rattle.lert_cone.specs.{Appends.AppendsRecord, Framed.HoldsSome, KeepsLog.{IsNextFlush, NamesRows, HoldsNamed, KeepsRecords, KeepsLog, LogHead, IsHeadOf, KeepsLogOf}, Logged.frames_of}
use Rattle.lert_cone.specs.{JournalPlaces.oldest_place, Record.{LogPlace, payload_at}, Replays.IsUnwritten, Wrote.IsShutIfTold}
use Rattle.lert_cone.proofs.Calls.{now_since}
use Rattle.lert_cone.proofs.KeepsLogLaws.{begins_each, gate_within, in_named, keeps_log_none, keeps_log_on, named_some, one_end, records_each, records_on, records_push, records_same}
use Rattle.lert_cone.proofs.{LogLaws.{directory_is, frames_are}, RecordLaws.payload_is_at, StepLaws.frames_since, TakeLaws.ok_holds}

-- the step from files that were told to those that are
pub step_of : (step : Files → Files → Type 0) (before after : Option Files) → Turns step before after → (seen : Files) → before ≡ Some seen → (now : Files) → after ≡ Some now → step seen now
step_of step before after turns seen told now told_now =
    let came = turns.told seen told in
    subst (step seen) (same_Some came.0 now (sym came.1 ∙ told_now)) came.2

-- after a flush at position n0, behind n events: the rows are those after it, level 0's edge moves there, and not before
pub record IsFlushed (s : Numbers) (n n0 : ℕ) (moved : List (List BinAt)) : Type 0 where
  pub at : IsAt s n0 moved
  pub are : AreRows s moved
  pub fits : n0 ≤ capacity s
  pub moves : edge s 0 n0 ≢ edge s 0 (n0 - 1)
  pub behind : edge s 0 n ≡ edge s 0 (n0 - 1)

-- memory goes on with the same records
pub head_nil : (s : Numbers) (records : List LogRecord) (head : LogHead) (bytes : List ℕ) → IsHeadOf s records head bytes → IsHeadOf s (records ++ []) head bytes
head_nil s records head bytes is = subst (λ (rs : List LogRecord). IsHeadOf s rs head bytes) (sym (append-nil records)) is

module _ {version : ℕ} {B : Type 0} (bays : Bays B) (lawful : IsLawful bays) (s : Numbers) where
  -- calls that read alone, or none
  pub log_unwritten : {T E : Type 0} (head : LogHead) (before after : B) (result : Result T E) → IsUnwritten bays before after →
      IsShutIfTold (bays.files before) (bays.leaves before) 1 head.gate → KeepsLogOf bays version s head head before after result
  log_unwritten head before after result none shut seen told records is =
      let shut_here = shut seen told in
      let read = lawful.as_read before seen told in
      record {
        read = λ now told_now. subst (λ (files : Files). (kept : KeepsLog version s records head.gate seen files) × OnOk result (IsHeadOf s (records ++ kept.log.more) head (files 1)))
            (same_Some seen now (sym told ∙ sym none.seen ∙ told_now))
            (keeps_log_none s records head.gate seen is.stand, ok_holds result (head_nil s records head (seen 1) is));
        each_moment = λ image may.
            let same = shut_here.settled.same image (none.moments image may) in
            records_same s records head.gate (seen 1) (image 1) (begins_each s records head.gate (bays.leaves before) seen shut_here read image same)
            (records_each s records head.gate (bays.leaves before) seen shut_here read is.stand image same);
      }

  -- no call
  pub log_none : {E : Type 0} (head : LogHead) (bay : B) → IsShutIfTold (bays.files bay) (bays.leaves bay) 1 head.gate → KeepsLogOf {T = Unit {0}} {E = E} bays version s head head bay bay (Ok tt)
  log_none head bay shut =
      log_unwritten head bay bay (Ok tt) (record { seen = refl; images = λ image. (λ may. may, λ may. may); moments = λ image may. lawful.only_now bay image may }) shut

  -- calls behind others
  pub log_on : {T E U F : Type 0} (old between new : LogHead) (before mid after : B) (done : U) (result : Result T E) {step : Files → Files → Type 0} →
      Turns step (bays.files before) (bays.files mid) → bays.moment before ≤ bays.moment mid →
      Lasts (bays.moment mid) (bays.moment after) (bays.left_since mid) (bays.left_since after) →
      KeepsLogOf {E = F} bays version s old between before mid (Ok done) → KeepsLogOf bays version s between new mid after result → KeepsLogOf bays version s old new before after result
  log_on old between new before mid after done result turns later time first second seen told records is =
      let came = turns.told seen told in
      let one = first seen told records is in
      let kept = (one.read came.0 came.1).0 in
      let going = (one.read came.0 came.1).1 in
      let end_is : kept.log.end ≡ between.gate = one_end s (came.0 1) (records ++ kept.log.more) kept.log.end between.gate kept.log.stand going.stand in
      let two = second came.0 came.1 (records ++ kept.log.more) going in
      record {
        read = λ now told_now.
            let then = two.read now told_now in (
              keeps_log_on s records old.gate between.gate seen came.0 now kept end_is then.0,
              subst (λ (rs : List LogRecord). OnOk result (IsHeadOf s rs new (now 1))) (append_assoc records kept.log.more then.0.log.more) then.1,
            );
        each_moment = λ image may. elim (time.known (bays.moment before) image later may) [
          | inl past ↦ one.each_moment image past
          | inr here ↦ records_on s records old.gate between.gate (seen 1) (came.0 1) (image 1) kept.log end_is (two.each_moment image here)
        ];
      }

  -- the same calls, with another answer, and another name of what memory goes on with
  pub log_as : {T E U F : Type 0} (old new other : LogHead) (before after : B) (result : Result T E) (answer : Result U F) →
      ((P : LogHead → Type 0) → OnOk result (P new) → OnOk answer (P other)) → KeepsLogOf bays version s old new before after result → KeepsLogOf bays version s old other before after answer
  log_as old new other before after result answer goes did seen told records is = record {
    read = λ now told_now.
        let then = (did seen told records is).read now told_now in
        (then.0, goes (λ head. IsHeadOf s (records ++ then.0.log.more) head (now 1)) then.1);
    each_moment = (did seen told records is).each_moment;
  }

  -- ---- a flush, whole or not

  module _ (valid : IsValid s) (rows : List (List BinAt)) (are : AreRows s rows) (n gate : ℕ) (old bay : B) (rest : KeepsRest bays (InNamed s version rows) old bay)
      (shut : IsShutIfTold (bays.files old) (bays.leaves old) 1 gate)
    where
      abbrev head : LogHead
      head = record { rows = rows; events = n; gate = gate }

      apart : ◌≢◌ {A = ℕ} 1 2
      apart same = absurd (omega (arith, same))

      module _ (seen : Files) (told : bays.files old ≡ Some seen) (records : List LogRecord) (is : IsHeadOf s records head (seen 1)) where
        some_stays : (now : Files) → LeavesRest (InNamed s version rows) seen now → HoldsNamed version s records (seen 2) → HoldsSome version s (last_n0 records) rows (now 2)
        some_stays now leaves holds =
            let some = named_some s records rows (seen 2) is.names holds in
            record {
              events = some.events;
              len = some.len;
              light = some.light;
              holds = frames_since (λ (image : Files). image ≡ seen) (λ (image : Files). image ≡ now) seen s some.events rows valid are some.light refl
                  (λ image image_is. subst (λ (files : Files). HoldsBins s version some.events rows (files 2)) (sym image_is) some.holds)
                  (λ from to named settled image image_is. ap (λ (files : Files). part (files 2) from to) image_is ∙ leaves.rest from to named settled.within) now refl;
            }

        -- the frames, where no record came
        named_stays : (now : Files) → LeavesRest (InNamed s version rows) seen now → HoldsNamed version s records (seen 2) → HoldsNamed version s (records ++ []) (now 2)
        named_stays now leaves holds =
            subst (λ (rs : List LogRecord). HoldsNamed version s rs (now 2)) (sym (append-nil records)) (record { rows = rows; names = is.names; some = some_stays now leaves holds })

        abbrev rest_kept : (now : Files) → LeavesRest (InNamed s version rows) seen now → KeepsLog version s records gate seen now
        rest_kept now leaves = record {
          log = records_same s records gate (seen 1) (now 1) (ap (λ (bytes : List ℕ). part bytes 0 gate) (leaves.others 1 apart))
              (subst (λ (bytes : List ℕ). HasRecords s bytes records gate) (sym (leaves.others 1 apart)) is.stand);
          longer = leaves.longer;
          same = λ nothing from to named within. leaves.rest from to (in_named s records rows from to is.names named) within;
          frames = named_stays now leaves;
        }

        rest_each : InEach (bays.left_since bay (bays.moment old)) 1 (KeepsRecords s records gate (seen 1))
        rest_each image may =
            let shut_here = shut seen told in
            let read = lawful.as_read old seen told in
            let same = rest.settled seen told 1 0 (length (seen 1)) (inl apart) shut_here.settled image may in
            records_same s records gate (seen 1) (image 1) (begins_each s records gate (bays.leaves old) seen shut_here read image same)
            (records_each s records gate (bays.leaves old) seen shut_here read is.stand image same)

        head_now : (now : Files) → LeavesRest (InNamed s version rows) seen now → IsHeadOf s (records ++ []) head (now 1)
        head_now now leaves = subst (λ (bytes : List ℕ). IsHeadOf s (records ++ []) head bytes) (sym (leaves.others 1 apart)) (head_nil s records head (seen 1) is)

      -- no record is written behind it
      pub log_rest : {T E : Type 0} (new : LogHead) (result : Result T E) →
          ((records : List LogRecord) (bytes : List ℕ) → IsHeadOf s records head bytes → OnOk result (IsHeadOf s records new bytes)) → KeepsLogOf bays version s head new old bay result
      log_rest new result goes seen told records is = record {
        read = λ now told_now.
            let leaves = step_of (LeavesRest (InNamed s version rows)) (bays.files old) (bays.files bay) rest.seen seen told now told_now in
            (rest_kept seen told records is now leaves, goes (records ++ []) (now 1) (head_now seen told records is now leaves));
        each_moment = rest_each seen told records is;
      }

      -- ---- the record of a flush, appended or not

      module _ (later : bays.moment old ≤ bays.moment bay) (shut_then : IsShutIfTold (bays.files bay) (bays.leaves bay) 1 gate) (moved : List (List BinAt)) (n0 : ℕ) (flushed : IsFlushed s n n0 moved)
          (framed : IfTold (bays.files old) (λ seen. HoldsSome version s n rows (seen 2) → IfTold (bays.files bay) (λ now. HoldsSome version s n0 moved (now 2))))
          (reports : List Report) (log : LogPlace) (gate_is : log.gate ≡ gate) (most_is : log.most ≡ most_record s)
          {E : Type 0} (wrote : Result (Unit {0}) E) (bay_after : B) (log_after : LogPlace)
          (appends : AppendsRecord bays LogKind.Flush n0 (directory_text moved) reports bay bay_after log log_after wrote)
        where
          abbrev one : LogRecord
          one = record {
            kind = LogKind.Flush;
            n0 = n0;
            offset = (oldest_place log.places).gate;
            first = (oldest_place log.places).first;
            directory = frames_of moved;
            reports = drop log.named reports;
          }

          payload_one : payload_at log LogKind.Flush n0 (directory_text moved) reports ≡ log_payload_of one
          payload_one =
              sym (payload_is_at log LogKind.Flush n0 (directory_text moved) reports)
              ∙ ap (λ directory. log_payload LogKind.Flush n0 (oldest_place log.places).gate (oldest_place log.places).first directory (drop log.named reports)) (sym (directory_is moved))

          module _ (seen : Files) (told : bays.files old ≡ Some seen) (records : List LogRecord) (is : IsHeadOf s records head (seen 1)) (mid : Files) (told_mid : bays.files bay ≡ Some mid) where
            leaves_mid : LeavesRest (InNamed s version rows) seen mid
            leaves_mid = step_of (LeavesRest (InNamed s version rows)) (bays.files old) (bays.files bay) rest.seen seen told mid told_mid

            stand_mid : HasRecords s (mid 1) records gate
            stand_mid = subst (λ (bytes : List ℕ). HasRecords s bytes records gate) (sym (leaves_mid.others 1 apart)) is.stand

            read_mid : bays.leaves bay mid
            read_mid = lawful.as_read bay mid told_mid

            next : IsNextFlush s (last_n0 records) one
            next = record {
              flush = refl;
              moves = flushed.moves;
              next = is.newest ∙ flushed.behind;
              within = flushed.fits;
              levels = length-map moved (λ (row : List BinAt). map (λ (bin : BinAt). bin.frame) row) ∙ flushed.at.levels;
              frames = frames_are s n0 moved flushed.at flushed.are;
            }

            -- with the record
            with_one : (bytes : List ℕ) (end : ℕ) → IsGated log.most bytes 8 (map log_payload_of records ++ payload_at log LogKind.Flush n0 (directory_text moved) reports ∷ []) end →
                HasRecords s bytes (records ++ one ∷ []) end
            with_one bytes end gated =
                let all_are : map log_payload_of records ++ payload_at log LogKind.Flush n0 (directory_text moved) reports ∷ [] ≡ map log_payload_of (records ++ one ∷ []) =
                ap (λ payload. map log_payload_of records ++ payload ∷ []) payload_one ∙ sym (map-append log_payload_of records (one ∷ [])) in
                subst (λ (payloads : List (List ℕ)). IsGated (most_record s) bytes 8 payloads end) all_are
                (subst (λ m. IsGated m bytes 8 (map log_payload_of records ++ payload_at log LogKind.Flush n0 (directory_text moved) reports ∷ []) end) most_is gated)

            without_one : (bytes : List ℕ) → IsGated log.most bytes 8 (map log_payload_of records) log.gate → HasRecords s bytes records gate
            without_one bytes gated =
                subst (λ g. IsGated (most_record s) bytes 8 (map log_payload_of records) g) gate_is (subst (λ m. IsGated m bytes 8 (map log_payload_of records) log.gate) most_is gated)

            all : InEach (bays.leaves bay) 1 (λ bytes. IsGated log.most bytes 8 (map log_payload_of records) log.gate)
            all image left =
                let shut_mid = shut_then mid told_mid in
                subst (λ g. IsGated log.most (image 1) 8 (map log_payload_of records) g) (sym gate_is)
                (subst (λ m. IsGated m (image 1) 8 (map log_payload_of records) gate) (sym most_is)
                (records_each s records gate (bays.leaves bay) mid shut_mid read_mid stand_mid image (shut_mid.settled.same image left)))

            begins : (image : Files) → bays.left_since bay_after (bays.moment bay) image → part (image 1) 0 gate ≡ part (seen 1) 0 gate
            begins image here =
                let shut_mid = shut_then mid told_mid in
                let settled : IsSettled (bays.leaves bay) mid 1 0 gate = record {
                  within = gate_within s records gate (bays.leaves bay) mid shut_mid read_mid;
                  same = λ other left. begins_each s records gate (bays.leaves bay) mid shut_mid read_mid other (shut_mid.settled.same other left);
                } in
                appends.before mid told_mid 0 gate (omega (arith, gate_is)) settled image here ∙ ap (λ (bytes : List ℕ). part bytes 0 gate) (leaves_mid.others 1 apart)

            forward : gate ≤ next_gate log.gate (payload_at log LogKind.Flush n0 (directory_text moved) reports)
            forward = omega (arith, gate_is)

            append_each : InEach (bays.left_since bay_after (bays.moment bay)) 1 (KeepsRecords s records gate (seen 1))
            append_each image here = elim (appends.each_moment mid told_mid 8 (map log_payload_of records) all image here) [
              | inl without ↦ records_same s records gate (seen 1) (image 1) (begins image here) (without_one (image 1) without)
              | inr with ↦ records_push s records gate (seen 1) (image 1) (begins image here) one (next_gate log.gate (payload_at log LogKind.Flush n0 (directory_text moved) reports)) next
                  forward (with_one (image 1) _ with)
            ]

            each : InEach (bays.left_since bay_after (bays.moment old)) 1 (KeepsRecords s records gate (seen 1))
            each image may = elim (appends.kept.time.known (bays.moment old) image later may) [
              | inl past ↦ rest_each seen told records is image past
              | inr here ↦ append_each image here
            ]

            names_moved : NamesRows s (records ++ one ∷ []) moved
            names_moved = record { directory = last_directory-push s records one; at = subst (λ k. IsAt s k moved) (sym (last_n0-push records one)) flushed.at }

            -- the frames behind the append
            module _ (now : Files) (told_now : bays.files bay_after ≡ Some now) where
              stays : OthersStay 1 mid now
              stays = step_of (OthersStay 1) (bays.files bay) (bays.files bay_after) appends.seen mid told_mid now told_now

              frames_same : now 2 ≡ mid 2
              frames_same = stays 2 (λ same. absurd (omega (arith, same)))

              since : bays.left_since bay_after (bays.moment bay) now
              since = now_since lawful appends.kept.time.later now (lawful.as_read bay_after now told_now)

              longer_now : length (seen 2) ≤ length (now 2)
              longer_now = omega (arith, leaves_mid.longer, ap (length {A = ℕ}) frames_same)

              abbrev kept_without : HasRecords s (now 1) records gate → KeepsLog version s records gate seen now
              kept_without stand = record {
                log = records_same s records gate (seen 1) (now 1) (begins now since) stand;
                longer = longer_now;
                same = λ nothing from to named within. ap (λ (bytes : List ℕ). part bytes from to) frames_same ∙ leaves_mid.rest from to (in_named s records rows from to is.names named) within;
                frames = λ holds. subst (λ (file : List ℕ). HoldsNamed version s (records ++ []) file) (sym frames_same) (named_stays seen told records is mid leaves_mid holds);
              }

              moved_holds : HoldsNamed version s records (seen 2) → HoldsNamed version s (records ++ one ∷ []) (now 2)
              moved_holds holds =
                  let some : HoldsSome version s n rows (seen 2) = (let last = named_some s records rows (seen 2) is.names holds in record {
                    events = last.events;
                    len = last.len ∙ is.newest;
                    light = last.light;
                    holds = last.holds;
                  }) in
                  record {
                    rows = moved;
                    names = names_moved;
                    some = subst (λ k. HoldsSome version s k moved (now 2)) (sym (last_n0-push records one))
                        (subst (λ (file : List ℕ). HoldsSome version s n0 moved file) (sym frames_same) (framed seen told some mid told_mid));
                  }

              abbrev kept_with : (end : ℕ) → gate ≤ end → HasRecords s (now 1) (records ++ one ∷ []) end → KeepsLog version s records gate seen now
              kept_with end on stand = record {
                log = records_push s records gate (seen 1) (now 1) (begins now since) one end next on stand;
                longer = longer_now;
                same = λ nothing. (let never : 1 ≡ 0 = ap (length {A = LogRecord}) nothing in absurd (omega (arith, never)));
                frames = moved_holds;
              }

              kept_either : KeepsLog version s records gate seen now
              kept_either = elim (appends.each_moment mid told_mid 8 (map log_payload_of records) all now since) [
                | inl without ↦ kept_without (without_one (now 1) without)
                | inr with ↦ kept_with (next_gate log.gate (payload_at log LogKind.Flush n0 (directory_text moved) reports)) forward (with_one (now 1) _ with)
              ]

          -- the append failed
          pub log_failed : {F : Type 0} (new : LogHead) (fault : F) → KeepsLogOf {T = Unit {0}} bays version s head new old bay_after (Err fault)
          log_failed new fault seen told records is =
              let mid = rest.seen.told seen told in
              record {
                read = λ now told_now. (kept_either seen told records is mid.0 mid.1 now told_now, tt);
                each_moment = each seen told records is mid.0 mid.1;
              }

      -- it didn't fail
      module _ (later : bays.moment old ≤ bays.moment bay) (shut_then : IsShutIfTold (bays.files bay) (bays.leaves bay) 1 gate) (moved : List (List BinAt)) (n0 : ℕ) (flushed : IsFlushed s n n0 moved)
          (framed : IfTold (bays.files old) (λ seen. HoldsSome version s n rows (seen 2) → IfTold (bays.files bay) (λ now. HoldsSome version s n0 moved (now 2))))
          (reports : List Report) (log : LogPlace) (gate_is : log.gate ≡ gate) (most_is : log.most ≡ most_record s) {E : Type 0} (bay_after : B) (log_after : LogPlace)
          (appends : AppendsRecord {E = E} bays LogKind.Flush n0 (directory_text moved) reports bay bay_after log log_after (Ok tt))
        where
          pub log_flushed : {F : Type 0} → KeepsLogOf {T = Unit {0}} {E = F} bays version s head (record { rows = moved; events = n0; gate = log_after.gate }) old bay_after (Ok tt)
          log_flushed seen told records is =
              let mid = rest.seen.told seen told in
              let new = one later shut_then moved n0 flushed framed reports log gate_is most_is (Ok tt) bay_after log_after appends in
              record {
                read = λ now told_now.
                    let stand = with_one later shut_then moved n0 flushed framed reports log gate_is most_is (Ok tt) bay_after log_after appends seen told records is mid.0 mid.1 (now 1) log_after.gate
                    (appends.appended mid.0 mid.1 8 (map log_payload_of records)
                    (all later shut_then moved n0 flushed framed reports log gate_is most_is (Ok tt) bay_after log_after appends seen told records is mid.0 mid.1) now
                    (lawful.as_read bay_after now told_now)) in (
                      kept_with later shut_then moved n0 flushed framed reports log gate_is most_is (Ok tt) bay_after log_after appends seen told records is mid.0 mid.1 now told_now log_after.gate
                          (omega (arith, gate_is, ap (λ (l : LogPlace). l.gate) appends.moved)) stand,
                      record {
                        stand = stand;
                        names = names_moved later shut_then moved n0 flushed framed reports log gate_is most_is (Ok tt) bay_after log_after appends seen told records is mid.0 mid.1;
                        newest = ap (edge s 0) (last_n0-push records new);
                      },
                    );
                each_moment = each later shut_then moved n0 flushed framed reports log gate_is most_is (Ok tt) bay_after log_after appends seen told records is mid.0 mid.1;
              }
