-- The text of a record, as it is appended.
use Rattle.lert_spec.specs.declared.item.Item.{Item}
use Rattle.std.proofs.Common.{◌≡◌, ℕ, ◌+◌, ◌-◌, ◌≤◌, List, [], ◌∷◌, ◌++◌, length, take, drop, Result, Err, refl, sym, ap, subst, ◌∙◌, arith, length-drop, length-append}
use Rattle.std.proofs.{lemmas.List.take_all, lemmas.Nat.mul-le}
use Rattle.lert_gatelog.specs.Gated.{appendix, IsAppendix}
use Rattle.lert_gatelog.proofs.GatedLaws.{length_appendix}
use Rattle.lert_levels.specs.{declared.rows.bin_at.BinAt.BinAt, rows.Rows.{AreRows, directory_text}}
use Rattle.lert_levels.proofs.rows.MoveLaws.{directory_short}
use Rattle.lert_reports.specs.{declared.log.LogKind.LogKind, LogText.log_payload, Log.most_record}
use Rattle.lert_reports.proofs.LogLaws.{log_payload_length}
use Rattle.lert_spec.specs.{declared.numbers.Numbers.Numbers, Limits.IsValid, declared.report.Report.Report}
use Rattle.std.specs.Result.{IsErrAnd}
use Rattle.lert_cone.specs.{declared.journal_places.JournalPlace.JournalPlace, Appends.AppendsRecord, InStep.IsLogging, Listing.Listing, JournalPlaces.oldest_place, Tally.Tallied}
use Rattle.lert_cone.specs.Record.{LogPlace, payload_at, payload_len}
use Rattle.lert_bay.specs.Kept.{Bays}
use Rattle.lert_cone.proofs.TakeLaws.{handed_on}

pub payload_is_at : (log : LogPlace) (kind : LogKind) (n0 : ℕ) (directory : List ℕ) (reports : List Report) → log_payload kind n0
    (oldest_place log.places).gate (oldest_place log.places).first directory (drop log.named reports) ≡ payload_at log kind n0 directory reports
unfolding payload_at
payload_is_at log kind n0 directory reports = refl

-- ---- how long it is

pub payload_long : (log : LogPlace) (kind : LogKind) (n0 : ℕ) (directory : List ℕ) (reports : List Report) →
    length (payload_at log kind n0 directory reports) ≡ payload_len log directory reports
payload_long log kind n0 directory reports = ap length (sym (payload_is_at log kind n0 directory reports))
    ∙ log_payload_length kind n0 (oldest_place log.places).gate (oldest_place log.places).first directory (drop log.named reports)

-- ---- a text that was written, of the reports behind the named ones

module _ (log : LogPlace) (kind : LogKind) (n0 : ℕ) (directory : List ℕ) (reports : List Report) (place : JournalPlace) (place_is : place ≡ oldest_place log.places) (len : ℕ)
    (into : List ℕ)
    (text : take len into ≡ appendix (log_payload kind n0 place.gate place.first directory (take (length reports - log.named) (drop log.named reports)))) where
  new_is : take (length reports - log.named) (drop log.named reports) ≡ drop log.named reports
  new_is = take_all (length reports - log.named) (drop log.named reports) (omega (arith, length-drop log.named reports))

  pub text_at : take len into ≡ appendix (payload_at log kind n0 directory reports)
  text_at =
      text
      ∙ (ap (λ new. appendix (log_payload kind n0 place.gate place.first directory new)) new_is
      ∙ (ap (λ (m : JournalPlace). appendix (log_payload kind n0 m.gate m.first directory (drop log.named reports))) place_is
      ∙ ap appendix (payload_is_at log kind n0 directory reports)))

  pub text_long : length (take len into) ≡ 5 + length (payload_at log kind n0 directory reports)
  text_long = ap length text_at ∙ length_appendix (payload_at log kind n0 directory reports)

  pub is_appendix : (most : ℕ) → payload_len log directory reports ≤ most → IsAppendix most (take len into)
  is_appendix most fits = record {
    payload = payload_at log kind n0 directory reports;
    is = text_at;
    some = omega (arith, payload_long log kind n0 directory reports);
    fits = omega (arith, payload_long log kind n0 directory reports, fits);
  }

-- ---- a record fits a log

pub record_fits : (s : Numbers) (rows : List (List BinAt)) (log : LogPlace) (directory : List ℕ) (reports all : List Report) → AreRows s rows → log.most ≡ most_record s →
    directory ≡ directory_text rows → reports ≡ all → length all ≤ s.room →
    payload_len log directory reports ≤ log.most
record_fits s rows log directory reports all are most_is directory_is reports_are few =
    omega (arith, most_is, ap (length {A = ℕ}) directory_is, directory_short s rows are, ap (length {A = Report}) reports_are, few, length-drop log.named reports)

-- no payload is long
pub most_few : (s : Numbers) → IsValid s → most_record s ≤ 67109029
most_few s valid =
    let product = mul-le s.levels (1 + s.bins) 8 17 valid.limits.levels_to (omega (arith, valid.limits.bins_to)) in
    omega (arith, product, valid.limits.room_to)

-- and a record more leaves a log in its bounds
pub logging_more : (t a : Tallied) (log log_after : LogPlace) (room room_after : ℕ) (item : Item) (directory : List ℕ) (reports : List Report) → IsValid t.listing.settings →
    IsLogging t log room →
    a.listing ≡ record t.listing { events = t.listing.events ++ item ∷ [] } →
    log_after.most ≡ log.most → log_after.named ≡ length a.due.reports → log_after.gate ≡ log.gate + 5 + payload_len log directory reports →
    payload_len log directory reports ≤ log.most →
    room_after ≡ room → log_after.places.settings ≡ a.listing.settings → log_after.places.passed ≡ length a.listing.events → IsLogging a log_after room_after
logging_more t a log log_after room room_after item directory reports valid logging is most_is named_is gate_is fits room_is same passed = record {
  most = most_is ∙ logging.most ∙ ap (λ (l : Listing). most_record l.settings) (sym is);
  named = omega (arith, named_is);
  near = omega (arith, gate_is, fits, logging.near, logging.most, most_few t.listing.settings valid, ap (λ (l : Listing). length l.events) is, length-append t.listing.events (item ∷ []));
  roomy = omega (arith, most_is, room_is, logging.roomy);
  same = same;
  passed = passed;
}

-- ---- an append

pub same_record : {B E : Type 0} (bays : Bays B) (kind : LogKind) (n n_now : ℕ) (directory directory_now : List ℕ) (reports reports_now : List Report) (bay bay_after : B) (old new : LogPlace)
    (result : Result (Unit {0}) E) →
    n ≡ n_now → directory ≡ directory_now → reports ≡ reports_now → AppendsRecord bays kind n directory reports bay bay_after old new result →
    AppendsRecord bays kind n_now directory_now reports_now bay bay_after old new result
same_record bays kind n n_now directory directory_now reports reports_now bay bay_after old new result n_is directory_is reports_are appends =
    subst (λ k. AppendsRecord bays kind k directory_now reports_now bay bay_after old new result) n_is
    (subst (λ (d : List ℕ). AppendsRecord bays kind n d reports_now bay bay_after old new result) directory_is
    (subst (λ (rs : List Report). AppendsRecord bays kind n directory rs bay bay_after old new result) reports_are appends))

pub refused_record : {B E : Type 0} (bays : Bays B) (kind : LogKind) (n : ℕ) (directory : List ℕ) (reports : List Report) (bay bay_after : B) (old new : LogPlace) (given : Result (Unit {0}) E)
    (failed : E) →
    IsErrAnd given (λ g. g ≡ failed) → AppendsRecord bays kind n directory reports bay bay_after old new (Err failed) →
    AppendsRecord bays kind n directory reports bay bay_after old new given
refused_record {B} {E} bays kind n directory reports bay bay_after old new given failed given_is =
    subst (λ (r : Result (Unit {0}) E). AppendsRecord bays kind n directory reports bay bay_after old new r) (handed_on given failed given_is)
