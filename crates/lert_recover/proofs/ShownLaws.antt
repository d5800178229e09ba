-- The reports of a cone that is reopened, of which those that were shown before are the first.
use Rattle.std.proofs.Common.{◌≡◌, ℕ, ◌<◌, ◌≤◌, Bool, true, false, Option, Some, Result, Ok, Err, List, [], ◌∷◌, ◌++◌, length, All, length-append, ap, sym, ◌∙◌, refl, subst, arith}
use Rattle.std.proofs.{lemmas.List.Concat.flat_map-append, lemmas.List.Elements.{All-head, All-tail}, lemmas.Option.same_Some}
use Rattle.std.specs.Prelude.{IfOk, MatchResult, if◌then◌else◌}
use Rattle.lert_base.specs.Packet.{Packet, events_of, keys_of}
use Rattle.lert_bay.specs.Files.{Files}
use Rattle.lert_cone.specs.{declared.state.ConeState.TheVariants.{Finished, Running}, Sound.{IsSound, KeysFit}, Stands.{Standing, StandsFor, WasSound, is_broken}}
use Rattle.lert_cone.proofs.MadeReports.{BeginsWith, closing_begins, look_begins}
use Rattle.lert_reports.specs.Log.{is_closed}
use Rattle.lert_spec.specs.{Counts.weighed, declared.{item.Item.Item, numbers.Numbers.Numbers, report.Report.Report}, Edges.key_limit, Items.keys_in, Limits.IsValid}
use Rattle.lert_spec.specs.Look.{closing_of, look_of, look_up_to}
use Rattle.lert_spec.proofs.LookLaws.{HaveKeys, look_to-append}
use Rattle.lert_recover.specs.{Replayed.IsJournalSame, Shown.reports_for}
use Rattle.lert_recover.proofs.MomentLaws.{sound_as}

-- ---- keys below the limit

keys_joined : (s : Numbers) (items others : List Item) → All (λ key. key < key_limit s) (keys_in items) → HaveKeys s weighed others → HaveKeys s weighed (items ++ others)
keys_joined s [] others fit rest = rest
keys_joined s (item ∷ items) others fit rest = (
  All-head (λ key. key < key_limit s) item.key (keys_in items) fit,
  keys_joined s items others (All-tail (λ key. key < key_limit s) item.key (keys_in items) fit) rest,
)

have_keys : (s : Numbers) (history : List Packet) → KeysFit s history → HaveKeys s weighed (events_of history)
have_keys s [] fit = tt
have_keys s (packet ∷ rest) fit =
    keys_joined s packet.items (events_of rest) (All-head (λ (p : Packet). All (λ key. key < key_limit s) (keys_of p)) packet rest fit)
    (have_keys s rest (All-tail (λ (p : Packet). All (λ key. key < key_limit s) (keys_of p)) packet rest fit))

keys_split : (s : Numbers) (items others : List Item) → HaveKeys s weighed (items ++ others) → HaveKeys s weighed items × HaveKeys s weighed others
keys_split s [] others fit = (tt, fit)
keys_split s (item ∷ items) others fit = (let behind = keys_split s items others fit.1 in ((fit.0, behind.0), behind.1))

-- ---- the reports of the first events are the first reports

begins_either : (s : Numbers) (events : List Item) (front : List Report) (closed : Bool) → BeginsWith front (look_of weighed s events) →
    BeginsWith front (if closed then closing_of weighed s events else look_of weighed s events)
begins_either s events front true begun = closing_begins s events front begun
begins_either s events front false begun = begun

first_shown : (s : Numbers) (first more : List Item) (closed : Bool) → 1 ≤ s.threshold → HaveKeys s weighed (first ++ more) →
    BeginsWith (look_of weighed s first) (if closed then closing_of weighed s (first ++ more) else look_of weighed s (first ++ more))
first_shown s first more closed positive fit =
    let parts = keys_split s first more fit in
    let all = first ++ more in
    let same : look_up_to weighed s all (length first) ≡ look_of weighed s first = look_to-append weighed s first more (length first) positive parts.0 parts.1 (omega arith) in
    begins_either s all (look_of weighed s first) closed
    (subst (λ (front : List Report). BeginsWith front (look_of weighed s all)) same (look_begins s all (length first) (length all) (omega (arith, length-append first more))))

pub shown_in : (s : Numbers) (cone : ℕ) (seen : Files) (history more : List Packet) (closed : Bool) (reports : List Report) → IsValid s → IsSound s cone (history ++ more) seen →
    reports ≡ reports_for s (history ++ more) closed → (rest : List Report) × (reports ≡ look_of weighed s (events_of history) ++ rest)
shown_in s cone seen history more closed reports valid sound is =
    let joined : events_of (history ++ more) ≡ events_of history ++ events_of more = flat_map-append (λ (p : Packet). p.items) history more in
    let fit : HaveKeys s weighed (events_of history ++ events_of more) = subst (HaveKeys s weighed) joined (have_keys s (history ++ more) sound.journal.fit) in
    let begun = first_shown s (events_of history) (events_of more) closed valid.limits.threshold_from fit in
    (begun.more, is ∙ (ap (λ (events : List Item). if closed then closing_of weighed s events else look_of weighed s events) joined ∙ begun.is))

-- ---- the cone

closed_apart : Finished ≡ Running → ⊥
closed_apart is = cc

same_closed : (one other : Bool) → (if one then Finished else Running) ≡ (if other then Finished else Running) → one ≡ other
same_closed true true is = refl
same_closed true false is = absurd (closed_apart is)
same_closed false true is = absurd (closed_apart (sym is))
same_closed false false is = refl

never_broken : (closed : Bool) → is_broken (if closed then Finished else Running) ≡ false
never_broken true = refl
never_broken false = refl

-- what is so of a cone, told or not
abbrev pub IsOwn : {B : Type 0} → Numbers → ℕ → Standing B → Type 0
IsOwn s cone now =
    (now.listing.settings ≡ s) × (now.listing.cone ≡ cone) × (now.events ≡ length now.listing.events) × (now.state ≡ if now.listing.closed then Finished else Running)

abbrev pub WasMade : {B : Type 0} → (B → Option Files) → (B → ℕ) → (B → ℕ) → B → Standing B → Type 0
WasMade files faults mark before now = (files now.made ≡ files before) × (faults before ≤ faults now.made) × (mark now.made ≡ mark before)

module _ {B : Type 0} (files : B → Option Files) (leaves : B → Files → Type 0) (faults mark : B → ℕ) (s : Numbers) (cone : ℕ) (before : B) (seen : Files)
    (told : files before ≡ Some seen) (history : List Packet) (sound : IsSound s cone history seen) where
  was_sound : (now : Standing B) → IsOwn s cone now → WasMade files faults mark before now → WasSound files now
  was_sound now own made first first_told =
      let same = same_Some seen first (sym told ∙ (sym made.0 ∙ first_told)) in
      (history, sound_as s now.listing.settings cone now.listing.cone history first own.0 own.1 (subst (IsSound s cone history) same sound))

  reports_are : (now : Standing B) → StandsFor files leaves faults now history → now.state ≡ (if is_closed sound.logged then Finished else Running) → IsOwn s cone now →
      WasMade files faults mark before now → IsJournalSame (files before) (files now.bay) → now.reports ≡ reports_for s history (is_closed sound.logged)
  reports_are now stands state own made reads =
      let there = reads.told seen told in
      let whole = stands.whole (ap is_broken own.3 ∙ never_broken now.listing.closed) (was_sound now own made) there.0 there.1 in
      let closed_is = same_closed now.listing.closed (is_closed sound.logged) (sym own.3 ∙ state) in
      whole.in_step.reports_are
      ∙ (ap (λ (closed : Bool). if closed then closing_of weighed now.listing.settings now.listing.events else look_of weighed now.listing.settings now.listing.events) closed_is
      ∙ (ap (λ (t : Numbers). if is_closed sound.logged then closing_of weighed t now.listing.events else look_of weighed t now.listing.events) own.0
      ∙ ap (λ (events : List Item). if is_closed sound.logged then closing_of weighed s events else look_of weighed s events) whole.keys))

  module _ {E : Type 0} (bay_in : E → B) (Outside : E → Type 0) where
    pub reports_told : (result : Result (Standing B) E) →
        MatchResult result
        (λ now. StandsFor files leaves faults now history × (now.state ≡ if is_closed sound.logged then Finished else Running)) (λ refused. Outside refused) →
        IfOk result (IsOwn s cone) → IfOk result (WasMade files faults mark before) →
        MatchResult result (λ now. IsJournalSame (files before) (files now.bay)) (λ refused. IsJournalSame (files before) (files (bay_in refused))) →
        IfOk result (λ now. now.reports ≡ reports_for s history (is_closed sound.logged))
    reports_told (Ok now) stands own made reads = reports_are now stands.0 stands.1 own made reads
    reports_told (Err refused) stands own made reads = tt

pub shown_told : {B E : Type 0} (s : Numbers) (cone : ℕ) (seen : Files) (history more : List Packet) (closed : Bool) → IsValid s → IsSound s cone (history ++ more) seen →
    (result : Result (Standing B) E) → IfOk result (λ now. now.reports ≡ reports_for s (history ++ more) closed) →
    IfOk result (λ now. (rest : List Report) × (now.reports ≡ look_of weighed s (events_of history) ++ rest))
shown_told s cone seen history more closed valid sound (Ok now) are = shown_in s cone seen history more closed now.reports valid sound are
shown_told s cone seen history more closed valid sound (Err refused) are = tt
