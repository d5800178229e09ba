-- Bins over a bay: what stays of them through reads, and through writes elsewhere.
use Rattle.std.proofs.{Common.{ℕ, ◌≡◌, ◌≢◌, ◌<◌, ◌≤◌, ◌⊎◌, ◌↔◌, Option, Some, None, List, length, map, get_or, refl, ap, sym, ◌∙◌, subst, arith, inl, inr}, lemmas.List.{get_or-map, length-map}}
use Rattle.lert_bay.{specs.declared.bay.TheConstants.FRAMES, specs.Files.{Files, IfTold, Turns}, specs.Kept.{Bays, OnlyReads}, proofs.KeptLaws.{IsLawful, keeps_on}}
use Rattle.lert_frames.{proofs.WriteLaws.turns_back, proofs.CallLaws.keeps_turned}
use Rattle.lert_io.specs.Fault.{HasRisen}
use Rattle.lert_levels.{specs.landing.Landings.{Home, home, AreLandings, AreLanding, IsOutside}, specs.declared.landing.landing.Landing.Landing, specs.rows.Landing.{IsApart, LeavesRest}}
use Rattle.lert_levels.{proofs.rows.LandLaws.{rest_on, rest_fewer, read_rest}, specs.flush.Staying.{ComesTheSame, NoneFailed}, specs.flush.Writing.LandingsWrite}
use Rattle.lert_merge.{specs.order.Ordering.{Ordering, AreSame}, specs.declared.order.streams.Streams.{Ghosts as StreamsOf}}
use Rattle.lert_spec.{specs.declared.numbers.Numbers.Numbers, specs.Table.costs}

-- the laws of bins
pub record AreSteady {S B : Type 0} (members : StreamsOf S B) (bays : Bays B) (version width : S → ℕ → ℕ) (reads : S → ℕ → ℕ → Type 0) (sure : S → List ℕ → Type 0) : Type 0 where
  pub summed : (bins : S) (stream : ℕ) → stream < members.count bins → costs (version bins stream) (members.given bins stream) ≤ width bins stream
  pub version_same : (old new : S) → members.same old new → (stream : ℕ) → version new stream ≡ version old stream
  pub width_same : (old new : S) → members.same old new → (stream : ℕ) → width new stream ≡ width old stream
  pub reads_same : (old new : S) → members.same old new → (from to : ℕ) → reads new from to → reads old from to
  pub sure_same : (old new : S) (before after : B) (seen : Files) → members.same old new → bays.files before ≡ Some seen → bays.files after ≡ Some seen →
      ((stream at : ℕ) → stream < members.count old → members.breaks new stream after at → members.breaks old stream before at) → sure old (seen FRAMES) → sure new (seen FRAMES)
  pub stays : (bins : S) (before after : B) (seen later : Files) → bays.files before ≡ Some seen → bays.files after ≡ Some later → sure bins (seen FRAMES) →
      LeavesRest (reads bins) seen later → (stream : ℕ) → stream < members.count bins → ComesTheSame members.to_come members.breaks bins stream before after
  pub sure_stays : (bins : S) (before after : B) (seen later : Files) → bays.files before ≡ Some seen → bays.files after ≡ Some later → sure bins (seen FRAMES) → LeavesRest
      (reads bins) seen later → sure bins (later FRAMES)
  pub stays_untold : (bins : S) (before after : B) → bays.files before ≡ None → bays.files after ≡ None → (stream : ℕ) → stream < members.count bins →
      ComesTheSame members.to_come members.breaks bins stream before after
  pub telling : (bay : B) → members.tells bay ↔ (bays.files bay ≢ None)
  pub reading : (before after : B) → members.keeps before after → OnlyReads bays before after NoneFailed
  pub same_self : (bins : S) → members.same bins bins
  pub same_on : (a b c : S) → members.same a b → members.same b c → members.same a c

none_or : {X : Type 0} (o : Option X) → (o ≡ None) ⊎ ((x : X) × (o ≡ Some x))
none_or None = inl refl
none_or (Some x) = inr (x, refl)

module _ {S B : Type 0} (members : StreamsOf S B) (bays : Bays B) (version width : S → ℕ → ℕ) (reads : S → ℕ → ℕ → Type 0) (sure : S → List ℕ → Type 0)
    (steady : AreSteady members bays version width reads sure) where
  -- ---- the streams

  pub sure_stepped : (now new : Ordering S) (before after : B) → bays.files after ≡ bays.files before → members.same now.streams new.streams → AreSame members before now after new →
      IfTold (bays.files before) (λ seen. sure now.streams (seen FRAMES)) → IfTold (bays.files after) (λ seen. sure new.streams (seen FRAMES))
  sure_stepped now new before after same_files kept same was seen told =
      let told_before : bays.files before ≡ Some seen = sym same_files ∙ told in
      steady.sure_same now.streams new.streams before after seen kept told_before told (λ stream at below breaks. (same.same_breaks stream at below).0 breaks) (was seen told_before)

  pub comes_same : (bins : S) (before after : B) → IfTold (bays.files before) (λ seen. sure bins (seen FRAMES)) → Turns (LeavesRest (reads bins)) (bays.files before) (bays.files after) →
      (stream : ℕ) → stream < members.count bins → ComesTheSame members.to_come members.breaks bins stream before after
  comes_same bins before after is turned stream below = elim (none_or (bays.files before)) [
    | inl none ↦ steady.stays_untold bins before after none (turned.untold none) stream below
    | inr some ↦ (
        let then = turned.told some.0 some.1 in
        steady.stays bins before after some.0 then.0 some.1 then.1 (is some.0 some.1) then.2 stream below)
  ]

  pub sure_written : (bins : S) (before after : B) → IfTold (bays.files before) (λ seen. sure bins (seen FRAMES)) → Turns (LeavesRest (reads bins)) (bays.files before) (bays.files after) →
      IfTold (bays.files after) (λ seen. sure bins (seen FRAMES))
  sure_written bins before after is turned later told =
      let back = turns_back (LeavesRest (reads bins)) (bays.files before) (bays.files after) later turned told in
      steady.sure_stays bins before after back.0 later back.1 told (is back.0 back.1) back.2

-- ---- the landings

module _ (old new : List Landing) (homes : map home new ≡ map home old) where
  same_len : length new ≡ length old
  same_len = sym (length-map new home) ∙ (ap length homes ∙ length-map old home)

  home_at : (k : ℕ) (d : Landing) → k < length new → home (get_or new k d) ≡ home (get_or old k d)
  home_at k d below =
      sym (get_or-map home new k d (home d) below) ∙ (ap (λ (hs : List Home). get_or hs k (home d)) homes ∙ get_or-map home old k d (home d) (omega (arith, below, same_len)))

  pub landings_same : (s : Numbers) (version : ℕ) → AreLandings s version old → AreLandings s version new
  landings_same s version are k d below =
      let is = are k d (omega (arith, below, same_len)) in
      record {
        settings = ap (λ (h : Home). h.settings) (home_at k d below) ∙ is.settings;
        version_is = ap (λ (h : Home). h.version) (home_at k d below) ∙ is.version_is;
        level_is = ap (λ (h : Home). h.level) (home_at k d below) ∙ is.level_is;
      }

  pub apart_same : (from to : ℕ) → IsOutside old from to → IsOutside new from to
  apart_same from to apart k d below =
      subst (λ (h : Home). IsApart h.settings h.version h.level h.frame from to) (sym (home_at k d below)) (apart k d (omega (arith, below, same_len)))

-- ---- what the landings write

-- calls that read alone
pub writes_read : {B : Type 0} {bays : Bays B} (landings : List Landing) {before after : B} {Failed : Type 0} → OnlyReads bays before after Failed →
    LandingsWrite bays landings before landings after Failed
writes_read {bays = bays} landings {before} {after} {Failed} read = record {
  homes = refl;
  landing = λ s version are seen told landing later told_later. (
      let both : Some seen ≡ Some later = sym told ∙ (sym read.seen ∙ told_later) in
      let same : seen ≡ later = cc in
      subst (λ (files : Files). AreLanding landings (files FRAMES)) same landing);
  rest = read_rest bays (IsOutside landings) before after Failed read;
  kept = read.kept;
}

-- calls behind others
pub writes_on : {B : Type 0} {bays : Bays B} → IsLawful bays → {first middle last : List Landing} {a b c : B} {First Failed : Type 0} → LandingsWrite bays first a middle b First →
    LandingsWrite bays middle b last c Failed → LandingsWrite bays first a last c Failed
writes_on {bays = bays} lawful {first} {middle} {last} {a} {b} {c} {First} {Failed} one two = record {
  homes = two.homes ∙ one.homes;
  landing = λ s version are seen told landing later told_later. (
      let back = turns_back (LeavesRest (IsOutside middle)) (bays.files b) (bays.files c) later two.rest.seen told_later in
      two.landing s version (landings_same first middle one.homes s version are) back.0 back.1 (one.landing s version are seen told landing back.0 back.1) later told_later);
  rest = rest_on bays lawful (IsOutside first) a b c First Failed one.kept two.kept one.rest
      (rest_fewer bays (IsOutside middle) (IsOutside first) b c (apart_same first middle one.homes) two.rest);
  kept = keeps_on bays lawful a b c First Failed one.kept two.kept;
}

module _ {B : Type 0} {bays : Bays B} {before after : B} {First Failed : Type 0} where
  -- and seen as failed in other words
  pub writes_as : {old new : List Landing} → (Failed → First) → LandingsWrite bays old before new after First → LandingsWrite bays old before new after Failed
  writes_as turned one = record { homes = one.homes; landing = one.landing; rest = one.rest; kept = keeps_turned turned one.kept }

  -- reads of which one is said to have failed
  pub reads_failed : (Failed → HasRisen (bays.faults before) (bays.faults after)) → OnlyReads bays before after First → OnlyReads bays before after Failed
  reads_failed risen read = record {
    kept = record { time = read.kept.time; never_falls = read.kept.never_falls; failed = risen; mark = read.kept.mark; journal = read.kept.journal };
    seen = read.seen;
    images = read.images;
    moments = read.moments;
  }
