-- Calls in turn that leave a file alone, and a log's gate through them.
use Rattle.std.proofs.{Common.{◌≡◌, ◌≢◌, ℕ, ◌+◌, ◌≤◌, List, length, get_or, Option, Some, refl, sym, ap, ◌∙◌, subst, inl, inr, arith, zero-add}, lemmas.Bool.cases_lt, lemmas.List.take_all}
use Rattle.lert_bay.specs.{Files.{Files, IfTold, Turns, Torn}, Images.Lasts, Settled.{part, IsSettled}, Kept.{Bays, ReadsBay}}
use Rattle.lert_bay.proofs.Lasting.{lasts_none, lasts_on}
use Rattle.lert_gatelog.specs.Kept.{KeepsOthers, IsWhollySettled, OthersStay}
use Rattle.lert_gatelog.proofs.GatedLaws.{byte_of_part, part_within, closed_behind}
use Rattle.lert_levels.specs.rows.Landing.{KeepsRest}
use Rattle.lert_cone.specs.Wrote.{LeavesAlone, LeavesFile, IsShutIfTold}
use Rattle.lert_cone.proofs.SoundLaws.{turns_back}

-- no call
pub leaves_none : (file : ℕ) (files : Option Files) (leaves : Files → Type 0) (moment : ℕ) (since : ℕ → Files → Type 0) →
    ((image : Files) → since moment image → leaves image) → ((image : Files) →
    leaves image → since moment image) →
    LeavesFile file files files leaves leaves moment moment since since
leaves_none file files leaves moment since only_now since_now = record {
  seen = record { told = λ old is. (old, is, refl); untold = λ none. none };
  settled = λ old told from to settled image may. settled.same image (only_now image may);
  now = since_now;
  time = lasts_none moment since;
}

-- calls after calls
module _ (file : ℕ) (before between after : Option Files) (leaves_before leaves_between leaves_after : Files → Type 0) (first middle last : ℕ) (since_first since_middle since_last : ℕ →
    Files →
    Type 0)
    (one : LeavesFile file before between leaves_before leaves_between first middle since_first since_middle) (two : LeavesFile file between after leaves_between leaves_after middle last
    since_middle since_last)
    (earlier : (t u : ℕ) (image : Files) → t ≤ u → since_last u image → since_last t image) where
  told_on : (old : Files) → before ≡ Some old → (new : Files) × (after ≡ Some new) × (new file ≡ old file)
  told_on old told =
      let came = one.seen.told old told in
      let went = two.seen.told came.0 came.1 in
      (went.0, went.1, went.2 ∙ came.2)

  settled_on : (old : Files) → before ≡ Some old → (from to : ℕ) → IsSettled leaves_before old file from to → (image : Files) → since_last first image →
      part (image file) from to ≡ part
      (old file) from to
  settled_on old told from to settled image may =
      elim (two.time.known first image one.time.later may) [
        | inl past ↦ one.settled old told from to settled image past
        | inr here ↦ (
            let came = one.seen.told old told in
            two.settled came.0 came.1 from to (record {
              within = omega (arith, ap length came.2, settled.within);
              same = λ img left. one.settled old told from to settled img (one.now img left) ∙ ap (λ bytes. part bytes from to) (sym came.2);
            }) image here
            ∙ ap (λ bytes. part bytes from to) came.2)
      ]

  pub leaves_on : LeavesFile file before after leaves_before leaves_after first last since_first since_last
  leaves_on = record {
    seen = record { told = told_on; untold = λ none. two.seen.untold (one.seen.untold none) };
    settled = settled_on;
    now = λ image may. earlier first middle image one.time.later (two.now image may);
    time = lasts_on first middle last since_first since_middle since_last one.time two.time earlier;
  }

-- a flush leaves the other files alone
pub leaves_rest : {B : Type 0} (bays : Bays B) (kept : ℕ → ℕ → Type 0) (file : ℕ) → file ≢ 2 → (before after : B) → KeepsRest bays kept before after →
    Lasts (bays.moment before) (bays.moment after) (bays.left_since before) (bays.left_since after) →
    ((image : Files) → bays.leaves after image → bays.left_since after (bays.moment before) image) → LeavesAlone bays file before after
leaves_rest bays kept file other before after rest time now = record {
  seen = record {
    told = λ old is.
        let came = rest.seen.told old is in
        (came.0, came.1, came.2.others file other);
    untold = rest.seen.untold;
  };
  settled = λ old told from to settled. rest.settled old told file from to (inl other) settled;
  now = now;
  time = time;
}

-- an append to a file leaves the others alone
pub leaves_others : (log file : ℕ) → file ≢ log → (before after : Option Files) (leaves_before leaves_after : Files → Type 0) (first last : ℕ)
    (since_before since_after : ℕ → Files → Type 0) →
    Turns (OthersStay log) before after → IfTold before (λ seen. KeepsOthers leaves_before (since_after first) seen log) → Lasts first last since_before since_after → ((image : Files) →
    leaves_after image → since_after first image) →
    LeavesFile file before after leaves_before leaves_after first last since_before since_after
leaves_others log file other before after leaves_before leaves_after first last since_before since_after turns keeps time now = record {
  seen = record {
    told = λ old is.
        let came = turns.told old is in
        (came.0, came.1, came.2 file other);
    untold = turns.untold;
  };
  settled = λ old told from to settled. keeps old told file from to other settled;
  now = now;
  time = time;
}

-- reads leave all files alone
pub leaves_read : {B : Type 0} (bays : Bays B) (file : ℕ) (before after : B) (Failed : Type 0) → ReadsBay bays before after Failed →
    ((image : Files) → bays.leaves after image → bays.left_since after (bays.moment before) image) → LeavesAlone bays file before after
leaves_read bays file before after Failed read now = record {
  seen = record { told = λ old is. (old, read.seen ∙ is, refl); untold = λ none. read.seen ∙ none };
  settled = λ old told from to settled image may. settled.same image (read.moments image may);
  now = now;
  time = read.kept.time;
}

-- ---- a gate

-- a file that begins with all bytes of another is that one, torn behind them
pub torn_behind : (old new : List ℕ) (at : ℕ) → part new 0 (length old) ≡ part old 0 (length old) → Torn at (length new) old new
torn_behind old new at same =
    let whole : part new 0 (length old) ≡ old = same ∙ take_all (length old) old (omega arith) in
    let long : length old ≤ length new = elim (cases_lt 0 (length old)) [
      | inl some ↦ part_within new old 0 (length old) whole (omega arith) some
      | inr none ↦ omega arith
    ] in
    record {
      no_shorter = long;
      no_longer = omega arith;
      elsewhere = λ place within outside. ap (λ k. get_or new k 0) (sym (zero-add place)) ∙ byte_of_part new old 0 (length old) place whole (omega arith) within;
    }

-- a file stays wholly settled, and its gate closed, through calls that leave it alone
pub settled_through : {file : ℕ} {before after : Option Files} {leaves_before leaves_after : Files → Type 0} {first last : ℕ} {since_before since_after : ℕ → Files → Type 0} →
    LeavesFile file before after leaves_before leaves_after first last since_before since_after → (old : Files) → before ≡ Some old → IsWhollySettled leaves_before old file →
    (new : Files) → after ≡ Some new → IsWhollySettled leaves_after new file
settled_through {file = file} left old told settled new told_after =
    let came = left.seen.told old told in
    let stays : new file ≡ old file = ap (λ (f : Files). f file) (turned came.0 new (sym came.1 ∙ told_after)) ∙ came.2 in
    record {
      within = omega arith;
      same = λ image may. subst (λ (bytes : List ℕ). part (image file) 0 (length bytes) ≡ part bytes 0 (length bytes)) (sym stays) (left.settled old told 0 (length (old file)) settled image
          (left.now image may));
    }
  where
    turned : (a b : Files) → Some a ≡ Some b → b ≡ a
    turned a b same = (let is : b ≡ a = cc in is)

pub shut_through : {file gate : ℕ} {before after : Option Files} {leaves_before leaves_after : Files → Type 0} {first last : ℕ} {since_before since_after : ℕ → Files → Type 0} →
    LeavesFile file before after leaves_before leaves_after first last since_before since_after → IfTold before leaves_before → IsShutIfTold before leaves_before file gate →
    IsShutIfTold after leaves_after file gate
shut_through {file = file} {gate = gate} left as_read shut new told_after =
    let back = turns_back left.seen new told_after in
    let here = shut back.0 back.1 in
    record {
      settled = settled_through left back.0 back.1 here.settled new told_after;
      closed = λ image may.
          closed_behind gate (length (image file)) (back.0 file) (image file) (here.closed back.0 (as_read back.0 back.1))
          (torn_behind (back.0 file) (image file) (gate + 1) (left.settled back.0 back.1 0 (length (back.0 file)) here.settled image (left.now image may)));
    }
