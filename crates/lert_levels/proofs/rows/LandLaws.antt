-- Calls that write some frames and leave the rest, one after the other.
use Rattle.std.proofs.Common.{ℕ, ◌≡◌, ◌≢◌, ◌+◌, ◌-◌, ◌<◌, ◌≤◌, List, length, take, refl, ap, sym, ◌∙◌, arith, inl, inr, ◌⊎◌, subst, Option, Some, Result, length-take, length-drop}
use Rattle.std.proofs.lemmas.Bool.{cases_eq, cases_lt}
use Rattle.std.specs.Prelude.{Ok, Err, OnOk, OnErr}
use Rattle.lert_bay.specs.{declared.bay.TheConstants.FRAMES, Files.{Files, Turns, Changes, LeftByFailure}, Images.{Elapses, Settles, KeepsImages}, Kept.{Bays, KeepsBay, OnlyReads}}
use Rattle.lert_bay.specs.Settled.{part, Keeps, IsSettled}
use Rattle.lert_bay.proofs.{KeptLaws.IsLawful, Settling.{part_none, part_torn}}
use Rattle.lert_frames.specs.{Frame.{HoldsFrame, frame_text}, Kept.WritesWithin, Place.{frame_place, frame_len}}
use Rattle.lert_frames.proofs.{WithinLaws.within_outside, WriteLaws.either_way}
use Rattle.lert_spec.specs.{declared.numbers.Numbers.Numbers, declared.piece.Piece.Piece}
use Rattle.lert_levels.specs.{declared.rows.bin_at.BinAt.BinAt, rows.Landing.{IsApart, LeavesRest, KeepsRest}, rows.Rows.{IsRow, arrived}}
use Rattle.lert_levels.proofs.rows.RowLaws.{lowest_is_free}

-- fewer ranges
leaves_fewer : (kept fewer : ℕ → ℕ → Type 0) (old new : Files) → ((from to : ℕ) → fewer from to → kept from to) → LeavesRest kept old new → LeavesRest fewer old new
leaves_fewer kept fewer old new weaker leaves = record { others = leaves.others; longer = leaves.longer; rest = λ from to kept_here within. leaves.rest from to (weaker from to kept_here) within }

pub turns_fewer : (kept fewer : ℕ → ℕ → Type 0) (before after : Option Files) → ((from to : ℕ) → fewer from to → kept from to) → Turns (LeavesRest kept) before after →
    Turns (LeavesRest fewer) before after
turns_fewer kept fewer before after weaker turned = record {
  told = λ old told. let then = turned.told old told in (then.0, then.1, leaves_fewer kept fewer old then.0 weaker then.2);
  untold = turned.untold;
}

leaves_same : (kept : ℕ → ℕ → Type 0) (files : Files) → LeavesRest kept files files
leaves_same kept files = record { others = λ number other. refl; longer = omega arith; rest = λ from to kept_here within. refl }

-- no call
pub rest_none : {B : Type 0} (bays : Bays B) → IsLawful bays → (kept : ℕ → ℕ → Type 0) (bay : B) → KeepsRest bays kept bay bay
rest_none bays lawful kept bay = record {
  seen = record { told = λ old told. (old, told, leaves_same kept old); untold = λ untold. untold };
  settled = λ seen told number from to may settled image since_now. settled.same image (lawful.only_now bay image since_now);
}

-- a range that doesn't reach past the end of a file that got no shorter, and reads the same
settled_middle : (kept : ℕ → ℕ → Type 0) (leaves_before leaves_middle : Files → Type 0) (since : ℕ → Files → Type 0) (first : ℕ) (old middle : Files) (number from to : ℕ) →
    (number ≢ FRAMES) ⊎ kept from to → LeavesRest kept old middle →
    ((image : Files) → leaves_middle image → since first image) → IsSettled leaves_before old number from to → Keeps (since first) old number from to →
    IsSettled leaves_middle middle number from to × (part (middle number) from to ≡ part (old number) from to)
settled_middle kept leaves_before leaves_middle since first old middle number from to may leaves now settled keeps =
    elim (cases_eq number FRAMES) [
      | inr other ↦ (
          let same = leaves.others number other in
          let reads = ap (λ bytes. part bytes from to) same in
          (record { within = omega (arith, ap length same, settled.within); same = λ image left. keeps image (now image left) ∙ sym reads }, reads))
      | inl frames ↦ (
          let kept_here : kept from to = elim may [ inl other ↦ absurd (other frames) | inr kept_range ↦ kept_range ] in
          let within : to ≤ length (old FRAMES) = subst (λ (n : ℕ). to ≤ length (old n)) frames settled.within in
          let reads = subst (λ (n : ℕ). part (middle n) from to ≡ part (old n) from to) (sym frames) (leaves.rest from to kept_here within) in
          let long = subst (λ (n : ℕ). to ≤ length (middle n)) (sym frames) (let longer : to ≤ length (middle FRAMES) = omega (arith, within, leaves.longer) in longer) in
          (record { within = long; same = λ image left. keeps image (now image left) ∙ sym reads }, reads))
    ]

leaves_on : (kept : ℕ → ℕ → Type 0) (old middle new : Files) → LeavesRest kept old middle → LeavesRest kept middle new → LeavesRest kept old new
leaves_on kept old middle new one two = record {
  others = λ number other. two.others number other ∙ one.others number other;
  longer = omega (arith, one.longer, two.longer);
  rest = λ from to kept_here within. two.rest from to kept_here (omega (arith, within, one.longer)) ∙ one.rest from to kept_here within;
}

-- calls after calls
pub rest_on : {B : Type 0} (bays : Bays B) → IsLawful bays → (kept : ℕ → ℕ → Type 0) (first middle last : B) (First Failed : Type 0) →
    KeepsBay bays first middle First → KeepsBay bays middle last Failed → KeepsRest bays kept first middle → KeepsRest bays kept middle last → KeepsRest bays kept first last
rest_on bays lawful kept first middle last First Failed kept_first kept_last one two = record {
  seen = record {
    told = λ old told.
        let then = one.seen.told old told in
        let later = two.seen.told then.0 then.1 in
        (later.0, later.1, leaves_on kept old then.0 later.0 then.2 later.2);
    untold = λ untold. two.seen.untold (one.seen.untold untold);
  };
  settled = λ seen told number from to may settled image since. (
      let then = one.seen.told seen told in
      let keeps = one.settled seen told number from to may settled in
      let start = bays.moment first in
      let there = settled_middle kept (bays.leaves first) (bays.leaves middle) (bays.left_since middle) start seen then.0 number from to may then.2
      (λ other left. lawful.since_earlier middle start (bays.moment middle) other kept_first.time.later (lawful.since_now middle other left)) settled keeps in
      elim (kept_last.time.known start image kept_first.time.later since) [
        | inl past ↦ keeps image past
        | inr after ↦ two.settled then.0 then.1 number from to may there.0 image after ∙ there.1
      ]);
}

pub rest_fewer : {B : Type 0} (bays : Bays B) (kept fewer : ℕ → ℕ → Type 0) (before after : B) → ((from to : ℕ) → fewer from to → kept from to) →
    KeepsRest bays kept before after → KeepsRest bays fewer before after
rest_fewer bays kept fewer before after weaker keeps = record {
  seen = turns_fewer kept fewer (bays.files before) (bays.files after) weaker keeps.seen;
  settled = λ seen told number from to may settled.
      keeps.settled seen told number from to (elim may [ inl other ↦ inl other | inr kept_here ↦ inr (weaker from to kept_here) ]) settled;
}

-- ---- writes into the place of one frame

pub within_rest : {B : Type 0} (bays : Bays B) (s : Numbers) (version : ℕ) (level frame : ℕ) (before after : B) →
    WritesWithin bays (frame_place s version level frame) (frame_place s version level frame + frame_len s version level) before after → KeepsRest bays (IsApart s version level frame) before after
within_rest bays s version level frame before after wrote =
    let place = frame_place s version level frame in
    let end = place + frame_len s version level in
    record {
      seen = record {
        told = λ old told. (
            let then = wrote.wrote.seen.told old told in
            (then.0, then.1, left_rest s version level frame old then.0 then.2));
        untold = wrote.wrote.seen.untold;
      };
      settled = λ seen told. within_outside bays place end end before after seen (omega arith) (omega arith) wrote;
    }
  where
    left_rest : (s : Numbers) (version : ℕ) (level frame : ℕ) (old new : Files) →
        Changes (LeftByFailure (frame_place s version level frame) (frame_place s version level frame + frame_len s version level - frame_place s version level frame)) FRAMES old new →
        LeavesRest (IsApart s version level frame) old new
    left_rest s version level frame old new changed =
        let place = frame_place s version level frame in
        record {
          others = changed.others;
          longer = changed.here.torn.no_shorter;
          rest = λ from to apart within.
              part_torn place (place + frame_len s version level - place) (old FRAMES) (new FRAMES) (old FRAMES) from to changed.here.torn refl within
              (elim apart [ inl before ↦ inl before | inr behind ↦ inr (omega (arith, behind)) ]);
        }

-- text in a range that is kept still stands there
text_stays : (kept : ℕ → ℕ → Type 0) (old new : Files) (place : ℕ) (text : List ℕ) → LeavesRest kept old new → kept place (place + length text) →
    part (old FRAMES) place (place + length text) ≡ text → part (new FRAMES) place (place + length text) ≡ text
text_stays kept old new place text leaves kept_here holds = elim (cases_lt 0 (length text)) [
  | inl some ↦
      let long : place + length text ≤ length (old FRAMES) = reaches_end (old FRAMES) place (length text) some (ap length holds) in
      leaves.rest place (place + length text) kept_here long ∙ holds
  | inr empty ↦
      let none : place + length text ≤ place = omega (arith, empty) in
      part_none (new FRAMES) place (place + length text) none ∙ (sym (part_none (old FRAMES) place (place + length text) none) ∙ holds)
]
  where
    reaches_end : (bytes : List ℕ) (from count : ℕ) → 0 < count → length (part bytes from (from + count)) ≡ count → from + count ≤ length bytes
    reaches_end bytes from count some long = omega (arith, some, long, length-drop from (take (from + count) bytes), length-take (from + count) bytes)

-- and a frame its pieces
pub holds_stays : (kept : ℕ → ℕ → Type 0) (old new : Files) (s : Numbers) (version : ℕ) (level frame : ℕ) (pieces : List Piece) → LeavesRest kept old new →
    kept (frame_place s version level frame) (frame_place s version level frame + length (frame_text s level pieces)) → HoldsFrame s version level frame (old FRAMES) pieces →
    HoldsFrame s version level frame (new FRAMES) pieces
holds_stays kept old new s version level frame pieces leaves kept_here holds =
    text_stays kept old new (frame_place s version level frame) (frame_text s level pieces) leaves kept_here holds

-- ---- the sync

pub sync_rest : {B : Type 0} (bays : Bays B) → IsLawful bays → (kept : ℕ → ℕ → Type 0) (before after : B) →
    Elapses (bays.moment before) (bays.moment after) (bays.left_since before) (bays.left_since after) (bays.leaves after) → bays.files after ≡ bays.files before →
    ((seen : Files) → bays.files before ≡ Some seen → (image : Files) → bays.leaves after image → bays.leaves before image) → KeepsRest bays kept before after
sync_rest bays lawful kept before after elapsed same was = record {
  seen = record { told = λ old told. (old, same ∙ told, leaves_same kept old); untold = λ untold. same ∙ untold };
  settled = λ seen told number from to may settled image since. elim (elapsed.known (bays.moment before) image (omega arith) since) [
    | inl past ↦ settled.same image (lawful.only_now before image past)
    | inr now ↦ settled.same image (was seen told image now)
  ];
}

-- ---- bin after bin

pub landing_within : (s : Numbers) (m level : ℕ) (row : List BinAt) → IsRow s level row → (arrived s m level row).frame ≤ s.bins
landing_within s m level row is = omega (arith, (lowest_is_free row).within, is.few)

-- after a sync that may have failed each image is one of before
pub synced_was : {T E : Type 0} (result : Result T E) (files : Option Files) (leaves_before leaves_after : Files → Type 0) →
    ((seen : Files) → files ≡ Some seen → OnOk result (Settles FRAMES (seen FRAMES) leaves_before leaves_after)) → OnErr result (KeepsImages leaves_before leaves_after) →
    (seen : Files) → files ≡ Some seen → (image : Files) → leaves_after image → leaves_before image
synced_was result files leaves_before leaves_after durable failed seen told image left =
    either_way (leaves_before image) (Settles FRAMES (seen FRAMES) leaves_before leaves_after) (KeepsImages leaves_before leaves_after) result (durable seen told) failed
    (λ settles. settles.was image left) (λ keeps. (keeps image).0 left)

-- and after one that succeeded it has the file as a read gives it
pub synced_durable : {T E : Type 0} (result : Result T E) (files_before files_after : Option Files) (leaves_before leaves_after : Files → Type 0) → files_after ≡ files_before →
    ((seen : Files) → files_before ≡ Some seen → OnOk result (Settles FRAMES (seen FRAMES) leaves_before leaves_after)) →
    OnOk result ((seen : Files) → files_after ≡ Some seen → (image : Files) → leaves_after image → image FRAMES ≡ seen FRAMES)
synced_durable (Ok value) files_before files_after leaves_before leaves_after same durable = λ seen told image left. (durable seen (sym same ∙ told)).durable image left
synced_durable (Err error) files_before files_after leaves_before leaves_after same durable = tt

-- ---- calls that read alone leave all

pub read_rest : {B : Type 0} (bays : Bays B) (kept : ℕ → ℕ → Type 0) (before after : B) (Failed : Type 0) → OnlyReads bays before after Failed → KeepsRest bays kept before after
read_rest bays kept before after Failed read = record {
  seen = record { told = λ old told. (old, read.seen ∙ told, leaves_same kept old); untold = λ untold. read.seen ∙ untold };
  settled = λ seen told number from to may settled image since. settled.same image (read.moments image since);
}
