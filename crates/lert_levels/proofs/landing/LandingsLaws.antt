-- Several landings: one of them takes a piece, and one after the other ends.
use Rattle.std.proofs.{Common.{ℕ, ◌≡◌, ◌≢◌, ◌+◌, ◌<◌, ◌≤◌, List, [], length, map, get_or, set, Some, refl, ap, sym, ◌∙◌, subst, inl, inr, arith}, lemmas.Bool.{cases_eq, cases_lt}}
use Rattle.std.proofs.lemmas.List.{get_or-set_same, get_or-set_other, get_or_default, get_or-map, length-set, map-set, set-get_or}
use Rattle.lert_bay.specs.{declared.bay.TheConstants.FRAMES, Files.{Files, IfTold}, Kept.{Bays, KeepsBay}}
use Rattle.lert_bay.proofs.KeptLaws.{IsLawful, keeps_on, keeps_as}
use Rattle.lert_frames.specs.Frame.{HoldsFrame}
use Rattle.lert_frames.proofs.WriteLaws.{turns_back}
use Rattle.lert_levels.specs.{rows.Landing.{IsApart, LeavesRest, KeepsRest}, declared.landing.landing.Landing.Landing, landing.Landed.{taken, IsLanding, IsLandingOf, SameLanding, Lands}}
use Rattle.lert_levels.specs.landing.Landings.{home, AreLandings, AreLanding, IsOutside, HaveEnded}
use Rattle.lert_levels.proofs.{rows.LandLaws.{rest_on, rest_fewer}, landing.ApartLaws.{same_place, frame_within, landing_stays, landed_stays}, landing.LandingLaws.holds_turned}
use Rattle.lert_spec.specs.declared.numbers.Numbers.{Numbers}

-- ---- one of several

-- the same frame is the same home
same_home : (old new : Landing) → SameLanding old new → home new ≡ home old
same_home old new same = λ i. record { settings = same.settings i; version = same.version i; level = same.level i; frame = same.frame i }

leaves_turned : (s : Numbers) (version : ℕ) (level : ℕ) (l : Landing) (old new : Files) → IsLandingOf s version level l →
    LeavesRest (IsApart l.writer.settings l.writer.version l.writer.level l.frame) old new →
    LeavesRest (IsApart s version level l.frame) old new
leaves_turned s version level l old new is leaves =
    subst (λ (m : Numbers). LeavesRest (IsApart m version level l.frame) old new) is.settings
    (subst (λ (v : ℕ). LeavesRest (IsApart l.writer.settings v level l.frame) old new) is.version_is
    (subst (λ (n : ℕ). LeavesRest (IsApart l.writer.settings l.writer.version n l.frame) old new) is.level_is leaves))

-- ranges apart from all places are apart from that of one of them
pub apart_one : {B : Type 0} (bays : Bays B) (landings : List Landing) (i : ℕ) (l : Landing) (before after : B) → i < length landings → l ≡ get_or landings i l →
    KeepsRest bays (IsApart l.writer.settings l.writer.version l.writer.level l.frame) before after → KeepsRest bays (IsOutside landings) before after
apart_one bays landings i l before after below l_is rest =
    rest_fewer bays (IsApart l.writer.settings l.writer.version l.writer.level l.frame) (IsOutside landings) before after
    (λ from to apart. subst (λ (x : Landing). IsApart x.writer.settings x.writer.version x.writer.level x.frame from to) (sym l_is) (apart i l below)) rest

-- another one in its place
module _ (landings : List Landing) (i : ℕ) (l after : Landing) (below : i < length landings) (l_is : l ≡ get_or landings i l) where
  pub homes_set : SameLanding l after → map home (set landings i after) ≡ map home landings
  homes_set same =
      map-set home landings i after
      ∙ (ap (set (map home landings) i) (same_home l after same ∙ ap home l_is ∙ sym (get_or-map home landings i l (home l) below))
      ∙ set-get_or (map home landings) i (home l))

  pub taken_here : get_or (map taken landings) i [] ≡ taken l
  taken_here = get_or-map taken landings i l [] below ∙ ap taken (sym l_is)

  pub others_set : (k : ℕ) (d : Landing) → k ≢ i → get_or (set landings i after) k d ≡ get_or landings k d
  others_set k d other = get_or-set_other landings i k after d other

  -- what the others have in the file stays
  pub landing_set : (s : Numbers) (version : ℕ) → AreLandings s version landings → (old new : Files) → LeavesRest (IsApart l.writer.settings l.writer.version l.writer.level l.frame) old new →
      IsLanding after (new FRAMES) → AreLanding landings (old FRAMES) → AreLanding (set landings i after) (new FRAMES)
  landing_set s version are old new leaves here landing k d within =
      let under : k < length landings = omega (arith, within, length-set landings i after) in
      let is : IsLandingOf s version (i + 1) l = subst (IsLandingOf s version (i + 1)) (sym l_is) (are i l below) in
      elim (cases_eq k i) [
        | inl same ↦ subst (λ (x : Landing). IsLanding x (new FRAMES)) (sym (ap (λ n. get_or (set landings i after) n d) same ∙ get_or-set_same landings i after d below)) here
        | inr other ↦ (
            let x = get_or landings k d in
            let x_is : IsLandingOf s version (k + 1) x = are k d under in
            let differ : k + 1 ≢ i + 1 = λ same. other (omega (arith, same)) in
            subst (λ (y : Landing). IsLanding y (new FRAMES)) (sym (others_set k d other))
            (landing_stays s version (k + 1) x x_is (old FRAMES) (new FRAMES)
            (same_place s version (i + 1) l.frame (k + 1) x.frame (omega arith) (frame_within s version (i + 1) l is) (omega arith) (frame_within s version (k + 1) x x_is) differ old new
            (leaves_turned s version (i + 1) l old new is leaves))
            (landing k d under)))
      ]

-- ---- one after the other ends

-- the first ones stand in their frames, and the others land
pub record AreHalfLanded (s : Numbers) (version : ℕ) (landings : List Landing) (count : ℕ) (file : List ℕ) : Type 0 where
  pub landed : (k : ℕ) (d : Landing) → k < count → HoldsFrame s version (k + 1) (get_or landings k d).frame file (taken (get_or landings k d))
  pub landing : (k : ℕ) (d : Landing) → count ≤ k → k < length landings → IsLanding (get_or landings k d) file

-- so many of the landings ended
pub record AreEnding {B : Type 0} (bays : Bays B) (landings now : List Landing) (count : ℕ) (before after : B) : Type 0 where
  pub len : length now ≡ length landings
  pub homes : map home now ≡ map home landings
  pub left : (k : ℕ) (d : Landing) → count ≤ k → get_or now k d ≡ get_or landings k d
  pub stand : (s : Numbers) (version : ℕ) → AreLandings s version landings →
      IfTold (bays.files before) (λ seen. AreLanding landings (seen FRAMES) → IfTold (bays.files after) (λ later. AreHalfLanded s version landings count (later FRAMES)))
  pub rest : KeepsRest bays (IsOutside landings) before after
  pub kept : KeepsBay bays before after ⊥

-- one landing more ends
module _ (s : Numbers) (version : ℕ) (landings : List Landing) (are : AreLandings s version landings) (i : ℕ) (l : Landing) (below : i < length landings) (l_is : l ≡ get_or landings i l) where
  own : IsLandingOf s version (i + 1) l
  own = subst (IsLandingOf s version (i + 1)) (sym l_is) (are i l below)

  half_more : (old new : Files) → LeavesRest (IsApart l.writer.settings l.writer.version l.writer.level l.frame) old new →
      HoldsFrame l.writer.settings l.writer.version l.writer.level l.frame (new FRAMES) (taken l) → AreHalfLanded s version landings i (old FRAMES) →
      AreHalfLanded s version landings (i + 1) (new FRAMES)
  half_more old new leaves holds half =
      let turned = leaves_turned s version (i + 1) l old new own leaves in
      let within = frame_within s version (i + 1) l own in
      record {
        landed = λ k d under. elim (cases_lt k i) [
          | inl earlier ↦ (
              let x = get_or landings k d in
              let x_is : IsLandingOf s version (k + 1) x = are k d (omega (arith, earlier, below)) in
              let differ : k + 1 ≢ i + 1 = λ same. omega arith in
              landed_stays s version (k + 1) x x_is (i + 1) l.frame old new (omega arith) within differ turned (half.landed k d earlier))
          | inr last ↦ (
              let same : i ≡ k = omega arith in
              let here : l ≡ get_or landings i d = l_is ∙ get_or_default landings i l d below in
              subst (λ (n : ℕ). HoldsFrame s version (n + 1) (get_or landings n d).frame (new FRAMES) (taken (get_or landings n d))) same
              (subst (λ (x : Landing). HoldsFrame s version (i + 1) x.frame (new FRAMES) (taken x)) here
              (holds_turned l.writer.settings s l.writer.version version l.writer.level (i + 1) l.frame l.frame (new FRAMES) (taken l)
              (taken l) own.settings own.version_is own.level_is refl refl holds)))
        ];
        landing = λ k d past under. (
            let x = get_or landings k d in
            let x_is : IsLandingOf s version (k + 1) x = are k d under in
            let differ : k + 1 ≢ i + 1 = λ same. omega arith in
            landing_stays s version (k + 1) x x_is (old FRAMES) (new FRAMES)
            (same_place s version (i + 1) l.frame (k + 1) x.frame (omega arith) within (omega arith) (frame_within s version (k + 1) x x_is) differ old new turned)
            (half.landing k d (omega arith) under));
      }

  -- what it took stands where its end said so
  pub stands_more : {B : Type 0} (bays : Bays B) (middle last : B) (old new : Files) →
      IfTold (bays.files middle) (λ seen. IsLanding l (seen FRAMES) →
      IfTold (bays.files last) (λ after. HoldsFrame l.writer.settings l.writer.version l.writer.level l.frame (after FRAMES) (taken l))) →
      bays.files middle ≡ Some old → bays.files last ≡ Some new → LeavesRest (IsApart l.writer.settings l.writer.version l.writer.level l.frame) old new →
      AreHalfLanded s version landings i (old FRAMES) → AreHalfLanded s version landings (i + 1) (new FRAMES)
  stands_more bays middle last old new stands told told_then leaves half =
      half_more old new leaves
      (stands old told (subst (λ (x : Landing). IsLanding x (old FRAMES)) (sym l_is) (half.landing i l (omega arith) below)) new told_then) half

module _ {B : Type 0} (bays : Bays B) (lawful : IsLawful bays) (landings now : List Landing) (i : ℕ) (first middle last : B) (was : AreEnding bays landings now i first middle)
    (l after : Landing) (below : i < length now) (l_is : l ≡ get_or now i l) where
  here : l ≡ get_or landings i l
  here = l_is ∙ was.left i l (omega arith)

  within : i < length landings
  within = omega (arith, below, was.len)

  pub rest_more : (Failed : Type 0) → Lands bays l after middle last Failed → KeepsRest bays (IsOutside landings) first last
  rest_more Failed lands =
      rest_on bays lawful (IsOutside landings) first middle last ⊥ Failed was.kept lands.kept was.rest (apart_one bays landings i l middle last within here lands.rest)

  pub homes_more : (Failed : Type 0) → Lands bays l after middle last Failed → map home (set now i after) ≡ map home landings
  homes_more Failed lands = homes_set now i l after below l_is lands.same ∙ was.homes

  pub ending_more : (Failed : Type 0) → Lands bays l after middle last Failed →
      IfTold (bays.files middle) (λ seen. IsLanding l (seen FRAMES) →
      IfTold (bays.files last) (λ later. HoldsFrame l.writer.settings l.writer.version l.writer.level l.frame (later FRAMES) (taken l))) →
      AreEnding bays landings (set now i after) (i + 1) first last
  ending_more Failed lands stands = record {
    len = length-set now i after ∙ was.len;
    homes = homes_more Failed lands;
    left = λ k d past. get_or-set_other now i k after d (λ same. omega arith) ∙ was.left k d (omega arith);
    stand = λ s version are seen told landing later told_later. (
        let back = turns_back (LeavesRest (IsApart l.writer.settings l.writer.version l.writer.level l.frame)) (bays.files middle) (bays.files last) later lands.rest.seen told_later in
        stands_more s version landings are i l within here bays middle last back.0 later stands back.1 told_later back.2 (was.stand s version are seen told landing back.0 back.1));
    rest = rest_more Failed lands;
    kept = keeps_on bays lawful first middle last ⊥ ⊥ was.kept (keeps_as bays lawful middle last Failed ⊥ (λ none. absurd none) lands.kept);
  }

-- all of them ended
pub ended_all : (s : Numbers) (version : ℕ) (landings : List Landing) (count : ℕ) (file : List ℕ) → length landings ≤ count → AreHalfLanded s version landings count file →
    HaveEnded s version landings file
ended_all s version landings count file all half k d below = half.landed k d (omega (arith, all, below))
