-- What a landing has in the file stays where the file changes elsewhere.
use Rattle.std.proofs.Common.{ℕ, ◌≡◌, ◌≢◌, ◌+◌, ◌≤◌, List, length, min, ap, sym, ◌∙◌, subst, inl, inr, arith}
use Rattle.lert_bay.specs.{declared.bay.TheConstants.FRAMES, Files.Files}
use Rattle.lert_frames.specs.{Apart.SamePlace, Frame.{HoldsFrame, frame_text}, Place.{frame_place, frame_len, tail_limit}}
use Rattle.lert_frames.proofs.{ApartLaws.writing_stays, FrameLaws.text_within, PlaceLaws.places_apart}
use Rattle.lert_levels.specs.{rows.Landing.{IsApart, LeavesRest}, declared.landing.landing.Landing.Landing, landing.Landed.{taken, IsLanding, IsLandingOf}}
use Rattle.lert_levels.proofs.rows.LandLaws.{holds_stays}
use Rattle.lert_spec.specs.{declared.numbers.Numbers.Numbers, Limits.IsValid, Edges.span, Table.{costs, AscendsFrom}}

-- frames of different levels
module _ (s : Numbers) (version : ℕ) (level frame other_level other : ℕ) (first : 1 ≤ level) (within : frame ≤ s.bins) (other_first : 1 ≤ other_level) (other_within : other ≤ s.bins)
    (differ : other_level ≢ level) where
  -- a range in the place of the one is apart from that of the other
  pub inside_apart : (from to : ℕ) → frame_place s version other_level other ≤ from → to ≤ frame_place s version other_level other + frame_len s version other_level →
      IsApart s version level frame from to
  inside_apart from to low high = elim (places_apart s version level frame other_level other first within other_first other_within (inl differ)) [
    | inl before ↦ inl (omega (arith, before, high))
    | inr behind ↦ inr (omega (arith, behind, low))
  ]

  -- files that changed in the place of the one read the same in that of the other
  pub same_place : (old new : Files) → LeavesRest (IsApart s version level frame) old new →
      SamePlace (frame_place s version other_level other) (frame_len s version other_level) (old FRAMES) (new FRAMES)
  same_place old new leaves =
      let place = frame_place s version other_level other in
      let end = min (place + frame_len s version other_level) (length (old FRAMES)) in
      record { longer = leaves.longer; same = leaves.rest place end (inside_apart place end (omega arith) (omega arith)) (omega arith) }

-- a landing of a level, at the place of its frame
module _ (s : Numbers) (version : ℕ) (level : ℕ) (l : Landing) (is : IsLandingOf s version level l) where
  pub frame_within : l.frame ≤ s.bins
  frame_within = omega (arith, l.writer.growing.within, l.taking.frame_is, ap (λ (n : Numbers). n.bins) is.settings)

  pub level_first : 1 ≤ level
  level_first = omega (arith, l.writer.growing.first, is.level_is)

  pub landing_stays : (old new : List ℕ) → SamePlace (frame_place s version level l.frame) (frame_len s version level) old new → IsLanding l old → IsLanding l new
  landing_stays old new same landing =
      let w = l.writer in
      let place_is : w.place ≡ frame_place s version level l.frame = w.growing.place_is ∙ (λ i. frame_place (is.settings i) (is.version_is i) (is.level_is i) (l.taking.frame_is i)) in
      let len_is : frame_len w.settings w.version w.level ≡ frame_len s version level = λ i. frame_len (is.settings i) (is.version_is i) (is.level_is i) in
      writing_stays w old new
      (subst (λ (n : ℕ). SamePlace w.place n old new) (sym len_is) (subst (λ (n : ℕ). SamePlace n (frame_len s version level) old new) (sym place_is) same)) landing

  -- its text fits the place
  pub taken_fits : length (frame_text s level (taken l)) ≤ frame_len s version level
  taken_fits =
      let valid : IsValid s = subst IsValid is.settings l.writer.growing.valid in
      let last : level ≤ s.levels = omega (arith, l.writer.growing.last, is.level_is, ap (λ (n : Numbers). n.levels) is.settings) in
      let wide : span l.writer.settings l.writer.level ≡ span s level = λ i. span (is.settings i) (is.level_is i) in
      let table : AscendsFrom 0 (tail_limit s) (taken l) = subst (λ (n : Numbers). AscendsFrom 0 (tail_limit n) (taken l)) is.settings l.given.table in
      let cost : costs l.writer.version (taken l) ≡ costs version (taken l) = ap (λ v. costs v (taken l)) is.version_is in
      text_within s version level (taken l) valid last table (omega (arith, l.taking.fits, wide, cost))

  -- where it stands in its frame, it stands there still once another frame was written
  pub landed_stays : (other_level other : ℕ) (old new : Files) → 1 ≤ other_level → other ≤ s.bins → level ≢ other_level → LeavesRest (IsApart s version other_level other) old new →
      HoldsFrame s version level l.frame (old FRAMES) (taken l) → HoldsFrame s version level l.frame (new FRAMES) (taken l)
  landed_stays other_level other old new first within differ leaves holds =
      let place = frame_place s version level l.frame in
      holds_stays (IsApart s version other_level other) old new s version level l.frame (taken l) leaves
      (inside_apart s version other_level other level l.frame first within level_first frame_within differ place (place + length (frame_text s level (taken l))) (omega arith)
      (omega (arith, taken_fits))) holds
