-- One landing: what its calls leave, and what it takes.
use Rattle.std.proofs.Common.{ℕ, ◌≡◌, ◌+◌, ◌^◌, ◌<◌, ◌≤◌, List, [], ◌∷◌, ◌++◌, Option, Some, None, ap, sym, ◌∙◌, subst, arith}
use Rattle.std.specs.Prelude.{IfSome, IsSomeAnd, option_to_list}
use Rattle.lert_bay.specs.{declared.bay.TheConstants.FRAMES, Files.{Files, IfTold}, Kept.{Bays, KeepsBay}}
use Rattle.lert_bay.proofs.KeptLaws.{IsLawful, keeps_none}
use Rattle.lert_frames.specs.{Frame.HoldsFrame, Kept.WritesWithin, Place.{frame_place, frame_len, tail_limit}, Writing.IsWriting, declared.writer.FrameWriter.FrameWriter}
use Rattle.lert_spec.specs.Items.{IsVersion}
use Rattle.lert_frames.proofs.{PlaceLaws.span_fits, ReadingLaws.given_none}
use Rattle.lert_levels.specs.{rows.Landing.{IsApart, KeepsRest, CanStand}, declared.landing.landing.Landing.Landing, declared.landing.sum.Sum.Sum}
use Rattle.lert_levels.specs.{landing.Landed.{taken, IsLanding, CanTake, SameLanding, Lands}, landing.Whole.{whole, AreBelow, IsTaking}}
use Rattle.lert_levels.proofs.{rows.LandLaws.{rest_none, within_rest}, landing.SumLaws.{last_up_to, last_fits, table_below, front_below, never_none}}
use Rattle.lert_spec.specs.{declared.numbers.Numbers.Numbers, declared.piece.Piece.Piece, Edges.span, Limits.IsValid, Table.{cost, costs, plus, AreGiven}}
use Rattle.lert_spec.proofs.{CostLaws.{cost_from, costs-plus, costs_from}, Tables.{AscendsFrom-plus, count_le-total}}

-- ---- what is taken

-- what stands of a landing's fields
abbrev pub Taking : FrameWriter → ℕ → ℕ → Sum → Type 0
Taking w version frame sum = record { taking : IsTaking w version frame sum; given : AreGiven (tail_limit w.settings) (whole w.put sum) }

-- a table with one piece more, whose counts cost little in all
pub given_plus : (s : Numbers) (version level : ℕ) (pieces : List Piece) (tail n : ℕ) → IsValid s → level ≤ s.levels → AreGiven (tail_limit s) pieces → tail < tail_limit s → 1 ≤ n →
    costs version pieces + cost version n ≤ span s level → AreGiven (tail_limit s) (plus pieces tail n)
given_plus s version level pieces tail n valid last given below some fits = record {
  table = AscendsFrom-plus 0 (tail_limit s) pieces tail n (omega arith) below some given.table;
  counts = λ k d within.
      omega (
        arith,
        count_le-total (plus pieces tail n) k d within,
        costs_from version (plus pieces tail n),
        costs-plus version pieces tail n,
        fits,
        span_fits s valid level last,
      );
}

-- what a piece that may come asks of the open sum
module _ (l : Landing) (piece : Piece) (can : CanTake l piece) where
  pub sum_ascends : IfSome l.sum.last (λ (p : Piece). p.tail ≤ piece.tail)
  sum_ascends = last_up_to piece.tail l.writer.put l.sum.last can.ascends

  pub sum_fits : IfSome l.sum.last (λ (p : Piece). p.count + piece.count < 2 ^ 63)
  sum_fits =
      let w = l.writer in
      last_fits (2 ^ 63) piece.count w.put l.sum.last (omega (
        arith,
        costs_from w.version (taken l),
        cost_from w.version piece.count,
        can.fits,
        span_fits w.settings w.growing.valid w.level w.growing.last,
      ))

  pub put_below : AreBelow piece.tail l.writer.put
  put_below = front_below piece.tail l.writer.put l.sum.last (table_below (tail_limit l.writer.settings) l.writer.put l.sum.last l.given.table) l.taking.begun sum_ascends

  -- with it the table fits still
  plus_given : AreGiven (tail_limit l.writer.settings) (plus (taken l) piece.tail piece.count)
  plus_given =
      let w = l.writer in
      given_plus w.settings w.version w.level (taken l) piece.tail piece.count w.growing.valid w.growing.last l.given can.below can.some can.fits

  plus_fits : costs l.writer.version (plus (taken l) piece.tail piece.count) ≤ span l.writer.settings l.writer.level
  plus_fits = omega (arith, costs-plus l.writer.version (taken l) piece.tail piece.count, can.fits)

  -- it is taken once the writer and the sum have the table with it
  module _ (w : FrameWriter) (sum : Sum) (settings : w.settings ≡ l.writer.settings) (version : w.version ≡ l.writer.version) (level : w.level ≡ l.writer.level)
      (all_is : whole w.put sum ≡ plus (taken l) piece.tail piece.count) where
    pub taking_after : w.frame ≡ l.writer.frame → IsSomeAnd sum.last (λ (p : Piece). p.tail ≡ piece.tail) → Taking w l.version l.frame sum
    taking_after frame last = record {
      taking = record {
        known = l.taking.known;
        version_is = version ∙ l.taking.version_is;
        frame_is = frame ∙ l.taking.frame_is;
        begun = λ none. absurd (never_none piece.tail sum.last last none);
        fits =
            let wide : span w.settings w.level ≡ span l.writer.settings l.writer.level = λ i. span (settings i) (level i) in
            omega (arith, wide, ap (λ v. costs v (whole w.put sum)) version, ap (costs l.writer.version) all_is, plus_fits);
      };
      given = subst (λ (s : Numbers). AreGiven (tail_limit s) (whole w.put sum)) (sym settings)
          (subst (AreGiven (tail_limit l.writer.settings)) (sym all_is) plus_given);
    }

-- a sum that is finished can be put
module _ (l : Landing) (p : Piece) (last_is : l.sum.last ≡ Some p) where
  all_is : taken l ≡ l.writer.put ++ p ∷ []
  all_is = ap (λ (o : Option Piece). l.writer.put ++ option_to_list o) last_is

  pub finished_given : AreGiven (tail_limit l.writer.settings) (l.writer.put ++ p ∷ [])
  finished_given = subst (AreGiven (tail_limit l.writer.settings)) all_is l.given

  pub finished_fits : costs l.writer.version (l.writer.put ++ p ∷ []) ≤ span l.writer.settings l.writer.level
  finished_fits = omega (arith, ap (costs l.writer.version) all_is, l.taking.fits)

-- ---- a frame that begins anew

module _ (w : FrameWriter) (sum : Sum) (put : w.put ≡ []) (last : sum.last ≡ None) where
  pub taken_none : whole w.put sum ≡ []
  taken_none = ap (λ (front : List Piece). front ++ option_to_list sum.last) put ∙ ap (λ (o : Option Piece). option_to_list o) last

  pub taking_anew : (version frame : ℕ) → IsVersion version → w.version ≡ version → w.frame ≡ frame → Taking w version frame sum
  taking_anew version frame known version_is frame_is = record {
    taking = record { known = known; version_is = version_is; frame_is = frame_is; begun = λ _. put; fits = omega (arith, ap (costs w.version) taken_none) };
    given = given_none (tail_limit w.settings) w.put (option_to_list sum.last) put (ap (λ (o : Option Piece). option_to_list o) last);
  }

-- a landing's frame is one of those of its level
pub frame_stands : (l : Landing) (w : FrameWriter) → w.settings ≡ l.writer.settings → l.frame ≤ w.settings.bins
frame_stands l w settings =
    subst (λ (s : Numbers). l.frame ≤ s.bins) (sym settings)
    (subst (λ (f : ℕ). f ≤ l.writer.settings.bins) l.taking.frame_is l.writer.growing.within)

-- what it took, once its sum is handed on, can stand
pub can_end : (l : Landing) (last : Option Piece) → last ≡ l.sum.last → CanStand l.writer.settings l.writer.version l.writer.level (l.writer.put ++ option_to_list last)
can_end l last is =
    subst (λ (o : Option Piece). CanStand l.writer.settings l.writer.version l.writer.level (l.writer.put ++ option_to_list o)) (sym is)
    (record { given = l.given; fits = l.taking.fits })

-- ---- what calls leave

-- the place of a landing's frame is that of its writer
pub rest_of : {B : Type 0} (bays : Bays B) (l : Landing) (before after : B) → KeepsRest bays (IsApart l.writer.settings l.writer.version l.writer.level l.writer.frame) before after →
    KeepsRest bays (IsApart l.writer.settings l.writer.version l.writer.level l.frame) before after
rest_of bays l before after rest = subst (λ (f : ℕ). KeepsRest bays (IsApart l.writer.settings l.writer.version l.writer.level f) before after) l.taking.frame_is rest

-- no call
pub lands_none : {B : Type 0} (bays : Bays B) → IsLawful bays → (old new : Landing) (bay : B) (Failed : Type 0) → (Failed → ⊥) → new.writer ≡ old.writer → new.frame ≡ old.frame →
    Lands bays old new bay bay Failed
lands_none bays lawful old new bay Failed never writer frame = record {
  same = record { settings = ap (λ (w : FrameWriter). w.settings) writer; version = ap (λ (w : FrameWriter). w.version) writer; level = ap (λ (w : FrameWriter). w.level) writer; frame = frame };
  landing = λ seen told landing later told_later. (
      let both : Some seen ≡ Some later = sym told ∙ told_later in
      let same : seen ≡ later = cc in
      subst (λ (w : FrameWriter). IsWriting w (later FRAMES)) (sym writer) (subst (λ (files : Files). IsWriting old.writer (files FRAMES)) same landing));
  rest = rest_none bays lawful (IsApart old.writer.settings old.writer.version old.writer.level old.frame) bay;
  kept = keeps_none bays lawful bay Failed never;
}

-- a call of the writer
pub lands_wrote : {B : Type 0} (bays : Bays B) (old new : Landing) (before after : B) (Failed : Type 0) → SameLanding old new →
    WritesWithin bays (frame_place old.writer.settings old.writer.version old.writer.level old.writer.frame)
    (frame_place old.writer.settings old.writer.version old.writer.level old.writer.frame + frame_len old.writer.settings old.writer.version old.writer.level) before after →
    KeepsBay bays before after Failed →
    IfTold (bays.files before) (λ seen. IsLanding old (seen FRAMES) → IfTold (bays.files after) (λ later. IsLanding new (later FRAMES))) → Lands bays old new before after Failed
lands_wrote bays old new before after Failed same within kept landing = record {
  same = same;
  landing = landing;
  rest = rest_of bays old before after (within_rest bays old.writer.settings old.writer.version old.writer.level old.writer.frame before after within);
  kept = kept;
}

-- ---- what stands in the end

-- the same frame, and the same pieces
pub holds_turned : (s t : Numbers) (version v level n frame f : ℕ) (file : List ℕ) (pieces put : List Piece) → s ≡ t → version ≡ v → level ≡ n → frame ≡ f → pieces ≡ put →
    HoldsFrame s version level frame file pieces → HoldsFrame t v n f file put
holds_turned s t version v level n frame f file pieces put settings_are version_is level_is frame_is pieces_are holds =
    subst (λ (m : Numbers). HoldsFrame m v n f file put) settings_are
    (subst (λ (m : ℕ). HoldsFrame s m n f file put) version_is
    (subst (λ (m : ℕ). HoldsFrame s version m f file put) level_is
    (subst (λ (m : ℕ). HoldsFrame s version level m file put) frame_is
    (subst (λ (list : List Piece). HoldsFrame s version level frame file list) pieces_are holds))))

pub rest_turned : {B : Type 0} (bays : Bays B) (s t : Numbers) (version v level n frame f : ℕ) (before after : B) → s ≡ t → version ≡ v → level ≡ n → frame ≡ f →
    KeepsRest bays (IsApart s version level frame) before after → KeepsRest bays (IsApart t v n f) before after
rest_turned bays s t version v level n frame f before after settings_are version_is level_is frame_is rest =
    subst (λ (m : Numbers). KeepsRest bays (IsApart m v n f) before after) settings_are
    (subst (λ (m : ℕ). KeepsRest bays (IsApart s m n f) before after) version_is
    (subst (λ (m : ℕ). KeepsRest bays (IsApart s version m f) before after) level_is
    (subst (λ (m : ℕ). KeepsRest bays (IsApart s version level m) before after) frame_is rest)))
