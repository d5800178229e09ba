-- What is to come of a reader, over several steps, and as it hands out pieces.
use Rattle.std.{proofs.Common.{◌≡◌, ℕ, ◌+◌, ◌≤◌, List, [], ◌∷◌, ◌++◌, drop, Option, Some, None, refl, sym, ap, ap₂, ◌∙◌, subst, arith}, specs.Prelude.{◌↔◌, MatchOption, option_to_list}}
use Rattle.std.proofs.lemmas.List.{append-nil}
use Rattle.lert_bay.{specs.declared.bay.TheConstants.FRAMES, specs.Files.Files}
use Rattle.lert_blocks.{specs.Frame.blocks_len, specs.Walk.{Found, nothing}}
use Rattle.lert_spec.{specs.declared.piece.Piece.Piece, specs.Table.{costs, total}}
use Rattle.lert_frames.{specs.Decoded.{decoder_found, decoder_end}, specs.Place.block_count, specs.Reading.{IsReached, SumsUp, verdict}}
use Rattle.lert_frames.{specs.ToCome.{known_or, left_of, pieces_of, ready_of, if_whole, told_of, Breaks, IsSameFrame, IsSameToCome, HandsOut, IsOver, IsWithin}, specs.Window.{IsRead, place_of}}
use Rattle.lert_frames.{specs.declared.decoder.Decoder.Decoder, specs.declared.reader.FrameReader.FrameReader, specs.declared.reader.Sum.Sum, specs.declared.reader.Sum.TheVariants.{Left, Over}}
use Rattle.lert_frames.proofs.JudgedLaws.{costs-append, total-append}

-- ---- steps in turn

pub same_frame_on : (before between after : FrameReader) → IsSameFrame before between → IsSameFrame between after → IsSameFrame before after
same_frame_on before between after one two = record {
  settings = two.settings ∙ one.settings;
  version = two.version ∙ one.version;
  level = two.level ∙ one.level;
  place = two.place ∙ one.place;
  wide = two.wide ∙ one.wide;
  gave = two.gave ∙ one.gave;
}

pub same_to_come_on : (before between after : FrameReader) (file : List ℕ) → IsSameToCome before between file → IsSameToCome between after file → IsSameToCome before after file
same_to_come_on before between after file one two = record {
  left = two.left ∙ one.left;
  pieces = λ whole. two.pieces (one.left ∙ whole) ∙ one.pieces whole;
}

-- where it leaves its text later, it did before
pub left_before : (before between : FrameReader) (file : List ℕ) (at : ℕ) → IsSameToCome before between file → left_of between file ≡ Some at → left_of before file ≡ Some at
left_before before between file at same is = sym same.left ∙ is

-- ---- what is told

same_whole : (left other : Option ℕ) (pieces more : List Piece) → left ≡ other → (other ≡ None → pieces ≡ more) → if_whole left pieces ≡ if_whole other more
same_whole None None pieces more is same = ap Some (same refl)
same_whole None (Some at) pieces more is same = absurd (cc)
same_whole (Some at) None pieces more is same = absurd (cc)
same_whole (Some at) (Some other) pieces more is same = refl

-- the same is told of what is the same to come
pub told_stays : (old new : Option Files) (before after : FrameReader) → new ≡ old → ((seen : Files) → old ≡ Some seen → IsSameToCome before after (seen FRAMES)) →
    told_of new after ≡ told_of old before
told_stays None new before after is same = ap (λ told. told_of told after) is
told_stays (Some seen) new before after is same =
    let here = same seen refl in
    ap (λ told. told_of told after) is
    ∙ same_whole (left_of after (seen FRAMES)) (left_of before (seen FRAMES)) (pieces_of after (seen FRAMES)) (pieces_of before (seen FRAMES)) here.left here.pieces

-- a rule is broken where it was
pub broken_stays : (old new : Option Files) (before after : FrameReader) → new ≡ old → ((seen : Files) → old ≡ Some seen → IsSameToCome before after (seen FRAMES)) →
    (at : ℕ) → Breaks new after at ↔ Breaks old before at
broken_stays old new before after is same at =
    (λ breaks seen told. sym (same seen told).left ∙ breaks seen (is ∙ told), λ breaks seen told. (same seen (sym is ∙ told)).left ∙ breaks seen (sym is ∙ told))

-- nothing is told where it leaves its text
pub broken_untold : (told : Option Files) (r : FrameReader) (at : ℕ) → Breaks told r at → told_of told r ≡ None
broken_untold None r at breaks = refl
broken_untold (Some seen) r at breaks = ap (λ left. if_whole left (pieces_of r (seen FRAMES))) (breaks seen refl)

whole_parts : (left : Option ℕ) (all pieces : List Piece) → if_whole left all ≡ Some pieces → (left ≡ None) × (all ≡ pieces)
whole_parts None all pieces is = (refl, cc)
whole_parts (Some at) all pieces is = absurd (cc)

whole_none : (left : Option ℕ) (all pieces : List Piece) → if_whole left all ≡ None → if_whole left pieces ≡ None
whole_none None all pieces is = absurd (cc)
whole_none (Some at) all pieces is = refl

-- ---- a piece that is handed out

-- what is to come behind it
module _ (before after : FrameReader) (piece : Option Piece) (hands : HandsOut before after piece) where
  pub handed_left : (file : List ℕ) → left_of after file ≡ left_of before file
  handed_left file = λ i. known_or (hands.fault i) (verdict (hands.version i) (hands.sum i) (hands.place i) (decoder_found (hands.decoder i) file))

  pub handed_broken : (told : Option Files) (at : ℕ) → Breaks told after at ↔ Breaks told before at
  handed_broken told at = (λ breaks seen is. sym (handed_left (seen FRAMES)) ∙ breaks seen is, λ breaks seen is. handed_left (seen FRAMES) ∙ breaks seen is)

  pub handed_untold : (told : Option Files) → told_of told before ≡ None → told_of told after ≡ None
  handed_untold None is = refl
  handed_untold (Some seen) is =
      ap (λ left. if_whole left (pieces_of after (seen FRAMES))) (handed_left (seen FRAMES))
      ∙ whole_none (left_of before (seen FRAMES)) (pieces_of before (seen FRAMES)) (pieces_of after (seen FRAMES)) is

  pub handed_within : (file : List ℕ) → IsWithin before file → IsWithin after file
  handed_within file is = record {
    read = subst (λ place. IsRead after.decoder.window place file) (sym hands.place) (subst (λ decoder. IsRead decoder.window before.place file) (sym hands.decoder) is.read);
    from = omega (arith, is.from, hands.place, ap (λ decoder. place_of decoder.window) hands.decoder);
    end =
        ap (λ decoder. decoder_end decoder file) hands.decoder
        ∙ (is.end ∙ sym (λ i. hands.place i + blocks_len (block_count (hands.settings i) (hands.level i)) (drop (hands.place i) file)));
  }

-- what was given so far
pub handed_gave : (before after : FrameReader) (piece : Option Piece) → HandsOut before after piece → after.gave ≡ before.gave ++ option_to_list piece
handed_gave before after None hands = hands.given.2 ∙ sym (append-nil before.gave)
handed_gave before after (Some p) hands = hands.given.1

-- where no piece is ready, the same is to come
pub handed_none : (before after : FrameReader) → HandsOut before after None → (file : List ℕ) → IsSameToCome before after file
handed_none before after hands file = record {
  left = handed_left before after None hands file;
  pieces = λ _. ap₂ (λ ready (found : Found). ready ++ found.pieces) (hands.given.1 ∙ sym hands.given.0) (ap (λ decoder. decoder_found decoder file) hands.decoder);
}

pub told_first : (told : Option Files) (before after : FrameReader) (p : Piece) (ps : List Piece) → HandsOut before after (Some p) → told_of told before ≡ Some ps →
    (rest : List Piece) × (ps ≡ p ∷ rest) × (told_of told after ≡ Some rest)
told_first None before after p ps hands is = absurd (cc)
told_first (Some seen) before after p ps hands is =
    let file = seen FRAMES in
    let parts = whole_parts (left_of before file) (pieces_of before file) ps is in (
      pieces_of after file,
      sym parts.1 ∙ ap₂ (λ ready (found : Found). ready ++ found.pieces) hands.given.0 (ap (λ decoder. decoder_found decoder file) (sym hands.decoder)),
      ap (λ left. if_whole left (pieces_of after file)) (handed_left before after (Some p) hands file ∙ parts.0),
    )

-- the frame's end
pub handed_over : (before after : FrameReader) → HandsOut before after None → (ready_of before ≡ [] → IsOver before) → IsOver after
handed_over before after hands over =
    let is = over hands.given.0 in
    record {
      fault = hands.fault ∙ is.fault;
      sum = subst IsReached (sym hands.sum) is.sum;
      found = λ file. ap (λ decoder. decoder_found decoder file) hands.decoder ∙ is.found file;
      end = λ file. subst (λ (d : Decoder). decoder_end d file ≤ d.window.at) (sym hands.decoder) (is.end file);
    }

pub told_end : (told : Option Files) (before after : FrameReader) (ps : List Piece) → HandsOut before after None → IsOver before → told_of told before ≡ Some ps →
    (ps ≡ []) × (told_of told after ≡ Some [])
told_end None before after ps hands over is = absurd (cc)
told_end (Some seen) before after ps hands over is =
    let file = seen FRAMES in
    let parts = whole_parts (left_of before file) (pieces_of before file) ps is in
    let none = over.found file in
    let later : decoder_found after.decoder file ≡ nothing = ap (λ decoder. decoder_found decoder file) hands.decoder ∙ none in (
      sym parts.1 ∙ ap₂ (λ ready (found : Found). ready ++ found.pieces) hands.given.0 none,
      ap₂ if_whole (handed_left before after None hands file ∙ parts.0) (ap₂ (λ ready (found : Found). ready ++ found.pieces) hands.given.1 later),
    )

pub told_next : (told : Option Files) (before after : FrameReader) (piece : Option Piece) (ps : List Piece) → HandsOut before after piece →
    (ready_of before ≡ [] → IsOver before) → told_of told before ≡ Some ps →
    MatchOption piece ((ps ≡ []) × (told_of told after ≡ Some [])) (λ p. (rest : List Piece) × (ps ≡ p ∷ rest) × (told_of told after ≡ Some rest))
told_next told before after None ps hands over is = told_end told before after ps hands (over hands.given.0) is
told_next told before after (Some p) ps hands over is = told_first told before after p ps hands is

-- ---- the counts of what was given

sums_within : (version wide : ℕ) (decoded : List Piece) (sum : Sum) → SumsUp version wide decoded sum → costs version decoded ≤ wide
sums_within version wide decoded (Left most due) is = omega (arith, is.0)
sums_within version wide decoded Over is = is

pub given_within : (r : FrameReader) → costs r.version r.gave ≤ r.wide
given_within r =
    omega (arith, costs-append r.version r.gave (ready_of r), sums_within r.version r.wide (r.gave ++ ready_of r) r.sum r.reading.sums)

sums_reached : (version wide : ℕ) (decoded : List Piece) (sum : Sum) → SumsUp version wide decoded sum → IsReached sum → wide ≤ total decoded
sums_reached version wide decoded (Left most due) is none = omega (arith, is.1, none)
sums_reached version wide decoded Over is none = absurd none

-- at the frame's end they reach the bin's width
pub given_all : (before after : FrameReader) → HandsOut before after None → IsOver after → after.wide ≤ total after.gave
given_all before after hands over =
    omega (arith, sums_reached after.version after.wide (after.gave ++ ready_of after) after.sum after.reading.sums over.sum, total-append after.gave (ready_of after), ap total hands.given.1)
