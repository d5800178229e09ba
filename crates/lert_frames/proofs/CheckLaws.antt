-- A frame that leaves its text nowhere is that of a bin, and stands in its file.
use Rattle.std.proofs.Common.{◌≡◌, ℕ, append_assoc, cond, inl, inr, sym, ◌+◌, ◌-◌, ◌*◌, ◌<◌, ◌≤◌, ◌^◌, List, [], ◌∷◌, ◌++◌, All, length, take, drop, Option, Some, None, refl, ap, ◌∙◌, subst, arith}
use Rattle.std.{proofs.lemmas.List.{drop-take, take-take}, proofs.lemmas.List.Elements.All-take, proofs.lemmas.Bool.{cases_eq, ne_eqb}, proofs.Math.Nat.mul-le-mul_left}
use Rattle.lert_bay.{specs.declared.bay.TheConstants.FRAMES, specs.Files.Files, specs.Settled.part}
use Rattle.lert_blocks.{specs.Frame.blocks_len, proofs.WalkLaws.{blocks_ascend, blocks_counts}, proofs.RoundTrip.found_text}
use Rattle.lert_spec.{specs.declared.numbers.Numbers.Numbers, specs.declared.piece.Piece.Piece, specs.Edges.{span, width}, specs.Limits.IsValid, specs.Table.{costs, total, AreGiven, AscendsFrom}}
use Rattle.std.specs.Prelude.{MatchOption, option_to_list}
use Rattle.lert_spec.proofs.CostLaws.{cost_some, costs_from, costs-first}
use Rattle.lert_spec.specs.Items.{most_weight}
use Rattle.lert_frames.{specs.Bytes.AreBytes, specs.Frame.{HoldsFrame, IsBin, frame_found, frame_left, frame_pieces, frame_text}}
use Rattle.lert_frames.{specs.Place.{block_count, frame_place, most_slots, tail_limit}, specs.Reading.verdict, specs.ToCome.{if_whole, known_or, left_of, pieces_of, told_of, Breaks, IsOver, IsWithin}}
use Rattle.lert_frames.{specs.declared.reader.FrameReader.FrameReader, proofs.PlaceLaws.{span_fits, tails_are}, proofs.JudgedLaws.{costs-append, total-append, summed_parts}}
use Rattle.lert_frames.{proofs.AdvanceLaws.reached}

-- ---- a piece more costs more

last_counts : (least limit : ℕ) (pieces : List Piece) (p : Piece) → AscendsFrom least limit (pieces ++ p ∷ []) → 1 ≤ p.count
last_counts least limit [] p up = up.2
last_counts least limit (q ∷ pieces) p up = last_counts (q.tail + 1) limit pieces p up.3

pub costs_grow : (version limit : ℕ) (pieces : List Piece) (p : Piece) → AreGiven limit (pieces ++ p ∷ []) → costs version pieces < costs version (pieces ++ p ∷ [])
costs_grow version limit pieces p are =
    let some = cost_some version p.count (last_counts 0 limit pieces p are.table) in omega (arith, some, costs-append version pieces (p ∷ []))

-- ---- the sum of the counts

-- counts are no more than what so many items may weigh as they cost
costs_weigh : (version : ℕ) (pieces : List Piece) → total pieces ≤ most_weight version * costs version pieces
costs_weigh version pieces = elim (cases_eq version 1) [
  | inl first ↦ subst (λ v. total pieces ≤ most_weight v * costs v pieces) (sym first) (omega (arith, costs-first pieces))
  | inr later ↦ subst (λ w. total pieces ≤ w * costs version pieces) (sym (ap (λ b. cond {A = ℕ} b 1 255) (ne_eqb version 1 later))) (costs_from version pieces)
]

pub sum_between : (version wide sum : ℕ) (pieces : List Piece) → sum ≡ total pieces → costs version pieces ≤ wide → wide ≤ total pieces →
    (wide ≤ sum) × (sum ≤ most_weight version * wide)
sum_between version wide sum pieces is cheap reached =
    let scaled = mul-le-mul_left (most_weight version) cheap in (omega (arith, is, reached), omega (arith, is, scaled, costs_weigh version pieces))

-- with one more
pub sum_step : (sum : ℕ) (before after : List Piece) (p : Piece) → sum ≡ total before → after ≡ before ++ p ∷ [] → sum + p.count ≡ total after
sum_step sum before after p is given = omega (arith, is, ap total given, total-append before (p ∷ []))

-- they are still below a limit
pub sum_fits : (version wide sum : ℕ) (before after : List Piece) (p : Piece) → sum ≡ total before → after ≡ before ++ p ∷ [] → costs version after ≤ wide → wide ≤ 2 ^ 47 →
    sum + p.count < 2 ^ 64
sum_fits version wide sum before after p is given cheap few =
    omega (arith, sum_step sum before after p is given, cheap, few, costs_from version after)

pub few_wide : (s : Numbers) (level wide : ℕ) → IsValid s → level ≤ s.levels → wide ≤ span s level → wide ≤ 2 ^ 47
few_wide s level wide valid within narrow = omega (arith, narrow, span_fits s valid level within)

-- ---- what a piece leaves to come

abbrev pub LeavesToCome : List Piece → Option (List Piece) → Option Piece → Type 0
LeavesToCome pieces now given = MatchOption given ((pieces ≡ []) × (now ≡ Some [])) (λ p. (rest : List Piece) × (pieces ≡ p ∷ rest) × (now ≡ Some rest))

pub gave_more : (given : Option Piece) (p : Piece) (before after : List Piece) → after ≡ before ++ option_to_list given → given ≡ Some p → after ≡ before ++ p ∷ []
gave_more given p before after gave is = gave ∙ ap (λ piece. before ++ option_to_list piece) is

pub some_told : (given : Option Piece) (p : Piece) (pieces : List Piece) (now : Option (List Piece)) → given ≡ Some p → LeavesToCome pieces now given → LeavesToCome pieces now (Some p)
some_told given p pieces now is leaves = subst (LeavesToCome pieces now) is leaves

pub none_told : (given : Option Piece) (pieces : List Piece) (now : Option (List Piece)) → given ≡ None → LeavesToCome pieces now given → pieces ≡ []
none_told given pieces now is leaves = (subst (LeavesToCome pieces now) is leaves).0

-- those given and those to come are the same together
pub told_more : (all before after pieces rest : List Piece) (p : Piece) → all ≡ before ++ pieces → pieces ≡ p ∷ rest → after ≡ before ++ p ∷ [] → all ≡ after ++ rest
told_more all before after pieces rest p is first given =
    is ∙ ap (λ list. before ++ list) first ∙ sym (append_assoc before (p ∷ []) rest) ∙ ap (λ list. list ++ rest) (sym given)

-- all pieces of a frame that was whole when it was begun
pub all_told : (told : Option Files) (r : FrameReader) (seen : Files) → told ≡ Some seen → left_of r (seen FRAMES) ≡ None → told_of told r ≡ Some (pieces_of r (seen FRAMES))
all_told told r seen is whole = ap (λ files. told_of files r) is ∙ ap (λ left. if_whole left (pieces_of r (seen FRAMES))) whole

-- ---- no rule is broken

pub none_of : (left : Option ℕ) → ((at : ℕ) → left ≡ Some at → ⊥) → left ≡ None
none_of None never = refl
none_of (Some at) never = absurd (never at refl)

-- ---- parts of a file

small_front : (file : List ℕ) (place upto len : ℕ) → place + len ≤ upto → AreBytes (part file place upto) → All (λ b. b < 256) (take len (drop place file))
small_front file place upto len within small =
    let sum : upto ≡ place + (upto - place) = omega (arith, within) in
    let all : part file place upto ≡ take (upto - place) (drop place file) = ap (λ n. drop place (take n file)) sum ∙ drop-take place (upto - place) file in
    let front : take len (part file place upto) ≡ take len (drop place file) = ap (take len) all ∙ take-take len (upto - place) (drop place file) (omega (arith, within)) in
    subst (λ xs. All (λ b. b < 256) xs) front (All-take (λ (b : ℕ). b < 256) len (part file place upto) small)

stands_at : (file : List ℕ) (place : ℕ) (text : List ℕ) → take (length text) (drop place file) ≡ text → part file place (place + length text) ≡ text
stands_at file place text is = drop-take place (length text) file ∙ is

-- ---- a frame

module _ (s : Numbers) (version level frame wide : ℕ) (file : List ℕ) (whole : frame_left s version level frame wide file ≡ None) where
  parts : ((frame_found s version level frame file).left ≡ None) × (costs version (frame_pieces s version level frame file) ≤ wide) × (wide ≤ total (frame_pieces s version level frame file))
  parts = summed_parts version wide wide (frame_place s version level frame) (frame_pieces s version level frame file) (frame_found s version level frame file).left whole

  -- its pieces are a bin
  pub whole_bin : IsValid s → level ≤ s.levels → IsBin version (tail_limit s) wide (frame_pieces s version level frame file)
  whole_bin valid within =
      let place = frame_place s version level frame in
      let up = blocks_ascend (block_count s level) (width s level) 0 (most_slots s version level) place (length file) (drop place file) in
      let limit : 64 * (0 + block_count s level) * 2 ^ width s level ≡ tail_limit s =
      ap (λ n. 64 * n * 2 ^ width s level) (let same : 0 + block_count s level ≡ block_count s level = omega arith in same) ∙ tails_are s valid level within in
      let least : 64 * 0 * 2 ^ width s level ≡ 0 = omega arith in
      record {
        given = record {
          table = subst (λ n. AscendsFrom n (tail_limit s) (frame_pieces s version level frame file)) least
              (subst (λ n. AscendsFrom (64 * 0 * 2 ^ width s level) n (frame_pieces s version level frame file)) limit up);
          counts = blocks_counts (block_count s level) (width s level) 0 (most_slots s version level) place (length file) (drop place file);
        };
        lower = parts.1;
        upper = parts.2;
      }

  -- and their text stands there, where all of it are bytes
  pub whole_stands : (upto : ℕ) → AreBytes (part file (frame_place s version level frame) upto) →
      frame_place s version level frame + blocks_len (block_count s level) (drop (frame_place s version level frame) file) ≤ upto →
      HoldsFrame s version level frame file (frame_pieces s version level frame file)
  whole_stands upto small within =
      let place = frame_place s version level frame in
      let bytes = drop place file in
      let text = found_text (block_count s level) (width s level) 0 (most_slots s version level) place (length file) bytes
      (small_front file place upto (blocks_len (block_count s level) bytes) within small) parts.0 in
      stands_at file place (frame_text s level (frame_pieces s version level frame file)) text.front

-- ---- a reader at the end of a frame

pub left_started : (r : FrameReader) (s : Numbers) (version level frame wide : ℕ) (file : List ℕ) → left_of r file ≡ frame_left r.settings version r.level frame wide file →
    r.settings ≡ s → r.level ≡ level → left_of r file ≡ frame_left s version level frame wide file
left_started r s version level frame wide file is settings same = is ∙ (λ i. frame_left (settings i) version (same i) frame wide file)

left_over : (r : FrameReader) (file : List ℕ) → IsOver r → left_of r file ≡ None
left_over r file over = (λ i. known_or (over.fault i) (verdict r.version r.sum r.place (over.found file i))) ∙ reached r.version r.sum r.place over.sum

-- it left its text nowhere before
pub whole_from : (old new : Option Files) (first last : FrameReader) (seen : Files) → old ≡ Some seen → new ≡ Some seen → ((at : ℕ) → Breaks old first at → Breaks new last at) →
    IsOver last → left_of first (seen FRAMES) ≡ None
whole_from old new first last seen told told_now breaks over =
    none_of (left_of first (seen FRAMES)) (λ at is.
    let broken = breaks at (λ other same. subst (λ (files : Files). left_of first (files FRAMES) ≡ Some at) (let here : seen ≡ other = cc in here) is) seen told_now in
    let whole = left_over last (seen FRAMES) over in
    cc)

-- and the text that it read stands in the file
pub stands_from : (r : FrameReader) (s : Numbers) (version level frame wide : ℕ) (file : List ℕ) → IsWithin r file → IsOver r → r.settings ≡ s → r.level ≡ level →
    r.place ≡ frame_place s version level frame → frame_left s version level frame wide file ≡ None → HoldsFrame s version level frame file (frame_pieces s version level frame file)
stands_from r s version level frame wide file within over settings same place_is whole =
    let small : AreBytes (part file (frame_place s version level frame) r.decoder.window.at) = subst (λ place. AreBytes (part file place r.decoder.window.at)) place_is within.read in
    let ends : r.place + blocks_len (block_count r.settings r.level) (drop r.place file) ≤ r.decoder.window.at = omega (arith, within.end, over.end file) in
    whole_stands s version level frame wide file whole r.decoder.window.at small
    (subst (λ n. n ≤ r.decoder.window.at) (λ i. place_is i + blocks_len (block_count (settings i) (same i)) (drop (place_is i) file)) ends)
