-- What was put stands in the file and in the buffers, through each change of a writer.
use Rattle.std.proofs.Common.{◌≡◌, ◌≢◌, ℕ, zero, suc, ◌+◌, ◌*◌, ◌/◌, ◌^◌, ◌<◌, ◌≤◌, ◌==◌, Bool, true, false, cond, List, [], ◌∷◌, ◌++◌, length, take, Option, Some, None, refl, sym, ap, ap₂}
use Rattle.std.{proofs.Common.{◌∙◌, subst, inl, inr, arith, append-nil, append_assoc, length-append, length-take, eq-eqb, ne_eqb}, proofs.lemmas.Bool.{cond-true, cond-false}}
use Rattle.std.{proofs.lemmas.List.take-append-le, proofs.Math.Nat.mul-le-mul_right, proofs.Math.Seq.get_or-append_seam}
use Rattle.lert_bay.specs.Settled.{part}
use Rattle.lert_blocks.{specs.declared.block.Block.Block, specs.Filling.{IsFilled, IsNext}}
use Rattle.lert_blocks.specs.Text.{quotient_of, group_of, slots_of, ends_of, words_of, numbers_text, block_text, pieces_in, blocks_text}
use Rattle.lert_blocks.proofs.BlockLaws.{slots_of-push, ends_before, ends_of-push, ends_of-push_two, last_of, length_ends}
use Rattle.lert_blocks.proofs.PieceLaws.{block_grows, in_block, block_below, ascends_from, ascends_below, pieces_in-ascend}
use Rattle.lert_frames.{specs.declared.long.Long.Long, specs.declared.outlet.Outlet.Outlet, specs.Frame.{frame_text, HoldsFrame}, specs.Outlet.{IsOut, next_place, unwritten}}
use Rattle.lert_frames.{specs.Place.{block_count, frame_place, tail_limit}, specs.Spilt.{IsSpilt, IsBehind}, proofs.GrowingLaws.{not_long, same_long}, proofs.OutletLaws.out_whole}
use Rattle.lert_frames.proofs.PlaceLaws.{tails_are}
use Rattle.lert_spec.{specs.declared.numbers.Numbers.Numbers, specs.declared.piece.Piece.Piece, specs.Edges.width, specs.Limits.IsValid, proofs.LimitLaws.quotient_bits_by_zeros}
use Rattle.lert_spec.specs.Table.{AscendsFrom, AreGiven, cost, costs, total}
use Rattle.lert_counter.specs.Group.{IsCount}

-- ---- one piece more

module _ (width block : ℕ) (p : Piece) where
  pub pieces_in-here : (ps : List Piece) → quotient_of width p / 64 ≡ block → pieces_in width block (ps ++ p ∷ []) ≡ pieces_in width block ps ++ p ∷ []
  pieces_in-here [] here = cond-true (quotient_of width p / 64 == block) (p ∷ []) [] (eq-eqb (quotient_of width p / 64) block here)
  pieces_in-here (q ∷ qs) here = kept (quotient_of width q / 64 == block) (pieces_in-here qs here)
    where
      kept : (b : Bool) → pieces_in width block (qs ++ p ∷ []) ≡ pieces_in width block qs ++ p ∷ [] →
          cond b (q ∷ pieces_in width block (qs ++ p ∷ [])) (pieces_in width block (qs ++ p ∷ [])) ≡ cond b (q ∷ pieces_in width block qs) (pieces_in width block qs) ++ p ∷ []
      kept true e = ap (λ (t : List Piece). q ∷ t) e
      kept false e = e

  pub pieces_in-elsewhere : (ps : List Piece) → quotient_of width p / 64 ≢ block → pieces_in width block (ps ++ p ∷ []) ≡ pieces_in width block ps
  pieces_in-elsewhere [] other = cond-false (quotient_of width p / 64 == block) (p ∷ []) [] (ne_eqb (quotient_of width p / 64) block other)
  pieces_in-elsewhere (q ∷ qs) other =
      ap (λ (t : List Piece). cond (quotient_of width q / 64 == block) (q ∷ t) t) (pieces_in-elsewhere qs other)

-- none is of a block behind all
pub pieces_in-past : (width block least : ℕ) (ps : List Piece) → AscendsFrom least (64 * block * 2 ^ width) ps → pieces_in width block ps ≡ []
pieces_in-past width block least [] up = refl
pieces_in-past width block least (p ∷ ps) up =
    let before = block_below width block p.tail up.1 in
    cond-false (quotient_of width p / 64 == block) (p ∷ pieces_in width block ps) (pieces_in width block ps) (ne_eqb (quotient_of width p / 64) block (λ e. omega (arith, e, before)))
    ∙ pieces_in-past width block (p.tail + 1) ps up.3

-- the text of blocks before that of the piece
pub blocks_text-kept : (width first count : ℕ) (ps : List Piece) (p : Piece) → first + count ≤ quotient_of width p / 64 →
    blocks_text width first count (ps ++ p ∷ []) ≡ blocks_text width first count ps
blocks_text-kept width first zero ps p before = refl
blocks_text-kept width first (suc count) ps p before =
    ap₂ (λ (xs ys : List ℕ). xs ++ ys) (ap (block_text width first) (pieces_in-elsewhere width first p ps (λ e. omega (arith, e, before))))
    (blocks_text-kept width (first + 1) count ps p (omega arith))

-- one block more
blocks_text-push : (width first count : ℕ) (ps : List Piece) → blocks_text width first (suc count) ps
    ≡ blocks_text width first count ps ++ block_text width (first + count) (pieces_in width (first + count) ps)
blocks_text-push width first zero ps =
    append-nil (block_text width first (pieces_in width first ps)) ∙ ap (λ n. block_text width n (pieces_in width n ps)) (let none : first ≡ first + 0 = omega arith in none)
blocks_text-push width first (suc count) ps =
    ap (λ (t : List ℕ). block_text width first (pieces_in width first ps) ++ t) (blocks_text-push width (first + 1) count ps)
    ∙ (sym (append_assoc (block_text width first (pieces_in width first ps)) (blocks_text width (first + 1) count ps)
    (block_text width (first + 1 + count) (pieces_in width (first + 1 + count) ps)))
    ∙ ap (λ n. blocks_text width first (suc count) ps ++ block_text width n (pieces_in width n ps)) (let sum : first + 1 + count ≡ first + suc count = omega arith in sum))

pub blocks_text-next : (width number : ℕ) (ps : List Piece) → blocks_text width 0 (number + 1) ps ≡ blocks_text width 0 number ps ++ block_text width number (pieces_in width number ps)
blocks_text-next width number ps =
    let next : number + 1 ≡ suc number = omega arith in
    let none : 0 + number ≡ number = omega arith in
    ap (λ n. blocks_text width 0 n ps) next ∙ (blocks_text-push width 0 number ps ∙ ap (λ n. blocks_text width 0 number ps ++ block_text width n (pieces_in width n ps)) none)

-- ---- tails

least_before : (least limit : ℕ) (ps : List Piece) (p : Piece) → AscendsFrom least limit (ps ++ p ∷ []) → least ≤ p.tail
least_before least limit [] p up = up.0
least_before least limit (q ∷ qs) p up = omega (arith, least_before (q.tail + 1) limit qs p up.3, up.0)

-- a lower limit, above the last tail
pub ascends_last : (least limit high : ℕ) (ps : List Piece) (p : Piece) → AscendsFrom least limit (ps ++ p ∷ []) → p.tail < high → AscendsFrom least high (ps ++ p ∷ [])
ascends_last least limit high [] p up below = (up.0, below, up.2, tt)
ascends_last least limit high (q ∷ qs) p up below =
    (up.0, omega (arith, least_before (q.tail + 1) limit qs p up.3, below), up.2, ascends_last (q.tail + 1) limit high qs p up.3 below)

last_rises : (least limit : ℕ) (ps : List Piece) (p q : Piece) → AscendsFrom least limit ((ps ++ p ∷ []) ++ q ∷ []) → p.tail ≤ q.tail
last_rises least limit [] p q up = omega (arith, up.3.0)
last_rises least limit (x ∷ xs) p q up = last_rises (x.tail + 1) limit xs p q up.3

pub passed_take : (width number limit : ℕ) (ps : List Piece) (p : Piece) → AscendsFrom 0 limit (ps ++ p ∷ []) → quotient_of width p / 64 ≡ number →
    AscendsFrom 0 (64 * (number + 1) * 2 ^ width) (ps ++ p ∷ [])
passed_take width number limit ps p up here = ascends_last 0 limit (64 * (number + 1) * 2 ^ width) ps p up (in_block width number p.tail here).1

pub ahead_take : (width number limit : ℕ) (ps : List Piece) (p : Piece) → quotient_of width p / 64 ≡ number → (piece : Piece) →
    AscendsFrom 0 limit ((ps ++ p ∷ []) ++ piece ∷ []) → number ≤ quotient_of width piece / 64
ahead_take width number limit ps p here piece up = omega (arith, here, block_grows width p.tail piece.tail (last_rises 0 limit ps p piece up))

-- ---- what is out of a long block stays

pub ends_kept : (width n : ℕ) (ps : List Piece) (p : Piece) → n < length (ends_of width ps) → take n (ends_of width (ps ++ p ∷ [])) ≡ take n (ends_of width ps)
ends_kept width n ps p inside = elim (last_of ps) [
  | inl none ↦ absurd (omega (arith, ap (λ (qs : List Piece). length (ends_of width qs)) none, inside))
  | inr (qs, q, is) ↦
      let front = ends_before width qs q in
      let short : n ≤ length front = omega (arith, ap (λ (rs : List Piece). length (ends_of width rs)) is, ap length (ends_of-push width qs q), length-append front (true ∷ []), inside) in
      ap (λ (rs : List Piece). take n (ends_of width (rs ++ p ∷ []))) is
      ∙ (ap (take n) (ends_of-push_two width qs q p) ∙ take-append-le n front _ short)
      ∙ sym (ap (λ (rs : List Piece). take n (ends_of width rs)) is ∙ (ap (take n) (ends_of-push width qs q) ∙ take-append-le n front (true ∷ []) short))
]

pub slots_kept : (width n : ℕ) (ps : List Piece) (p : Piece) → n ≤ length (slots_of width ps) → take n (slots_of width (ps ++ p ∷ [])) ≡ take n (slots_of width ps)
slots_kept width n ps p inside = ap (take n) (slots_of-push width ps p) ∙ take-append-le n (slots_of width ps) (group_of width p) inside

-- ---- behind a text

pub behind_none : (place : ℕ) (text : List ℕ) (width number : ℕ) (pieces : List Piece) (file : List ℕ) (ends outlet : Outlet) (block : Block) →
    IsOut place text file outlet → IsFilled width number 0 pieces block → IsBehind None place text width number pieces file ends outlet block
behind_none place text width number pieces file ends outlet block out filled = record {
  out = λ _. out;
  filled = λ _. filled;
  spilt = λ l is. not_long l is;
  before = λ l is. not_long l is;
  begins = λ l is. not_long l is;
}

pub behind_some : (l : Long) (place : ℕ) (text : List ℕ) (width number : ℕ) (pieces : List Piece) (file : List ℕ) (ends outlet : Outlet) (block : Block) →
    IsSpilt width number pieces l file ends outlet block → part file place l.begin ≡ text → l.begin ≡ place + length text → IsBehind (Some l) place text width number pieces file ends outlet block
behind_some l place text width number pieces file ends outlet block spilt before begins = record {
  out = λ is. not_long l (sym is);
  filled = λ is. not_long l (sym is);
  spilt = λ k is. subst (λ (j : Long). IsSpilt width number pieces j file ends outlet block) (same_long l k is) spilt;
  before = λ k is. subst (λ (j : Long). part file place j.begin ≡ text) (same_long l k is) before;
  begins = λ k is. subst (λ (j : Long). j.begin ≡ place + length text) (same_long l k is) begins;
}

-- a piece is put into the block
pub behind_take : (long : Option Long) (place : ℕ) (text : List ℕ) (width number limit : ℕ) (pieces : List Piece) (p : Piece) (file : List ℕ) (ends outlet : Outlet) (old new : Block) →
    AscendsFrom 0 limit pieces → ((l : Long) → long ≡ Some l → 0 < old.len) →
    ((skip : ℕ) → IsFilled width number skip pieces old → IsFilled width number skip (pieces ++ p ∷ []) new) →
    IsBehind long place text width number pieces file ends outlet old → IsBehind long place text width number (pieces ++ p ∷ []) file ends outlet new
behind_take long place text width number limit pieces p file ends outlet old new up some fills behind = record {
  out = behind.out;
  filled = λ is. fills 0 (behind.filled is);
  spilt = λ l is.
      let spilt = behind.spilt l is in
      let counted = length_ends width 0 limit pieces up in
      let more = some l is in
      record {
        ends_out = subst (λ (bits : List Bool). IsOut (l.begin + 12) (numbers_text (words_of bits)) file ends)
            (sym (ends_kept width (64 * l.words) pieces p (omega (arith, counted, spilt.filled.skipped, more)))) spilt.ends_out;
        slots_out = subst (λ (slots : List ℕ). IsOut l.slots (numbers_text slots) file outlet)
            (sym (slots_kept width (64 * l.words) pieces p (omega (arith, spilt.filled.skipped)))) spilt.slots_out;
        filled = fills (64 * l.words) spilt.filled;
      };
  before = behind.before;
  begins = behind.begins;
}

-- ---- the whole frame

pub holds_frame : (s : Numbers) (version level frame wide place number : ℕ) (put : List Piece) (file : List ℕ) → wide ≡ width s level → place ≡ frame_place s version level frame →
    number + 1 ≡ block_count s level →
    part file place (place + length (blocks_text wide 0 number put ++ block_text wide number (pieces_in wide number put))) ≡ blocks_text wide 0 number put ++ block_text wide number
    (pieces_in wide number put) →
    HoldsFrame s version level frame file put
holds_frame s version level frame wide place number put file width_is place_is count is =
    let whole : blocks_text wide 0 number put ++ block_text wide number (pieces_in wide number put) ≡ frame_text s level put =
    sym (blocks_text-next wide number put) ∙ (ap (λ n. blocks_text wide 0 n put) count ∙ ap (λ w. blocks_text w 0 (block_count s level) put) width_is) in
    subst (λ at. part file at (at + length (frame_text s level put)) ≡ frame_text s level put) place_is
    (subst (λ (text : List ℕ). part file place (place + length text) ≡ text) whole is)

-- the first piece's block, and that of each piece, is one of the frame
pub block_within : (s : Numbers) (level wide : ℕ) (p : Piece) → IsValid s → level ≤ s.levels → wide ≡ width s level → p.tail < tail_limit s → quotient_of wide p / 64 < block_count s level
block_within s level wide p valid within width_is below =
    let same = ap (λ w. 64 * block_count s level * 2 ^ w) width_is ∙ tails_are s valid level within in
    block_below wide (block_count s level) p.tail (omega (arith, below, same))

-- of pieces, those of a block ascend
pub in_block-ascend : (width number least limit : ℕ) (ps : List Piece) → AscendsFrom least limit ps → AscendsFrom 0 (64 * (number + 1) * 2 ^ width) (pieces_in width number ps)
in_block-ascend width number least limit ps up =
    ascends_from 0 (64 * number * 2 ^ width) (64 * (number + 1) * 2 ^ width) (pieces_in width number ps) (omega arith) (pieces_in-ascend width number least limit ps up)

-- ---- a writer's steps

ascends_front : (least limit : ℕ) (ps more : List Piece) → AscendsFrom least limit (ps ++ more) → AscendsFrom least limit ps
ascends_front least limit [] more up = tt
ascends_front least limit (p ∷ ps) more up = (up.0, up.1, up.2, ascends_front (p.tail + 1) limit ps more up.3)

pub last_piece : (least limit : ℕ) (ps : List Piece) (p : Piece) → AscendsFrom least limit (ps ++ p ∷ []) → (p.tail < limit) × (1 ≤ p.count)
last_piece least limit [] p up = (up.1, up.2)
last_piece least limit (q ∷ qs) p up = last_piece (q.tail + 1) limit qs p up.3

pub last_count : (limit : ℕ) (ps : List Piece) (p : Piece) → AreGiven limit (ps ++ p ∷ []) → IsCount p.count
last_count limit ps p given = (
  (last_piece 0 limit ps p given.table).1,
  subst (λ (q : Piece). q.count ≤ 2 ^ 47) (get_or-append_seam ps p [] p) (given.counts (length ps) p (omega (arith, length-append ps (p ∷ [])))),
)

pub total_push : (ps : List Piece) (p : Piece) → total (ps ++ p ∷ []) ≡ total ps + p.count
total_push [] p = omega arith
total_push (q ∷ qs) p = omega (arith, total_push qs p)

pub costs_push : (version : ℕ) (ps : List Piece) (p : Piece) → costs version (ps ++ p ∷ []) ≡ costs version ps + cost version p.count
costs_push version [] p = omega arith
costs_push version (q ∷ qs) p = omega (arith, costs_push version qs p)

pub width_from : (s : Numbers) (level wide : ℕ) → IsValid s → level ≤ s.levels → wide ≡ width s level → (8 ≤ wide) × (wide ≤ 58)
width_from s level wide valid within is =
    let bits = quotient_bits_by_zeros s level valid within in
    (omega (arith, is, bits.0, bits.1, valid.limits.cone_bits_to), omega (arith, is, bits.0, bits.1))

pub stands_take : (long : Option Long) (place width number limit : ℕ) (put : List Piece) (p : Piece) (file : List ℕ) (ends outlet : Outlet) (old new : Block) →
    AscendsFrom 0 limit (put ++ p ∷ []) → quotient_of width p / 64 ≡ number → ((l : Long) → long ≡ Some l → 0 < old.len) →
    ((block skip limit : ℕ) (pieces : List Piece) → IsFilled width block skip pieces old → IsNext width block limit pieces p → IsFilled width block skip (pieces ++ p ∷ []) new) →
    IsBehind long place (blocks_text width 0 number put) width number (pieces_in width number put) file ends outlet old →
    IsBehind long place (blocks_text width 0 number (put ++ p ∷ [])) width number (pieces_in width number (put ++ p ∷ [])) file ends outlet new
stands_take long place width number limit put p file ends outlet old new up here some fills behind =
    let pieces = pieces_in width number put in
    let high = 64 * (number + 1) * 2 ^ width in
    let more : pieces_in width number (put ++ p ∷ []) ≡ pieces ++ p ∷ [] = pieces_in-here width number p put here in
    let text : blocks_text width 0 number (put ++ p ∷ []) ≡ blocks_text width 0 number put = blocks_text-kept width 0 number put p (omega (arith, here)) in
    let table = subst (λ (ps : List Piece). AscendsFrom 0 high ps) more (in_block-ascend width number 0 limit (put ++ p ∷ []) up) in
    subst (λ (bytes : List ℕ). IsBehind long place bytes width number (pieces_in width number (put ++ p ∷ [])) file ends outlet new) (sym text)
    (subst (λ (ps : List Piece). IsBehind long place (blocks_text width 0 number put) width number ps file ends outlet new) (sym more)
    (behind_take long place (blocks_text width 0 number put) width number high pieces p file ends outlet old new
    (in_block-ascend width number 0 limit put (ascends_front 0 limit put (p ∷ []) up)) some
    (λ skip filled. fills number skip high pieces filled (record { here = here; table = table })) behind))

pub passed_next : (width number : ℕ) (put : List Piece) → AscendsFrom 0 (64 * (number + 1) * 2 ^ width) put → AscendsFrom 0 (64 * (number + 1 + 1) * 2 ^ width) put
passed_next width number put up =
    ascends_below 0 (64 * (number + 1) * 2 ^ width) (64 * (number + 1 + 1) * 2 ^ width) put
    (mul-le-mul_right (2 ^ width) (let more : 64 * (number + 1) ≤ 64 * (number + 1 + 1) = omega arith in more)) up

pub stands_next : (place width number : ℕ) (put : List Piece) (file : List ℕ) (ends outlet : Outlet) (block : Block) → AscendsFrom 0 (64 * (number + 1) * 2 ^ width) put →
    IsOut place (blocks_text width 0 number put ++ block_text width number (pieces_in width number put)) file outlet → IsFilled width (number + 1) 0 [] block →
    IsBehind None place (blocks_text width 0 (number + 1) put) width (number + 1) (pieces_in width (number + 1) put) file ends outlet block
stands_next place width number put file ends outlet block passed out filled =
    behind_none place (blocks_text width 0 (number + 1) put) width (number + 1) (pieces_in width (number + 1) put) file ends outlet block
    (subst (λ (bytes : List ℕ). IsOut place bytes file outlet) (sym (blocks_text-next width number put)) out)
    (subst (λ (ps : List Piece). IsFilled width (number + 1) 0 ps block) (sym (pieces_in-past width (number + 1) 0 put passed)) filled)

-- an empty block becomes a long one
pub behind_long : (long : Option Long) (l : Long) (place : ℕ) (text : List ℕ) (width number : ℕ) (pieces : List Piece) (file : List ℕ) (flushed ends outlet : Outlet) (block : Block) →
    IsOut place text file flushed → flushed.len ≡ 0 → l.begin ≡ next_place flushed → IsSpilt width number pieces l file ends outlet block →
    IsBehind (Some l) place text width number pieces file ends outlet block
behind_long long l place text width number pieces file flushed ends outlet block out none begin spilt =
    let whole = out_whole place text file flushed out none in
    let at : l.begin ≡ place + length text =
    omega (arith, begin, none, out.at_is, ap length out.text_is, length-append out.gone (unwritten flushed), length-take flushed.len flushed.bytes.items) in
    behind_some l place text width number pieces file ends outlet block spilt (ap (part file place) at ∙ whole) at

pub given_none : (limit : ℕ) → AreGiven limit []
given_none limit = record { table = tt; counts = λ k d below. absurd (omega (arith, below)) }
