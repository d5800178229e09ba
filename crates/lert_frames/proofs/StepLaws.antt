-- What a step of a decoder leaves, by what its parts leave.
use Rattle.std.proofs.Common.{◌≡◌, ℕ, ◌+◌, ◌-◌, ◌*◌, ◌^◌, ◌<◌, ◌≤◌, List, [], length, drop, Some, None, Ok, Err, refl, sym, ap, ◌∙◌, subst, arith, pow_pos}
use Rattle.std.{specs.Prelude.{IsErrOf, OnErr, OnOk, Result}, proofs.lemmas.List.Elements.All-nil, proofs.Math.Nat.le-mul_of_pos_right}
use Rattle.lert_base.{specs.declared.pieces.PieceFault.PieceFault, specs.declared.pieces.PieceFault.TheVariants.{Failed, Malformed}}
use Rattle.lert_bay.{specs.declared.bay.TheConstants.FRAMES, specs.Files.Files, specs.Kept.{Bays, OnlyReads}}
use Rattle.lert_blocks.{specs.Frame.{words_in, blocks_found, head_left}, specs.Text.word_count, specs.Walk.{Found, behind, nothing}}
use Rattle.lert_spec.{specs.declared.piece.Piece.Piece, specs.Table.AscendsFrom}
use Rattle.lert_frames.{specs.declared.decoder.Ahead.Ahead, specs.declared.decoder.Decoder.Decoder, specs.declared.decoder.Present.Present, specs.declared.fields.Head.Head}
use Rattle.lert_frames.{specs.declared.window.Window.Window, specs.Decoded.{decoder_found, decoder_floor, decoder_limit, decoder_end, work_of, found_by, end_by, floor_by}}
use Rattle.lert_frames.{specs.Steps.{AreFields, AreWords, IsFitting, Passes, ReadsAhead, Steps, fields_len, run_ends_left}, specs.Window.{place_of, to_come}}
use Rattle.lert_frames.{proofs.DecodedLaws.{given, found_ahead, fields_left, begin_gives, begin_end}, proofs.FaultLaws.not_err, proofs.FieldLaws.{head_fits, end_of}}
use Rattle.lert_frames.{proofs.FloorLaws.{bounded_by_limit, floor_none, floor_from_first}, proofs.StandsLaws.{between_begun, between_still}}

-- nothing of a block is to come, so none of it is decoded
none_from : (d : Decoder) → d.block.some ≡ 0 → d.block.from ≡ 0
none_from d none = omega (arith, d.standing.from, none)

module _ {B : Type 0} (bays : Bays B) (before after : B) (old new : Decoder) (same_width : new.width ≡ old.width) where
  -- a step that answers an error leaves all that is to come as it was
  pub steps_refused : (put : List Piece) (fault : PieceFault) → new.block ≡ old.block → new.ahead ≡ old.ahead → ReadsAhead bays before old.window new.window →
      (0 < old.block.some → place_of new.ends ≡ place_of old.ends) →
      ((seen : Files) → bays.files before ≡ Some seen → decoder_found new (seen FRAMES) ≡ decoder_found old (seen FRAMES)) →
      ((seen : Files) → bays.files before ≡ Some seen → (at : ℕ) → fault ≡ Malformed at → (decoder_found old (seen FRAMES)).left ≡ Some at) →
      OnlyReads bays before after (IsErrOf {T = Unit {0}} {E = PieceFault} (Err fault) Failed) → Steps bays before after old new put (Err fault)
  steps_refused put fault same_block same_ahead window ends found left only = record {
    gives = λ seen told. tt;
    malformed = λ seen told at is. left seen told at (let e : fault ≡ Malformed at = cc in e);
    refused = found;
    ascend = tt;
    counts = tt;
    floor = (let e : floor_by old.width old.block old.ahead ≡ floor_by new.width new.block new.ahead = λ i. floor_by (sym same_width i) (sym same_block i) (sym same_ahead i) in omega (arith, e));
    limit = λ i. 64 * ((same_ahead i).next + (same_ahead i).blocks) * 2 ^ same_width i;
    bounded = bounded_by_limit new;
    work = tt;
    stays = λ i. (same_block i).some + 2 ^ 33 * (same_ahead i).blocks;
    read = λ seen told from near is. window.read seen told from (omega (arith, near, end_of old.window)) is;
    moves = omega (arith, window.place);
    between = λ place end is. between_still place end old new is same_block same_ahead window.place ends;
    end = λ seen told. tt;
    only_reads = only;
  }

  -- the same is found while a block isn't begun
  pub found_unbegun : (file : List ℕ) → old.block.some ≡ 0 → new.block ≡ old.block → new.ahead ≡ old.ahead → place_of new.window ≡ place_of old.window →
      to_come new.window file ≡ to_come old.window file → decoder_found new file ≡ decoder_found old file
  found_unbegun file none same_block same_ahead place come =
      let none_new : new.block.some ≡ 0 = ap (λ (b : Present). b.some) same_block ∙ none in
      found_ahead new.width (place_of new.window) (length file) new.block new.ahead (to_come new.ends file) (to_come new.window file) none_new (none_from new none_new)
      ∙ ((λ i. blocks_found (same_ahead i).blocks (same_width i) (same_ahead i).next (same_ahead i).most (place i) (length file) (come i))
      ∙ sym (found_ahead old.width (place_of old.window) (length file) old.block old.ahead (to_come old.ends file) (to_come old.window file) none (none_from old none)))

  module _ (none : old.block.some ≡ 0) (some : 1 ≤ old.ahead.blocks) where
    -- the fields of a block that isn't begun leave the text
    pub unbegun_left : (file : List ℕ) (at : ℕ) → head_left old.ahead.most (place_of old.window) (length file) (to_come old.window file) ≡ Some at →
        (decoder_found old file).left ≡ Some at
    unbegun_left file at is =
        fields_left old.width (place_of old.window) (length file) old.block old.ahead (to_come old.ends file) (to_come old.window file) none (none_from old none) some at is

    -- a step that leaves it unbegun
    pub steps_unbegun : (fault : PieceFault) → new.block ≡ old.block → new.ahead ≡ old.ahead → ReadsAhead bays before old.window new.window →
        ((seen : Files) → bays.files before ≡ Some seen → (at : ℕ) → fault ≡ Malformed at →
        head_left old.ahead.most (place_of old.window) (length (seen FRAMES)) (to_come old.window (seen FRAMES)) ≡ Some at) →
        OnlyReads bays before after (IsErrOf {T = Unit {0}} {E = PieceFault} (Err fault) Failed) → Steps bays before after old new [] (Err fault)
    steps_unbegun fault same_block same_ahead window left only =
        steps_refused [] fault same_block same_ahead window (λ more. absurd (omega (arith, more, none)))
        (λ seen told. found_unbegun (seen FRAMES) none same_block same_ahead window.place (window.come seen told))
        (λ seen told at is. unbegun_left (seen FRAMES) at (left seen told at is))
        only

    -- a block is begun
    pub steps_begun : (head : Head) → new.block ≡ record { first = 64 * old.ahead.next; some = head.count; from = 0; walk = record { occupied = head.occupied; least = 0 } } →
        new.ahead ≡ record { next = old.ahead.next + 1; blocks = old.ahead.blocks - 1; most = old.ahead.most - head.count } → head.count < 2 ^ 32 →
        IsFitting old.ahead.most head → Passes bays before (fields_len head) old.window new.window → place_of new.ends ≡ place_of old.window + 12 →
        ((seen : Files) → bays.files before ≡ Some seen → AreFields head (to_come old.window (seen FRAMES))) →
        ((seen : Files) → bays.files before ≡ Some seen → run_ends_left (place_of old.window) (length (seen FRAMES)) (to_come old.window (seen FRAMES)) ≡ None) →
        ((seen : Files) → bays.files before ≡ Some seen → AreWords (words_in (to_come old.window (seen FRAMES))) (word_count head.count) (to_come new.ends (seen FRAMES))) →
        OnlyReads bays before after (IsErrOf {T = Unit {0}} {E = PieceFault} (Ok tt) Failed) → Steps bays before after old new [] (Ok tt)
    steps_begun head block_is ahead_is count_fits fits passes ends are agree words only = record {
      gives = λ seen told.
          let file = seen FRAMES in
          begin_gives old.width (place_of old.window) (length file) old.block old.ahead (to_come old.ends file) (to_come old.window file) none (none_from old none) some head
          (to_come new.ends file) (are seen told)
          (head_fits old.ahead.most (place_of old.window) (length file) head (to_come old.window file) (are seen told) fits ∙ agree seen told) (words seen told)
          ∙ (λ i. behind (given []) (found_by (sym same_width i) (sym block_is i) (sym ahead_is i) (sym passes.place i) (length file) (to_come new.ends file) (sym (passes.come seen told) i)));
      malformed = λ seen told at is. absurd (not_err _ _ is);
      refused = λ seen told. tt;
      ascend = tt;
      counts = All-nil (λ (piece : Piece). piece.count ≤ 2 ^ 47);
      floor =
          let before_is = floor_none old.width old.block old.ahead none in
          let wide : 64 * old.ahead.next * 2 ^ new.width ≡ 64 * old.ahead.next * 2 ^ old.width = ap (λ n. 64 * old.ahead.next * 2 ^ n) same_width in
          let next : new.ahead.next ≡ old.ahead.next + 1 = ap (λ (a : Ahead). a.next) ahead_is in
          let first : new.block.first ≡ 64 * old.ahead.next = ap (λ (b : Present). b.first) block_is in
          let low = floor_from_first new.width new.block new.ahead (64 * old.ahead.next) (λ is. omega (arith, next)) (λ is. omega (arith, first)) in
          omega (arith, before_is, wide, low);
      limit =
          let sum : new.ahead.next + new.ahead.blocks ≡ old.ahead.next + old.ahead.blocks = omega (arith, ap (λ (a : Ahead). a.next + a.blocks) ahead_is, some) in
          λ i. 64 * sum i * 2 ^ same_width i;
      bounded = bounded_by_limit new;
      work = (let done : new.block.some ≡ head.count = ap (λ (b : Present). b.some) block_is in
          let left : new.ahead.blocks ≡ old.ahead.blocks - 1 = ap (λ (a : Ahead). a.blocks) ahead_is in omega (arith, done, left, count_fits, some));
      stays = tt;
      read = passes.read;
      moves = omega (arith, passes.place);
      between = λ place end is. between_begun place end old new is head _ _ block_is ahead_is refl refl refl some fits.within passes.place ends;
      end = λ seen told.
          let file = seen FRAMES in
          (λ i. end_by (block_is i) (ahead_is i) (passes.place i) (passes.come seen told i))
          ∙ begin_end old.width (place_of old.window) (length file) old.block old.ahead (to_come old.ends file) (to_come old.window file) none (none_from old none) some head
          (to_come new.ends file) (are seen told)
          (head_fits old.ahead.most (place_of old.window) (length file) head (to_come old.window file) (are seen told) fits ∙ agree seen told) (words seen told);
      only_reads = only;
    }

-- where no block is left, nothing is to come
pub found_done : (d : Decoder) (file : List ℕ) → d.block.some ≡ 0 → d.ahead.blocks ≡ 0 → decoder_found d file ≡ nothing
found_done d file none all =
    found_ahead d.width (place_of d.window) (length file) d.block d.ahead (to_come d.ends file) (to_come d.window file) none (none_from d none)
    ∙ ap (λ n. blocks_found n d.width d.ahead.next d.ahead.most (place_of d.window) (length file) (to_come d.window file)) all

-- a frame that is begun
pub found_started : (width place blocks most : ℕ) (block : Present) (ahead : Ahead) (window ends : Window) (file : List ℕ) → block.some ≡ 0 → block.from ≡ 0 →
    ahead ≡ record { next = 0; blocks = blocks; most = most } → place_of window ≡ place → to_come window file ≡ drop place file →
    found_by width block ahead (place_of window) (length file) (to_come ends file) (to_come window file) ≡ blocks_found blocks width 0 most place (length file) (drop place file)
found_started width place blocks most block ahead window ends file none from ahead_is place_is come =
    found_ahead width (place_of window) (length file) block ahead (to_come ends file) (to_come window file) none from
    ∙ (λ i. blocks_found (ahead_is i).blocks width (ahead_is i).next (ahead_is i).most (place_is i) (length file) (come i))

-- the next block's quotients fit a word
pub next_fits : (d : Decoder) → 1 ≤ d.ahead.blocks → 64 * d.ahead.next < 2 ^ 64
next_fits d some =
    let all = 64 * (d.ahead.next + d.ahead.blocks) in
    let more : all ≤ all * 2 ^ d.width = le-mul_of_pos_right all (pow_pos d.width) in
    omega (arith, more, d.standing.tails, some)

-- a step behind calls that read ahead
pub steps_since : {B : Type 0} (bays : Bays B) (before after : B) (old middle new : Decoder) (put : List Piece) (result : Result (Unit {0}) PieceFault) →
    middle.width ≡ old.width → middle.block ≡ old.block → middle.ahead ≡ old.ahead → ReadsAhead bays before old.window middle.window → ReadsAhead bays before old.ends middle.ends →
    Steps bays before after middle new put result → Steps bays before after old new put result
steps_since bays before after old middle new put result width block ahead window ends step =
    let found = λ (seen : Files) (told : bays.files before ≡ Some seen).
    (let same : decoder_found middle (seen FRAMES) ≡ decoder_found old (seen FRAMES) =
    λ i. found_by (width i) (block i) (ahead i) (window.place i) (length (seen FRAMES)) (ends.come seen told i) (window.come seen told i) in same) in
    let floor : decoder_floor middle ≡ decoder_floor old = λ i. floor_by (width i) (block i) (ahead i) in
    let limit : decoder_limit middle ≡ decoder_limit old = λ i. 64 * ((ahead i).next + (ahead i).blocks) * 2 ^ width i in
    let work : work_of middle ≡ work_of old = λ i. (block i).some + 2 ^ 33 * (ahead i).blocks in
    record {
      gives = λ seen told. subst (λ (is : Found). OnOk result (is ≡ behind (given put) (decoder_found new (seen FRAMES)))) (found seen told) (step.gives seen told);
      malformed = λ seen told at is. ap (λ (f : Found). f.left) (sym (found seen told)) ∙ step.malformed seen told at is;
      refused = λ seen told. subst (λ (is : Found). OnErr result (decoder_found new (seen FRAMES) ≡ is)) (found seen told) (step.refused seen told);
      ascend = subst (λ n. OnOk result (AscendsFrom n (decoder_floor new) put)) floor step.ascend;
      counts = step.counts;
      floor = omega (arith, floor, step.floor);
      limit = step.limit ∙ limit;
      bounded = step.bounded;
      work = subst (λ n. OnOk result (work_of new < n)) work step.work;
      stays = subst (λ n. OnErr result (work_of new ≡ n)) work step.stays;
      read = λ seen told from near is. step.read seen told from (omega (arith, near, window.place)) (window.read seen told from (omega (arith, near, end_of old.window)) is);
      moves = omega (arith, step.moves, window.place);
      between = λ place end is. step.between place end (between_still place end old middle is block ahead window.place (λ _. ends.place));
      end = λ seen told.
          let end : decoder_end middle (seen FRAMES) ≡ decoder_end old (seen FRAMES) = λ i. end_by (block i) (ahead i) (window.place i) (window.come seen told i) in
          subst (λ n. OnOk result (decoder_end new (seen FRAMES) ≡ n)) end (step.end seen told);
      only_reads = step.only_reads;
    }
