use Rattle.std.proofs.Common.{◌≡◌, ℕ, ◌≤◌, ◌+◌, ◌^◌, ◌∙◌, All, Err, List, ◌++◌, drop, take, length, length-take, ap, ap₂, sym, subst, refl, arith}
use Rattle.lert_bay.specs.declared.bay.TheConstants.{FRAMES}
use Rattle.lert_blocks.specs.Walk.{Found}
use Rattle.lert_spec.specs.declared.piece.Piece.{Piece}
use Rattle.lert_frames.{specs.Decoded.decoder_found, specs.Reading.verdict, specs.ToCome.known_or}
use Rattle.lert_frames.{proofs.AdvanceLaws.{left_stopped, left_broken, reading_stopped, less_behind, kept_behind, left_on, pieces_on, reading_on}, proofs.FaultLaws.not_err}
use Rattle.lert_frames.proofs.reader.FrameReader.advance.Goals as goal

-- ---- what calls want

room_for : (count capacity : ℕ) → count ≤ 64 → capacity ≡ 128 → count + 64 ≤ capacity
room_for count capacity few is = omega (arith, few, is)

kept_within : (before items : List Piece) → take (length before) items ≡ before → length before ≤ length items
kept_within before items kept = omega (arith, ap (λ (xs : List Piece). length xs) kept, length-take (length before) items)

pub step-requires : goal.step-requires
step-requires g c = record { more = c.requires.more; room = room_for _ _ c.requires.few c.args.self.now.reading.room }

pub settle-self-requires : goal.settle-self-requires
settle-self-requires g c =
    let items = c.args.self.now.pieces.items in
    let e = c.in-Ok.ensures in
    let from_is : length items ≡ c.len-before.result = omega arith in
    record {
      from = subst (λ n. n ≤ length c.step.new.pieces.items) from_is (kept_within items c.step.new.pieces.items e.kept);
      few = subst (λ n. length c.step.new.pieces.items ≤ n + 64) from_is e.few;
      counts = subst (λ n. All (λ (piece : Piece). piece.count ≤ 2 ^ 47) (drop n c.step.new.pieces.items)) from_is e.steps.counts;
    }

-- ---- a step that stops

pub invariant_of-self-in-Err : goal.invariant_of-self-in-Err
invariant_of-self-in-Err g c =
    let self = c.args.self.now in
    let e = c.in-Err.ensures in
    record {
      reading = reading_stopped self.settings self.version self.level self.place self.wide self.sum self.decoder _ self.pieces.items _ _ _ self.given self.gave self.reading
          e.none e.steps.floor e.steps.limit e.steps.bounded e.capacity e.steps.between;
    }

pub returns-in-Err : goal.returns-in-Err
returns-in-Err g c =
    let self = c.args.self.now in
    let e = c.in-Err.ensures in
    record {
      frame = record { settings = refl; version = refl; level = refl; place = refl; wide = refl; gave = refl };
      to_come = λ seen told.
          let file = seen FRAMES in
          record {
            left = left_stopped self.version self.sum self.place (decoder_found self.decoder file) (decoder_found c.step.new.self file) self.fault c.place_in-self.result c.in-Err.fault
                c.requires.fault (e.steps.refused seen told) (λ at is. (e.steps.malformed seen told at (ap Err is), c.place_in-self.ensures.malformed at is)) c.place_in-self.ensures.failed;
            pieces = λ _. ap₂ (λ items (found : Found). drop self.given items ++ found.pieces) e.none (e.steps.refused seen told);
          };
      malformed = λ seen told at is. left_broken self.version self.sum self.place at (decoder_found self.decoder (seen FRAMES)) self.fault c.requires.fault (e.steps.malformed seen told at is);
      given = refl;
      fault = tt;
      work = tt;
      within = λ seen told within. tt;
      only_reads = e.steps.only_reads;
    }

-- ---- a step that gives pieces

pub invariant_of-self : goal.invariant_of-self
invariant_of-self g c =
    let self = c.args.self.now in
    let e = c.in-Ok.ensures in
    let put : List Piece = drop (length self.pieces.items) c.step.new.pieces.items in
    let from_is : c.len-before.result ≡ length self.pieces.items = omega arith in
    let less_is = less_behind self.version self.sum c.settle-self.result c.len-before.result (length self.pieces.items) c.step.new.pieces.items from_is c.settle-self.ensures.sum in
    let items_are = kept_behind c.settle-self.result c.len-before.result self.pieces.items c.step.new.pieces.items c.settle-self.new.pieces.items from_is e.kept c.settle-self.ensures.kept in
    record {
      reading = reading_on self.settings self.version self.level self.place self.wide self.sum c.settle-self.result self.decoder c.step.new.self self.pieces.items put c.settle-self.new.pieces.items
          _ _ self.given self.gave self.reading less_is items_are
          e.steps.ascend e.steps.counts e.steps.floor e.steps.limit e.steps.bounded (c.settle-self.ensures.capacity ∙ e.capacity) e.steps.between;
    }

pub returns-in-Ok : goal.returns-in-Ok
returns-in-Ok g c =
    let self = c.args.self.now in
    let e = c.in-Ok.ensures in
    let put : List Piece = drop (length self.pieces.items) c.step.new.pieces.items in
    let from_is : c.len-before.result ≡ length self.pieces.items = omega arith in
    let less_is = less_behind self.version self.sum c.settle-self.result c.len-before.result (length self.pieces.items) c.step.new.pieces.items from_is c.settle-self.ensures.sum in
    let items_are = kept_behind c.settle-self.result c.len-before.result self.pieces.items c.step.new.pieces.items c.settle-self.new.pieces.items from_is e.kept c.settle-self.ensures.kept in
    record {
      frame = record { settings = refl; version = refl; level = refl; place = refl; wide = refl; gave = refl };
      to_come = λ seen told.
          let file = seen FRAMES in
          let gives = e.steps.gives seen told in
          let left : verdict self.version c.settle-self.result self.place (decoder_found c.step.new.self file) ≡ verdict self.version self.sum self.place (decoder_found self.decoder file) =
          left_on self.version self.sum c.settle-self.result self.place put (decoder_found self.decoder file) (decoder_found c.step.new.self file) less_is gives in
          record {
            left = ap (known_or self.fault) left;
            pieces = λ whole. pieces_on self.version c.settle-self.result self.place self.given c.settle-self.new.pieces.items self.pieces.items put
                (decoder_found self.decoder file) (decoder_found c.step.new.self file) items_are self.reading.within
                (left ∙ (sym (ap (λ k. known_or k (verdict self.version self.sum self.place (decoder_found self.decoder file))) c.requires.fault) ∙ whole)) gives;
          };
      malformed = λ seen told at is. absurd (not_err _ _ is);
      given = refl;
      fault = c.requires.fault;
      work = e.steps.work;
      within = λ seen told within. record {
        read = e.steps.read seen told self.place within.from within.read;
        from = omega (arith, e.steps.moves, within.from);
        end = e.steps.end seen told ∙ within.end;
      };
      only_reads = e.steps.only_reads;
    }
