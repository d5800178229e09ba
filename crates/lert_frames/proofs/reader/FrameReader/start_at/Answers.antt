use Rattle.std.proofs.Common.{◌++◌, ◌∙◌, ap₂, arith}
use Rattle.lert_blocks.specs.Walk.{Found}
use Rattle.lert_frames.{specs.Decoded.decoder_floor, specs.Frame.judged, proofs.ReadingLaws.{given_none, sums_begun}}
use Rattle.lert_frames.proofs.reader.FrameReader.start_at.Goals as goal

pub invariant_of-self : goal.invariant_of-self
invariant_of-self c =
    let before = c.args.self.now.reading in
    record {
      reading = record {
        valid = before.valid;
        known = c.requires.version;
        first = c.requires.first;
        last = c.requires.last;
        decoded = given_none (decoder_floor c.begin-self.new.decoder) _ _ c.new.ensures c.clear.ensures.items;
        limit = c.begin-self.ensures.limit;
        below = omega (arith, c.begin-self.ensures.floor);
        sums = sums_begun c.args.version c.args.width _ _ c.new.ensures c.clear.ensures.items;
        within = omega arith;
        room = c.clear.ensures.capacity ∙ before.room;
        stands = c.begin-self.ensures.stands;
      };
    }

pub returns-clause-left : goal.returns-clause-left
returns-clause-left c file = ap₂ (judged c.args.version c.args.width c.args.width) c.begin-self.ensures.place (c.begin-self.ensures.found file)

pub returns-clause-pieces : goal.returns-clause-pieces
returns-clause-pieces c file = ap₂ (λ ready (found : Found). ready ++ found.pieces) c.clear.ensures.items (c.begin-self.ensures.found file)

pub returns-clause-within : goal.returns-clause-within
returns-clause-within c file = record { read = c.begin-self.ensures.read file; from = omega (arith, c.begin-self.ensures.from); end = c.begin-self.ensures.end file }
