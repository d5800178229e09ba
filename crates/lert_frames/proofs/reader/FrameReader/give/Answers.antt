use Rattle.std.{proofs.Common.{◌≡◌, ◌+◌, ◌<◌, ◌++◌, List, length, drop, refl, subst, arith}, proofs.lemmas.List.drop_all}
use Rattle.lert_spec.{specs.declared.piece.Piece.Piece, specs.Table.AreGiven}
use Rattle.lert_frames.{specs.Decoded.decoder_floor, specs.Reading.SumsUp, proofs.GiveLaws.{ready_is, same_pieces}}
use Rattle.lert_frames.proofs.reader.FrameReader.give.Goals as goal

-- ---- none is ready

pub returns-then-self-len : goal.returns-then-self-len
returns-then-self-len c =
    let r = c.args.self.now in
    let none = drop_all r.given r.pieces.items (omega (arith, c.if-self-len.true, c.len.ensures, r.pieces.ok.0)) in
    record { settings = refl; version = refl; level = refl; place = refl; wide = refl; sum = refl; decoder = refl; fault = refl; given = (none, none, refl) }

-- ---- one is

one_ready : (c : goal.After-push) → c.args.self.now.given < length c.args.self.now.pieces.items
one_ready c = omega (arith, c.if-self-len.false, c.len.ensures, c.args.self.now.pieces.ok.0)

pub invariant_of-self : goal.invariant_of-self
invariant_of-self c =
    let r = c.args.self.now in
    let is = r.reading in
    let same : r.gave ++ drop r.given r.pieces.items ≡ c.push.new.self ++ drop (r.given + 1) r.pieces.items =
    same_pieces r.pieces.items r.given c.index.result.now (one_ready c) c.index.ensures r.gave c.push.new.self c.push.ensures in
    record {
      reading = record {
        valid = is.valid;
        known = is.known;
        first = is.first;
        last = is.last;
        decoded = subst (AreGiven (decoder_floor r.decoder)) same is.decoded;
        limit = is.limit;
        below = is.below;
        sums = subst (λ (pieces : List Piece). SumsUp r.version r.wide pieces r.sum) same is.sums;
        within = omega (arith, one_ready c);
        room = is.room;
        stands = is.stands;
      };
    }

pub returns : goal.returns
returns c =
    let r = c.args.self.now in
    let within : r.given < length r.pieces.items = omega (arith, c.if-self-len.false, c.len.ensures, r.pieces.ok.0) in
    record {
      settings = refl;
      version = refl;
      level = refl;
      place = refl;
      wide = refl;
      sum = refl;
      decoder = refl;
      fault = refl;
      given = (ready_is r.pieces.items r.given c.index.result.now within c.index.ensures, c.push.ensures);
    }
