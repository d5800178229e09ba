use Rattle.lert_bay.specs.Kept.{seen_by}
use Rattle.std.{proofs.Common.{◌≡◌, ◌≢◌, ℕ, ◌<◌, ◌≤◌, ◌+◌, ◌*◌, ◌^◌, List, [], length, drop, refl, sym, subst, arith}, proofs.lemmas.List.{drop_all, take_all}}
use Rattle.lert_frames.{specs.Steps.Steps, proofs.OrderLaws.here, proofs.WriteLaws.on_err}
use Rattle.lert_spec.specs.declared.piece.Piece.{Piece}
use Rattle.lert_frames.proofs.decoder.Decoder.step.Goals as goal

-- no piece is put
none_put : (items : List Piece) → drop (length items) items ≡ []
none_put items = drop_all (length items) items (here (length items))

some_ahead : (some blocks : ℕ) → some ≡ 0 → 0 < some + 2 ^ 33 * blocks → 1 ≤ blocks
some_ahead some blocks none more = omega (arith, none, more)

some_now : (some : ℕ) → some ≢ 0 → 0 < some
some_now some is = omega (arith, is)

pub returns-then-self-eq0 : goal.returns-then-self-eq0
returns-then-self-eq0 g c =
    let items = c.args.pieces.now.items in
    record {
      steps = subst (λ (put : List Piece). Steps (seen_by g.B.Faulty g.B.Bay) c.args.bay.now c.begin.new.bay c.args.self.now c.begin.new.self put c.begin.result)
          (sym (none_put items)) c.begin.ensures;
      kept = take_all (length items) items (here (length items));
      none = on_err _ c.begin.result refl;
      few = omega arith;
      capacity = refl;
    }

pub returns-else-self-eq0 : goal.returns-else-self-eq0
returns-else-self-eq0 g c = c.word.ensures

pub begin-requires : goal.begin-requires
begin-requires g c = record { decoded = c.if-self-eq0.true; more = some_ahead c.args.self.now.block.some c.args.self.now.ahead.blocks c.if-self-eq0.true c.requires.more }

pub word-requires : goal.word-requires
word-requires g c = record { some = some_now c.args.self.now.block.some c.if-self-eq0.false; room = c.requires.room }
