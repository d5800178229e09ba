use Rattle.std.proofs.Common.{◌≡◌, ℕ, ◌<◌, ◌⊎◌, inl, inr, Bool, false, List, [], length, drop, ◌∙◌, ap, sym, refl, Some, arith, length-drop}
use Rattle.std.{proofs.lemmas.Bool.true≢false, specs.Bool.IsTrue}
use Rattle.lert_spec.specs.declared.piece.Piece.{Piece}
use Rattle.lert_frames.{specs.Decoded.work_of, proofs.AdvanceLaws.left_unsummed}
use Rattle.lert_frames.proofs.FaultLaws.{not_err, not_failed}
use Rattle.lert_frames.proofs.reader.FrameReader.judge.Goals as goal

pub returns-then-is_reached-clause-over : goal.returns-then-is_reached-clause-over
returns-then-is_reached-clause-over c none = record {
  fault = c.requires.fault;
  sum = c.is_reached.ensures.yes c.if-is_reached.true;
  found = c.is_done.ensures.done c.if-not-is_done.false;
  end = c.is_done.ensures.end c.if-not-is_done.false;
}

-- ---- where the counts don't reach the width

pub returns-clause-to_come : goal.returns-clause-to_come
returns-clause-to_come c file =
    let self = c.args.self.now in
    let left = left_unsummed self.version self.sum self.place _ self.fault c.requires.fault (c.is_reached.ensures.no c.if-is_reached.false) (c.is_done.ensures.done c.if-not-is_done.false file) in
    record { left = sym left; pieces = λ whole. absurd (let wrong = sym left ∙ whole in cc) }

pub returns-clause-malformed : goal.returns-clause-malformed
returns-clause-malformed c file at is =
    let self = c.args.self.now in
    left_unsummed self.version self.sum self.place _ self.fault c.requires.fault (c.is_reached.ensures.no c.if-is_reached.false) (c.is_done.ensures.done c.if-not-is_done.false file)
    ∙ ap Some (let same : self.place ≡ at = cc in same)

-- ---- where the decoder isn't done, enough are ready

still_ready : (given : ℕ) (pieces : List Piece) (work : ℕ) (done : Bool) → given ≡ 0 → (64 < length pieces) ⊎ (work ≡ 0) → (work ≡ 0 → IsTrue done) →
    done ≡ false → drop given pieces ≡ [] → ⊥
still_ready given pieces work done front (inl many) tells more none = omega (arith, ap length none, length-drop given pieces, front, many)
still_ready given pieces work done front (inr all) tells more none = true≢false (sym (tells all) ∙ more)

pub returns-then-not-is_done : goal.returns-then-not-is_done
returns-then-not-is_done c =
    let r = c.args.self.now in
    record {
      frame = record { settings = refl; version = refl; level = refl; place = refl; wide = refl; gave = refl };
      to_come = λ file. record { left = refl; pieces = λ _. refl };
      malformed = λ file at is. absurd (not_err _ _ is);
      failed = λ is. not_err _ _ is;
      over = λ none. absurd (still_ready r.given r.pieces.items (work_of r.decoder) c.is_done.result c.requires.given c.requires.enough
          c.is_done.ensures.more.1 c.if-not-is_done.true none);
      within = λ file is. is;
    }

pub returns-clause-failed : goal.returns-clause-failed
returns-clause-failed c is = not_failed c.args.self.now.place _ refl is
