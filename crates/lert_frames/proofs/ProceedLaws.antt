-- A writer's steps in turn.
use Rattle.std.proofs.Common.{◌≡◌, ℕ, ◌+◌, ◌≤◌, List, Some, sym, ◌∙◌, subst, arith}
use Rattle.lert_bay.{specs.declared.bay.TheConstants.FRAMES, specs.Files.Files, specs.Kept.Bays}
use Rattle.lert_frames.{specs.Calls.Writes, specs.Frame.HoldsFrame, specs.Kept.KeepsOutside, specs.Place.{frame_len, frame_place}, specs.Writing.{IsAt, SameFrame, Proceeds, Stays, end_of}}
use Rattle.lert_frames.{specs.declared.writer.FrameWriter.FrameWriter, proofs.CallLaws.{writes_none, writes_on, writes_as, told_then}, proofs.WithinLaws.within_outside}
use Rattle.lert_spec.{specs.declared.numbers.Numbers.Numbers, specs.declared.piece.Piece.Piece}

pub same_on : (a b c : FrameWriter) → SameFrame a b → SameFrame b c → SameFrame a c
same_on a b c one two = record {
  settings = two.settings ∙ one.settings;
  version = two.version ∙ one.version;
  level = two.level ∙ one.level;
  frame = two.frame ∙ one.frame;
  width = two.width ∙ one.width;
  place = two.place ∙ one.place;
  put = two.put ∙ one.put;
  left = two.left ∙ one.left;
}

pub same_end : (a b : FrameWriter) → SameFrame a b → end_of b ≡ end_of a
same_end a b same = λ i. same.place i + frame_len (same.settings i) (same.version i) (same.level i)

pub proceeds_none : {B : Type 0} (bays : Bays B) → ((bay : B) (image : Files) → bays.left_since bay (bays.moment bay) image → bays.leaves bay image) → {a b : FrameWriter} {x : B} {Failed : Type 0} →
    SameFrame a b → (Failed → ⊥) → Proceeds bays a b x x Failed
proceeds_none bays only_now same never = record { same = same; writes = writes_none bays only_now never }

pub proceeds_on : {B : Type 0} {bays : Bays B} → ((bay : B) (t u : ℕ) (image : Files) → t ≤ u → bays.left_since bay u image → bays.left_since bay t image) →
    {a b c : FrameWriter} {x y z : B} {First Failed : Type 0} → Proceeds bays a b x y First → Proceeds bays b c y z Failed → Proceeds bays a c x z Failed
proceeds_on {bays = bays} since_earlier {a} {b} {c} {x} {y} {z} {First} {Failed} one two = record {
  same = same_on a b c one.same two.same;
  writes = writes_on since_earlier one.writes
      (subst (λ end. Writes bays a.place end y z Failed) (same_end a b one.same) (subst (λ begin. Writes bays begin (end_of b) y z Failed) one.same.place two.writes));
}

pub proceeds_as : {B : Type 0} {bays : Bays B} {a b : FrameWriter} {x y : B} {First Failed : Type 0} → (Failed → First) → Proceeds bays a b x y First → Proceeds bays a b x y Failed
proceeds_as turned one = record { same = one.same; writes = writes_as turned one.writes }

pub stays_on : {B : Type 0} {bays : Bays B} {a b c : FrameWriter} {x y z : B} {First : Type 0} → Proceeds bays a b x y First → Stays bays a b x y → Stays bays b c y z → Stays bays a c x z
stays_on one first second seen told later told_later at =
    let mid = told_then one.writes.within told in
    second mid.0 mid.1 later told_later (first seen told mid.0 mid.1 at)

pub stays_none : {B : Type 0} (bays : Bays B) (a : FrameWriter) (x : B) → Stays bays a a x x
stays_none bays a x seen told later told_later at =
    let both : Some seen ≡ Some later = sym told ∙ told_later in
    let same : seen ≡ later = cc in
    subst (λ (files : Files). IsAt a (files FRAMES)) same at

module _ {B : Type 0} {bays : Bays B} {a b : FrameWriter} {x y : B} {Failed : Type 0} (one : Proceeds bays a b x y Failed) where
  -- the calls wrote into the frame's place
  pub frame_writes : Writes bays (frame_place a.settings a.version a.level a.frame) (frame_place a.settings a.version a.level a.frame + frame_len a.settings a.version a.level) x y Failed
  frame_writes = subst (λ p. Writes bays p (p + frame_len a.settings a.version a.level) x y Failed) a.growing.place_is one.writes

  pub frame_outside : (seen : Files) →
      KeepsOutside bays x y seen FRAMES (frame_place a.settings a.version a.level a.frame) (frame_place a.settings a.version a.level a.frame + frame_len a.settings a.version a.level)
  frame_outside seen =
      let place = frame_place a.settings a.version a.level a.frame in
      within_outside bays place (place + frame_len a.settings a.version a.level) (place + frame_len a.settings a.version a.level) x y seen (omega arith) (omega arith) frame_writes.within

-- the frame is the same one
pub holds_same : (a b : FrameWriter) (file : List ℕ) → SameFrame a b → HoldsFrame b.settings b.version b.level b.frame file b.put → HoldsFrame a.settings a.version a.level a.frame file a.put
holds_same a b file same holds =
    subst (λ (ps : List Piece). HoldsFrame a.settings a.version a.level a.frame file ps) same.put
    (subst (λ frame. HoldsFrame a.settings a.version a.level frame file b.put) same.frame
    (subst (λ level. HoldsFrame a.settings a.version level b.frame file b.put) same.level
    (subst (λ version. HoldsFrame a.settings version b.level b.frame file b.put) same.version
    (subst (λ (s : Numbers). HoldsFrame s b.version b.level b.frame file b.put) same.settings holds))))
