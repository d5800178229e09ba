use Rattle.lert_bay.specs.Kept.{seen_by}
use Rattle.std.{proofs.Common.{◌≡◌, ◌∙◌, ℕ, ◌+◌, ◌≤◌, ◌<◌, Bool, false, inl, inr, refl, sym, arith}, specs.Bool.IsTrue, proofs.lemmas.Bool.{cases_lt, false≢true, true≢false}}
use Rattle.lert_frames.{proofs.ProceedLaws.{proceeds_none, stays_none}}
use Rattle.lert_frames.proofs.writer.FrameWriter.make_room.Goals as goal

pub returns-then-has_room-clause-proceeds : goal.returns-then-has_room-clause-proceeds
returns-then-has_room-clause-proceeds g c =
    let w = c.args.self.now in
    proceeds_none (seen_by g.B.Faulty g.B.Bay) g.met.B.Bay.only_now
    (record { settings = refl; version = refl; level = refl; frame = refl; width = refl; place = refl; put = refl; left = refl }) (λ e. absurd (false≢true e))

pub returns-then-has_room-clause-stays : goal.returns-then-has_room-clause-stays
returns-then-has_room-clause-stays g c = stays_none (seen_by g.B.Faulty g.B.Bay) c.args.self.now c.args.bay.now

-- a block without room has slots
filled : (len : ℕ) (room : Bool) → (len + 9 ≤ 512 → IsTrue room) → room ≡ false → 0 < len
filled len room tells none = elim (cases_lt 0 len) [
  | inl some ↦ some
  | inr empty ↦ absurd (true≢false (sym (tells (omega (arith, empty))) ∙ none))
]

pub spill-requires : goal.spill-requires
spill-requires g c = filled c.args.self.now.block.len c.has_room.result c.has_room.ensures.1 c.if-has_room.false

pub returns : goal.returns
returns g c = let spilt = c.spill.ensures in record { proceeds = spilt.proceeds; stays = spilt.stays; number = spilt.number; room = spilt.room }
