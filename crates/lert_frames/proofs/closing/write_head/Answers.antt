use Rattle.std.proofs.Common.{◌≡◌, ◌+◌, ◌∙◌, List, ℕ, [], ◌++◌, length, take, drop, ap, ap₂, subst}
use Rattle.byteorder.specs.Endian.{little_bytes}
use Rattle.lert_bay.{specs.Settled.part, specs.declared.bay.TheConstants.FRAMES}
use Rattle.lert_frames.{proofs.CallLaws.both_ok, proofs.OutletLaws.out_whole}
use borrow.Rule.Slice.PartMut.{put_mid}
use Rattle.lert_frames.proofs.closing.write_head.Goals as goal

pub returns-clause-there : goal.returns-clause-there
returns-clause-there g c seen told later told_later =
    let first = c.write_u64.ensures in
    let second = c.write_u32.ensures in
    let head : put_mid 8 4 c.write_u64.new.buf c.write_u32.new.buf ≡ little_bytes 8 c.args.occupied ++ little_bytes 4 c.args.count =
    ap₂ (put_mid 8 4) first (second ∙ ap (λ (bytes : List ℕ). little_bytes 4 c.args.count ++ drop 4 (take 4 (drop 8 bytes))) first) in
    let put = c.put.ensures.out c.args.begin [] (seen FRAMES) (c.start.ensures.out (seen FRAMES)) in
    let out = c.flush.ensures.out seen told later told_later c.args.begin _ put in
    both_ok _ _ _ c.flush.result out c.flush.ensures.written (λ out none.
    subst (λ (bytes : List ℕ). part (later FRAMES) c.args.begin (c.args.begin + length bytes) ≡ bytes) head
    (out_whole c.args.begin (put_mid 8 4 c.write_u64.new.buf c.write_u32.new.buf) (later FRAMES) c.flush.new.self out none))
