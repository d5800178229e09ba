use Rattle.std.proofs.Common.{◌≡◌, ℕ, ◌+◌, ◌-◌, ◌≤◌, ◌<◌, ◌∙◌, ◌++◌, List, [], length, take, drop, ap, sym, subst, arith, append-nil, length-append, length-drop}
use Rattle.std.{proofs.lemmas.List.{drop_all, drop_at, take_at, length-take-le}, proofs.lemmas.List.Elements.All-from_get_or, proofs.lemmas.Result.IfOk-weaker}
use Rattle.lert_bay.{specs.Files.CopiesFrom, specs.declared.bay.TheConstants.{FRAMES, JOURNAL}, proofs.KeptLaws.{IsLawful, apart_from_frames, reads_call}}
use Rattle.lert_bay.specs.Kept.{seen_by}
use borrow.Rule.Slice.PartMut.{put_mid}
use Rattle.lert_frames.proofs.window.read_behind.Given as given
use Rattle.lert_frames.proofs.window.read_behind.Goals as goal

lawful : (g : given.Over) → IsLawful (seen_by g.B.Faulty g.B.Bay)
lawful g = record { as_read = g.met.B.Bay.as_read; since_now = g.met.B.Bay.since_now; only_now = g.met.B.Bay.only_now; since_earlier = g.met.B.Bay.since_earlier }

here : (from : ℕ) (old : List ℕ) → length (drop from old) ≤ length old - from
here from old = omega (arith, length-drop from old)

at_most : (from read new len : ℕ) → read ≤ new → from + new ≤ len → from + read ≤ len
at_most from read new len few within = omega (arith, few, within)

-- ---- the buffer, whose end was read over

module _ (from : ℕ) (old new : List ℕ) (within : from ≤ length old) where
  front_long : length (take from old) ≡ from
  front_long = length-take-le from old within

  none_left : drop (length old - from) (drop from old) ≡ []
  none_left = drop_all (length old - from) (drop from old) (here from old)

  end_is : drop from (put_mid from (length old - from) old new) ≡ new
  end_is = drop_at (take from old) (new ++ drop (length old - from) (drop from old)) from front_long ∙ (ap (λ (xs : List ℕ). new ++ xs) none_left ∙ append-nil new)

  long : from + length new ≤ length (put_mid from (length old - from) old new)
  long = omega (arith, length-append (take from old) (new ++ drop (length old - from) (drop from old)), length-append new (drop (length old - from) (drop from old)), front_long)

-- the file of frames is read, and no other
pub returns : goal.returns
returns g c =
    let read = c.read_at.ensures in
    let old = c.args.into.now in
    record {
      only_reads =
          reads_call _ (lawful g) c.args.bay.now c.read_at.new.self _ read.time read.cause.never_falls read.cause.failed read.mark read.seen read.images
          (read.handed.others JOURNAL apart_from_frames);
      front = take_at (take c.args.from old) (c.read_at.new.into ++ drop (length old - c.args.from) (drop c.args.from old)) c.args.from (front_long c.args.from old c.read_at.new.into c.requires);
      small =
          All-from_get_or (λ byte. byte < 256) (put_mid c.args.from (length old - c.args.from) old c.read_at.new.into) 0
          (λ k below. (c.type_inv.into k).fits);
      within = IfOk-weaker c.read_at.result _ _
          (λ read few. at_most c.args.from read (length c.read_at.new.into) _ few (long c.args.from c.args.into.now c.read_at.new.into c.requires)) c.read_at.ensures.within;
      told = λ seen told.
          IfOk-weaker c.read_at.result _ _
          (λ read copies. subst (λ (bytes : List ℕ). CopiesFrom c.args.at read bytes (seen FRAMES)) (sym (end_is c.args.from c.args.into.now c.read_at.new.into c.requires)) copies)
          (c.read_at.ensures.told seen told);
    }
