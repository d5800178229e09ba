-- The pending bytes of a window: those from one place of its block up to another.
use Rattle.std.proofs.Common.{◌≡◌, ℕ, ◌+◌, ◌-◌, ◌≤◌, List, [], ◌++◌, length, take, drop, Option, Some, None, refl, ap, sym, ◌∙◌, subst, arith, length-drop, length-append, append_assoc}
use Rattle.std.proofs.{Math.Seq.take-append-add, lemmas.List.{length-take-le, take-append-le, take-append-drop, take-take}, lemmas.Slice.{between_is, take-put_mid_below}}
use borrow.Rule.Slice.PartMut.{mid_of, put_mid, post_of, mid_len, same_len_mid}
use Rattle.lert_io.specs.Reading.{HandsOut}
use Rattle.lert_trace.specs.Window.{IsBlock, StillAhead}

pub length-pending : (block : List ℕ) (start end : ℕ) → IsBlock block start end → length (drop start (take end block)) ≡ end - start
length-pending block start end is =
    length-drop start (take end block) ∙ ap (λ n. n - start) (length-take-le end block (omega (arith, is.sized, is.within)))

-- a block whose part was copied to its front begins with that part
pub take-slid : (block other : List ℕ) (start end : ℕ) → start ≤ end → end ≤ length block →
    take (end - start) (take (end - start) (drop start block) ++ other) ≡ drop start (take end block)
take-slid block other start end ordered within =
    take-append-le (end - start) (take (end - start) (drop start block)) other
    (omega (arith, length-take-le (end - start) (drop start block) (omega (arith, length-drop start block))))
    ∙ take-take (end - start) (end - start) (drop start block) (omega arith)
    ∙ between_is block start end

-- after a read into the block behind `end` the bytes that it brought stand behind those pending
pub take-read : (block into : List ℕ) (end count rest : ℕ) → end ≤ length block → count ≤ length into →
    take (end + count) (put_mid end rest block into) ≡ take end block ++ take count into
take-read block into end count rest within fits =
    ap (λ n. take (n + count) (put_mid end rest block into)) (sym (length-take-le end block within))
    ∙ take-append-add (take end block) (into ++ post_of end rest block) count
    ∙ ap (λ xs. take end block ++ xs) (take-append-le count into (post_of end rest block) fits)

-- what a source hands out goes behind the pending bytes, and what is still to come stays the same
pub StillAhead-read : (before after : Option (List ℕ)) (pending into : List ℕ) (count : ℕ) →
    ((bytes : List ℕ) → before ≡ Some bytes → HandsOut count into bytes after) → (before ≡ None → after ≡ None) →
    StillAhead before after pending (pending ++ take count into)
StillAhead-read before after pending into count told untold = record {
  told = λ bytes was.
      let out = told bytes was in (
        drop count bytes,
        out.rest,
        ap (λ xs. (pending ++ xs) ++ drop count bytes) out.copied
            ∙ append_assoc pending (take count bytes) (drop count bytes)
            ∙ ap (λ xs. pending ++ xs) (take-append-drop count bytes),
      );
  untold = untold;
}

-- the same where nothing was handed out
pub StillAhead-same : (before after : Option (List ℕ)) (pending : List ℕ) → after ≡ before → StillAhead before after pending pending
StillAhead-same before after pending same = record {
  told = λ bytes was. (bytes, same ∙ was, refl);
  untold = λ was. same ∙ was;
}

-- a call that hands out no byte leaves none
pub handed-none : (count : ℕ) (into bytes : List ℕ) (after : Option (List ℕ)) → HandsOut count into bytes after → count ≡ 0 → after ≡ Some []
handed-none count into bytes after out zero =
    out.rest ∙ ap (λ n. Some (drop n bytes)) zero ∙ ap Some (out.at_end.0 zero)

-- ---- a window that reads on: what is pending was moved to its block's front, and a read had the rest

module _ (block slid into : List ℕ) (start end : ℕ) (is : IsBlock block start end) (kept : length slid ≡ length block)
    (room : length into ≡ length (mid_of (end - start) (4096 - (end - start)) slid)) where
  sized : length slid ≡ 4096
  sized = kept ∙ is.sized

  fits : end - start ≤ length slid
  fits = omega (arith, sized, is.within)

  room_is : length into ≡ 4096 - (end - start)
  room_is = room ∙ mid_len (end - start) 4096 slid (omega (arith, sized))

  -- it has what was pending, where nothing came
  pub IsBlock-unread : IsBlock (put_mid (end - start) (4096 - (end - start)) slid into) 0 (end - start)
  IsBlock-unread = record {
    sized = same_len_mid (end - start) (4096 - (end - start)) slid into room ∙ sized;
    ordered = omega arith;
    within = omega (arith, is.within);
  }

  pub IsBlock-read : (count : ℕ) → count ≤ length into → IsBlock (put_mid (end - start) (4096 - (end - start)) slid into) 0 ((end - start) + count)
  IsBlock-read count within = record {
    sized = same_len_mid (end - start) (4096 - (end - start)) slid into room ∙ sized;
    ordered = omega arith;
    within = omega (arith, is.within, within, room_is);
  }

  pub length-read : (count : ℕ) → count ≤ length into →
      length (take ((end - start) + count) (put_mid (end - start) (4096 - (end - start)) slid into)) ≡ length (drop start (take end block)) + count
  length-read count within =
      ap length (take-read slid into (end - start) count (4096 - (end - start)) fits within)
      ∙ (length-append (take (end - start) slid) (take count into)
      ∙ omega (arith, length-take-le (end - start) slid fits, length-take-le count into within, length-pending block start end is))

  pub StillAhead-unread : (before after : Option (List ℕ)) → take (end - start) slid ≡ drop start (take end block) → after ≡ before →
      StillAhead before after (drop start (take end block)) (take (end - start) (put_mid (end - start) (4096 - (end - start)) slid into))
  StillAhead-unread before after moved same =
      subst (λ (xs : List ℕ). StillAhead before after (drop start (take end block)) xs)
      (sym (take-put_mid_below (end - start) (4096 - (end - start)) slid into (end - start) (omega arith) fits ∙ moved))
      (StillAhead-same before after (drop start (take end block)) same)

-- a block of which so many bytes in front were taken
pub IsBlock-taken : (block : List ℕ) (start end count : ℕ) → IsBlock block start end → count ≤ length (drop start (take end block)) → IsBlock block (start + count) end
IsBlock-taken block start end count is enough = record {
  sized = is.sized;
  ordered = omega (arith, enough, length-pending block start end is);
  within = is.within;
}
