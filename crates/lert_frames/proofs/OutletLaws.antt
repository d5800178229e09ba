-- Bytes on their way into a file.
use Rattle.std.proofs.Common.{◌≡◌, ℕ, ◌+◌, ◌<◌, ◌≤◌, List, ◌++◌, length, take, Some, refl, sym, ap, ap₂, ◌∙◌, ◌⊎◌, inl, inr, arith, append-nil, append_assoc, length-append, length-take}
use Rattle.std.{proofs.Common.length-drop, proofs.lemmas.Bool.cases_lt, proofs.lemmas.List.{drop_at, length-take-le, take_at, take-append-le, with_items_is}, proofs.Math.Seq.take-add}
use Rattle.std.specs.Vec.{with_items}
use Rattle.lert_bay.{specs.Files.{Files, Holds}, specs.Kept.Bays, specs.Settled.part, specs.declared.bay.TheConstants.FRAMES, proofs.Laid.length_held, proofs.Settling.{part_none, part_torn}}
use Rattle.lert_bay.proofs.Tearing.{torn_held}
use Rattle.lert_frames.{specs.Kept.WritesWithin, specs.Outlet.{IsOut, unwritten}, specs.declared.outlet.Outlet.Outlet, proofs.PartLaws.part_join, proofs.WithinLaws.part_within}
use Rattle.lert_frames.proofs.WriteLaws.{held_there}

module _ (begin : ℕ) (text file : List ℕ) (o : Outlet) (out : IsOut begin text file o) where
  -- where bytes are gone, the file reaches to their end
  pub out_reaches : begin < o.at → o.at ≤ length file
  out_reaches some = omega (arith, out.at_is, ap length out.there, length-drop begin (take o.at file), length-take o.at file, some)

  -- all are in the file
  pub out_all : o.len ≡ 0 → part file begin o.at ≡ text
  out_all none = out.there ∙ sym (out.text_is ∙ (ap (λ n. out.gone ++ take n o.bytes.items) none ∙ append-nil out.gone))

  -- where the text ends
  pub out_ends : o.len ≤ length o.bytes.items → begin + length text ≡ o.at + o.len
  out_ends within = omega (arith, out.at_is, ap length out.text_is, length-append out.gone (unwritten o), length-take o.len o.bytes.items, within)

  -- more bytes
  pub out_more : (bytes : List ℕ) (after : Outlet) → after.at ≡ o.at → unwritten after ≡ unwritten o ++ bytes → IsOut begin (text ++ bytes) file after
  out_more bytes after at_is unwritten_is = record {
    gone = out.gone;
    text_is = ap (λ xs. xs ++ bytes) out.text_is ∙ (append_assoc out.gone (unwritten o) bytes ∙ ap (λ xs. out.gone ++ xs) (sym unwritten_is));
    at_is = at_is ∙ out.at_is;
    there = ap (part file begin) at_is ∙ out.there;
  }

  -- they were laid over the buffer, behind those that aren't written
  pub out_laid : (bytes was buffer : List ℕ) (count : ℕ) (after : Outlet) → was ≡ o.bytes.items → length buffer ≡ o.bytes.len →
      take (o.len + count) buffer ≡ take o.len was ++ bytes → after.at ≡ o.at →
      unwritten after ≡ take (o.len + count) (with_items o.bytes buffer).items → IsOut begin (text ++ bytes) file after
  out_laid bytes was buffer count after same long laid at_is unwritten_is =
      out_more bytes after at_is
      (unwritten_is ∙ (ap (take (o.len + count)) (with_items_is o.bytes buffer long) ∙ (laid ∙ ap (λ xs. take o.len xs ++ bytes) same)))

  -- the bytes gone stand in another file that has them
  pub out_elsewhere : (other : List ℕ) → (begin < o.at → part other begin o.at ≡ part file begin o.at) → part other begin o.at ≡ out.gone
  out_elsewhere other same = elim (cases_lt begin o.at) [
    | inl some ↦ same some ∙ out.there
    | inr none ↦ part_none other begin o.at none ∙ (sym (part_none file begin o.at none) ∙ out.there)
  ]

  -- those of the buffer are written behind them
  pub out_flushed : (new : List ℕ) (after : Outlet) → o.len ≤ length o.bytes.items → Holds o.at (unwritten o) file new → after.at ≡ o.at + o.len → after.len ≡ 0 →
      IsOut begin text new after
  out_flushed new after within held at_is len_is =
      let counted : length (unwritten o) ≡ o.len = omega (arith, length-take o.len o.bytes.items, within) in
      let end : after.at ≡ o.at + length (unwritten o) = omega (arith, at_is, counted) in
      let before : part new begin o.at ≡ out.gone =
      out_elsewhere new (λ some.
      part_torn o.at (length (unwritten o)) file new file begin o.at (torn_held o.at (unwritten o) file new held) refl (out_reaches some) (inl (omega arith))) in
      record {
        gone = text;
        text_is = sym (ap (λ n. text ++ take n after.bytes.items) len_is ∙ append-nil text);
        at_is = omega (arith, at_is, out_ends within);
        there =
            ap (part new begin) end
            ∙ (sym (part_join new begin o.at (o.at + length (unwritten o)) (omega (arith, out.at_is)) (omega arith)
            (omega (arith, length_held o.at (unwritten o) file new held)))
            ∙ (ap₂ (λ xs ys. xs ++ ys) before (held_there o.at (unwritten o) file new held) ∙ sym out.text_is));
      }

-- it is so through writes into a range behind or before it
pub out_within : {B : Type 0} (bays : Bays B) (low high begin : ℕ) (text : List ℕ) (o : Outlet) (before after : B) (seen later : Files) →
    bays.files before ≡ Some seen → bays.files after ≡ Some later → WritesWithin bays low high before after → low ≤ high → (o.at ≤ low) ⊎ (high ≤ begin) →
    IsOut begin text (seen FRAMES) o → IsOut begin text (later FRAMES) o
out_within bays low high begin text o before after seen later told told_then wrote order apart out = record {
  gone = out.gone;
  text_is = out.text_is;
  at_is = out.at_is;
  there = out_elsewhere begin text (seen FRAMES) o out (later FRAMES) (λ some.
      part_within bays low high before after seen later told told_then wrote begin o.at (out_reaches begin text (seen FRAMES) o out some) order apart);
}

-- a text laid over a buffer from a place on
pub laid_behind : (place count : ℕ) (into laid rest text : List ℕ) → place ≤ length into → count ≤ length laid → take count laid ≡ text →
    take (place + count) (take place into ++ (laid ++ rest)) ≡ take place into ++ text
laid_behind place count into laid rest text within fits is =
    let front : length (take place into) ≡ place = length-take-le place into within in
    take-add place count (take place into ++ (laid ++ rest))
    ∙ ap₂ (λ xs ys. xs ++ ys) (take_at (take place into) (laid ++ rest) place front)
    (ap (take count) (drop_at (take place into) (laid ++ rest) place front) ∙ (take-append-le count laid rest fits ∙ is))

-- a text that is out and written stands in the file
pub out_whole : (begin : ℕ) (text file : List ℕ) (o : Outlet) → IsOut begin text file o → o.len ≡ 0 → part file begin (begin + length text) ≡ text
out_whole begin text file o out none =
    let end : begin + length text ≡ o.at = omega (arith, out.at_is, ap length out.text_is, length-append out.gone (unwritten o), length-take o.len o.bytes.items, none) in
    ap (part file begin) end ∙ out_all begin text file o out none
