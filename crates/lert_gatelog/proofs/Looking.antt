-- What a header's text is, and what the bytes at a gate say.
use Rattle.std.proofs.Common.{◌≡◌, ℕ, ◌+◌, ◌<◌, ◌≤◌, List, [], ◌∷◌, ◌++◌, length, take, drop, get_or, refl, sym, ap, ◌∙◌, subst, inl, arith, length-append, length-drop, append-nil, append_assoc}
use Rattle.std.proofs.lemmas.List.{get_or_at, drop_more, drop_all, take_at, take_all, drop-take}
use Rattle.byteorder.specs.Endian.{little_number}
use Rattle.lert_bay.specs.{Files.{Holds, CopiesFrom}, Settled.part}
use Rattle.lert_gatelog.specs.Gated.{IsAnnounced, IsOpen, IsClosed, BreaksAt, Cut_payload, next_gate}
use Rattle.lert_gatelog.proofs.GatedLaws.{part_of_part, byte_of_part}

-- the front of a block of zero bytes with a header in it
pub header_text : (header block : List ℕ) → length header < length block → ((k : ℕ) → get_or block k 0 ≡ 0) →
    take (length header + 1) (header ++ drop (length header) block) ≡ header ++ 0 ∷ []
header_text header block short zero_bytes =
    let one : drop (length header) block ≡ 0 ∷ drop (length header + 1) block = drop_more block (length header) 0 short ∙ ap (λ x. x ∷ drop (length header + 1) block)
    (zero_bytes (length header)) in
    ap (λ rest. take (length header + 1) (header ++ rest)) one
    ∙ (ap (take (length header + 1)) (sym (append_assoc header (0 ∷ []) (drop (length header + 1) block)))
    ∙ take_at (header ++ 0 ∷ []) (drop (length header + 1) block) (length header + 1) (length-append header (0 ∷ [])))

-- what is written into an empty file is all of it
pub text_alone : (old text new : List ℕ) → Holds 0 text old new → old ≡ [] → new ≡ text
text_alone old text new held empty =
    held ∙ (ap (λ bytes. text ++ drop (0 + length text) bytes) empty ∙ (ap (λ bytes. text ++ bytes) (drop_all {X = ℕ} (0 + length text) [] (omega arith)) ∙ append-nil text))

-- a closed gate stands behind the header
pub closed_text : (header bytes : List ℕ) → bytes ≡ header ++ 0 ∷ [] → IsClosed bytes (length header)
closed_text header bytes is = record {
  within = omega (arith, ap length is, length-append header (0 ∷ []));
  shut = λ one. absurd (omega (arith, one, ap (λ text. get_or text (length header) 0) is, get_or_at header 0 [] 0 (length header) refl));
}

-- five bytes that were read at a gate
pub announced : (most gate read count : ℕ) (head bytes : List ℕ) → CopiesFrom gate read head bytes → 5 ≤ read → length head ≡ 5 → get_or head 0 0 ≡ 1 →
    count ≡ little_number 4 (take 4 (drop 1 head)) → IsAnnounced most bytes gate count
announced most gate read count head bytes copied five long one number =
    let read_is : read ≡ 5 = omega (arith, copied.count_is, five, long) in
    let whole : gate + 5 ≤ length bytes = omega (arith, copied.count_is, five) in
    let there : part bytes gate (gate + 5) ≡ head =
    drop-take gate 5 bytes ∙ (ap (λ n. take n (drop gate bytes)) (sym read_is) ∙ (sym copied.copied ∙ take_all read head (omega (arith, long, five)))) in
    let behind : part bytes (gate + 1) (gate + 5) ≡ take 4 (drop 1 head) =
    part_of_part bytes head gate (gate + 5) 1 5 (gate + 1) (gate + 5) there (omega (arith, long)) (omega (arith, long)) (omega arith) (omega (arith, long)) refl refl
    ∙ (ap (drop 1) (take_all 5 head (omega (arith, long))) ∙ sym (take_all 4 (drop 1 head) (omega (arith, long, length-drop 1 head)))) in
    record {
      opened = ap (λ n. get_or bytes n 0) (omega arith) ∙ (byte_of_part bytes head gate (gate + 5) 0 there (omega (arith, long)) (omega (arith, long)) ∙ one);
      whole = whole;
      counted = ap (little_number 4) behind ∙ sym number;
    }

-- the payload that was read behind them
pub opened : (most gate count read : ℕ) (payload into bytes : List ℕ) → IsAnnounced most bytes gate count → 0 < count → count ≤ most → CopiesFrom (gate + 5) read into bytes →
    length into ≡ count → count ≤ read → payload ≡ into → IsOpen most bytes gate payload
opened most gate count read payload into bytes said some fits copied long all is =
    let read_is : read ≡ count = omega (arith, copied.count_is, all, long) in
    let there : part bytes (gate + 5) (next_gate gate into) ≡ into =
    ap (λ n. part bytes (gate + 5) (gate + 5 + n)) (long ∙ sym read_is)
    ∙ (drop-take (gate + 5) read bytes ∙ (sym copied.copied ∙ take_all read into (omega (arith, long, all)))) in
    subst (λ (bytes_read : List ℕ). IsOpen most bytes gate bytes_read) (sym is)
    (record {
      opened = said.opened;
      counted = said.counted ∙ sym long;
      some = omega (arith, some, long);
      fits = omega (arith, fits, long);
      there = there;
    })

-- fewer bytes than the length says
pub cut_payload : (most gate count read end at : ℕ) (into bytes : List ℕ) → IsAnnounced most bytes gate count → 0 < count → count ≤ most →
    CopiesFrom (gate + 5) read into bytes → length into ≡ count → read < count → end ≡ length bytes → end ≡ at → BreaksAt most bytes gate at
cut_payload most gate count read end at into bytes said some fits copied long short end_is at_is =
    inl (
      sym at_is ∙ end_is,
      Cut_payload said.opened (omega (arith, said.counted, some)) (omega (arith, said.counted, fits)) said.whole
          (omega (arith, said.counted, copied.count_is, long, short, said.whole)),
    )
