-- Torn files: what a write does to the images of one file, and how these steps join since a sync.
use Rattle.std.proofs.Common.{◌≡◌, ℕ, ◌+◌, ◌<◌, ◌≤◌, List, [], ◌∷◌, ◌++◌, length, take, get_or, min, max, map, Some, Bool, true, false}
use Rattle.std.proofs.Common.{cond, ◌&&◌, nat_le, nat_lt, refl, sym, ap, ◌∙◌, ◌⊎◌, subst, inl, inr, arith, append-nil, append_assoc, ◌↔◌}
use Rattle.std.specs.List.{range_with_len}
use Rattle.std.proofs.lemmas.Bool.{cases_lt, and_from, and_left, and_right, le-leb, lt-leb, lt-ltb, le-ltb}
use Rattle.std.proofs.lemmas.List.{get_or-take, get_or_past, take_all, ext_get_or, length-take-le}
use Rattle.std.proofs.lemmas.List.FromFn.{length-map-range_with_len, get_or-map-range_with_len}
use Rattle.std.proofs.lemmas.List.Elements.{All-push, All-pop}
use Rattle.lert_bay.specs.Files.{Files, Holds, IsOutside, Torn, LeftByFailure}
use Rattle.lert_bay.specs.Images.{ComesByWrite}
use Rattle.lert_bay.specs.Since.{longest, IsUnwritten, IsTornSince, TornInTurn}
use Rattle.lert_bay.specs.declared.extent.Extent.{Extent}
use Rattle.lert_bay.proofs.Laid.{length_held, elsewhere_held}

-- ---- one write

-- a write of nothing leaves what was there
pub torn_same : (at count : ℕ) (old : List ℕ) → Torn at count old old
torn_same at count old = record {
  no_shorter = omega arith;
  no_longer = omega arith;
  elsewhere = λ place within outside. refl;
}

-- an image comes by a write from itself
pub comes_same : (leaves : Files → Type 0) (file at count : ℕ) (image : Files) → leaves image → ComesByWrite leaves file at count image
comes_same leaves file at count image now = (image, now, record { here = torn_same at count (image file); others = λ other apart. refl })

pub left_same : (at count : ℕ) (old : List ℕ) → LeftByFailure at count old old
left_same at count old = record {
  torn = torn_same at count old;
  gap = λ place past before. get_or_past old place 0 past;
}

-- outside of fewer bytes
outside_part : (at count part place : ℕ) → part ≤ count → IsOutside at count place → IsOutside at part place
outside_part at count part place fewer (inl before) = inl before
outside_part at count part place fewer (inr behind) = inr (omega (arith, fewer, behind))

-- a write of which a part was done is a failed one
pub left_by_part : (at part : ℕ) (bytes old new : List ℕ) → part ≤ length bytes → Holds at (take part bytes) old new → LeftByFailure at (length bytes) old new
left_by_part at part bytes old new fewer held =
    let counted : length (take part bytes) ≡ part = length-take-le part bytes fewer in
    let long : length new ≡ max (length old) (at + part) = length_held at (take part bytes) old new held ∙ ap (λ k. max (length old) (at + k)) counted in
    let outside : (place : ℕ) → IsOutside at (length bytes) place → IsOutside at (length (take part bytes)) place = λ place apart. outside_part at (length bytes)
    (length (take part bytes)) place (omega (arith, counted, fewer)) apart in
    record {
      torn = record {
        no_shorter = omega (arith, long);
        no_longer = omega (arith, long, fewer);
        elsewhere = λ place within apart. elsewhere_held at (take part bytes) old new held place (outside place apart);
      };
      gap = λ place past before. elsewhere_held at (take part bytes) old new held place (inl before) ∙ get_or_past old place 0 past;
    }

-- a whole write is a torn one too
pub torn_held : (at : ℕ) (bytes old new : List ℕ) → Holds at bytes old new → Torn at (length bytes) old new
torn_held at bytes old new held =
    (left_by_part at (length bytes) bytes old new (omega arith) (subst (λ (piece : List ℕ). Holds at piece old new) (sym (take_all (length bytes) bytes (omega arith))) held)).torn

-- ---- since a sync

longest_last : (least : ℕ) (written : List Extent) (last : Extent) → longest least (written ++ last ∷ []) ≡ max (longest least written) (last.at + last.count)
longest_last least [] last = omega arith
longest_last least (one ∷ rest) last = ap (λ k. max (one.at + one.count) k) (longest_last least rest last) ∙ omega arith

longest_least : (least : ℕ) (written : List Extent) → least ≤ longest least written
longest_least least [] = omega arith
longest_least least (one ∷ rest) = omega (arith, longest_least least rest)

-- right after a sync a crash leaves what a read gives
pub torn_none : (synced : List ℕ) → IsTornSince synced [] synced
torn_none synced = record {
  no_shorter = omega arith;
  no_longer = omega arith;
  elsewhere = λ place within unwritten. refl;
}

pub only_synced : (synced image : List ℕ) → IsTornSince synced [] image → image ≡ synced
only_synced synced image torn =
    ext_get_or 0 image synced (omega (arith, torn.no_shorter, torn.no_longer))
    (λ place within. torn.elsewhere place (omega (arith, within, torn.no_longer)) (λ k d below. absurd (omega (arith, below))))

-- one write more
pub torn_more : (synced : List ℕ) (written : List Extent) (last : Extent) (earlier image : List ℕ) → IsTornSince synced written earlier → Torn last.at last.count earlier image →
    IsTornSince synced (written ++ last ∷ []) image
torn_more synced written last earlier image was torn =
    let longer = longest_last (length synced) written last in
    record {
      no_shorter = omega (arith, was.no_shorter, torn.no_shorter);
      no_longer = omega (arith, was.no_longer, torn.no_longer, longer);
      elsewhere = λ place within unwritten.
          let both = All-pop (λ extent. IsOutside extent.at extent.count place) (written ++ last ∷ []) written (Some last) refl unwritten in
          torn.elsewhere place (omega (arith, within, was.no_shorter)) both.1 ∙ was.elsewhere place within both.0;
    }

pub torn_noted : (synced : List ℕ) (written : List Extent) (last : Extent) (image : List ℕ) → IsTornSince synced written image → IsTornSince synced (written ++ last ∷ []) image
torn_noted synced written last image torn = torn_more synced written last image image torn (torn_same last.at last.count image)

-- whether a place is in a range
abbrev pub inside : ℕ → ℕ → ℕ → Bool
inside at count place = nat_le at place && nat_lt place (at + count)

pub inside_not : (at count place : ℕ) → IsOutside at count place → inside at count place ≡ false
inside_not at count place (inl before) = and_left (nat_le at place) (nat_lt place (at + count)) (lt-leb at place before)
inside_not at count place (inr behind) = and_right (nat_le at place) (nat_lt place (at + count)) (le-ltb place (at + count) behind)

pub inside_cases : (at count place : ℕ) → (inside at count place ≡ true) ⊎ IsOutside at count place
inside_cases at count place =
    elim (cases_lt place at) [
      | inl before ↦ inr (inl before)
      | inr from ↦ elim (cases_lt place (at + count)) [
        | inl within ↦ inl (and_from (nat_le at place) (nat_lt place (at + count)) (le-leb at place from) (lt-ltb place (at + count) within))
        | inr behind ↦ inr (inr behind)
      ]
    ]

-- the image with the bytes of the last sync in a range, cut to a length
mended : List ℕ → ℕ → ℕ → List ℕ → ℕ → List ℕ
mended synced at count image most = map (λ place. cond (inside at count place) (get_or synced place 0) (get_or image place 0)) (range_with_len 0 (min (length image) most))

length_mended : (synced : List ℕ) (at count : ℕ) (image : List ℕ) (most : ℕ) → length (mended synced at count image most) ≡ min (length image) most
unfolding mended
length_mended synced at count image most = length-map-range_with_len (λ place. cond (inside at count place) (get_or synced place 0) (get_or image place 0)) 0
    (min (length image) most)

mended_at : (synced : List ℕ) (at count : ℕ) (image : List ℕ) (most place : ℕ) → place < min (length image) most → get_or (mended synced at count image most) place 0 ≡ cond
    (inside at count place) (get_or synced place 0) (get_or image place 0)
unfolding mended
mended_at synced at count image most place within = get_or-map-range_with_len (λ place. cond (inside at count place) (get_or synced place 0) (get_or image place 0)) 0
    (min (length image) most) place place 0 within (omega arith)

mended_outside : (synced : List ℕ) (at count : ℕ) (image : List ℕ) (most place : ℕ) → place < min (length image) most → IsOutside at count place →
    get_or (mended synced at count image most) place 0 ≡ get_or image place 0
mended_outside synced at count image most place within outside =
    mended_at synced at count image most place within ∙ ap (λ b. cond b (get_or synced place 0) (get_or image place 0)) (inside_not at count place outside)

mended_inside : (synced : List ℕ) (at count : ℕ) (image : List ℕ) (most place : ℕ) → place < min (length image) most → inside at count place ≡ true →
    get_or (mended synced at count image most) place 0 ≡ get_or synced place 0
mended_inside synced at count image most place within is =
    mended_at synced at count image most place within ∙ ap (λ b. cond b (get_or synced place 0) (get_or image place 0)) is

-- one write less: what may be left after it came by a torn write from what might be left before it
pub torn_less : (synced : List ℕ) (written : List Extent) (last : Extent) (image : List ℕ) → IsTornSince synced (written ++ last ∷ []) image →
    (earlier : List ℕ) × IsTornSince synced written earlier × Torn last.at last.count earlier image
torn_less synced written last image torn =
    let least : length synced ≤ longest (length synced) written = longest_least (length synced) written in
    let longer = longest_last (length synced) written last in
    let long = length_mended synced last.at last.count image (longest (length synced) written) in (
      mended synced last.at last.count image (longest (length synced) written),
      record {
        no_shorter = omega (arith, long, least, torn.no_shorter);
        no_longer = omega (arith, long);
        elsewhere = λ place within unwritten.
            let short : place < min (length image) (longest (length synced) written) = omega (arith, within, least, torn.no_shorter) in
            elim (inside_cases last.at last.count place) [
              | inl is ↦ mended_inside synced last.at last.count image (longest (length synced) written) place short is
              | inr outside ↦
                  mended_outside synced last.at last.count image (longest (length synced) written) place short outside
                  ∙ torn.elsewhere place within (All-push (λ extent. IsOutside extent.at extent.count place) written last unwritten outside)
            ];
      },
      record {
        no_shorter = omega (arith, long);
        no_longer = omega (arith, long, longer, torn.no_longer);
        elsewhere = λ place within outside. sym (mended_outside synced last.at last.count image (longest (length synced) written) place (omega (arith, long, within)) outside);
      },
    )

-- what the writes may tear one after the other, they may tear together
turns_join : (synced : List ℕ) (before rest : List Extent) (middle image : List ℕ) → IsTornSince synced before middle → TornInTurn rest middle image →
    IsTornSince synced (before ++ rest) image
turns_join synced before [] middle image was same = subst (λ (ranges : List Extent). IsTornSince synced ranges image) (sym (append-nil before))
    (subst (λ (bytes : List ℕ). IsTornSince synced before bytes) (sym same) was)
turns_join synced before (first ∷ rest) middle image was torn =
    subst (λ (ranges : List Extent). IsTornSince synced ranges image) (append_assoc before (first ∷ []) rest)
    (turns_join synced (before ++ first ∷ []) rest torn.0 image (torn_more synced before first middle torn.0 was torn.1) torn.2)

-- and what they may tear together comes in turn
joint_turns : (synced : List ℕ) (before rest : List Extent) (image : List ℕ) → IsTornSince synced (before ++ rest) image →
    (middle : List ℕ) × IsTornSince synced before middle × TornInTurn rest middle image
joint_turns synced before [] image torn = (image, subst (λ (ranges : List Extent). IsTornSince synced ranges image) (append-nil before) torn, refl)
joint_turns synced before (first ∷ rest) image torn =
    let later = joint_turns synced (before ++ first ∷ []) rest image
    (subst (λ (ranges : List Extent). IsTornSince synced ranges image) (sym (append_assoc before (first ∷ []) rest)) torn) in
    let last = torn_less synced before first later.0 later.1 in
    (last.0, last.1, (later.0, last.2, later.2))

-- one by one, or at once
pub turns_since : (synced : List ℕ) (written : List Extent) (image : List ℕ) → TornInTurn written synced image ↔ IsTornSince synced written image
turns_since synced written image = (
  λ torn. turns_join synced [] written synced image (torn_none synced) torn,
  λ torn. let parts = joint_turns synced [] written image torn in subst (λ (bytes : List ℕ). TornInTurn written bytes image) (only_synced synced parts.0 parts.1) parts.2,
)

-- bytes changed in written ranges alone
pub torn_changed : (synced : List ℕ) (written : List Extent) (image changed : List ℕ) → IsTornSince synced written image → length changed ≡ length image →
    ((place : ℕ) → IsUnwritten written place → get_or changed place 0 ≡ get_or image place 0) → IsTornSince synced written changed
torn_changed synced written image changed torn long elsewhere = record {
  no_shorter = omega (arith, torn.no_shorter, long);
  no_longer = omega (arith, torn.no_longer, long);
  elsewhere = λ place within unwritten. elsewhere place unwritten ∙ torn.elsewhere place within unwritten;
}

-- a shorter file, but no shorter than at the last sync
pub torn_cut : (synced : List ℕ) (written : List Extent) (image : List ℕ) (n : ℕ) → IsTornSince synced written image → length synced ≤ n → n ≤ length image →
    IsTornSince synced written (take n image)
torn_cut synced written image n torn least most = record {
  no_shorter = omega (arith, length-take-le n image most);
  no_longer = omega (arith, length-take-le n image most, torn.no_longer);
  elsewhere = λ place within unwritten. get_or-take n image place 0 (omega (arith, within, least)) ∙ torn.elsewhere place within unwritten;
}
