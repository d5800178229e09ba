-- What a writer of a frame keeps, through each of its changes.
use Rattle.std.{proofs.Common.{◌≡◌, ℕ, ◌+◌, ◌-◌, ◌*◌, ◌/◌, ◌<◌, ◌≤◌, ◌^◌, List, Option, Some, None, refl, sym, ap, ◌∙◌, subst, arith}, proofs.lemmas.Nat.pow_pos}
use Rattle.std.proofs.lemmas.Option.{none-some}
use Rattle.lert_frames.{proofs.PlaceLaws.{slots_fit, blocks_are}, proofs.RoomLaws.{costs_fit, left_fits}, specs.Growing.{slots_out, IsLong, IsGrowing, IsHolding}}
use Rattle.lert_frames.{specs.declared.long.Long.Long, specs.declared.outlet.Outlet.Outlet}
use Rattle.lert_frames.{specs.Outlet.{next_place, size_of}, specs.Place.{block_count, blocks_bytes, frame_len, most_slots, slots_each}}
use Rattle.lert_frames.{specs.Spilt.{Reaches, HasRoom, block_bytes, first_place, last_place, closed_place}}
use Rattle.lert_spec.{specs.declared.numbers.Numbers.Numbers, specs.declared.piece.Piece.Piece, specs.Edges.{span, quotient_bits}, specs.Limits.IsValid, specs.Table.costs}

-- ---- numbers

start_fits : (place blocks number slots most : ℕ) → slots ≤ most → place + blocks_bytes (blocks - number) (0 + slots) ≤ place + (20 * blocks + 8 * most + 8 * (most / 64))
start_fits place blocks number slots most few = omega arith

fewer_fit : (place blocks slots fewer end : ℕ) → fewer ≤ slots → place + blocks_bytes blocks slots ≤ end → place + blocks_bytes blocks fewer ≤ end
fewer_fit place blocks slots fewer end less fits = omega arith

next_fits : (place next blocks number slots left end : ℕ) → number < blocks → next ≡ place + block_bytes slots → place + blocks_bytes (blocks - number) (slots + left) ≤ end →
    next + blocks_bytes (blocks - (number + 1)) (0 + left) ≤ end
next_fits place next blocks number slots left end more next_is fits = omega arith

one_fits : (place blocks number slots end : ℕ) → number < blocks → place + blocks_bytes (blocks - number) slots ≤ end → place + block_bytes slots ≤ end
one_fits place blocks number slots end more fits = omega arith

reaches_fewer : (l : Long) (slots fewer end : ℕ) (ends outlet : Outlet) → fewer ≤ slots → Reaches l slots end ends outlet → Reaches l fewer end ends outlet
reaches_fewer l slots fewer end ends outlet less reach = record {
  ends_at = reach.ends_at;
  ends_next = reach.ends_next;
  words_fit = omega (arith, reach.words_fit, less);
  slots_at = reach.slots_at;
  slots_next = reach.slots_next;
  slots_fit = omega (arith, reach.slots_fit, less);
}

reaches_further : (l : Long) (slots end further : ℕ) (ends outlet : Outlet) → end ≤ further → Reaches l slots end ends outlet → Reaches l slots further ends outlet
reaches_further l slots end further ends outlet more reach = record {
  ends_at = reach.ends_at;
  ends_next = reach.ends_next;
  words_fit = reach.words_fit;
  slots_at = reach.slots_at;
  slots_next = reach.slots_next;
  slots_fit = omega (arith, reach.slots_fit, more);
}

pub not_long : {A : Type 0} (l : Long) → None ≡ Some l → A
not_long l e = absurd (none-some l e)

pub same_long : (k l : Long) → Some k ≡ Some l → k ≡ l
same_long k l e = cc

-- a frame has a block
pub some_block : (s : Numbers) (level : ℕ) → IsValid s → level ≤ s.levels → 0 < block_count s level
some_block s level valid within = omega (arith, blocks_are s valid level within, pow_pos (quotient_bits s level))

-- ---- a frame at its begin, with nothing in memory

pub growing_new : (s : Numbers) (version level place number left : ℕ) (outlet ends : Outlet) (slots : ℕ) (put : List Piece) → number < block_count s level → left + costs version put ≡ span s level →
    size_of outlet ≡ 8192 → size_of ends ≡ 512 → slots ≡ 0 → next_place outlet ≡ place → place ≤ outlet.at → IsHolding s version level place number left outlet ends slots None put
growing_new s version level place number left outlet ends slots put below left_is size ends_size none next at = record {
  below = below;
  left_is = left_is;
  size = size;
  ends_size = ends_size;
  few = omega (arith, none, costs_fit version left (span s level) (omega (arith, left_is)));
  short = λ _. record {
    at = at;
    fits =
        let most = most_slots s version level in
        let fits = start_fits (next_place outlet) (block_count s level) number (slots_each version * left) most (costs_fit version left (span s level) (omega (arith, left_is))) in
        subst (λ n. next_place outlet + blocks_bytes (block_count s level - number) (n + slots_each version * left) ≤ place + frame_len s version level) (sym none)
        (subst (λ p. next_place outlet + blocks_bytes (block_count s level - number) (0 + slots_each version * left) ≤ p + frame_len s version level) next fits);
  };
  some = λ l is. not_long l is;
  spilt = λ l is. not_long l is;
}

module _ {s : Numbers} {version level frame wide place number left : ℕ} {outlet ends : Outlet} {slots : ℕ} {long : Option Long} {put : List Piece}
    (fixed : IsGrowing s version level frame wide place) (old : IsHolding s version level place number left outlet ends slots long put) where
  -- the slots that may come, and the place behind the frame
  abbrev reserve : ℕ
  reserve = slots_each version * left

  abbrev end : ℕ
  end = place + frame_len s version level

  -- what isn't written is forgotten
  pub growing_again : (outlet' ends' : Outlet) (slots' : ℕ) → size_of outlet' ≡ 8192 → size_of ends' ≡ 512 → slots' ≡ 0 → next_place outlet' ≡ place → place ≤ outlet'.at →
      IsHolding s version level place number left outlet' ends' slots' None put
  growing_again outlet' ends' slots' size ends_size none next at =
      growing_new s version level place number left outlet' ends' slots' put old.below old.left_is size ends_size none next at

  -- a block that isn't long ends within the frame's place
  short_within : long ≡ None → next_place outlet + block_bytes slots ≤ end
  short_within is = one_fits (next_place outlet) (block_count s level) number slots end old.below
      (fewer_fit (next_place outlet) (block_count s level - number) (slots + reserve) slots end (omega arith) (old.short is).fits)

  -- there is room for the rest of the block
  pub growing_room : HasRoom long slots (2 ^ 62) ends outlet
  growing_room = record {
    short = λ is. let fits = short_within is in omega (arith, fits, fixed.end);
    spilt = λ l is. reaches_further l slots end (2 ^ 62) ends outlet (omega (arith, fixed.end))
        (reaches_fewer l (slots + reserve) slots end ends outlet (omega arith) (old.spilt l is).reach);
    some = old.some;
    few = λ l is.
        let most = slots_fit s fixed.valid version level fixed.last in
        let out : slots_out long ≡ 64 * l.words = ap slots_out is in
        omega (arith, old.few, most, out);
  }

  -- a block, short or long, is ended within the frame's place
  pub first_within : place ≤ first_place long outlet
  first_within = by_case long refl
    where
      by_case : (at : Option Long) → long ≡ at → place ≤ first_place at outlet
      by_case None is = (old.short is).at
      by_case (Some l) is = (old.spilt l is).at

  pub last_within : last_place long slots outlet ≤ end
  last_within = by_case long refl
    where
      by_case : (at : Option Long) → long ≡ at → last_place at slots outlet ≤ end
      by_case None is = short_within is
      by_case (Some l) is = omega (arith, (old.spilt l is).reach.slots_fit)

  pub closed_within : closed_place long slots outlet ≤ end
  closed_within = by_case long refl
    where
      by_case : (at : Option Long) → long ≡ at → closed_place at slots outlet ≤ end
      by_case None is = short_within is
      by_case (Some l) is = one_fits l.begin (block_count s level) number (64 * l.words + slots) end old.below
          (fewer_fit l.begin (block_count s level - number) (64 * l.words + (slots + reserve)) (64 * l.words + slots) end (omega arith) (old.spilt l is).fits)

  -- the next block
  pub growing_next : (outlet' ends' : Outlet) (slots' : ℕ) → number + 1 < block_count s level → size_of outlet' ≡ 8192 → size_of ends' ≡ 512 → slots' ≡ 0 →
      next_place outlet' ≡ closed_place long slots outlet → first_place long outlet ≤ outlet'.at →
      IsHolding s version level place (number + 1) left outlet' ends' slots' None put
  growing_next outlet' ends' slots' more size ends_size none next at = record {
    below = more;
    left_is = old.left_is;
    size = size;
    ends_size = ends_size;
    few = omega (arith, none, old.few);
    short = λ _. record {
      at = omega (arith, first_within, at);
      fits = subst (λ n. next_place outlet' + blocks_bytes (block_count s level - (number + 1))
          (n + reserve) ≤ end) (sym none) (fits long refl);
    };
    some = λ l is. not_long l is;
    spilt = λ l is. not_long l is;
  }
    where
      fits : (at : Option Long) → long ≡ at → next_place outlet' + blocks_bytes (block_count s level - (number + 1)) (0 + reserve) ≤ end
      fits None is = next_fits (next_place outlet) (next_place outlet') (block_count s level) number slots (reserve) end old.below
          (next ∙ ap (λ at. closed_place at slots outlet) is) (old.short is).fits
      fits (Some l) is = next_fits l.begin (next_place outlet') (block_count s level) number (64 * l.words + slots) (reserve) end old.below
          (next ∙ ap (λ at. closed_place at slots outlet) is)
          (fewer_fit l.begin (block_count s level - number) (64 * l.words + (slots + reserve)) (64 * l.words + slots + reserve) end (omega arith) (old.spilt l is).fits)

  -- one piece more
  pub growing_take : (slots' count left' : ℕ) (put' : List Piece) → slots < slots' → slots' ≤ slots + slots_each version * count → left' + count ≡ left →
      costs version put' ≡ costs version put + count →
      IsHolding s version level place number left' outlet ends slots' long put'
  growing_take slots' count left' put' more few less sum =
      let taken = left_fits version left count left' less in
      let fewer : slots' + slots_each version * left' ≤ slots + reserve = omega (arith, few, taken) in
      record {
        below = old.below;
        left_is = omega (arith, old.left_is, less, sum);
        size = old.size;
        ends_size = old.ends_size;
        few = omega (arith, old.few, fewer);
        short = λ is. record {
          at = (old.short is).at;
          fits = fewer_fit (next_place outlet) (block_count s level - number) (slots + reserve) (slots' + slots_each version * left') end fewer (old.short is).fits;
        };
        some = λ l is. omega (arith, more);
        spilt = λ l is. record {
          at = (old.spilt l is).at;
          fits = fewer_fit l.begin (block_count s level - number) (64 * l.words + (slots + reserve)) (64 * l.words + (slots' + slots_each version * left')) end (omega (arith, fewer))
              (old.spilt l is).fits;
          reach = reaches_fewer l (slots + reserve) (slots' + slots_each version * left') end ends outlet fewer (old.spilt l is).reach;
        };
      }

  -- the outlet writes
  pub growing_flushed : (outlet' : Outlet) → long ≡ None → size_of outlet' ≡ size_of outlet → next_place outlet' ≡ next_place outlet → outlet.at ≤ outlet'.at →
      IsHolding s version level place number left outlet' ends slots long put
  growing_flushed outlet' none size next at = record {
    below = old.below;
    left_is = old.left_is;
    size = size ∙ old.size;
    ends_size = old.ends_size;
    few = old.few;
    short = λ is. record {
      at = omega (arith, (old.short is).at, at);
      fits = subst (λ n. n + blocks_bytes (block_count s level - number) (slots + reserve) ≤ end) (sym next) (old.short is).fits;
    };
    some = old.some;
    spilt = λ l is. not_long l (sym none ∙ is);
  }

  -- the block is a long one
  pub growing_long : (outlet' ends' : Outlet) (l : Long) → long ≡ None → 0 < slots → size_of outlet' ≡ 8192 → size_of ends' ≡ 512 → l.begin ≡ next_place outlet → l.words ≡ 0 →
      Reaches l (slots + reserve) end ends' outlet' → IsHolding s version level place number left outlet' ends' slots (Some l) put
  growing_long outlet' ends' l none some size ends_size begin words reach =
      let out : slots_out long ≡ 0 = ap slots_out none in
      record {
        below = old.below;
        left_is = old.left_is;
        size = size;
        ends_size = ends_size;
        few = omega (arith, old.few, out, words);
        short = λ is. not_long l (sym is);
        some = λ k is. some;
        spilt = λ k is. subst (λ (j : Long). IsLong place end (block_count s level - number) (slots + reserve) j ends' outlet') (same_long l k is) (record {
          at = omega (arith, (old.short none).at, begin);
          fits =
              let none_out : 64 * l.words + (slots + reserve) ≡ slots + reserve = omega (arith, words) in
              subst (λ n. l.begin + blocks_bytes (block_count s level - number) n ≤ end) (sym none_out)
              (subst (λ p. p + blocks_bytes (block_count s level - number) (slots + reserve) ≤ end) (sym begin) (old.short none).fits);
          reach = reach;
        });
      }

  -- and the room for it
  pub long_fits : long ≡ None → next_place outlet + block_bytes (slots + reserve) ≤ end
  long_fits none = one_fits (next_place outlet) (block_count s level) number (slots + reserve) end old.below (old.short none).fits

  -- slots of a long block go
  pub growing_gone : (outlet' ends' : Outlet) (slots' : ℕ) (k l : Long) → long ≡ Some k → size_of outlet' ≡ 8192 → size_of ends' ≡ 512 → l.begin ≡ k.begin →
      64 * l.words + slots' ≡ 64 * k.words + slots → 0 < slots' → slots' ≤ slots →
      Reaches l (slots + reserve - (slots - slots')) end ends' outlet' → IsHolding s version level place number left outlet' ends' slots' (Some l) put
  growing_gone outlet' ends' slots' k l was size ends_size begin words some less reach =
      let out : slots_out long ≡ 64 * k.words = ap slots_out was in
      let left_is : slots + reserve - (slots - slots') ≡ slots' + reserve = omega (arith, less) in
      record {
        below = old.below;
        left_is = old.left_is;
        size = size;
        ends_size = ends_size;
        few = omega (arith, old.few, out, words);
        short = λ is. not_long l (sym is);
        some = λ j is. some;
        spilt = λ j is. subst (λ (j : Long). IsLong place end (block_count s level - number) (slots' + reserve) j ends' outlet') (same_long l j is) (record {
          at = omega (arith, (old.spilt k was).at, begin);
          fits =
              let same : 64 * k.words + (slots + reserve) ≡ 64 * l.words + (slots' + reserve) = omega (arith, words) in
              subst (λ p. p + blocks_bytes (block_count s level - number) (64 * l.words + (slots' + reserve)) ≤ end) (sym begin)
              (subst (λ n. k.begin + blocks_bytes (block_count s level - number) n ≤ end) same (old.spilt k was).fits);
          reach = subst (λ n. Reaches l n end ends' outlet') left_is reach;
        });
      }

  -- or stay
  pub growing_kept : (outlet' ends' : Outlet) (slots' : ℕ) (k : Long) → long ≡ Some k → size_of outlet' ≡ 8192 → size_of ends' ≡ 512 → slots' ≡ slots →
      Reaches k (slots + reserve) end ends' outlet' → IsHolding s version level place number left outlet' ends' slots' long put
  growing_kept outlet' ends' slots' k was size ends_size same reach =
      let some = old.some k was in
      subst (λ at. IsHolding s version level place number left outlet' ends' slots' at put) (sym was)
      (growing_gone outlet' ends' slots' k k was size ends_size refl (omega (arith, same)) (omega (arith, some, same)) (omega (arith, same))
      (subst (λ n. Reaches k n end ends' outlet') (let same_left : slots + reserve ≡ slots + reserve - (slots - slots') = omega (arith, same) in same_left) reach))
