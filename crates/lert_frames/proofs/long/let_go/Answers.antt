use Rattle.std.proofs.Common.{ℕ, ◌+◌, ◌*◌, ◌-◌, ◌/◌, ◌^◌, ◌<◌, ◌≤◌, ◌≡◌, ◌∙◌, Bool, List, length, take, drop, ap, ap₂, sym, subst, refl, inl, inr, arith, length-drop}
use Rattle.std.{proofs.lemmas.List.length-take-le, proofs.lemmas.Result.err_from_is_err_and}
use Rattle.lert_bay.specs.declared.bay.TheConstants.{FRAMES}
use Rattle.lert_blocks.{specs.Filling.IsFilled, specs.Text.{ends_of, slots_of, word_count, numbers_text}, proofs.FillingLaws.length_left}
use Rattle.lert_frames.{specs.Outlet.{IsOut, next_place}, specs.Spilt.Reaches, specs.declared.long.Long.Long, specs.declared.outlet.Outlet.Outlet}
use Rattle.lert_frames.{proofs.CallLaws.{writes_on, writes_as, told_then}, proofs.OutletLaws.out_within, proofs.OrderLaws.here}
use Rattle.lert_frames.proofs.SpiltLaws.{counted_slots, counted_ends, slots_more, ends_more, reaches_on, reaches_more, begin_first, ends_fit, ends_last}
use Rattle.lert_frames.proofs.long.let_go.Goals as goal

-- how many are left
left_of : (len had left : ℕ) → 0 < len → had ≡ len → left + 64 * ((had - 1) / 64) ≡ len → (0 < left) × (left ≤ 64)
left_of len had left some is sum = (omega (arith, some, is, sum), omega (arith, some, is, sum))

-- those that go are there
go_within : (len had slots ends : ℕ) → 0 < len → had ≡ len → slots ≡ len → ends ≡ word_count len → (64 * ((had - 1) / 64) ≤ slots) × ((had - 1) / 64 ≤ ends)
go_within len had slots ends some is slots_are ends_are = (omega (arith, some, is, slots_are), omega (arith, some, is, ends_are))

words_are : (m go len left : ℕ) → left + 64 * go ≡ len → 64 * (m + go) + left ≡ 64 * m + len
words_are m go len left sum = omega (arith, sum)

words_sum : (m go : ℕ) → 64 * m + 64 * go ≡ 64 * (m + go)
words_sum m go = omega arith

bits_within : (m go len left : ℕ) (bits : List Bool) → length (drop (64 * m) bits) ≡ len → 0 < left → left + 64 * go ≡ len → 64 * (m + go) ≤ length bits
bits_within m go len left bits is some sum = omega (arith, length-drop (64 * m) bits, is, some, sum)

less_than : (left len gone : ℕ) → left + gone ≡ len → left ≤ len
less_than left len gone sum = omega (arith, sum)

-- ---- what calls want

go_small : (len had : ℕ) → had ≡ len → len ≤ 512 → (512 * ((had - 1) / 64) ≤ 8192) × (8 * ((had - 1) / 64) ≤ 512)
go_small len had is few = (omega (arith, is, few), omega (arith, is, few))

go_less : (len had : ℕ) → 0 < len → had ≡ len → 64 * ((had - 1) / 64) < len
go_less len had some is = omega (arith, some, is)

slots_room : (n go room : ℕ) → n ≡ 64 * go → 512 * go ≤ room → 8 * n ≤ room
slots_room n go room is fits = omega (arith, is, fits)

slots_reach : (n go len next old : ℕ) → n ≡ 64 * go → 64 * go ≤ len → next ≡ old → old + 8 * len ≤ 2 ^ 62 → next + 8 * n < 2 ^ 63
slots_reach n go len next old is few same fits = omega (arith, is, few, same, fits)

ends_room : (n go room : ℕ) → n ≡ go → 8 * go ≤ room → 8 * n ≤ room
ends_room n go room is fits = omega (arith, is, fits)

ends_reach : (n go next old : ℕ) → n ≡ go → 8 * go ≤ 512 → next ≡ old → old ≤ 2 ^ 62 → next + 8 * n < 2 ^ 63
ends_reach n go next old is few same fits = omega (arith, is, few, same, fits)

next_fits : (l : Long) (slots : ℕ) (e o : Outlet) → Reaches l slots (2 ^ 62) e o → next_place o ≤ 2 ^ 62
next_fits l slots e o reach = omega (arith, reach.slots_fit)

less_is : {m n : ℕ} → m < n → m ≤ n
less_is {m} {n} less = omega (arith, less)

room_fits : (n : ℕ) → n ≤ 8192 → n < 2 ^ 64
room_fits n few = omega (arith, few)

pub make_room-requires : goal.make_room-requires
make_room-requires g c =
    let b = c.args.block.now in
    subst (λ n. 512 * ((length c.slots.result.now - 1) / 64) ≤ n) (sym c.requires.size) (go_small b.len (length c.slots.result.now) (counted_slots b c.slots.result.now c.slots.ensures) b.sized.2).0

pub make_room-requires-2 : goal.make_room-requires-2
make_room-requires-2 g c =
    let b = c.args.block.now in
    subst (λ n. 8 * ((length c.slots.result.now - 1) / 64) ≤ n) (sym c.requires.ends_size) (go_small b.len (length c.slots.result.now) (counted_slots b c.slots.result.now c.slots.ensures) b.sized.2).1

pub put_numbers-requires : goal.put_numbers-requires
put_numbers-requires g c =
    let b = c.args.block.now in
    let go = (length c.slots.result.now - 1) / 64 in
    let few = go_less b.len (length c.slots.result.now) c.requires.some (counted_slots b c.slots.result.now c.slots.ensures) in
    let put = length-take-le (64 * go) c.slots-2.result.now (subst (λ n. 64 * go ≤ n) (sym (counted_slots b c.slots-2.result.now c.slots-2.ensures)) (less_is few)) in
    let one = c.in_ok-make_room.ensures in
    record { room = slots_room _ go _ put one.room; reach = slots_reach _ go b.len _ _ put (less_is few) one.place c.requires.reach.slots_fit }

pub put_numbers-requires-2 : goal.put_numbers-requires-2
put_numbers-requires-2 g c =
    let b = c.args.block.now in
    let go = (length c.slots.result.now - 1) / 64 in
    let counted = counted_slots b c.slots.result.now c.slots.ensures in
    let within = go_within b.len (length c.slots.result.now) b.len (length c.ends.result.now) c.requires.some counted refl (counted_ends b c.ends.result.now c.ends.ensures.value) in
    let put = length-take-le go c.ends.result.now within.1 in
    let two = c.in_ok-make_room-2.ensures in
    record {
      room = ends_room _ go _ put two.room;
      reach = ends_reach _ go _ _ put (go_small b.len (length c.slots.result.now) counted b.sized.2).1 two.place
          (ends_last c.args.long b.len (2 ^ 62) c.args.ends.now c.args.outlet.now c.requires.reach (2 ^ 62) (next_fits c.args.long b.len c.args.ends.now c.args.outlet.now c.requires.reach));
    }

pub drop_front-requires : goal.drop_front-requires
drop_front-requires g c =
    let b = c.args.block.now in
    go_less b.len (length c.slots.result.now) c.requires.some (counted_slots b c.slots.result.now c.slots.ensures)

pub slice_bounds-put_numbers-end : goal.slice_bounds-put_numbers-end
slice_bounds-put_numbers-end g c =
    let b = c.args.block.now in
    sym (length-take-le _ c.slots-2.result.now (subst (λ n. 64 * ((length c.slots.result.now - 1) / 64) ≤ n) (sym (counted_slots b c.slots-2.result.now c.slots-2.ensures))
    (less_is (go_less b.len (length c.slots.result.now) c.requires.some (counted_slots b c.slots.result.now c.slots.ensures)))))

pub slice_bounds-put_numbers-end-2 : goal.slice_bounds-put_numbers-end-2
slice_bounds-put_numbers-end-2 g c =
    let b = c.args.block.now in
    sym (length-take-le _ c.ends.result.now (go_within b.len (length c.slots.result.now) b.len (length c.ends.result.now) c.requires.some (counted_slots b c.slots.result.now c.slots.ensures) refl
    (counted_ends b c.ends.result.now c.ends.ensures.value)).1)

pub overflow_mul-words : goal.overflow_mul-words
overflow_mul-words g c =
    let b = c.args.block.now in
    record { fits = room_fits _ (go_small b.len (length c.slots.result.now) (counted_slots b c.slots.result.now c.slots.ensures) b.sized.2).0 }

-- ---- its ends

pub returns-in_err-make_room : goal.returns-in_err-make_room
returns-in_err-make_room g c =
    let p = err_from_is_err_and c.from_residual.result c.from_residual.ensures.1 in
    let l = c.args.long in
    let e = c.args.ends.now in
    let o = c.args.outlet.now in
    let one = c.in_err-make_room.ensures in
    rw p.1 (record {
      spilt = λ seen told later told_later width number limit pieces up spilt. tt;
      reach = λ slots end few reach. tt;
      failed = λ slots end reach. reaches_on l slots end e o e c.make_room.new.self (omega arith) refl one.at one.place reach;
      begin = tt;
      words = tt;
      room = tt;
      stays = refl;
      less = omega arith;
      size = one.size ∙ c.requires.size;
      ends_size = c.requires.ends_size;
      writes = λ begin end low high.
          writes_as (λ _. refl) (one.writes begin end (begin_first l c.args.block.now.len (2 ^ 62) e o c.requires.reach begin low).1 high);
    })

pub returns-in_err-make_room-2 : goal.returns-in_err-make_room-2
returns-in_err-make_room-2 g c =
    let p = err_from_is_err_and c.from_residual-in_err-make_room-2.result c.from_residual-in_err-make_room-2.ensures.1 in
    let l = c.args.long in
    let e = c.args.ends.now in
    let o = c.args.outlet.now in
    let one = c.in_ok-make_room.ensures in
    let two = c.in_err-make_room-2.ensures in
    rw p.1 (record {
      spilt = λ seen told later told_later width number limit pieces up spilt. tt;
      reach = λ slots end few reach. tt;
      failed = λ slots end reach. reaches_on l slots end e o c.make_room-2.new.self c.make_room.new.self two.at two.place one.at one.place reach;
      begin = tt;
      words = tt;
      room = tt;
      stays = refl;
      less = omega arith;
      size = one.size ∙ c.requires.size;
      ends_size = two.size ∙ c.requires.ends_size;
      writes = λ begin end low high.
          let first = begin_first l c.args.block.now.len (2 ^ 62) e o c.requires.reach begin low in
          writes_on g.met.B.Bay.since_earlier (one.writes begin end first.1 high)
          (writes_as (λ _. refl) (two.writes begin end first.0 (ends_last l c.args.block.now.len (2 ^ 62) e o c.requires.reach end high)));
    })

pub returns : goal.returns
returns g c =
    let l = c.args.long in
    let e = c.args.ends.now in
    let o = c.args.outlet.now in
    let b = c.args.block.now in
    let one = c.in_ok-make_room.ensures in
    let two = c.in_ok-make_room-2.ensures in
    let put = c.put_numbers.ensures in
    let put_ends = c.put_numbers-2.ensures in
    let go = (length c.slots.result.now - 1) / 64 in
    let counted = counted_slots b c.slots.result.now c.slots.ensures in
    let within = go_within b.len (length c.slots.result.now) (length c.slots-2.result.now) (length c.ends.result.now) c.requires.some counted
    (counted_slots b c.slots-2.result.now c.slots-2.ensures) (counted_ends b c.ends.result.now c.ends.ensures.value) in
    let dropped = c.drop_front.ensures.len in
    let left = left_of b.len (length c.slots.result.now) c.drop_front.new.self.len c.requires.some counted dropped in
    let slots_next : next_place c.put_numbers.new.self ≡ next_place o + 8 * (64 * go) =
    put.place ∙ ap₂ (λ m n. m + 8 * n) one.place (length-take-le (64 * go) c.slots-2.result.now within.0) in
    let ends_next : next_place c.put_numbers-2.new.self ≡ next_place e + 8 * go =
    put_ends.place ∙ ap₂ (λ m n. m + 8 * n) two.place (length-take-le go c.ends.result.now within.1) in
    let slots_at : o.at ≤ c.put_numbers.new.self.at = subst (λ n. o.at ≤ n) (sym put.at) one.at in
    let ends_at : e.at ≤ c.put_numbers-2.new.self.at = subst (λ n. e.at ≤ n) (sym put_ends.at) two.at in
    record {
      spilt = λ seen told later told_later width number limit pieces up spilt.
          let fits = ends_fit l b.len (2 ^ 62) e o c.requires.reach in
          let wrote_slots = one.writes l.slots (next_place o) c.requires.reach.slots_at (here (next_place o)) in
          let wrote_ends = two.writes (l.begin + 12) l.slots c.requires.reach.ends_at fits.0 in
          let mid = told_then wrote_slots.within told in
          let slots_mid = one.out seen told mid.0 mid.1 l.slots _ spilt.slots_out in
          let slots_later = out_within _ (l.begin + 12) l.slots l.slots _ c.make_room.new.self _ _ mid.0 later mid.1 told_later wrote_ends.within fits.2 (inr (here l.slots)) slots_mid in
          let ends_mid = out_within _ l.slots (next_place o) (l.begin + 12) _ e _ _ seen mid.0 told mid.1 wrote_slots.within fits.3 (inl fits.1) spilt.ends_out in
          let ends_later = two.out mid.0 mid.1 later told_later (l.begin + 12) _ ends_mid in
          let filled = c.drop_front.ensures.filled width number (64 * l.words) pieces spilt.filled in
          let slots_out = put.out l.slots _ (later FRAMES) slots_later in
          let ends_out = put_ends.out (l.begin + 12) _ (later FRAMES) ends_later in
          let sum = words_sum l.words go in
          let slots_are : c.slots-2.result.now ≡ drop (64 * l.words) (slots_of width pieces) = c.slots-2.ensures ∙ spilt.filled.slots in
          let bits = bits_within l.words go b.len c.drop_front.new.self.len (ends_of width pieces) (length_left width number (64 * l.words) pieces b spilt.filled b.sized.2 b.sized.1) left.0 dropped in
          record {
            ends_out = subst (λ (text : List ℕ). IsOut (l.begin + 12) text (later FRAMES) c.put_numbers-2.new.self)
                (ends_more l.words go (ends_of width pieces) c.ends.result.now bits (c.ends.ensures.words width number (64 * l.words) pieces spilt.filled)) ends_out;
            slots_out = subst (λ (text : List ℕ). IsOut l.slots text (later FRAMES) c.put_numbers.new.self)
                (slots_more (64 * l.words) (64 * go) (slots_of width pieces) c.slots-2.result.now slots_are ∙ ap (λ n. numbers_text (take n (slots_of width pieces))) sum) slots_out;
            filled = subst (λ n. IsFilled width number n pieces c.drop_front.new.self) sum filled;
          };
      reach = λ slots end few reach. reaches_more l slots end go b.len c.drop_front.new.self.len e o c.put_numbers-2.new.self c.put_numbers.new.self few dropped
          ends_at ends_next slots_at slots_next reach;
      failed = λ slots end reach. tt;
      begin = refl;
      words = words_are l.words go b.len c.drop_front.new.self.len dropped;
      room = left;
      stays = tt;
      less = less_than c.drop_front.new.self.len b.len (64 * go) dropped;
      size = put.size ∙ (one.size ∙ c.requires.size);
      ends_size = put_ends.size ∙ (two.size ∙ c.requires.ends_size);
      writes = λ begin end low high.
          let first = begin_first l b.len (2 ^ 62) e o c.requires.reach begin low in
          writes_on g.met.B.Bay.since_earlier (one.writes begin end first.1 high)
          (writes_as (λ is. is) (two.writes begin end first.0 (ends_last l b.len (2 ^ 62) e o c.requires.reach end high)));
    }
