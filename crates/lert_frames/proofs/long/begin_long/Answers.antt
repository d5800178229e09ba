use Rattle.std.proofs.Common.{◌≡◌, ℕ, ◌+◌, ◌*◌, ◌^◌, ◌<◌, ◌≤◌, refl, sym, subst, arith}
use Rattle.lert_blocks.specs.Text.{word_count}
use Rattle.lert_frames.{specs.Outlet.next_place, specs.Spilt.{Reaches, block_bytes}, specs.declared.outlet.Outlet.Outlet}
use Rattle.lert_frames.proofs.long.begin_long.Goals as goal

-- nothing is out yet
reaches_begun : (begin words most end : ℕ) (e o : Outlet) → words ≡ word_count most → begin + block_bytes most ≤ end → e.at ≡ begin + 12 → next_place e ≡ begin + 12 →
    o.at ≡ begin + 12 + 8 * words → next_place o ≡ begin + 12 + 8 * words → Reaches (record { begin = begin; slots = begin + 12 + 8 * words; words = 0 }) most end e o
reaches_begun begin words most end e o words_are fits ends_at ends_next at next = record {
  ends_at = omega (arith, ends_at);
  ends_next = omega (arith, ends_next);
  words_fit = omega (arith, ends_next, words_are);
  slots_at = omega (arith, at);
  slots_next = omega (arith, next);
  slots_fit = omega (arith, next, words_are, fits);
}

begin_near : (begin most place : ℕ) → begin ≡ place → place + block_bytes most < 2 ^ 62 → begin + 12 < 2 ^ 63
begin_near begin most place is fits = omega (arith, is, fits)

slots_near : (begin words most place : ℕ) → begin ≡ place → place + block_bytes most < 2 ^ 62 → words ≡ word_count most → begin + 12 + 8 * words < 2 ^ 63
slots_near begin words most place is fits words_are = omega (arith, is, fits, words_are)

pub start-requires : goal.start-requires
start-requires c = begin_near c.place-begin.result c.args.most _ c.place-begin.ensures c.requires

pub start-requires-2 : goal.start-requires-2
start-requires-2 c =
    let words : c.div_ceil.result ≡ word_count c.args.most = omega (arith, c.div_ceil.ensures) in
    slots_near c.place-begin.result c.div_ceil.result c.args.most _ c.place-begin.ensures c.requires words

pub returns : goal.returns
returns c =
    let words : c.div_ceil.result ≡ word_count c.args.most = omega (arith, c.div_ceil.ensures) in
    record {
      spilt = λ width number pieces file block filled. record { ends_out = c.start.ensures.out file; slots_out = c.start-2.ensures.out file; filled = filled };
      begin = c.place-begin.ensures;
      words = refl;
      reach = λ end fits.
          reaches_begun c.place-begin.result c.div_ceil.result c.args.most end c.start.new.self c.start-2.new.self words
          (subst (λ n. n + block_bytes c.args.most ≤ end) (sym c.place-begin.ensures) fits) c.start.ensures.at c.start.ensures.place c.start-2.ensures.at c.start-2.ensures.place;
      size = c.start-2.ensures.size;
      ends_size = c.start.ensures.size;
    }
