use Rattle.std.{proofs.Common.{◌≡◌, ◌+◌, ◌*◌, ◌^◌, ◌<◌, ◌≤◌, ◌∙◌, ℕ, drop, refl, ap, ap₂, subst, arith}, proofs.Math.Nat.mul-le-mul_right}
use Rattle.lert_blocks.{specs.Frame.blocks_len, specs.Text.word_count}
use Rattle.lert_frames.{specs.Window.place_of, proofs.StepLaws.found_started}
use Rattle.lert_frames.proofs.decoder.Decoder.start.Goals as goal

pub returns-clause-found : goal.returns-clause-found
returns-clause-found c file =
    let started = c.start.ensures in
    found_started c.args.width c.args.place c.args.blocks c.args.most _ _ c.start.new.self c.args.self.now.ends file refl refl refl started.place (started.come file)

pub returns-clause-between : goal.returns-clause-between
returns-clause-between c =
    let started = c.start.ensures in
    record {
      from = omega (arith, started.place);
      within = omega (arith, started.place);
      ends = λ some. absurd (omega (arith, some));
    }

pub returns-clause-end : goal.returns-clause-end
returns-clause-end c file =
    let started = c.start.ensures in
    let here : c.args.place + 0 ≡ c.args.place = omega arith in
    ap₂ (λ place bytes. place + 0 + blocks_len c.args.blocks bytes) started.place (started.come file)
    ∙ ap (λ place. place + blocks_len c.args.blocks (drop c.args.place file)) here

-- the first block's quotients are some of all
first_tails : (blocks power : ℕ) → 1 ≤ blocks → 64 * blocks * power ≤ 2 ^ 64 → 64 * power ≤ 2 ^ 64
first_tails blocks power some all =
    let more : 1 * power ≤ blocks * power = mul-le-mul_right power some in
    omega (arith, more, all)

all_tails : (blocks power : ℕ) → 64 * blocks * power ≤ 2 ^ 64 → 64 * (0 + blocks) * power ≤ 2 ^ 64
all_tails blocks power all = let same : blocks ≡ 0 + blocks = omega arith in subst (λ n. 64 * n * power ≤ 2 ^ 64) same all

reaches : (at place blocks most : ℕ) → at ≡ place → place + 20 * blocks + 9 * most < 2 ^ 43 → at + 0 + 20 * blocks + 9 * most < 2 ^ 43
reaches at place blocks most is reach = omega (arith, is, reach)

front_near : (at more : ℕ) → at + more < 2 ^ 43 → at + 0 < 2 ^ 43
front_near at more near = omega (arith, near)

pub invariant_of-self : goal.invariant_of-self
invariant_of-self c =
    let started = c.start.ensures in
    let old = c.args.self.now.standing in
    let wants = c.requires in
    let ends = c.args.self.now.ends in
    record {
      standing = record {
        narrow = wants.narrow;
        wide = wants.wide;
        first = first_tails c.args.blocks (2 ^ c.args.width) wants.some wants.tails;
        tails = all_tails c.args.blocks (2 ^ c.args.width) wants.tails;
        order = λ some. absurd (omega (arith, some));
        least = omega arith;
        from = omega arith;
        near = omega arith;
        hand = omega arith;
        word = λ some. absurd (omega (arith, some));
        most = omega (arith, wants.most);
        some = omega arith;
        count = wants.count;
        reach = reaches (place_of c.start.new.self) c.args.place c.args.blocks c.args.most started.place wants.reach;
        ends_reach = front_near (place_of ends) (8 * word_count c.args.self.now.block.some) old.ends_reach;
        window_room = started.room ∙ old.window_room;
        ends_room = old.ends_room;
        slots_room = old.slots_room;
      };
    }
