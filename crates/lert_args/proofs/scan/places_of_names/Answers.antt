use Rattle.std.proofs.Common.{ℕ, ◌+◌, ◌≤◌, [], ◌≡◌, ◌∙◌, Some, length, Vec, Global, vec_len, vec_capacity, refl, sym, ap, subst, arith}
use Rattle.lert_args.specs.declared.scan.Turn.TheVariants.{Name, Other}
use Rattle.lert_args.proofs.{Scanning.{ended, named, nothing, passed}, scan.places_of_names.Goals.{in-Some-Name, in-Some-Other}}
use Rattle.lert_args.proofs.scan.places_of_names.Goals as goal

pub returns-in-None : goal.returns-in-None
returns-in-None c = record {
  places = tt;
  refused = λ rule usage. (
    cc,
    nothing c.args.words.now c.loop-index.stand c.loop-index.index c.loop-index.places.items _ c.loop-index.invariant.all (record { ref_ptr = (0, 0); now = [] })
        c.turn_of.result c.loop-index-test.true c.turn_of.ensures c.in-None.is,
  );
}

pub loop-index-preserved : goal.loop-index-preserved
loop-index-preserved c = elim c.match-this.branch [
  | in-Some-Other w ↦ let other : c.turn_of.result ≡ Some (Other c.match-this.stand) = cc in record {
    all = passed c.args.words.now c.loop-index.stand c.loop-index.index c.loop-index.places.items _ c.loop-index.invariant.all
        (record { ref_ptr = (0, 0); now = [] }) c.turn_of.result c.match-this.stand c.match-this.places.items c.loop-index-test.true c.turn_of.ensures
        other (ap (λ (p : Vec ℕ Global). p.items) w.places-is);
    room = subst (λ (p : Vec ℕ Global). length c.args.words.now ≤ vec_capacity p) (sym w.places-is) c.loop-index.invariant.room;
    number = subst (λ (p : Vec ℕ Global). vec_len p ≤ c.loop-index.index + 1) (sym w.places-is) (omega (arith, c.loop-index.invariant.number));
  }
  | in-Some-Name w ↦ let name : c.turn_of.result ≡ Some (Name c.match-this.stand) = cc in record {
    all = named c.args.words.now c.loop-index.stand c.loop-index.index c.loop-index.places.items _ c.loop-index.invariant.all
        (record { ref_ptr = (0, 0); now = [] }) c.turn_of.result c.match-this.stand c.match-this.places.items c.loop-index-test.true c.turn_of.ensures
        name (ap (λ (p : Vec ℕ Global). p.items) w.places-is ∙ w.push_reserved.ensures.items);
    room = subst (λ (p : Vec ℕ Global). length c.args.words.now ≤ vec_capacity p) (sym w.places-is) (omega (arith, c.loop-index.invariant.room, w.push_reserved.ensures.capacity));
    number = subst (λ (p : Vec ℕ Global). vec_len p ≤ c.loop-index.index + 1) (sym w.places-is) (omega (arith, c.loop-index.invariant.number, w.push_reserved.ensures.len));
  }
]

pub returns : goal.returns
returns c = record {
  places = ended c.args.words.now c.loop-index.stand c.loop-index.index c.loop-index.places.items _ c.loop-index.invariant.all c.loop-index-test.false;
  refused = tt;
}
