use Rattle.std.proofs.{Common.{◌≡◌, ℕ, [], ◌∷◌, ◌∙◌, List, length, refl, sym, ap, subst, arith}, lemmas.List.nil_from_length}
use Rattle.lert_worker.specs.Ran.{AreGiven, IsGivenBack, Worked}
use Rattle.lert_worker.proofs.Given.{given_tail}
use Rattle.lert_worker.proofs.parts.Parts+TraceReader+S+FleetPass+H.take_back.Goals as goal

-- what stands inside is what was lent
given_back : {T P : Type 0} (trace : ℕ) (reader : T) (inside old new : Worked T P) → inside ≡ old → inside.traces ≡ trace ∷ new.traces → inside.readers ≡ reader ∷ new.readers →
    new ≡ record inside { traces = new.traces; readers = new.readers } → IsGivenBack trace reader old new
given_back trace reader inside old new is traces_are readers_are others_are =
    subst (λ w. IsGivenBack trace reader w new) is (record { traces_are = traces_are; readers_are = readers_are; others_are = others_are })

pub returns : goal.returns
returns g c =
    given_back c.in-Some.trace c.in-Some-pop_front.reader _ c.args.self.now _ c.self.view_is c.in-Some.ensures.items c.in-Some-pop_front.ensures.items refl

pub invariant_of-self : goal.invariant_of-self
invariant_of-self g c = (c.self.invariant.0, subst (λ (ts : List ℕ). AreGiven ts c.self.inside.readers.items) c.in_default.ensures.items c.self.invariant.1)

-- as many readers as traces, so none of either
none_back : {T P : Type 0} (inside old new : Worked T P) → inside ≡ old → length inside.traces ≡ 0 → length inside.readers ≡ length inside.traces →
    inside.traces ≡ new.traces → new ≡ record inside { traces = new.traces } → (old.traces ≡ []) × (old.readers ≡ []) × (new ≡ old)
none_back inside old new is none many same others = (
  subst (λ w. w.traces ≡ []) is (nil_from_length inside.traces none),
  subst (λ w. w.readers ≡ []) is (nil_from_length inside.readers (many ∙ none)),
  others ∙ ap (λ traces. record inside { traces = traces }) (sym same) ∙ is,
)

pub returns-in_default : goal.returns-in_default
returns-in_default g c =
    none_back _ c.args.self.now _ c.self.view_is (sym c.self.inside.traces.ok.0 ∙ c.in_default.ensures.cases.0) c.self.invariant.1.as_many c.in_default.ensures.items refl

one_left : {T : Type 0} (trace : ℕ) (traces rest : List ℕ) (readers : List T) → traces ≡ trace ∷ rest → length readers ≡ length traces → length readers ≡ 0 → ⊥
one_left trace traces rest readers is many none = absurd (omega (arith, many, none, ap (length {A = ℕ}) is))

pub unreachable-requires : goal.unreachable-requires
unreachable-requires g c =
    one_left c.in-Some.trace c.self.inside.traces.items c.pop_front.new.self.items c.self.inside.readers.items c.in-Some.ensures.items c.self.invariant.1.as_many
    (sym c.self.inside.readers.ok.0 ∙ c.in_default-pop_front.ensures.cases.0)

pub invariant_of-self-2 : goal.invariant_of-self-2
invariant_of-self-2 g c = (
  c.self.invariant.0,
  given_tail c.self.inside.traces.items c.pop_front.new.self.items c.self.inside.readers.items c.pop_front-2.new.self.items c.in-Some.trace c.in-Some-pop_front.reader
      c.in-Some.ensures.items c.in-Some-pop_front.ensures.items c.self.invariant.1,
)
