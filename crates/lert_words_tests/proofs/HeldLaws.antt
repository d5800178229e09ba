-- What is held of the words that were read.
use Rattle.std.proofs.Common.{◌≡◌, ℕ, zero, suc, ◌<◌, Bool, true, false, cond, List, [], ◌∷◌, ◌++◌, length, get_or}
use Rattle.std.proofs.Common.{map, take, drop, Option, Some, None, Ok, Err, MatchOption, refl, ap, ap₂, sym, ◌∙◌, arith, Bor}
use Rattle.std.specs.Prelude.{codes, is_some}
use Rattle.std.specs.List.{after_first, before_first, list_any, position_or_len}
use Rattle.std.specs.Str.{bytes_eq}
use Rattle.std.proofs.Math.Seq.{take-append_seam, take-length}
use Rattle.std.proofs.lemmas.List.Folds.{list_any_at, list_any_none}
use Rattle.std.proofs.lemmas.List.Sums.{fails_before_first, passes_at_first}
use Rattle.lert_args.specs.Said.{Given, Reading, awaits, between, ends, kind_of, is_among, is_equals_sign, option_kind, refused, valued}
use Rattle.lert_words_tests.specs.Steps.{Shows, State, Steps, giving, going, names_of_given, naming, reading_of, value_among}
use Rattle.lert_args.specs.Lookups.{texts}
use Rattle.lert_words_tests.specs.declared.by_hand.Given.{Given as Held}
use Rattle.lert_words_tests.specs.declared.by_hand.Stage.{Stage}
use Rattle.lert_words_tests.specs.declared.by_hand.Stage.TheVariants.{Between}
use Rattle.lert_words_tests.specs.declared.by_hand.HandFault.{HandFault}
use Rattle.lert_words_tests.specs.declared.by_hand.HandFault.TheVariants.{Faulty}
use Rattle.lert_words_tests.proofs.ValueLaws.{is_some-value_among}

module _ (options : List (Bor (List ℕ))) where
  -- a refusal
  pub Steps-none : (held : Held) (after : Option State) (error : HandFault) → (error ≡ Faulty → after ≡ None) → Steps options held (Err error) after
  Steps-none held after error is = record { ok = tt; err = is }

  -- a step that changes the place of the reading alone
  pub Steps-going : (held : Held) (stage next : Stage) (s : State) (reading : Reading) → Shows options held stage s → reading_of options next ≡ reading →
      Steps options held (Ok next) (going s reading)
  Steps-going held stage next s reading shows is = record {
    ok = (record { given = s.given; names = s.names; reading = reading }, refl, record { values = shows.values; names = shows.names; reading = is });
    err = tt;
  }

  -- a name more
  pub Steps-naming : (held now : Held) (stage next : Stage) (s : State) (place : ℕ) (reading : Reading) (b : Bool) → Shows options held stage s → b ≡ true →
      now.values.items ≡ held.values.items → now.names.items ≡ held.names.items ++ place ∷ [] → reading_of options next ≡ reading →
      Steps options now (Ok next) (cond b (naming s place reading) None)
  Steps-naming held now stage next s place reading b shows passes same more is = record {
    ok = (
      record { given = s.given; names = s.names ++ place ∷ []; reading = reading },
      ap (λ t. cond t (naming s place reading) None) passes,
      record { values = same ∙ shows.values; names = more ∙ ap (λ names. names ++ place ∷ []) shows.names; reading = is },
    );
    err = tt;
  }

-- the value that is held of an option at a place
at_text : (f : List ℕ → Option ℕ) (options : List (Bor (List ℕ))) (k : ℕ) (d : Option ℕ) → k < length options →
    get_or (map (λ option. f option.now) options) k d ≡ f (get_or (texts options) k [])
at_text f [] k d below = absurd (omega arith)
at_text f (option ∷ options) zero d below = refl
at_text f (option ∷ options) (suc k) d below = at_text f options k d (omega arith)

-- the text of an option at a place
pub text_at : (options : List (Bor (List ℕ))) (k : ℕ) (d : Bor (List ℕ)) → k < length options → (get_or options k d).now ≡ get_or (texts options) k []
text_at [] k d below = absurd (omega arith)
text_at (option ∷ options) zero d below = refl
text_at (option ∷ options) (suc k) d below = text_at options k d (omega arith)

module _ (options : List (Bor (List ℕ))) (held : Held) (stage : Stage) (s : State) (option value : ℕ) (number : Option ℕ)
    (got : Option ℕ)
    (shows : Shows options held stage s) (within : option < length options) (spelled : number ≡ Some value) (read : got ≡ get_or held.values.items option got) where
  -- whether it is given so far
  among_held : (b : Bool) → is_some got ≡ b → is_among (names_of_given s.given) (get_or (texts options) option []) ≡ b
  among_held b is =
      sym (is_some-value_among s.given (get_or (texts options) option []))
      ∙ ap is_some (sym (at_text (value_among s.given) options option got within) ∙ ap (λ values. get_or values option got) (sym shows.values) ∙ sym read) ∙ is

  giving_is : (b : Bool) → is_some got ≡ b →
      giving s (get_or (texts options) option []) number
      ≡ cond b None (Some (record { given = s.given ++ record { name = get_or (texts options) option []; value = value } ∷ []; names = s.names; reading = between }))
  giving_is b is =
      ap (giving s (get_or (texts options) option [])) spelled
      ∙ ap (λ t. cond t None (Some (record { given = s.given ++ record { name = get_or (texts options) option []; value = value } ∷ []; names = s.names; reading = between })))
      (among_held b is)

  -- an option that is given twice
  pub Steps-twice : is_some got ≡ true → Steps options held (Err Faulty) (giving s (get_or (texts options) option []) number)
  Steps-twice is = Steps-none options held _ Faulty (λ same. giving_is true is)

  -- and one that is given once
  pub Steps-giving : (now : Held) (name : List ℕ) → name ≡ get_or (texts options) option [] → is_some got ≡ false →
      now.names.items ≡ held.names.items →
      ((given : List Given) → held.values.items ≡ map (λ option. value_among given option.now) options → is_among (names_of_given given) name ≡ false →
      now.values.items ≡ map (λ option. value_among (given ++ record { name = name; value = value } ∷ []) option.now) options) →
      Steps options now (Ok Between) (giving s (get_or (texts options) option []) number)
  Steps-giving now name named is same put = record {
    ok = (
      record { given = s.given ++ record { name = get_or (texts options) option []; value = value } ∷ []; names = s.names; reading = between },
      giving_is false is,
      record {
        values =
            put s.given shows.values (ap (is_among (names_of_given s.given)) named ∙ among_held false is)
            ∙ ap (λ n. map (λ option. value_among (s.given ++ record { name = n; value = value } ∷ []) option.now) options) named;
        names = same ∙ shows.names;
        reading = refl;
      },
    );
    err = tt;
  }

-- what a word is, by the parts of what stands behind its hyphens
module _ (options : List (List ℕ)) (text name : List ℕ) (named : name ≡ before_first is_equals_sign text) where
  by_kind : (among : Bool) → is_among options name ≡ among → (any : Bool) → list_any is_equals_sign text ≡ any →
      option_kind options text
      ≡ cond among (cond any (valued (before_first is_equals_sign text) (after_first is_equals_sign text)) (awaits text)) refused
  by_kind among is any has =
      ap (λ b. cond b (cond (list_any is_equals_sign text) (valued (before_first is_equals_sign text) (after_first is_equals_sign text)) (awaits text)) refused)
      (ap (is_among options) (sym named) ∙ is)
      ∙ ap (λ b. cond among (cond b (valued (before_first is_equals_sign text) (after_first is_equals_sign text)) (awaits text)) refused) has

  pub kind-refused : is_among options name ≡ false → option_kind options text ≡ refused
  kind-refused is = by_kind false is (list_any is_equals_sign text) refl

  pub kind-valued : (value : List ℕ) → is_among options name ≡ true → list_any is_equals_sign text ≡ true → value ≡ after_first is_equals_sign text → option_kind options text ≡ valued name value
  kind-valued value is has same = by_kind true is true has ∙ ap₂ valued (sym named) (sym same)

  pub kind-awaits : is_among options name ≡ true → list_any is_equals_sign text ≡ false → option_kind options text ≡ awaits text
  kind-awaits is none = by_kind true is false none

-- a text around its first equals sign
pub around_first : (text : List ℕ) (result : Option (Bor (List ℕ) × Bor (List ℕ))) → MatchOption result (position_or_len is_equals_sign text ≡ length text)
    (λ x. (position_or_len is_equals_sign text < length text) × (x.0.now ≡ before_first is_equals_sign text) × (x.1.now ≡ after_first is_equals_sign text)) →
    MatchOption result ((list_any is_equals_sign text ≡ false) × (before_first is_equals_sign text ≡ text))
    (λ x. (list_any is_equals_sign text ≡ true) × (x.0.now ≡ before_first is_equals_sign text) × (x.1.now ≡ after_first is_equals_sign text))
around_first text None is = (list_any_none is_equals_sign text (λ k d below. fails_before_first is_equals_sign text k d (omega (arith, below, is))), ap (λ n. take n text) is ∙ take-length text)
around_first text (Some x) is =
    (list_any_at is_equals_sign text (position_or_len is_equals_sign text) 0 is.0 (passes_at_first is_equals_sign text 0 is.0), is.1, is.2)

pub kind-ends : (options : List (List ℕ)) (word : List ℕ) → bytes_eq word (codes "--") ≡ true → kind_of options word ≡ ends
kind-ends options word is = rw is refl

-- a list that was written over as a whole
pub written_back : {V : Type 0} (n : ℕ) (new items : List V) → length new ≡ n → take n (new ++ drop (length new) items) ≡ new
written_back n new items len = ap (λ k. take k (new ++ drop (length new) items)) (sym len) ∙ take-append_seam new (drop (length new) items)
