-- What the reader answers, by what clap answers.
use Rattle.std.proofs.{Common.{◌≡◌, ◌∙◌, ℕ, ◌||◌, Bool, true, false, List, [], ◌∷◌, map, Option, Some, None, inl, inr, refl, sym, ap, ap₂, subst}, lemmas.List.Folds.list_all-map}
use Rattle.std.specs.{Prelude.{◌≢◌, codes, is_some, option_and_then}, Borrow.Bor, List.list_all, Str.bytes_eq}
use Rattle.clap.specs.{Walk.{Row, Text, first_of, rows_of}, Words.{App, fault_of, first_value, matches_of}, Kinds.{HasKind, IsAmong, Kinds}, Values.kind_of, declared.error.Error.Error}
use Rattle.clap.specs.{declared.error.kind.ErrorKind.ErrorKind, declared.error.kind.ErrorKind.TheVariants.OutOfMemory, declared.parser.matches.Found.Found}
use Rattle.clap.proofs.WalkLemmas.{first_value-rows}
use Rattle.lert_args.specs.{App.{app_with, is_read}, Word.number_of, Said.{Said, is_among, spelt, value_given}, Scan.places_from, declared.scan.Stand.TheVariants.Between}
use Rattle.lert_args.proofs.{Answering.{Told, all_read, told}, Texts.same_text, Turning.fails}

-- options' values that are the same for each name among them
values_same : (g h : Text → Option ℕ) (options : List (Bor Text)) → ((name : Text) → is_among (map (λ o. o.now) options) name ≡ true → g name ≡ h name)
    → map (λ o. g o.now) options ≡ map (λ o. h o.now) options
values_same g h [] same = refl
values_same g h (option ∷ options) same =
    ap₂ (λ x xs. x ∷ xs) (same option.now (ap (λ b. b || is_among (map (λ o. o.now) options) option.now) (same_text option.now)))
    (values_same g h options (λ name among. same name (later (bytes_eq option.now name) (is_among (map (λ o. o.now) options) name) among)))
  where
    later : (a b : Bool) → b ≡ true → (a || b) ≡ true
    later true b is = refl
    later false b is = is

among_fails : (k : ErrorKind) (kinds : Kinds) → IsAmong k kinds → fails kinds ≡ true
among_fails k [] among = absurd among
among_fails k (kind ∷ kinds) among = refl

module _ (options : List (Bor Text)) (words : List Text) (clear : is_among (map (λ o. o.now) options) (codes "NAMES") ≡ false) (taken : is_some (places_from 1 words Between) ≡ true) (app : App)
    (is : app ≡ app_with (map (λ o. o.now) options)) where
  abbrev names : List Text
  names = map (λ (o : Bor Text). o.now) options

  abbrev rows : List Row
  rows = matches_of (app_with names) words

  abbrev texts : Text → Option Text
  texts name = first_of name rows

  -- clap's error
  pub refused_said : (e : Error) → HasKind (fault_of app words) e → kind_of e ≢ OutOfMemory → spelt names words ≡ None
  refused_said e (inl memory) other = absurd (other memory)
  refused_said e (inr among) other =
      let failed = sym (ap (λ a. fails (fault_of a words)) is) ∙ among_fails (kind_of e) (fault_of app words) among in
      subst (λ b. Told names words b (all_read names texts) texts) failed (told names words clear taken)

  module _ (f : Found) (found : rows_of f ≡ matches_of app words) (passed : fault_of app words ≡ []) where
    abbrev reads : Bool
    reads = list_all (λ (o : Bor Text). is_read (first_value f o.now)) options

    text_is : (name : Text) → first_value f name ≡ texts name
    text_is name = first_value-rows f name ∙ ap (first_of name) (found ∙ ap (λ a. matches_of a words) is)

    reads_are : all_read names texts ≡ reads
    reads_are = list_all-map (λ name. is_read (texts name)) (λ (o : Bor Text). o.now) options ∙ (λ i. list_all (λ (o : Bor Text). is_read (sym (text_is o.now) i)) options)

    told_by : (b : Bool) → reads ≡ b → Told names words false b texts
    told_by b reads_is =
        subst (λ x. Told names words x b texts) (ap fails (sym (ap (λ a. fault_of a words) is) ∙ passed))
        (subst (λ x. Told names words (fails (fault_of (app_with names) words)) x texts) (reads_are ∙ reads_is) (told names words clear taken))

    -- a value that is no number
    pub unread_said : reads ≡ false → spelt names words ≡ None
    unread_said unread = told_by false unread

    -- what is said
    pub given_said : reads ≡ true → (items : List (Option ℕ)) → items ≡ map (λ o. option_and_then number_of (first_value f o.now)) options
        → (s : Said) × (spelt names words ≡ Some s) × (places_from 1 words Between ≡ Some s.names) × (items ≡ map (λ o. value_given s o.now) options)
    given_said all items items_are =
        let t = told_by true all in (
          t.said,
          t.spelt,
          t.found,
          items_are ∙ values_same (λ name. option_and_then number_of (first_value f name)) (λ name. value_given t.said name) options
              (λ name among. ap (option_and_then number_of) (text_is name) ∙ sym (t.values name among)),
        )
