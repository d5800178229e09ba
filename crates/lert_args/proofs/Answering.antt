-- What is said of the words, by what clap answers.
use Rattle.std.proofs.Common.{◌≡◌, ◌∙◌, Bool, true, false, cond, List, [], ◌∷◌, Option, Some, None, refl, sym, ap, subst, option_map, true≢false}
use Rattle.std.specs.{Prelude.{codes, is_some, option_and_then, slice_get}, List.{find, list_all}, Str.bytes_eq}
use Rattle.clap.specs.{Walk.{Row, Text, first_of, nothing_held}, Simple.matches_of, Kinds.Kinds, Faults.fault_of}
use Rattle.lert_args.specs.{App.{app_with, is_read}, Word.number_of, Said.{Given, Said, are_distinct, between, is_among, names_given, said, said_once, spelt, value_given}, Scan.places_from}
use Rattle.lert_args.specs.declared.scan.Stand.TheVariants.{Between}
use Rattle.lert_args.proofs.{Among.{AreKnown, all_among, each_among, heard_known}, Ending.{Ended, Taken, moved}, Finding.{FoundBy, found}}
use Rattle.lert_args.proofs.{Heard.{Heard, Use, heard, numbered, numbers, said-heard, said_of}, Numbers.{numbers_exist, numbers_read, text_of, use_names}, Reaching.{fault_is, matches_are}}
use Rattle.lert_args.proofs.{Rows.{fresh_first, joined, row_with, seen, seen_nothing, use_row}, Turning.fails, Walking.walk_ends}

-- the text of an option, by its row
use_row-text : (name : Text) (uses : List Use) → option_and_then (λ (r : Row). slice_get r.values 0) (use_row name uses) ≡ text_of name uses
use_row-text name [] = refl
use_row-text name (one ∷ uses) = go (bytes_eq one.name name) (use_row-text name uses)
  where
    go : (b : Bool) → option_and_then (λ (r : Row). slice_get r.values 0) (use_row name uses) ≡ text_of name uses
        → option_and_then (λ (r : Row). slice_get r.values 0) (joined (cond b (Some (row_with one.name one.text)) None) (use_row name uses))
        ≡ option_map (λ (u : Use). u.text) (cond b (Some one) (find (λ u. bytes_eq u.name name) uses))
    go true same = refl
    go false same = same

-- what is told of the words where clap takes them
pub record IsSpelt (options words : List Text) (texts : Text → Option Text) : Type 0 where
  pub said : Said
  pub spelt : Rattle.lert_args.specs.Said.spelt options words ≡ Some said
  pub found : places_from 1 words Between ≡ Some said.names
  pub values : (name : Text) → is_among options name ≡ true → value_given said name ≡ option_and_then number_of (texts name)

abbrev pub all_read : List Text → (Text → Option Text) → Bool
all_read options texts = list_all (λ name. is_read (texts name)) options

-- what clap's answer tells, by its faults and its texts
abbrev pub Told : List Text → List Text → Bool → Bool → (Text → Option Text) → Type 0
Told options words true reads texts = spelt options words ≡ None
Told options words false true texts = IsSpelt options words texts
Told options words false false texts = spelt options words ≡ None

module _ (options words : List Text) where
  abbrev once : Option Heard → Option Said
  once o = option_and_then said_once (option_and_then numbered o)

  spelt-heard : (o : Option Heard) → heard options 1 words between ≡ o → spelt options words ≡ once o
  spelt-heard o is = ap (option_and_then said_once) (said-heard options 1 words between) ∙ ap once is

  module _ (h : Heard) (is : heard options 1 words between ≡ Some h) where
    -- an option that is given twice
    not_once : are_distinct (use_names h.uses) ≡ false → spelt options words ≡ None
    not_once twice = spelt-heard (Some h) is ∙ go (numbers h.uses) refl
      where
        go : (given : Option (List Given)) → numbers h.uses ≡ given → option_and_then said_once (option_map (said_of h.names) given) ≡ None
        go None given_is = refl
        go (Some given) given_is = ap (λ b. cond b (Some (said_of h.names given)) None) (ap are_distinct (numbers_read h.uses given given_is).names ∙ twice)

    known : list_all (is_among options) (use_names h.uses) ≡ true
    known = subst (AreKnown options) is (heard_known options words 1 between tt)

    places : places_from 1 words Between ≡ Some h.names
    places = subst (λ o. FoundBy (places_from 1 words Between) o) is (found options 1 words between)

    module _ (texts : Text → Option Text) (distinct : are_distinct (use_names h.uses) ≡ true) (told : (name : Text) → is_among options name ≡ true → texts name ≡ text_of name h.uses) where
      by_numbers : (reads : Bool) → all_read options texts ≡ reads → (given : Option (List Given)) → numbers h.uses ≡ given → Told options words false reads texts
      by_numbers true all None none =
          let some = numbers_exist options h.uses distinct known (λ name among. ap is_read (sym (told name among)) ∙ each_among (λ n. is_read (texts n)) options name all among) in
          absurd (true≢false (sym some ∙ ap is_some none))
      by_numbers true all (Some given) given_is =
          let numbered = numbers_read h.uses given given_is in
          record {
            said = said_of h.names given;
            spelt = spelt-heard (Some h) is ∙ ap (λ g. option_and_then said_once (option_map (said_of h.names) g)) given_is
                ∙ ap (λ b. cond b (Some (said_of h.names given)) None) (ap are_distinct numbered.names ∙ distinct);
            found = places;
            values = λ name among. numbered.values name ∙ ap (option_and_then number_of) (sym (told name among));
          }
      by_numbers false some None none = spelt-heard (Some h) is ∙ ap (λ g. option_and_then said_once (option_map (said_of h.names) g)) none
      by_numbers false some (Some given) given_is =
          let all = all_among (λ n. is_read (texts n)) options (λ name among. ap is_read (told name among) ∙ (numbers_read h.uses given given_is).reads name) in
          absurd (true≢false (sym all ∙ some))

  module _ (clear : is_among options (codes "NAMES") ≡ false) (taken : is_some (places_from 1 words Between) ≡ true) where
    abbrev rows : List Row
    rows = matches_of (app_with options) words

    abbrev kinds : Kinds
    kinds = fault_of (app_with options) words

    ended : Ended options (seen options []) (heard options 1 words between) kinds rows
    ended = moved options (seen options []) (seen options []) _ _ _ _ _ (λ name. refl) (fault_is options words) (matches_are options words)
        (walk_ends options clear words 1 nothing_held taken refl)

    abbrev texts : Text → Option Text
    texts name = first_of name rows

    by_taken : (h : Heard) → heard options 1 words between ≡ Some h → (d : Bool) → are_distinct (use_names h.uses) ≡ d → Taken options d (seen options []) h.uses kinds rows
        → Told options words (fails kinds) (all_read options texts) texts
    by_taken h is false twice bad = subst (λ b. Told options words b (all_read options texts) texts) (sym bad) (not_once h is twice)
    by_taken h is true distinct good =
        subst (λ b. Told options words b (all_read options texts) texts) (sym (ap fails good.0))
        (by_numbers h is texts distinct
        (λ name among. ap (option_and_then (λ (r : Row). slice_get r.values 0)) (good.1 name among ∙ ap (λ o. joined o (use_row name h.uses)) (seen_nothing options name)) ∙ use_row-text name h.uses)
        (all_read options texts) refl (numbers h.uses) refl)

    by_heard : (o : Option Heard) → heard options 1 words between ≡ o → Ended options (seen options []) o kinds rows → Told options words (fails kinds) (all_read options texts) texts
    by_heard None is bad = subst (λ b. Told options words b (all_read options texts) texts) (sym bad) (spelt-heard None is)
    by_heard (Some h) is e =
        by_taken h is (are_distinct (use_names h.uses)) refl
        (subst (λ b. Taken options b (seen options []) h.uses kinds rows) (fresh_first (seen options []) (seen_nothing options) (use_names h.uses)) e)

    -- what clap answers tells what is said
    pub told : Told options words (fails kinds) (all_read options texts) texts
    told = by_heard (heard options 1 words between) refl ended
