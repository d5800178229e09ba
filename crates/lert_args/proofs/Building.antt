-- The command that is built, and that clap's simple meaning speaks of it.
use Rattle.std.proofs.Common.{◌≡◌, ◌∙◌, ℕ, ◌+◌, Bool, true, false, cond, ◌&&◌, ◌||◌, not, List, [], ◌∷◌, map, Some, None, refl, sym, ap, ap₂, true≢false}
use Rattle.std.specs.{Prelude.{codes, is_some, fold}, List.{find, list_all, list_any}, Str.bytes_eq}
use Rattle.clap.specs.{Walk.{Rule, Text, arg_by_id, arg_by_long, is_early_multiple}, Simple.{App, Shape, built, filled_from, is_in_order, is_simple, new_shape}, Faults.is_simple_and_free}
use Rattle.clap.specs.declared.builder.value_parser.ValueParser.TheVariants as parser
use Rattle.lert_args.specs.{App.{app_with, names_rule, option_rule}, Said.is_among}
use Rattle.lert_args.proofs.Texts.{equal_texts}

-- an option and the names, as building fills them in
abbrev pub built_option : List ℕ → Rule
built_option option = record (option_rule option) {
  parser = Some parser.String;
  range = Some (record { start_inclusive = 1; end_inclusive = 1 });
}

abbrev pub built_names : Rule
built_names = record names_rule {
  parser = Some parser.String;
  range = Some (record { start_inclusive = 1; end_inclusive = 1 });
  index = Some 1;
}

abbrev pub rules : List (List ℕ) → List Rule
rules options = built_names ∷ map built_option options

abbrev pub shape_with : List Rule → Shape
shape_with all = record (new_shape (codes "lert")) {
  rules = all;
  no_binary_name = true;
  disable_help_flag = true;
  disable_help_subcommand = true;
  disable_version_flag = true;
  is_built = true;
}

abbrev pub shape_of_options : List (List ℕ) → Shape
shape_of_options options = shape_with (rules options)

filled_options : (options : List (List ℕ)) → filled_from 2 (map option_rule options) ≡ map built_option options
filled_options [] = refl
filled_options (option ∷ options) = ap (λ rest. built_option option ∷ rest) (filled_options options)

pub built_is : (options : List (List ℕ)) → built (app_with options) ≡ record { top = shape_of_options options; subs = [] }
built_is options = ap (λ rest. record { top = shape_with (built_names ∷ rest); subs = [] }) (filled_options options)

all_mapped : (p : Rule → Bool) (f : List ℕ → Rule) (options : List (List ℕ)) → ((option : List ℕ) → p (f option) ≡ true) → list_all p (map f options) ≡ true
all_mapped p f [] each = refl
all_mapped p f (option ∷ options) each = ap₂ (λ a b. a && b) (each option) (all_mapped p f options each)

pub none_mapped : (p : Rule → Bool) (f : List ℕ → Rule) (options : List (List ℕ)) → ((option : List ℕ) → p (f option) ≡ false) → list_any p (map f options) ≡ false
none_mapped p f [] each = refl
none_mapped p f (option ∷ options) each = ap₂ (λ a b. a || b) (each option) (none_mapped p f options each)

abbrev indexed : ℕ → Rule → ℕ
indexed n a = n + cond (is_some a.index) 1 0

counted : (options : List (List ℕ)) → fold indexed 1 (map built_option options) ≡ 1
counted [] = refl
counted (option ∷ options) = counted options

ordered : (options : List (List ℕ)) → is_in_order (rules options) ≡ true
ordered options =
    ap (λ n. not (list_any (is_early_multiple n) (rules options))) (counted options)
    ∙ ap not (none_mapped (is_early_multiple 1) built_option options (λ option. refl))

all_simple : (f : List ℕ → Rule) (options : List (List ℕ)) → ((option : List ℕ) → (f option).is_simple ≡ true) → list_all (λ a. a.is_simple) (map f options) ≡ true
all_simple f options each = all_mapped (λ a. a.is_simple) f options each

pub simple : (options : List (List ℕ)) → is_simple (app_with options) ≡ true
simple options =
    ap₂ (λ x y. (x && true) && y) (all_simple option_rule options (λ option. refl))
    (ap (λ (a : App). Rattle.clap.specs.Simple.is_ready a.top && list_all Rattle.clap.specs.Simple.is_ready_leaf a.subs) (built_is options)
    ∙ ap₂ (λ x y. (x && y) && true) (all_simple built_option options (λ option. refl)) (ordered options))

pub simple_and_free : (options : List (List ℕ)) → is_simple_and_free (app_with options) ≡ true
simple_and_free options =
    ap₂ (λ x y. x && y) (simple options)
    (ap Rattle.clap.specs.Faults.is_free_app (built_is options) ∙ ap (λ x. x && true) (all_mapped (λ a. a.is_free) built_option options (λ option. refl)))

-- ---- what the rules find

module _ (options : List (List ℕ)) (apart : is_among options (codes "NAMES") ≡ false) where
  pub not_names : (name : Text) → is_among options name ≡ true → bytes_eq (codes "NAMES") name ≡ false
  not_names name among = go (bytes_eq (codes "NAMES") name) refl
    where
      go : (b : Bool) → bytes_eq (codes "NAMES") name ≡ b → b ≡ false
      go false is = refl
      go true is = absurd (true≢false (sym among ∙ ap (is_among options) (sym (equal_texts (codes "NAMES") name is)) ∙ apart))

found_by : (p : Rule → Bool) (name : Text) → ((option : List ℕ) → p (built_option option) ≡ bytes_eq option name) → (options : List (List ℕ)) → is_among options name ≡ true
    → find p (map built_option options) ≡ Some (built_option name)
found_by p name same [] among = absurd (true≢false (sym among))
found_by p name same (option ∷ options) among = go (p (built_option option)) refl (found_by p name same options)
  where
    go : (b : Bool) → p (built_option option) ≡ b → (is_among options name ≡ true → find p (map built_option options) ≡ Some (built_option name))
        → cond b (Some (built_option option)) (find p (map built_option options)) ≡ Some (built_option name)
    go true is rest = ap (λ o. Some (built_option o)) (equal_texts option name (sym (same option) ∙ is))
    go false is rest = rest (ap (λ b. b || is_among options name) (sym (sym (same option) ∙ is)) ∙ among)

missed_by : (p : Rule → Bool) (name : Text) → ((option : List ℕ) → p (built_option option) ≡ bytes_eq option name) → (options : List (List ℕ)) → is_among options name ≡ false
    → find p (map built_option options) ≡ None
missed_by p name same [] among = refl
missed_by p name same (option ∷ options) among = go (p (built_option option)) refl (missed_by p name same options)
  where
    go : (b : Bool) → p (built_option option) ≡ b → (is_among options name ≡ false → find p (map built_option options) ≡ None)
        → cond b (Some (built_option option)) (find p (map built_option options)) ≡ None
    go true is rest = absurd (true≢false (ap (λ b. b || is_among options name) (sym (sym (same option) ∙ is)) ∙ among))
    go false is rest = rest (ap (λ b. b || is_among options name) (sym (sym (same option) ∙ is)) ∙ among)

or_false : (b : Bool) → (b || false) ≡ b
or_false true = refl
or_false false = refl

module _ (options : List (List ℕ)) (name : Text) where
  pub by_long : is_among options name ≡ true → arg_by_long (rules options) name ≡ Some (built_option name)
  by_long among = found_by _ name (λ option. or_false (bytes_eq option name)) options among

  pub no_long : is_among options name ≡ false → arg_by_long (rules options) name ≡ None
  no_long missing = missed_by _ name (λ option. or_false (bytes_eq option name)) options missing

  pub by_id : is_among options (codes "NAMES") ≡ false → is_among options name ≡ true → arg_by_id (rules options) name ≡ Some (built_option name)
  by_id apart among =
      ap (λ b. cond b (Some built_names) (find (λ a. bytes_eq a.id name) (map built_option options))) (not_names options apart name among)
      ∙ found_by _ name (λ option. refl) options among
