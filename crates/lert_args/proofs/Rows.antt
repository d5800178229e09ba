-- What clap's rows hold of each option, as a function of its name.
use Rattle.std.proofs.Common.{◌≡◌, ◌∙◌, Bool, true, false, cond, ◌&&◌, ◌||◌, not, List, [], ◌∷◌, ◌++◌, Option, Some, None, refl, sym, ap, ap₂, true≢false}
use Rattle.std.specs.{Prelude.{codes, is_some}, List.find, Str.bytes_eq}
use Rattle.clap.specs.{Walk.{Row, Text, at_row, has_row, reading_by, more_values, stronger, used, with_values}, declared.parser.matches.ValueSource.TheVariants.CommandLine}
use Rattle.lert_args.specs.Said.{are_distinct, is_among}
use Rattle.lert_args.proofs.{Building.{built_names, built_option, not_names}, Heard.Use, Texts.{equal_texts, text_swap}}

abbrev pub row_at : Text → List Row → Option Row
row_at name rows = find (λ r. bytes_eq r.id name) rows

-- the row of an option that is given this text
abbrev pub row_with : Text → Text → Row
row_with name text = record { id = name; values = text ∷ []; count = None; source = Some CommandLine; reading = reading_by (built_option name) }

abbrev pub joined : Option Row → Option Row → Option Row
joined None other = other
joined (Some row) other = Some row

-- what rows hold of the options
abbrev pub seen : List Text → List Row → Text → Option Row
seen options rows name = cond (is_among options name) (row_at name rows) None

abbrev pub one_row : Text → Text → Text → Option Row
one_row option text name = cond (bytes_eq option name) (Some (row_with option text)) None

abbrev pub and_row : (Text → Option Row) → Text → Text → Text → Option Row
and_row f option text name = joined (f name) (one_row option text name)

-- the rows that uses make
abbrev pub use_row : Text → List Use → Option Row
use_row name [] = None
use_row name (one ∷ uses) = joined (one_row one.name one.text name) (use_row name uses)

-- whether each name may be given where f is, and but once
abbrev pub fresh : (Text → Option Row) → List Text → Bool
fresh f [] = true
fresh f (name ∷ names) = not (is_some (f name)) && (not (is_among names name) && fresh f names)

pub joined_assoc : (a b c : Option Row) → joined (joined a b) c ≡ joined a (joined b c)
joined_assoc None b c = refl
joined_assoc (Some row) b c = refl

pub has_row-at : (name : Text) (rows : List Row) → has_row name rows ≡ is_some (row_at name rows)
has_row-at name [] = refl
has_row-at name (row ∷ rows) = go (bytes_eq row.id name) (has_row-at name rows)
  where
    go : (b : Bool) → has_row name rows ≡ is_some (row_at name rows) → (b || has_row name rows) ≡ is_some (cond b (Some row) (row_at name rows))
    go true same = refl
    go false same = same

-- ---- an option that has no row gets one

at_none : (name : Text) (change : Row → List Row) (missing rows : List Row) → has_row name rows ≡ false → at_row name change missing rows ≡ rows ++ missing
at_none name change missing [] none = refl
at_none name change missing (row ∷ rows) none = go (bytes_eq row.id name) none (at_none name change missing rows)
  where
    go : (b : Bool) → (b || has_row name rows) ≡ false → (has_row name rows ≡ false → at_row name change missing rows ≡ rows ++ missing)
        → cond b (change row ++ rows) (row ∷ at_row name change missing rows) ≡ row ∷ (rows ++ missing)
    go true none rest = absurd (true≢false none)
    go false none rest = ap (λ more. row ∷ more) (rest none)

no_more : (rows : List Row) → rows ++ [] ≡ rows
no_more [] = refl
no_more (row ∷ rows) = ap (λ more. row ∷ more) (no_more rows)

used_option : (option text : Text) (rows : List Row) → has_row option rows ≡ false → used (built_option option) (text ∷ []) rows ≡ rows ++ row_with option text ∷ []
used_option option text rows none =
    ap (with_values option (reading_by (built_option option)) CommandLine (text ∷ [])) (at_none option (λ _. []) [] rows none ∙ no_more rows)
    ∙ at_none option (more_values CommandLine (text ∷ [])) (row_with option text ∷ []) rows none

row_behind : (name : Text) (rows : List Row) (row : Row) → row_at name (rows ++ row ∷ []) ≡ joined (row_at name rows) (cond (bytes_eq row.id name) (Some row) None)
row_behind name [] row = refl
row_behind name (first ∷ rows) row = go (bytes_eq first.id name) (row_behind name rows row)
  where
    go : (b : Bool) → row_at name (rows ++ row ∷ []) ≡ joined (row_at name rows) (cond (bytes_eq row.id name) (Some row) None)
        → cond b (Some first) (row_at name (rows ++ row ∷ [])) ≡ joined (cond b (Some first) (row_at name rows)) (cond (bytes_eq row.id name) (Some row) None)
    go true same = refl
    go false same = same

not_given : (options : List Text) (option text name : Text) → is_among options option ≡ true → is_among options name ≡ false → one_row option text name ≡ None
not_given options option text name among missing = go (bytes_eq option name) refl
  where
    go : (b : Bool) → bytes_eq option name ≡ b → cond b (Some (row_with option text)) None ≡ None
    go false is = refl
    go true is = absurd (true≢false (sym among ∙ ap (is_among options) (equal_texts option name is) ∙ missing))

pub seen_option : (options : List Text) (option text : Text) (rows : List Row) → is_among options option ≡ true → has_row option rows ≡ false → (name : Text)
    → seen options (used (built_option option) (text ∷ []) rows) name ≡ and_row (seen options rows) option text name
seen_option options option text rows among none name = go (is_among options name) refl
  where
    go : (b : Bool) → is_among options name ≡ b
        → cond b (row_at name (used (built_option option) (text ∷ []) rows)) None ≡ joined (cond b (row_at name rows) None) (one_row option text name)
    go true is = ap (row_at name) (used_option option text rows none) ∙ row_behind name rows (row_with option text)
    go false is = sym (not_given options option text name among is)

-- ---- a name changes no option's row

same_behind_names : (name : Text) (change : Row → List Row) (missing rows : List Row) → bytes_eq (codes "NAMES") name ≡ false
    → ((row : Row) (rest : List Row) → bytes_eq row.id (codes "NAMES") ≡ true → row_at name (change row ++ rest) ≡ row_at name rest) → row_at name missing ≡ None
    → row_at name (at_row (codes "NAMES") change missing rows) ≡ row_at name rows
same_behind_names name change missing [] apart changed none = none
same_behind_names name change missing (row ∷ rows) apart changed none = go (bytes_eq row.id (codes "NAMES")) refl (same_behind_names name change missing rows apart changed none)
  where
    go : (b : Bool) → bytes_eq row.id (codes "NAMES") ≡ b → row_at name (at_row (codes "NAMES") change missing rows) ≡ row_at name rows
        → row_at name (cond b (change row ++ rows) (row ∷ at_row (codes "NAMES") change missing rows)) ≡ row_at name (row ∷ rows)
    go true is same =
        changed row rows is ∙ ap (λ b. cond b (Some row) (row_at name rows)) (sym (ap (λ t. bytes_eq t name) (equal_texts row.id (codes "NAMES") is) ∙ apart))
    go false is same = ap (λ rest. cond (bytes_eq row.id name) (Some row) rest) same

abbrev names_row : Text → Row
names_row text = record { id = codes "NAMES"; values = text ∷ []; count = None; source = Some CommandLine; reading = reading_by built_names }

pub seen_names : (options : List Text) (text : Text) (rows : List Row) → is_among options (codes "NAMES") ≡ false → (name : Text)
    → seen options (used built_names (text ∷ []) rows) name ≡ seen options rows name
seen_names options text rows clear name = go (is_among options name) refl
  where
    go : (b : Bool) → is_among options name ≡ b → cond b (row_at name (used built_names (text ∷ []) rows)) None ≡ cond b (row_at name rows) None
    go false is = refl
    go true is =
        let apart = not_names options clear name is in
        same_behind_names name (more_values CommandLine (text ∷ [])) (names_row text ∷ []) rows apart
        (λ row rest same. ap (λ b. cond b (Some (record row { values = row.values ++ text ∷ []; source = Some (stronger row.source CommandLine) })) (row_at name rest))
        (ap (λ t. bytes_eq t name) (equal_texts row.id (codes "NAMES") same) ∙ apart))
        (ap (λ b. cond b (Some (names_row text)) None) apart)

-- ---- names that are fresh behind one more option

is_some-row : (o : Option Row) (b : Bool) (row : Row) → is_some (joined o (cond b (Some row) None)) ≡ (is_some o || b)
is_some-row None true row = refl
is_some-row None false row = refl
is_some-row (Some first) b row = refl

split : (a b n s f : Bool) → (not (a || b) && (not n && (not s && f))) ≡ (not (b || s) && (not a && (not n && f)))
split true true n s f = refl
split true false true true f = refl
split true false true false f = refl
split true false false true f = refl
split true false false false f = refl
split false true true s f = refl
split false true false s f = refl
split false false true true f = refl
split false false true false f = refl
split false false false true f = refl
split false false false false f = refl

pub fresh_behind : (f : Text → Option Row) (option text : Text) (names : List Text) → fresh (and_row f option text) names ≡ (not (is_among names option) && fresh f names)
fresh_behind f option text [] = refl
fresh_behind f option text (name ∷ names) =
    ap₂ (λ x y. not x && (not (is_among names name) && y)) (is_some-row (f name) (bytes_eq option name) (row_with option text)) (fresh_behind f option text names)
    ∙ split (is_some (f name)) (bytes_eq option name) (is_among names name) (is_among names option) (fresh f names)
    ∙ ap (λ b. not (b || is_among names option) && (not (is_some (f name)) && (not (is_among names name) && fresh f names))) (text_swap option name)

pub fresh_first : (f : Text → Option Row) → ((name : Text) → f name ≡ None) → (names : List Text) → fresh f names ≡ are_distinct names
fresh_first f none [] = refl
fresh_first f none (name ∷ names) = ap₂ (λ x y. not (is_some x) && (not (is_among names name) && y)) (none name) (fresh_first f none names)

pub seen_nothing : (options : List Text) (name : Text) → seen options [] name ≡ None
seen_nothing options name = go (is_among options name)
  where
    go : (b : Bool) → cond b (row_at name []) None ≡ None
    go true = refl
    go false = refl
