-- Clap's walk over the words finds what is heard, or fails.
use Rattle.std.proofs.Common.{◌≡◌, ◌∙◌, ℕ, ◌+◌, Bool, true, false, cond, List, [], ◌∷◌, Option, Some, None, refl, sym, ap, subst, true≢false}
use Rattle.std.specs.Prelude.{◌==◌, codes, is_some}
use Rattle.std.specs.List.{list_any}
use Rattle.clap.specs.Walk.{Held, Row, Text, Waiting, has_row, idle, option, positional, reacted, settled, walked}
use Rattle.clap.specs.Kinds.{Kinds, or_else}
use Rattle.clap.specs.Faults.{settle_fault, turn_fault, use_fault}
use Rattle.lert_args.specs.Said.{awaits, behind, between, is_among, is_equals_sign, refused, value_of, valued}
use Rattle.lert_args.specs.declared.scan.Stand.TheVariants as stand
use Rattle.lert_args.proofs.Building.{built_option, rules, shape_of_options}
use Rattle.lert_args.proofs.Heard.{Heard, heard, heard_by, with_place, with_use}
use Rattle.lert_args.proofs.Options.{bare_fault, bare_walked, option_name, option_value, unknown_fault, valued_fault, valued_walked}
use Rattle.lert_args.proofs.Rows.{and_row, has_row-at, joined, row_at, seen, seen_names, seen_option}
use Rattle.lert_args.proofs.Settling.{all_before, awaiting_settle, faults, faults_end, faults_on, names_settle, option_settle, option_settled, rows_end, rows_on, stops, use_by, use_is}
use Rattle.lert_args.proofs.Ending.{Ended, moved, once, placed, twice}
use Rattle.lert_args.proofs.Taking.{IsTaken, not_taken, taken_bare, taken_behind, taken_name, taken_value, taken_valued}
use Rattle.lert_args.proofs.Shapes.{Shape, is_end, is_named, is_option, is_other, kind_of-name, shape}
use Rattle.lert_args.proofs.Turning.{IsFree, IsPlain, at_word, awaiting, ends_fault, ends_walked, fails}
use Rattle.lert_args.proofs.Turning.{holding, is_plain, name_fault, name_walked, trailing_fault, trailing_walked, value_fault, value_walked}

-- ---- a settling that fails

module _ (options : List Text) where
  -- behind `--`
  doomed_behind : (words : List Text) (h : Held) (waiting : Waiting) → fails (settle_fault (rules options) false h) ≡ true
      → fails (faults options (at_word h waiting true) words) ≡ true
  doomed_behind [] h waiting bad = ap fails (faults_end options (at_word h waiting true)) ∙ bad
  doomed_behind (word ∷ words) h waiting bad = stops options (at_word h waiting true) word words (ap fails (trailing_fault options h waiting word) ∙ bad)

  abbrev Doomed : Held → Waiting → List Text → Text → Type 0
  Doomed h waiting words word = fails (faults options (at_word h waiting false) (word ∷ words)) ≡ true

  or_fails : (a b : Kinds) → fails a ≡ true → fails (or_else a b) ≡ true
  or_fails [] b is = absurd (true≢false (sym is))
  or_fails (kind ∷ kinds) b is = refl

  doomed_option : (words : List Text) (h : Held) (waiting : Waiting) (byte : ℕ) (bytes : List ℕ) → fails (settle_fault (rules options) false h) ≡ true
      → Doomed h waiting words (45 ∷ 45 ∷ byte ∷ bytes)
  doomed_option words h waiting byte bytes bad =
      go (is_among options (option_name options h (byte ∷ bytes))) (list_any is_equals_sign (byte ∷ bytes)) refl refl
    where
      at : fails (turn_fault (shape_of_options options) [] (at_word h waiting false) (45 ∷ 45 ∷ byte ∷ bytes)) ≡ true
          → Doomed h waiting words (45 ∷ 45 ∷ byte ∷ bytes)
      at is = stops options (at_word h waiting false) (45 ∷ 45 ∷ byte ∷ bytes) words is

      go : (known has : Bool) → is_among options (option_name options h (byte ∷ bytes)) ≡ known → list_any is_equals_sign (byte ∷ bytes) ≡ has
          → Doomed h waiting words (45 ∷ 45 ∷ byte ∷ bytes)
      go false has known_is has_is = at (unknown_fault options h byte bytes waiting known_is)
      go true true known_is has_is = at (ap fails (valued_fault options h byte bytes known_is waiting has_is) ∙ or_fails (settle_fault (rules options) false h) _ bad)
      go true false known_is has_is = at (ap fails (bare_fault options h byte bytes known_is waiting has_is) ∙ bad)

  doomed : (words : List Text) (place : ℕ) (h : Held) (waiting : Waiting) → IsFree waiting → IsTaken place words stand.Between → fails (settle_fault (rules options) false h) ≡ true
      → fails (faults options (at_word h waiting false) words) ≡ true
  doomed [] place h waiting free taken bad = ap fails (faults_end options (at_word h waiting false)) ∙ bad
  doomed (word ∷ words) place h waiting free taken bad = go (shape word)
    where
      go : Shape word → Doomed h waiting words word
      go (is_end is) =
          subst (Doomed h waiting words) (sym is)
          (ap fails (faults_on options (at_word h waiting false) (at_word h waiting true) (45 ∷ 45 ∷ []) words (ends_walked options h waiting) (ends_fault options h waiting))
          ∙ doomed_behind words h waiting bad)
      go (is_option byte bytes is) = subst (Doomed h waiting words) (sym is) (doomed_option words h waiting byte bytes bad)
      go (is_named byte bytes differs is) =
          subst (Doomed h waiting words) (sym is)
          (stops options (at_word h waiting false) (byte ∷ bytes) words (ap fails (name_fault options h (byte ∷ bytes) (is_plain (byte ∷ bytes) differs) waiting free) ∙ bad))
      go (is_other none) = absurd (not_taken place words word none taken)

-- ---- the walk from where it stands, by what is heard from there

joined_none : (o : Option Row) → joined o None ≡ o
joined_none None = refl
joined_none (Some row) = refl

module _ (options : List Text) (clear : is_among options (codes "NAMES") ≡ false) where
  -- what the rows hold once what is pending has settled
  abbrev f_of : Held → Text → Option Row
  f_of h = seen options (settled (rules options) h).rows

  abbrev behind_name : Text → Held → Held
  behind_name word h = holding (codes "NAMES") word (settled (rules options) h)

  abbrev EndedFrom : (Text → Option Row) → Option Heard → Held → Waiting → Bool → List Text → Type 0
  EndedFrom f o h waiting is_trailing words =
      Ended options f o (faults options (at_word h waiting is_trailing) words) (rows_end options (at_word h waiting is_trailing) words)

  abbrev ClaimBetween : List Text → Type 0
  ClaimBetween words = (place : ℕ) (h : Held) (waiting : Waiting) → IsFree waiting → IsTaken place words stand.Between → settle_fault (rules options) false h ≡ []
      → EndedFrom (f_of h) (heard options place words between) h waiting false words

  abbrev ClaimValue : List Text → Type 0
  ClaimValue words = (place : ℕ) (name : Text) (h : Held) → is_among options name ≡ true → IsTaken place words stand.Value
      → EndedFrom (seen options h.rows) (heard options place words (value_of name)) (awaiting name h) (option name) false words

  abbrev ClaimBehind : List Text → Type 0
  ClaimBehind words = (place : ℕ) (h : Held) (waiting : Waiting) → IsTaken place words stand.Behind → settle_fault (rules options) false h ≡ []
      → EndedFrom (f_of h) (heard options place words behind) h waiting true words

  at_end : (h : Held) (waiting : Waiting) (is_trailing : Bool) → settle_fault (rules options) false h ≡ []
      → EndedFrom (f_of h) (Some (record { uses = []; names = [] })) h waiting is_trailing []
  at_end h waiting is_trailing good = (
    faults_end options (at_word h waiting is_trailing) ∙ good,
    λ name among.
        let row = row_at name (settled (rules options) h).rows in
        sym (ap (λ b. joined (cond b row None) None) among ∙ joined_none row),
  )

  value_end : ClaimValue []
  value_end place name h among taken = ap fails (faults_end options (at_word (awaiting name h) (option name) false)) ∙ awaiting_settle options clear name among h

  module _ (word : Text) (words : List Text) where
    -- a word that goes on to where the walk is known
    goes_on : (f g : Text → Option Row) (o : Option Heard) (h k : Held) (waiting goes : Waiting) (was is : Bool) → ((name : Text) → g name ≡ f name)
        → turn_fault (shape_of_options options) [] (at_word h waiting was) word ≡ [] → walked (rules options) [] (at_word h waiting was) word ≡ at_word k goes is
        → EndedFrom f o k goes is words → EndedFrom g o h waiting was (word ∷ words)
    goes_on f g o h k waiting goes was is fs passes to e =
        moved options f g o _ _ _ _ fs (faults_on options (at_word h waiting was) (at_word k goes is) word words to passes)
        (rows_on options (at_word h waiting was) (at_word k goes is) word words to) e

    behind_more : ClaimBehind words → ClaimBehind (word ∷ words)
    behind_more more place h waiting taken good =
        let t = taken_behind place words word taken in
        let rest = more (place + 1) (behind_name word h) positional t.1 (names_settle options word (settled (rules options) h)) in
        subst (λ b. EndedFrom (f_of h) (cond b (with_place place (heard options (place + 1) words behind)) None) h waiting true (word ∷ words)) (sym t.0)
        (goes_on (f_of (behind_name word h)) (f_of h) _ h (behind_name word h) waiting positional true true
        (λ name. sym (seen_names options word (settled (rules options) h).rows clear name)) (trailing_fault options h waiting word ∙ good) (trailing_walked options h waiting word)
        (placed options (f_of (behind_name word h)) place _ _ _ rest))

  abbrev ClaimWord : ℕ → Held → Waiting → List Text → Text → Type 0
  ClaimWord place h waiting words word = IsTaken place (word ∷ words) stand.Between → EndedFrom (f_of h) (heard options place (word ∷ words) between) h waiting false (word ∷ words)

  module _ (place : ℕ) (h : Held) (waiting : Waiting) (words : List Text) (free : IsFree waiting) (good : settle_fault (rules options) false h ≡ []) where
    by_end : ClaimBehind words → ClaimWord place h waiting words (45 ∷ 45 ∷ [])
    by_end more taken =
        goes_on (45 ∷ 45 ∷ []) words (f_of h) (f_of h) _ h h waiting waiting false true (λ name. refl) (ends_fault options h waiting) (ends_walked options h waiting)
        (more (place + 1) h waiting taken good)

    by_name : (byte : ℕ) (bytes : List ℕ) → (byte == 45) ≡ false → ClaimBetween words → ClaimWord place h waiting words (byte ∷ bytes)
    by_name byte bytes differs more taken =
        let word = byte ∷ bytes in
        let plain = is_plain word differs in
        let rest = more (place + 1) (behind_name word h) positional tt (taken_name place words byte bytes differs taken) (names_settle options word (settled (rules options) h)) in
        subst (λ kind. EndedFrom (f_of h) (heard_by place kind (heard options (place + 1) words)) h waiting false (word ∷ words)) (sym (kind_of-name options byte bytes differs))
        (goes_on word words (f_of (behind_name word h)) (f_of h) _ h (behind_name word h) waiting positional false false
        (λ name. sym (seen_names options word (settled (rules options) h).rows clear name)) (name_fault options h word plain waiting free ∙ good) (name_walked options h word plain waiting free)
        (placed options (f_of (behind_name word h)) place _ _ _ rest))

    -- a word that fails
    failing : (word : Text) → fails (turn_fault (shape_of_options options) [] (at_word h waiting false) word) ≡ true → fails (faults options (at_word h waiting false) (word ∷ words)) ≡ true
    failing word is = stops options (at_word h waiting false) word words is

    module _ (byte : ℕ) (bytes : List ℕ) (known : is_among options (option_name options h (byte ∷ bytes)) ≡ true) where
      abbrev text : Text
      text = byte ∷ bytes

      abbrev name : Text
      name = option_name options h text

      abbrev given : Text
      given = option_value options h text

      abbrev now : List Row
      now = (settled (rules options) h).rows

      seen_by : is_some (f_of h name) ≡ has_row name now
      seen_by = ap (λ b. is_some (cond b (row_at name now) None)) known ∙ sym (has_row-at name now)

      valued_turn : list_any is_equals_sign text ≡ true → (b : Bool) → has_row name now ≡ b
          → turn_fault (shape_of_options options) [] (at_word h waiting false) (45 ∷ 45 ∷ text) ≡ use_by b
      valued_turn has b is =
          valued_fault options h byte bytes known waiting has ∙ ap (λ k. or_else k (use_fault false (built_option name) (given ∷ []) now)) good
          ∙ (use_is options name given now ∙ ap use_by is)

      valued_more : list_any is_equals_sign text ≡ true → ClaimBetween words → IsTaken (place + 1) words stand.Between
          → EndedFrom (f_of h) (with_use name given (heard options (place + 1) words between)) h waiting false ((45 ∷ 45 ∷ text) ∷ words)
      valued_more has more taken = go (has_row name now) refl
        where
          go : (b : Bool) → has_row name now ≡ b
              → EndedFrom (f_of h) (with_use name given (heard options (place + 1) words between)) h waiting false ((45 ∷ 45 ∷ text) ∷ words)
          go true is = twice options (f_of h) name given _ _ _ (seen_by ∙ is) (failing (45 ∷ 45 ∷ text) (ap fails (valued_turn has true is)))
          go false is =
              let after = reacted (rules options) (built_option name) (given ∷ []) h in
              once options (f_of h) name given _ _ _ (seen_by ∙ is)
              (goes_on (45 ∷ 45 ∷ text) words (f_of after) (and_row (f_of h) name given) _ h after waiting idle false false
              (λ other. sym (seen_option options name given now known is other)) (valued_turn has false is) (valued_walked options h byte bytes known waiting has)
              (more (place + 1) after idle tt taken refl))

      bare_more : list_any is_equals_sign text ≡ false → ClaimValue words → IsTaken (place + 1) words stand.Value
          → EndedFrom (f_of h) (heard options (place + 1) words (value_of text)) h waiting false ((45 ∷ 45 ∷ text) ∷ words)
      bare_more has more taken =
          let same = all_before is_equals_sign text has in
          goes_on (45 ∷ 45 ∷ text) words (f_of h) (f_of h) _ h (awaiting text (settled (rules options) h)) waiting (option text) false false (λ other. refl)
          (bare_fault options h byte bytes known waiting has ∙ good)
          (bare_walked options h byte bytes known waiting has ∙ ap (λ n. at_word (awaiting n (settled (rules options) h)) (option n) false) same)
          (more (place + 1) text (settled (rules options) h) (sym (ap (is_among options) same) ∙ known) taken)

    by_option : (byte : ℕ) (bytes : List ℕ) → ClaimBetween words → ClaimValue words → ClaimWord place h waiting words (45 ∷ 45 ∷ byte ∷ bytes)
    by_option byte bytes between_more value_more taken =
        go (is_among options (option_name options h (byte ∷ bytes))) (list_any is_equals_sign (byte ∷ bytes)) refl refl
      where
        go : (known has : Bool) → is_among options (option_name options h (byte ∷ bytes)) ≡ known → list_any is_equals_sign (byte ∷ bytes) ≡ has
            → EndedFrom (f_of h)
            (heard_by place (cond known (cond has (valued (option_name options h (byte ∷ bytes)) (option_value options h (byte ∷ bytes))) (awaits (byte ∷ bytes))) refused)
            (heard options (place + 1) words))
            h waiting false ((45 ∷ 45 ∷ byte ∷ bytes) ∷ words)
        go false has known_is has_is = failing (45 ∷ 45 ∷ byte ∷ bytes) (unknown_fault options h byte bytes waiting known_is)
        go true true known_is has_is = valued_more byte bytes known_is has_is between_more (taken_valued place words byte bytes has_is taken)
        go true false known_is has_is = bare_more byte bytes known_is has_is value_more (taken_bare place words byte bytes has_is taken)

  between_more : (word : Text) (words : List Text) → ClaimBetween words → ClaimValue words → ClaimBehind words → ClaimBetween (word ∷ words)
  between_more word words between_ value_ behind_ place h waiting free taken good = go (shape word) taken
    where
      go : Shape word → ClaimWord place h waiting words word
      go (is_end is) = subst (ClaimWord place h waiting words) (sym is) (by_end place h waiting words free good behind_)
      go (is_option byte bytes is) = subst (ClaimWord place h waiting words) (sym is) (by_option place h waiting words free good byte bytes between_ value_)
      go (is_named byte bytes differs is) = subst (ClaimWord place h waiting words) (sym is) (by_name place h waiting words free good byte bytes differs between_)
      go (is_other none) = λ taken. absurd (not_taken place words word none taken)

  value_more : (word : Text) (words : List Text) → ClaimBetween words → ClaimValue (word ∷ words)
  value_more word words more place name h among taken =
      let t = taken_value place words word taken in
      subst (λ b. EndedFrom (seen options h.rows) (cond b None (with_use name word (heard options (place + 1) words between))) (awaiting name h) (option name) false (word ∷ words))
      (sym t.0) (go (has_row name h.rows) refl (is_plain word t.0) t.1)
    where
      seen_by : is_some (seen options h.rows name) ≡ has_row name h.rows
      seen_by = ap (λ b. is_some (cond b (row_at name h.rows) None)) among ∙ sym (has_row-at name h.rows)

      go : (b : Bool) → has_row name h.rows ≡ b → IsPlain word → IsTaken (place + 1) words stand.Between
          → EndedFrom (seen options h.rows) (with_use name word (heard options (place + 1) words between)) (awaiting name h) (option name) false (word ∷ words)
      go true is plain taken =
          let bad = ap fails (option_settle options clear name among h word ∙ ap use_by is) in
          twice options (seen options h.rows) name word _ _ _ (seen_by ∙ is)
          (ap fails (faults_on options (at_word (awaiting name h) (option name) false) (at_word (holding name word h) idle false) word words
          (value_walked options clear name among h word plain) (value_fault options clear name among h word plain))
          ∙ doomed options words (place + 1) (holding name word h) idle tt taken bad)
      go false is plain taken =
          once options (seen options h.rows) name word _ _ _ (seen_by ∙ is)
          (goes_on word words (f_of (holding name word h)) (and_row (seen options h.rows) name word) _ (awaiting name h) (holding name word h) (option name) idle false false
          (λ other. sym (ap (λ rows. seen options rows other) (option_settled options clear name among h word) ∙ seen_option options name word h.rows among is other))
          (value_fault options clear name among h word plain) (value_walked options clear name among h word plain)
          (more (place + 1) (holding name word h) idle tt taken (option_settle options clear name among h word ∙ ap use_by is)))

  claims : (words : List Text) → ClaimBetween words × ClaimValue words × ClaimBehind words
  claims [] = (
    λ place h waiting free taken good. at_end h waiting false good,
    value_end,
    λ place h waiting taken good. at_end h waiting true good,
  )
  claims (word ∷ words) =
      let rest = claims words in
      (between_more word words rest.0 rest.1 rest.2, value_more word words rest.0, behind_more word words rest.2)

  -- the whole walk
  pub walk_ends : (words : List Text) (place : ℕ) (h : Held) → IsTaken place words stand.Between → settle_fault (rules options) false h ≡ []
      → Ended options (seen options (settled (rules options) h).rows) (heard options place words between) (faults options (at_word h idle false) words) (rows_end options (at_word h idle false) words)
  walk_ends words place h taken good = (claims words).0 place h idle tt taken good
