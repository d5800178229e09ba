-- What a line keeps that words spell: its names stand in these words, and where it breaks no rule, its numbers are within their limits.
use Rattle.std.proofs.Common.{◌≡◌, ℕ, ◌+◌, ◌<◌, ◌≤◌, ◌^◌, Bool, true, false, cond, ◌&&◌, List, [], ◌∷◌, length, Option, Some, None, slice_get, refl, ap, sym, ◌∙◌, subst, arith}
use Rattle.std.specs.Prelude.{All, nat_le, codes, option_and_then}
use Rattle.std.specs.Str.{bytes_eq}
use Rattle.std.proofs.Math.Bool.{and-false}
use Rattle.std.proofs.lemmas.Bool.{leb-true}
use Rattle.std.proofs.lemmas.List.Elements.{All-cons, All-head, All-nil, All-tail}
use Rattle.std.proofs.lemmas.Option.{get_or_from_slice_get}
use Rattle.lert_spec.specs.declared.numbers.Numbers.{Numbers}
use Rattle.lert_spec.specs.Limits.{early_broken, first_or, late_broken, lies}
use Rattle.lert_spec.proofs.LimitLaws.{first_none}
use Rattle.lert_args.specs.Command.{command, drill_options, drill_said, events_broken, gen_options, gen_said, if_unnamed, line_broken, recover_named, recover_said}
use Rattle.lert_args.specs.Command.{run_named, run_options, run_said, setting_options, traces_broken, usage, usage_of, workers_broken}
use Rattle.lert_args.specs.Said.{Kind, Reading, Said, are_distinct, between, kind_of, names_given, said, said_at_end, said_by, said_once, said_with, spelt, value_of, with_name, with_value}
use Rattle.lert_args.specs.Said.{awaits, behind, ends, named, refused, valued}
use Rattle.lert_args.specs.Word.{is_late_name, number_of, word_at}
use Rattle.lert_args.specs.declared.line.Line.{Line}
use Rattle.lert_args.specs.declared.line.Line.TheVariants.{Run, Recover, Gen, Drill}

-- the word at a place is the one that a list has there
pub word_at-slice_get : (words : List (List ℕ)) (number : ℕ) (word : List ℕ) → slice_get words number ≡ Some word → word ≡ word_at words number
word_at-slice_get words number word at = sym (get_or_from_slice_get words number word [] at)

-- each place is below a number
abbrev pub AreBelow : ℕ → List ℕ → Type 0
AreBelow end places = All (λ place. place < end) places

-- what is said has names below a number
abbrev IsBelow : ℕ → Option Said → Type 0
IsBelow end o = (s : Said) → o ≡ Some s → AreBelow end s.names

below-value : (end : ℕ) (name : List ℕ) (v : Option ℕ) (o : Option Said) → IsBelow end o → IsBelow end (with_value name v o)
below-value end name None o below s is = absurd (cc)
below-value end name (Some value) None below s is = absurd (cc)
below-value end name (Some value) (Some t) below s is = let names : t.names ≡ s.names = cc in subst (AreBelow end) names (below t refl)

below-name : (end place : ℕ) (o : Option Said) → place < end → IsBelow end o → IsBelow end (with_name place o)
below-name end place None within below s is = absurd (cc)
below-name end place (Some t) within below s is =
    let names : place ∷ t.names ≡ s.names = cc in subst (AreBelow end) names (All-cons (λ p. p < end) place t.names within (below t refl))

below-end : (end : ℕ) (reading : Reading) → IsBelow end (said_at_end reading)
below-end end between s is = let names : [] ≡ s.names = cc in subst (AreBelow end) names (All-nil (λ p. p < end))
below-end end (value_of name) s is = absurd (cc)
below-end end behind s is = let names : [] ≡ s.names = cc in subst (AreBelow end) names (All-nil (λ p. p < end))

module _ (end place : ℕ) (within : place < end) (others : Reading → Option Said) (below : (reading : Reading) → IsBelow end (others reading)) where
  below-by : (kind : Kind) → IsBelow end (said_by place kind others)
  below-by ends = below behind
  below-by (awaits name) = below (value_of name)
  below-by (valued name value) = below-value end name (number_of value) (others between) (below between)
  below-by named = below-name end place (others between) within (below between)
  below-by refused = λ s is. absurd (cc)

  below-late : (b : Bool) → IsBelow end (cond b (with_name place (others behind)) None)
  below-late true = below-name end place (others behind) within (below behind)
  below-late false = λ s is. absurd (cc)

  below-with : (options : List (List ℕ)) (reading : Reading) (word : List ℕ) → IsBelow end (said_with options reading place word others)
  below-with options between word = below-by (kind_of options word)
  below-with options (value_of name) word = below-value end name (number_of word) (others between) (below between)
  below-with options behind word = below-late (is_late_name word)

below-said : (options : List (List ℕ)) (place end : ℕ) (words : List (List ℕ)) → place + length words ≤ end → (reading : Reading) → IsBelow end (said options place words reading)
below-said options place end [] fits reading = below-end end reading
below-said options place end (word ∷ words) fits reading =
    below-with end place (omega (arith, fits)) (said options (place + 1) words) (below-said options (place + 1) end words (omega (arith, fits))) options reading word

below-once : (end : ℕ) (o : Option Said) → IsBelow end o → IsBelow end (option_and_then said_once o)
below-once end None below s is = absurd (cc)
below-once end (Some t) below s is = by_test (are_distinct (names_given t)) is
  where
    by_test : (b : Bool) → cond {A = Option Said} b (Some t) None ≡ Some s → AreBelow end s.names
    by_test true same = let once : t ≡ s = cc in subst (λ (u : Said). AreBelow end u.names) once (below t refl)
    by_test false same = absurd (cc)

below-spelt : (options : List (List ℕ)) (name : List ℕ) (words : List (List ℕ)) → IsBelow (length (name ∷ words)) (spelt options words)
below-spelt options name words =
    below-once (length (name ∷ words)) (said options 1 words between) (below-said options 1 (length (name ∷ words)) words (omega arith) between)

-- the names of a line, the directory's first
abbrev pub names_in : Line → List ℕ
names_in (Run settings workers dir traces) = dir ∷ traces
names_in (Recover settings dir) = dir ∷ []
names_in (Gen seed events) = []
names_in (Drill settings workers seed events) = []

-- a run has a trace
abbrev pub HasTrace : Line → Type 0
HasTrace (Run settings workers dir traces) = 1 ≤ length traces
HasTrace (Recover settings dir) = Unit {0}
HasTrace (Gen seed events) = Unit {0}
HasTrace (Drill settings workers seed events) = Unit {0}

-- where the names of a line stand
pub record IsPlaced (end : ℕ) (line : Line) : Type 0 where
  pub within : AreBelow end (names_in line)
  pub traced : HasTrace line

abbrev IsPlacedWhere : ℕ → Option Line → Type 0
IsPlacedWhere end o = (line : Line) → o ≡ Some line → IsPlaced end line

placed-run : (end : ℕ) (s : Said) (names : List ℕ) → AreBelow end names → IsPlacedWhere end (run_named s names)
placed-run end s [] below line is = absurd (cc)
placed-run end s (dir ∷ []) below line is = absurd (cc)
placed-run end s (dir ∷ (trace ∷ traces)) below line is = let same : Some _ ≡ Some line = is in
    subst (IsPlaced end) (unsome _ line same) (record { within = below; traced = omega arith })
  where
    unsome : (a b : Line) → Some a ≡ Some b → a ≡ b
    unsome a b e = cc

placed-recover : (end : ℕ) (s : Said) (names : List ℕ) → AreBelow end names → IsPlacedWhere end (recover_named s names)
placed-recover end s [] below line is = absurd (cc)
placed-recover end s (dir ∷ []) below line is = subst (IsPlaced end) (unsome _ line is) (record { within = below; traced = tt })
  where
    unsome : (a b : Line) → Some a ≡ Some b → a ≡ b
    unsome a b e = cc
placed-recover end s (dir ∷ (other ∷ others)) below line is = absurd (cc)

placed-unnamed : (end : ℕ) (names : List ℕ) (own : Line) → IsPlaced end own → IsPlacedWhere end (if_unnamed names own)
placed-unnamed end [] own placed line is = let same : own ≡ line = cc in subst (IsPlaced end) same placed
placed-unnamed end (name ∷ names) own placed line is = absurd (cc)

placed-then : (end : ℕ) (f : Said → Option Line) → ((s : Said) → AreBelow end s.names → IsPlacedWhere end (f s)) → (o : Option Said) → IsBelow end o →
    IsPlacedWhere end (option_and_then f o)
placed-then end f placed None below line is = absurd (cc)
placed-then end f placed (Some s) below line is = placed s (below s refl) line is

module _ (name : List ℕ) (words : List (List ℕ)) where
  abbrev end : ℕ
  end = length (name ∷ words)

  by_drill : (b : Bool) → IsPlacedWhere end (cond b (option_and_then drill_said (spelt drill_options words)) None)
  by_drill true = placed-then end drill_said (λ s below. placed-unnamed end s.names _ (record { within = All-nil (λ p. p < end); traced = tt })) _ (below-spelt drill_options name words)
  by_drill false = λ line is. absurd (cc)

  by_gen : (b d : Bool) → IsPlacedWhere end (cond b (option_and_then gen_said (spelt gen_options words)) (cond d (option_and_then drill_said (spelt drill_options words)) None))
  by_gen true d = placed-then end gen_said (λ s below. placed-unnamed end s.names _ (record { within = All-nil (λ p. p < end); traced = tt })) _ (below-spelt gen_options name words)
  by_gen false d = by_drill d

  by_recover : (b g d : Bool) → IsPlacedWhere end (cond b (option_and_then recover_said (spelt setting_options words))
      (cond g (option_and_then gen_said (spelt gen_options words)) (cond d (option_and_then drill_said (spelt drill_options words)) None)))
  by_recover true g d = placed-then end recover_said (λ s below. placed-recover end s s.names below) _ (below-spelt setting_options name words)
  by_recover false g d = by_gen g d

  by_run : (b r g d : Bool) → IsPlacedWhere end (cond b (option_and_then run_said (spelt run_options words)) (cond r (option_and_then recover_said (spelt setting_options words))
      (cond g (option_and_then gen_said (spelt gen_options words)) (cond d (option_and_then drill_said (spelt drill_options words)) None))))
  by_run true r g d = placed-then end run_said (λ s below. placed-run end s s.names below) _ (below-spelt run_options name words)
  by_run false r g d = by_recover r g d

-- the names of a line that words spell stand in these words
pub placed : (words : List (List ℕ)) (line : Line) → command words ≡ Some line → IsPlaced (length words) line
placed [] line is = absurd (cc)
placed (name ∷ words) line is = by_run name words (bytes_eq name (codes "run")) (bytes_eq name (codes "recover")) (bytes_eq name (codes "gen")) (bytes_eq name (codes "drill")) line is

-- numbers within their limits, where no rule is broken
both : (a b : Bool) → (a && b) ≡ true → (a ≡ true) × (b ≡ true)
both true b is = (refl, is)
both false b is = absurd (cc)

kept : (b : Bool) (rule : ℕ) → cond {A = Option ℕ} b None (Some rule) ≡ None → b ≡ true
kept true rule is = refl
kept false rule is = absurd (cc)

pub record AreWorkers (workers : ℕ) : Type 0 where
  pub least : 1 ≤ workers
  pub most : workers ≤ 64

are_workers : (workers : ℕ) → workers_broken workers ≡ None → AreWorkers workers
are_workers workers is =
    let parts = both (nat_le 1 workers) (nat_le workers 64) (kept (lies 1 64 workers) 12 is) in
    record { least = leb-true 1 workers parts.0; most = leb-true workers 64 parts.1 }

few_events : (most events : ℕ) → events_broken most events ≡ None → events ≤ most
few_events most events is = leb-true events most (kept (nat_le events most) 14 is)

few_traces : (traces : List ℕ) → traces_broken traces ≡ None → length traces ≤ 1024
few_traces traces is = leb-true (length traces) 1024 (kept (nat_le (length traces) 1024) 13 is)

-- a line's own rules, between those of its settings
rules_of_line : (s : Numbers) (workers : ℕ) (last : Option ℕ) → first_or (early_broken s) (first_or (workers_broken workers) (first_or last (late_broken s))) ≡ None →
    (workers_broken workers ≡ None) × (last ≡ None)
rules_of_line s workers last is =
    let behind = first_none (early_broken s) (first_or (workers_broken workers) (first_or last (late_broken s))) is in
    let own = first_none (workers_broken workers) (first_or last (late_broken s)) behind.1 in
    (own.0, (first_none last (late_broken s) own.1).0)

-- what a line keeps that breaks no rule
abbrev pub Keeps : Line → Type 0
Keeps (Run settings workers dir traces) = AreWorkers workers × (length traces ≤ 1024)
Keeps (Recover settings dir) = Unit {0}
Keeps (Gen seed events) = events ≤ 2 ^ 32
Keeps (Drill settings workers seed events) = AreWorkers workers × (events ≤ 4194304)

keeps : (line : Line) → line_broken line ≡ None → Keeps line
keeps (Run settings workers dir traces) is =
    let own = rules_of_line settings workers (traces_broken traces) is in
    (are_workers workers own.0, few_traces traces own.1)
keeps (Recover settings dir) is = tt
keeps (Gen seed events) is = few_events (2 ^ 32) events is
keeps (Drill settings workers seed events) is =
    let own = rules_of_line settings workers (events_broken 4194304 events) is in
    (are_workers workers own.0, few_events 4194304 events own.1)

-- where words spell a line that breaks no rule
pub line_keeps : (words : List (List ℕ)) (line : Line) → command words ≡ Some line → usage words ≡ None → Keeps line
line_keeps words line spelled sound = keeps line (sym (ap usage_of spelled) ∙ sound)

-- where the names of a run stand
pub record IsRunPlaced (end dir : ℕ) (traces : List ℕ) : Type 0 where
  pub dir_in : dir < end
  pub traces_in : AreBelow end traces
  pub some : 1 ≤ length traces

module _ (words : List (List ℕ)) (line : Line) (spelled : command words ≡ Some line) where
  pub run_placed : (settings : Numbers) (workers dir : ℕ) (traces : List ℕ) → line ≡ Run settings workers dir traces → IsRunPlaced (length words) dir traces
  run_placed settings workers dir traces is =
      let own : IsPlaced (length words) (Run settings workers dir traces) = subst (IsPlaced (length words)) is (placed words line spelled) in
      record {
        dir_in = All-head (λ p. p < length words) dir traces own.within;
        traces_in = All-tail (λ p. p < length words) dir traces own.within;
        some = own.traced;
      }

  pub recover_placed : (settings : Numbers) (dir : ℕ) → line ≡ Recover settings dir → dir < length words
  recover_placed settings dir is =
      let own : IsPlaced (length words) (Recover settings dir) = subst (IsPlaced (length words)) is (placed words line spelled) in
      All-head (λ p. p < length words) dir [] own.within

  module _ (sound : usage words ≡ None) where
    pub run_keeps : (settings : Numbers) (workers dir : ℕ) (traces : List ℕ) → line ≡ Run settings workers dir traces → AreWorkers workers × (length traces ≤ 1024)
    run_keeps settings workers dir traces is = subst Keeps is (line_keeps words line spelled sound)

    pub gen_keeps : (seed events : ℕ) → line ≡ Gen seed events → events ≤ 2 ^ 32
    gen_keeps seed events is = subst Keeps is (line_keeps words line spelled sound)

    pub drill_keeps : (settings : Numbers) (workers seed events : ℕ) → line ≡ Drill settings workers seed events → AreWorkers workers × (events ≤ 4194304)
    drill_keeps settings workers seed events is = subst Keeps is (line_keeps words line spelled sound)

-- what is so of the line that words spell, said of its parts
module _ (spells : Option Line) (line : Line) (spelled : spells ≡ Some line) where
  same_line : (other : Line) → spells ≡ Some other → line ≡ other
  same_line other is = unsome line other (sym spelled ∙ is)
    where
      unsome : (a b : Line) → Some a ≡ Some b → a ≡ b
      unsome a b e = cc

  pub along_run : (P : Numbers → ℕ → ℕ → List ℕ → Type 0) (s t : Numbers) (w v d e : ℕ) (a b : List ℕ) → line ≡ Run s w d a → spells ≡ Some (Run t v e b) →
      P s w d a → P t v e b
  along_run P s t w v d e a b is other holds = subst At (sym is ∙ same_line (Run t v e b) other) holds
    where
      At : Line → Type 0
      At (Run settings workers dir traces) = P settings workers dir traces
      At (Recover settings dir) = Unit {0}
      At (Gen seed events) = Unit {0}
      At (Drill settings workers seed events) = Unit {0}

  pub along_recover : (P : Numbers → ℕ → Type 0) (s t : Numbers) (d e : ℕ) → line ≡ Recover s d → spells ≡ Some (Recover t e) → P s d → P t e
  along_recover P s t d e is other holds = subst At (sym is ∙ same_line (Recover t e) other) holds
    where
      At : Line → Type 0
      At (Run settings workers dir traces) = Unit {0}
      At (Recover settings dir) = P settings dir
      At (Gen seed events) = Unit {0}
      At (Drill settings workers seed events) = Unit {0}

  pub along_gen : (P : ℕ → ℕ → Type 0) (s t n m : ℕ) → line ≡ Gen s n → spells ≡ Some (Gen t m) → P s n → P t m
  along_gen P s t n m is other holds = subst At (sym is ∙ same_line (Gen t m) other) holds
    where
      At : Line → Type 0
      At (Run settings workers dir traces) = Unit {0}
      At (Recover settings dir) = Unit {0}
      At (Gen seed events) = P seed events
      At (Drill settings workers seed events) = Unit {0}

  pub along_drill : (P : Numbers → ℕ → ℕ → ℕ → Type 0) (s t : Numbers) (w v a b n m : ℕ) → line ≡ Drill s w a n → spells ≡ Some (Drill t v b m) → P s w a n → P t v b m
  along_drill P s t w v a b n m is other holds = subst At (sym is ∙ same_line (Drill t v b m) other) holds
    where
      At : Line → Type 0
      At (Run settings workers dir traces) = Unit {0}
      At (Recover settings dir) = Unit {0}
      At (Gen seed events) = Unit {0}
      At (Drill settings workers seed events) = P settings workers seed events

-- a line of one command is none of another
abbrev pub command_number : Line → ℕ
command_number (Run settings workers dir traces) = 0
command_number (Recover settings dir) = 1
command_number (Gen seed events) = 2
command_number (Drill settings workers seed events) = 3

pub no_other : (spells : Option Line) (line other : Line) → spells ≡ Some line → spells ≡ Some other → command_number line ≡ command_number other
no_other spells line other spelled is = ap command_number (same_line spells line spelled other is)
