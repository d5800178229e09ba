-- The two writes of an append, each with its sync: the record behind the closed gate, then the gate.
use Rattle.std.proofs.{Common.{◌≡◌, ℕ, ◌+◌, ◌<◌, List, [], ◌∷◌, ◌++◌, Result, Ok, length, get_or, refl, sym, ap, ◌∙◌, ◌⊎◌, subst, inl, inr, arith}, lemmas.Bool.cases_eq}
use Rattle.lert_bay.specs.{Files.{Files, IfTold, Changes, Torn}, Kept.Bays, Settled.part}
use Rattle.lert_bay.proofs.{KeptLaws.IsLawful, Settling.{part_same, part_torn}, Tearing.torn_held}
use Rattle.lert_gatelog.specs.{Gated.{Log, IsGated, IsClosed, IsAppendix, appendix, next_gate}, Kept.{IsWithOrWithout, IsWhollySettled, InEach, KeepsOthers, KeepsBefore}, Written.WritesDurably}
use Rattle.lert_gatelog.proofs.GatedLaws.{Agree, torn_agrees, records_kept, records_more, part_within, closed_behind, closed_there, open_there, held_part, gate_held, length_appendix}

-- ---- what a moment of an append leaves of the file's bytes

-- the text stands behind the gate
abbrev pub IsLaid : ℕ → List ℕ → List ℕ → Type 0
IsLaid gate text bytes = part bytes (gate + 1) (gate + 1 + length text) ≡ text

-- and the gate is open
pub record IsWhole (gate : ℕ) (text bytes : List ℕ) : Type 0 where
  pub opened : get_or bytes gate 0 ≡ 1
  pub laid : IsLaid gate text bytes

-- what is before the gate is as it was, and the gate is closed, or all is there
pub record IsMidway (gate : ℕ) (text old new : List ℕ) : Type 0 where
  pub same : Agree gate old new
  pub now : IsClosed new gate ⊎ IsWhole gate text new

-- the first write
laying : (gate count : ℕ) (text old new : List ℕ) → IsClosed old gate → Torn (gate + 1) count old new → IsMidway gate text old new
laying gate count text old new closed torn = record {
  same = torn_agrees (gate + 1) count gate old new torn (omega arith) (omega (arith, closed.within));
  now = inl (closed_behind gate count old new closed torn);
}

-- the second one leaves the text
laid_on : (gate : ℕ) (text old new : List ℕ) → 0 < length text → IsLaid gate text old → Torn gate 1 old new → IsLaid gate text new
laid_on gate text old new some laid torn =
    part_torn gate 1 old new old (gate + 1) (gate + 1 + length text) torn refl (part_within old text (gate + 1) (gate + 1 + length text) laid refl some) (inr (omega arith)) ∙ laid

-- and opens the gate, or doesn't
opening : (gate : ℕ) (text old between new : List ℕ) → 0 < length text → Agree gate old between → IsLaid gate text between → Torn gate 1 between new →
    IsMidway gate text old new
opening gate text old between new some same laid torn = record {
  same = record {
    old_long = same.old_long;
    new_long = omega (arith, same.new_long, torn.no_shorter);
    same = λ place below. torn.elsewhere place (omega (arith, below, same.new_long)) (inl below) ∙ same.same place below;
  };
  now = elim (cases_eq (get_or new gate 0) 1) [
    | inl one ↦ inr (record { opened = one; laid = laid_on gate text between new some laid torn })
    | inr other ↦ inl (record {
      within = omega (arith, part_within between text (gate + 1) (gate + 1 + length text) laid refl some, torn.no_shorter);
      shut = other;
    })
  ];
}

-- the open records are those from before and this one
gated_whole : (most gate first : ℕ) (payloads : List (List ℕ)) (payload old new : List ℕ) → IsAppendix most (appendix payload) → most < 4294967296 →
    IsGated most old first payloads gate → Agree gate old new → IsWhole gate (appendix payload) new → IsGated most new first (payloads ++ payload ∷ []) (next_gate gate payload)
gated_whole most gate first payloads payload old new fits small gated same whole =
    let long : length payload ≡ length fits.payload = omega (arith, ap length fits.is, length_appendix payload, length_appendix fits.payload) in
    record {
      records = records_more most first payloads payload new gate (records_kept most first payloads old new gate gated.records same)
          (open_there most gate payload new whole.laid whole.opened (omega (arith, long, fits.some)) (omega (arith, long, fits.fits)) (omega (arith, long, fits.fits, small)));
      closed = closed_there gate payload new whole.laid;
    }

-- ---- what an append leaves of a bay

-- what an append asks for
abbrev pub IsAsked : {B : Type 0} → Bays B → Log → List ℕ → B → Type 0
IsAsked bays log bytes before = record {
  text : IsAppendix log.most bytes;
  reach : log.gate + 1 + length bytes < 9223372036854775808;
  closed : IfTold (bays.files before) (λ _. InEach (bays.leaves before) log.file (λ bytes. IsClosed bytes log.gate));
}

-- each image of each moment so far comes from one from before
pub record Appends {B : Type 0} (bays : Bays B) (log : Log) (text : List ℕ) (before after : B) : Type 0 where
  pub asked : IsAsked bays log text before
  pub moments : IfTold (bays.files before) (λ _. (image : Files) → bays.left_since after (bays.moment before) image →
      (earlier : Files) × bays.leaves before earlier × Changes (IsMidway log.gate text) log.file earlier image)

some_text : (most : ℕ) (text : List ℕ) → IsAppendix most text → 0 < length text
some_text most text fits = omega (arith, ap length fits.is, length_appendix fits.payload)

-- the other files keep what is settled, whatever becomes of one
pub keeps_others : {B : Type 0} (bays : Bays B) {step : List ℕ → List ℕ → Type 0} {file : ℕ} (before after : B) → IfTold (bays.files before)
    (λ _. (image : Files) → bays.left_since after (bays.moment before) image → (earlier : Files) × bays.leaves before earlier × Changes step file earlier image) →
    IfTold (bays.files before) (λ seen. KeepsOthers (bays.leaves before) (bays.left_since after (bays.moment before)) seen file)
keeps_others bays before after moments seen told other from to apart settled image since =
    let came = moments seen told image since in
    ap (λ bytes. part bytes from to) (came.2.others other apart) ∙ settled.same came.0 came.1

-- a file that each image has as a read gives it is settled
pub settled : {B T E : Type 0} {bays : Bays B} {file at : ℕ} {bytes : List ℕ} {before after : B} {value : T} →
    WritesDurably {E = E} bays file at bytes before after (Ok value) → IfTold (bays.files after) (λ seen. IsWhollySettled (bays.leaves after) seen file)
settled {file = file} wrote seen told = record {
  within = omega arith;
  same = λ image now. ap (λ bytes. part bytes 0 (length (seen file))) (wrote.durable seen told image now);
}

module _ {B : Type 0} {bays : Bays B} {log : Log} {text : List ℕ} {before after : B} (appends : Appends bays log text before after) where
  pub others : IfTold (bays.files before) (λ seen. KeepsOthers (bays.leaves before) (bays.left_since after (bays.moment before)) seen log.file)
  others = keeps_others bays before after appends.moments

  pub settled_before : IfTold (bays.files before) (λ seen. KeepsBefore (bays.leaves before) (bays.left_since after (bays.moment before)) seen log.file log.gate)
  settled_before seen told from to early settled image since =
      let came = appends.moments seen told image since in
      part_same (image log.file) (came.0 log.file) from to (omega (arith, early, came.2.here.same.new_long)) (omega (arith, early, came.2.here.same.old_long))
      (λ place above below. came.2.here.same.same place (omega (arith, below, early))) ∙ settled.same came.0 came.1

  pub each_moment : log.most < 4294967296 → IfTold (bays.files before) (λ _. (first : ℕ) (payloads : List (List ℕ)) (payload : List ℕ) → text ≡ appendix payload →
      InEach (bays.leaves before) log.file (λ bytes. IsGated log.most bytes first payloads log.gate) →
      InEach (bays.left_since after (bays.moment before)) log.file (IsWithOrWithout log.most first payloads log.gate payload))
  each_moment small seen told first payloads payload is gated image since =
      let came = appends.moments seen told image since in
      elim came.2.here.now [
        | inl closed ↦ inl (record {
          records = records_kept log.most first payloads (came.0 log.file) (image log.file) log.gate (gated came.0 came.1).records came.2.here.same;
          closed = closed;
        })
        | inr whole ↦ inr (gated_whole log.most log.gate first payloads payload (came.0 log.file) (image log.file) (subst (IsAppendix log.most) is appends.asked.text) small
            (gated came.0 came.1) came.2.here.same (subst (λ (bytes : List ℕ). IsWhole log.gate bytes (image log.file)) is whole))
      ]

module _ {B : Type 0} (bays : Bays B) (lawful : IsLawful bays) where
  pub appends_once : {T E : Type 0} {log : Log} {text : List ℕ} {before after : B} {result : Result T E} (view : Log) → log ≡ view →
      IsAsked bays view text before → WritesDurably bays log.file (log.gate + 1) text before after result → Appends bays log text before after
  appends_once {log = log} {text = text} {before = before} view is asked wrote =
      let here = subst (λ (l : Log). IsAsked bays l text before) (sym is) asked in
      record {
        asked = here;
        moments = λ seen told image since.
            let came = wrote.moments seen told image since in
            let midway = laying log.gate (length text) text (came.0 log.file) (image log.file) (here.closed seen told came.0 came.1) came.2.here in
            (came.0, came.1, record { here = midway; others = came.2.others });
      }

  module _ {T E U F : Type 0} {log : Log} {text : List ℕ} {before between after : B} {value : T} {result : Result U F} (early : Appends bays log text before between)
      (one : WritesDurably {E = E} bays log.file (log.gate + 1) text before between (Ok value)) (two : WritesDurably bays log.file log.gate (1 ∷ []) between after result) where
    pub appends_on : Appends bays log text before after
    appends_on = record {
      asked = early.asked;
      moments = λ seen told image since.
          let wrote = one.written.told seen told in
          elim (two.kept.time.known (bays.moment before) image one.kept.time.later since) [
            | inl past ↦ early.moments seen told image past
            | inr later ↦
                let came = two.moments wrote.0 wrote.1 image later in
                let first = early.moments seen told came.0
                (lawful.since_earlier between (bays.moment before) (bays.moment between) came.0 one.kept.time.later (lawful.since_now between came.0 came.1)) in
                let is = subst (IsLaid log.gate text) (sym (one.durable wrote.0 wrote.1 came.0 came.1))
                (held_part (log.gate + 1) text (seen log.file) (wrote.0 log.file) wrote.2.here) in
                let midway = opening log.gate text (first.0 log.file) (came.0 log.file) (image log.file) (some_text log.most text early.asked.text) first.2.here.same is came.2.here in
                (first.0, first.1, record { here = midway; others = λ other apart. came.2.others other apart ∙ first.2.others other apart })
          ];
    }

  -- ---- once the gate is open on the disk

  module _ {T E U F : Type 0} {log : Log} {text : List ℕ} {before between after : B} {value : T} {last : U} (early : Appends bays log text before between)
      (one : WritesDurably {E = E} bays log.file (log.gate + 1) text before between (Ok value))
      (two : WritesDurably {E = F} bays log.file log.gate (1 ∷ []) between after (Ok last)) where
    whole : IfTold (bays.files before) (λ _. InEach (bays.leaves after) log.file (IsWhole log.gate text))
    whole seen told image now =
        let wrote = one.written.told seen told in
        let opened = two.written.told wrote.0 wrote.1 in
        subst (IsWhole log.gate text) (sym (two.durable opened.0 opened.1 image now))
        (record {
          opened = gate_held log.gate (wrote.0 log.file) (opened.0 log.file) opened.2.here;
          laid = laid_on log.gate text (wrote.0 log.file) (opened.0 log.file) (some_text log.most text early.asked.text)
              (held_part (log.gate + 1) text (seen log.file) (wrote.0 log.file) wrote.2.here) (torn_held log.gate (1 ∷ []) (wrote.0 log.file) (opened.0 log.file) opened.2.here);
        })

    pub appended : log.most < 4294967296 → IfTold (bays.files before) (λ _. (first : ℕ) (payloads : List (List ℕ)) (payload : List ℕ) → text ≡ appendix payload →
        InEach (bays.leaves before) log.file (λ bytes. IsGated log.most bytes first payloads log.gate) →
        InEach (bays.leaves after) log.file (λ bytes. IsGated log.most bytes first (payloads ++ payload ∷ []) (log.gate + length text)))
    appended small seen told first payloads payload is gated image now =
        let came = (appends_on early one two).moments seen told image
        (lawful.since_earlier after (bays.moment before) (bays.moment after) image (omega (arith, one.kept.time.later, two.kept.time.later)) (lawful.since_now after image now)) in
        subst (λ (end : ℕ). IsGated log.most (image log.file) first (payloads ++ payload ∷ []) end) (omega (arith, ap length is, length_appendix payload))
        (gated_whole log.most log.gate first payloads payload (came.0 log.file) (image log.file) (subst (IsAppendix log.most) is early.asked.text) small (gated came.0 came.1)
        came.2.here.same (subst (λ (bytes : List ℕ). IsWhole log.gate bytes (image log.file)) is (whole seen told image now)))

    pub closed_next : IfTold (bays.files before) (λ _. InEach (bays.leaves after) log.file (λ bytes. IsClosed bytes (log.gate + length text)))
    closed_next seen told image now =
        let fits = early.asked.text in
        subst (IsClosed (image log.file)) (omega (arith, ap length fits.is, length_appendix fits.payload))
        (closed_there log.gate fits.payload (image log.file) (subst (λ (bytes : List ℕ). IsLaid log.gate bytes (image log.file)) fits.is (whole seen told image now).laid))
