-- What all workers leave in a cone, as a weave of their traces.
use Rattle.std.proofs.Common.{◌≡◌, ◌≢◌, ℕ, ◌<◌, ◌≤◌, suc, Bool, cond, eqb, List, [], ◌∷◌, ◌++◌, length, map, Some, slice_get, refl, ap, sym, ◌∙◌, subst, inl, inr, arith, append_assoc, append-nil}
use Rattle.std.proofs.{Common.length-append, lemmas.Bool.{cases_eq, eq-eqb, ne_eqb}, lemmas.List.Concat.flat_map-append}
use Rattle.std.proofs.{lemmas.List.Elements.{All-append, All-cons, All-contains, All-nil, filter-append}, lemmas.List.get_or_append_left}
use Rattle.std.specs.Prelude.{All, Contains}
use Rattle.lert_base.specs.{Beginning.BeginsWith, Packet.{Packet, events_of, of_trace, own}, Weave.{AreCut, IsPartWoven, IsWoven}, declared.cone_fault.ConeFault.ConeFault}
use Rattle.lert_conelock.proofs.Contained.{no_item, item_here, item_cases}
use Rattle.lert_conelock.specs.Sight.{Sight}
use Rattle.lert_spec.specs.{declared.item.Item.Item, declared.numbers.Numbers.Numbers}
use Rattle.lert_worker.specs.{Brings.{Brings, BringsPart, IsOwn}, Ran.{IsTurned, RanIn}, declared.end.WorkerEnd.WorkerEnd, declared.end.WorkerEnd.TheVariants.{Ran, Trace, Cone}}
use Rattle.lert_worker.specs.crew.Shares.{HasAll, HasPart, IsShare, LeftIn}
use Rattle.lert_worker.proofs.crew.Gathering.{cut_first, part_gathered, gathered}

-- ---- one worker

module _ (s : Numbers) (number cone : ℕ) (share : List ℕ) (reads : List (List Item)) where
  pub has_part : (packets : List Packet) → BringsPart s number cone share reads packets → HasPart s number cone share reads packets
  has_part packets brings = record { each = brings.each; joined = brings.joined; cut = brings.cut }

  pub has_all : (packets : List Packet) → Brings s number cone share reads packets → HasAll s number cone share reads packets
  has_all packets brings = record { each = brings.each; joined = brings.joined; cut = brings.cut }

  -- the first of the packets
  pub part_first : (xs ys : List Packet) → HasPart s number cone share reads (xs ++ ys) → HasPart s number cone share reads xs
  part_first xs ys part = record {
    each = λ k d below. subst (IsOwn s number share) (get_or_append_left xs ys d k below) (part.each k d (omega (arith, below, length-append xs ys)));
    joined = λ place trace items there is.
        let begins = part.joined place trace items there is in
        let parts = ap events_of (filter-append (λ (p : Packet). eqb p.trace trace) xs ys) ∙ flat_map-append (λ (p : Packet). p.items) (of_trace xs trace) (of_trace ys trace) in (
          events_of (of_trace ys trace) ++ begins.0,
          sym (append_assoc (events_of (of_trace xs trace)) (events_of (of_trace ys trace)) begins.0)
              ∙ (ap (λ (zs : List Item). zs ++ begins.0) (sym parts) ∙ begins.1),
        );
    cut = λ trace. cut_first s.packet (of_trace xs trace) (of_trace ys trace) (subst (AreCut s.packet) (filter-append (λ (p : Packet). eqb p.trace trace) xs ys) (part.cut trace));
  }

  -- what a run left, behind nothing
  pub left_in : {H : Type 0} (stopped : ℕ) (end : WorkerEnd) (old new : Sight H ConeFault) → old.calls ≡ [] → old.refused ≡ [] →
      RanIn s number cone share reads stopped end old new → LeftIn s number cone share reads stopped end new.calls new.refused
  left_in stopped end old new none none_refused ran =
      subst (λ (calls : List Packet). LeftIn s number cone share reads stopped end calls new.refused) (sym (ran.calls_are ∙ ap (λ (xs : List Packet). xs ++ ran.added) none))
      (subst (λ (refused : List (Packet × ConeFault)). LeftIn s number cone share reads stopped end ran.added refused)
      (sym (ran.refused_are ∙ ap (λ (xs : List (Packet × ConeFault)). xs ++ ran.turned) none_refused)) (record {
        turned_is = ran.turned_is;
        part = has_part (ran.added ++ map (λ pair. pair.0) ran.turned) ran.part;
        of_stopped = ran.of_stopped;
        all = λ is. has_all ran.added (ran.all is);
        no_rest = ran.no_rest;
      }))

  module _ (stopped : ℕ) (end : WorkerEnd) (added : List Packet) (turned : List (Packet × ConeFault)) (left : LeftIn s number cone share reads stopped end added turned) where
    pub left_part : HasPart s number cone share reads added
    left_part = part_first added (map (λ pair. pair.0) turned) left.part

    -- a packet that was refused is the only one, and the end names the cone and the refusal
    pub only_turned : (e : Packet) (f : ConeFault) → Contains turned (e, f) → (turned ≡ (e, f) ∷ []) × (end ≡ Cone cone f)
    only_turned e f has = by_end end left.turned_is
      where
        one : (at : ℕ) (fault : ConeFault) → (cone ≢ at → turned ≡ []) × (cone ≡ at → (packet : Packet) × (turned ≡ (packet, fault) ∷ [])) →
            (turned ≡ (e, f) ∷ []) × (Cone at fault ≡ Cone cone f)
        one at fault is = elim (cases_eq cone at) [
          | inl same ↦
              let only = is.1 same in
              let has_it : Contains ((only.0, fault) ∷ []) (e, f) = subst (λ (xs : List (Packet × ConeFault)). Contains xs (e, f)) only.1 has in
              elim (item_cases (only.0, fault) [] (e, f) has_it) [
                | inl pair ↦ (only.1 ∙ ap (λ (p : Packet × ConeFault). p ∷ []) pair, ap (λ n. Cone n fault) (sym same) ∙ ap (λ (p : Packet × ConeFault). Cone cone p.1) pair)
                | inr none ↦ absurd (no_item (e, f) none)
              ]
          | inr other ↦ absurd (no_item (e, f) (subst (λ (xs : List (Packet × ConeFault)). Contains xs (e, f)) (is.0 other) has))
        ]

        by_end : (end : WorkerEnd) → IsTurned end cone turned → (turned ≡ (e, f) ∷ []) × (end ≡ Cone cone f)
        by_end Ran is = absurd (no_item (e, f) (subst (λ (xs : List (Packet × ConeFault)). Contains xs (e, f)) is has))
        by_end (Trace trace fault) is = absurd (no_item (e, f) (subst (λ (xs : List (Packet × ConeFault)). Contains xs (e, f)) is has))
        by_end (Cone at fault) is = one at fault is

    -- a worker that ended at a cone has a packet that was refused there
    pub was_turned : (at : ℕ) (f : ConeFault) → end ≡ Cone at f → cone ≡ at → (e : Packet) × (turned ≡ (e, f) ∷ [])
    was_turned at f is here = (subst (λ (w : WorkerEnd). IsTurned w cone turned) is left.turned_is).1 here

    pub turned_part : (e : Packet) (f : ConeFault) → turned ≡ (e, f) ∷ [] → HasPart s number cone share reads (added ++ e ∷ [])
    turned_part e f is = subst (λ (xs : List (Packet × ConeFault)). HasPart s number cone share reads (added ++ map (λ pair. pair.0) xs)) is left.part

-- ---- all workers

own-push_same : (history : List Packet) (e : Packet) → own (history ++ e ∷ []) e.by ≡ own history e.by ++ e ∷ []
own-push_same history e =
    filter-append (λ (p : Packet). eqb p.by e.by) history (e ∷ []) ∙ ap (λ (b : Bool). own history e.by ++ cond b (e ∷ []) []) (eq-eqb e.by e.by refl)

own-push_other : (history : List Packet) (e : Packet) (number : ℕ) → e.by ≢ number → own (history ++ e ∷ []) number ≡ own history number
own-push_other history e number other =
    filter-append (λ (p : Packet). eqb p.by number) history (e ∷ [])
    ∙ (ap (λ (b : Bool). own history number ++ cond b (e ∷ []) []) (ne_eqb e.by number other) ∙ append-nil (own history number))

module _ (s : Numbers) (cone workers : ℕ) (some : 1 ≤ workers) (traces : List (List Item)) (shares : ℕ → List ℕ) (reads : ℕ → List (List Item))
    (stopped : ℕ → ℕ) (ends : ℕ → WorkerEnd) (added : ℕ → List Packet) (turned : ℕ → List (Packet × ConeFault))
    (shared : (number : ℕ) → number < workers → IsShare workers (length traces) number (shares number))
    (left : (number : ℕ) → number < workers → LeftIn s number cone (shares number) (reads number) (stopped number) (ends number) (added number) (turned number))
    (history : List Packet) (numbered : All (λ e. e.by < workers) history) (own_are : (number : ℕ) → number < workers → own history number ≡ added number) where
  -- a packet that was refused is one of its number's
  pub turned_by : (number : ℕ) → number < workers → (e : Packet) (f : ConeFault) → Contains (turned number) (e, f) → e.by ≡ number
  turned_by number named e f has =
      let here = left number named in
      let only = only_turned s number cone (shares number) (reads number) (stopped number) (ends number) (added number) (turned number) here e f has in
      let part = turned_part s number cone (shares number) (reads number) (stopped number) (ends number) (added number) (turned number) here e f only.0 in
      (All-contains (IsOwn s number (shares number)) (added number ++ e ∷ []) e part.each (Contains-last (added number) e)).by_is
    where
      Contains-last : (xs : List Packet) (x : Packet) → Contains (xs ++ x ∷ []) x
      Contains-last [] x = item_here x []
      Contains-last (y ∷ xs) x = let rest = Contains-last xs x in (suc rest.0, (let h = rest.1 in omega (arith, h)), rest.2)

  module _ (begun : (number place trace : ℕ) (whole : List Item) → number < workers → slice_get (shares number) place ≡ Some trace → slice_get traces trace ≡ Some whole →
      (read : List Item) × (slice_get (reads number) place ≡ Some read) × BeginsWith whole read) where
    part_of_own : (number : ℕ) (named : number < workers) → HasPart s number cone (shares number) (reads number) (own history number)
    part_of_own number named = subst (HasPart s number cone (shares number) (reads number)) (sym (own_are number named))
        (left_part s number cone (shares number) (reads number) (stopped number) (ends number) (added number) (turned number) (left number named))

    pub crew_part : IsPartWoven s cone workers traces history
    crew_part = part_gathered s cone workers traces shares reads shared history numbered begun some part_of_own

    -- and with a refused packet behind it
    pub crew_turned : (number : ℕ) → number < workers → (e : Packet) (f : ConeFault) → Contains (turned number) (e, f) → IsPartWoven s cone workers traces (history ++ e ∷ [])
    crew_turned number named e f has =
        part_gathered s cone workers traces shares reads shared (history ++ e ∷ []) (All-append (λ p. p.by < workers) history (e ∷ []) numbered
        (All-cons (λ p. p.by < workers) e [] (subst (λ n. n < workers) (sym by) named) (All-nil (λ p. p.by < workers)))) begun some parts
      where
        by : e.by ≡ number
        by = turned_by number named e f has

        parts : (other : ℕ) → other < workers → HasPart s other cone (shares other) (reads other) (own (history ++ e ∷ []) other)
        parts other below = elim (cases_eq e.by other) [
          | inl same ↦
              let here = left number named in
              let only = only_turned s number cone (shares number) (reads number) (stopped number) (ends number) (added number) (turned number) here e f has in
              let part = turned_part s number cone (shares number) (reads number) (stopped number) (ends number) (added number) (turned number) here e f only.0 in
              let owns : own (history ++ e ∷ []) number ≡ added number ++ e ∷ [] =
              ap (own (history ++ e ∷ [])) (sym by) ∙ (own-push_same history e
              ∙ (ap (λ n. own history n ++ e ∷ []) by ∙ ap (λ (xs : List Packet). xs ++ e ∷ []) (own_are number named))) in
              subst (λ n. HasPart s n cone (shares n) (reads n) (own (history ++ e ∷ []) n)) (sym by ∙ same) (subst (HasPart s number cone (shares number) (reads number)) (sym owns) part)
          | inr apart ↦ subst (HasPart s other cone (shares other) (reads other)) (sym (own-push_other history e other apart)) (part_of_own other below)
        ]

  -- where all ran to the ends of their traces
  pub crew_woven : ((number place trace : ℕ) (whole : List Item) → number < workers → slice_get (shares number) place ≡ Some trace → slice_get traces trace ≡ Some whole →
      slice_get (reads number) place ≡ Some whole) → ((number : ℕ) → number < workers → ends number ≡ Ran) → IsWoven s cone workers traces history
  crew_woven whole_read all_ran = gathered s cone workers traces shares reads shared history numbered whole_read some
      (λ number named. subst (HasAll s number cone (shares number) (reads number)) (sym (own_are number named)) ((left number named).all (all_ran number named)))
