-- A pass of a fleet is cut from the first cone on.
use Rattle.std.proofs.Common.{◌≡◌, ℕ, ◌+◌, ◌<◌, ◌≤◌, List, [], ◌∷◌, ◌++◌, length, map, set, take, drop, get_or, refl, sym, ap, ◌∙◌, subst, arith}
use Rattle.std.proofs.{lemmas.List.{length-append, length-map, length-take-le, take-append-drop, drop_more, drop_all, take_all, append-nil, get_or_at, map_more}, lemmas.List.Edits.map_over_more}
use Rattle.crossbeam_utils.specs.{declared.cache_padded.CachePadded.CachePadded, Padded.padded_value}
use Rattle.lert_conelock.specs.Sight.{Sight, LockSight}
use Rattle.lert_fleet.specs.Cones.{FleetSight, FleetPassSight, IsOwnPass, IsPassOf, below, from}
use Rattle.lert_fleet.proofs.Places.{image_at, read_at, seen_at}

pub none_below : (lo at : ℕ) → lo < at → at ≡ 0 → ⊥
none_below lo at within zero = omega (arith, within, zero)

module _ {H F : Type 0} where
  abbrev pub lower : ℕ → Sight H F → Sight H F
  lower at own = record own { hi = at }

  abbrev pub upper : ℕ → Sight H F → Sight H F
  upper at own = record own { lo = at; met = 0; waits = 0 }

  -- so many cones are cut
  pub record IsSplitting (at : ℕ) (cones : List (Sight H F)) (done : ℕ) (now others : List (Sight H F)) : Type 0 where
    pub now_is : now ≡ map (lower at) (take done cones) ++ drop done cones
    pub others_are : others ≡ map (upper at) (take done cones)

  pub splitting_first : (at : ℕ) (cones : List (Sight H F)) → IsSplitting at cones 0 cones []
  splitting_first at cones = record { now_is = refl; others_are = refl }

  pub splitting_begun : (at lo hi : ℕ) (cones others : List (Sight H F)) (pass : FleetPassSight H F) → record { lo = lo; hi = hi; cones = cones } ≡ pass → others ≡ []
      → IsSplitting at pass.cones 0 cones others
  splitting_begun at lo hi cones others pass view none =
      subst (λ (xs : List (Sight H F)). IsSplitting at pass.cones 0 cones xs) (sym none)
      (subst (λ (x : FleetPassSight H F). IsSplitting at x.cones 0 cones []) view (splitting_first at cones))

  module _ (at : ℕ) (cones : List (Sight H F)) (done : ℕ) (now others : List (Sight H F)) (was : IsSplitting at cones done now others) where
    pub now_long : length now ≡ length cones
    now_long = omega (
      arith,
      ap (λ (xs : List (Sight H F)). length xs) was.now_is,
      length-append (map (lower at) (take done cones)) (drop done cones),
      length-map (take done cones) (lower at),
      length-append (take done cones) (drop done cones),
      ap (λ (xs : List (Sight H F)). length xs) (take-append-drop done cones),
    )

    pub others_long : done ≤ length cones → length others ≡ done
    others_long few = ap (λ (xs : List (Sight H F)). length xs) was.others_are ∙ (length-map (take done cones) (upper at) ∙ length-take-le done cones few)

    -- there is room for one more
    pub room_more : (long room most : ℕ) → long ≡ length others → most ≡ length cones → done < most → most ≤ room → long < room
    room_more long room most is many within fits = omega (arith, is, many, others_long (omega (arith, within, many)), within, fits)

    -- the next cone stands as it was
    pub next_is : (own : Sight H F) → done < length cones → own ≡ get_or now done own → own ≡ get_or cones done own
    next_is own within read = read ∙ (ap (λ (xs : List (Sight H F)). get_or xs done own)
        (was.now_is ∙ ap (λ (xs : List (Sight H F)). map (lower at) (take done cones) ++ xs) (drop_more cones done own within))
        ∙ get_or_at (map (lower at) (take done cones)) (get_or cones done own) (drop (done + 1) cones) own done
        (length-map (take done cones) (lower at) ∙ length-take-le done cones (omega arith)))

    pub splitting_more : (own : Sight H F) → done < length cones → own ≡ get_or now done own
        → IsSplitting at cones (done + 1) (set now done (lower at own)) (others ++ upper at own ∷ [])
    splitting_more own within read = record {
      now_is = map_over_more (lower at) cones now done own within was.now_is read;
      others_are = ap (λ (xs : List (Sight H F)). xs ++ upper at own ∷ []) was.others_are
          ∙ (ap (λ (x : Sight H F). map (upper at) (take done cones) ++ upper at x ∷ []) (next_is own within read)
          ∙ sym (map_more (upper at) cones done own within));
    }

    pub now_at_last : length cones ≤ done → now ≡ map (lower at) cones
    now_at_last all = was.now_is ∙ (ap (λ (xs : List (Sight H F)). map (lower at) xs ++ drop done cones) (take_all done cones all)
        ∙ (ap (λ (xs : List (Sight H F)). map (lower at) cones ++ xs) (drop_all done cones all) ∙ append-nil (map (lower at) cones)))

    pub others_at_last : length cones ≤ done → others ≡ map (upper at) cones
    others_at_last all = was.others_are ∙ ap (map (upper at)) (take_all done cones all)

  module _ (fleet : FleetSight H) (pass : FleetPassSight H F) (is : IsPassOf pass fleet) (at : ℕ) where
    own_below : (lock : LockSight H) (a b : Sight H F) → IsOwnPass pass lock a → lower at a ≡ b → IsOwnPass (below at pass) lock b
    own_below lock a b own same = subst (λ (x : Sight H F). IsOwnPass (below at pass) lock x) same
        record { belongs = record { lock_is = own.belongs.lock_is; first_is = own.belongs.first_is }; lo_is = own.lo_is; hi_is = refl }

    below_still : IsPassOf (below at pass) fleet
    below_still = record {
      as_many = length-map pass.cones (lower at) ∙ is.as_many;
      each = λ place lock b lock_is b_is.
          (let a = image_at (lower at) pass.cones place b b_is in own_below lock a.0 b (is.each place lock a.0 lock_is a.1) a.2);
    }

    own_from : (lock : LockSight H) (a b : Sight H F) → IsOwnPass pass lock a → upper at a ≡ b → IsOwnPass (from at pass) lock b
    own_from lock a b own same = subst (λ (x : Sight H F). IsOwnPass (from at pass) lock x) same
        record { belongs = record { lock_is = own.belongs.lock_is; first_is = own.belongs.first_is }; lo_is = refl; hi_is = own.hi_is }

    from_still : IsPassOf (from at pass) fleet
    from_still = record {
      as_many = length-map pass.cones (upper at) ∙ is.as_many;
      each = λ place lock b lock_is b_is.
          (let a = image_at (upper at) pass.cones place b b_is in own_from lock a.0 b (is.each place lock a.0 lock_is a.1) a.2);
    }

  -- the next cone has its own pass as before
  pub next_own : (fleet : FleetSight H) (pass : FleetPassSight H F) → IsPassOf pass fleet → (at done : ℕ)
      → (now others : List (Sight H F)) → IsSplitting at pass.cones done now others
      → (locks : List (CachePadded (LockSight H))) → map padded_value locks ≡ fleet
      → (padded : CachePadded (LockSight H)) (lock : LockSight H) → padded ≡ get_or locks done padded → lock ≡ padded_value padded
      → (own : Sight H F) → own ≡ get_or now done own → done < length locks → IsOwnPass pass lock own
  next_own fleet pass is at done now others was locks fleet_is padded lock read seen own own_read within =
      let rows : length (map padded_value locks) ≡ length fleet = ap (λ (xs : List (LockSight H)). length xs) fleet_is in
      let as_many = is.as_many in
      let own_within : done < length pass.cones = omega (arith, length-map locks padded_value) in
      is.each done lock own (seen_at padded_value locks fleet fleet_is done padded lock within read seen)
      (read_at pass.cones done own own_within (next_is at pass.cones done now others was own own_within own_read))

  pub own_within : {pass : FleetPassSight H F} {lock : LockSight H} {own : Sight H F} {at : ℕ} → IsOwnPass pass lock own
      → (pass.lo < at) × (at < pass.hi) → (own.lo < at) × (at < own.hi)
  own_within {pass} {lock} {own} {at} is within = (
    subst (λ (n : ℕ). n < at) (sym is.lo_is) within.0,
    subst (λ (n : ℕ). at < n) (sym is.hi_is) within.1,
  )

  -- one cone more is cut
  pub splitting_cut : (at : ℕ) (cones : List (Sight H F)) (done : ℕ) (now others : List (Sight H F)) → IsSplitting at cones done now others
      → (own kept cut : Sight H F) → done < length cones → own ≡ get_or now done own → kept ≡ lower at own → cut ≡ upper at own
      → (more : List (Sight H F)) → more ≡ others ++ cut ∷ [] → IsSplitting at cones (done + 1) (set now done kept) more
  splitting_cut at cones done now others was own kept cut within read kept_is cut_is more pushed =
      subst (λ (xs : List (Sight H F)). IsSplitting at cones (done + 1) (set now done kept) xs) (sym pushed)
      (subst (λ (x : Sight H F). IsSplitting at cones (done + 1) (set now done x) (others ++ cut ∷ [])) (sym kept_is)
      (subst (λ (x : Sight H F). IsSplitting at cones (done + 1) (set now done (lower at own)) (others ++ x ∷ [])) (sym cut_is)
      (splitting_more at cones done now others was own within read)))

  -- the passes once all cones are cut
  pub below_at_last : (at : ℕ) (pass : FleetPassSight H F) (done lo : ℕ) (now others : List (Sight H F))
      → IsSplitting at pass.cones done now others → length pass.cones ≤ done → lo ≡ pass.lo
      → record { lo = lo; hi = at; cones = now } ≡ below at pass
  below_at_last at pass done lo now others was all same =
      λ i. record { lo = same i; hi = at; cones = now_at_last at pass.cones done now others was all i }

  pub from_at_last : (at : ℕ) (pass : FleetPassSight H F) (done hi : ℕ) (now others : List (Sight H F))
      → IsSplitting at pass.cones done now others → length pass.cones ≤ done → hi ≡ pass.hi
      → record { lo = at; hi = hi; cones = others } ≡ from at pass
  from_at_last at pass done hi now others was all same =
      λ i. record { lo = at; hi = same i; cones = others_at_last at pass.cones done now others was all i }

  pub below_of : (fleet : FleetSight H) (at : ℕ) (pass : FleetPassSight H F) (done lo : ℕ) (now others : List (Sight H F))
      → IsPassOf pass fleet → IsSplitting at pass.cones done now others → length pass.cones ≤ done → lo ≡ pass.lo
      → IsPassOf record { lo = lo; hi = at; cones = now } fleet
  below_of fleet at pass done lo now others is was all same = subst (λ (x : FleetPassSight H F). IsPassOf x fleet)
      (sym (below_at_last at pass done lo now others was all same)) (below_still fleet pass is at)

  pub from_of : (fleet : FleetSight H) (at : ℕ) (pass : FleetPassSight H F) (done hi : ℕ) (now others : List (Sight H F))
      → IsPassOf pass fleet → IsSplitting at pass.cones done now others → length pass.cones ≤ done → hi ≡ pass.hi
      → IsPassOf record { lo = at; hi = hi; cones = others } fleet
  from_of fleet at pass done hi now others is was all same = subst (λ (x : FleetPassSight H F). IsPassOf x fleet)
      (sym (from_at_last at pass done hi now others was all same)) (from_still fleet pass is at)

  -- as many cones as locks
  pub as_long : (fleet : FleetSight H) (pass : FleetPassSight H F) → IsPassOf pass fleet → (locks : List (CachePadded (LockSight H)))
      → map padded_value locks ≡ fleet → length pass.cones ≡ length locks
  as_long fleet pass is locks fleet_is =
      is.as_many ∙ (ap (λ (xs : List (LockSight H)). length xs) (sym fleet_is) ∙ length-map locks padded_value)
