-- Keys of a journal that is read again: the first of them are counted again, and the others are taken.
use Rattle.lert_spec.specs.declared.item.Item.{Item}
use Rattle.std.proofs.Common.{◌≡◌, ℕ, ◌-◌, ◌<◌, ◌≤◌, List, ◌++◌, length, take, drop, min, Option, Some, sym, ap, ◌∙◌, subst, arith, append_assoc, length-append, length-take, length-drop}
use Rattle.std.proofs.lemmas.Option.{same_Some}
use Rattle.lert_base.specs.Packet.{Packet, events_of}
use Rattle.lert_bay.specs.Files.{Files}
use Rattle.lert_levels.specs.declared.rows.bin_at.BinAt.{BinAt}
use Rattle.lert_cone.specs.{Due.Dues, InStep.{IsInStep, IsPartway}, Listing.Listing, Record.LogPlace, Replay.IsOnWay, Tally.Tallied}
use Rattle.lert_cone.proofs.{GateLaws.keys_cut, ReplayLaws.{on_way_counted, in_step_behind, partway_behind, on_way_behind}}

-- `a` is the tally behind the first keys, which were counted again, and `log` the log, of which nothing was written
module _ (leaves : Files → Type 0) (seen : Files) (history : List Packet) (t a : Tallied) (log : LogPlace) (n0 count : ℕ) (keys rest : List Item)
    (on_way : IsOnWay leaves seen history t.listing t.rows t.due.reports log n0) (is : events_of history ≡ t.listing.events ++ (keys ++ rest))
    (early : count ≤ n0 - length t.listing.events) (listing_is : a.listing ≡ record t.listing { events = t.listing.events ++ take count keys }) (rows_are : a.rows ≡ t.rows)
    (due_is : a.due ≡ t.due) where
  pub way_counted : IsOnWay leaves seen history a.listing a.rows a.due.reports log n0
  way_counted =
      subst (λ (dues : Dues). IsOnWay leaves seen history a.listing a.rows dues.reports log n0) (sym due_is)
      (subst (λ (rows : List (List BinAt)). IsOnWay leaves seen history a.listing rows t.due.reports log n0) (sym rows_are)
      (on_way_counted leaves seen history t.listing t.rows t.due.reports log n0 on_way a.listing keys count listing_is early))

  ahead : events_of history ≡ a.listing.events ++ (drop count keys ++ rest)
  ahead =
      keys_cut history t.listing.events keys rest count is
      ∙ ap (λ events. events ++ (drop count keys ++ rest)) (sym (ap (λ (l : Listing). l.events) listing_is))

  -- where n0 items are there, the others are taken as those of a packet that is admitted
  module _ (enough : n0 ≤ length a.listing.events) where
    pub way_in_step : IsInStep leaves seen history a.listing a.rows a.due.reports log
    way_in_step = in_step_behind leaves seen history a.listing a.rows a.due.reports log n0 way_counted (drop count keys ++ rest) ahead enough

    pub way_partway : IsPartway a.listing.settings history a.listing.events (drop count keys)
    way_partway = partway_behind leaves seen history a.listing a.rows a.due.reports log n0 way_counted (drop count keys) rest ahead enough

    pub way_taken : (leaves_after : Files → Type 0) (after : Files) (last : Tallied) (log_after : LogPlace) →
        last.listing ≡ record a.listing { events = a.listing.events ++ drop count keys } →
        IsInStep leaves_after after history last.listing last.rows last.due.reports log_after → IsOnWay leaves_after after history last.listing last.rows last.due.reports log_after n0
    way_taken leaves_after after last log_after last_is step =
        on_way_behind leaves seen history a.listing a.rows a.due.reports log n0 way_counted leaves_after after last.listing last.rows last.due.reports log_after
        (a.listing.events ++ drop count keys) rest last_is
        (ahead ∙ sym (append_assoc a.listing.events (drop count keys) rest))
        (omega (arith, enough, length-append a.listing.events (drop count keys))) step

-- where items are left behind those that are counted again, n0 items are there
pub enough_counted : (t a : Tallied) (n0 count : ℕ) (keys : List Item) → count ≡ min (n0 - length t.listing.events) (length keys) → 0 < length (drop count keys) →
    a.listing ≡ record t.listing { events = t.listing.events ++ take count keys } → n0 ≤ length a.listing.events
enough_counted t a n0 count keys count_is some listing_is =
    omega (arith, count_is, some, length-drop count keys, length-take count keys, length-append t.listing.events (take count keys), ap (λ (l : Listing). length l.events) listing_is)

-- files are told once
pub told_once : (told : Option Files) (one other : Files) → told ≡ Some one → told ≡ Some other → one ≡ other
told_once told one other is too = same_Some one other (sym is ∙ too)
