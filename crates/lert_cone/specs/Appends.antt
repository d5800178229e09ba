-- What the append of a record makes of a cone's log and of its bay.
use Rattle.std.specs.Prelude.{◌≡◌, ℕ, ◌+◌, List, [], ◌∷◌, ◌++◌, length, Result, OnOk, OnErr, IsErr}
use Rattle.lert_bay.specs.{Kept.{Bays, KeepsBay}, Files.{IfTold, Turns}, declared.bay.TheConstants.LOG}
use Rattle.lert_gatelog.specs.{Gated.{IsClosed, IsGated, next_gate}, Kept.{InEach, KeepsOthers, KeepsBefore, IsWhollySettled, IsWithOrWithout, OthersStay}}
use Rattle.lert_reports.specs.declared.log.LogKind.{LogKind}
use Rattle.lert_spec.specs.declared.report.Report.{Report}
use Rattle.lert_cone.specs.Record.{LogPlace, payload_at, payload_len}

-- A record is appended behind n0 events. In every image of each moment of the call the open records are those from before, or
-- those and this one; after Ok they are those and this one.
pub record AppendsRecord {B E : Type 0} (bays : Bays B) (kind : LogKind) (n0 : ℕ) (directory : List ℕ) (reports : List Report) (bay bay_after : B) (old new : LogPlace) (result : Result
    (Unit {0}) E) : Type 0 where
  pub moved : OnOk result (new ≡ record old { gate = next_gate old.gate (payload_at old kind n0 directory reports); named = length reports })
  pub stayed : OnErr result (new ≡ old)
  pub long : next_gate old.gate (payload_at old kind n0 directory reports) ≡ old.gate + 5 + payload_len old directory reports
  pub each_moment : IfTold (bays.files bay) (λ _. (first : ℕ) (payloads : List (List ℕ)) → InEach (bays.leaves bay) LOG (λ bytes. IsGated old.most bytes first payloads old.gate) →
      InEach (bays.left_since bay_after (bays.moment bay)) LOG (IsWithOrWithout old.most first payloads old.gate (payload_at old kind n0 directory reports)))
  pub appended : IfTold (bays.files bay) (λ _. (first : ℕ) (payloads : List (List ℕ)) → InEach (bays.leaves bay) LOG (λ bytes. IsGated old.most bytes first payloads old.gate) →
      OnOk result (InEach (bays.leaves bay_after) LOG (λ bytes. IsGated old.most bytes first (payloads ++ payload_at old kind n0 directory reports ∷ []) new.gate)))
  pub closed : IfTold (bays.files bay) (λ _. OnOk result (InEach (bays.leaves bay_after) LOG (λ bytes. IsClosed bytes new.gate)))
  pub settled : OnOk result (IfTold (bays.files bay_after) (λ seen. IsWhollySettled (bays.leaves bay_after) seen LOG))
  pub before : IfTold (bays.files bay) (λ seen. KeepsBefore (bays.leaves bay) (bays.left_since bay_after (bays.moment bay)) seen LOG old.gate)
  pub others : IfTold (bays.files bay) (λ seen. KeepsOthers (bays.leaves bay) (bays.left_since bay_after (bays.moment bay)) seen LOG)
  pub seen : Turns (OthersStay LOG) (bays.files bay) (bays.files bay_after)
  pub kept : KeepsBay bays bay bay_after (IsErr result)
