use Rattle.std.proofs.Common.{◌≡◌, ◌<◌, ◌≤◌, List, ℕ, length, get_or, All, ap, sym, ◌∙◌, subst, rules}
use Rattle.lert_bay.specs.{Files.IsOutside, Since.IsTornSince, Pending.{before_all, bytes_of}, declared.overwrite.Overwrite.Overwrite}
use Rattle.lert_bay.proofs.Undone.{pending_crashed, lost_by_crash, take_back_is}
use Rattle.lert_bay.proofs.mem_file.MemFile.crash.Goals as goal

pub invariant_of-self : goal.invariant_of-self
invariant_of-self c =
    let long : length c.take_back.new.bytes ≡ length c.self.inside.bytes.items = c.take_back.ensures.length ∙ ap length c.deref_mut.ensures.value in
    let short : c.length_left-length.result ≤ length c.take_back.new.bytes = search rules in
    pending_crashed c.self.inside.bytes.items (bytes_of c.self.inside.synced) c.self.inside.written c.self.inside.least c.self.inside.unsynced.items
    c.take_back.new.bytes c.truncate.new.self.items c.length_left-length.result c.self.invariant long
    (λ place outside. c.take_back.ensures.elsewhere place (subst (λ (ws : List Overwrite). All (λ w. IsOutside w.at (length w.old.items) place) ws)
    (sym c.deref.ensures.value) outside) ∙ ap (λ bytes. get_or bytes place 0) c.deref_mut.ensures.value)
    c.length_left-length.ensures.least short
    (c.truncate.ensures.items ∙ take_back_is c.length_left-length.result c.self.inside.bytes.len c.take_back.new.bytes c.self.inside.bytes.items (search rules) short)

pub returns-clause-image : goal.returns-clause-image
returns-clause-image c =
    let long : length c.take_back.new.bytes ≡ length c.self.inside.bytes.items = c.take_back.ensures.length ∙ ap length c.deref_mut.ensures.value in
    let short : c.length_left-length.result ≤ length c.take_back.new.bytes = search rules in
    let now_is : c.sync.new.self.now ≡ c.truncate.new.self.items = ap (λ f. f.now) c.sync.ensures in
    rw (← c.self.view_is)
    (subst (λ (bytes : List ℕ). IsTornSince (bytes_of c.self.inside.synced) c.self.inside.written bytes) (sym now_is)
    (pending_crashed c.self.inside.bytes.items (bytes_of c.self.inside.synced) c.self.inside.written c.self.inside.least c.self.inside.unsynced.items
    c.take_back.new.bytes c.truncate.new.self.items c.length_left-length.result c.self.invariant long
    (λ place outside. c.take_back.ensures.elsewhere place (subst (λ (ws : List Overwrite). All (λ w. IsOutside w.at (length w.old.items) place) ws)
    (sym c.deref.ensures.value) outside) ∙ ap (λ bytes. get_or bytes place 0) c.deref_mut.ensures.value)
    c.length_left-length.ensures.least short
    (c.truncate.ensures.items ∙ take_back_is c.length_left-length.result c.self.inside.bytes.len c.take_back.new.bytes c.self.inside.bytes.items (search rules) short)).as_read)

pub returns-clause-lost : goal.returns-clause-lost
returns-clause-lost c =
    let long : length c.take_back.new.bytes ≡ length c.self.inside.bytes.items = c.take_back.ensures.length ∙ ap length c.deref_mut.ensures.value in
    let short : c.length_left-length.result ≤ length c.take_back.new.bytes = search rules in
    rw (← c.self.view_is) (λ picked.
    ap (λ f. f.now) c.sync.ensures
    ∙ lost_by_crash c.self.inside.bytes.items (bytes_of c.self.inside.synced) c.self.inside.written c.self.inside.least c.self.inside.unsynced.items
    c.take_back.new.bytes c.truncate.new.self.items c.length_left-length.result c.self.invariant long
    (λ place within.
    c.take_back.ensures.lost picked place (subst (λ (bytes : List ℕ). place < length bytes) (sym c.deref_mut.ensures.value) within)
    ∙ (ap (λ writes. before_all writes place (get_or c.deref_mut.result.now place 0)) c.deref.ensures.value
    ∙ ap (λ bytes. before_all c.self.inside.unsynced.items place (get_or bytes place 0)) c.deref_mut.ensures.value))
    (c.length_left-length.ensures.lost picked)
    (c.truncate.ensures.items ∙ take_back_is c.length_left-length.result c.self.inside.bytes.len c.take_back.new.bytes c.self.inside.bytes.items (search rules) short))
