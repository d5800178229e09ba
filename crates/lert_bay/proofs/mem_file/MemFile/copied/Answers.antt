use Rattle.std.proofs.Common.{map, ap, ◌∙◌}
use Rattle.lert_bay.specs.Pending.{bytes_of, kept_by}
use Rattle.lert_bay.proofs.Copying.{pending_copied}
use Rattle.lert_bay.proofs.mem_file.MemFile.copied.Goals as goal

pub invariant_of-result : goal.invariant_of-result
invariant_of-result c =
    pending_copied c.self.inside.bytes.items _ (bytes_of c.self.inside.synced) _ c.self.inside.written _ c.self.inside.least c.self.inside.unsynced.items
    c.in_ok-copies.field-0.items
    (c.in_ok-from_slice.ensures.items ∙ c.deref.ensures.value)
    (ap bytes_of c.copied.ensures) c.copied-2.ensures
    (c.in_ok-copies.ensures ∙ ap (map kept_by) c.deref-2.ensures.value)
    c.self.invariant
