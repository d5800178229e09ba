use Rattle.std.proofs.Common.{◌≡◌, ℕ, ◌-◌, List, ◌++◌, take, drop, replicate, refl, subst, length}
use Rattle.lert_bay.proofs.Undone.{length_covered, pending_noted, pending_done, torn_by_put}
use Rattle.lert_bay.proofs.mem_file.MemFile.write.Goals as goal

pub invariant_of-self : goal.invariant_of-self
invariant_of-self c =
    pending_noted _ _ c.self.inside.written c.push.new.self _ c.self.inside.unsynced.items _ (record { at = c.args.at; count = length c.args.bytes.now }) c.self.invariant
    c.push.ensures refl

pub invariant_of-self-in_err-push : goal.invariant_of-self-in_err-push
invariant_of-self-in_err-push c =
    pending_noted _ _ c.self.inside.written c.push.new.self _ c.self.inside.unsynced.items _ (record { at = c.args.at; count = length c.args.bytes.now }) c.self.invariant
    c.push.ensures c.in_err-push.ensures.items

pub invariant_of-self-2 : goal.invariant_of-self-2
invariant_of-self-2 c =
    let long : length c.in_ok-old.old.items ≡ length c.args.bytes.now = length_covered (length c.args.bytes.now) c.args.at c.deref.result.now c.in_ok-old.old.items
    c.in_ok-old.ensures in
    let keeps = subst (λ (bytes : List ℕ). c.in_ok-old.old.items ≡ take (length c.args.bytes.now) (drop c.args.at bytes) ++ replicate {A = ℕ}
    (length c.args.bytes.now - length (take (length c.args.bytes.now) (drop c.args.at bytes))) 0) c.deref.ensures.value c.in_ok-old.ensures in
    pending_done c.self.inside.bytes.items c.put.new.bytes.items _ c.self.inside.written c.push.new.self _ c.self.inside.unsynced.items _
    (record { at = c.args.at; count = length c.args.bytes.now }) _
    c.self.invariant c.push.ensures c.in_ok-push.ensures.items refl long keeps
    (torn_by_put c.put.result c.args.at c.args.landing c.args.bytes.now _ c.self.inside.bytes.items c.put.new.bytes.items c.requires.part refl c.put.ensures.ok c.put.ensures.err)
