use Rattle.std.proofs.Common.{ℕ, Bool, cond, eqb, refl, sym, ap, ◌∙◌}
use Rattle.rel_store.specs.Sides.{side_id}
use Rattle.rel_memory.specs.Contents.{byte_in}
use Rattle.rel_memory.proofs.Writing.{byte_in-put, byte_in-written, IsMemory-written, passed-few, swapped}
use Rattle.rel_memory.proofs.rel_memory.RelMemory.write_byte.Goals as goal

pub returns-in_ok-put-clause-meaning : goal.returns-in_ok-put-clause-meaning
returns-in_ok-put-clause-meaning c = λ right env v run at.
    byte_in-put _ _ _ _ c.in_ok-put.ensures.put refl right v at
    ∙ ap (λ (x : ℕ). cond (eqb at x) (v (side_id right c.args.value)) (byte_in right v c.args.self.now at)) (sym (run.at _ _ c.in-Constant.ensures.node))

pub returns-in_ok-write-clause-meaning : goal.returns-in_ok-write-clause-meaning
returns-in_ok-write-clause-meaning c = λ right env v run at.
    byte_in-written _ _ _ c.in_ok-write.ensures.image c.in_ok-write.ensures.kept c.in_ok-write.ensures.computed right v at (passed-few _ _ at c.requires.memory)
    ∙ ap (λ (b : Bool). cond b (v (side_id right c.args.value)) (byte_in right v c.args.self.now at)) (swapped (v c.args.address.0) at)

pub returns-in_ok-write-clause-memory : goal.returns-in_ok-write-clause-memory
returns-in_ok-write-clause-memory c =
    IsMemory-written _ _ _ c.in_ok-write.ensures.image c.in_ok-write.ensures.kept c.in_ok-write.ensures.computed _ c.requires.memory (record { address = c.requires.address; held = c.requires.value })
