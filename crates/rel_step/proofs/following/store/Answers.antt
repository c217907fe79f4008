use Rattle.std.proofs.Common.{get_or}
use Rattle.std.proofs.lemmas.List.{get_or_default}
use Rattle.rel_store.specs.declared.rel_value.RelValue.TheVariants.{Same}
use Rattle.rel_memory.specs.declared.contents.Written.{Written}
use Rattle.rel_step.proofs.FollowingLaws.{ArePut-more}
use Rattle.rel_step.proofs.following.store.Goals as goal

abbrev no_byte : Written
no_byte = record { address = record { 0 = 0 }; held = Same (record { 0 = 0 }) }

pub loop-i-preserved : goal.loop-i-preserved
loop-i-preserved c =
    let ones = c.args.ones.now in
    let i = c.loop-i.i in
    let within = c.loop-i-test.true in
    let ensured = c.in_ok-write_byte.ensures in
    ArePut-more c.args.arena.now c.args.memory.now c.loop-i.memory c.write_byte.new.self ones i (get_or ones i no_byte) within (get_or_default ones i (get_or ones i no_byte) no_byte within) c.loop-i.invariant ensured.memory ensured.image ensured.meaning
