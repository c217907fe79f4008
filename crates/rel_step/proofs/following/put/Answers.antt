use Rattle.rel_step.proofs.FollowingLaws.{put_nothing, put_register, put_bytes}
use Rattle.rel_step.proofs.following.put.Goals as goal

pub set-requires : goal.set-requires
set-requires c = (rw c.in-Register.is at c.requires.parts).0

pub returns-in-Nothing : goal.returns-in-Nothing
returns-in-Nothing c = rw c.in-Nothing.is (put_nothing _ _ c.requires.here)

pub returns-in-Register : goal.returns-in-Register
returns-in-Register c = rw c.in-Register.is (put_register _ _ _ _ _ c.set.ensures c.requires.here (rw c.in-Register.is at c.requires.parts).1)

pub returns-in_ok-store-in-Bytes : goal.returns-in_ok-store-in-Bytes
returns-in_ok-store-in-Bytes c = rw c.in-Bytes.is (put_bytes _ c.args.here.now c.in-Bytes.ones c.store.new.memory c.requires.here (rw c.as_slice.ensures.value at c.in_ok-store-in-Bytes.ensures.stored))
