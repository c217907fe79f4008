use Rattle.std.proofs.Common.{◌+◌, ◌*◌, ℕ, subst, sym, false, length}
use Rattle.bv_expr.specs.Nodes.{HasWidth}
use Rattle.bv_range.proofs.Walks.{AreRight-later}
use Rattle.rel_memory.specs.declared.rel_memory.TheConstants.{READ_NODES}
use Rattle.rel_step.proofs.Growing.{IsMemory-grows}
use Rattle.rel_step.proofs.Operands.{register_sides}
use Rattle.rel_step.proofs.Addressing.{reach_is, size_some, size_few}
use Rattle.rel_step.proofs.addresses.reach_of.Goals as goal

pub returns-in_err-address-clause-ranges : goal.returns-in_err-address-clause-ranges
returns-in_err-address-clause-ranges g c = AreRight-later c.args.arena.now c.named.new.arena c.args.ranges.now 67 c.in_err-address.ensures.extends c.requires.ranges

pub named-requires-clause-from : goal.named-requires-clause-from
named-requires-clause-from g c = register_sides c.args.arena.now c.args.here.now c.args.rs1 c.get-from.result c.requires.here c.get-from.ensures

pub allowed-requires-clause-memory : goal.allowed-requires-clause-memory
allowed-requires-clause-memory g c = IsMemory-grows c.args.arena.now c.named.new.arena 67 c.args.here.now.memory c.in_ok-address.ensures.extends c.requires.here.memory

pub allowed-requires-clause-address : goal.allowed-requires-clause-address
allowed-requires-clause-address g c = let P : ℕ → Type 0 = λ i. HasWidth c.named.new.arena i 32 in subst P (sym c.left-left.ensures) (c.in_ok-address.ensures.width false)

pub allowed-requires-clause-some : goal.allowed-requires-clause-some
allowed-requires-clause-some g c = size_some c.args.bytes c.requires.size

pub allowed-requires-clause-few : goal.allowed-requires-clause-few
allowed-requires-clause-few g c = size_few c.args.bytes c.requires.size

pub allowed-requires-clause-ranges : goal.allowed-requires-clause-ranges
allowed-requires-clause-ranges g c = AreRight-later c.args.arena.now c.named.new.arena c.args.ranges.now 67 c.in_ok-address.ensures.extends c.requires.ranges

pub returns-clause-reach : goal.returns-clause-reach
returns-clause-reach g c =
    reach_is c.args.arena.now c.named.new.arena c.allowed.new.arena 67 (4 * (READ_NODES + 4 * length c.args.here.now.memory.image)) c.args.here.now c.args.kind c.args.rs1 c.args.offset c.args.bytes c.get-from.result c.in_ok-address.address c.left-left.result c.in_ok-allowed.allowed
    c.requires.here c.get-from.ensures c.in_ok-address.ensures.extends c.in_ok-allowed.ensures.extends c.in_ok-address.ensures.width
    c.in_ok-address.ensures.value c.left-left.ensures c.in_ok-allowed.ensures.width c.in_ok-allowed.ensures.value
