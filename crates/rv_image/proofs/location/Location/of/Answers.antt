use Rattle.std.proofs.Common.{ℕ, ◌+◌, ◌-◌, ◌≤◌, false, arith}
use Rattle.rv_image.proofs.Halving.{cell_at-miss, IsLocation-hit}
use Rattle.rv_image.proofs.Holding.{IsHeld-hit}
use Rattle.rv_image.proofs.location.Location.of.Goals as goal

ends_before : (length address first : ℕ) → length ≤ address - first → first ≤ address → first + length ≤ address
ends_before length address first long from = omega arith

pub returns-then-begun-eq0-clause-location : goal.returns-then-begun-eq0-clause-location
returns-then-begun-eq0-clause-location c =
    cell_at-miss c.args.spans.now c.args.starts.now c.args.bytes.now c.begun-begun.result c.args.address (record { address = 0; length = 0; read = false; write = false; exec = false }) c.requires c.begun-begun.ensures.bound c.begun-begun.ensures.later (λ some. absurd (omega arith))

pub returns-then-offset-span-clause-location : goal.returns-then-offset-span-clause-location
returns-then-offset-span-clause-location c =
    cell_at-miss c.args.spans.now c.args.starts.now c.args.bytes.now c.begun-begun.result c.args.address _ c.requires c.begun-begun.ensures.bound c.begun-begun.ensures.later (λ some. ends_before _ _ _ c.if-offset-span.true (c.begun-begun.ensures.begun (c.begun-begun.result - 1) _ (omega arith) (omega arith)))

pub returns-clause-location : goal.returns-clause-location
returns-clause-location c =
    IsLocation-hit c.args.spans.now c.args.starts.now c.args.bytes.now (c.begun-begun.result - 1) c.args.address _ c.requires (omega arith) (c.begun-begun.ensures.begun (c.begun-begun.result - 1) _ (omega arith) (omega arith)) c.if-offset-span.false

pub returns-clause-held : goal.returns-clause-held
returns-clause-held c =
    IsHeld-hit c.args.spans.now c.args.starts.now c.args.bytes.now (c.begun-begun.result - 1) c.args.address _ c.requires (omega arith) (c.begun-begun.ensures.begun (c.begun-begun.result - 1) _ (omega arith) (omega arith)) c.if-offset-span.false
