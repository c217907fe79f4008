use Rattle.std.proofs.Common.{◌≡◌, ℕ, ◌<◌, ◌+◌, List, false, length, drop, slice_index, sym, ◌∙◌, ap, arith, length-drop}
use Rattle.std.specs.Borrow.{Bor}
use Rattle.std.proofs.lemmas.List.{take_rest}
use Rattle.rv_machine.specs.State.{State}
use Rattle.ct_pairs.specs.declared.input_byte.InputByte.{InputByte}
use Rattle.ct_pairs.specs.declared.place.Place.TheVariants.{Register}
use Rattle.ct_pairs.specs.Start.{all_placed, input_values}
use Rattle.ct_pairs.proofs.StartLemmas.{fresh_is, start-begins, zero_register, over_all, next_secret, next_public, counts_secret, counts_public}
use Rattle.ct_pairs.proofs.placing.place_inputs.Goals as goal
use Rattle.ct_pairs.proofs.placing.place_inputs.Goals.{then-input, else-input}

-- the input that a read past the end would give
abbrev none : InputByte
none = record { place = Register 0 0; secret = false }

pub loop-input-init : goal.loop-input-init
loop-input-init c =
    let job = c.args.job.now in
    let f = fresh_is job c.args.machine.now c.requires.fresh in
    record {
      rest = start-begins job c.args.machine.now c.first_registers-registers.result c.args.shared.now c.args.secret.now c.requires.fresh c.first_registers-registers.ensures;
      shared = c.requires.shared;
      secret = c.requires.secret;
      bytes = f.bytes;
      fresh = f.registers;
      zero = zero_register job c.first_registers-registers.result c.first_registers-registers.ensures;
    }

pub loop-input-preserved : goal.loop-input-preserved
loop-input-preserved c =
    let image = c.args.job.now.image in
    let inputs = c.args.job.now.inputs in
    let i = c.loop-input.input-index in
    let items = c.as_slice-input-items.ensures in
    let within : i < length inputs = omega (arith, ap length items) in
    let before : State = record c.loop-input.machine { registers = c.loop-input.registers } in
    let after : State = record c.if-input.machine { registers = c.if-input.registers } in
    let F : List ℕ → List ℕ → State → State = λ sh se s. all_placed image (drop (i + 1) inputs) (input_values (drop (i + 1) inputs) sh se) s in
    elim c.if-input.branch [
      | then-input w ↦
          let kind = rw items at w.if-input.true in
          let placed_is = rw items at w.place_byte.ensures.placed in
          let rest : c.if-input.secret.now ≡ drop 1 c.loop-input.secret.now = ap (λ (b : Bor (List ℕ)). b.now) w.secret-is ∙ take_rest c.loop-input.secret.now 1 in
          let kept : c.if-input.shared.now ≡ c.loop-input.shared.now = ap (λ (b : Bor (List ℕ)). b.now) w.shared-is in
          let counts = counts_secret inputs i none within kind in
          let state_is : after ≡ record w.place_byte.new.machine { registers = w.place_byte.new.registers } = ap (λ (m : State). let s : State = record m { registers = c.if-input.registers } in s) w.machine-is ∙ ap (λ rs. let s : State = record w.place_byte.new.machine { registers = rs } in s) w.registers-is in
          record {
            rest = ap (λ sh. F sh c.if-input.secret.now after) kept ∙ ap (λ se. F c.loop-input.shared.now se after) rest ∙ ap (F c.loop-input.shared.now (drop 1 c.loop-input.secret.now)) (state_is ∙ placed_is) ∙ sym (next_secret image inputs i none c.loop-input.shared.now c.loop-input.secret.now before within kind) ∙ c.loop-input.invariant.rest;
            shared = ap length kept ∙ c.loop-input.invariant.shared ∙ counts.0;
            secret = omega (arith, ap length rest, length-drop 1 c.loop-input.secret.now, c.loop-input.invariant.secret, counts.1);
            bytes = ap (λ (m : State). length m.bytes) w.machine-is ∙ w.place_byte.ensures.size ∙ c.loop-input.invariant.bytes;
            fresh = ap (λ (m : State). m.registers) w.machine-is ∙ w.place_byte.ensures.kept ∙ c.loop-input.invariant.fresh;
            zero = ap (λ rs. slice_index rs 0) w.registers-is ∙ w.place_byte.ensures.zero ∙ c.loop-input.invariant.zero;
          }
      | else-input w ↦
          let kind = rw items at w.if-input.false in
          let placed_is = rw items at w.place_byte-else-input.ensures.placed in
          let rest : c.if-input.shared.now ≡ drop 1 c.loop-input.shared.now = ap (λ (b : Bor (List ℕ)). b.now) w.shared-is ∙ take_rest c.loop-input.shared.now 1 in
          let kept : c.if-input.secret.now ≡ c.loop-input.secret.now = ap (λ (b : Bor (List ℕ)). b.now) w.secret-is in
          let counts = counts_public inputs i none within kind in
          let state_is : after ≡ record w.place_byte-else-input.new.machine { registers = w.place_byte-else-input.new.registers } = ap (λ (m : State). let s : State = record m { registers = c.if-input.registers } in s) w.machine-is ∙ ap (λ rs. let s : State = record w.place_byte-else-input.new.machine { registers = rs } in s) w.registers-is in
          record {
            rest = ap (λ se. F c.if-input.shared.now se after) kept ∙ ap (λ sh. F sh c.loop-input.secret.now after) rest ∙ ap (F (drop 1 c.loop-input.shared.now) c.loop-input.secret.now) (state_is ∙ placed_is) ∙ sym (next_public image inputs i none c.loop-input.shared.now c.loop-input.secret.now before within kind) ∙ c.loop-input.invariant.rest;
            shared = omega (arith, ap length rest, length-drop 1 c.loop-input.shared.now, c.loop-input.invariant.shared, counts.0);
            secret = ap length kept ∙ c.loop-input.invariant.secret ∙ counts.1;
            bytes = ap (λ (m : State). length m.bytes) w.machine-is ∙ w.place_byte-else-input.ensures.size ∙ c.loop-input.invariant.bytes;
            fresh = ap (λ (m : State). m.registers) w.machine-is ∙ w.place_byte-else-input.ensures.kept ∙ c.loop-input.invariant.fresh;
            zero = ap (λ rs. slice_index rs 0) w.registers-is ∙ w.place_byte-else-input.ensures.zero ∙ c.loop-input.invariant.zero;
          }
    ]

pub returns : goal.returns
returns c =
    let job = c.args.job.now in
    let items = c.as_slice-input-items.ensures in
    let at_end = over_all job.image job.inputs c.loop-input.input-index c.loop-input.shared.now c.loop-input.secret.now (record c.loop-input.machine { registers = c.loop-input.registers }) (omega (arith, ap length items)) in
    c.write_registers.ensures ∙ sym at_end ∙ c.loop-input.invariant.rest
