use Rattle.std.proofs.Common.{◌≡◌, length, drop, slice_index, replicate}
use Rattle.rv_image.specs.Image.{size_of}
use Rattle.ct_pairs.specs.Inputs.{public_count, secret_count}
use Rattle.ct_pairs.specs.Start.{all_placed, input_values, start}
use Rattle.ct_pairs.proofs.placing.place_inputs.Given as goal

-- the values left put in their places make the start
abbrev pub invariant-loop-input : goal.invariant-loop-input
invariant-loop-input l =
    let left = drop l.input-index l.job.inputs in
    record {
      rest : all_placed l.job.image left (input_values left l.shared l.secret) (record l.machine { registers = l.registers }) ≡ start l.job l.fn.shared l.fn.secret;
      shared : length l.shared ≡ public_count left;
      secret : length l.secret ≡ secret_count left;
      bytes : length l.machine.bytes ≡ size_of l.job.image;
      fresh : l.machine.registers ≡ replicate 32 0;
      zero : slice_index l.registers 0 ≡ 0;
    }
