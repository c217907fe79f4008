use Rattle.rv_image.proofs.Laws.{length-bytes_of}
use Rattle.rv_machine.proofs.machine.Machine.new.Goals as goal

pub returns-clause-bytes : goal.returns-clause-bytes
returns-clause-bytes c = rw c.in_ok-loaded_bytes.ensures (length-bytes_of c.args.image.now)
