-- The machines of a check of all pairs.
use Rattle.std.specs.Prelude.{◌≡◌, length}
use Rattle.rv_image.specs.Image.{size_of}
use Rattle.ct_pairs.specs.declared.job.Job.{Job}
use Rattle.ct_pairs.specs.declared.runs.Runs.{Runs}
use Rattle.ct_pairs.specs.Start.{fresh}

-- one machine is as it was made, and the others have the bytes of the image
pub record AreRuns (job : Job) (runs : Runs) : Type 0 where
  pub is_fresh : runs.fresh ≡ fresh job
  pub left_bytes : length runs.left.bytes ≡ size_of job.image
  pub right_bytes : length runs.right.bytes ≡ size_of job.image
