use Rattle.std.proofs.Common.{rules, append_assoc}
use Rattle.std.proofs.lemmas.Result.{IfOk-equal}
use Rattle.ct_gen.specs.Files.{file_header}
use Rattle.ct_gen.proofs.headers.FileFields.push.Goals as goal

pub returns : goal.returns
unfolding file_header
returns c = search (rules, IfOk-equal, append_assoc)
