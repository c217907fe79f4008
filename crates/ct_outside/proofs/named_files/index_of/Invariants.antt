use Rattle.std.proofs.Common.{◌≡◌, drop}
use Rattle.ct_outside.specs.Files.{file_of, named}
use Rattle.ct_outside.proofs.named_files.index_of.Given as goal

abbrev pub invariant-loop-index : goal.invariant-loop-index
invariant-loop-index l = file_of (named (drop l.index l.files)) l.name ≡ file_of (named l.files) l.name
