use Rattle.ct_policy.proofs.Fitting.{have_word_sizes}
use Rattle.ct_policy.proofs.memory_rules.accessible.Goals as goal

pub push_segments-requires : goal.push_segments-requires
push_segments-requires c = rw c.as_slice.ensures (have_word_sizes c.args.elf.now c.requires)
