use Rattle.rv_image.proofs.Loaded.{holds_parts}
use Rattle.rv_image.proofs.loading.loading_law.Goals as goal

pub returns : goal.returns
returns c = holds_parts c.args.elf.now c.args.extra.now c.requires
