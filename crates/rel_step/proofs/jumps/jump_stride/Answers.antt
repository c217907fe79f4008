use Rattle.std.proofs.Common.{◌∙◌, sym, ap, refl}
use Rattle.rel_step.proofs.Telling.{TellsApart-grows}
use Rattle.rel_step.proofs.jumps.jump_stride.Goals as goal

pub returns-in_ok-nexts-in-Constant-clause-jump : goal.returns-in_ok-nexts-in-Constant-clause-jump
returns-in_ok-nexts-in-Constant-clause-jump c = record {
  sided = record {
    left = c.left-left.result;
    right = c.right-right.result;
    left_is = c.left-left.ensures;
    right_is = c.right-right.ensures;
    site = refl;
    sides = refl;
    leak = TellsApart-grows c.words_apart.new.arena c.only.new.arena 1 c.left-left.result c.right-right.result c.in_ok-leak.leak c.in_ok-nexts-in-Constant.ensures.extends c.in_ok-leak.ensures.apart;
    fault = refl;
  };
  goes = (
    c.in-Constant.value,
    λ env v bytes is. ap v (sym c.left-left.ensures) ∙ (c.in_ok-nexts-in-Constant.ensures.extends.values env v is).at c.left-left.result.0 _ c.in-Constant.ensures.node,
    c.in_ok-nexts-in-Constant.ensures.only,
  );
}

pub returns-in_default-clause-jump : goal.returns-in_default-clause-jump
returns-in_default-clause-jump c = record {
  sided = record {
    left = c.left-left.result;
    right = c.right-right.result;
    left_is = c.left-left.ensures;
    right_is = c.right-right.ensures;
    site = refl;
    sides = refl;
    leak = c.in_ok-leak.ensures.apart;
    fault = refl;
  };
  goes = (c.left-left.ensures, c.from_vec.ensures ∙ c.new.ensures.items);
}
