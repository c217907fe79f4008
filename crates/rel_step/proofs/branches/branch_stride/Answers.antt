use Rattle.std.proofs.Common.{ℕ, refl, subst}
use Rattle.rel_step.specs.Onward.{IsFork}
use Rattle.rel_step.proofs.Telling.{TellsApart-grows}
use Rattle.rel_step.proofs.branches.branch_stride.Goals as goal

pub returns-clause-branch : goal.returns-clause-branch
returns-clause-branch c =
    let F : ℕ → Type 0 = λ k. IsFork c.fork.new.arena k c.args.yes c.args.no c.in_ok-nexts.nexts in
    record {
      sided = record {
        left = c.left-left.result;
        right = c.right-right.result;
        left_is = c.left-left.ensures;
        right_is = c.right-right.ensures;
        site = refl;
        sides = refl;
        leak = TellsApart-grows c.bits_apart.new.arena c.fork.new.arena 1 c.left-left.result c.right-right.result c.in_ok-leak.leak c.in_ok-nexts.ensures.extends c.in_ok-leak.ensures.apart;
        fault = refl;
      };
      target = refl;
      nexts = subst F c.left-left.ensures c.in_ok-nexts.ensures.fork;
    }
