use Rattle.std.proofs.Common.{◌≡◌, take}
use Rattle.cnf_form.specs.Writing.{IsBegun}
use Rattle.cnf_form.proofs.encoding.push_roots.Given as goal

abbrev pub invariant-loop-root : goal.invariant-loop-root
invariant-loop-root l = record { vars : l.cnf.vars ≡ l.fn.cnf.vars; begun : IsBegun l.fn.cnf.vars (take l.root-index l.roots) l.cnf.clauses l.below.items }
