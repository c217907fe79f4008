use Rattle.std.proofs.Common.{◌≡◌, ◌++◌, true, drop}
use Rattle.std.specs.Option.{option_to_list}
use Rattle.std.specs.Prelude.{IfSome}
use Rattle.cnf_form.specs.News.{unfalsified, is_free}
use Rattle.cdcl.specs.Trail.{lits_of}
use Rattle.cdcl.proofs.status.status_of.Given as goal

-- the unfalsified ones are what was found and those of the rest
abbrev pub invariant-loop-lit : goal.invariant-loop-lit
invariant-loop-lit l =
    let given = lits_of l.trail.entries in
    record {
      split : unfalsified given l.lits ≡ option_to_list l.found ++ unfalsified given (drop l.lit-index l.lits);
      unset : IfSome l.found (λ lit. is_free given lit.var ≡ true);
    }
