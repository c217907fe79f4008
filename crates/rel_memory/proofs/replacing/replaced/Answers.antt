use Rattle.std.proofs.Common.{◌≢◌, ℕ, refl, sym, ◌∙◌, subst, arith}
use Rattle.std.proofs.lemmas.Bool.{ne_eqb}
use Rattle.bv_expr.proofs.Growing.{Extends-then}
use Rattle.bv_range.specs.Known.{IsWithin}
use Rattle.bv_range.proofs.Walks.{AreRight-later}
use Rattle.rel_memory.proofs.RangeLaws.{chosen_equal}
use Rattle.rel_memory.proofs.replacing.replaced.Goals as goal

pub returns-then-are_apart-clause-value : goal.returns-then-are_apart-clause-value
returns-then-are_apart-clause-value c = λ env v bytes run right.
    let apart : v c.args.address.0 ≢ v c.args.at.0 = λ same.
    let in_at = c.in_ok-of_at.ensures.range.right env v bytes run in
    let P : ℕ → Type 0 = λ n. IsWithin c.in_ok-of_at.of_at n in
    c.are_apart.ensures.apart c.if-are_apart.true (v c.args.address.0) (c.in_ok-of_address.ensures.range.right env v bytes run) (subst P (sym same) in_at) in
    rw (ne_eqb _ _ apart) refl

pub returns-in_err-byte-clause-ranges : goal.returns-in_err-byte-clause-ranges
returns-in_err-byte-clause-ranges c =
    AreRight-later _ _ _ 3 (Extends-then _ _ _ 1 2 3 c.in_ok-same.ensures.extends c.choose.ensures.extends (omega arith)) c.of-2.ensures.kept

pub returns-clause-ranges : goal.returns-clause-ranges
returns-clause-ranges c =
    AreRight-later _ _ _ 3 (Extends-then _ _ _ 1 2 3 c.in_ok-same.ensures.extends c.in_ok-byte.ensures.extends (omega arith)) c.of-2.ensures.kept

pub returns-clause-value : goal.returns-clause-value
returns-clause-value c = λ env v bytes run right.
    c.in_ok-byte.ensures.value env v run right
    ∙ chosen_equal (v c.args.address.0) (v c.args.at.0) _ _ _ (c.in_ok-same.ensures.value env v (c.in_ok-byte.ensures.extends.values env v run))
