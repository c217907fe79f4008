use Rattle.std.proofs.Common.{◌≡◌, true, rules}
use Rattle.bv_expr.specs.contracts.q_node.QNodePartialEq.TheImpl as impl
use Rattle.bv_expr.specs.declared.q_node.QNode.{QNode}
use Rattle.bv_expr.proofs.Lists.{different}
use Rattle.bv_expr.proofs.Widths.{typed_operands}
use Rattle.bv_expr.proofs.Valuing.{values_exist, one_valuation, widths_exist}
use Rattle.bv_expr.proofs.Fits.{value_fits}
use Rattle.bv_expr.proofs.arena.Arena.law.Goals as goal

equal_to_itself : (x y : QNode) → x ≡ y → (impl.eq-value).it x y ≡ true
equal_to_itself x y h = search rules

pub returns-clause-different : goal.returns-clause-different
returns-clause-different c = rw (← c.self.view_is) (different (impl.eq-value).it equal_to_itself _ c.as_slice-nodes.ensures.unique)

pub returns-clause-widths : goal.returns-clause-widths
returns-clause-widths c = rw (← c.self.view_is) (widths_exist _ c.self.invariant.0)

pub returns-clause-operands : goal.returns-clause-operands
returns-clause-operands c = rw (← c.self.view_is) (typed_operands _ _ c.self.invariant.0 c.self.invariant.1)

pub returns-clause-exists : goal.returns-clause-exists
returns-clause-exists c = rw (← c.self.view_is) (λ env. values_exist env _ c.self.invariant.0)

pub returns-clause-only : goal.returns-clause-only
returns-clause-only c = rw (← c.self.view_is) (λ env v w. one_valuation env v w _ c.self.invariant.0.earlier)

pub returns-clause-fits : goal.returns-clause-fits
returns-clause-fits c = rw (← c.self.view_is) (λ env v bytes. value_fits env v _ bytes c.self.invariant.0)
