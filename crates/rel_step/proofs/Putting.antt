-- Changes that put a word into a register.
use Rattle.std.proofs.Common.{◌≡◌, ℕ, ◌<◌, Bool, List, refl, sym, ◌∙◌, ap, subst}
use Rattle.ct_words.specs.Words.{alu_value}
use Rattle.ct_words.specs.declared.alu_op.AluOp.{AluOp}
use Rattle.rv_machine.specs.State.{register_written}
use Rattle.bv_expr.specs.declared.q_node.QNode.{QNode}
use Rattle.bv_expr.specs.declared.expr_id.ExprId.{ExprId}
use Rattle.bv_expr.specs.Nodes.{IsValuation, HasWidth}
use Rattle.bv_expr.specs.Growth.{Extends}
use Rattle.bv_passes.specs.Answering.{IsAnswer}
use Rattle.rel_store.specs.Sides.{side_id, HasSides}
use Rattle.rel_store.specs.declared.rel_value.RelValue.{RelValue}
use Rattle.rel_store.specs.declared.rel_value.RelValue.TheVariants.{Same}
use Rattle.rel_store.specs.declared.rel_registers.TheConstants.{REGISTERS}
use Rattle.rel_step.specs.declared.planned.Moved.{Moved}
use Rattle.rel_step.specs.declared.planned.Moved.TheVariants.{Nothing, Register}
use Rattle.rel_step.specs.Runs.{Always}
use Rattle.rel_step.specs.Onward.{Puts}

pub puts_nothing : (nodes : List QNode) (rd : ℕ) (word : (ℕ → ℕ) → Bool → ℕ) → rd ≡ 0 → Puts nodes rd word Nothing
puts_nothing nodes rd word e = record {
  parts = tt;
  puts = λ right image s env v bytes is. let P : ℕ → Type 0 = λ k. s ≡ register_written s k (word v right) in subst P (sym e) refl;
}

pub puts_register : (nodes : List QNode) (rd : ℕ) (word : (ℕ → ℕ) → Bool → ℕ) (given : RelValue) → rd < REGISTERS → HasSides nodes 32 given
    → ((right : Bool) → Always nodes (λ v. v (side_id right given) ≡ word v right)) → Puts nodes rd word (Register rd given)
puts_register nodes rd word given below has same = record {
  parts = (below, has);
  puts = λ right image s env v bytes is. ap (register_written s rd) (same right env v bytes is);
}

pub puts_number : (nodes : List QNode) (rd number : ℕ) (id : ExprId) → rd < REGISTERS → HasWidth nodes id.0 32 → ((env v : ℕ → ℕ) → IsValuation env v nodes → v id.0 ≡ number)
    → Puts nodes rd (λ v right. number) (Register rd (Same id))
puts_number nodes rd number id below has value = puts_register nodes rd (λ v right. number) (Same id) below (λ right. has) (λ right env v bytes is. value env v is)

pub puts_operation : (mid new : List QNode) (n : ℕ) (op : AluOp) (rd : ℕ) (a b word given : RelValue) → rd < REGISTERS → HasSides mid 32 word
    → ((env v : ℕ → ℕ) → IsValuation env v mid → (right : Bool) → v (side_id right word) ≡ alu_value op (v (side_id right a)) (v (side_id right b)))
    → Extends mid new n → ((right : Bool) → IsAnswer mid new (side_id right word) (side_id right given))
    → Puts new rd (λ v right. alu_value op (v (side_id right a)) (v (side_id right b))) (Register rd given)
puts_operation mid new n op rd a b word given below has value more simple =
    puts_register new rd (λ v right. alu_value op (v (side_id right a)) (v (side_id right b))) given below
    (λ right. (simple right).width 32 (has right))
    (λ right env v bytes is. (simple right).value env v bytes is ∙ value env v (more.values env v is) right)

pub puts_same : (nodes : List QNode) (rd : ℕ) (word other : (ℕ → ℕ) → Bool → ℕ) (moved : Moved) → Puts nodes rd word moved → ((right : Bool) → Always nodes (λ v. word v right ≡ other v right)) → Puts nodes rd other moved
puts_same nodes rd word other moved p same = record {
  parts = p.parts;
  puts = λ right image s env v bytes is. p.puts right image s env v bytes is ∙ ap (register_written s rd) (same right env v bytes is);
}

pub puts_immediate : (mid new : List QNode) (n : ℕ) (op : AluOp) (rd number : ℕ) (a : RelValue) (id : ExprId) (moved : Moved) → ((env v : ℕ → ℕ) → IsValuation env v mid → v id.0 ≡ number) → Extends mid new n
    → Puts new rd (λ v right. alu_value op (v (side_id right a)) (v (side_id right (Same id)))) moved → Puts new rd (λ v right. alu_value op (v (side_id right a)) number) moved
puts_immediate mid new n op rd number a id moved value more p =
    puts_same new rd (λ v right. alu_value op (v (side_id right a)) (v id.0)) (λ v right. alu_value op (v (side_id right a)) number) moved p
    (λ right env v bytes is. ap (λ x. alu_value op (v (side_id right a)) x) (value env v (more.values env v is)))
