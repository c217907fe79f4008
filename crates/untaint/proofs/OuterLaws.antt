-- What the outermost operation of an expression says of its value.
use Rattle.std.proofs.Common.{◌≡◌, ℕ, ◌<◌, List, Option, Some, None, refl, ap, ◌∙◌}
use Rattle.std.specs.Prelude.{slice_get, ◌==◌}
use Rattle.std.specs.Option.{option_map_or}
use Rattle.ct_words.specs.Words.{alu_value, flag}
use Rattle.ct_words.specs.declared.alu_op.AluOp.{AluOp}
use Rattle.ct_words.specs.declared.alu_op.AluOp.TheVariants as ops
use Rattle.bv_expr.specs.Nodes.{IsValuation, HasWidth}
use Rattle.bv_expr.specs.Typing.{IsTyped}
use Rattle.bv_expr.specs.Folding.{constant_in}
use Rattle.bv_expr.specs.declared.q_node.QNode.{QNode}
use Rattle.bv_expr.specs.declared.q_node.QNode.TheVariants as nodes
use Rattle.bv_expr.proofs.Folds.{constant_is}
use Rattle.bv_expr.proofs.Widths.{typed_operands}
use Rattle.bv_expr.proofs.Valuing.{widths_exist}
use Rattle.untaint.specs.declared.outermost.Outermost.{Outermost}
use Rattle.untaint.specs.declared.outermost.Outermost.TheVariants.{Not, Sum, Xor, Difference, Other}
use Rattle.untaint.specs.Outer.{sum_outermost, xor_outermost, difference_outermost, operation_outermost, outermost_of, outermost_at}
use Rattle.untaint.proofs.Undoing.{sum_turned, xor_turned, less_as_sum}

-- node i is f of an earlier node a of the width w
pub record IsInner (among : List QNode) (i a w : ℕ) (f : ℕ → ℕ) : Type 0 where
  pub earlier : a < i
  pub width : HasWidth among a w
  pub values : (env v : ℕ → ℕ) → IsValuation env v among → v i ≡ f (v a)

-- what an outermost operation says
abbrev pub IsOutermost : List QNode → ℕ → Outermost → Type 0
IsOutermost among i (Not a) = IsInner among i a 1 (λ x. flag (x == 0))
IsOutermost among i (Sum c a) = IsInner among i a 32 (λ x. alu_value ops.Add x c)
IsOutermost among i (Xor c a) = IsInner among i a 32 (λ x. alu_value ops.Xor x c)
IsOutermost among i (Difference c a) = IsInner among i a 32 (λ x. alu_value ops.Sub c x)
IsOutermost among i Other = Unit {0}

-- node i is an operation on the words a and b
record IsOperation (among : List QNode) (i : ℕ) (op : AluOp) (a b : ℕ) : Type 0 where
  before_left : a < i
  before_right : b < i
  left : HasWidth among a 32
  right : HasWidth among b 32
  values : (env v : ℕ → ℕ) → IsValuation env v among → v i ≡ alu_value op (v a) (v b)

operation_is : (among : List QNode) → IsTyped among → (i : ℕ) (op : AluOp) (a b : ℕ) → slice_get among i ≡ Some (nodes.Alu op a b) → IsOperation among i op a b
operation_is among typed i op a b at =
    let earlier = typed.earlier i (nodes.Alu op a b) at in
    let words = typed_operands _ among typed (widths_exist among typed) i (nodes.Alu op a b) at in
    record { before_left = earlier.0; before_right = earlier.1; left = words.0; right = words.1; values = λ env v run. run.at i (nodes.Alu op a b) at }

-- a number on the right, and one on the left
number_right : (among : List QNode) (i : ℕ) (op : AluOp) (a b c : ℕ) → IsOperation among i op a b → constant_in among b ≡ Some c → IsInner among i a 32 (λ x. alu_value op x c)
number_right among i op a b c is e = record {
  earlier = is.before_left;
  width = is.left;
  values = λ env v run. is.values env v run ∙ ap (λ (y : ℕ). alu_value op (v a) y) (constant_is env v among b c run e);
}

number_left : (among : List QNode) (i : ℕ) (op : AluOp) (a b c : ℕ) → IsOperation among i op a b → constant_in among a ≡ Some c → IsInner among i b 32 (λ x. alu_value op c x)
number_left among i op a b c is e = record {
  earlier = is.before_right;
  width = is.right;
  values = λ env v run. is.values env v run ∙ ap (λ (y : ℕ). alu_value op y (v b)) (constant_is env v among a c run e);
}

inner_as : (among : List QNode) (i a w : ℕ) (f g : ℕ → ℕ) → IsInner among i a w f → ((x : ℕ) → f x ≡ g x) → IsInner among i a w g
inner_as among i a w f g is same = record { earlier = is.earlier; width = is.width; values = λ env v run. is.values env v run ∙ same (v a) }

sum_is : (among : List QNode) (i a b : ℕ) → IsOperation among i ops.Add a b → (x y : Option ℕ) → constant_in among a ≡ x → constant_in among b ≡ y → IsOutermost among i (sum_outermost x y a b)
sum_is among i a b is None (Some c) ex ey = number_right among i ops.Add a b c is ey
sum_is among i a b is (Some c) None ex ey = inner_as among i b 32 _ _ (number_left among i ops.Add a b c is ex) (λ x. sum_turned x c)
sum_is among i a b is None None ex ey = tt
sum_is among i a b is (Some c) (Some d) ex ey = tt

xor_is : (among : List QNode) (i a b : ℕ) → IsOperation among i ops.Xor a b → (x y : Option ℕ) → constant_in among a ≡ x → constant_in among b ≡ y → IsOutermost among i (xor_outermost x y a b)
xor_is among i a b is None (Some c) ex ey = number_right among i ops.Xor a b c is ey
xor_is among i a b is (Some c) None ex ey = inner_as among i b 32 _ _ (number_left among i ops.Xor a b c is ex) (λ x. xor_turned x c)
xor_is among i a b is None None ex ey = tt
xor_is among i a b is (Some c) (Some d) ex ey = tt

difference_is : (among : List QNode) (i a b : ℕ) → IsOperation among i ops.Sub a b → (x y : Option ℕ) → constant_in among a ≡ x → constant_in among b ≡ y → IsOutermost among i (difference_outermost x y a b)
difference_is among i a b is None (Some c) ex ey = inner_as among i a 32 _ _ (number_right among i ops.Sub a b c is ey) (λ x. less_as_sum x c)
difference_is among i a b is (Some c) None ex ey = number_left among i ops.Sub a b c is ex
difference_is among i a b is None None ex ey = tt
difference_is among i a b is (Some c) (Some d) ex ey = tt

any_operation_is : (among : List QNode) (i : ℕ) (op : AluOp) (a b : ℕ) → IsOperation among i op a b → IsOutermost among i (operation_outermost among op a b)
any_operation_is among i ops.Add a b is = sum_is among i a b is (constant_in among a) (constant_in among b) refl refl
any_operation_is among i ops.Xor a b is = xor_is among i a b is (constant_in among a) (constant_in among b) refl refl
any_operation_is among i ops.Sub a b is = difference_is among i a b is (constant_in among a) (constant_in among b) refl refl
any_operation_is among i _ a b is = tt

node_is : (among : List QNode) → IsTyped among → (i : ℕ) (n : QNode) → slice_get among i ≡ Some n → IsOutermost among i (outermost_of among n)
node_is among typed i (nodes.Not a) at = record {
  earlier = typed.earlier i (nodes.Not a) at;
  width = typed_operands _ among typed (widths_exist among typed) i (nodes.Not a) at;
  values = λ env v run. run.at i (nodes.Not a) at;
}
node_is among typed i (nodes.Alu op a b) at = any_operation_is among i op a b (operation_is among typed i op a b at)
node_is among typed i _ at = tt

at_is : (among : List QNode) → IsTyped among → (i : ℕ) (o : Option QNode) → slice_get among i ≡ o → IsOutermost among i (option_map_or (outermost_of among) o Other)
at_is among typed i None at = tt
at_is among typed i (Some n) at = node_is among typed i n at

-- what is told of each node is so
pub outermost_is : (among : List QNode) → IsTyped among → (i : ℕ) → IsOutermost among i (outermost_at among i)
outermost_is among typed i = at_is among typed i (slice_get among i) refl
