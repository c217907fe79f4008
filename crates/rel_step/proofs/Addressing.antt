-- The addresses of accesses, and whether they are allowed.
use Rattle.std.proofs.Common.{◌≡◌, ℕ, ◌+◌, ◌<◌, ◌≤◌, ◌^◌, ◌==◌, Bool, true, false, List, Some, sym, ◌∙◌, ap, subst, inl, inr, arith}
use Rattle.std.specs.Prelude.{slice_get}
use Rattle.std.proofs.lemmas.Bool.{eqb-true}
use Rattle.std.proofs.lemmas.Bool.Decides.{eqb_tells}
use Rattle.ct_words.specs.Words.{alu_value, flag, IsAccessSize}
use Rattle.ct_words.specs.declared.alu_op.AluOp.TheVariants as ops
use Rattle.rv_image.specs.declared.right.Right.{Right}
use Rattle.rv_image.specs.Image.{allowed_at}
use Rattle.rv_machine.specs.State.{register_value}
use Rattle.rv_machine.specs.Step.{wrapped, all_allowed}
use Rattle.bv_expr.specs.declared.q_node.QNode.{QNode}
use Rattle.bv_expr.specs.declared.q_node.QNode.TheVariants.{Constant}
use Rattle.bv_expr.specs.declared.expr_id.ExprId.{ExprId}
use Rattle.bv_expr.specs.Nodes.{AreBytes, IsValuation, HasWidth}
use Rattle.bv_expr.specs.Growth.{Extends}
use Rattle.bv_passes.specs.Answering.{IsAnswer}
use Rattle.rel_store.specs.Sides.{side_id, HasSides}
use Rattle.rel_store.specs.declared.rel_value.RelValue.{RelValue}
use Rattle.rel_step.specs.declared.addresses.Reach.{Reach}
use Rattle.rel_step.specs.declared.here.Here.{Here}
use Rattle.rel_step.specs.Runs.{Always, IsFlag, IsHere, state_of}
use Rattle.rel_step.specs.Accesses.{IsReach, TellsRefused}
use Rattle.rel_step.proofs.Growing.{HasWidth-grows, HasSides-grows}
use Rattle.rel_step.proofs.Operands.{register_is}

-- every value fits its width
abbrev pub Fits : List QNode → Type 0
Fits nodes = (env v : ℕ → ℕ) → AreBytes env → IsValuation env v nodes → (i w : ℕ) → HasWidth nodes i w → v i < 2 ^ w

wrapped_zero : (a by : ℕ) → by ≡ 0 → a < 2 ^ 32 → a ≡ wrapped (a + by)
wrapped_zero a by e small = omega (arith, e, small)

pub above_none : (nodes : List QNode) (from by : ℕ) → by ≡ 0 → HasWidth nodes from 32 → Fits nodes → Always nodes (λ v. v from ≡ wrapped (v from + by))
above_none nodes from by e has fits env v bytes is = wrapped_zero (v from) by e (fits env v bytes is from 32 has)

-- a sum with a number, simplified
pub sum_is : (a b c : List QNode) (m n from by more sum simple : ℕ) → Extends a b m → Extends b c n → ((env v : ℕ → ℕ) → IsValuation env v a → v more ≡ by)
    → ((env v : ℕ → ℕ) → IsValuation env v b → v sum ≡ alu_value ops.Add (v from) (v more)) → IsAnswer b c sum simple → Always c (λ v. v simple ≡ wrapped (v from + by))
unfolding alu_value
sum_is a b c m n from by more sum simple first second number adds answer env v bytes is =
    answer.value env v bytes is ∙ adds env v (second.values env v is) ∙ ap (λ x. wrapped (v from + x)) (number env v (first.values env v (second.values env v is)))

pub size_some : (bytes : ℕ) → IsAccessSize bytes → 0 < bytes
size_some bytes (inl e) = omega (arith, e)
size_some bytes (inr (inl e)) = omega (arith, e)
size_some bytes (inr (inr e)) = omega (arith, e)

pub size_few : (bytes : ℕ) → IsAccessSize bytes → bytes ≤ 4
size_few bytes (inl e) = omega (arith, e)
size_few bytes (inr (inl e)) = omega (arith, e)
size_few bytes (inr (inr e)) = omega (arith, e)

pub reach_is : (old mid new : List QNode) (m n : ℕ) (here : Here) (kind : Right) (rs1 offset bytes : ℕ) (from address : RelValue) (left allowed : ExprId)
    → IsHere old here → slice_get here.registers rs1 ≡ Some from → Extends old mid m → Extends mid new n → HasSides mid 32 address
    → ((right : Bool) → Always mid (λ v. v (side_id right address) ≡ wrapped (v (side_id right from) + offset))) → left.0 ≡ side_id false address → HasWidth new allowed.0 1
    → ((env v : ℕ → ℕ) → AreBytes env → IsValuation env v new → v allowed.0 ≡ flag (all_allowed (allowed_at kind here.memory.image) (v left.0) bytes))
    → IsReach new here kind rs1 offset bytes (record { address = address; allowed = allowed })
reach_is old mid new m n here kind rs1 offset bytes from address left allowed is has first second wide sum at width tells = record {
  address = HasSides-grows mid new n 32 address second wide;
  allowed = width;
  names = λ right env v b val.
      sum right env v b (second.values env v val) ∙ ap (λ x. wrapped (x + offset)) (sym (register_is old here rs1 from is has right env v b (first.values env v (second.values env v val))));
  tells = λ env v b val. tells env v b val ∙ ap (λ i. flag (all_allowed (allowed_at kind here.memory.image) (v i) bytes)) at;
}

pub IsReach-grows : (old new : List QNode) (n : ℕ) (here : Here) (kind : Right) (rs1 offset bytes : ℕ) (reach : Reach) → Extends old new n → IsReach old here kind rs1 offset bytes reach → IsReach new here kind rs1 offset bytes reach
IsReach-grows old new n here kind rs1 offset bytes reach more is = record {
  address = HasSides-grows old new n 32 reach.address more is.address;
  allowed = HasWidth-grows old new n reach.allowed.0 1 more is.allowed;
  names = λ right env v b val. is.names right env v b (more.values env v val);
  tells = λ env v b val. is.tells env v b (more.values env v val);
}

-- the number 1
pub always_one : (nodes : List QNode) (bit width value : ℕ) → slice_get nodes bit ≡ Some (Constant width value) → (value == 1) ≡ true → Always nodes (λ v. v bit ≡ 1)
always_one nodes bit width value e one env v b val = val.at bit (Constant width value) e ∙ eqb-true value 1 one

zero_flag : (x : ℕ) → IsFlag (flag (x == 0)) (x ≡ 0)
zero_flag x = elim (eqb_tells x 0) [
  | inl (t, e) ↦ inl (ap flag t, e)
  | inr (f, n) ↦ inr (ap flag f, n)
]

flag_at : (x y : ℕ) (P : Type 0) → x ≡ y → IsFlag y P → IsFlag x P
flag_at x y P e h = let F : ℕ → Type 0 = λ k. IsFlag k P in subst F (sym e) h

pub refused_where : (nodes : List QNode) (allowed id : ExprId) → HasWidth nodes id.0 1 → ((env v : ℕ → ℕ) → IsValuation env v nodes → v id.0 ≡ flag (v allowed.0 == 0)) → TellsRefused nodes allowed (Some id)
refused_where nodes allowed id width value = record {
  width = width;
  flag_is = λ env v b val. flag_at (v id.0) (flag (v allowed.0 == 0)) (v allowed.0 ≡ 0) (value env v val) (zero_flag (v allowed.0));
}

-- the side of a value has its width, later too
pub side_width : (old new : List QNode) (n w : ℕ) (right : Bool) (value : RelValue) (id : ExprId) → Extends old new n → id.0 ≡ side_id right value → HasSides old w value → HasWidth new id.0 w
side_width old new n w right value id more e has = let P : ℕ → Type 0 = λ i. HasWidth new i w in subst P (sym e) (HasWidth-grows old new n (side_id right value) w more (has right))

pub side_width_now : (nodes : List QNode) (w : ℕ) (right : Bool) (value : RelValue) (id : ExprId) → id.0 ≡ side_id right value → HasSides nodes w value → HasWidth nodes id.0 w
side_width_now nodes w right value id e has = let P : ℕ → Type 0 = λ i. HasWidth nodes i w in subst P (sym e) (has right)

-- the sides of a value have a width
pub two_sides : (nodes : List QNode) (w : ℕ) (value : RelValue) (l r : ExprId) → side_id false value ≡ l.0 → side_id true value ≡ r.0 → HasWidth nodes l.0 w → HasWidth nodes r.0 w → HasSides nodes w value
two_sides nodes w value l r el er left right false = let P : ℕ → Type 0 = λ i. HasWidth nodes i w in subst P (sym el) left
two_sides nodes w value l r el er left right true = let P : ℕ → Type 0 = λ i. HasWidth nodes i w in subst P (sym er) right

-- addresses are words
pub reach_small : (nodes : List QNode) (here : Here) (kind : Right) (rs1 offset bytes : ℕ) (reach : Reach) → IsReach nodes here kind rs1 offset bytes reach → Always nodes (λ v. v (side_id false reach.address) < 2 ^ 32)
reach_small nodes here kind rs1 offset bytes reach is env v b val =
    let small : (a : ℕ) → wrapped a < 2 ^ 32 = λ a. omega arith in
    let P : ℕ → Type 0 = λ x. x < 2 ^ 32 in
    subst P (sym (is.names false env v b val)) (small (register_value (state_of false v here) rs1 + offset))
