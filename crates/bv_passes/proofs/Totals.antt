-- Sums and differences of words, on plain numbers.
use Rattle.std.proofs.Common.{◌≡◌, ℕ, Bool, true, false, ◌^◌, ◌<◌, List, Option, Some, None, refl, ap, sym, subst, ◌∙◌, arith}
use Rattle.std.specs.Prelude.{IfSome, nat_eq, if◌then◌else◌}
use Rattle.std.specs.Int.Bits.{xor_self, xor_zero_r, xor_assoc}
use Rattle.std.proofs.lemmas.Nat.{xor_comm}
use Rattle.std.proofs.lemmas.Bool.{eqb-true}
use Rattle.ct_words.specs.Words.{alu_value}
use Rattle.ct_words.specs.declared.alu_op.AluOp.{AluOp}
use Rattle.ct_words.specs.declared.alu_op.AluOp.TheVariants.{Add, Sub, Xor}
use Rattle.ct_words.proofs.Bounds.{alu_value_lt}
use Rattle.bv_expr.specs.declared.q_node.QNode.{QNode}
use Rattle.bv_expr.specs.Nodes.{IsValuation, AreBytes, HasWidth}
use Rattle.bv_passes.specs.declared.rewrite.Rewrite.{Rewrite}
use Rattle.bv_passes.specs.declared.rewrite.Rewrite.TheVariants as rewrites
use Rattle.bv_passes.specs.declared.rewrite.Operand.TheVariants as operands
use Rattle.bv_passes.specs.declared.summand.Summand.{Summand}
use Rattle.bv_passes.specs.declared.body.Body.{Body}
use Rattle.bv_passes.specs.declared.body.Body.TheVariants.{Nothing, Old, Negative, Operation}
use Rattle.bv_passes.specs.Rewriting.{IsRight, IsValue}
use Rattle.bv_passes.specs.Adding.{plus, minus, IsBodyOf, rest_value, with_number, difference_by, IsSummand, IsWordOrNone}

pub add_zero : (n : ℕ) → n < 2 ^ 32 → n ≡ alu_value Add n 0
unfolding alu_value
add_zero n lt = omega arith

pub zero_add : (n m : ℕ) → n ≡ m → n < 2 ^ 32 → n ≡ alu_value Add 0 m
unfolding alu_value
zero_add n m e lt = omega arith

pub add_turned : (a b : ℕ) → alu_value Add a b ≡ alu_value Add b a
unfolding alu_value
add_turned a b = omega arith

pub add_lt : (a b : ℕ) → alu_value Add a b < 2 ^ 32
unfolding alu_value
add_lt a b = omega arith

pub less_as_added : (a b : ℕ) → b < 2 ^ 32 → alu_value Sub a b ≡ alu_value Add a (minus 0 b)
unfolding alu_value
less_as_added a b lt = omega arith

-- (p - y) + y, x + (p - x), (p + y) - y, x - (x - q), x - (0 - q), x + (0 - q), (0 - q) + y, x - x
pub back_right : (p y : ℕ) → p < 2 ^ 32 → y < 2 ^ 32 → p ≡ alu_value Add (alu_value Sub p y) y
unfolding alu_value
back_right p y lp ly = omega arith

pub back_left : (p x : ℕ) → p < 2 ^ 32 → x < 2 ^ 32 → p ≡ alu_value Add x (alu_value Sub p x)
unfolding alu_value
back_left p x lp lx = omega arith

pub taken_back : (p y : ℕ) → p < 2 ^ 32 → y < 2 ^ 32 → p ≡ alu_value Sub (alu_value Add p y) y
unfolding alu_value
taken_back p y lp ly = omega arith

pub left_over : (x q : ℕ) → x < 2 ^ 32 → q < 2 ^ 32 → q ≡ alu_value Sub x (alu_value Sub x q)
unfolding alu_value
left_over x q lx lq = omega arith

pub less_negative : (x q : ℕ) → q < 2 ^ 32 → alu_value Add x q ≡ alu_value Sub x (alu_value Sub 0 q)
unfolding alu_value
less_negative x q lq = omega arith

pub add_negative : (x q : ℕ) → q < 2 ^ 32 → alu_value Sub x q ≡ alu_value Add x (alu_value Sub 0 q)
unfolding alu_value
add_negative x q lq = omega arith

pub negative_add : (y q : ℕ) → q < 2 ^ 32 → alu_value Sub y q ≡ alu_value Add (alu_value Sub 0 q) y
unfolding alu_value
negative_add y q lq = omega arith

pub less_itself : (x : ℕ) → x < 2 ^ 32 → 0 ≡ alu_value Sub x x
unfolding alu_value
less_itself x lt = omega arith

pub less_zero : (x : ℕ) → x < 2 ^ 32 → x ≡ alu_value Sub x 0
unfolding alu_value
less_zero x lt = omega arith

-- the numbers of two sums joined
pub sum_joined : (x c y d : ℕ) → alu_value Add (alu_value Add x y) (plus c d) ≡ alu_value Add (alu_value Add x c) (alu_value Add y d)
unfolding alu_value
sum_joined x c y d = omega arith

pub difference_joined : (x c y d : ℕ) → y < 2 ^ 32 → d < 2 ^ 32 → alu_value Add (alu_value Sub x y) (minus c d) ≡ alu_value Sub (alu_value Add x c) (alu_value Add y d)
unfolding alu_value
difference_joined x c y d ly ld = omega arith

pub number_less : (k y : ℕ) → y < 2 ^ 32 → alu_value Sub k y ≡ alu_value Add (alu_value Sub 0 y) k
unfolding alu_value
number_less k y ly = omega arith

-- the words of the arena are below 2 ^ 32
abbrev pub AreFitting : List QNode → Type 0
AreFitting nodes = (env v : ℕ → ℕ) → AreBytes env → IsValuation env v nodes → (i w : ℕ) → HasWidth nodes i w → v i < 2 ^ w

-- x - y by what the two are
pub difference_right : (nodes : List QNode) → AreFitting nodes → (x y : ℕ) (gone left turned : Option ℕ) → HasWidth nodes x 32 → HasWidth nodes y 32
    → IfSome gone (λ p. HasWidth nodes p 32) → IfSome gone (λ p. (env v : ℕ → ℕ) → IsValuation env v nodes → v x ≡ alu_value Add (v p) (v y))
    → IfSome left (λ q. HasWidth nodes q 32) → IfSome left (λ q. (env v : ℕ → ℕ) → IsValuation env v nodes → v y ≡ alu_value Sub (v x) (v q))
    → IfSome turned (λ q. HasWidth nodes q 32) → IfSome turned (λ q. (env v : ℕ → ℕ) → IsValuation env v nodes → v y ≡ alu_value Sub 0 (v q))
    → IsBodyOf nodes (λ v. alu_value Sub (v x) (v y)) (difference_by x y gone left turned)
difference_right nodes fits x y (Some p) left turned wx wy wp is wl il wt it = record {
  words = wp;
  values = λ env v bytes run. taken_back (v p) (v y) (fits env v bytes run p 32 wp) (fits env v bytes run y 32 wy) ∙ ap (λ n. alu_value Sub n (v y)) (sym (is env v run));
}
difference_right nodes fits x y None (Some q) turned wx wy wp is wl il wt it = record {
  words = wl;
  values = λ env v bytes run. left_over (v x) (v q) (fits env v bytes run x 32 wx) (fits env v bytes run q 32 wl) ∙ ap (λ n. alu_value Sub (v x) n) (sym (il env v run));
}
difference_right nodes fits x y None None (Some q) wx wy wp is wl il wt it = record {
  words = (wx, wt);
  values = λ env v bytes run. less_negative (v x) (v q) (fits env v bytes run q 32 wt) ∙ ap (λ n. alu_value Sub (v x) n) (sym (it env v run));
}
difference_right nodes fits x y None None None wx wy wp is wl il wt it = record { words = (wx, wy); values = λ env v bytes run. refl }

-- an expression with a number added, by whether the number is 0
old_numbered : (nodes : List QNode) → AreFitting nodes → (value : (ℕ → ℕ) → ℕ) (x k : ℕ) (none : Bool) → nat_eq k 0 ≡ none → IsBodyOf nodes value (Old x) → k < 2 ^ 32
    → IsRight nodes 32 (λ v. alu_value Add (value v) k) (if none then rewrites.Old x else rewrites.Operation Add (operands.Node x) (operands.Word k))
old_numbered nodes fits value x k true h is lt = record {
  parts = is.words;
  values = λ env v bytes run. add_zero (v x) (fits env v bytes run x 32 is.words) ∙ ap (λ n. alu_value Add n 0) (is.values env v bytes run) ∙ ap (λ n. alu_value Add (value v) n) (sym (eqb-true k 0 h));
}
old_numbered nodes fits value x k false h is lt = record {
  parts = (refl, is.words, lt);
  values = λ env v bytes run. ap (λ n. alu_value Add n k) (is.values env v bytes run);
}

operation_numbered : (nodes : List QNode) → AreFitting nodes → (value : (ℕ → ℕ) → ℕ) (op : AluOp) (x y k : ℕ) (none : Bool) → nat_eq k 0 ≡ none → IsBodyOf nodes value (Operation op x y) → k < 2 ^ 32
    → IsRight nodes 32 (λ v. alu_value Add (value v) k) (if none then rewrites.Operation op (operands.Node x) (operands.Node y) else rewrites.Raised op x y k)
operation_numbered nodes fits value op x y k true h is lt = record {
  parts = (refl, is.words.0, is.words.1);
  values = λ env v bytes run. add_zero (alu_value op (v x) (v y)) (alu_value_lt op (v x) (v y) (fits env v bytes run x 32 is.words.0) (fits env v bytes run y 32 is.words.1))
      ∙ ap (λ n. alu_value Add n 0) (is.values env v bytes run) ∙ ap (λ n. alu_value Add (value v) n) (sym (eqb-true k 0 h));
}
operation_numbered nodes fits value op x y k false h is lt = record {
  parts = (refl, is.words.0, is.words.1, lt);
  values = λ env v bytes run. ap (λ n. alu_value Add n k) (is.values env v bytes run);
}

-- a body with a number added
numbered : (nodes : List QNode) → AreFitting nodes → (value : (ℕ → ℕ) → ℕ) (body : Body) (k : ℕ) → IsBodyOf nodes value body → k < 2 ^ 32 → IsRight nodes 32 (λ v. alu_value Add (value v) k) (with_number body k)
numbered nodes fits value Nothing k is lt = record {
  parts = lt;
  values = λ env v bytes run. zero_add k k refl lt ∙ ap (λ n. alu_value Add n k) (is.values env v bytes run);
}
numbered nodes fits value (Old x) k is lt = old_numbered nodes fits value x k (nat_eq k 0) refl is lt
numbered nodes fits value (Negative x) k is lt = record {
  parts = (refl, lt, is.words);
  values = λ env v bytes run. number_less k (v x) (fits env v bytes run x 32 is.words) ∙ ap (λ n. alu_value Add n k) (is.values env v bytes run);
}
numbered nodes fits value (Operation op x y) k is lt = operation_numbered nodes fits value op x y k (nat_eq k 0) refl is lt

right_as : (nodes : List QNode) (f g : (ℕ → ℕ) → ℕ) (r : Rewrite) → IsRight nodes 32 f r → ((env v : ℕ → ℕ) → AreBytes env → IsValuation env v nodes → f v ≡ g v) → IsRight nodes 32 g r
right_as nodes f g r right same = record {
  parts = right.parts;
  values = λ env v bytes run. let Q : ℕ → Type 0 = λ x. IsValue v x r in subst Q (same env v bytes run) (right.values env v bytes run);
}

pub sum_right : (nodes : List QNode) → AreFitting nodes → (a b k : ℕ) (l r : Summand) (body : Body) → IsSummand nodes (λ v. v a) l → IsSummand nodes (λ v. v b) r
    → IsBodyOf nodes (λ v. alu_value Add (rest_value v l.rest) (rest_value v r.rest)) body → k ≡ plus l.number r.number → IsRight nodes 32 (λ v. alu_value Add (v a) (v b)) (with_number body k)
sum_right nodes fits a b k l r body sl sr is e =
    right_as nodes (λ v. alu_value Add (alu_value Add (rest_value v l.rest) (rest_value v r.rest)) k) (λ v. alu_value Add (v a) (v b)) (with_number body k)
    (numbered nodes fits (λ v. alu_value Add (rest_value v l.rest) (rest_value v r.rest)) body k is (omega (arith, e)))
    (λ env v bytes run. rw e (rw (sl.values env v bytes run) (rw (sr.values env v bytes run) (sum_joined (rest_value v l.rest) l.number (rest_value v r.rest) r.number))))

rest_lt : (nodes : List QNode) → AreFitting nodes → (env v : ℕ → ℕ) → AreBytes env → IsValuation env v nodes → (rest : Option ℕ) → IsWordOrNone nodes rest → rest_value v rest < 2 ^ 32
rest_lt nodes fits env v bytes run None word = omega arith
rest_lt nodes fits env v bytes run (Some x) word = fits env v bytes run x 32 word

pub less_right : (nodes : List QNode) → AreFitting nodes → (a b k : ℕ) (l r : Summand) (body : Body) → IsSummand nodes (λ v. v a) l → IsSummand nodes (λ v. v b) r
    → IsBodyOf nodes (λ v. alu_value Sub (rest_value v l.rest) (rest_value v r.rest)) body → k ≡ minus l.number r.number → IsRight nodes 32 (λ v. alu_value Sub (v a) (v b)) (with_number body k)
less_right nodes fits a b k l r body sl sr is e =
    right_as nodes (λ v. alu_value Add (alu_value Sub (rest_value v l.rest) (rest_value v r.rest)) k) (λ v. alu_value Sub (v a) (v b)) (with_number body k)
    (numbered nodes fits (λ v. alu_value Sub (rest_value v l.rest) (rest_value v r.rest)) body k is (omega (arith, e)))
    (λ env v bytes run. rw e (rw (sl.values env v bytes run) (rw (sr.values env v bytes run)
    (difference_joined (rest_value v l.rest) l.number (rest_value v r.rest) r.number (rest_lt nodes fits env v bytes run r.rest sr.word) sr.fits))))

pub xor_back : (p y : ℕ) → p ≡ alu_value Xor (alu_value Xor p y) y
unfolding alu_value
xor_back p y = sym (xor_assoc p y y ∙ rw (xor_self y) (xor_zero_r p))

pub xor_turned : (a b : ℕ) → alu_value Xor a b ≡ alu_value Xor b a
unfolding alu_value
xor_turned a b = xor_comm a b

-- the sum and the difference where a word is a number alone
pub alone_sum : (nodes : List QNode) → AreFitting nodes → (x y : Option ℕ) (left : ℕ) → x ≡ Some left → y ≡ None → IsWordOrNone nodes x → IsBodyOf nodes (λ v. alu_value Add (rest_value v x) (rest_value v y)) (Old left)
alone_sum nodes fits x y left ex ey word =
    let P : Option ℕ → Type 0 = λ o. IsWordOrNone nodes o in
    let w : HasWidth nodes left 32 = subst P ex word in
    let H : Option ℕ → Type 0 = λ p. IsBodyOf nodes (λ v. alu_value Add (rest_value v p) (rest_value v y)) (Old left) in
    let K : Option ℕ → Type 0 = λ q. IsBodyOf nodes (λ v. alu_value Add (v left) (rest_value v q)) (Old left) in
    subst H (sym ex) (subst K (sym ey) (record { words = w; values = λ env v bytes run. add_zero (v left) (fits env v bytes run left 32 w) }))

pub behind_sum : (nodes : List QNode) → AreFitting nodes → (x y : Option ℕ) (right : ℕ) → x ≡ None → y ≡ Some right → IsWordOrNone nodes y → IsBodyOf nodes (λ v. alu_value Add (rest_value v x) (rest_value v y)) (Old right)
behind_sum nodes fits x y right ex ey word =
    let P : Option ℕ → Type 0 = λ o. IsWordOrNone nodes o in
    let w : HasWidth nodes right 32 = subst P ey word in
    let H : Option ℕ → Type 0 = λ p. IsBodyOf nodes (λ v. alu_value Add (rest_value v p) (rest_value v y)) (Old right) in
    let K : Option ℕ → Type 0 = λ q. IsBodyOf nodes (λ v. alu_value Add 0 (rest_value v q)) (Old right) in
    subst H (sym ex) (subst K (sym ey) (record { words = w; values = λ env v bytes run. zero_add (v right) (v right) refl (fits env v bytes run right 32 w) }))

pub no_sum : (nodes : List QNode) → (x y : Option ℕ) → x ≡ None → y ≡ None → IsBodyOf nodes (λ v. alu_value Add (rest_value v x) (rest_value v y)) Nothing
no_sum nodes x y ex ey =
    let H : Option ℕ → Type 0 = λ p. IsBodyOf nodes (λ v. alu_value Add (rest_value v p) (rest_value v y)) Nothing in
    let K : Option ℕ → Type 0 = λ q. IsBodyOf nodes (λ v. alu_value Add 0 (rest_value v q)) Nothing in
    subst H (sym ex) (subst K (sym ey) (record { words = tt; values = λ env v bytes run. add_zero 0 (omega arith) }))

pub alone_less : (nodes : List QNode) → AreFitting nodes → (x y : Option ℕ) (left : ℕ) → x ≡ Some left → y ≡ None → IsWordOrNone nodes x → IsBodyOf nodes (λ v. alu_value Sub (rest_value v x) (rest_value v y)) (Old left)
alone_less nodes fits x y left ex ey word =
    let P : Option ℕ → Type 0 = λ o. IsWordOrNone nodes o in
    let w : HasWidth nodes left 32 = subst P ex word in
    let H : Option ℕ → Type 0 = λ p. IsBodyOf nodes (λ v. alu_value Sub (rest_value v p) (rest_value v y)) (Old left) in
    let K : Option ℕ → Type 0 = λ q. IsBodyOf nodes (λ v. alu_value Sub (v left) (rest_value v q)) (Old left) in
    subst H (sym ex) (subst K (sym ey) (record { words = w; values = λ env v bytes run. less_zero (v left) (fits env v bytes run left 32 w) }))

pub no_less : (nodes : List QNode) → (x y : Option ℕ) → x ≡ None → y ≡ None → IsBodyOf nodes (λ v. alu_value Sub (rest_value v x) (rest_value v y)) Nothing
no_less nodes x y ex ey =
    let H : Option ℕ → Type 0 = λ p. IsBodyOf nodes (λ v. alu_value Sub (rest_value v p) (rest_value v y)) Nothing in
    let K : Option ℕ → Type 0 = λ q. IsBodyOf nodes (λ v. alu_value Sub 0 (rest_value v q)) Nothing in
    subst H (sym ex) (subst K (sym ey) (record { words = tt; values = λ env v bytes run. less_zero 0 (omega arith) }))
