-- Steps of the walk over the nodes.
use Rattle.std.proofs.Common.{◌≡◌, ℕ, ◌<◌, Bool, true, false, ◌||◌, List, [], ◌∷◌, ◌++◌, length, Option, Some, None, Result, Ok, Err, refl, sym, ap, ◌∙◌, subst, arith}
use Rattle.std.specs.Prelude.{slice_get, slice_index, All, Contains, nat_eq, MatchOption}
use Rattle.std.specs.Option.{option_to_list}
use Rattle.std.specs.Result.{IsErr, IsErrAnd, MatchResult}
use Rattle.std.specs.List.{position}
use Rattle.std.proofs.lemmas.Bool.{false≢true}
use Rattle.std.proofs.lemmas.Bool.Decides.{nat_tests}
use Rattle.std.proofs.lemmas.List.Elements.{All-push}
use Rattle.std.proofs.lemmas.List.Folds.{list_any-append}
use Rattle.std.proofs.lemmas.List.Quantifiers.{position-Some}
use Rattle.bv_expr.specs.declared.q_node.QNode.{QNode}
use Rattle.bv_expr.specs.Typing.{IsTyped}
use Rattle.bv_expr.specs.Walk.{operands_of_node, IsOpenBelow, IsWalking, left_of}
use Rattle.bv_expr.proofs.Walking.{Finishes}
use Rattle.bit_blast.specs.Blasting.{Moves}
use Rattle.bit_blast.proofs.Operands.{all_cons, all_none, earlier_operands, contains_all}
use Rattle.bit_blast.proofs.Cones.{all_left, all_last}
use Rattle.bit_blast.proofs.Walks.{Stands, stands_next, starts}
use Rattle.query_ask.specs.Copies.{HasVars, IsCopying, KeepsNumbers, is_copied}

all_head : (P : ℕ → Type 0) (x : ℕ) (xs : List ℕ) → All P (x ∷ xs) → P x
all_head P x xs h = h 0 x (omega arith)

pub cone_up : (nodes : List QNode) (vars : ℕ) (below rest : List ℕ) (top : ℕ) → below ≡ rest → All (HasVars nodes vars) (below ++ top ∷ []) → All (HasVars nodes vars) rest
cone_up nodes vars below rest top e all = let P : List ℕ → Type 0 = λ xs. All (HasVars nodes vars) xs in subst P e (all_left (HasVars nodes vars) below (top ∷ []) all)

pub less_left : (size : ℕ) (old new : ℕ → Bool) (below front : List ℕ) (top : ℕ) (o : Option ℕ) → Moves size old below top new front o → left_of size new o < left_of size old (Some top)
less_left size old new below front top None moved = omega arith
less_left size old new below front top (Some next) moved = omega (arith, moved.1)

pub cone_starts : (nodes : List QNode) (vars : ℕ) (below : List ℕ) (finished : ℕ → Bool) (root : ℕ) (o : Option ℕ) → HasVars nodes vars root → below ≡ [] → MatchOption o (finished root ≡ true) (λ s. (s ≡ root) × (finished root ≡ false))
    → All (HasVars nodes vars) (below ++ option_to_list o)
cone_starts nodes vars below finished root None cone none found = rw none (all_none (HasVars nodes vars))
cone_starts nodes vars below finished root (Some top) cone none found =
    let P : ℕ → Type 0 = λ k. HasVars nodes vars k in
    rw none (all_cons (HasVars nodes vars) top [] (subst P (sym found.0) cone) (all_none (HasVars nodes vars)))

-- an operand that has no copy is where the walk goes
pub open_operand : (nodes : List QNode) (finished : ℕ → Bool) (top a : ℕ) (n : QNode) → IsTyped nodes → slice_get nodes top ≡ Some n → Contains (operands_of_node n) a → finished a ≡ false → IsOpenBelow finished top a
open_operand nodes finished top a n typed at found off = (contains_all (λ k. k < top) (operands_of_node n) a (earlier_operands top n (typed.earlier top n at)) found, off)

-- an operand depends on no more variables
operand_vars : (nodes : List QNode) (vars top a : ℕ) (n : QNode) → slice_get nodes top ≡ Some n → Contains (operands_of_node n) a → HasVars nodes vars top → HasVars nodes vars a
operand_vars nodes vars top a n at found has = λ j variable cone input.
    has j variable (λ chosen h. cone chosen (record {
      has_roots = all_cons (λ r. chosen r ≡ true) a [] (contains_all (λ k. chosen k ≡ true) (operands_of_node n) a (h.has_operands top n at (all_head (λ r. chosen r ≡ true) top [] h.has_roots)) found) (all_none (λ r. chosen r ≡ true));
      has_operands = h.has_operands;
    })) input

-- the variables of all that wait and of the operand are below the count
pub cone_down : (nodes : List QNode) (vars : ℕ) (below : List ℕ) (top a : ℕ) (n : QNode) → slice_get nodes top ≡ Some n → Contains (operands_of_node n) a
    → All (HasVars nodes vars) (below ++ top ∷ []) → All (HasVars nodes vars) ((below ++ top ∷ []) ++ a ∷ [])
cone_down nodes vars below top a n at found all =
    All-push (HasVars nodes vars) (below ++ top ∷ []) a all (operand_vars nodes vars top a n at found (all_last (HasVars nodes vars) below top all))

pub cone_top : (nodes : List QNode) (vars : ℕ) (below : List ℕ) (top : ℕ) → All (HasVars nodes vars) (below ++ top ∷ []) → HasVars nodes vars top
cone_top nodes vars below top all = all_last (HasVars nodes vars) below top all

or_false : (b : Bool) → (b || false) ≡ b
or_false true = refl
or_false false = refl

or_true : (b : Bool) → (b || true) ≡ true
or_true true = refl
or_true false = refl

eq_true : (a b : ℕ) → a ≡ b → nat_eq a b ≡ true
eq_true a b h = grind (arith, nat_tests)

eq_false : (a b : ℕ) → (a ≡ b → ⊥) → nat_eq a b ≡ false
eq_false a b h = grind (arith, nat_tests)

copied_push : (origins : List ℕ) (top q : ℕ) → is_copied (origins ++ top ∷ []) q ≡ (is_copied origins q || nat_eq q top)
copied_push origins top q = list_any-append (nat_eq q) origins (top ∷ []) ∙ ap (λ (b : Bool). is_copied origins q || b) (or_false (nat_eq q top))

pub finishes : (origins : List ℕ) (top : ℕ) → Finishes (is_copied origins) (is_copied (origins ++ top ∷ [])) top
finishes origins top = record {
  this = copied_push origins top top ∙ ap (λ (b : Bool). is_copied origins top || b) (eq_true top top refl) ∙ or_true (is_copied origins top);
  others = λ q other. copied_push origins top q ∙ ap (λ (b : Bool). is_copied origins q || b) (eq_false q top other) ∙ or_false (is_copied origins q);
}

pub place_is : (origins : List ℕ) (at k : ℕ) → position (nat_eq at) origins ≡ Some k → (k < length origins) × (slice_index origins k ≡ at)
place_is origins at k h = let found = position-Some (nat_eq at) origins k 0 h in (found.0, grind (arith, nat_tests, found.1))

-- what holds of an error
pub err_then : {T : Type 0} (r : Result T ℕ) (P : T → Type 0) (Q R : ℕ → Type 0) → IsErr r → IsErrAnd r R → ((e : ℕ) → R e → Q e) → MatchResult r P Q
err_then (Ok x) P Q R never this then = absurd (false≢true never)
err_then (Err e) P Q R is this then = then e this

-- the third of four is among them
pub third_of_four : (a b c d e : ℕ) (off : ℕ → Bool) → (e ≡ c) × (off e ≡ false) → Contains (a ∷ b ∷ c ∷ d ∷ []) e × (off e ≡ false)
third_of_four a b c d e off h = ((2, omega arith, sym h.0), h.1)

pub KeepsNumbers-same : (origins : List ℕ) → KeepsNumbers origins origins
KeepsNumbers-same origins = λ k lt. (lt, refl)

pub KeepsNumbers-then : (a b c : List ℕ) → KeepsNumbers a b → KeepsNumbers b c → KeepsNumbers a c
KeepsNumbers-then a b c one two = λ k lt. let first = one k lt in let second = two k first.0 in (second.0, second.1 ∙ first.1)

-- the walk for one root, after some steps
pub record Visiting (nodes : List QNode) (vars : ℕ) (start origins : List ℕ) (copies : List QNode) (below : List ℕ) (root : ℕ) (o : Option ℕ) : Type 0 where
  pub copying : IsCopying nodes vars origins copies
  pub kept : KeepsNumbers start origins
  pub stands : Stands (length nodes) (is_copied origins) below root o
  pub known : All (HasVars nodes vars) (below ++ option_to_list o)

pub Visiting-start : (nodes : List QNode) (vars : ℕ) (origins : List ℕ) (copies : List QNode) (below : List ℕ) (root : ℕ) (o : Option ℕ) → IsCopying nodes vars origins copies → root < length nodes → HasVars nodes vars root → below ≡ []
    → MatchOption o (is_copied origins root ≡ true) (λ s. (s ≡ root) × (is_copied origins root ≡ false)) → Visiting nodes vars origins origins copies below root o
Visiting-start nodes vars origins copies below root o is here cone none found = record {
  copying = is;
  kept = KeepsNumbers-same origins;
  stands = starts (length nodes) (is_copied origins) below root o here none found;
  known = cone_starts nodes vars below (is_copied origins) root o cone none found;
}

pub Visiting-walking : (nodes : List QNode) (vars : ℕ) (start origins : List ℕ) (copies : List QNode) (below : List ℕ) (root top : ℕ) (o : Option ℕ) → Visiting nodes vars start origins copies below root o → o ≡ Some top → IsWalking (length nodes) (is_copied origins) below top
Visiting-walking nodes vars start origins copies below root top o was e =
    let P : Option ℕ → Type 0 = λ x. Visiting nodes vars start origins copies below root x in
    let at : Visiting nodes vars start origins copies below root (Some top) = subst P e was in at.stands.0

pub Visiting-known : (nodes : List QNode) (vars : ℕ) (start origins : List ℕ) (copies : List QNode) (below : List ℕ) (root top : ℕ) (o : Option ℕ) → Visiting nodes vars start origins copies below root o → o ≡ Some top → All (HasVars nodes vars) (below ++ top ∷ [])
Visiting-known nodes vars start origins copies below root top o was e =
    let P : Option ℕ → Type 0 = λ x. Visiting nodes vars start origins copies below root x in
    let at : Visiting nodes vars start origins copies below root (Some top) = subst P e was in at.known

pub Visiting-next : (nodes : List QNode) (vars : ℕ) (start origins next : List ℕ) (copies more : List QNode) (below front : List ℕ) (root top : ℕ) (o m : Option ℕ) → Visiting nodes vars start origins copies below root o → o ≡ Some top
    → IsCopying nodes vars next more → KeepsNumbers origins next → Moves (length nodes) (is_copied origins) below top (is_copied next) front m → All (HasVars nodes vars) (front ++ option_to_list m) → Visiting nodes vars start next more front root m
Visiting-next nodes vars start origins next copies more below front root top o m was e is kept moved needed =
    let P : Option ℕ → Type 0 = λ x. Visiting nodes vars start origins copies below root x in
    let at : Visiting nodes vars start origins copies below root (Some top) = subst P e was in
    record {
      copying = is;
      kept = KeepsNumbers-then start origins next was.kept kept;
      stands = stands_next (length nodes) (is_copied origins) (is_copied next) below front top root m moved at.stands.1;
      known = needed;
    }

pub Visiting-less : (nodes : List QNode) (origins next below front : List ℕ) (top : ℕ) (o m : Option ℕ) → o ≡ Some top → Moves (length nodes) (is_copied origins) below top (is_copied next) front m
    → left_of (length nodes) (is_copied next) m < left_of (length nodes) (is_copied origins) o
Visiting-less nodes origins next below front top o m e moved = rw e (less_left (length nodes) (is_copied origins) (is_copied next) below front top m moved)

pub Visiting-end : (nodes : List QNode) (vars : ℕ) (start origins : List ℕ) (copies : List QNode) (below : List ℕ) (root : ℕ) (o : Option ℕ) → Visiting nodes vars start origins copies below root o → ((top : ℕ) → o ≡ Some top → ⊥) → is_copied origins root ≡ true
Visiting-end nodes vars start origins copies below root None was over = was.stands
Visiting-end nodes vars start origins copies below root (Some top) was over = absurd (over top refl)
