-- What was said of nodes holds when more are added.
use Rattle.std.proofs.Common.{ℕ, Bool, List, Option, Some, None}
use Rattle.std.specs.Prelude.{MatchOption}
use Rattle.std.proofs.lemmas.List.Elements.{All-weaker}
use Rattle.rv_machine.specs.Step.{Transition}
use Rattle.bv_expr.specs.declared.q_node.QNode.{QNode}
use Rattle.bv_expr.specs.declared.expr_id.ExprId.{ExprId}
use Rattle.bv_expr.specs.Growth.{Extends}
use Rattle.bv_expr.proofs.Widths.{HasWidth-later}
use Rattle.rel_step.specs.declared.here.Here.{Here}
use Rattle.rel_step.specs.declared.stride.NextIf.{NextIf}
use Rattle.rel_step.specs.declared.stride.Stride.{Stride}
use Rattle.rel_step.specs.declared.planned.Moved.{Moved}
use Rattle.rel_step.specs.Runs.{Tells}
use Rattle.rel_step.specs.Strides.{AreSides, AreNexts, IsTarget, IsStride, LeftGoes, ShowSame, LeftFaults}
use Rattle.rel_step.specs.Plans.{IsMoved}
use Rattle.rel_step.specs.Keeping.{TellsSame}
use Rattle.rel_step.proofs.Growing.{Always-grows, HasMoved-grows}

-- a fact by cases on an option
pub MatchOption-weaker : {X : Type 0} (P Q : Type 0) (R S : X → Type 0) (o : Option X) → (P → Q) → ((x : X) → R x → S x) → MatchOption o P R → MatchOption o Q S
MatchOption-weaker P Q R S None p r h = p h
MatchOption-weaker P Q R S (Some x) p r h = r x h

module _ (old new : List QNode) (n : ℕ) (grown : Extends old new n) where
  pub Tells-grows : (id : ℕ) (P : (ℕ → ℕ) → Type 0) → Tells old id P → Tells new id P
  Tells-grows id P t = record { width = HasWidth-later old new n id 1 grown t.width; flag_is = λ env v bytes is. t.flag_is env v bytes (grown.values env v is) }

  pub AreSides-grows : (runs : (ℕ → ℕ) → Bool → Transition) (l r : ℕ) → AreSides old runs l r → AreSides new runs l r
  AreSides-grows runs l r s = record {
    width = s.width;
    left = HasWidth-later old new n l s.width grown s.left;
    right = HasWidth-later old new n r s.width grown s.right;
    same = λ env v bytes is. s.same env v bytes (grown.values env v is);
  }

  pub AreNexts-grows : (runs : (ℕ → ℕ) → Bool → Transition) (nexts : List NextIf) → AreNexts old runs nexts → AreNexts new runs nexts
  AreNexts-grows runs nexts h = record {
    tell = All-weaker (λ (one : NextIf). Tells old one.when.0 (λ v. LeftGoes (runs v) one.next)) (λ one. Tells new one.when.0 (λ v. LeftGoes (runs v) one.next)) (λ one. Tells-grows one.when.0 (λ v. LeftGoes (runs v) one.next)) nexts h.tell;
    all = λ next env v bytes is. h.all next env v bytes (grown.values env v is);
    apart = h.apart;
    few = h.few;
  }

  pub IsTarget-grows : (runs : (ℕ → ℕ) → Bool → Transition) (nexts : List NextIf) (id : ℕ) → IsTarget old runs nexts id → IsTarget new runs nexts id
  IsTarget-grows runs nexts id h = record {
    none = h.none;
    width = HasWidth-later old new n id 32 grown h.width;
    goes = λ env v bytes is. h.goes env v bytes (grown.values env v is);
  }

  pub IsStride-grows : (pc : ℕ) (runs : (ℕ → ℕ) → Bool → Transition) (stride : Stride) → IsStride old pc runs stride → IsStride new pc runs stride
  IsStride-grows pc runs stride h = record {
    site = h.site;
    show = λ env v bytes is. h.show env v bytes (grown.values env v is);
    sides = MatchOption-weaker _ _ (λ (pair : ExprId × ExprId). AreSides old runs pair.0.0 pair.1.0) (λ pair. AreSides new runs pair.0.0 pair.1.0) stride.sides (Always-grows old new n (λ v. ShowSame (runs v)) grown) (λ pair. AreSides-grows runs pair.0.0 pair.1.0) h.sides;
    leak = MatchOption-weaker _ _ (λ (id : ExprId). Tells old id.0 (λ v. ShowSame (runs v) → ⊥)) (λ id. Tells new id.0 (λ v. ShowSame (runs v) → ⊥)) stride.leak (Always-grows old new n (λ v. ShowSame (runs v)) grown) (λ id. Tells-grows id.0 (λ v. ShowSame (runs v) → ⊥)) h.leak;
    alone = h.alone;
    one = h.one;
    fault = MatchOption-weaker _ _ (λ (id : ExprId). Tells old id.0 (λ v. LeftFaults (runs v))) (λ id. Tells new id.0 (λ v. LeftFaults (runs v))) stride.fault (Always-grows old new n (λ v. LeftFaults (runs v) → ⊥) grown) (λ id. Tells-grows id.0 (λ v. LeftFaults (runs v))) h.fault;
    goes = MatchOption-weaker _ _ (λ (id : ExprId). IsTarget old runs stride.nexts id.0) (λ id. IsTarget new runs stride.nexts id.0) stride.target (AreNexts-grows runs stride.nexts) (λ id. IsTarget-grows runs stride.nexts id.0) h.goes;
  }

  pub IsMoved-grows : (here : Here) (runs : (ℕ → ℕ) → Bool → Transition) (moved : Moved) → IsMoved old here runs moved → IsMoved new here runs moved
  IsMoved-grows here runs moved h = record { parts = HasMoved-grows old new n moved grown h.parts; states = λ right next env v bytes is. h.states right next env v bytes (grown.values env v is) }

  pub TellsSame-grows : (runs : (ℕ → ℕ) → Bool → Transition) (equal : Option ExprId) → TellsSame old runs equal → TellsSame new runs equal
  TellsSame-grows runs equal h = MatchOption-weaker _ _ (λ (id : ExprId). Tells old id.0 (λ v. ShowSame (runs v))) (λ id. Tells new id.0 (λ v. ShowSame (runs v))) equal (Always-grows old new n (λ v. ShowSame (runs v)) grown) (λ id. Tells-grows id.0 (λ v. ShowSame (runs v))) h
