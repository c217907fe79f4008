-- Steps that touch no memory: what they show, and the change that they leave.
use Rattle.std.proofs.Common.{◌≡◌, ◌≢◌, ℕ, Bool, true, false, List, [], Option, Some, MatchOption, refl, sym, ◌∙◌, ap, subst, inl, arith}
use Rattle.std.proofs.lemmas.Option.{same_Some}
use Rattle.rv_image.specs.Cell.{Cell}
use Rattle.rv_decode.specs.declared.instr.Instr.{Instr}
use Rattle.rv_machine.specs.declared.«record».Record.{Record}
use Rattle.rv_machine.specs.declared.touch.Touch.TheVariants as touches
use Rattle.rv_machine.specs.State.{State}
use Rattle.rv_machine.specs.Step.{Transition, goes}
use Rattle.bv_expr.specs.declared.q_node.QNode.{QNode}
use Rattle.bv_expr.specs.declared.expr_id.ExprId.{ExprId}
use Rattle.bv_expr.specs.Nodes.{AreBytes, IsValuation}
use Rattle.rel_step.specs.declared.here.Here.{Here}
use Rattle.rel_step.specs.declared.planned.Moved.{Moved}
use Rattle.rel_step.specs.declared.planned.Moved.TheVariants.{Nothing, Register, Bytes}
use Rattle.rel_step.specs.declared.planned.Planned.{Planned}
use Rattle.rel_step.specs.declared.stride.NextIf.{NextIf}
use Rattle.rel_step.specs.Runs.{Always, Tells, state_of, performs}
use Rattle.rel_step.specs.Strides.{ShowSame, LeftGoes, LeftFaults, ShowAt, AreSides, AreNexts, IsTarget}
use Rattle.rel_step.specs.Plans.{HasMoved, after_moved, IsMoved, IsPlanned}
use Rattle.rel_step.specs.Onward.{plain, ShowPlain, IsOnly, IsOnward}
use Rattle.rel_step.proofs.Few.{all_one, any_first, apart_one}

-- each run makes the change and goes to the address that is given for it
abbrev pub DoGo : List QNode → Here → Instr → Moved → ((ℕ → ℕ) → Bool → ℕ) → Type 0
DoGo nodes here instr moved next = (right : Bool) → Always nodes (λ v. performs here instr v right ≡ goes (after_moved right v here.memory.image moved (state_of right v here)) touches.Nothing (next v right))

moved_pc : (right : Bool) (v : ℕ → ℕ) (image : List Cell) (moved : Moved) (s : State) → (after_moved right v image moved s).pc ≡ s.pc
moved_pc right v image Nothing s = refl
moved_pc right v image (Register rd given) s = refl
moved_pc right v image (Bytes ones) s = refl

plain_next : (pc m n : ℕ) → Some (plain pc m) ≡ Some (plain pc n) → m ≡ n
plain_next pc m n e = same_Some m n (ap (λ (r : Record). r.next) (same_Some (plain pc m) (plain pc n) e))

pub show_plain : (nodes : List QNode) (here : Here) (instr : Instr) (moved : Moved) (next : (ℕ → ℕ) → Bool → ℕ) → DoGo nodes here instr moved next → ShowPlain nodes here.pc (performs here instr) next
show_plain nodes here instr moved next h right env v bytes is =
    ap (λ (t : Transition). t.seen) (h right env v bytes is)
    ∙ ap (λ pc. Some (plain pc (next v right))) (moved_pc right v here.memory.image moved (state_of right v here))

-- where the left run goes
pub left_goes : (pc n m : ℕ) (runs : Bool → Transition) → (runs false).seen ≡ Some (plain pc n) → LeftGoes runs m → n ≡ m
left_goes pc n m runs e (seen, is, next) = let s : seen ≡ plain pc n = same_Some seen (plain pc n) (sym is ∙ e) in cc

pub goes_left : (pc n m : ℕ) (runs : Bool → Transition) → (runs false).seen ≡ Some (plain pc n) → n ≡ m → LeftGoes runs m
goes_left pc n m runs e is = (plain pc n, e, ap Some is)

no_fault : (pc n : ℕ) (runs : Bool → Transition) → (runs false).seen ≡ Some (plain pc n) → LeftFaults runs → ⊥
no_fault pc n runs e (seen, is, next) = let s : seen ≡ plain pc n = same_Some seen (plain pc n) (sym is ∙ e) in cc

pub same_next : (pc m n : ℕ) (runs : Bool → Transition) → (runs false).seen ≡ Some (plain pc m) → (runs true).seen ≡ Some (plain pc n) → ShowSame runs → m ≡ n
same_next pc m n runs e f same = plain_next pc m n (sym e ∙ same ∙ f)

pub next_same : (pc m n : ℕ) (runs : Bool → Transition) → (runs false).seen ≡ Some (plain pc m) → (runs true).seen ≡ Some (plain pc n) → m ≡ n → ShowSame runs
next_same pc m n runs e f same = e ∙ ap (λ k. Some (plain pc k)) same ∙ sym f

pub show_at : (nodes : List QNode) (pc : ℕ) (runs : (ℕ → ℕ) → Bool → Transition) (next : (ℕ → ℕ) → Bool → ℕ) → ShowPlain nodes pc runs next → Always nodes (λ v. ShowAt pc (runs v))
show_at nodes pc runs next h env v bytes is right = (plain pc (next v right), h right env v bytes is, refl)

pub faults_never : (nodes : List QNode) (pc : ℕ) (runs : (ℕ → ℕ) → Bool → Transition) (next : (ℕ → ℕ) → Bool → ℕ) → ShowPlain nodes pc runs next → Always nodes (λ v. LeftFaults (runs v) → ⊥)
faults_never nodes pc runs next h env v bytes is = no_fault pc (next v false) (runs v) (h false env v bytes is)

-- the change that a step leaves
pub moves : (nodes : List QNode) (here : Here) (instr : Instr) (moved : Moved) (next : (ℕ → ℕ) → Bool → ℕ) → HasMoved nodes moved → DoGo nodes here instr moved next → IsMoved nodes here (performs here instr) moved
moves nodes here instr moved next parts h = record {
  parts = parts;
  states = λ right to env v bytes is same goes_to. states right to env v bytes is (by right to env v bytes is same goes_to);
}
  where
    shown : ShowPlain nodes here.pc (performs here instr) next
    shown = show_plain nodes here instr moved next h

    by : (right : Bool) (to : ℕ) (env v : ℕ → ℕ) → AreBytes env → IsValuation env v nodes → ShowSame (performs here instr v) → LeftGoes (performs here instr v) to → next v right ≡ to
    by false to env v bytes is same goes_to = left_goes here.pc (next v false) to (performs here instr v) (shown false env v bytes is) goes_to
    by true to env v bytes is same goes_to =
        sym (same_next here.pc (next v false) (next v true) (performs here instr v) (shown false env v bytes is) (shown true env v bytes is) same)
        ∙ left_goes here.pc (next v false) to (performs here instr v) (shown false env v bytes is) goes_to

    states : (right : Bool) (to : ℕ) (env v : ℕ → ℕ) → AreBytes env → IsValuation env v nodes → next v right ≡ to
        → (performs here instr v right).after ≡ record (after_moved right v here.memory.image moved (state_of right v here)) { pc = to }
    states right to env v bytes is e =
        ap (λ (t : Transition). t.after) (h right env v bytes is)
        ∙ ap (λ pc. record (after_moved right v here.memory.image moved (state_of right v here)) { pc = pc }) e

-- one address
pub only_next : (nodes : List QNode) (pc to : ℕ) (runs : (ℕ → ℕ) → Bool → Transition) (next : (ℕ → ℕ) → Bool → ℕ) (nexts : List NextIf)
    → ShowPlain nodes pc runs next → Always nodes (λ v. next v false ≡ to) → IsOnly nodes to nexts → AreNexts nodes runs nexts
only_next nodes pc to runs next nexts h e one = let P : List NextIf → Type 0 = AreNexts nodes runs in subst P (sym one.listed) (record {
  tell = all_one (λ (x : NextIf). Tells nodes x.when.0 (λ v. LeftGoes (runs v) x.next)) (record { next = to; when = one.when }) (record {
    width = one.width;
    flag_is = λ env v bytes is. inl (one.always env v bytes is, goes_left pc (next v false) to (runs v) (h false env v bytes is) (e env v bytes is));
  });
  all = λ n env v bytes is goes_to. any_first (λ (x : NextIf). x.next ≡ n) (record { next = to; when = one.when }) [] (sym (e env v bytes is) ∙ left_goes pc (next v false) n (runs v) (h false env v bytes is) goes_to);
  apart = apart_one (λ (x y : NextIf). x.next ≢ y.next) (record { next = to; when = one.when });
  few = omega arith;
})

-- a step on to one address
pub planned_onward : (nodes : List QNode) (here : Here) (instr : Instr) (to : ℕ) (planned : Planned)
    → HasMoved nodes planned.moved → DoGo nodes here instr planned.moved (λ v right. to) → IsOnward nodes here.pc to planned.stride → IsPlanned nodes here instr planned
planned_onward nodes here instr to planned parts h on = record {
  stride = record {
    site = on.site;
    show = show_at nodes here.pc (performs here instr) (λ v right. to) shown;
    sides = let P : Option (ExprId × ExprId) → Type 0 = λ o. MatchOption o (Always nodes (λ v. ShowSame (performs here instr v))) (λ pair. AreSides nodes (performs here instr) pair.0.0 pair.1.0) in subst P (sym on.sides) same;
    leak = let P : Option ExprId → Type 0 = λ o. MatchOption o (Always nodes (λ v. ShowSame (performs here instr v))) (λ id. Tells nodes id.0 (λ v. ShowSame (performs here instr v) → ⊥)) in subst P (sym on.leak) same;
    alone = λ _. on.leak;
    one = λ id _. on.leak;
    fault = let P : Option ExprId → Type 0 = λ o. MatchOption o (Always nodes (λ v. LeftFaults (performs here instr v) → ⊥)) (λ id. Tells nodes id.0 (λ v. LeftFaults (performs here instr v))) in subst P (sym on.fault) (faults_never nodes here.pc (performs here instr) (λ v right. to) shown);
    goes = let P : Option ExprId → Type 0 = λ o. MatchOption o (AreNexts nodes (performs here instr) planned.stride.nexts) (λ id. IsTarget nodes (performs here instr) planned.stride.nexts id.0) in subst P (sym on.target) (only_next nodes here.pc to (performs here instr) (λ v right. to) planned.stride.nexts shown (λ env v bytes is. refl) on.nexts);
  };
  moved = moves nodes here instr planned.moved (λ v right. to) parts h;
}
  where
    shown : ShowPlain nodes here.pc (performs here instr) (λ v right. to)
    shown = show_plain nodes here instr planned.moved (λ v right. to) h

    same : Always nodes (λ v. ShowSame (performs here instr v))
    same env v bytes is = next_same here.pc to to (performs here instr v) (shown false env v bytes is) (shown true env v bytes is) refl
