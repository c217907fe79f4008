-- What is found of the next step.
use Rattle.std.proofs.Common.{◌≡◌, ◌⊎◌, ◌≢◌, ℕ, ◌*◌, ◌<◌, ◌==◌, Bool, List, length, Option, Some, None, refl, sym, ◌∙◌, ap, subst, inl, inr}
use Rattle.std.specs.Prelude.{MatchOption, IfSome}
use Rattle.rv_decode.specs.declared.instr.Instr.{Instr}
use Rattle.rv_machine.specs.declared.«record».Record.{Record}
use Rattle.rv_machine.specs.Step.{Transition, perform}
use Rattle.bv_expr.specs.declared.q_node.QNode.{QNode}
use Rattle.bv_expr.specs.declared.expr_id.ExprId.{ExprId}
use Rattle.bv_expr.specs.Nodes.{HasWidth, IsValuation}
use Rattle.bv_expr.specs.Growth.{Extends}
use Rattle.bv_expr.proofs.Widths.{HasWidth-later}
use Rattle.ct_words.specs.Words.{flag}
use Rattle.ct_pairs.specs.declared.job.Job.{Job}
use Rattle.ct_pairs.proofs.SplitLemmas.{same_or_not_records}
use Rattle.rel_step.specs.declared.here.Here.{Here}
use Rattle.rel_step.specs.declared.last.Last.{Last}
use Rattle.rel_step.specs.declared.planned.Planned.{Planned}
use Rattle.rel_step.specs.declared.planned.Moved.{Moved}
use Rattle.rel_step.specs.declared.stride.Stride.{Stride}
use Rattle.rel_step.specs.declared.stride.NextIf.{NextIf}
use Rattle.rel_step.specs.Runs.{IsFlag, state_of, performs}
use Rattle.rel_step.specs.Strides.{ShowSame, AreNexts, IsTarget, IsStride}
use Rattle.rel_step.specs.Plans.{IsMoved, IsPlanned}
use Rattle.rel_step.specs.Keeping.{TellsLeak, TellsSame, IsKept}
use Rattle.rel_step.specs.PathNodes.{PathNode, AreVariablesBelow, next_steps, IsInstruction, Goes, IsLast, IsNode, IsAhead}
use Rattle.rel_step.specs.Finding.{IsStepOf}
use Rattle.rel_step.specs.declared.stride.Ahead.TheVariants as aheads
use Rattle.rel_step.proofs.Growing.{IsHere-grows}
use Rattle.rel_step.proofs.GrownNodes.{MatchOption-weaker, IsStride-grows, IsMoved-grows, TellsSame-grows, AreNexts-grows, IsTarget-grows}

-- the runs do what the instruction does
same_runs : (job : Job) (here : Here) (instr : Instr) → IsInstruction job here.pc instr → here.memory.image ≡ job.image → performs here instr ≡ next_steps job here
same_runs job here instr h image = λ i v right. both v right i
  where
    both : (v : ℕ → ℕ) (right : Bool) → performs here instr v right ≡ next_steps job here v right
    both v right = ap (λ cells. perform cells (state_of right v here) instr) image ∙ sym (h.performs (state_of right v here) refl refl)

-- the node in a grown arena
pub stays : (job : Job) (node : PathNode) (nodes : List QNode) (n : ℕ) (last : Option Last) → IsNode job node → Extends node.nodes nodes n → AreVariablesBelow (2 * length job.inputs) nodes
    → MatchOption last (Unit {0}) (IsLast job (record node { nodes = nodes; last = last })) → IsNode job (record node { nodes = nodes; last = last })
stays job node nodes n last h grown variables found = record {
  within = h.within;
  pc = h.pc;
  here = IsHere-grows node.nodes nodes n node.here grown h.here;
  image = h.image;
  conjuncts = λ k d within. HasWidth-later node.nodes nodes n _ 1 grown (h.conjuncts k d within);
  exact = λ env v bytes is. h.exact env v bytes (grown.values env v is);
  states = λ right env v bytes is. h.states right env v bytes (grown.values env v is);
  variables = variables;
  last = found;
}

-- what was found stays in a grown arena
pub last_stays : (job : Job) (node : PathNode) (nodes : List QNode) (n : ℕ) (last : Option Last) → node.last ≡ last → Extends node.nodes nodes n → MatchOption last (Unit {0}) (IsLast job node) → MatchOption last (Unit {0}) (IsLast job (record node { nodes = nodes }))
last_stays job node nodes n None e grown h = tt
last_stays job node nodes n (Some last) e grown h = record {
  shorter = h.shorter;
  equal = TellsSame-grows node.nodes nodes n grown (next_steps job node.here) last.equal h.equal;
  goes = MatchOption-weaker _ _ (λ (id : ExprId). IsTarget node.nodes (next_steps job node.here) last.nexts id.0) (λ id. IsTarget nodes (next_steps job node.here) last.nexts id.0) last.target (AreNexts-grows node.nodes nodes n grown (next_steps job node.here) last.nexts) (λ id. IsTarget-grows node.nodes nodes n grown (next_steps job node.here) last.nexts id.0) h.goes;
  moved = IsMoved-grows node.nodes nodes n grown node.here (next_steps job node.here) last.moved h.moved;
}

-- runs show the same or not
same_or_not_options : (a b : Option Record) → (a ≡ b) ⊎ (a ≢ b)
same_or_not_options None None = inl refl
same_or_not_options None (Some b) = inr (λ e. cc)
same_or_not_options (Some a) None = inr (λ e. cc)
same_or_not_options (Some a) (Some b) = elim (same_or_not_records a b) [ inl e ↦ inl (ap {B = Option Record} Some e) | inr apart ↦ inr (λ e. apart (cc)) ]

other_flag : (x y : ℕ) (P : Type 0) → P ⊎ (P → ⊥) → IsFlag x (P → ⊥) → y ≡ flag (x == 0) → IsFlag y P
other_flag x y P either (inl (one, differ)) e = inr (e ∙ ap (λ z. flag (z == 0)) one, differ)
other_flag x y P (inl same) (inr (zero_is, n)) e = inl (e ∙ ap (λ z. flag (z == 0)) zero_is, same)
other_flag x y P (inr differ) (inr (zero_is, n)) e = absurd (n differ)

pub TellsSame-from : (old new : List QNode) (n : ℕ) (runs : (ℕ → ℕ) → Bool → Transition) (leak equal : ExprId) → Extends old new n → HasWidth new equal.0 1 → ((env v : ℕ → ℕ) → IsValuation env v new → v equal.0 ≡ flag (v leak.0 == 0)) → TellsLeak old runs (Some leak) → TellsSame new runs (Some equal)
TellsSame-from old new n runs leak equal grown width value h = record {
  width = width;
  flag_is = λ env v bytes is. other_flag (v leak.0) (v equal.0) (ShowSame (runs v)) (same_or_not_options _ _) (h.flag_is env v bytes (grown.values env v is)) (value env v is);
}

leak_bit : (nodes : List QNode) (runs : (ℕ → ℕ) → Bool → Transition) (leak : Option ExprId) → TellsLeak nodes runs leak → IfSome leak (λ id. HasWidth nodes id.0 1)
leak_bit nodes runs None h = tt
leak_bit nodes runs (Some id) h = h.width

pub planned_bit : (nodes : List QNode) (here : Here) (instr : Instr) (planned : Planned) → IsPlanned nodes here instr planned → IfSome planned.stride.leak (λ id. HasWidth nodes id.0 1)
planned_bit nodes here instr planned h = leak_bit nodes (performs here instr) planned.stride.leak h.stride.leak

-- the stride of an instruction in a grown arena, and what is kept of it
pub found_for : (mid new : List QNode) (m : ℕ) (here : Here) (instr : Instr) (planned : Planned) (stride : Stride) (last : Last) → IsPlanned mid here instr planned → Extends mid new m → IsKept planned stride last
    → ((runs : (ℕ → ℕ) → Bool → Transition) → TellsLeak mid runs planned.stride.leak → TellsSame new runs last.equal) → IsStepOf new here instr stride last
found_for mid new m here instr planned stride last p one k t = record {
  stride = subst (λ (s : Stride). IsStride new here.pc (performs here instr) s) (sym k.stride) grown;
  equal = t (performs here instr) p.stride.leak;
  goes = goes_is;
  moved = subst (λ (x : Moved). IsMoved new here (performs here instr) x) (sym k.moved) (IsMoved-grows mid new m one here (performs here instr) planned.moved p.moved);
  nexts = k.nexts ∙ ap (λ (s : Stride). s.nexts) (sym k.stride);
  target = k.target ∙ ap (λ (s : Stride). s.target) (sym k.stride);
}
  where
    grown : IsStride new here.pc (performs here instr) planned.stride
    grown = IsStride-grows mid new m one here.pc (performs here instr) planned.stride p.stride

    goes_is : Goes new (performs here instr) last
    goes_is =
        let by_target : MatchOption last.target (AreNexts new (performs here instr) planned.stride.nexts) (λ id. IsTarget new (performs here instr) planned.stride.nexts id.0) = subst (λ (o : Option ExprId). MatchOption o (AreNexts new (performs here instr) planned.stride.nexts) (λ id. IsTarget new (performs here instr) planned.stride.nexts id.0)) (sym k.target) grown.goes in
        subst (λ (ns : List NextIf). MatchOption last.target (AreNexts new (performs here instr) ns) (λ id. IsTarget new (performs here instr) ns id.0)) (sym k.nexts) by_target

-- the runs of the job take that step
module _ (job : Job) (node : PathNode) (new : List QNode) (instr : Instr) (stride : Stride) (last : Last) (h : IsNode job node) (is : IsInstruction job node.here.pc instr) (f : IsStepOf new node.here instr stride last) where
  same : performs node.here instr ≡ next_steps job node.here
  same = same_runs job node.here instr is h.image

  pub is_last : length node.path < job.bound → IsLast job (record node { nodes = new; last = Some last }) last
  is_last short = record {
    shorter = short;
    equal = subst (λ (r : (ℕ → ℕ) → Bool → Transition). TellsSame new r last.equal) same f.equal;
    goes = subst (λ (r : (ℕ → ℕ) → Bool → Transition). Goes new r last) same f.goes;
    moved = subst (λ (r : (ℕ → ℕ) → Bool → Transition). IsMoved new node.here r last.moved) same f.moved;
  }

  pub is_step : length node.path < job.bound → IsAhead job (record node { nodes = new; last = Some last }) (aheads.Step stride)
  is_step short = (short, subst (λ (r : (ℕ → ℕ) → Bool → Transition). IsStride new node.here.pc r stride) same f.stride, record { last = last; is = refl; nexts = f.nexts; target = f.target })
