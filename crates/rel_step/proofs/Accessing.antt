-- Steps that touch memory: what they show, and the change that they leave.
use Rattle.std.proofs.Common.{◌≡◌, ◌≢◌, ℕ, ◌+◌, Bool, true, false, List, [], Option, Some, None, MatchOption, refl, sym, ◌∙◌, ap, subst, inl, inr, arith}
use Rattle.std.proofs.lemmas.Bool.{false≢true}
use Rattle.std.proofs.lemmas.Option.{same_Some, none-some}
use Rattle.ct_words.specs.Words.{flag}
use Rattle.rv_image.specs.declared.right.Right.{Right}
use Rattle.rv_image.specs.Image.{allowed_at}
use Rattle.rv_decode.specs.declared.instr.Instr.{Instr}
use Rattle.rv_machine.specs.declared.touch.Touch.{Touch}
use Rattle.rv_machine.specs.declared.«record».Record.{Record}
use Rattle.rv_machine.specs.State.{State}
use Rattle.rv_machine.specs.Step.{Transition, perform, wrapped, following, address_of, all_allowed}
use Rattle.bv_expr.specs.declared.q_node.QNode.{QNode}
use Rattle.bv_expr.specs.declared.expr_id.ExprId.{ExprId}
use Rattle.bv_expr.specs.Nodes.{AreBytes, IsValuation, HasWidth}
use Rattle.rel_store.specs.Sides.{side_id, HasSides}
use Rattle.rel_step.specs.declared.addresses.Reach.{Reach}
use Rattle.rel_step.specs.declared.here.Here.{Here}
use Rattle.rel_step.specs.declared.planned.Moved.{Moved}
use Rattle.rel_step.specs.declared.stride.NextIf.{NextIf}
use Rattle.rel_step.specs.declared.stride.Stride.{Stride}
use Rattle.rel_step.specs.Runs.{Always, IsFlag, Tells, state_of, performs}
use Rattle.rel_step.specs.Strides.{ShowSame, LeftGoes, LeftFaults, AreSides, AreNexts, IsTarget, IsStride}
use Rattle.rel_step.specs.Plans.{after_moved, IsPlanned}
use Rattle.rel_step.specs.Accesses.{MayTouch, IsReach, accessed, ShowAccess, TellsRefused, IsAccess, Changes}
use Rattle.rel_step.proofs.Few.{all_one, any_first, apart_one}
use Rattle.rel_step.proofs.Sided.{leak_of, one_id, some_none}

-- what an instruction does that touches memory
pub record Touches (here : Here) (instr : Instr) (touch : ℕ → Touch) (kind : Right) (rs1 offset bytes : ℕ) (changed : State → ℕ → State) : Type 0 where
  pub one : (a b : ℕ) → touch a ≡ touch b → a ≡ b
  pub seen : (s : State) → (perform here.memory.image s instr).seen
      ≡ Some (accessed s.pc (following s) (touch (address_of s rs1 offset)) (all_allowed (allowed_at kind here.memory.image) (address_of s rs1 offset) bytes))
  pub after : (s : State) → MayTouch kind here (address_of s rs1 offset) bytes
      → (perform here.memory.image s instr).after ≡ record (changed s (address_of s rs1 offset)) { pc = following s }

one_zero : (n : ℕ) → n ≡ 1 → n ≡ 0 → ⊥
one_zero n one none = omega arith

-- where a run goes that shows an access
pub goes_where : (pc to n : ℕ) (touch : Touch) (b : Bool) (runs : Bool → Transition) → (runs false).seen ≡ Some (accessed pc to touch b) → LeftGoes runs n → (b ≡ true) × (to ≡ n)
goes_where pc to n touch true runs e (seen, is, next) = let s : seen ≡ accessed pc to touch true = same_Some seen (accessed pc to touch true) (sym is ∙ e) in (refl, cc)
goes_where pc to n touch false runs e (seen, is, next) =
    let s : seen ≡ accessed pc to touch false = same_Some seen (accessed pc to touch false) (sym is ∙ e) in
    absurd (none-some n (ap (λ (r : Record). r.next) (sym s) ∙ next))

faults_where : (pc to : ℕ) (touch : Touch) (b : Bool) (runs : Bool → Transition) → (runs false).seen ≡ Some (accessed pc to touch b) → LeftFaults runs → b ≡ false
faults_where pc to touch true runs e (seen, is, next) =
    let s : seen ≡ accessed pc to touch true = same_Some seen (accessed pc to touch true) (sym is ∙ e) in
    absurd (none-some to (sym next ∙ ap (λ (r : Record). r.next) s))
faults_where pc to touch false runs e fault = refl

goes_flag : (pc to x : ℕ) (touch : Touch) (b : Bool) (runs : Bool → Transition) → (runs false).seen ≡ Some (accessed pc to touch b) → x ≡ flag b → IsFlag x (LeftGoes runs to)
goes_flag pc to x touch true runs e is = inl (is, (accessed pc to touch true, e, refl))
goes_flag pc to x touch false runs e is = inr (is, λ goes. false≢true (goes_where pc to to touch false runs e goes).0)

fault_flag : (pc to x y : ℕ) (touch : Touch) (b : Bool) (runs : Bool → Transition) → (runs false).seen ≡ Some (accessed pc to touch b) → y ≡ flag b → IsFlag x (y ≡ 0) → IsFlag x (LeftFaults runs)
fault_flag pc to x y touch true runs e is (inl (one, z)) = absurd (one_zero y is z)
fault_flag pc to x y touch true runs e is (inr (none, n)) = inr (none, λ fault. false≢true (sym (faults_where pc to touch true runs e fault)))
fault_flag pc to x y touch false runs e is (inl (one, z)) = inl (one, (accessed pc to touch false, e, refl))
fault_flag pc to x y touch false runs e is (inr (none, n)) = absurd (n is)

never_faults : (pc to y : ℕ) (touch : Touch) (b : Bool) (runs : Bool → Transition) → (runs false).seen ≡ Some (accessed pc to touch b) → y ≡ flag b → y ≡ 1 → LeftFaults runs → ⊥
never_faults pc to y touch true runs e is one fault = false≢true (sym (faults_where pc to touch true runs e fault))
never_faults pc to y touch false runs e is one fault = one_zero y one is

-- both show the same only at one address
same_address : (pc to a b : ℕ) (touch : ℕ → Touch) (x y : Bool) (runs : Bool → Transition) → ((m n : ℕ) → touch m ≡ touch n → m ≡ n)
    → (runs false).seen ≡ Some (accessed pc to (touch a) x) → (runs true).seen ≡ Some (accessed pc to (touch b) y) → ShowSame runs → a ≡ b
same_address pc to a b touch x y runs one e f same =
    one a b (ap (λ (r : Record). r.touch) (same_Some (accessed pc to (touch a) x) (accessed pc to (touch b) y) (sym e ∙ same ∙ f)))

fault_of : (nodes : List QNode) (runs : (ℕ → ℕ) → Bool → Transition) (pc to : ℕ) (touch : (ℕ → ℕ) → Touch) (b : (ℕ → ℕ) → Bool) (allowed : ExprId) (fault : Option ExprId)
    → Always nodes (λ v. (runs v false).seen ≡ Some (accessed pc to (touch v) (b v))) → Always nodes (λ v. v allowed.0 ≡ flag (b v)) → TellsRefused nodes allowed fault
    → MatchOption fault (Always nodes (λ v. LeftFaults (runs v) → ⊥)) (λ id. Tells nodes id.0 (λ v. LeftFaults (runs v)))
fault_of nodes runs pc to touch b allowed None h is one = λ env v bytes val. never_faults pc to (v allowed.0) (touch v) (b v) (runs v) (h env v bytes val) (is env v bytes val) (one env v bytes val)
fault_of nodes runs pc to touch b allowed (Some id) h is t = record {
  width = t.width;
  flag_is = λ env v bytes val. fault_flag pc to (v id.0) (v allowed.0) (touch v) (b v) (runs v) (h env v bytes val) (is env v bytes val) (t.flag_is env v bytes val);
}

-- what both runs show of an access
pub access_stride : (nodes : List QNode) (pc to : ℕ) (touch : ℕ → Touch) (can : ℕ → Bool) (reach : Reach) (runs : (ℕ → ℕ) → Bool → Transition) (stride : Stride)
    → ((a b : ℕ) → touch a ≡ touch b → a ≡ b) → ShowAccess nodes pc to touch can reach.address runs → HasSides nodes 32 reach.address → HasWidth nodes reach.allowed.0 1
    → Always nodes (λ v. v reach.allowed.0 ≡ flag (can (v (side_id false reach.address)))) → IsAccess nodes pc to reach stride → IsStride nodes pc runs stride
access_stride nodes pc to touch can reach runs stride one shows has width tells is = record {
  site = is.site;
  show = λ env v bytes val right. (accessed pc to (touch (v (side_id right reach.address))) (can (v (side_id right reach.address))), shows right env v bytes val, refl);
  sides = let P : Option (ExprId × ExprId) → Type 0 = λ o. MatchOption o (Always nodes (λ v. ShowSame (runs v))) (λ pair. AreSides nodes runs pair.0.0 pair.1.0) in subst P (sym is.sides) own;
  leak = leak_of nodes runs is.left is.right stride.leak own is.leak.tells;
  alone = λ none. some_none is.left is.right (sym is.sides ∙ none);
  one = λ id same. is.leak.one (one_id is.left is.right id (sym is.sides ∙ same));
  fault = fault_of nodes runs pc to (λ v. touch (v (side_id false reach.address))) (λ v. can (v (side_id false reach.address))) reach.allowed stride.fault (shows false) tells is.fault;
  goes = let P : Option ExprId → Type 0 = λ o. MatchOption o (AreNexts nodes runs stride.nexts) (λ id. IsTarget nodes runs stride.nexts id.0) in subst P (sym is.target) nexts;
}
  where
    sides : AreSides nodes runs (side_id false reach.address) (side_id true reach.address)
    sides = record {
      width = 32;
      left = has false;
      right = has true;
      same = λ env v bytes val. (
        (λ e. shows false env v bytes val ∙ ap (λ a. Some (accessed pc to (touch a) (can a))) e ∙ sym (shows true env v bytes val)),
        (λ s. same_address pc to (v (side_id false reach.address)) (v (side_id true reach.address)) touch (can (v (side_id false reach.address))) (can (v (side_id true reach.address))) (runs v) one (shows false env v bytes val) (shows true env v bytes val) s),
      );
    }

    own : AreSides nodes runs is.left.0 is.right.0
    own =
        let Q : ℕ → Type 0 = λ l. AreSides nodes runs l is.right.0 in
        let R : ℕ → Type 0 = λ r. AreSides nodes runs (side_id false reach.address) r in
        subst Q (sym is.left_is) (subst R (sym is.right_is) sides)

    nexts : AreNexts nodes runs stride.nexts
    nexts = let P : List NextIf → Type 0 = AreNexts nodes runs in subst P (sym is.nexts) (record {
      tell = all_one (λ (x : NextIf). Tells nodes x.when.0 (λ v. LeftGoes (runs v) x.next)) (record { next = to; when = reach.allowed }) (record {
        width = width;
        flag_is = λ env v bytes val. goes_flag pc to (v reach.allowed.0) (touch (v (side_id false reach.address))) (can (v (side_id false reach.address))) (runs v) (shows false env v bytes val) (tells env v bytes val);
      });
      all = λ n env v bytes val goes. any_first (λ (x : NextIf). x.next ≡ n) (record { next = to; when = reach.allowed }) []
          (goes_where pc to n (touch (v (side_id false reach.address))) (can (v (side_id false reach.address))) (runs v) (shows false env v bytes val) goes).1;
      apart = apart_one (λ (x y : NextIf). x.next ≢ y.next) (record { next = to; when = reach.allowed });
      few = omega arith;
    })

-- the next instruction's address
abbrev onward_of : Here → ℕ
onward_of here = wrapped (here.pc + 4)

-- whether bytes may be touched from an address on
abbrev can_of : Right → Here → ℕ → ℕ → Bool
can_of kind here bytes a = all_allowed (allowed_at kind here.memory.image) a bytes

-- the step that an access does
pub access_planned : (nodes : List QNode) (here : Here) (instr : Instr) (touch : ℕ → Touch) (kind : Right) (rs1 offset bytes : ℕ) (changed : State → ℕ → State) (reach : Reach) (stride : Stride) (moved : Moved)
    → Touches here instr touch kind rs1 offset bytes changed → IsReach nodes here kind rs1 offset bytes reach → IsAccess nodes here.pc (wrapped (here.pc + 4)) reach stride
    → Changes nodes here kind (side_id false reach.address) bytes changed moved → IsPlanned nodes here instr (record { stride = stride; moved = moved })
access_planned nodes here instr touch kind rs1 offset bytes changed reach stride moved does at is changes = record {
  stride = access_stride nodes here.pc (onward_of here) touch (can_of kind here bytes) reach (performs here instr) stride does.one shows at.address at.allowed at.tells is;
  moved = record { parts = changes.parts; states = λ right next env v b val same goes. states right next env v b val (left_of right env v b val same) (left_goes next env v b val goes) };
}
  where
    shows : ShowAccess nodes here.pc (onward_of here) touch (can_of kind here bytes) reach.address (performs here instr)
    shows right env v b val =
        does.seen (state_of right v here) ∙ ap (λ a. Some (accessed here.pc (onward_of here) (touch a) (can_of kind here bytes a))) (sym (at.names right env v b val))

    left_of : (right : Bool) (env v : ℕ → ℕ) → AreBytes env → IsValuation env v nodes → ShowSame (performs here instr v) → address_of (state_of right v here) rs1 offset ≡ v (side_id false reach.address)
    left_of false env v b val same = sym (at.names false env v b val)
    left_of true env v b val same =
        sym (at.names true env v b val)
        ∙ sym (same_address here.pc (onward_of here) (v (side_id false reach.address)) (v (side_id true reach.address)) touch (can_of kind here bytes (v (side_id false reach.address))) (can_of kind here bytes (v (side_id true reach.address))) (performs here instr v) does.one
        (shows false env v b val) (shows true env v b val) same)

    left_goes : (next : ℕ) (env v : ℕ → ℕ) → AreBytes env → IsValuation env v nodes → LeftGoes (performs here instr v) next → (can_of kind here bytes (v (side_id false reach.address)) ≡ true) × (onward_of here ≡ next)
    left_goes next env v b val goes =
        goes_where here.pc (onward_of here) next (touch (v (side_id false reach.address))) (can_of kind here bytes (v (side_id false reach.address))) (performs here instr v) (shows false env v b val) goes

    states : (right : Bool) (next : ℕ) (env v : ℕ → ℕ) → AreBytes env → IsValuation env v nodes → address_of (state_of right v here) rs1 offset ≡ v (side_id false reach.address)
        → (can_of kind here bytes (v (side_id false reach.address)) ≡ true) × (onward_of here ≡ next)
        → (performs here instr v right).after ≡ record (after_moved right v here.memory.image moved (state_of right v here)) { pc = next }
    states right next env v b val e (may, on) =
        let s : State = state_of right v here in
        does.after s (ap (can_of kind here bytes) e ∙ may)
        ∙ ap (λ a. record (changed s a) { pc = onward_of here }) e
        ∙ ap (λ (t : State). record t { pc = onward_of here }) (sym (changes.states right env v b val may))
        ∙ ap (λ n. record (after_moved right v here.memory.image moved s) { pc = n }) on
