-- A step that is taken gives the node after it.
use Rattle.std.proofs.Common.{◌≡◌, ◌≢◌, ◌⊎◌, ℕ, ◌+◌, ◌*◌, ◌<◌, ◌^◌, ◌==◌, if◌then◌else◌, Bool, true, false, cond, eqb, List, [], ◌∷◌, ◌++◌, length, get_or, map, fold, take, Option, Some, None, refl, sym, ◌∙◌, ap, subst, inl, inr, arith, slice_index, slice_set, length-set}
use Rattle.std.specs.Prelude.{All, Any, MatchOption, IfSome, option_to_list}
use Rattle.std.proofs.lemmas.Bool.Decides.{eqb_tells}
use Rattle.std.proofs.lemmas.List.{map-set, get_or-set_other, take_at, drop_at}
use Rattle.std.proofs.lemmas.List.Elements.{All-append, All-set, All-cons, All-nil, All-head, All-take, All-drop}
use Rattle.std.proofs.lemmas.List.Sums.{fold_more}
use Rattle.rv_machine.specs.State.{State}
use Rattle.rv_machine.specs.Step.{Transition, byte_stored}
use Rattle.rv_machine.specs.declared.«record».Record.{Record}
use Rattle.bv_expr.specs.declared.q_node.QNode.{QNode}
use Rattle.bv_expr.specs.declared.expr_id.ExprId.{ExprId}
use Rattle.bv_expr.specs.Nodes.{IsValuation, AreBytes, HasWidth}
use Rattle.bv_expr.specs.Growth.{Extends, AddsNoInput}
use Rattle.bv_expr.proofs.Widths.{HasWidth-later}
use Rattle.ct_words.specs.Words.{flag, test_value}
use Rattle.ct_words.specs.declared.cond.Cond.TheVariants as conds
use Rattle.rel_store.specs.declared.rel_value.RelValue.{RelValue}
use Rattle.rel_store.specs.Sides.{side_id, HasSides}
use Rattle.rel_memory.specs.Contents.{Contents, IsMemory, byte_in}
use Rattle.rel_memory.specs.declared.contents.Written.{Written}
use Rattle.ct_pairs.specs.declared.job.Job.{Job}
use Rattle.std.specs.declared.vec.Vec.{Vec}
use Rattle.std.specs.declared.alloc.Global.{Global}
use Rattle.rel_step.specs.declared.here.Here.{Here}
use Rattle.rel_step.specs.declared.last.Last.{Last}
use Rattle.rel_step.specs.declared.stride.NextIf.{NextIf}
use Rattle.rel_step.specs.declared.planned.Moved.TheVariants.{Nothing, Register, Bytes}
use Rattle.rel_step.specs.Runs.{IsFlag, Tells, IsHere}
use Rattle.rel_step.specs.Strides.{ShowSame, LeftGoes, AreNexts, IsTarget}
use Rattle.rel_step.specs.Plans.{with_byte}
use Rattle.rel_step.specs.Keeping.{TellsSame}
use Rattle.rel_step.specs.Following.{bytes_in, ArePut, IsPutIn}
use Rattle.rel_step.specs.PathNodes.{PathNode, Meets, AreVariablesBelow, next_steps, GoTo, Goes, IsLast, IsNode, IsAfter}
use Rattle.rel_step.proofs.GrownNodes.{TellsSame-grows}
use Rattle.rel_step.proofs.ByteLaws.{bytes_by, with_at, same_functions, bytes_by-stored}

-- what holds of each element of two lists
pub All-front : {X : Type 0} (P : X → Type 0) (xs ys : List X) → All P (xs ++ ys) → All P xs
All-front {X} P xs ys h = subst (λ (zs : List X). All P zs) (take_at xs ys (length xs) refl) (All-take P (length xs) (xs ++ ys) h)

pub All-back : {X : Type 0} (P : X → Type 0) (xs ys : List X) → All P (xs ++ ys) → All P ys
All-back {X} P xs ys h = subst (λ (zs : List X). All P zs) (drop_at xs ys (length xs) refl) (All-drop P (length xs) (xs ++ ys) h)

-- what a flag tells
pub flag_one : (x : ℕ) (P : Type 0) → IsFlag x P → x ≡ 1 → P
flag_one x P (inl (one, p)) e = p
flag_one x P (inr (zero_is, n)) e = absurd (omega (arith, zero_is, e))

pub flag_holds : (x : ℕ) (P : Type 0) → IsFlag x P → P → x ≡ 1
flag_holds x P (inl (one, p)) q = one
flag_holds x P (inr (zero_is, n)) q = absurd (n q)

-- a listed next
pub listed_tells : (nodes : List QNode) (runs : (ℕ → ℕ) → Bool → Transition) (nexts : List NextIf) (next : ℕ) (id : ExprId) → AreNexts nodes runs nexts
    → Any (λ (one : NextIf). (one.next ≡ next) × (one.when ≡ id)) nexts → Tells nodes id.0 (λ v. LeftGoes (runs v) next)
listed_tells nodes runs nexts next id h (k, one, within, at, (to, is)) =
    let t : Tells nodes (get_or nexts k one).when.0 (λ v. LeftGoes (runs v) (get_or nexts k one).next) = h.tell k one within in
    let u : Tells nodes one.when.0 (λ v. LeftGoes (runs v) one.next) = subst (λ (x : NextIf). Tells nodes x.when.0 (λ v. LeftGoes (runs v) x.next)) at t in
    let w : Tells nodes id.0 (λ v. LeftGoes (runs v) one.next) = subst (λ (x : ExprId). Tells nodes x.0 (λ v. LeftGoes (runs v) one.next)) is u in
    subst (λ n. Tells nodes id.0 (λ v. LeftGoes (runs v) n)) to w

-- the left run goes to one address
goes_once : (runs : Bool → Transition) (a b : ℕ) → LeftGoes runs a → LeftGoes runs b → a ≡ b
goes_once runs a b (seen, is, next) (other, also, then_to) =
    let same : seen ≡ other = (let e : Some seen ≡ Some other = sym is ∙ also in cc) in
    let e : Some a ≡ Some b = sym next ∙ ap (λ (r : Record). r.next) same ∙ then_to in cc

equal_value : (x a b : ℕ) → x ≡ flag (test_value conds.Eq a b) → ((x ≡ 1) × (a ≡ b)) ⊎ ((x ≡ 0) × (a ≢ b))
unfolding test_value
equal_value x a b e = elim (eqb_tells a b) [ inl (t1, z) ↦ inl (e ∙ ap flag t1, z) | inr (n1, z) ↦ inr (e ∙ ap flag n1, z) ]

-- a test of the address where the left run goes
pub target_tells : (old new : List QNode) (n : ℕ) (runs : (ℕ → ℕ) → Bool → Transition) (nexts : List NextIf) (target address id next : ℕ) → Extends old new n → IsTarget old runs nexts target → HasWidth new id 1
    → ((env v : ℕ → ℕ) → IsValuation env v new → v address ≡ next) → ((env v : ℕ → ℕ) → IsValuation env v new → v id ≡ flag (test_value conds.Eq (v target) (v address)))
    → Tells new id (λ v. LeftGoes (runs v) next)
target_tells old new n runs nexts target address id next grown h width is value = record { width = width; flag_is = flag_is }
  where
    flag_is : (env v : ℕ → ℕ) → AreBytes env → IsValuation env v new → IsFlag (v id) (LeftGoes (runs v) next)
    flag_is env v bytes at =
        let goes = h.goes env v bytes (grown.values env v at) in
        let number = is env v at in
        elim (equal_value (v id) (v target) (v address) (value env v at)) [
          | inl (one, e) ↦ inl (one, subst (λ a. LeftGoes (runs v) a) (e ∙ number) goes)
          | inr (zero_is, apart) ↦ inr (zero_is, λ g. apart (goes_once (runs v) (v target) next goes g ∙ sym number))
        ]

-- an address that an expression gives is a word
pub target_width : (nodes : List QNode) (runs : (ℕ → ℕ) → Bool → Transition) (last : Last) → Goes nodes runs last → IfSome last.target (λ id. HasWidth nodes id.0 32)
target_width nodes runs last h = by last.target h
  where
    by : (target : Option ExprId) → MatchOption target (AreNexts nodes runs last.nexts) (λ id. IsTarget nodes runs last.nexts id.0) → IfSome target (λ id. HasWidth nodes id.0 32)
    by None k = tt
    by (Some id) k = k.width

-- bytes that are stored one after another
pub ArePut-none : (nodes : List QNode) (m : Contents) → IsMemory nodes m → ArePut nodes m [] m
ArePut-none nodes m h = record { image = refl; memory = h; bytes = λ right env v is. refl }

pub ArePut-more : (nodes : List QNode) (old mid new : Contents) (ones : List Written) (i : ℕ) (one : Written) → i < length ones → get_or ones i one ≡ one → ArePut nodes old (take i ones) mid → IsMemory nodes new → new.image ≡ mid.image
    → ((right : Bool) (env v : ℕ → ℕ) → IsValuation env v nodes → (at : ℕ) → byte_in right v new at ≡ (if at == v one.address.0 then v (side_id right one.held) else byte_in right v mid at))
    → ArePut nodes old (take (i + 1) ones) new
ArePut-more nodes old mid new ones i one within at put memory image meaning = record {
  image = image ∙ put.image;
  memory = memory;
  bytes = bytes;
}
  where
    bytes : (right : Bool) (env v : ℕ → ℕ) → IsValuation env v nodes → bytes_in right v new ≡ fold (with_byte right v old.image) (bytes_in right v old) (take (i + 1) ones)
    bytes right env v is =
        let a = v one.address.0 in
        let x = v (side_id right one.held) in
        ap (bytes_by new.image) (same_functions (byte_in right v new) (with_at (byte_in right v mid) a x) (meaning right env v is))
        ∙ ap (λ image. bytes_by image (with_at (byte_in right v mid) a x)) image
        ∙ sym (bytes_by-stored mid.image (byte_in right v mid) a x put.memory.image)
        ∙ ap (λ image. byte_stored image (bytes_in right v mid) a x) put.image
        ∙ ap (λ bs. byte_stored old.image bs a x) (put.bytes right env v is)
        ∙ ap (with_byte right v old.image (fold (with_byte right v old.image) (bytes_in right v old) (take i ones))) (sym at)
        ∙ sym (fold_more (with_byte right v old.image) (bytes_in right v old) ones i one within)

-- what is put in
pub put_nothing : (nodes : List QNode) (here : Here) → IsHere nodes here → IsPutIn nodes here Nothing here
put_nothing nodes here h = record { here = h; image = refl; states = λ right env v is. refl }

abbrev made : ℕ → List ℕ → List ℕ → State
made pc rs bs = record { pc = pc; registers = rs; bytes = bs; ending = None }

module _ (nodes : List QNode) (here : Here) (rd : ℕ) (given : RelValue) where
  abbrev written : List RelValue
  written = cond (eqb rd 0) here.registers (slice_set here.registers rd given)

  map_written : (f : RelValue → ℕ) (b : Bool) → map f (cond b here.registers (slice_set here.registers rd given)) ≡ cond b (map f here.registers) (slice_set (map f here.registers) rd (f given))
  map_written f true = refl
  map_written f false = map-set f here.registers rd given

  count_written : (b : Bool) → length (cond b here.registers (slice_set here.registers rd given)) ≡ length here.registers
  count_written true = refl
  count_written false = length-set here.registers rd given

  words_written : (b : Bool) → All (HasSides nodes 32) here.registers → HasSides nodes 32 given → All (HasSides nodes 32) (cond b here.registers (slice_set here.registers rd given))
  words_written true all is = all
  words_written false all is = All-set (HasSides nodes 32) here.registers rd given is all

  zero_written : (f : RelValue → ℕ) → slice_index (map f here.registers) 0 ≡ 0 → slice_index (map f written) 0 ≡ 0
  zero_written f z = elim (eqb_tells rd 0) [
    | inl (t1, e) ↦ ap (λ b. slice_index (map f (cond b here.registers (slice_set here.registers rd given))) 0) t1 ∙ z
    | inr (n1, e) ↦ ap (λ b. slice_index (map f (cond b here.registers (slice_set here.registers rd given))) 0) n1 ∙ ap (λ xs. slice_index xs 0) (map-set f here.registers rd given) ∙ get_or-set_other (map f here.registers) rd 0 (f given) 0 (λ z. e (sym z)) ∙ z
  ]

  pub put_register : (registers : List RelValue) → registers ≡ written → IsHere nodes here → HasSides nodes 32 given → IsPutIn nodes here (Register rd given) (record here { registers = registers })
  put_register registers same h is = subst (λ rs. IsPutIn nodes here (Register rd given) (record here { registers = rs })) (sym same) (record {
    here = record {
      pc = h.pc;
      count = count_written (eqb rd 0) ∙ h.count;
      words = words_written (eqb rd 0) h.words is;
      zero_is = λ right env v bytes at. zero_written (λ value. v (side_id right value)) (h.zero_is right env v bytes at);
      memory = h.memory;
    };
    image = refl;
    states = λ right env v at. ap (λ rs. made here.pc rs (bytes_in right v here.memory)) (map_written (λ value. v (side_id right value)) (eqb rd 0));
  })

pub put_bytes : (nodes : List QNode) (here : Here) (ones : Vec Written Global) (memory : Contents) → IsHere nodes here → ArePut nodes here.memory ones.items memory → IsPutIn nodes here (Bytes ones) (record here { memory = memory })
put_bytes nodes here ones memory h put = record {
  here = record { pc = h.pc; count = h.count; words = h.words; zero_is = h.zero_is; memory = put.memory };
  image = put.image;
  states = λ right env v is. ap (λ bs. made here.pc (map (λ value. v (side_id right value)) here.registers) bs) (put.bytes right env v is);
}

-- the conjuncts of one more step
pub equal_meets : (nodes : List QNode) (runs : (ℕ → ℕ) → Bool → Transition) (equal : Option ExprId) (env v : ℕ → ℕ) → TellsSame nodes runs equal → AreBytes env → IsValuation env v nodes → All (λ (id : ExprId). v id.0 ≡ 1) (option_to_list equal) → ShowSame (runs v)
equal_meets nodes runs None env v t bytes is m = t env v bytes is
equal_meets nodes runs (Some id) env v t bytes is m = flag_one _ _ (t.flag_is env v bytes is) (All-head (λ (id : ExprId). v id.0 ≡ 1) id [] m)

pub meets_equal : (nodes : List QNode) (runs : (ℕ → ℕ) → Bool → Transition) (equal : Option ExprId) (env v : ℕ → ℕ) → TellsSame nodes runs equal → AreBytes env → IsValuation env v nodes → ShowSame (runs v) → All (λ (id : ExprId). v id.0 ≡ 1) (option_to_list equal)
meets_equal nodes runs None env v t bytes is same = All-nil (λ (id : ExprId). v id.0 ≡ 1)
meets_equal nodes runs (Some id) env v t bytes is same = All-cons (λ (id : ExprId). v id.0 ≡ 1) id [] (flag_holds _ _ (t.flag_is env v bytes is) same) (All-nil (λ (id : ExprId). v id.0 ≡ 1))

pub equal_width : (nodes : List QNode) (runs : (ℕ → ℕ) → Bool → Transition) (equal : Option ExprId) → TellsSame nodes runs equal → All (λ (id : ExprId). HasWidth nodes id.0 1) (option_to_list equal)
equal_width nodes runs None t = All-nil (λ (id : ExprId). HasWidth nodes id.0 1)
equal_width nodes runs (Some id) t = All-cons (λ (id : ExprId). HasWidth nodes id.0 1) id [] t.width (All-nil (λ (id : ExprId). HasWidth nodes id.0 1))

HasWidth-all : (old new : List QNode) (n : ℕ) (ids : List ExprId) → Extends old new n → All (λ (id : ExprId). HasWidth old id.0 1) ids → All (λ (id : ExprId). HasWidth new id.0 1) ids
HasWidth-all old new n ids grown all k d within = HasWidth-later old new n (get_or ids k d).0 1 grown (all k d within)

-- no new variables
pub variables_stay : (old new : List QNode) (count : ℕ) → AddsNoInput old new → AreVariablesBelow count old → AreVariablesBelow count new
variables_stay old new count same below i variable at = below i variable (same.at i variable at)

module _ (job : Job) (node : PathNode) (last : Last) (next n : ℕ) (nodes : List QNode) (here : Here) (when : ExprId) where
  abbrev more : List ExprId
  more = option_to_list last.equal ++ when ∷ []

  -- the node a step later
  abbrev pub later : PathNode
  later = record { nodes = nodes; here = record here { pc = next }; path = node.path ++ next ∷ []; conjuncts = node.conjuncts ++ option_to_list last.equal ++ when ∷ []; last = None }

  pub followed : IsNode job node → IsLast job node last → Extends node.nodes nodes n → AddsNoInput node.nodes nodes → next < 2 ^ 32
      → Tells nodes when.0 (λ v. LeftGoes (next_steps job node.here v) next) → IsPutIn nodes node.here last.moved here → IsAfter job node next later
  followed h l grown inputs below t put = record {
    values = grown.values;
    path = refl;
    pc = refl;
    here = record { pc = below; count = put.here.count; words = put.here.words; zero_is = put.here.zero_is; memory = put.here.memory };
    image = put.image;
    conjuncts = All-append (λ (id : ExprId). HasWidth nodes id.0 1) (node.conjuncts ++ option_to_list last.equal) (when ∷ [])
        (All-append (λ (id : ExprId). HasWidth nodes id.0 1) node.conjuncts (option_to_list last.equal) (HasWidth-all node.nodes nodes n node.conjuncts grown h.conjuncts) (equal_width nodes (next_steps job node.here) last.equal equal))
        (All-cons (λ (id : ExprId). HasWidth nodes id.0 1) when [] t.width (All-nil (λ (id : ExprId). HasWidth nodes id.0 1)));
    exact = λ env v bytes is. (apart env v bytes is, together env v bytes is);
    states = λ right env v bytes is m.
        let (before, (same, goes)) = apart env v bytes is m in
        ap (λ (s : State). record s { pc = next }) (put.states right env v is) ∙ sym (l.moved.states right next env v bytes (grown.values env v is) same goes);
    variables = variables_stay node.nodes nodes (2 * length job.inputs) inputs h.variables;
    last = refl;
  }
    where
      equal : TellsSame nodes (next_steps job node.here) last.equal
      equal = TellsSame-grows node.nodes nodes n grown (next_steps job node.here) last.equal l.equal

      apart : (env v : ℕ → ℕ) → AreBytes env → IsValuation env v nodes → Meets v later.conjuncts → Meets v node.conjuncts × GoTo (next_steps job node.here v) next
      apart env v bytes is m =
          let front = All-front (λ (id : ExprId). v id.0 ≡ 1) (node.conjuncts ++ option_to_list last.equal) (when ∷ []) m in
          let back = All-back (λ (id : ExprId). v id.0 ≡ 1) (node.conjuncts ++ option_to_list last.equal) (when ∷ []) m in (
            All-front (λ (id : ExprId). v id.0 ≡ 1) node.conjuncts (option_to_list last.equal) front,
            (
              equal_meets nodes (next_steps job node.here) last.equal env v equal bytes is (All-back (λ (id : ExprId). v id.0 ≡ 1) node.conjuncts (option_to_list last.equal) front),
              flag_one _ _ (t.flag_is env v bytes is) (All-head (λ (id : ExprId). v id.0 ≡ 1) when [] back),
            ),
          )

      together : (env v : ℕ → ℕ) → AreBytes env → IsValuation env v nodes → Meets v node.conjuncts × GoTo (next_steps job node.here v) next → Meets v later.conjuncts
      together env v bytes is (before, (same, goes)) =
          All-append (λ (id : ExprId). v id.0 ≡ 1) (node.conjuncts ++ option_to_list last.equal) (when ∷ [])
          (All-append (λ (id : ExprId). v id.0 ≡ 1) node.conjuncts (option_to_list last.equal) before (meets_equal nodes (next_steps job node.here) last.equal env v equal bytes is same))
          (All-cons (λ (id : ExprId). v id.0 ≡ 1) when [] (flag_holds _ _ (t.flag_is env v bytes is) goes) (All-nil (λ (id : ExprId). v id.0 ≡ 1)))
