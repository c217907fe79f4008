-- Steps where each run goes its own way.
use Rattle.std.proofs.Common.{◌≡◌, ◌≢◌, ◌⊎◌, ℕ, ◌==◌, if◌then◌else◌, Bool, true, false, List, [], ◌∷◌, Option, Some, None, MatchOption, refl, sym, ◌∙◌, ap, subst, inl, inr, arith}
use Rattle.std.specs.Prelude.{◌↔◌}
use Rattle.std.proofs.lemmas.Option.{none-some, some_pair_parts}
use Rattle.ct_words.specs.Words.{flag}
use Rattle.rv_machine.specs.Step.{Transition}
use Rattle.bv_expr.specs.declared.q_node.QNode.{QNode}
use Rattle.bv_expr.specs.declared.expr_id.ExprId.{ExprId}
use Rattle.bv_expr.specs.Nodes.{AreBytes, IsValuation, HasWidth}
use Rattle.rel_store.specs.Sides.{side_id, HasSides}
use Rattle.rel_store.specs.declared.rel_value.RelValue.{RelValue}
use Rattle.rel_step.specs.declared.stride.NextIf.{NextIf}
use Rattle.rel_step.specs.declared.stride.Stride.{Stride}
use Rattle.rel_step.specs.Runs.{Always, IsFlag, Tells}
use Rattle.rel_step.specs.Strides.{ShowSame, LeftGoes, LeftFaults, AreSides, AreNexts, IsTarget, IsStride}
use Rattle.rel_step.specs.Onward.{ShowPlain, IsOnly, IsFork, IsSided, IsJump, IsBranch}
use Rattle.rel_step.proofs.Few.{all_two, any_first, any_second, apart_two}
use Rattle.rel_step.proofs.Going.{left_goes, goes_left, same_next, next_same, show_at, faults_never, only_next}

other_flag : (x : ℕ) (P Q : Type 0) → IsFlag x P → (P → Q) → (Q → P) → IsFlag x Q
other_flag x P Q (inl (one, p)) f g = inl (one, f p)
other_flag x P Q (inr (zero, n)) f g = inr (zero, λ q. n (g q))

-- the expressions of both sides are equal exactly where both runs show the same
pub sides_are : (nodes : List QNode) (pc w : ℕ) (both : RelValue) (runs : (ℕ → ℕ) → Bool → Transition) (next : (ℕ → ℕ) → Bool → ℕ) → ShowPlain nodes pc runs next → HasSides nodes w both
    → ((env v : ℕ → ℕ) → AreBytes env → IsValuation env v nodes → (v (side_id false both) ≡ v (side_id true both)) ↔ (next v false ≡ next v true))
    → AreSides nodes runs (side_id false both) (side_id true both)
sides_are nodes pc w both runs next h has same = record {
  width = w;
  left = has false;
  right = has true;
  same = λ env v bytes is. (
    (λ e. next_same pc (next v false) (next v true) (runs v) (h false env v bytes is) (h true env v bytes is) ((same env v bytes is).0 e)),
    (λ s. (same env v bytes is).1 (same_next pc (next v false) (next v true) (runs v) (h false env v bytes is) (h true env v bytes is) s)),
  );
}

-- where two expressions are apart the runs show different things
pub leak_of : (nodes : List QNode) (runs : (ℕ → ℕ) → Bool → Transition) (l r : ExprId) (apart : Option ExprId) → AreSides nodes runs l.0 r.0 → MatchOption apart (l.0 ≡ r.0) (λ id. Tells nodes id.0 (λ v. v l.0 ≡ v r.0 → ⊥))
    → MatchOption apart (Always nodes (λ v. ShowSame (runs v))) (λ id. Tells nodes id.0 (λ v. ShowSame (runs v) → ⊥))
leak_of nodes runs l r None sides e = λ env v bytes is. (sides.same env v bytes is).0 (ap v e)
leak_of nodes runs l r (Some id) sides t = record {
  width = t.width;
  flag_is = λ env v bytes is. other_flag (v id.0) (v l.0 ≡ v r.0 → ⊥) (ShowSame (runs v) → ⊥) (t.flag_is env v bytes is) (λ n s. n ((sides.same env v bytes is).1 s)) (λ n e. n ((sides.same env v bytes is).0 e));
}

pub one_id : (l r id : ExprId) → ◌≡◌ {A = Option (ExprId × ExprId)} (Some (l, r)) (Some (id, id)) → l.0 ≡ r.0
one_id l r id e = let p = some_pair_parts l id r id e in ap (λ (q : ExprId). q.0) (p.0 ∙ sym p.1)

pub some_none : (l r : ExprId) {P : Type 0} → ◌≡◌ {A = Option (ExprId × ExprId)} (Some (l, r)) None → P
some_none l r e = let pair : ExprId × ExprId = (l, r) in absurd (none-some pair (sym e))

pub sided_stride : (nodes : List QNode) (pc : ℕ) (both : RelValue) (runs : (ℕ → ℕ) → Bool → Transition) (next : (ℕ → ℕ) → Bool → ℕ) (stride : Stride) → ShowPlain nodes pc runs next
    → AreSides nodes runs (side_id false both) (side_id true both) → IsSided nodes pc both stride
    → MatchOption stride.target (AreNexts nodes runs stride.nexts) (λ id. IsTarget nodes runs stride.nexts id.0) → IsStride nodes pc runs stride
sided_stride nodes pc both runs next stride h sides is goes = record {
  site = is.site;
  show = show_at nodes pc runs next h;
  sides = let P : Option (ExprId × ExprId) → Type 0 = λ o. MatchOption o (Always nodes (λ v. ShowSame (runs v))) (λ pair. AreSides nodes runs pair.0.0 pair.1.0) in subst P (sym is.sides) own;
  leak = leak_of nodes runs is.left is.right stride.leak own is.leak.tells;
  alone = λ e. some_none is.left is.right (sym is.sides ∙ e);
  one = λ id e. is.leak.one (one_id is.left is.right id (sym is.sides ∙ e));
  fault = let P : Option ExprId → Type 0 = λ o. MatchOption o (Always nodes (λ v. LeftFaults (runs v) → ⊥)) (λ id. Tells nodes id.0 (λ v. LeftFaults (runs v))) in subst P (sym is.fault) (faults_never nodes pc runs next h);
  goes = goes;
}
  where
    own : AreSides nodes runs is.left.0 is.right.0
    own = rw (is.left_is, is.right_is) sides

-- a jump to an address that an expression has
target_of : (nodes : List QNode) (pc : ℕ) (target : RelValue) (runs : (ℕ → ℕ) → Bool → Transition) (next : (ℕ → ℕ) → Bool → ℕ) (nexts : List NextIf) (o : Option ExprId) → ShowPlain nodes pc runs next
    → HasWidth nodes (side_id false target) 32 → Always nodes (λ v. v (side_id false target) ≡ next v false)
    → MatchOption o ((n : ℕ) × Always nodes (λ v. v (side_id false target) ≡ n) × IsOnly nodes n nexts) (λ id. (id.0 ≡ side_id false target) × (nexts ≡ []))
    → MatchOption o (AreNexts nodes runs nexts) (λ id. IsTarget nodes runs nexts id.0)
target_of nodes pc target runs next nexts None h width value (n, is_number, only) = only_next nodes pc n runs next nexts h (λ env v bytes is. sym (value env v bytes is) ∙ is_number env v bytes is) only
target_of nodes pc target runs next nexts (Some id) h width value (e, none) = rw e (record {
  none = none;
  width = width;
  goes = λ env v bytes is. goes_left pc (next v false) (v (side_id false target)) (runs v) (h false env v bytes is) (sym (value env v bytes is));
})

pub jump_stride : (nodes : List QNode) (pc : ℕ) (target : RelValue) (runs : (ℕ → ℕ) → Bool → Transition) (next : (ℕ → ℕ) → Bool → ℕ) (stride : Stride) → ShowPlain nodes pc runs next → HasSides nodes 32 target
    → ((right : Bool) → Always nodes (λ v. v (side_id right target) ≡ next v right)) → IsJump nodes pc target stride → IsStride nodes pc runs stride
jump_stride nodes pc target runs next stride h has value is =
    sided_stride nodes pc target runs next stride h
    (sides_are nodes pc 32 target runs next h has (λ env v bytes valuation. (
      (λ e. sym (value false env v bytes valuation) ∙ e ∙ value true env v bytes valuation),
      (λ e. value false env v bytes valuation ∙ e ∙ sym (value true env v bytes valuation)),
    )))
    is.sided
    (target_of nodes pc target runs next stride.nexts stride.target h (has false) (value false) is.goes)

-- where a branch goes
abbrev pub forked : ℕ → ℕ → Bool → ℕ
forked there past b = if b then there else past

forks_same : (there past : ℕ) (a b : Bool) → there ≢ past → forked there past a ≡ forked there past b → a ≡ b
forks_same there past true true n e = refl
forks_same there past false false n e = refl
forks_same there past true false n e = absurd (n e)
forks_same there past false true n e = absurd (n (sym e))

flags_same : (a b : Bool) → flag a ≡ flag b → a ≡ b
flags_same true true e = refl
flags_same false false e = refl
flags_same true false e = absurd (omega (arith, e))
flags_same false true e = absurd (omega (arith, e))

yes_flag : (there past : ℕ) (b : Bool) → there ≢ past → IsFlag (flag b) (forked there past b ≡ there)
yes_flag there past true n = inl (refl, refl)
yes_flag there past false n = inr (refl, λ e. n (sym e))

no_flag : (there past : ℕ) (b : Bool) → there ≢ past → IsFlag (flag (flag b == 0)) (forked there past b ≡ past)
no_flag there past true n = inr (refl, n)
no_flag there past false n = inl (refl, refl)

either_way : (there past m : ℕ) (b : Bool) → forked there past b ≡ m → (there ≡ m) ⊎ (past ≡ m)
either_way there past m true e = inl e
either_way there past m false e = inr e

-- the two addresses of a branch
fork_nexts : (nodes : List QNode) (pc when there past : ℕ) (runs : (ℕ → ℕ) → Bool → Transition) (takes : (ℕ → ℕ) → Bool → Bool) (nexts : List NextIf) → ShowPlain nodes pc runs (λ v right. forked there past (takes v right))
    → HasWidth nodes when 1 → Always nodes (λ v. v when ≡ flag (takes v false)) → there ≢ past → IsFork nodes when there past nexts → AreNexts nodes runs nexts
fork_nexts nodes pc when there past runs takes nexts h width value apart is = elim is.listed [
  | inl e ↦ subst P (sym e) (record {
    tell = all_two Q one two tell_one tell_two;
    all = λ m env v bytes valuation goes_to. elim (ways m env v bytes valuation goes_to) [
      | inl y ↦ any_first (λ (x : NextIf). x.next ≡ m) one (two ∷ []) y
      | inr n ↦ any_second (λ (x : NextIf). x.next ≡ m) one two [] n
    ];
    apart = apart_two (λ (x y : NextIf). x.next ≢ y.next) one two apart;
    few = omega arith;
  })
  | inr e ↦ subst P (sym e) (record {
    tell = all_two Q two one tell_two tell_one;
    all = λ m env v bytes valuation goes_to. elim (ways m env v bytes valuation goes_to) [
      | inl y ↦ any_second (λ (x : NextIf). x.next ≡ m) two one [] y
      | inr n ↦ any_first (λ (x : NextIf). x.next ≡ m) two (one ∷ []) n
    ];
    apart = apart_two (λ (x y : NextIf). x.next ≢ y.next) two one (λ e. apart (sym e));
    few = omega arith;
  })
]
  where
    P : List NextIf → Type 0
    P xs = AreNexts nodes runs xs

    Q : NextIf → Type 0
    Q x = Tells nodes x.when.0 (λ v. LeftGoes (runs v) x.next)

    one : NextIf
    one = record { next = there; when = is.first }

    two : NextIf
    two = record { next = past; when = is.second }

    goes_there : (m x : ℕ) (env v : ℕ → ℕ) → AreBytes env → IsValuation env v nodes → IsFlag x (forked there past (takes v false) ≡ m) → IsFlag x (LeftGoes (runs v) m)
    goes_there m x env v bytes valuation f = other_flag x (forked there past (takes v false) ≡ m) (LeftGoes (runs v) m) f
        (goes_left pc (forked there past (takes v false)) m (runs v) (h false env v bytes valuation))
        (left_goes pc (forked there past (takes v false)) m (runs v) (h false env v bytes valuation))

    first_is : (v : ℕ → ℕ) → v is.first.0 ≡ v when
    first_is v = ap v is.first_is

    tell_one : Tells nodes is.first.0 (λ v. LeftGoes (runs v) there)
    tell_one = record {
      width = rw is.first_is width;
      flag_is = λ env v bytes valuation. let F : ℕ → Type 0 = λ x. IsFlag x (LeftGoes (runs v) there) in
          subst F (sym (first_is v ∙ value env v bytes valuation)) (goes_there there (flag (takes v false)) env v bytes valuation (yes_flag there past (takes v false) apart));
    }

    tell_two : Tells nodes is.second.0 (λ v. LeftGoes (runs v) past)
    tell_two = record {
      width = is.width;
      flag_is = λ env v bytes valuation. let F : ℕ → Type 0 = λ x. IsFlag x (LeftGoes (runs v) past) in
          subst F (sym (is.second_is env v bytes valuation ∙ ap (λ x. flag (x == 0)) (value env v bytes valuation))) (goes_there past (flag (flag (takes v false) == 0)) env v bytes valuation (no_flag there past (takes v false) apart));
    }

    ways : (m : ℕ) (env v : ℕ → ℕ) → AreBytes env → IsValuation env v nodes → LeftGoes (runs v) m → (there ≡ m) ⊎ (past ≡ m)
    ways m env v bytes valuation goes_to = either_way there past m (takes v false) (left_goes pc (forked there past (takes v false)) m (runs v) (h false env v bytes valuation) goes_to)

pub branch_stride : (nodes : List QNode) (pc there past : ℕ) (taken : RelValue) (runs : (ℕ → ℕ) → Bool → Transition) (takes : (ℕ → ℕ) → Bool → Bool) (stride : Stride) → ShowPlain nodes pc runs (λ v right. forked there past (takes v right))
    → HasSides nodes 1 taken → ((right : Bool) → Always nodes (λ v. v (side_id right taken) ≡ flag (takes v right))) → there ≢ past → IsBranch nodes pc taken there past stride → IsStride nodes pc runs stride
branch_stride nodes pc there past taken runs takes stride h has value apart is =
    sided_stride nodes pc taken runs next stride h
    (sides_are nodes pc 1 taken runs next h has (λ env v bytes valuation. (
      (λ e. ap (forked there past) (flags_same (takes v false) (takes v true) (sym (value false env v bytes valuation) ∙ e ∙ value true env v bytes valuation))),
      (λ e. value false env v bytes valuation ∙ ap flag (forks_same there past (takes v false) (takes v true) apart e) ∙ sym (value true env v bytes valuation)),
    )))
    is.sided
    (let T : Option ExprId → Type 0 = λ o. MatchOption o (AreNexts nodes runs stride.nexts) (λ id. IsTarget nodes runs stride.nexts id.0) in
    subst T (sym is.target) (fork_nexts nodes pc (side_id false taken) there past runs takes stride.nexts h (has false) (value false) apart is.nexts))
  where
    next : (ℕ → ℕ) → Bool → ℕ
    next v right = forked there past (takes v right)
