-- Where a step goes: from what its expressions say, and from what was asked and told.
use Rattle.std.proofs.Common.{◌≡◌, ◌≢◌, ◌⊎◌, ℕ, suc, zero, ◌+◌, ◌-◌, ◌<◌, ◌≤◌, max, Bool, true, false, eqb, List, [], ◌∷◌, ◌++◌, length, get_or, Option, Some, None, refl, sym, ◌∙◌, ap, subst, inl, inr, arith}
use Rattle.std.specs.Prelude.{IfSome, MatchOption}
use Rattle.std.specs.List.{All, Any, AllPairs, Contains, IsDistinct, AllByRecursion, sum_by}
use Rattle.std.proofs.lemmas.Bool.{false≢true}
use Rattle.std.proofs.lemmas.Bool.Decides.{eqb_tells}
use Rattle.std.proofs.Math.Nat.{le-max_left}
use Rattle.std.proofs.lemmas.List.{length-append, length_push, get_or_append_left, get_or-append_right}
use Rattle.std.proofs.lemmas.List.Elements.{All-append, All-cons, All-nil, All-weaker, Contains-append_left, Contains-append_right, Contains-push}
use Rattle.std.proofs.lemmas.List.Sorted.{IsPermutation-to_front, IsPermutation-sym}
use Rattle.std.proofs.lemmas.List.Sums.{sum_by-cons, sum_by_push}
use Rattle.std.proofs.lemmas.Map.Keys.{IsDistinct-cons, IsDistinct-IsPermutation}
use Rattle.std.proofs.lemmas.Option.{same_Some}
use Rattle.rv_machine.specs.declared.«record».Record.{Record}
use Rattle.rv_machine.specs.Step.{Transition}
use Rattle.ct_pairs.specs.declared.job.Job.{Job}
use Rattle.ct_pairs.specs.declared.pair.Pair.{Pair}
use Rattle.ct_pairs.specs.Paths.{Follows}
use Rattle.ct_entries.specs.declared.listed.Listed.{Listed}
use Rattle.ct_entries.specs.Entries.{GoesTo, IsListed}
use Rattle.bv_expr.specs.declared.q_node.QNode.{QNode}
use Rattle.rel_step.specs.declared.last.Last.{Last}
use Rattle.rel_step.specs.declared.stride.NextIf.{NextIf}
use Rattle.rel_step.specs.declared.stride.Stride.{Stride}
use Rattle.bv_expr.specs.declared.expr_id.ExprId.{ExprId}
use Rattle.rel_step.specs.Runs.{Always, Tells}
use Rattle.rel_step.specs.Strides.{ShowSame, LeftGoes, LeftFaults, ShowAt, AreNexts, IsTarget}
use Rattle.rel_step.specs.PathNodes.{PathNode, IsNode, IsFound, CanGo, CanGoBy, next_steps}
use Rattle.path_run.specs.declared.course.Course.{Course}
use Rattle.ct_entries.specs.Covering.{LeavesNoNext}
use Rattle.path_run.specs.Counting.{times, weight, share}
use Rattle.path_run.specs.Walks.{EndsHere, IsStepped}
use Rattle.path_run.specs.Stages.{IsAtStep, IsSplit, AreLeaksKnown, AreOpen, IsLeft, IsKept, IsKeeping, IsFaulting, IsOnlyNext}
use Rattle.path_run.proofs.Somes.{Any-cases, Any-one, All-both}
use Rattle.path_run.proofs.Steps.{most_of, most_one, least_of}
use Rattle.path_run.proofs.Walks.{eqb_flips, runs_after, taken_from}
use Rattle.path_run.proofs.Showing.{WentTo, went_to, Ended, ended}
use Rattle.path_run.proofs.LeakLaws.{short_node, at_none, at_some, flag_never}
use Rattle.path_run.proofs.EnteringLaws.{placed_again}
use Rattle.path_run.proofs.ClosingLaws.{no_distinct}
use Rattle.path_run.proofs.Bridging.{HaveValues, pair_always}

-- a step, from what it says of each pair and in number
pub stepped_by : (job : Job) (c : Course) (e d : ℕ) (kept : List ℕ) → length c.at.items < job.bound → AreLeaksKnown job c →
    ((pair : Pair) (next : ℕ) → GoesTo job c.at.items pair next → Contains kept next ⊎ IsLeft job c.listed.items pair) →
    ((pair : Pair) → Follows job pair c.at.items → EndsHere job c.at.items pair → 1 ≤ e) →
    IsDistinct eqb kept → length kept ≤ 256 → e ≤ 1 → d ≤ 3 →
    e + sum_by (λ n. share job (c.at.items ++ n ∷ [])) kept ≤ share job c.at.items + d →
    IsStepped job c.path.leaked c.at.items c.found.items c.listed.items e d kept
stepped_by job c e d kept short leaks goes over distinct few few_ends few_doubts most = record {
  covers = taken_from job c.path.leaked c.at.items c.found.items c.listed.items kept short leaks (λ pair next on. elim (goes pair next on) [ inl there ↦ inl there | inr left ↦ inr left.0 ]);
  distinct = distinct;
  few = few;
  few_ends = few_ends;
  few_doubts = few_doubts;
  inside = λ _. short;
  most = most;
  least = λ none. least_of job c.at.items kept e short over (λ pair next on. elim (goes pair next on) [ inl there ↦ there | inr left ↦ absurd (left.1 none) ]);
}

none_in : {X : Type 0} (P : X → Type 0) → Any P [] → ⊥
none_in P (k, x, below, at, h) = absurd (omega (arith, below))

-- nothing is left to be asked about
pub stepped_kept : (job : Job) (c : Course) (node : PathNode) (kept : List ℕ) (e d : ℕ) (rest : List NextIf) → rest ≡ [] → IsSplit job c node → IsKeeping job c node kept e d rest → IsStepped job c.path.leaked c.at.items c.found.items c.listed.items e d kept
stepped_kept job c node kept e d rest empty h k =
    stepped_by job c e d kept h.short h.leaks goes k.over k.distinct (omega (arith, k.few)) k.few_ends (omega (arith, k.parts, k.few_end_doubts, k.few_next_doubts))
    (omega (arith, k.parts, most_of job c.at.items kept e k.end_doubts k.next_doubts k.distinct k.most_ends k.most_nexts))
  where
    goes : (pair : Pair) (next : ℕ) → GoesTo job c.at.items pair next → Contains kept next ⊎ IsLeft job c.listed.items pair
    goes pair next on = by (k.goes pair next on)
      where
        by : IsKept job c.listed.items kept rest pair next → Contains kept next ⊎ IsLeft job c.listed.items pair
        by (inl there) = inl there
        by (inr (inl later)) = absurd (none_in (λ (one : NextIf). one.next ≡ next) (subst (λ xs. Any (λ (one : NextIf). one.next ≡ next) xs) empty later))
        by (inr (inr left)) = inr left

-- pairs of elements of a front
AllPairs-front : {X : Type 0} (R : X → X → Type 0) (xs ys : List X) → AllPairs R (xs ++ ys) → AllPairs R xs
AllPairs-front R xs ys h i j d below inside =
    subst (λ y. R (get_or xs i d) y) (get_or_append_left xs ys d j inside)
    (subst (λ x. R x (get_or (xs ++ ys) j d)) (get_or_append_left xs ys d i (omega (arith, below, inside))) (h i j d below (omega (arith, inside, length-append xs ys))))

-- each element of a front with the one after it
AllPairs-last : {X : Type 0} (R : X → X → Type 0) (xs : List X) (y : X) → AllPairs R (xs ++ y ∷ []) → All (λ x. R x y) xs
AllPairs-last R xs y h i d inside =
    let zero_is : length xs - length xs ≡ 0 = omega arith in
    subst (λ z. R (get_or xs i d) z) (get_or-append_right xs (y ∷ []) (length xs) (length xs) d refl (omega arith) ∙ ap (λ k. get_or (y ∷ []) k d) zero_is)
    (subst (λ x. R x (get_or (xs ++ y ∷ []) (length xs) d)) (get_or_append_left xs (y ∷ []) d i inside) (h i (length xs) d inside (omega (arith, length_push xs y))))

pub open_front : (job : Job) (node : PathNode) (rest : List NextIf) (one : NextIf) → AreOpen job node (rest ++ one ∷ []) → AreOpen job node rest
open_front job node rest one o = record {
  tell = (All-both (λ (x : NextIf). Tells node.nodes x.when.0 (λ v. LeftGoes (next_steps job node.here v) x.next)) rest (one ∷ []) o.tell).0;
  apart = AllPairs-front (λ (a b : NextIf). a.next ≢ b.next) rest (one ∷ []) o.apart;
  can = (All-both (λ (x : NextIf). CanGo node x.next) rest (one ∷ []) o.can).0;
}

-- a next to which no pair goes is dropped
pub keeping_drop : (job : Job) (c : Course) (node : PathNode) (kept : List ℕ) (e d : ℕ) (rest : List NextIf) (one : NextIf) → IsKeeping job c node kept e d (rest ++ one ∷ []) →
    ((pair : Pair) → GoesTo job c.at.items pair one.next → ⊥) → IsKeeping job c node kept e d rest
keeping_drop job c node kept e d rest one k none = record {
  todo = open_front job node rest one k.todo;
  goes = goes;
  over = k.over;
  can = k.can;
  distinct = k.distinct;
  apart = All-weaker (λ n. All (λ (o : NextIf). o.next ≢ n) (rest ++ one ∷ [])) (λ n. All (λ (o : NextIf). o.next ≢ n) rest) (λ n h. (All-both (λ (o : NextIf). o.next ≢ n) rest (one ∷ []) h).0) kept k.apart;
  few = omega (arith, k.few, length_push rest one);
  few_ends = k.few_ends;
  end_doubts = k.end_doubts;
  next_doubts = k.next_doubts;
  parts = k.parts;
  few_end_doubts = k.few_end_doubts;
  few_next_doubts = omega (arith, k.few_next_doubts, length_push rest one);
  most_ends = k.most_ends;
  most_nexts = k.most_nexts;
}
  where
    goes : (pair : Pair) (next : ℕ) → GoesTo job c.at.items pair next → IsKept job c.listed.items kept rest pair next
    goes pair next on = by (k.goes pair next on)
      where
        last : Any (λ (o : NextIf). o.next ≡ next) (one ∷ []) → ⊥
        last a = none pair (subst (λ n. GoesTo job c.at.items pair n) (sym (Any-one (λ (o : NextIf). o.next ≡ next) one a)) on)

        by : IsKept job c.listed.items kept (rest ++ one ∷ []) pair next → IsKept job c.listed.items kept rest pair next
        by (inl there) = inl there
        by (inr (inl a)) = elim (Any-cases (λ (o : NextIf). o.next ≡ next) rest (one ∷ []) a) [ inl earlier ↦ inr (inl earlier) | inr here ↦ absurd (last here) ]
        by (inr (inr left)) = inr (inr left)

apart_recursion : (n : ℕ) (xs : List ℕ) → All (λ x. n ≢ x) xs → AllByRecursion (λ x. eqb n x ≡ false) xs
apart_recursion n [] h = tt
apart_recursion n (x ∷ xs) h =
    (elim (eqb_tells n x) [ inl (_, e) ↦ absurd (h 0 0 (omega arith) e) | inr (apart, _) ↦ apart ], apart_recursion n xs (λ k d below. h (suc k) d (omega (arith, below))))

-- different numbers and another one
pub distinct_push : (xs : List ℕ) (n : ℕ) → IsDistinct eqb xs → All (λ x. n ≢ x) xs → IsDistinct eqb (xs ++ n ∷ [])
distinct_push xs n d h =
    IsDistinct-IsPermutation eqb eqb_flips (n ∷ xs) (xs ++ n ∷ []) (IsPermutation-sym (xs ++ n ∷ []) (n ∷ xs) (IsPermutation-to_front xs n)) (IsDistinct-cons eqb n xs (apart_recursion n xs h) d)

-- a next to which some pair goes, or whose question was left open, is kept
pub keeping_keep : (job : Job) (c : Course) (node : PathNode) (kept : List ℕ) (e d more : ℕ) (rest : List NextIf) (one : NextIf) → IsKeeping job c node kept e d (rest ++ one ∷ []) → more ≤ 1 →
    share job (c.at.items ++ one.next ∷ []) ≤ weight job (c.at.items ++ one.next ∷ []) + more → IsKeeping job c node (kept ++ one.next ∷ []) e (d + more) rest
keeping_keep job c node kept e d more rest one k small counts = record {
  todo = open_front job node rest one k.todo;
  goes = goes;
  over = k.over;
  can = All-append (CanGo node) kept (one.next ∷ []) k.can (All-cons (CanGo node) one.next [] last_can (All-nil (CanGo node)));
  distinct = distinct_push kept one.next k.distinct (All-weaker (λ n. All (λ (o : NextIf). o.next ≢ n) (rest ++ one ∷ [])) (λ n. one.next ≢ n) (λ n h. last_of (λ (o : NextIf). o.next ≢ n) h) kept k.apart);
  apart = All-append (λ n. All (λ (o : NextIf). o.next ≢ n) rest) kept (one.next ∷ []) (All-weaker (λ n. All (λ (o : NextIf). o.next ≢ n) (rest ++ one ∷ [])) (λ n. All (λ (o : NextIf). o.next ≢ n) rest) (λ n h. (All-both (λ (o : NextIf). o.next ≢ n) rest (one ∷ []) h).0) kept k.apart) (All-cons (λ n. All (λ (o : NextIf). o.next ≢ n) rest) one.next [] (AllPairs-last (λ (a b : NextIf). a.next ≢ b.next) rest one k.todo.apart) (All-nil (λ n. All (λ (o : NextIf). o.next ≢ n) rest)));
  few = omega (arith, k.few, length_push rest one, length_push kept one.next);
  few_ends = k.few_ends;
  end_doubts = k.end_doubts;
  next_doubts = k.next_doubts + more;
  parts = omega (arith, k.parts);
  few_end_doubts = k.few_end_doubts;
  few_next_doubts = omega (arith, k.few_next_doubts, length_push rest one, small);
  most_ends = k.most_ends;
  most_nexts = omega (arith, k.most_nexts, counts, sum_by_push (λ n. share job (c.at.items ++ n ∷ [])) kept one.next, sum_by_push (λ n. weight job (c.at.items ++ n ∷ [])) kept one.next);
}
  where
    last_of : (P : NextIf → Type 0) → All P (rest ++ one ∷ []) → P one
    last_of P h = (All-both P rest (one ∷ []) h).1 0 one (omega arith)

    last_can : CanGo node one.next
    last_can = last_of (λ (o : NextIf). CanGo node o.next) k.todo.can

    goes : (pair : Pair) (next : ℕ) → GoesTo job c.at.items pair next → IsKept job c.listed.items (kept ++ one.next ∷ []) rest pair next
    goes pair next on = by (k.goes pair next on)
      where
        here : Any (λ (o : NextIf). o.next ≡ next) (one ∷ []) → Contains (kept ++ one.next ∷ []) next
        here a = subst (λ n. Contains (kept ++ one.next ∷ []) n) (Any-one (λ (o : NextIf). o.next ≡ next) one a) (Contains-push kept one.next)

        by : IsKept job c.listed.items kept (rest ++ one ∷ []) pair next → IsKept job c.listed.items (kept ++ one.next ∷ []) rest pair next
        by (inl there) = inl (Contains-append_left kept (one.next ∷ []) next there)
        by (inr (inl a)) = elim (Any-cases (λ (o : NextIf). o.next ≡ next) rest (one ∷ []) a) [ inl earlier ↦ inr (inl earlier) | inr last ↦ inl (here last) ]
        by (inr (inr left)) = inr (inr left)

-- nothing is kept yet
pub keeping_new : (job : Job) (c : Course) (node : PathNode) (e d : ℕ) (kept : List ℕ) (rest : List NextIf) → kept ≡ [] → AreOpen job node rest → length rest ≤ 2 →
    ((pair : Pair) (next : ℕ) → GoesTo job c.at.items pair next → Any (λ (one : NextIf). one.next ≡ next) rest) →
    ((pair : Pair) → Follows job pair c.at.items → EndsHere job c.at.items pair → 1 ≤ e) →
    e ≤ 1 → d ≤ 1 → e ≤ times job c.at.items + d → IsKeeping job c node kept e d rest
keeping_new job c node e d kept rest empty todo few goes over few_ends few_doubts most = subst (λ xs. IsKeeping job c node xs e d rest) (sym empty) keeping
  where
    keeping : IsKeeping job c node [] e d rest
    keeping = record {
      todo = todo;
      goes = λ pair next on. inr (inl (goes pair next on));
      over = over;
      can = All-nil (CanGo node);
      distinct = no_distinct;
      apart = All-nil (λ n. All (λ (o : NextIf). o.next ≢ n) rest);
      few = omega (arith, few);
      few_ends = few_ends;
      end_doubts = d;
      next_doubts = 0;
      parts = omega arith;
      few_end_doubts = few_doubts;
      few_next_doubts = omega (arith, few);
      most_ends = most;
      most_nexts = omega arith;
    }

-- where the step can go, the node can be followed
pub can_go : (node : PathNode) (stride : Stride) (next : ℕ) → IsFound node stride → stride.target ≡ None → Any (λ (one : NextIf). one.next ≡ next) stride.nexts → CanGo node next
can_go node stride next f none listed =
    subst (λ o. MatchOption o ⊥ (λ last. CanGoBy last next)) (sym f.is)
    (subst (λ o. MatchOption o (Any (λ (one : NextIf). one.next ≡ next) f.last.nexts) (λ _. Unit {0})) (sym (f.target ∙ none)) (subst (λ xs. Any (λ (one : NextIf). one.next ≡ next) xs) (sym f.nexts) listed))

pub can_jump : (node : PathNode) (stride : Stride) (target : ExprId) → IsFound node stride → stride.target ≡ Some target → (next : ℕ) → CanGo node next
can_jump node stride target f some next =
    subst (λ o. MatchOption o ⊥ (λ last. CanGoBy last next)) (sym f.is)
    (subst (λ o. MatchOption o (Any (λ (one : NextIf). one.next ≡ next) f.last.nexts) (λ _. Unit {0})) (sym (f.target ∙ some)) tt)

-- the nexts that a stride lists
pub nexts_listed : (job : Job) (c : Course) (node : PathNode) (stride : Stride) → IsAtStep job c node stride → stride.target ≡ None → AreNexts node.nodes (next_steps job node.here) stride.nexts
nexts_listed job c node stride h none = at_none stride.target _ _ none h.shows.goes

pub stride_open : (job : Job) (c : Course) (node : PathNode) (stride : Stride) → IsAtStep job c node stride → stride.target ≡ None → AreOpen job node stride.nexts
stride_open job c node stride h none =
    let n = nexts_listed job c node stride h none in
    record {
      tell = n.tell;
      apart = n.apart;
      can = λ k one below. can_go node stride (get_or stride.nexts k one).next h.found none (k, get_or stride.nexts k one, below, get_or_same stride.nexts k one (get_or stride.nexts k one) below, refl);
    }
  where
    get_or_same : (xs : List NextIf) (k : ℕ) (d e : NextIf) → k < length xs → get_or xs k e ≡ get_or xs k d
    get_or_same [] k d e below = absurd (omega (arith, below))
    get_or_same (x ∷ xs) zero d e below = refl
    get_or_same (x ∷ xs) (suc k) d e below = get_or_same xs k d e (omega (arith, below))

-- a pair goes to one of them
pub goes_listed : (job : Job) (c : Course) (node : PathNode) (stride : Stride) → IsAtStep job c node stride → HaveValues node.nodes → stride.target ≡ None →
    (pair : Pair) (next : ℕ) → GoesTo job c.at.items pair next → Any (λ (one : NextIf). one.next ≡ next) stride.nexts
goes_listed job c node stride h values none pair next on =
    let n = nexts_listed job c node stride h none in
    let w = went_to job pair node.path next (subst (λ t. GoesTo job t pair next) (sym h.placed.path) on) in
    pair_always job node (λ runs. LeftGoes runs next → Any (λ (one : NextIf). one.next ≡ next) stride.nexts) h.placed.stands values (n.all next) pair w.follows w.goes

-- a pair that ends here is refused
pub ends_refused : (job : Job) (c : Course) (node : PathNode) → node.path ≡ c.at.items → length c.at.items < job.bound → IsNode job node → HaveValues node.nodes → Always node.nodes (λ v. ShowAt node.here.pc (next_steps job node.here v)) →
    (pair : Pair) → Follows job pair c.at.items → EndsHere job c.at.items pair → Ended job pair node.path × LeftFaults (runs_after job pair node.path)
ends_refused job c node same short stands values show pair f over =
    let g : Follows job pair node.path = subst (λ t. Follows job pair t) (sym same) f in
    let e = ended job pair node.path (short_node job c node same short) g (subst (λ t. EndsHere job t pair) (sym same) over) in
    (e, refused e (pair_always job node (λ runs. ShowAt node.here.pc runs) stands values show pair g false))
  where
    by_next : (seen : Record) (o : Option ℕ) → Ended job pair node.path → (runs_after job pair node.path false).seen ≡ Some seen → seen.next ≡ o → LeftFaults (runs_after job pair node.path)
    by_next seen None e is none = (seen, is, none)
    by_next seen (Some n) e is some = absurd (e.nowhere n (seen, is, some))

    refused : Ended job pair node.path → (seen : Record) × ((runs_after job pair node.path false).seen ≡ Some seen) × (seen.pc ≡ node.here.pc) → LeftFaults (runs_after job pair node.path)
    refused e (seen, is, _) = by_next seen seen.next e is refl

-- where no access is refused, no pair ends here
pub never_over : (job : Job) (c : Course) (node : PathNode) (stride : Stride) (e : ℕ) → IsAtStep job c node stride → HaveValues node.nodes → Always node.nodes (λ v. LeftFaults (next_steps job node.here v) → ⊥) →
    (pair : Pair) → Follows job pair c.at.items → EndsHere job c.at.items pair → 1 ≤ e
never_over job c node stride e h values never pair f over =
    let (_, refused) = ends_refused job c node h.placed.path h.short h.placed.stands values h.shows.show pair f over in
    absurd (pair_always job node (λ runs. LeftFaults runs → ⊥) h.placed.stands values never pair (subst (λ t. Follows job pair t) (sym h.placed.path) f) refused)

fault_or_go : (runs : Bool → Transition) (next : ℕ) → LeftFaults runs → LeftGoes runs next → ⊥
fault_or_go runs next (a, p, none) (b, q, some) = apart next (sym none ∙ ap (λ (r : Record). r.next) (same_Some a b (sym p ∙ q)) ∙ some)
  where
    apart : (n : ℕ) → None ≡ Some n → ⊥
    apart n e = cc

-- where each access is refused, all pairs end here
pub stepped_refused : (job : Job) (c : Course) (node : PathNode) (stride : Stride) (kept : List ℕ) → kept ≡ [] → IsAtStep job c node stride → HaveValues node.nodes → AreLeaksKnown job c → Always node.nodes (λ v. LeftFaults (next_steps job node.here v)) →
    IsStepped job c.path.leaked c.at.items c.found.items c.listed.items 1 0 kept
stepped_refused job c node stride kept empty h values leaks refused =
    subst (λ xs. IsStepped job c.path.leaked c.at.items c.found.items c.listed.items 1 0 xs) (sym empty)
    (stepped_by job c 1 0 [] h.short leaks goes (λ _ _ _. omega arith) no_distinct (omega arith) (omega arith) (omega arith) (omega (arith, le-max_left 1 (weight job c.at.items))))
  where
    goes : (pair : Pair) (next : ℕ) → GoesTo job c.at.items pair next → Contains [] next ⊎ IsLeft job c.listed.items pair
    goes pair next on =
        let w = went_to job pair node.path next (subst (λ t. GoesTo job t pair next) (sym h.placed.path) on) in
        absurd (fault_or_go (runs_after job pair node.path) next (pair_always job node LeftFaults h.placed.stands values refused pair w.follows) w.goes)

-- where all pairs that go on go to one next
pub stepped_only : (job : Job) (c : Course) (node : PathNode) (stride : Stride) (next : ℕ) (kept : List ℕ) → kept ≡ next ∷ [] → IsAtStep job c node stride → HaveValues node.nodes → AreLeaksKnown job c →
    Always node.nodes (λ v. LeftFaults (next_steps job node.here v) → ⊥) → IsOnlyNext node.nodes (next_steps job node.here) stride.nexts next →
    IsStepped job c.path.leaked c.at.items c.found.items c.listed.items 0 0 kept
stepped_only job c node stride next kept is h values leaks allowed only =
    subst (λ xs. IsStepped job c.path.leaked c.at.items c.found.items c.listed.items 0 0 xs) (sym is)
    (stepped_by job c 0 0 (next ∷ []) h.short leaks goes (never_over job c node stride 0 h values allowed) (distinct_push [] next no_distinct (All-nil (λ x. next ≢ x))) (omega arith) (omega arith) (omega arith) (omega (arith, most_one job c.at.items next, sum_by-cons (λ n. share job (c.at.items ++ n ∷ [])) next [])))
  where
    goes : (pair : Pair) (n : ℕ) → GoesTo job c.at.items pair n → Contains (next ∷ []) n ⊎ IsLeft job c.listed.items pair
    goes pair n on =
        let w = went_to job pair node.path n (subst (λ t. GoesTo job t pair n) (sym h.placed.path) on) in
        let same : n ≡ next = pair_always job node (λ runs. (other : ℕ) → LeftGoes runs other → other ≡ next) h.placed.stands values only.alone pair w.follows n w.goes in
        inl (0, omega arith, sym same)

-- a list of one next
pub only_one : (job : Job) (node : PathNode) (nexts : List NextIf) (one : NextIf) → nexts ≡ one ∷ [] → AreNexts node.nodes (next_steps job node.here) nexts → IsOnlyNext node.nodes (next_steps job node.here) nexts one.next
only_one job node nexts one is n = record {
  listed = subst (λ xs. Any (λ (o : NextIf). o.next ≡ one.next) xs) (sym is) (0, one, omega arith, refl, refl);
  alone = λ env v bytes at other goes. sym (Any-one (λ (o : NextIf). o.next ≡ other) one (subst (λ xs. Any (λ (o : NextIf). o.next ≡ other) xs) is (n.all other env v bytes at goes)));
}

pub same_next : (runs : Bool → Transition) (m n : ℕ) → LeftGoes runs m → LeftGoes runs n → m ≡ n
same_next runs m n (a, p, some) (b, q, other) = same_Some m n (sym some ∙ ap (λ (r : Record). r.next) (same_Some a b (sym p ∙ q)) ∙ other)

pub none_popped : {X : Type 0} (xs : List X) → length xs ≡ 0 → xs ≡ []
none_popped [] e = refl
none_popped (x ∷ xs) e = absurd (omega (arith, e))

-- the same at a node with the same path
pub split_again : (job : Job) (c : Course) (node later : PathNode) → IsSplit job c node → IsNode job later → later.path ≡ node.path → IsSplit job c later
split_again job c node later h stands same = record { placed = placed_again job c node later h.placed stands same; short = h.short; leaks = h.leaks }

-- a next that is never taken
pub never_goes : (job : Job) (c : Course) (node : PathNode) (one : NextIf) → IsSplit job c node → HaveValues node.nodes → Tells node.nodes one.when.0 (λ v. LeftGoes (next_steps job node.here v) one.next) → Always node.nodes (λ v. v one.when.0 ≡ 0) →
    (pair : Pair) → GoesTo job c.at.items pair one.next → ⊥
never_goes job c node one h values tells never pair on =
    let w = went_to job pair node.path one.next (subst (λ t. GoesTo job t pair one.next) (sym h.placed.path) on) in
    pair_always job node (λ runs. LeftGoes runs one.next → ⊥) h.placed.stands values (λ env v bytes at. flag_never (v one.when.0) (LeftGoes (next_steps job node.here v) one.next) (tells.flag_is env v bytes at) (never env v bytes at)) pair w.follows w.goes

pub last_open : (job : Job) (node : PathNode) (rest : List NextIf) (one : NextIf) (P : NextIf → Type 0) → All P (rest ++ one ∷ []) → P one
last_open job node rest one P h = (All-both P rest (one ∷ []) h).1 0 one (omega arith)

pub open_tells : (job : Job) (node : PathNode) (rest : List NextIf) (one : NextIf) → AreOpen job node (rest ++ one ∷ []) → Tells node.nodes one.when.0 (λ v. LeftGoes (next_steps job node.here v) one.next)
open_tells job node rest one o = last_open job node rest one (λ (x : NextIf). Tells node.nodes x.when.0 (λ v. LeftGoes (next_steps job node.here v) x.next)) o.tell

pub open_can : (job : Job) (node : PathNode) (rest : List NextIf) (one : NextIf) → AreOpen job node (rest ++ one ∷ []) → CanGo node one.next
open_can job node rest one o = last_open job node rest one (λ (x : NextIf). CanGo node x.next) o.can

-- what is kept at first, of a step whose access is never refused
pub keeping_allowed : (job : Job) (c : Course) (node : PathNode) (stride : Stride) (kept : List ℕ) (rest : List NextIf) → kept ≡ [] → rest ≡ stride.nexts → IsAtStep job c node stride → HaveValues node.nodes → stride.target ≡ None → Always node.nodes (λ v. LeftFaults (next_steps job node.here v) → ⊥) → IsKeeping job c node kept 0 0 rest
keeping_allowed job c node stride kept rest empty are h values none allowed =
    subst (λ xs. IsKeeping job c node kept 0 0 xs) (sym are)
    (keeping_new job c node 0 0 kept stride.nexts empty (stride_open job c node stride h none) (nexts_listed job c node stride h none).few (goes_listed job c node stride h values none) (never_over job c node stride 0 h values allowed) (omega arith) (omega arith) (omega arith))

-- what is known of a step whose access may be refused
pub faulting : (job : Job) (c : Course) (node : PathNode) (stride : Stride) (fault : ℕ) (rest : List NextIf) → rest ≡ stride.nexts → IsAtStep job c node stride → HaveValues node.nodes → stride.target ≡ None → Tells node.nodes fault (λ v. LeftFaults (next_steps job node.here v)) → IsFaulting job c node fault rest
faulting job c node stride fault rest are h values none tells = subst (λ xs. IsFaulting job c node fault xs) (sym are) is
  where
    is : IsFaulting job c node fault stride.nexts
    is = record {
      shows = h.shows.show;
      tells = tells;
      todo = stride_open job c node stride h none;
      few = (nexts_listed job c node stride h none).few;
      goes = goes_listed job c node stride h values none;
    }

pub split_of : (job : Job) (c : Course) (node : PathNode) (stride : Stride) → IsAtStep job c node stride → AreLeaksKnown job c → IsSplit job c node
split_of job c node stride h leaks = record { placed = h.placed; short = h.short; leaks = leaks }

pub only_at : (job : Job) (node : PathNode) (xs nexts : List NextIf) (only : Option ℕ) (next : ℕ) → xs ≡ nexts → only ≡ Some next → IfSome only (IsOnlyNext node.nodes (next_steps job node.here) xs) → IsOnlyNext node.nodes (next_steps job node.here) nexts next
only_at job node xs nexts only next same is h =
    subst (λ ys. IsOnlyNext node.nodes (next_steps job node.here) ys next) same (subst (λ o. IfSome o (IsOnlyNext node.nodes (next_steps job node.here) xs)) is h)
