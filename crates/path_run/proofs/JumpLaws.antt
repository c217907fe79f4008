-- The targets of a computed jump.
use Rattle.std.proofs.Common.{◌≡◌, ◌≢◌, ◌⊎◌, ℕ, suc, zero, ◌+◌, ◌<◌, ◌≤◌, ◌==◌, if◌then◌else◌, Bool, true, false, eqb, List, [], ◌∷◌, ◌++◌, length, get_or, take, map, Option, Some, None, refl, sym, ◌∙◌, ap, subst, inl, inr, arith, slice_index}
use Rattle.std.specs.Prelude.{◌↔◌}
use Rattle.std.specs.List.{All, Any, AllPairs, Contains, IsDistinct, sum_by}
use Rattle.std.proofs.lemmas.Bool.Decides.{eqb_tells}
use Rattle.std.proofs.lemmas.List.{length_push, length-map, map-append, get_or-map}
use Rattle.std.proofs.lemmas.List.Quantifiers.{all_pairs_push}
use Rattle.std.proofs.lemmas.Map.Made.{IsDistinct-from_AllPairs}
use Rattle.std.proofs.lemmas.Bool.Decides.{Decides-eqb}
use Rattle.std.proofs.lemmas.List.Elements.{All-append, All-cons, All-nil, All-weaker, Contains-append_left, Contains-append_cases, Contains-push}
use Rattle.std.proofs.lemmas.List.Sums.{sum_by-cons}
use Rattle.ct_words.specs.Words.{flag}
use Rattle.rv_machine.specs.Step.{Transition}
use Rattle.bv_expr.specs.declared.q_node.QNode.{QNode}
use Rattle.bv_expr.specs.declared.q_node.QNode.TheVariants.{Constant}
use Rattle.bv_expr.specs.Nodes.{AreBytes, IsValuation, AreWidths, HasWidth}
use Rattle.bv_expr.specs.Growth.{Extends}
use Rattle.bv_expr.specs.Valuations.{values_of}
use Rattle.ct_pairs.specs.declared.job.Job.{Job}
use Rattle.ct_pairs.specs.declared.pair.Pair.{Pair}
use Rattle.ct_pairs.specs.Paths.{Follows}
use Rattle.ct_pairs.proofs.ValuesLemmas.{Contains-tail}
use Rattle.ct_entries.specs.declared.listed.Seen.{Seen}
use Rattle.ct_entries.specs.Entries.{GoesTo}
use Rattle.rel_step.specs.declared.here.Here.{Here}
use Rattle.rel_step.specs.Bridge.{env_of}
use Rattle.rel_step.specs.Building.{IsBuilt}
use Rattle.rel_step.specs.Runs.{Always, Tells, IsFlag}
use Rattle.rel_step.specs.Strides.{ShowSame, LeftGoes, IsTarget}
use Rattle.rel_step.specs.PathNodes.{PathNode, IsNode, CanGo, next_steps}
use Rattle.path_run.specs.declared.course.Course.{Course}
use Rattle.path_run.specs.Counting.{times, weight, share}
use Rattle.path_run.specs.Walks.{EndsHere}
use Rattle.path_run.specs.Stages.{IsSplit, AreOpen, IsLeft, IsKept, IsKeeping, IsJumping, nexts_seen}
use Rattle.path_run.proofs.Steps.{share-one}
use Rattle.path_run.proofs.Walks.{runs_after}
use Rattle.path_run.proofs.Showing.{went_to, ended}
use Rattle.path_run.proofs.LeakLaws.{short_node, flag_never}
use Rattle.path_run.proofs.OnwardLaws.{distinct_push, same_next}
use Rattle.rel_step.specs.declared.stride.NextIf.{NextIf}
use Rattle.path_run.proofs.Bridging.{HaveValues, IsAnswering, along_pair, runs_are, pair_always}

-- a number is in a list, or it isn't
pub in_or_not : (xs : List ℕ) (n : ℕ) → Contains xs n ⊎ (Contains xs n → ⊥)
in_or_not [] n = inr (λ (k, below, at). absurd (omega (arith, below)))
in_or_not (x ∷ xs) n =
    elim (eqb_tells x n) [
      | inl (_, e) ↦ inl (0, omega arith, e)
      | inr (_, apart) ↦ elim (in_or_not xs n) [ inl there ↦ inl (Contains-tail x xs n there) | inr nowhere ↦ inr (λ there. not_in apart nowhere there) ]
    ]
  where
    not_in : x ≢ n → (Contains xs n → ⊥) → Contains (x ∷ xs) n → ⊥
    not_in apart nowhere (zero, below, at) = apart at
    not_in apart nowhere (suc k, below, at) = nowhere (k, omega (arith, below), at)

-- the left run goes to none of these
abbrev pub GoesBeyond : List ℕ → (Bool → Transition) → Type 0
GoesBeyond xs runs = (next : ℕ) × LeftGoes runs next × (Contains xs next → ⊥)

flag_same : (x : ℕ) (P Q : Type 0) → (P → Q) → (Q → P) → IsFlag x P → IsFlag x Q
flag_same x P Q to back (inl (one, p)) = inl (one, to p)
flag_same x P Q to back (inr (none, n)) = inr (none, λ q. n (back q))

-- the expression that is asked about tells whether the left run goes to none of the targets that were seen
pub tells_beyond : (job : Job) (node : PathNode) (target others : ℕ) (xs : List ℕ) → IsTarget node.nodes (next_steps job node.here) [] target → Tells node.nodes others (λ v. Contains xs (v target) → ⊥) →
    Tells node.nodes others (λ v. GoesBeyond xs (next_steps job node.here v))
tells_beyond job node target others xs aims tells = record {
  width = tells.width;
  flag_is = λ env v bytes at. flag_same (v others) (Contains xs (v target) → ⊥) (GoesBeyond xs (next_steps job node.here v)) (λ beyond. (v target, aims.goes env v bytes at, beyond)) (λ (next, goes, beyond). subst (λ n. Contains xs n → ⊥) (same_next (next_steps job node.here v) next (v target) goes (aims.goes env v bytes at)) beyond) (tells.flag_is env v bytes at);
}

-- the words of an arena stay
pub width_grown : (old new : List QNode) (n i w : ℕ) → Extends old new n → HasWidth old i w → HasWidth new i w
width_grown old new n i w e h = record { inside = omega (arith, h.inside, e.least); is = λ ws are. h.is ws (e.widths ws are) }

-- a target stays one in a larger arena
pub target_grown : (job : Job) (node later : PathNode) (k target : ℕ) → Extends node.nodes later.nodes k → later.here ≡ node.here → IsTarget node.nodes (next_steps job node.here) [] target → IsTarget later.nodes (next_steps job later.here) [] target
target_grown job node later k target e same h = record {
  none = h.none;
  width = width_grown node.nodes later.nodes k target 32 e h.width;
  goes = λ env v bytes at. subst (λ (here : Here). LeftGoes (next_steps job here v) (v target)) (sym same) (h.goes env v bytes (e.values env v at));
}

no_pairs : {X : Type 0} (R : X → X → Type 0) → AllPairs R []
no_pairs R i j d below inside = absurd (omega (arith, inside))

none_seen : (n : ℕ) → Contains [] n → ⊥
none_seen n (k, below, at) = absurd (omega (arith, below))

-- no target was seen yet
pub jumping_new : (job : Job) (c : Course) (node later : PathNode) (k target others : ℕ) (seen : List Seen) → seen ≡ [] → Extends node.nodes later.nodes k → later.here ≡ node.here → later.last ≡ node.last → IsTarget node.nodes (next_steps job node.here) [] target →
    IsBuilt later.nodes others (Constant 1 1) → ((next : ℕ) → CanGo node next) → IsJumping job c later target others seen
jumping_new job c node later k target others seen empty e here last aims built can = subst (λ xs. IsJumping job c later target others xs) (sym empty) jumping
  where
    jumping : IsJumping job c later target others []
    jumping = record {
      aims = target_grown job node later k target e here aims;
      tells = record {
        width = record { inside = built.inside; is = built.width };
        flag_is = λ env v bytes at. inl (built.value env v at, λ there. none_seen (v target) there);
      };
      each = All-nil (λ (one : Seen). GoesTo job c.at.items one.pair one.next);
      apart = no_pairs (λ (a b : Seen). a.next ≢ b.next);
      few = omega arith;
      can = λ next. can_again next;
    }
      where
        can_again : (next : ℕ) → CanGo later next
        can_again next = rw last (can next)

-- the value of one bit and the negation of an equation
abbrev pub but_value : ℕ → ℕ → ℕ → ℕ
but_value x t n = if x == 0 then 0 else flag (flag (t == n) == 0)

but_flag : (x t n : ℕ) (P : Type 0) → IsFlag x P → IsFlag (but_value x t n) (P × (n ≢ t))
but_flag x t n P (inr (none, not)) = inr (ap (λ y. but_value y t n) none, λ (p, _). not p)
but_flag x t n P (inl (one, p)) =
    elim (eqb_tells t n) [
      | inl (same, e) ↦ inr (ap (λ y. but_value y t n) one ∙ ap (λ b. flag (flag b == 0)) same, λ (_, apart). apart (sym e))
      | inr (other, apart) ↦ inl (ap (λ y. but_value y t n) one ∙ ap (λ b. flag (flag b == 0)) other, (p, λ e. apart (sym e)))
    ]

beyond_push : (xs : List ℕ) (n t : ℕ) → (Contains xs t → ⊥) × (n ≢ t) → Contains (xs ++ n ∷ []) t → ⊥
beyond_push xs n t (beyond, apart) there = by (Contains-append_cases xs (n ∷ []) t there)
  where
    by : Contains xs t ⊎ Contains (n ∷ []) t → ⊥
    by (inl old) = beyond old
    by (inr (k, below, at)) = let z : k ≡ 0 = omega (arith, below) in apart (sym (ap (λ j. get_or (n ∷ []) j t) z) ∙ at)

beyond_back : (xs : List ℕ) (n t : ℕ) → (Contains (xs ++ n ∷ []) t → ⊥) → (Contains xs t → ⊥) × (n ≢ t)
beyond_back xs n t beyond = (λ there. beyond (Contains-append_left xs (n ∷ []) t there), λ e. beyond (subst (λ m. Contains (xs ++ n ∷ []) m) e (Contains-push xs n)))

nexts_push : (seen : List Seen) (one : Seen) → nexts_seen (seen ++ one ∷ []) ≡ nexts_seen seen ++ one.next ∷ []
nexts_push seen one = map-append (λ (s : Seen). s.next) seen (one ∷ [])

in_seen : (seen : List Seen) (k : ℕ) (d : Seen) → k < length seen → Contains (nexts_seen seen) (get_or seen k d).next
in_seen seen k d below = (k, omega (arith, below, length-map seen (λ (s : Seen). s.next)), get_or-map (λ (s : Seen). s.next) seen k d (get_or seen k d).next below)

-- one more target was seen
pub jumping_more : (job : Job) (c : Course) (node later : PathNode) (k target others more : ℕ) (seen : List Seen) (one : Seen) → IsJumping job c node target others seen → Extends node.nodes later.nodes k → later.here ≡ node.here → later.last ≡ node.last →
    HasWidth later.nodes more 1 → ((env v : ℕ → ℕ) → IsValuation env v later.nodes → v more ≡ but_value (v others) (v target) one.next) →
    length seen ≤ job.targets → GoesTo job c.at.items one.pair one.next → (Contains (nexts_seen seen) one.next → ⊥) → IsJumping job c later target more (seen ++ one ∷ [])
jumping_more job c node later k target others more seen one h e here last width value few goes new = record {
  aims = target_grown job node later k target e here h.aims;
  tells = record {
    width = width;
    flag_is = λ env v bytes at. subst (λ x. IsFlag x (Contains (nexts_seen (seen ++ one ∷ [])) (v target) → ⊥)) (sym (value env v at)) (flag_more v (h.tells.flag_is env v bytes (e.values env v at)));
  };
  each = All-append (λ (s : Seen). GoesTo job c.at.items s.pair s.next) seen (one ∷ []) h.each (All-cons (λ (s : Seen). GoesTo job c.at.items s.pair s.next) one [] goes (All-nil (λ (s : Seen). GoesTo job c.at.items s.pair s.next)));
  apart = all_pairs_push (λ (a b : Seen). a.next ≢ b.next) seen one h.apart (λ i d below same. new (subst (λ n. Contains (nexts_seen seen) n) same (in_seen seen i d below)));
  few = omega (arith, few, length_push seen one);
  can = λ next. can_again next;
}
  where
    can_again : (next : ℕ) → CanGo later next
    can_again next = rw last (h.can next)

    flag_more : (v : ℕ → ℕ) → IsFlag (v others) (Contains (nexts_seen seen) (v target) → ⊥) → IsFlag (but_value (v others) (v target) one.next) (Contains (nexts_seen (seen ++ one ∷ [])) (v target) → ⊥)
    flag_more v f =
        flag_same (but_value (v others) (v target) one.next) ((Contains (nexts_seen seen) (v target) → ⊥) × (one.next ≢ v target)) (Contains (nexts_seen (seen ++ one ∷ [])) (v target) → ⊥)
        (λ both there. beyond_push (nexts_seen seen) one.next (v target) both (subst (λ xs. Contains xs (v target)) (nexts_push seen one) there))
        (λ beyond. beyond_back (nexts_seen seen) one.next (v target) (λ there. beyond (subst (λ xs. Contains xs (v target)) (sym (nexts_push seen one)) there)))
        (but_flag (v others) (v target) one.next (Contains (nexts_seen seen) (v target) → ⊥) f)

-- where the step goes somewhere, no pair ends here
pub jump_not_over : (job : Job) (c : Course) (node : PathNode) (target others e : ℕ) (seen : List Seen) → IsSplit job c node → HaveValues node.nodes → IsJumping job c node target others seen →
    (pair : Pair) → Follows job pair c.at.items → EndsHere job c.at.items pair → 1 ≤ e
jump_not_over job c node target others e seen h values j pair f over =
    let g : Follows job pair node.path = subst (λ t. Follows job pair t) (sym h.placed.path) f in
    let a = along_pair job node pair values g in
    let is = ended job pair node.path (short_node job c node h.placed.path h.short) g (subst (λ t. EndsHere job t pair) (sym h.placed.path) over) in
    let v : ℕ → ℕ = slice_index (values_of (env_of job pair) node.nodes) in
    absurd (is.nowhere (v target) (subst (λ runs. LeftGoes runs (v target)) (runs_are job node (env_of job pair) v pair h.placed.stands a) (j.aims.goes (env_of job pair) v a.bytes a.valuation)))

sum_most : (f g : ℕ → ℕ) (xs : List ℕ) → All (λ x. f x ≤ g x) xs → sum_by f xs ≤ sum_by g xs
sum_most f g [] h = omega arith
sum_most f g (x ∷ xs) h =
    let first : f x ≤ g x = h 0 0 (omega arith) in
    omega (arith, first, sum_by-cons f x xs, sum_by-cons g x xs, sum_most f g xs (λ k d below. h (suc k) d (omega (arith, below))))

pub distinct_seen : (seen : List Seen) → AllPairs (λ (a b : Seen). a.next ≢ b.next) seen → AllPairs ◌≢◌ (nexts_seen seen)
distinct_seen seen h i j d below inside same =
    let in_j : j < length seen = omega (arith, inside, length-map seen (λ (s : Seen). s.next)) in
    let in_i : i < length seen = omega (arith, below, in_j) in
    by (first_of seen in_j) in_i in_j
  where
    first_of : (xs : List Seen) → j < length xs → Seen
    first_of [] below = absurd (omega (arith, below))
    first_of (x ∷ xs) below = x

    by : Seen → i < length seen → j < length seen → ⊥
    by x in_i in_j =
        h i j x below in_j (sym (get_or-map (λ (s : Seen). s.next) seen i x d in_i) ∙ same ∙ get_or-map (λ (s : Seen). s.next) seen j x d in_j)

-- only nexts to which pairs go are kept, and nothing is to be asked about
pub keeping_only : (job : Job) (c : Course) (node : PathNode) (kept : List ℕ) (e d : ℕ) (rest : List NextIf) → rest ≡ [] → e ≡ 0 → d ≡ 0 → length c.at.items < job.bound → AllPairs ◌≢◌ kept → length kept ≤ 256 →
    All (λ next. (pair : Pair) × GoesTo job c.at.items pair next) kept → ((next : ℕ) → CanGo node next) →
    ((pair : Pair) (next : ℕ) → GoesTo job c.at.items pair next → Contains kept next ⊎ IsLeft job c.listed.items pair) →
    ((pair : Pair) → Follows job pair c.at.items → EndsHere job c.at.items pair → 1 ≤ e) → IsKeeping job c node kept e d rest
keeping_only job c node kept e d rest empty no_end no_doubt short apart few each can goes over = subst (λ xs. IsKeeping job c node kept e d xs) (sym empty) keeping
  where
    shares : (next : ℕ) → (pair : Pair) × GoesTo job c.at.items pair next → share job (c.at.items ++ next ∷ []) ≤ weight job (c.at.items ++ next ∷ [])
    shares next (pair, on) = share-one job c.at.items next pair on short

    keeping : IsKeeping job c node kept e d []
    keeping = record {
      todo = record {
        tell = All-nil (λ (one : NextIf). Tells node.nodes one.when.0 (λ v. LeftGoes (next_steps job node.here v) one.next));
        apart = no_pairs (λ (a b : NextIf). a.next ≢ b.next);
        can = All-nil (λ (one : NextIf). CanGo node one.next);
      };
      goes = λ pair next on. elim (goes pair next on) [ inl there ↦ inl there | inr left ↦ inr (inr left) ];
      over = over;
      can = λ k x below. can (get_or kept k x);
      distinct = IsDistinct-from_AllPairs (λ a b. Decides-eqb a b) kept apart;
      apart = λ k x below. All-nil (λ (one : NextIf). one.next ≢ get_or kept k x);
      few = omega (arith, few);
      few_ends = omega (arith, no_end);
      end_doubts = 0;
      next_doubts = 0;
      parts = omega (arith, no_doubt);
      few_end_doubts = omega arith;
      few_next_doubts = omega arith;
      most_ends = omega (arith, no_end);
      most_nexts = omega (arith, sum_most (λ n. share job (c.at.items ++ n ∷ [])) (λ n. weight job (c.at.items ++ n ∷ [])) kept (All-weaker (λ next. (pair : Pair) × GoesTo job c.at.items pair next) (λ n. share job (c.at.items ++ n ∷ []) ≤ weight job (c.at.items ++ n ∷ [])) shares kept each));
    }

-- a pair that goes on goes to one of the targets that were seen, or beyond them
pub goes_beyond : (job : Job) (c : Course) (node : PathNode) (xs : List ℕ) (pair : Pair) (next : ℕ) → IsSplit job c node → GoesTo job c.at.items pair next → Contains xs next ⊎ IsAnswering job node.path true (GoesBeyond xs) pair
goes_beyond job c node xs pair next h on =
    let w = went_to job pair node.path next (subst (λ t. GoesTo job t pair next) (sym h.placed.path) on) in
    elim (in_or_not xs next) [ inl there ↦ inl there | inr beyond ↦ inr (record { follows = w.follows; same = λ _. w.same; holds = (next, w.goes, beyond) }) ]

-- where the expression is never true, no pair goes beyond
pub never_beyond : (job : Job) (c : Course) (node : PathNode) (target others : ℕ) (seen : List Seen) → IsSplit job c node → HaveValues node.nodes → IsJumping job c node target others seen → Always node.nodes (λ v. v others ≡ 0) →
    (pair : Pair) → IsAnswering job node.path true (GoesBeyond (nexts_seen seen)) pair → ⊥
never_beyond job c node target others seen h values j never pair a =
    let tells = tells_beyond job node target others (nexts_seen seen) j.aims j.tells in
    pair_always job node (λ runs. GoesBeyond (nexts_seen seen) runs → ⊥) h.placed.stands values (λ env v bytes at. flag_never (v others) (GoesBeyond (nexts_seen seen) (next_steps job node.here v)) (tells.flag_is env v bytes at) (never env v bytes at)) pair a.follows a.holds
