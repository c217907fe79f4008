-- Control paths that are taken again, and those that no pair follows.
use Rattle.std.proofs.Common.{◌≡◌, ◌≢◌, ◌⊎◌, ℕ, suc, zero, ◌+◌, ◌*◌, ◌<◌, ◌≤◌, Bool, true, false, List, [], ◌∷◌, ◌++◌, length, get_or, take, drop, map, Option, Some, None, refl, sym, ◌∙◌, ap, subst, inl, inr, arith, append_assoc}
use Rattle.std.specs.Prelude.{MatchOption}
use Rattle.std.specs.List.{All, Any, Contains}
use Rattle.std.specs.List.Sorted.{IsStrictlyIncreasing}
use Rattle.std.proofs.lemmas.List.{length_push, length-append, take_more, take-append-drop}
use Rattle.std.proofs.lemmas.List.Elements.{All-nil}
use Rattle.rv_machine.specs.declared.«record».Record.{Record}
use Rattle.rv_machine.specs.Step.{Transition}
use Rattle.bv_expr.specs.declared.expr_id.ExprId.{ExprId}
use Rattle.ct_pairs.specs.declared.job.Job.{Job}
use Rattle.ct_pairs.specs.declared.pair.Pair.{Pair}
use Rattle.ct_pairs.specs.declared.found.Found.{Found}
use Rattle.ct_pairs.specs.Paths.{Follows}
use Rattle.ct_entries.specs.declared.listed.Listed.{Listed}
use Rattle.ct_entries.specs.Entries.{GoesTo, IsTrueFound, IsSolvedListed}
use Rattle.path_tree.specs.declared.path.Path.{Path}
use Rattle.rel_step.specs.declared.last.Last.{Last}
use Rattle.rel_step.specs.declared.stride.Ahead.{Ahead}
use Rattle.rel_step.specs.declared.stride.Ahead.TheVariants.{Bound, Ended, Step}
use Rattle.rel_step.specs.declared.stride.NextIf.{NextIf}
use Rattle.rel_step.specs.declared.stride.Stride.{Stride}
use Rattle.rel_step.specs.Runs.{state_of}
use Rattle.rel_step.specs.Strides.{LeftGoes, AreNexts, IsTarget}
use Rattle.rel_step.specs.PathNodes.{PathNode, IsNode, IsAhead, CanGo, next_steps}
use Rattle.path_run.specs.declared.course.Course.{Course}
use Rattle.path_run.specs.declared.record_of.RecordOf.{RecordOf}
use Rattle.path_run.specs.Counting.{weight, share, IsCounted}
use Rattle.path_run.specs.Records.{IsKid, IsRecord, AreForked}
use Rattle.path_run.specs.Replays.{NoneFollows, CanStep, CanGoAhead, IsReplayed}
use Rattle.path_run.specs.Walking.{IsNowhere, record_at, IsDone}
use Rattle.path_run.proofs.Steps.{weight-none}
use Rattle.path_run.proofs.Showing.{went_to, follows_front}
use Rattle.path_run.proofs.OnwardLaws.{can_go, can_jump}
use Rattle.path_run.proofs.Bridging.{HaveValues, pair_always}

some_seen : (seen : Record) (o : Option Record) → o ≡ Some seen → o ≡ None → ⊥
some_seen seen o p q = cc

-- where what comes after a node can't go to a next, no pair goes there
pub none_goes : (job : Job) (node : PathNode) (ahead : Ahead) (next : ℕ) → IsNode job node → HaveValues node.nodes → IsAhead job node ahead → (CanGoAhead ahead next → ⊥) → NoneFollows job (node.path ++ next ∷ [])
none_goes job node Bound next h values e cannot pair within f = absurd (omega (arith, within, e, length_push node.path next))
none_goes job node (Ended end) next h values (short, ends) cannot pair within f =
    let w = went_to job pair node.path next f in
    let none = pair_always job node (λ runs. (runs false).seen ≡ None) h values (λ env v bytes at. ap (λ (t : Transition). t.seen) (ends (state_of false v node.here) refl refl)) pair w.follows in
    some_seen w.goes.0 _ w.goes.1 none
none_goes job node (Step stride) next h values (short, shows, found) cannot pair within f = by stride.target refl
  where
    by : (o : Option ExprId) → stride.target ≡ o → ⊥
    by (Some id) e = cannot (subst (λ o. MatchOption o (Any (λ (one : NextIf). one.next ≡ next) stride.nexts) (λ _. Unit {0})) (sym e) tt)
    by None e =
        let w = went_to job pair node.path next f in
        let n : AreNexts node.nodes (next_steps job node.here) stride.nexts = subst (λ o. MatchOption o (AreNexts node.nodes (next_steps job node.here) stride.nexts) (λ id. IsTarget node.nodes (next_steps job node.here) stride.nexts id.0)) e shows.goes in
        let listed = pair_always job node (λ runs. LeftGoes runs next → Any (λ (one : NextIf). one.next ≡ next) stride.nexts) h values (n.all next) pair w.follows w.goes in
        cannot (subst (λ o. MatchOption o (Any (λ (one : NextIf). one.next ≡ next) stride.nexts) (λ _. Unit {0})) (sym e) listed)

-- where it can, the node can be followed
pub can_follow : (job : Job) (node : PathNode) (ahead : Ahead) (next : ℕ) → IsAhead job node ahead → CanGoAhead ahead next → CanGo node next
can_follow job node Bound next h can = absurd can
can_follow job node (Ended end) next h can = absurd can
can_follow job node (Step stride) next (short, shows, found) can = by stride.target refl
  where
    by : (o : Option ExprId) → stride.target ≡ o → CanGo node next
    by (Some id) e = can_jump node stride id found e next
    by None e = can_go node stride next found e (subst (λ o. MatchOption o (Any (λ (one : NextIf). one.next ≡ next) stride.nexts) (λ _. Unit {0})) e can)

-- no pair follows a path where none follows a front of it
pub none_longer : (job : Job) (t rest : List ℕ) → NoneFollows job t → length t ≤ length (t ++ rest) → NoneFollows job (t ++ rest)
none_longer job t rest none longer pair within f = none pair (omega (arith, within, longer)) (follows_front job pair t rest f)

front_and : (xs : List ℕ) (k d : ℕ) → k < length xs → (take k xs ++ get_or xs k d ∷ []) ++ drop (k + 1) xs ≡ xs
front_and xs k d below = ap (λ ys. ys ++ drop (k + 1) xs) (sym (take_more xs k d below)) ∙ take-append-drop (k + 1) xs

-- the path so far leads nowhere, and so the whole path does
pub none_at : (job : Job) (xs : List ℕ) (k d : ℕ) → k < length xs → NoneFollows job (take k xs ++ get_or xs k d ∷ []) → NoneFollows job xs
none_at job xs k d below none pair within f =
    let whole = front_and xs k d below in
    let t : List ℕ = take k xs ++ get_or xs k d ∷ [] in
    none pair (omega (arith, within, ap length whole, length-append t (drop (k + 1) xs))) (follows_front job pair t (drop (k + 1) xs) (subst (λ p. Follows job pair p) (sym whole) f))

-- the record of a path that no pair follows
pub nowhere_done : (job : Job) (c : Course) (r : RecordOf) → r ≡ record_at c [] → IsNowhere job c → IsDone job c.path r None
nowhere_done job c r same h = subst (λ (x : RecordOf). IsDone job c.path x None) (sym same) done
  where
    empty : RecordOf
    empty = record_at c []

    found_true : All (IsTrueFound job) c.found.items
    found_true = subst (λ xs. All (IsTrueFound job) xs) (sym h.found) (All-nil (IsTrueFound job))

    listed_true : All (IsSolvedListed job) c.listed.items
    listed_true = subst (λ xs. All (IsSolvedListed job) xs) (sym h.listed) (All-nil (IsSolvedListed job))

    done : IsDone job c.path (record_at c []) None
    done = record {
      of_path = refl;
      true_record = record {
        covers = λ pair within f. absurd (h.none pair within f);
        found = found_true;
        listed = listed_true;
        kids = All-nil (IsKid job (record_at c []));
        forked = record { stem = []; nexts = []; ascending = λ k below. absurd (omega (arith, below)); are = refl };
        few = omega arith;
        few_ends = omega (arith, h.ends);
        few_doubts = omega (arith, h.doubts);
      };
      counted = record {
        most = omega (arith, h.ends);
        least = λ _. omega (arith, weight-none job c.path.nexts h.none);
      };
      handed = refl;
    }
