-- Which pairs split in the next step, from what its expressions say.
use Rattle.std.proofs.Common.{◌≡◌, ◌≢◌, ◌⊎◌, ℕ, ◌+◌, ◌<◌, ◌≤◌, Bool, true, false, List, [], ◌∷◌, ◌++◌, length, get_or, map, Option, Some, None, refl, sym, ◌∙◌, ap, subst, inl, inr, arith}
use Rattle.std.specs.Prelude.{◌↔◌, MatchOption}
use Rattle.std.specs.List.{All, Any, Contains}
use Rattle.std.proofs.lemmas.List.Elements.{All-contains}
use Rattle.ct_words.specs.Words.{flag}
use Rattle.bv_expr.specs.declared.expr_id.ExprId.{ExprId}
use Rattle.ct_pairs.specs.declared.job.Job.{Job}
use Rattle.ct_pairs.specs.declared.pair.Pair.{Pair}
use Rattle.ct_pairs.specs.declared.found.Found.{Found}
use Rattle.ct_pairs.specs.Paths.{Follows}
use Rattle.ct_pairs.specs.Covered.{sites_of}
use Rattle.ct_pairs.proofs.ValuesLemmas.{Contains-map}
use Rattle.ct_entries.specs.Entries.{SplitsAfter, IsListed}
use Rattle.rel_step.specs.declared.stride.Stride.{Stride}
use Rattle.rel_step.specs.Runs.{Always, Tells, IsFlag}
use Rattle.rel_step.specs.Strides.{ShowSame, IsStride}
use Rattle.rel_step.specs.PathNodes.{PathNode, IsNode, last_or, next_steps}
use Rattle.path_run.specs.declared.course.Course.{Course}
use Rattle.path_run.specs.Walks.{IsKnownSplit, IsWalked}
use Rattle.path_run.specs.Stages.{IsPlaced, IsAtStep, AreLeaksKnown, KnowsSite}
use Rattle.path_run.proofs.Walks.{runs_after}
use Rattle.path_run.proofs.Places.{split_site}
use Rattle.path_run.proofs.Showing.{split_shows}
use Rattle.path_run.proofs.Bridging.{HaveValues, along_pair, runs_are, pair_always}

pub short_node : (job : Job) (course : Course) (node : PathNode) → node.path ≡ course.at.items → length course.at.items < job.bound → length node.path < job.bound
short_node job course node e short = omega (arith, short, ap length e)

-- what holds for no value of an option
pub at_none : {X : Type 0} (o : Option X) (A : Type 0) (P : X → Type 0) → o ≡ None → MatchOption o A P → A
at_none o A P e h = subst (λ q. MatchOption q A P) e h

-- what holds for a value of an option
pub at_some : {X : Type 0} (o : Option X) (x : X) (A : Type 0) (P : X → Type 0) → o ≡ Some x → MatchOption o A P → P x
at_some o x A P e h = subst (λ q. MatchOption q A P) e h

-- where no pair shows different records, none splits
pub leaks_from : (job : Job) (course : Course) (node : PathNode) (stride : Stride) → IsAtStep job course node stride →
    ((pair : Pair) → Follows job pair node.path → (ShowSame (runs_after job pair node.path) → ⊥) → ⊥) → AreLeaksKnown job course
leaks_from job course node stride h none pair split =
    let s : SplitsAfter job node.path pair = subst (λ t. SplitsAfter job t pair) (sym h.placed.path) split in
    absurd (none pair s.0 (split_shows job pair node.path (short_node job course node h.placed.path h.short) s))

pub leaks_none : (job : Job) (course : Course) (node : PathNode) (stride : Stride) → IsAtStep job course node stride → HaveValues node.nodes → stride.leak ≡ None → AreLeaksKnown job course
leaks_none job course node stride h values e =
    leaks_from job course node stride h
    (λ pair f apart. apart (pair_always job node ShowSame h.placed.stands values (at_none stride.leak _ _ e h.shows.leak) pair f))

pub flag_never : (x : ℕ) (P : Type 0) → IsFlag x P → x ≡ 0 → P → ⊥
flag_never x P (inl (one, _)) e p = absurd (omega (arith, one, e))
flag_never x P (inr (_, n)) e p = n p

pub leaks_never : (job : Job) (course : Course) (node : PathNode) (stride : Stride) (leak : ExprId) → IsAtStep job course node stride → HaveValues node.nodes → stride.leak ≡ Some leak → Always node.nodes (λ v. v leak.0 ≡ 0) → AreLeaksKnown job course
leaks_never job course node stride leak h values e never =
    leaks_from job course node stride h (λ pair f apart. never_apart pair f apart)
  where
    tells : Tells node.nodes leak.0 (λ v. ShowSame (next_steps job node.here v) → ⊥)
    tells = at_some stride.leak leak _ _ e h.shows.leak

    never_apart : (pair : Pair) → Follows job pair node.path → (ShowSame (runs_after job pair node.path) → ⊥) → ⊥
    never_apart pair f apart =
        pair_always job node (λ runs. (ShowSame runs → ⊥) → ⊥) h.placed.stands values
        (λ env v bytes at. flag_never (v leak.0) (ShowSame (next_steps job node.here v) → ⊥) (tells.flag_is env v bytes at) (never env v bytes at)) pair f apart

-- a pair that splits does so at the site
pub splits_at : (job : Job) (course : Course) (node : PathNode) (stride : Stride) (pair : Pair) → IsAtStep job course node stride → (split : SplitsAfter job course.at.items pair) → split.1.0 ≡ stride.site
splits_at job course node stride pair h (f, (site, s)) =
    split_site job pair course.at.items site f h.short s ∙ ap (last_or job.entry) (sym h.placed.path) ∙ sym h.placed.stands.pc ∙ sym h.shows.site

-- a split at a known site is known
pub known_site : (job : Job) (course : Course) (node : PathNode) (stride : Stride) → IsAtStep job course node stride → KnowsSite course stride.site → AreLeaksKnown job course
known_site job course node stride h knows pair split = by knows
  where
    same : split.1.0 ≡ stride.site
    same = splits_at job course node stride pair h split

    by : KnowsSite course stride.site → IsKnownSplit job course.found.items course.path.leaked pair ⊎ IsListed job course.listed.items pair
    by (inl leaked) = inl (split.1.0, length course.at.items + 1, split.1.1, inr (subst (λ s. Contains course.path.leaked s) (sym same) leaked))
    by (inr (k, one, below, at, is)) =
        inl (split.1.0, length course.at.items + 1, split.1.1, inl (one.step, subst (λ s. Contains (sites_of course.found.items) (s, one.step)) (is ∙ sym same) (Contains-map (λ (f : Found). (f.site, f.step)) course.found.items one (k, below, at)), All-contains (λ (f : Found). f.step ≤ length course.at.items + 1) course.found.items one h.placed.walked.found_before (k, below, at)))
