-- Lists with equalities at their ends.
use Rattle.std.proofs.Common.{◌≡◌, inl, inr, ℕ, ◌<◌, ◌≤◌, Bool, true, false, List, [], ◌∷◌, ◌++◌, length, take, All, Contains, Option, Some, None, refl, ap, sym, subst, ◌∙◌, arith, rules, append_assoc}
use Rattle.std.specs.Prelude.{nat_lt, if◌then◌else◌}
use Rattle.std.specs.List.{list_any}
use Rattle.std.proofs.lemmas.Bool.{ltb-true, ltb-false}
use Rattle.std.proofs.lemmas.List.{append-nil}
use Rattle.std.proofs.lemmas.List.Elements.{All-nil, All-cons, All-head, All-tail, All-append, All-contains, Contains-append_left, Contains-push}
use Rattle.std.proofs.lemmas.List.Folds.{list_any_at}
use Rattle.std.proofs.Math.Seq.{take-append_seam}
use Rattle.indexmap.specs.IndexSet.{insert_key}
use Rattle.indexmap.proofs.CallerLemmas.{Contains-list_any}
use Rattle.bv_expr.specs.Nodes.{IsValuation, AreBytes}
use Rattle.bv_expr.specs.Typing.{IsTyped}
use Rattle.bv_expr.specs.declared.q_node.QNode.{QNode}
use Rattle.untaint.specs.declared.equality.Equality.{Equality}
use Rattle.untaint.specs.contracts.equality.EqualityPartialEq.TheImpl as impl
use Rattle.untaint.specs.Kept.{sides, equality, Holds, AllHold, AreKnown, IsOf, IsOrdered, Appends, same_sides, with_new, with_all}
use Rattle.untaint.specs.Peeling.{peeled, Peels, KeepsPeeled}
use Rattle.untaint.proofs.PeelLaws.{Peels-push, peeled_inside, peeled_ordered, peeled_hold}

-- the test by which the set keeps each equality once
pub inserted : (kept : List Equality) (one : Equality) → insert_key (impl.eq-value).it kept one ≡ with_new kept one
inserted kept one = refl

pub with_all-push : (kept more : List Equality) (one : Equality) → with_all kept (more ++ one ∷ []) ≡ with_new (with_all kept more) one
with_all-push kept [] one = refl
with_all-push kept (x ∷ more) one = with_all-push (with_new kept x) more one

-- the old list is a front of the new one, and P holds of what comes after it
pub record IsLonger (P : Equality → Type 0) (old new : List Equality) : Type 0 where
  pub added : List Equality
  pub list : new ≡ old ++ added
  pub each : All P added

longer_by : (P : Equality → Type 0) (old : List Equality) (one : Equality) → P one → (there : Bool) → IsLonger P old (if there then old else old ++ one ∷ [])
longer_by P old one h true = record { added = []; list = sym (append-nil old); each = All-nil P }
longer_by P old one h false = record { added = one ∷ []; list = refl; each = All-cons P one [] h (All-nil P) }

longer_then : (P : Equality → Type 0) (a b c : List Equality) → IsLonger P a b → IsLonger P b c → IsLonger P a c
longer_then P a b c p q = record {
  added = p.added ++ q.added;
  list = q.list ∙ ap (λ (xs : List Equality). xs ++ q.added) p.list ∙ append_assoc a p.added q.added;
  each = All-append P p.added q.added p.each q.each;
}

pub with_all-longer : (P : Equality → Type 0) (old more : List Equality) → All P more → IsLonger P old (with_all old more)
with_all-longer P old [] h = record { added = []; list = sym (append-nil old); each = All-nil P }
with_all-longer P old (x ∷ more) h =
    longer_then P old (with_new old x) (with_all (with_new old x) more)
    (longer_by P old x (All-head P x more h) (list_any (same_sides x) old)) (with_all-longer P (with_new old x) more (All-tail P x more h))

-- what is always so
abbrev Anything : Equality → Type 0
Anything one = Unit {0}

pub front_stays : (old new more : List Equality) → new ≡ with_all old more → take (length old) new ≡ old
front_stays old new more e =
    let longer = with_all-longer Anything old more (λ k d lt. tt) in
    ap (λ (xs : List Equality). take (length old) xs) (e ∙ longer.list) ∙ take-append_seam old longer.added

same_true : (one other : Equality) → same_sides one other ≡ true → one ≡ other
same_true one other e = search rules

same_itself : (one : Equality) → same_sides one one ≡ true
same_itself one = search rules

contained : (kept : List Equality) (one : Equality) → list_any (same_sides one) kept ≡ true → Contains kept one
contained kept one e = Contains-list_any same_sides same_true kept one e

among : (kept : List Equality) (one : Equality) → Contains kept one → list_any (same_sides one) kept ≡ true
among kept one h = list_any_at (same_sides one) kept h.0 one h.1 (rw h.2 (same_itself one))

new_contained : (kept : List Equality) (one : Equality) (there : Bool) → list_any (same_sides one) kept ≡ there → Contains (if there then kept else kept ++ one ∷ []) one
new_contained kept one true e = contained kept one e
new_contained kept one false e = Contains-push kept one

first_contained : (old : List Equality) (first : Equality) (more : List Equality) → Contains (with_all old (first ∷ more)) first
first_contained old first more =
    let longer = with_all-longer Anything (with_new old first) more (λ k d lt. tt) in
    let P : List Equality → Type 0 = λ xs. Contains xs first in
    subst P (sym longer.list) (Contains-append_left (with_new old first) longer.added first (new_contained old first (list_any (same_sides first) old) refl))

peels_first : (nodes : List QNode) (old : List Equality) (first : Equality) (all : List Equality) → Peels nodes (Some first) all None → Contains (with_all old all) first
peels_first nodes old first [] p = cc
peels_first nodes old first (x ∷ more) p =
    let e : x ≡ first = cc in
    let P : Equality → Type 0 = λ y. Contains (with_all old (y ∷ more)) first in
    subst P (sym e) (first_contained old first more)

pub kept_contains : (nodes : List QNode) (first : Equality) (old new : List Equality) → KeepsPeeled nodes first old new → Contains new first
kept_contains nodes first old new is = let P : List Equality → Type 0 = λ xs. Contains xs first in subst P (sym is.list) (peels_first nodes old first is.all is.peels)

-- an equality of two expressions tells that they are known
known_by : (kept : List Equality) (l r : ℕ) (turned : Bool) → nat_lt r l ≡ turned → Contains kept (if turned then sides r l else sides l r) → AreKnown kept l r
known_by kept l r true e h = inr (inr h)
known_by kept l r false e h = inr (inl h)

pub known_of : (kept : List Equality) (l r : ℕ) → Contains kept (equality l r) → AreKnown kept l r
known_of kept l r h = known_by kept l r (nat_lt r l) refl h

-- an equality of the arena that holds where the first one does
record Follows (nodes : List QNode) (first one : Equality) : Type 0 where
  inside : IsOf nodes one
  holds : (env v : ℕ → ℕ) → AreBytes env → IsValuation env v nodes → Holds v first → Holds v one

-- what is appended
pub kept_appends : (nodes : List QNode) → IsTyped nodes → (first : Equality) (old new : List Equality) → IsOf nodes first → KeepsPeeled nodes first old new → Appends nodes first old new
kept_appends nodes typed first old new inside is =
    let all_inside = peeled_inside nodes typed first None is.all inside is.peels in
    let all_hold = peeled_hold nodes typed first None is.all is.peels in
    let follow : All (Follows nodes first) is.all = λ k d lt. record { inside = all_inside k d lt; holds = λ env v bytes run h. all_hold env v bytes run h k d lt } in
    let longer = with_all-longer (Follows nodes first) old is.all follow in
    record {
      added = longer.added;
      list = is.list ∙ longer.list;
      inside = λ k d lt. (longer.each k d lt).inside;
      hold = λ env v bytes run h k d lt. (longer.each k d lt).holds env v bytes run h;
    }

pub kept_ordered : (nodes : List QNode) → IsTyped nodes → (first : Equality) (old new : List Equality) → IsOrdered first → All IsOrdered old → KeepsPeeled nodes first old new → All IsOrdered new
kept_ordered nodes typed first old new ordered was is =
    let longer = with_all-longer IsOrdered old is.all (peeled_ordered nodes typed first None is.all ordered is.peels) in
    let P : List Equality → Type 0 = λ xs. All IsOrdered xs in
    subst P (sym (is.list ∙ longer.list)) (All-append IsOrdered old longer.added was longer.each)

-- a list while an equality is peeled: what came so far is kept, and the next one is to come
pub record IsKeeping (nodes : List QNode) (first : Equality) (old new : List Equality) (next : Option Equality) : Type 0 where
  pub all : List Equality
  pub peels : Peels nodes (Some first) all next
  pub list : new ≡ with_all old all

pub keeping_none : (nodes : List QNode) (first : Equality) (old : List Equality) → IsKeeping nodes first old old (Some first)
keeping_none nodes first old = record { all = []; peels = refl; list = refl }

pub keeping_more : (nodes : List QNode) (first one : Equality) (old new later : List Equality) (next : Option Equality) → IsKeeping nodes first old new (Some one)
    → later ≡ insert_key (impl.eq-value).it new one → next ≡ peeled nodes one → IsKeeping nodes first old later next
keeping_more nodes first one old new later next was is e =
    let P : Option Equality → Type 0 = λ o. Peels nodes (Some first) (was.all ++ one ∷ []) o in
    record {
      all = was.all ++ one ∷ [];
      peels = subst P (sym e) (Peels-push nodes (Some first) was.all one was.peels);
      list = is ∙ inserted new one ∙ ap (λ (xs : List Equality). with_new xs one) was.list ∙ sym (with_all-push old was.all one);
    }

pub keeping_done : (nodes : List QNode) (first : Equality) (old new : List Equality) (next : Option Equality) → IsKeeping nodes first old new next → next ≡ None → KeepsPeeled nodes first old new
keeping_done nodes first old new next was e =
    let P : Option Equality → Type 0 = λ o. Peels nodes (Some first) was.all o in
    record { all = was.all; peels = subst P e was.peels; list = was.list }

pub keeping_stays : (nodes : List QNode) (first : Equality) (old new : List Equality) (next : Option Equality) → IsKeeping nodes first old new next → take (length old) new ≡ old
keeping_stays nodes first old new next was = front_stays old new was.all was.list

-- what `known` answers: one look-up tells of both orders
known_back : (kept : List Equality) (l r : ℕ) → All IsOrdered kept → (turned : Bool) → nat_lt r l ≡ turned → AreKnown kept l r → (l ≡ r → ⊥) → Contains kept (if turned then sides r l else sides l r)
known_back kept l r ordered turned e (inl same) apart = absurd (apart same)
known_back kept l r ordered true e (inr (inl h)) apart =
    let le : l ≤ r = All-contains IsOrdered kept (sides l r) ordered h in
    absurd (omega (arith, ltb-true r l e))
known_back kept l r ordered true e (inr (inr h)) apart = h
known_back kept l r ordered false e (inr (inl h)) apart = h
known_back kept l r ordered false e (inr (inr h)) apart =
    let le : r ≤ l = All-contains IsOrdered kept (sides r l) ordered h in
    absurd (apart (omega (arith, ltb-false r l e)))

pub known_tells : (kept : List Equality) (l r : ℕ) (found : Bool) → All IsOrdered kept → (l ≡ r → ⊥) → found ≡ list_any (same_sides (equality l r)) kept → (found ≡ true → AreKnown kept l r) × (AreKnown kept l r → found ≡ true)
known_tells kept l r found ordered apart e = (
  λ t. known_of kept l r (contained kept (equality l r) (sym e ∙ t)),
  λ h. e ∙ among kept (equality l r) (known_back kept l r ordered (nat_lt r l) refl h apart),
)

-- expressions that are known to be equal have one value where all that is kept holds
pub known_holds : (kept : List Equality) (l r : ℕ) (v : ℕ → ℕ) → AreKnown kept l r → AllHold v kept → v l ≡ v r
known_holds kept l r v (inl same) h = ap v same
known_holds kept l r v (inr (inl is)) h = All-contains (Holds v) kept (sides l r) h is
known_holds kept l r v (inr (inr is)) h = sym (All-contains (Holds v) kept (sides r l) h is)

-- an equality of two expressions holds exactly where they have one value
holds_by : (l r : ℕ) (v : ℕ → ℕ) → v l ≡ v r → (turned : Bool) → Holds v (if turned then sides r l else sides l r)
holds_by l r v e true = sym e
holds_by l r v e false = e

pub equality_holds : (l r : ℕ) (v : ℕ → ℕ) → v l ≡ v r → Holds v (equality l r)
equality_holds l r v e = holds_by l r v e (nat_lt r l)

-- what is known stays known
pub AreKnown-later : (old added : List Equality) (l r : ℕ) → AreKnown old l r → AreKnown (old ++ added) l r
AreKnown-later old added l r (inl same) = inl same
AreKnown-later old added l r (inr (inl is)) = inr (inl (Contains-append_left old added (sides l r) is))
AreKnown-later old added l r (inr (inr is)) = inr (inr (Contains-append_left old added (sides r l) is))

pub appends_known : (nodes : List QNode) (first : Equality) (old new : List Equality) → Appends nodes first old new → (l r : ℕ) → AreKnown old l r → AreKnown new l r
appends_known nodes first old new is l r was = let P : List Equality → Type 0 = λ xs. AreKnown xs l r in subst P (sym is.list) (AreKnown-later old is.added l r was)

-- what all that is kept keeps
pub appends_inside : (nodes : List QNode) (first : Equality) (old new : List Equality) → Appends nodes first old new → All (IsOf nodes) old → All (IsOf nodes) new
appends_inside nodes first old new is was = let P : List Equality → Type 0 = λ xs. All (IsOf nodes) xs in subst P (sym is.list) (All-append (IsOf nodes) old is.added was is.inside)

pub appends_hold : (nodes : List QNode) (first : Equality) (old new : List Equality) → Appends nodes first old new → (env v : ℕ → ℕ) → AreBytes env → IsValuation env v nodes → Holds v first → AllHold v old → AllHold v new
appends_hold nodes first old new is env v bytes run h was =
    let P : List Equality → Type 0 = λ xs. AllHold v xs in subst P (sym is.list) (All-append (Holds v) old is.added was (is.hold env v bytes run h))

-- an equality of two expressions of the arena is of it, and ordered
inside_by : (nodes : List QNode) (l r : ℕ) → l < length nodes → r < length nodes → (turned : Bool) → IsOf nodes (if turned then sides r l else sides l r)
inside_by nodes l r hl hr true = record { left = hr; right = hl }
inside_by nodes l r hl hr false = record { left = hl; right = hr }

pub equality_inside : (nodes : List QNode) (l r : ℕ) → l < length nodes → r < length nodes → IsOf nodes (equality l r)
equality_inside nodes l r hl hr = inside_by nodes l r hl hr (nat_lt r l)

ordered_by : (l r : ℕ) (turned : Bool) → nat_lt r l ≡ turned → IsOrdered (if turned then sides r l else sides l r)
ordered_by l r true e = omega (arith, ltb-true r l e)
ordered_by l r false e = ltb-false r l e

pub equality_ordered : (l r : ℕ) → IsOrdered (equality l r)
equality_ordered l r = ordered_by l r (nat_lt r l) refl
