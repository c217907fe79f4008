-- The words that the walk gives, and the gates that they take.
use Rattle.std.proofs.Common.{◌≡◌, ℕ, zero, suc, ◌+◌, ◌*◌, ◌<◌, ◌≤◌, Bool, true, false, cond, List, [], ◌∷◌, ◌++◌, length, take, get_or, Option, Some, None, refl, sym, ap, ◌∙◌, subst, inl, inr, arith}
use Rattle.std.specs.Prelude.{All, nat_eq, is_some, MatchOption}
use Rattle.std.specs.Option.{option_to_list}
use Rattle.std.proofs.lemmas.Bool.{cases_eq, cases_Bool, false≢true}
use Rattle.std.proofs.lemmas.Bool.Decides.{nat_tests}
use Rattle.std.proofs.lemmas.List.{take_more}
use Rattle.std.proofs.lemmas.List.Elements.{All-push}
use Rattle.gate_form.specs.declared.wire.Wire.{Wire}
use Rattle.gate_form.specs.declared.wire.Gate.TheVariants.{True}
use Rattle.gate_form.specs.Net.{input_count}
use Rattle.bv_expr.specs.declared.q_node.QNode.{QNode}
use Rattle.bv_expr.specs.Walk.{IsWalking, unfinished_below}
use Rattle.bv_expr.proofs.Walking.{Finishes}
use Rattle.bit_blast.specs.declared.limits.TheConstants.{NODE_GATES}
use Rattle.bit_blast.specs.declared.blaster.Blaster.{Blaster}
use Rattle.bit_blast.specs.Cone.{HasCone, IsInCone, chosen_below}
use Rattle.bit_blast.specs.declared.word_map.WordMap.{WordMap}
use Rattle.bit_blast.specs.WordMaps.{words_of}
use Rattle.bit_blast.specs.NodeWords.{has_word}
use Rattle.bit_blast.specs.Blasting.{IsBlasting, IsAt, AreRight, IsNodeWord, KeepsWords, Moves}
use Rattle.bit_blast.proofs.Rightness.{AreWords-node}
use Rattle.bit_blast.proofs.Cones.{all_last, cone_starts, counted}
use Rattle.bit_blast.proofs.Walks.{Stands, stands_next, starts}

eq_true : (a b : ℕ) → a ≡ b → nat_eq a b ≡ true
eq_true a b h = grind (arith, nat_tests)

eq_false : (a b : ℕ) → (a ≡ b → ⊥) → nat_eq a b ≡ false
eq_false a b h = grind (arith, nat_tests)

pub finishes : (words next : ℕ → Option (List Wire)) (top : ℕ) (w : List Wire) → ((q : ℕ) → next q ≡ cond (nat_eq q top) (Some w) (words q)) → Finishes (has_word words) (has_word next) top
finishes words next top w is = record {
  this = ap is_some (is top ∙ ap (λ b. cond b (Some w) (words top)) (eq_true top top refl));
  others = λ q other. ap is_some (is q ∙ ap (λ b. cond b (Some w) (words q)) (eq_false q top other));
}

unfinished-same : (old new : ℕ → Bool) (n : ℕ) → ((q : ℕ) → q < n → new q ≡ old q) → unfinished_below new n ≡ unfinished_below old n
unfinished-same old new zero h = refl
unfinished-same old new (suc n) h = rw (h n (omega arith)) (omega (arith, unfinished-same old new n (λ q lt. h q (omega arith))))

unfinished-less : (old new : ℕ → Bool) (j n : ℕ) → j < n → old j ≡ false → Finishes old new j → unfinished_below new n + 1 ≡ unfinished_below old n
unfinished-less old new j zero lt was is = absurd (omega arith)
unfinished-less old new j (suc n) lt was is = elim (cases_eq n j) [
  | inl e ↦ (let a : new n ≡ true = rw e is.this in let b : old n ≡ false = rw e was in
      rw a (rw b (omega (arith, unfinished-same old new n (λ q l. is.others q (λ h. absurd (omega arith)))))))
  | inr e ↦ (let a : new n ≡ old n = is.others n e in rw a (omega (arith, unfinished-less old new j n (omega arith) was is)))
]

pub finishes_node : (old mid next : WordMap) (top : ℕ) (w : List Wire) → mid ≡ old → ((q : ℕ) → words_of next q ≡ cond (nat_eq q top) (Some w) (words_of mid q)) → Finishes (has_word (words_of old)) (has_word (words_of next)) top
finishes_node old mid next top w same is = let P : WordMap → Type 0 = λ ws. Finishes (has_word (words_of ws)) (has_word (words_of next)) top in subst P same (finishes (words_of mid) (words_of next) top w is)

-- the word of the node where the walk stands
pub blasting_up : (nodes : List QNode) (roots below : List ℕ) (old mid : Blaster) (next : WordMap) (top : ℕ) (w : List Wire) → IsBlasting nodes roots old → IsWalking (length nodes) (has_word (words_of old.words)) below top
    → All (IsInCone nodes roots) (below ++ top ∷ []) → length mid.gates ≤ length old.gates + NODE_GATES → mid.words ≡ old.words → AreRight nodes mid → IsNodeWord mid.gates mid.vars.items nodes top w
    → ((q : ℕ) → words_of next q ≡ cond (nat_eq q top) (Some w) (words_of mid.words q)) → IsBlasting nodes roots (record { gates = mid.gates; vars = mid.vars; bytes = mid.bytes; words = next })
blasting_up nodes roots below old mid next top w was walking cone few same right this is =
    let done : Finishes (has_word (words_of old.words)) (has_word (words_of next)) top = finishes_node old.words mid.words next top w same is in
    let Q : ℕ → Type 0 = λ k. IsInCone nodes roots k in
    record {
      right = AreWords-node nodes mid.gates mid.vars.items (words_of mid.bytes) (words_of mid.words) (words_of next) top w this is right;
      needed = λ k has. elim (cases_eq k top) [
        | inl e ↦ subst Q (sym e) (all_last (IsInCone nodes roots) below top cone)
        | inr d ↦ was.needed k (sym (done.others k d) ∙ has)
      ];
      room = omega (arith, was.room, few, unfinished-less (has_word (words_of old.words)) (has_word (words_of next)) top (length nodes) walking.inside walking.unfinished done);
    }

pub KeepsWords-then : (a b c : ℕ → Option (List Wire)) → KeepsWords a b → KeepsWords b c → KeepsWords a c
KeepsWords-then a b c one two k h = two k (one k h)

-- the walk for one root, after some steps
pub record Visiting (nodes : List QNode) (roots : List ℕ) (start now : Blaster) (below : List ℕ) (root : ℕ) (o : Option ℕ) : Type 0 where
  pub blasting : IsBlasting nodes roots now
  pub kept : KeepsWords (words_of start.words) (words_of now.words)
  pub stands : Stands (length nodes) (has_word (words_of now.words)) below root o
  pub needed : All (IsInCone nodes roots) (below ++ option_to_list o)

pub Visiting-start : (nodes : List QNode) (roots : List ℕ) (b : Blaster) (below : List ℕ) (root : ℕ) (o : Option ℕ) → IsBlasting nodes roots b → root < length nodes → IsInCone nodes roots root → below ≡ []
    → MatchOption o (has_word (words_of b.words) root ≡ true) (λ s. (s ≡ root) × (has_word (words_of b.words) root ≡ false)) → Visiting nodes roots b b below root o
Visiting-start nodes roots b below root o is here cone none found = record {
  blasting = is;
  kept = λ k h. h;
  stands = starts (length nodes) (has_word (words_of b.words)) below root o here none found;
  needed = cone_starts nodes roots below (has_word (words_of b.words)) root o cone none found;
}

pub Visiting-at : (nodes : List QNode) (roots : List ℕ) (start now : Blaster) (below : List ℕ) (root top : ℕ) (o : Option ℕ) → Visiting nodes roots start now below root o → o ≡ Some top → IsAt nodes roots now below top
Visiting-at nodes roots start now below root top o was e =
    let P : Option ℕ → Type 0 = λ x. Visiting nodes roots start now below root x in
    let at : Visiting nodes roots start now below root (Some top) = subst P e was in
    record { blasting = at.blasting; walking = at.stands.0; needed = at.needed }

pub Visiting-next : (nodes : List QNode) (roots : List ℕ) (start now next : Blaster) (below front : List ℕ) (root top : ℕ) (o m : Option ℕ) → Visiting nodes roots start now below root o → o ≡ Some top → IsBlasting nodes roots next
    → KeepsWords (words_of now.words) (words_of next.words) → Moves (length nodes) (has_word (words_of now.words)) below top (has_word (words_of next.words)) front m → All (IsInCone nodes roots) (front ++ option_to_list m) → Visiting nodes roots start next front root m
Visiting-next nodes roots start now next below front root top o m was e is kept moved needed =
    let P : Option ℕ → Type 0 = λ x. Visiting nodes roots start now below root x in
    let at : Visiting nodes roots start now below root (Some top) = subst P e was in
    record {
      blasting = is;
      kept = KeepsWords-then (words_of start.words) (words_of now.words) (words_of next.words) was.kept kept;
      stands = stands_next (length nodes) (has_word (words_of now.words)) (has_word (words_of next.words)) below front top root m moved at.stands.1;
      needed = needed;
    }

pub Visiting-end : (nodes : List QNode) (roots : List ℕ) (start now : Blaster) (below : List ℕ) (root : ℕ) (o : Option ℕ) → Visiting nodes roots start now below root o → ((top : ℕ) → o ≡ Some top → ⊥) → has_word (words_of now.words) root ≡ true
Visiting-end nodes roots start now below root None was over = was.stands
Visiting-end nodes roots start now below root (Some top) was over = absurd (over top refl)

-- one number more has its word
pub words_more : (old new : Blaster) (numbers : List ℕ) (i d : ℕ) → i < length numbers → KeepsWords (words_of old.words) (words_of new.words) → has_word (words_of new.words) (get_or numbers i d) ≡ true
    → All (λ k. has_word (words_of old.words) k ≡ true) (take i numbers) → All (λ k. has_word (words_of new.words) k ≡ true) (take (i + 1) numbers)
words_more old new numbers i d lt kept this was =
    let P : ℕ → Type 0 = λ k. has_word (words_of new.words) k ≡ true in
    let Q : List ℕ → Type 0 = λ xs. All P xs in
    subst Q (sym (take_more numbers i d lt)) (All-push P (take i numbers) (get_or numbers i d) (λ k e h. kept (get_or (take i numbers) k e) (was k e h)) this)

-- the gates are no more than the cone allows
pub few_gates : (nodes : List QNode) (roots : List ℕ) (b : Blaster) (chosen : ℕ → Bool) → IsBlasting nodes roots b → HasCone nodes roots chosen → length b.gates ≤ 1 + NODE_GATES * chosen_below chosen (length nodes)
few_gates nodes roots b chosen is has = omega (arith, is.room, counted chosen (has_word (words_of b.words)) (length nodes) (λ k h. is.needed k h chosen has))

unfinished-le : (finished : ℕ → Bool) (n : ℕ) → unfinished_below finished n ≤ n
unfinished-le finished zero = omega arith
unfinished-le finished (suc n) = elim (cases_Bool (finished n)) [
  | inl on ↦ rw on (omega (arith, unfinished-le finished n))
  | inr off ↦ rw off (omega (arith, unfinished-le finished n))
]

nothing_known : (words : ℕ → Option (List Wire)) (k : ℕ) → words k ≡ None → has_word words k ≡ true → ⊥
nothing_known words k none has = false≢true (sym (ap is_some none) ∙ has)

nothing_found : (words : ℕ → Option (List Wire)) (k : ℕ) (w : List Wire) → words k ≡ None → words k ≡ Some w → ⊥
nothing_found words k w none found = nothing_known words k none (ap is_some found)

-- before the first node
pub IsBlasting-start : (nodes : List QNode) (roots : List ℕ) (b : Blaster) → b.gates ≡ True ∷ [] → b.vars.items ≡ [] → ((k : ℕ) → words_of b.bytes k ≡ None) → ((k : ℕ) → words_of b.words k ≡ None) → IsBlasting nodes roots b
IsBlasting-start nodes roots b first empty no_bytes no_words =
    let none : length b.vars.items ≡ 0 = ap length empty in
    let one : length b.gates ≡ 1 = ap length first in
    record {
      right = record {
        inputs = ap input_count first ∙ omega (arith, none);
        apart = λ i j d lt last. absurd (omega (arith, none));
        bytes_known = λ k d lt. absurd (omega (arith, none));
        bytes_are = λ x w found. absurd (nothing_found (words_of b.bytes) x w (no_bytes x) found);
        words_are = λ j w found. absurd (nothing_found (words_of b.words) j w (no_words j) found);
      };
      needed = λ k has. absurd (nothing_known (words_of b.words) k (no_words k) has);
      room = omega (arith, one, unfinished-le (has_word (words_of b.words)) (length nodes));
    }
