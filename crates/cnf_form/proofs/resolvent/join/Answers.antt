use Rattle.std.proofs.Common.{◌≡◌, ◌⊎◌, ◌≤◌, ◌+◌, ◌++◌, ℕ, length, drop, take, ◌-◌, length-drop, List, sym, ◌∙◌, ap, inl, inr, append_assoc, arith}
use Rattle.std.proofs.lemmas.List.{take_all}
use Rattle.cnf_form.specs.declared.lit.Lit.{Lit}
use Rattle.cnf_form.specs.Resolvent.{Joined, joined}
use Rattle.cnf_form.proofs.JoinLaws.{joined-end}
use Rattle.cnf_form.proofs.resolvent.join.Goals as goal
use Rattle.cnf_form.proofs.resolvent.join.Goals.{then-merge-test+else-j-right, else-merge-test}

-- all is joined
whole : (ls ms out : List Lit) (i j : ℕ) → (length ls ≤ i) ⊎ (length ms ≤ j) → out ++ (joined (drop i ls) (drop j ms)).lits ≡ (joined ls ms).lits → (out ++ drop i ls) ++ drop j ms ≡ (joined ls ms).lits
whole ls ms out i j h e = append_assoc out (drop i ls) (drop j ms) ∙ ap (λ (j : Joined). out ++ j.lits) (sym (joined-end ls ms i j h)) ∙ e

counted : (ls ms : List Lit) (i j n : ℕ) → (length ls ≤ i) ⊎ (length ms ≤ j) → n + length (joined (drop i ls) (drop j ms)).clashes ≡ length (joined ls ms).clashes → n ≡ length (joined ls ms).clashes
counted ls ms i j n h e = let none = ap (λ (j : Joined). length j.clashes) (joined-end ls ms i j h) in omega arith

rest : (i : ℕ) (xs : List Lit) → take (length xs - i) (drop i xs) ≡ drop i xs
rest i xs = take_all _ _ (omega (arith, length-drop i xs))

two : (out a b more most all : List Lit) → more ≡ out ++ a → most ≡ more ++ b → (out ++ a) ++ b ≡ all → most ≡ all
two out a b more most all e f g = f ∙ ap (λ (xs : List Lit). xs ++ b) e ∙ g

pub returns-clause-lits : goal.returns-clause-lits
returns-clause-lits c =
    let over : (length c.args.left.now ≤ c.merge.i) ⊎ (length c.args.right.now ≤ c.merge.j) = elim c.merge-test.branch [ then-merge-test+else-j-right w ↦ inr w.if-j-right.false | else-merge-test w ↦ inl w.merge-test.false ] in
    let all = whole c.args.left.now c.args.right.now c.merge.out.items c.merge.i c.merge.j over c.merge.invariant.lits in
    two c.merge.out.items (drop c.merge.i c.args.left.now) (drop c.merge.j c.args.right.now) c.extend_from_slice.new.self.items c.extend_from_slice-2.new.self.items _ (c.in_ok-extend_from_slice.ensures.items ∙ ap (λ (xs : List Lit). c.merge.out.items ++ xs) (rest c.merge.i c.args.left.now)) (c.in_ok-extend_from_slice-2.ensures.items ∙ ap (λ (xs : List Lit). c.extend_from_slice.new.self.items ++ xs) (rest c.merge.j c.args.right.now)) all

pub returns-clause-clashes : goal.returns-clause-clashes
returns-clause-clashes c =
    let over : (length c.args.left.now ≤ c.merge.i) ⊎ (length c.args.right.now ≤ c.merge.j) = elim c.merge-test.branch [ then-merge-test+else-j-right w ↦ inr w.if-j-right.false | else-merge-test w ↦ inl w.merge-test.false ] in
    counted c.args.left.now c.args.right.now c.merge.i c.merge.j c.merge.clashes over c.merge.invariant.clashes
