-- The node of the path on top.
use Rattle.std.proofs.Common.{◌≡◌, List, [], ◌∷◌, ◌++◌, length, reverse, get_or, Option, Some, None, IfSome, refl, sym, ◌∙◌, ap, arith, append_assoc}
use Rattle.std.proofs.lemmas.List.{length-append, reverse-append}
use Rattle.ct_pairs.specs.declared.job.Job.{Job}
use Rattle.path_tree.specs.declared.path.Path.{Path}
use Rattle.rel_step.specs.PathNodes.{PathNode, IsNode}
use Rattle.path_run.specs.Walking.{IsHandedOn}
use Rattle.work_crew.specs.Exploring.{IsTopNode}

-- the last of a list
last_is : (xs : List Path) (x d : Path) → get_or (xs ++ x ∷ []) (length xs) d ≡ x
last_is [] x d = refl
last_is (y ∷ xs) x d = last_is xs x d

same_last : (xs ys : List Path) (x y : Path) → xs ++ x ∷ [] ≡ ys ++ y ∷ [] → x ≡ y
same_last xs ys x y same =
    let long : length xs ≡ length ys = omega (arith, ap length same, length-append xs (x ∷ []), length-append ys (y ∷ [])) in
    sym (last_is xs x x) ∙ ap (λ zs. get_or zs (length xs) x) same ∙ ap (λ n. get_or (ys ++ y ∷ []) n x) long ∙ last_is ys y x

-- a node of the path on top is that of the path that is taken
pub top_of : (job : Job) (rest : List Path) (path : Path) (node : Option PathNode) → IfSome node (IsTopNode job (rest ++ path ∷ [])) → IfSome node (λ n. IsNode job n × (n.path ≡ path.nexts))
top_of job rest path None h = tt
top_of job rest path (Some n) h = (h.stands, h.along ∙ ap (λ (p : Path). p.nexts) (same_last h.below rest h.top path (sym h.are)))

reverse_first : (first : Path) (more : List Path) → reverse (first ∷ more) ≡ reverse more ++ first ∷ []
reverse_first first more = reverse-append (first ∷ []) more

-- the node of the first kid is that of the path on top
pub top_after : (job : Job) (rest kids : List Path) (node : Option PathNode) → IsHandedOn job kids node → IfSome node (IsTopNode job (rest ++ reverse kids))
top_after job rest kids None h = tt
top_after job rest kids (Some n) h = record {
  stands = h.stands;
  below = rest ++ reverse h.rest;
  top = h.first;
  are = ap (λ ks. rest ++ reverse ks) h.are ∙ ap (λ ks. rest ++ ks) (reverse_first h.first h.rest) ∙ sym (append_assoc rest (reverse h.rest) (h.first ∷ []));
  along = h.along;
}
