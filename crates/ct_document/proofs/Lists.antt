-- Lists that are read item by item.
use Rattle.std.proofs.Common.{◌≡◌, Bool, ◌||◌, List, [], ◌∷◌, ◌++◌, map, Option, Some, None, refl, sym, ap, append_assoc}
use Rattle.std.specs.List.{list_any}
use Rattle.std.specs.Option.{option_map}

-- a test of the images
pub list_any-map : {A B : Type 0} (test : B → Bool) (image : A → B) (xs : List A) → list_any test (map image xs) ≡ list_any (λ x. test (image x)) xs
list_any-map test image [] = refl
list_any-map test image (x ∷ xs) = ap (λ rest. test (image x) || rest) (list_any-map test image xs)

-- what was read, before what is read next
abbrev pub onto : {T : Type 0} → List T → Option (List T) → Option (List T)
onto done rest = option_map (λ others. done ++ others) rest

-- the next item is read
pub onto_more : {T : Type 0} (done : List T) (x : T) (rest : Option (List T)) → onto done (option_map (λ others. x ∷ others) rest) ≡ onto (done ++ x ∷ []) rest
onto_more done x None = refl
onto_more done x (Some others) = ap Some (sym (append_assoc done (x ∷ []) others))
