-- Bytes by index, and a map from addresses.
use Rattle.std.proofs.Common.{◌≡◌, ◌≢◌, ◌⊎◌, ℕ, ◌<◌, ◌≤◌, ◌==◌, if◌then◌else◌, Bool, true, false, cond, eqb, List, [], ◌∷◌, length, get_or, map, Option, Some, None, refl, sym, ◌∙◌, ap, inl, inr, arith, slice_set, length-set}
use Rattle.std.specs.Prelude.{nat_lt, count_by}
use Rattle.std.specs.Option.{option_map_or, option_map}
use Rattle.std.proofs.lemmas.Bool.{cases_lt}
use Rattle.std.proofs.lemmas.Bool.Decides.{eqb_tells}
use Rattle.std.proofs.lemmas.List.{same_lists, get_or-map, get_or-set_same, get_or-set_other, length-map}
use Rattle.std.proofs.lemmas.List.Kept.{AllPairs-from_increasing}
use Rattle.rv_image.specs.Cell.{Cell}
use Rattle.rv_image.specs.Image.{IsImage, cell_at, index_at, size_of}
use Rattle.rv_image.proofs.Laws.{index_at-cell, cell_at-address}
use Rattle.rv_machine.specs.Step.{byte_stored}

-- the bytes at the accessible addresses, from what is at each address
abbrev pub bytes_by : List Cell → (ℕ → ℕ) → List ℕ
bytes_by image f = map (λ (cell : Cell). f cell.address) image

-- what is at each address after a byte is put at one
abbrev pub with_at : (ℕ → ℕ) → ℕ → ℕ → ℕ → ℕ
with_at f a v b = if b == a then v else f b

pub same_functions : {A B : Type 0} (f g : A → B) → ((x : A) → f x ≡ g x) → f ≡ g
same_functions f g e = λ i x. e x i

abbrev pub no_cell : Cell
no_cell = record { address = 0; byte = 0; read = false; write = false; exec = false }

-- the cell at the index of an address has that address
pub index_address : (image : List Cell) (a k : ℕ) (d : Cell) → IsImage image → index_at image a ≡ Some k → (k < length image) × ((get_or image k d).address ≡ a)
unfolding size_of
index_address image a k d is at = let (below, cell) = index_at-cell image a k d is at in (below, cell_at-address image a (get_or image k d) cell)

-- two places of one address are one
pub apart : (image : List Cell) (i j : ℕ) (d : Cell) → IsImage image → i < j → j < length image → (get_or image i d).address < (get_or image j d).address
apart image i j d is below within =
    let rise = AllPairs-from_increasing (map (λ (cell : Cell). cell.address) image) is.ascending i j 0 below (omega (arith, within, length-map image (λ (cell : Cell). cell.address))) in
    omega (arith, rise, get_or-map (λ (cell : Cell). cell.address) image i d 0 (omega (arith, below, within)), get_or-map (λ (cell : Cell). cell.address) image j d 0 within)

hit : (f : ℕ → ℕ) (a v b : ℕ) → b ≡ a → with_at f a v b ≡ v
hit f a v b e = elim (eqb_tells b a) [ inl (t1, z) ↦ ap (λ c. if c then v else f b) t1 | inr (n1, z) ↦ absurd (z e) ]

miss : (f : ℕ → ℕ) (a v b : ℕ) → b ≢ a → with_at f a v b ≡ f b
miss f a v b e = elim (eqb_tells b a) [ inl (t1, z) ↦ absurd (e z) | inr (n1, z) ↦ ap (λ c. if c then v else f b) n1 ]

-- a byte at an accessible address
here : (image : List Cell) (f : ℕ → ℕ) (a k v : ℕ) → IsImage image → index_at image a ≡ Some k → slice_set (bytes_by image f) k v ≡ bytes_by image (with_at f a v)
here image f a k v is at =
    same_lists (slice_set (bytes_by image f) k v) (bytes_by image (with_at f a v)) (length-set (bytes_by image f) k v ∙ length-map image _ ∙ sym (length-map image _)) each
  where
    at_k : (k < length image) × ((get_or image k no_cell).address ≡ a)
    at_k = index_address image a k no_cell is at

    each : (j d : ℕ) → j < length (slice_set (bytes_by image f) k v) → get_or (slice_set (bytes_by image f) k v) j d ≡ get_or (bytes_by image (with_at f a v)) j d
    each j d below = by (cases_lt j k) (cases_lt k j)
      where
        within : j < length image
        within = omega (arith, below, length-set (bytes_by image f) k v, length-map image (λ (cell : Cell). f cell.address))

        right : get_or (bytes_by image (with_at f a v)) j d ≡ with_at f a v (get_or image j no_cell).address
        right = get_or-map (λ (cell : Cell). with_at f a v cell.address) image j no_cell d within

        other : j ≢ k → (get_or image j no_cell).address ≢ a → get_or (slice_set (bytes_by image f) k v) j d ≡ get_or (bytes_by image (with_at f a v)) j d
        other n m = get_or-set_other (bytes_by image f) k j v d n ∙ get_or-map (λ (cell : Cell). f cell.address) image j no_cell d within ∙ sym (miss f a v _ m) ∙ sym right

        by : (j < k) ⊎ (k ≤ j) → (k < j) ⊎ (j ≤ k) → get_or (slice_set (bytes_by image f) k v) j d ≡ get_or (bytes_by image (with_at f a v)) j d
        by (inl less) o = other (λ e. absurd (omega (arith, less, e))) (λ e. absurd (omega (arith, e, apart image j k no_cell is less at_k.0, at_k.1)))
        by (inr g) (inl more) = other (λ e. absurd (omega (arith, more, e))) (λ e. absurd (omega (arith, e, apart image k j no_cell is more within, at_k.1)))
        by (inr g) (inr l) =
            let same : j ≡ k = omega (arith, g, l) in
            ap (λ i. get_or (slice_set (bytes_by image f) k v) i d) same ∙ get_or-set_same (bytes_by image f) k v d (omega (arith, at_k.0, length-map image (λ (cell : Cell). f cell.address))) ∙ sym (hit f a v (get_or image j no_cell).address (ap (λ i. (get_or image i no_cell).address) same ∙ at_k.1)) ∙ sym right

-- a byte at another address
elsewhere : (image : List Cell) (f : ℕ → ℕ) (a v : ℕ) → cell_at image a ≡ None → bytes_by image f ≡ bytes_by image (with_at f a v)
unfolding cell_at
elsewhere [] f a v none = refl
elsewhere (first ∷ image) f a v none = by (eqb first.address a) refl none (elsewhere image f a v)
  where
    by : (b : Bool) → eqb first.address a ≡ b → cond b (Some first) (cell_at image a) ≡ None → (cell_at image a ≡ None → bytes_by image f ≡ bytes_by image (with_at f a v))
        → f first.address ∷ bytes_by image f ≡ cond (eqb first.address a) v (f first.address) ∷ bytes_by image (with_at f a v)
    by true e h rest = absurd cc
    by false e h rest = rw e (ap (λ xs. f first.address ∷ xs) (rest h))

no_cell_there : (image : List Cell) (a : ℕ) → index_at image a ≡ None → cell_at image a ≡ None
unfolding index_at
no_cell_there image a = by (cell_at image a)
  where
    by : (o : Option Cell) → option_map (λ _. count_by (λ (cell : Cell). nat_lt cell.address a) image) o ≡ None → o ≡ None
    by None h = refl
    by (Some cell) h = absurd cc

-- a byte stored at any address
pub bytes_by-stored : (image : List Cell) (f : ℕ → ℕ) (a v : ℕ) → IsImage image → byte_stored image (bytes_by image f) a v ≡ bytes_by image (with_at f a v)
bytes_by-stored image f a v is = by (index_at image a) refl
  where
    by : (o : Option ℕ) → index_at image a ≡ o → option_map_or (λ index. slice_set (bytes_by image f) index v) (index_at image a) (bytes_by image f) ≡ bytes_by image (with_at f a v)
    by None e = rw e (elsewhere image f a v (no_cell_there image a e))
    by (Some k) e = rw e (here image f a k v is e)
