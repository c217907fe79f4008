-- What is fetched, by the rights and the bytes at four addresses.
use Rattle.std.proofs.Common.{◌≡◌, ℕ, ◌+◌, ◌*◌, ◌%◌, ◌^◌, false, eqb, List, Some, None, refl}
use Rattle.std.proofs.lemmas.Bool.{eq-eqb, ne_eqb, and_left, and_right}
use Rattle.rv_image.specs.Cell.{Cell}
use Rattle.rv_image.specs.declared.right.Right.TheVariants.{Execute}
use Rattle.rv_image.specs.Image.{allowed_at, executable_word_at, word_at, fetch_at}
use Rattle.rv_image.specs.Location.{IsExecutable}

pub fetch_at-misaligned : (cells : List Cell) (pc : ℕ) → (pc % 4 ≡ 0 → ⊥) → fetch_at cells pc ≡ None
unfolding fetch_at
fetch_at-misaligned cells pc odd = rw (and_left (eqb (pc % 4) 0) (executable_word_at cells pc) (ne_eqb (pc % 4) 0 odd)) refl

fetch_at-refused : (cells : List Cell) (pc : ℕ) → executable_word_at cells pc ≡ false → fetch_at cells pc ≡ None
unfolding fetch_at
fetch_at-refused cells pc refused = rw (and_right (eqb (pc % 4) 0) (executable_word_at cells pc) refused) refl

pub fetch_at-first : (cells : List Cell) (pc : ℕ) → allowed_at Execute cells pc ≡ false → fetch_at cells pc ≡ None
unfolding executable_word_at
fetch_at-first cells pc refused = fetch_at-refused cells pc (and_left _ _ refused)

pub fetch_at-second : (cells : List Cell) (pc : ℕ) → allowed_at Execute cells (pc + 1) ≡ false → fetch_at cells pc ≡ None
unfolding executable_word_at
fetch_at-second cells pc refused = fetch_at-refused cells pc (and_right _ _ (and_left _ _ refused))

pub fetch_at-third : (cells : List Cell) (pc : ℕ) → allowed_at Execute cells (pc + 2) ≡ false → fetch_at cells pc ≡ None
unfolding executable_word_at
fetch_at-third cells pc refused = fetch_at-refused cells pc (and_right _ _ (and_right _ _ (and_left _ _ refused)))

pub fetch_at-fourth : (cells : List Cell) (pc : ℕ) → allowed_at Execute cells (pc + 3) ≡ false → fetch_at cells pc ≡ None
unfolding executable_word_at
fetch_at-fourth cells pc refused =
    fetch_at-refused cells pc (and_right (allowed_at Execute cells pc) _ (and_right (allowed_at Execute cells (pc + 1)) _ (and_right (allowed_at Execute cells (pc + 2)) _ refused)))

pub fetch_at-all : (cells : List Cell) (pc first second third fourth : ℕ) → pc % 4 ≡ 0
    → IsExecutable cells pc first → IsExecutable cells (pc + 1) second → IsExecutable cells (pc + 2) third → IsExecutable cells (pc + 3) fourth
    → fetch_at cells pc ≡ Some (first + 2 ^ 8 * second + 2 ^ 16 * third + 2 ^ 24 * fourth)
unfolding fetch_at executable_word_at word_at
fetch_at-all cells pc first second third fourth even one two three four =
    let aligned = eq-eqb (pc % 4) 0 even in
    rw (aligned, one.right, two.right, three.right, four.right, one.loaded, two.loaded, three.loaded, four.loaded) refl
