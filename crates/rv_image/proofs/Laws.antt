-- What follows from the definitions of an image, for those who use one.
use Rattle.std.proofs.Common.{◌≡◌, ℕ, zero, suc, ◌+◌, ◌^◌, ◌%◌, ◌<◌, ◌≤◌, Bool, true, false, cond, ◌&&◌, eqb, ltb, List, [], ◌∷◌, length, get_or, map, All, Option, Some, None, ◌⊎◌, refl, sym, ap, ◌∙◌, subst, inl, inr, arith}
use Rattle.std.specs.List.{count_by}
use Rattle.std.specs.List.Sorted.{IsStrictlyIncreasing}
use Rattle.std.specs.Option.{is_some, option_map, option_map_or, unwrap_or}
use Rattle.std.proofs.lemmas.Bool.{eqb-true, lt-ltb, le-ltb}
use Rattle.std.proofs.lemmas.List.{append-nil, length-map}
use Rattle.std.proofs.lemmas.List.Sums.{sum_by-cons}
use Rattle.elf_load.specs.declared.elf.Elf.{Elf}
use Rattle.elf_load.specs.Layout.{FitsMemory, segment_extents}
use Rattle.rv_image.specs.declared.right.Right.{Right}
use Rattle.rv_image.specs.Cell.{Cell}
use Rattle.rv_image.specs.Image.{IsImage, cell_at, cell_right, allowed_at, loaded_at, index_at, size_of, bytes_of, word_at, executable_word_at, fetch_at}
use Rattle.rv_image.specs.Loading.{CanBuild}

-- an accessible address has the rights and the byte of its cell

pub allowed_at-Some : (right : Right) (cells : List Cell) (address : ℕ) (cell : Cell) → cell_at cells address ≡ Some cell
    → allowed_at right cells address ≡ cell_right right cell
unfolding allowed_at
allowed_at-Some right cells address cell found = rw found refl

pub allowed_at-None : (right : Right) (cells : List Cell) (address : ℕ) → cell_at cells address ≡ None → allowed_at right cells address ≡ false
unfolding allowed_at
allowed_at-None right cells address none = rw none refl

pub loaded_at-Some : (cells : List Cell) (address : ℕ) (cell : Cell) → cell_at cells address ≡ Some cell → loaded_at cells address ≡ Some cell.byte
unfolding loaded_at
loaded_at-Some cells address cell found = rw found refl

pub loaded_at-None : (cells : List Cell) (address : ℕ) → cell_at cells address ≡ None → loaded_at cells address ≡ None
unfolding loaded_at
loaded_at-None cells address none = rw none refl

pub index_at-None : (cells : List Cell) (address : ℕ) → cell_at cells address ≡ None → index_at cells address ≡ None
unfolding index_at
index_at-None cells address none = rw none refl

-- what is accessible

is_some-option_map : {A B : Type 0} (f : A → B) (o : Option A) → is_some (option_map f o) ≡ is_some o
is_some-option_map f None = refl
is_some-option_map f (Some x) = refl

-- the addresses with an index are those with a byte
pub is_some-index_at : (cells : List Cell) (address : ℕ) → is_some (index_at cells address) ≡ is_some (loaded_at cells address)
unfolding index_at loaded_at
is_some-index_at cells address =
    is_some-option_map (λ (_ : Cell). count_by (λ cell. ltb cell.address address) cells) (cell_at cells address)
    ∙ sym (is_some-option_map (λ (cell : Cell). cell.byte) (cell_at cells address))

right_of_some : (f : Cell → Bool) (o : Option Cell) → option_map_or f o false ≡ true → is_some o ≡ true
right_of_some f None right = right
right_of_some f (Some cell) right = refl

-- an address with a right is accessible
pub allowed_at-index_at : (right : Right) (cells : List Cell) (address : ℕ) → allowed_at right cells address ≡ true → is_some (index_at cells address) ≡ true
unfolding allowed_at index_at
allowed_at-index_at right cells address has =
    is_some-option_map (λ (_ : Cell). count_by (λ cell. ltb cell.address address) cells) (cell_at cells address)
    ∙ right_of_some (cell_right right) (cell_at cells address) has

-- the index of an address is the location of its cell

some_of : {A B : Type 0} (f : A → B) (o : Option A) (y : B) → option_map f o ≡ Some y → (x : A) × (o ≡ Some x) × (f x ≡ y)
some_of f None y e = absurd cc
some_of f (Some x) y e = (x, refl, cc)

found_here : (here : Bool) (x cell : Cell) (later : Option Cell) → cond here (Some x) later ≡ Some cell → ((here ≡ true) × (x ≡ cell)) ⊎ ((here ≡ false) × (later ≡ Some cell))
found_here true x cell later e = inl (refl, cc)
found_here false x cell later e = inr (refl, e)

-- a cell that a look-up finds has the address
pub cell_at-address : (cells : List Cell) (address : ℕ) (cell : Cell) → cell_at cells address ≡ Some cell → cell.address ≡ address
unfolding cell_at
cell_at-address [] address cell found = absurd cc
cell_at-address (first ∷ cells) address cell found =
    elim (found_here (eqb first.address address) first cell (cell_at cells address) found) [
      | inl here ↦ rw (← here.1) (eqb-true first.address address here.0)
      | inr later ↦ cell_at-address cells address cell later.1
    ]

-- what holds of each cell holds of one that a look-up finds
pub cell_at-All : (P : Cell → Type 0) (cells : List Cell) (address : ℕ) (cell : Cell) → All P cells → cell_at cells address ≡ Some cell → P cell
unfolding cell_at
cell_at-All P [] address cell all found = absurd cc
cell_at-All P (first ∷ cells) address cell all found =
    elim (found_here (eqb first.address address) first cell (cell_at cells address) found) [
      | inl here ↦ subst P here.1 (all 0 first (omega arith))
      | inr later ↦ cell_at-All P cells address cell (λ k d inside. all (suc k) d (omega arith)) later.1
    ]

-- the addresses ascend from one on
Rises : ℕ → List Cell → Type 0
Rises low [] = Unit {0}
Rises low (cell ∷ cells) = (low ≤ cell.address) × Rises (suc cell.address) cells

Rises-from_increasing : (low : ℕ) (cell : Cell) (cells : List Cell) → low ≤ cell.address → IsStrictlyIncreasing (map (λ c. c.address) (cell ∷ cells)) → Rises low (cell ∷ cells)
unfolding Rises
Rises-from_increasing low cell [] above increasing = (above, tt)
Rises-from_increasing low cell (next ∷ cells) above increasing =
    let first = increasing 0 (omega arith) in
    let rest : IsStrictlyIncreasing (map (λ (c : Cell). c.address) (next ∷ cells)) =
    λ k inside. let moved : suc k + 1 ≡ suc (k + 1) = omega arith in rw moved at (increasing (suc k) (omega arith)) in
    (above, Rises-from_increasing (suc cell.address) next cells (omega arith) rest)

Rises-all : (cells : List Cell) → IsStrictlyIncreasing (map (λ c. c.address) cells) → Rises 0 cells
unfolding Rises
Rises-all [] increasing = tt
Rises-all (cell ∷ cells) increasing = Rises-from_increasing 0 cell cells (omega arith) increasing

cell_at-low : (cells : List Cell) (low address : ℕ) (cell : Cell) → Rises low cells → cell_at cells address ≡ Some cell → low ≤ address
unfolding Rises cell_at
cell_at-low [] low address cell rises found = absurd cc
cell_at-low (first ∷ cells) low address cell rises found =
    let above : low ≤ first.address = rises.0 in
    elim (found_here (eqb first.address address) first cell (cell_at cells address) found) [
      | inl here ↦ let same = eqb-true first.address address here.0 in omega arith
      | inr later ↦ let more = cell_at-low cells (suc first.address) address cell rises.1 later.1 in omega arith
    ]

count_by-low : (cells : List Cell) (low address : ℕ) → Rises low cells → address ≤ low → count_by (λ c. ltb c.address address) cells ≡ 0
unfolding Rises
count_by-low [] low address rises below = refl
count_by-low (first ∷ cells) low address rises below =
    let above : low ≤ first.address = rises.0 in
    let split = sum_by-cons (λ (c : Cell). cond (ltb c.address address) 1 0) first cells in
    let no = le-ltb first.address address (omega arith) in
    let none = count_by-low cells (suc first.address) address rises.1 (omega arith) in
    rw (split, no) (omega arith)

cell_at-location : (cells : List Cell) (low address : ℕ) (cell d : Cell) → Rises low cells → cell_at cells address ≡ Some cell
    → (count_by (λ c. ltb c.address address) cells < length cells) × (get_or cells (count_by (λ c. ltb c.address address) cells) d ≡ cell)
unfolding Rises cell_at
cell_at-location [] low address cell d rises found = absurd cc
cell_at-location (first ∷ cells) low address cell d rises found =
    let split = sum_by-cons (λ (c : Cell). cond (ltb c.address address) 1 0) first cells in
    elim (found_here (eqb first.address address) first cell (cell_at cells address) found) [
      | inl here ↦
          let same = eqb-true first.address address here.0 in
          let no = le-ltb first.address address (omega arith) in
          let none = count_by-low cells (suc first.address) address rises.1 (omega arith) in
          let count : count_by (λ (c : Cell). ltb c.address address) (first ∷ cells) ≡ 0 = rw (split, no) (omega arith) in
          rw count (omega arith, here.1)
      | inr later ↦
          let more = cell_at-low cells (suc first.address) address cell rises.1 later.1 in
          let yes = lt-ltb first.address address (omega arith) in
          let rest = cell_at-location cells (suc first.address) address cell d rises.1 later.1 in
          let count : count_by (λ (c : Cell). ltb c.address address) (first ∷ cells) ≡ suc (count_by (λ (c : Cell). ltb c.address address) cells) = rw (split, yes) (omega arith) in
          rw count (omega (arith, rest.0), rest.1)
    ]

-- the index of an address is below the size, and the cell at this location is the address's
pub index_at-cell : (cells : List Cell) (address index : ℕ) (d : Cell) → IsImage cells → index_at cells address ≡ Some index
    → (index < size_of cells) × (cell_at cells address ≡ Some (get_or cells index d))
unfolding index_at size_of
index_at-cell cells address index d image found =
    let some = some_of (λ (_ : Cell). count_by (λ c. ltb c.address address) cells) (cell_at cells address) index found in
    let location = cell_at-location cells 0 address some.0 d (Rises-all cells image.ascending) some.1 in
    rw (← some.2) (location.0, some.1 ∙ ap (λ (c : Cell). Some c) (sym location.1))

-- the index of an address is below the size
pub index_at-below : (cells : List Cell) (address index : ℕ) → IsImage cells → index_at cells address ≡ Some index → index < size_of cells
index_at-below cells address index image found = (index_at-cell cells address index (record { address = 0; byte = 0; read = false; write = false; exec = false }) image found).0

-- the byte that is loaded at an address stands at its index among the loaded bytes
pub index_at-loaded : (cells : List Cell) (address index : ℕ) → IsImage cells → index_at cells address ≡ Some index → loaded_at cells address ≡ Some (get_or (bytes_of cells) index 0)
unfolding loaded_at bytes_of
index_at-loaded cells address index image found =
    let cell = index_at-cell cells address index (record { address = 0; byte = 0; read = false; write = false; exec = false }) image found in
    rw cell.1 (ap (λ (b : ℕ). Some b) (sym (get_or-map_byte cells index)))
  where
    get_or-map_byte : (cells : List Cell) (k : ℕ) → get_or (map (λ c. c.byte) cells) k 0 ≡ (get_or cells k (record { address = 0; byte = 0; read = false; write = false; exec = false })).byte
    get_or-map_byte [] k = refl
    get_or-map_byte (cell ∷ cells) zero = refl
    get_or-map_byte (cell ∷ cells) (suc k) = get_or-map_byte cells k

-- two addresses with one index are one
pub index_at-injective : (cells : List Cell) (left right index : ℕ) → IsImage cells → index_at cells left ≡ Some index → index_at cells right ≡ Some index → left ≡ right
index_at-injective cells left right index image one other =
    let d : Cell = record { address = 0; byte = 0; read = false; write = false; exec = false } in
    let first = index_at-cell cells left index d image one in
    let second = index_at-cell cells right index d image other in
    sym (cell_at-address cells left (get_or cells index d) first.1) ∙ cell_at-address cells right (get_or cells index d) second.1

-- the next address

count_by-next : (cells : List Cell) (low address : ℕ) (cell : Cell) → Rises low cells → cell_at cells address ≡ Some cell
    → count_by (λ c. ltb c.address (suc address)) cells ≡ suc (count_by (λ c. ltb c.address address) cells)
unfolding Rises cell_at
count_by-next [] low address cell rises found = absurd cc
count_by-next (first ∷ cells) low address cell rises found =
    let split = sum_by-cons (λ (c : Cell). cond (ltb c.address address) 1 0) first cells in
    let split_next = sum_by-cons (λ (c : Cell). cond (ltb c.address (suc address)) 1 0) first cells in
    elim (found_here (eqb first.address address) first cell (cell_at cells address) found) [
      | inl here ↦
          let same = eqb-true first.address address here.0 in
          let no = le-ltb first.address address (omega arith) in
          let yes = lt-ltb first.address (suc address) (omega arith) in
          let none = count_by-low cells (suc first.address) address rises.1 (omega arith) in
          let none_next = count_by-low cells (suc first.address) (suc address) rises.1 (omega arith) in
          rw (split, split_next, no, yes) (omega arith)
      | inr later ↦
          let more = cell_at-low cells (suc first.address) address cell rises.1 later.1 in
          let yes = lt-ltb first.address address (omega arith) in
          let yes_next = lt-ltb first.address (suc address) (omega arith) in
          let rest = count_by-next cells (suc first.address) address cell rises.1 later.1 in
          rw (split, split_next, yes, yes_next) (omega arith)
    ]

always_some : {A : Type 0} (n : ℕ) (o : Option A) → is_some (option_map (λ _. n) o) ≡ true → option_map (λ _. n) o ≡ Some n
always_some n None some = absurd cc
always_some n (Some x) some = refl

-- the address after an accessible one has the next index, if it is accessible
pub index_at-next : (cells : List Cell) (address index : ℕ) → IsImage cells → index_at cells address ≡ Some index → is_some (index_at cells (suc address)) ≡ true
    → index_at cells (suc address) ≡ Some (suc index)
unfolding index_at
index_at-next cells address index image found accessible =
    let some = some_of (λ (_ : Cell). count_by (λ c. ltb c.address address) cells) (cell_at cells address) index found in
    let next = count_by-next cells 0 address some.0 (Rises-all cells image.ascending) some.1 in
    let count : count_by (λ c. ltb c.address (suc address)) cells ≡ suc index = rw (next, some.2) refl in
    always_some (count_by (λ c. ltb c.address (suc address)) cells) (cell_at cells (suc address)) accessible ∙ ap (λ (n : ℕ). Some n) count

-- the loaded bytes

pub length-bytes_of : (cells : List Cell) → length (bytes_of cells) ≡ size_of cells
unfolding bytes_of size_of
length-bytes_of cells = length-map cells (λ (c : Cell). c.byte)

pub bytes_of-bytes : (cells : List Cell) → IsImage cells → All (λ byte. byte < 256) (bytes_of cells)
unfolding bytes_of
bytes_of-bytes cells image = mapped cells image.bytes
  where
    mapped : (cells : List Cell) → All (λ cell. cell.byte < 256) cells → All (λ byte. byte < 256) (map (λ c. c.byte) cells)
    mapped [] all k d inside = absurd (omega arith)
    mapped (cell ∷ cells) all zero d inside = all 0 cell (omega arith)
    mapped (cell ∷ cells) all (suc k) d inside = mapped cells (λ j e within. all (suc j) e (omega arith)) k d (omega arith)

-- a loaded byte is a byte
pub loaded_at-byte : (cells : List Cell) (address byte : ℕ) → IsImage cells → loaded_at cells address ≡ Some byte → byte < 256
unfolding loaded_at
loaded_at-byte cells address byte image found =
    let some = some_of (λ (c : Cell). c.byte) (cell_at cells address) byte found in
    let below = cell_at-All (λ c. c.byte < 256) cells address some.0 image.bytes some.1 in
    let same : some.0.byte ≡ byte = some.2 in
    omega arith

-- the fetched word

byte_or_zero : (cells : List Cell) (address : ℕ) → IsImage cells → unwrap_or (loaded_at cells address) 0 < 256
byte_or_zero cells address image = below (loaded_at cells address) (λ byte found. loaded_at-byte cells address byte image found)
  where
    below : (o : Option ℕ) → ((byte : ℕ) → o ≡ Some byte → byte < 256) → unwrap_or o 0 < 256
    below None each = omega arith
    below (Some byte) each = each byte refl

pub word_at-word : (cells : List Cell) (address : ℕ) → IsImage cells → word_at cells address < 2 ^ 32
unfolding word_at
word_at-word cells address image =
    omega (arith, byte_or_zero cells address image, byte_or_zero cells (address + 1) image, byte_or_zero cells (address + 2) image, byte_or_zero cells (address + 3) image)

-- a fetched word has 32 bits
pub fetch_at-word : (cells : List Cell) (pc word : ℕ) → IsImage cells → fetch_at cells pc ≡ Some word → word < 2 ^ 32
unfolding fetch_at
fetch_at-word cells pc word image found =
    let below = word_at-word cells pc image in
    let same : word_at cells pc ≡ word = fetched (eqb (pc % 4) 0 && executable_word_at cells pc) (word_at cells pc) word found in
    omega arith
  where
    fetched : (b : Bool) (x y : ℕ) → cond b (Some x) None ≡ Some y → x ≡ y
    fetched true x y e = cc
    fetched false x y e = absurd cc

-- what fits memory can be built without extra spans
pub CanBuild-none : (elf : Elf) → FitsMemory (segment_extents elf) → CanBuild elf []
CanBuild-none elf fits = rw (append-nil (segment_extents elf)) fits
