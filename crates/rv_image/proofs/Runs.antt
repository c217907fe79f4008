-- Cells of consecutive addresses: what stands at an address, and how many stand below it.
use Rattle.std.proofs.Common.{◌≡◌, ℕ, suc, ◌+◌, ◌-◌, ◌<◌, ◌≤◌, min, Bool, false, cond, eqb, ltb, List, [], ◌∷◌, length, get_or, map, Some, None, ◌⊎◌, refl, ap, inl, inr, arith}
use Rattle.std.specs.List.{find, count_by}
use Rattle.std.proofs.lemmas.Bool.{cases_eq, cases_lt, eq-eqb, ne_eqb, lt-ltb, le-ltb}
use Rattle.std.proofs.lemmas.List.Sums.{sum_by-cons}
use Rattle.rv_image.specs.Cell.{Cell, cells_from}

-- the cell at an address of the run
pub find-cells_from-hit : (bytes : List ℕ) (first address : ℕ) (read write exec : Bool) → first ≤ address → address < first + length bytes
    → find (λ cell. eqb cell.address address) (cells_from first read write exec bytes)
    ≡ Some (record { address = address; byte = get_or bytes (address - first) 0; read = read; write = write; exec = exec })
unfolding cells_from
find-cells_from-hit [] first address read write exec low high = absurd (omega arith)
find-cells_from-hit (byte ∷ bytes) first address read write exec low high =
    elim (cases_eq first address) [
      | inl same ↦
          let here = eq-eqb first address same in
          let none : address - first ≡ 0 = omega arith in
          rw (here, none, same) refl
      | inr other ↦
          let not_here = ne_eqb first address other in
          let one_less : address - first ≡ suc (address - suc first) = omega arith in
          rw (not_here, one_less) (find-cells_from-hit bytes (suc first) address read write exec (omega arith) (omega arith))
    ]

-- no cell is at an address before the run or after it
pub find-cells_from-miss : (bytes : List ℕ) (first address : ℕ) (read write exec : Bool) → (address < first) ⊎ (first + length bytes ≤ address)
    → find (λ cell. eqb cell.address address) (cells_from first read write exec bytes) ≡ None
unfolding cells_from
find-cells_from-miss [] first address read write exec outside = refl
find-cells_from-miss (byte ∷ bytes) first address read write exec outside =
    let not_here : eqb first address ≡ false = ne_eqb first address (λ same. omega arith) in
    let later : (address < suc first) ⊎ (suc first + length bytes ≤ address) = elim outside [ inl before ↦ inl (omega arith) | inr after ↦ inr (omega arith) ] in
    rw not_here (find-cells_from-miss bytes (suc first) address read write exec later)

-- how many cells of the run are below an address
pub count_by-cells_from : (bytes : List ℕ) (first address : ℕ) (read write exec : Bool)
    → count_by (λ cell. ltb cell.address address) (cells_from first read write exec bytes) ≡ min (address - first) (length bytes)
unfolding cells_from
count_by-cells_from [] first address read write exec = omega arith
count_by-cells_from (byte ∷ bytes) first address read write exec =
    let rest = count_by-cells_from bytes (suc first) address read write exec in
    let split = sum_by-cons (λ (cell : Cell). cond (ltb cell.address address) 1 0) (record { address = first; byte = byte; read = read; write = write; exec = exec }) (cells_from (suc first) read write exec bytes) in
    elim (cases_lt first address) [
      | inl below ↦ let yes = lt-ltb first address below in rw (split, yes) (omega arith)
      | inr above ↦ let no = le-ltb first address above in rw (split, no) (omega arith)
    ]

-- a run has a cell for each byte
pub length-cells_from : (bytes : List ℕ) (first : ℕ) (read write exec : Bool) → length (cells_from first read write exec bytes) ≡ length bytes
unfolding cells_from
length-cells_from [] first read write exec = refl
length-cells_from (byte ∷ bytes) first read write exec = ap suc (length-cells_from bytes (suc first) read write exec)

-- the bytes of a run
pub map-cells_from : (bytes : List ℕ) (first : ℕ) (read write exec : Bool) → map (λ cell. cell.byte) (cells_from first read write exec bytes) ≡ bytes
unfolding cells_from
map-cells_from [] first read write exec = refl
map-cells_from (byte ∷ bytes) first read write exec = ap (λ (rest : List ℕ). byte ∷ rest) (map-cells_from bytes (suc first) read write exec)
