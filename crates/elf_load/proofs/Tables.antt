-- A table's entries, one after another.
use Rattle.std.proofs.Common.{◌≡◌, ℕ, zero, suc, ◌+◌, ◌*◌, ◌<◌, ◌≤◌, List, [], ◌∷◌, ◌++◌, length, get_or, drop, Option, Some, None, refl, sym, ap, ◌∙◌, arith}
use Rattle.std.specs.List.{slice_get, filter_map, cons_option}
use Rattle.std.proofs.lemmas.List.{drop_more, drop_all, append-nil}
use Rattle.std.proofs.lemmas.List.Elements.{filter_map-append}
use Rattle.std.proofs.lemmas.List.FromFn.{length-map-range_with_len, get_or-map-range_with_len, map-range_with_len_more}
use Rattle.elf_load.specs.Fields.{entries}

pub entries_none : {T : Type 0} (entry_at : ℕ → List ℕ → T) (size offset : ℕ) (bytes : List ℕ) → entries entry_at size 0 offset bytes ≡ []
unfolding entries
entries_none entry_at size offset bytes = refl

pub entries_more : {T : Type 0} (entry_at : ℕ → List ℕ → T) (size count offset : ℕ) (bytes : List ℕ)
    → entries entry_at size (count + 1) offset bytes ≡ entries entry_at size count offset bytes ++ entry_at (offset + size * count) bytes ∷ []
unfolding entries
entries_more entry_at size count offset bytes = map-range_with_len_more (λ index. entry_at (offset + size * index) bytes) 0 count count (omega arith)

pub length_entries : {T : Type 0} (entry_at : ℕ → List ℕ → T) (size count offset : ℕ) (bytes : List ℕ) → length (entries entry_at size count offset bytes) ≡ count
unfolding entries
length_entries entry_at size count offset bytes = length-map-range_with_len (λ index. entry_at (offset + size * index) bytes) 0 count

pub get_or_entries : {T : Type 0} (entry_at : ℕ → List ℕ → T) (size count offset : ℕ) (bytes : List ℕ) (index : ℕ) (d : T) → index < count
    → get_or (entries entry_at size count offset bytes) index d ≡ entry_at (offset + size * index) bytes
unfolding entries
get_or_entries entry_at size count offset bytes index d inside =
    get_or-map-range_with_len (λ i. entry_at (offset + size * i) bytes) 0 count index index d inside (omega arith)

-- what is left of a table from an entry on
pub drop_entries : {T : Type 0} (entry_at : ℕ → List ℕ → T) (size count offset : ℕ) (bytes : List ℕ) (index : ℕ) → index < count
    → drop index (entries entry_at size count offset bytes) ≡ entry_at (offset + size * index) bytes ∷ drop (index + 1) (entries entry_at size count offset bytes)
drop_entries entry_at size count offset bytes index inside =
    let table = entries entry_at size count offset bytes in
    let first = entry_at (offset + size * index) bytes in
    drop_more table index first (omega (arith, length_entries entry_at size count offset bytes))
    ∙ ap (λ entry. entry ∷ drop (index + 1) table) (get_or_entries entry_at size count offset bytes index first inside)

slice_get-in : {T : Type 0} (xs : List T) (index : ℕ) (d : T) → index < length xs → slice_get xs index ≡ Some (get_or xs index d)
slice_get-in [] index d inside = absurd (omega arith)
slice_get-in (x ∷ xs) zero d inside = refl
slice_get-in (x ∷ xs) (suc index) d inside = slice_get-in xs index d (omega arith)

slice_get-past : {T : Type 0} (xs : List T) (index : ℕ) → length xs ≤ index → slice_get xs index ≡ None
slice_get-past [] index past = refl
slice_get-past (x ∷ xs) zero past = absurd (omega arith)
slice_get-past (x ∷ xs) (suc index) past = slice_get-past xs index (omega arith)

pub slice_get_entries : {T : Type 0} (entry_at : ℕ → List ℕ → T) (size count offset : ℕ) (bytes : List ℕ) (index : ℕ) → index < count
    → slice_get (entries entry_at size count offset bytes) index ≡ Some (entry_at (offset + size * index) bytes)
slice_get_entries entry_at size count offset bytes index inside =
    let first = entry_at (offset + size * index) bytes in
    slice_get-in (entries entry_at size count offset bytes) index first (omega (arith, length_entries entry_at size count offset bytes))
    ∙ ap (λ entry. Some entry) (get_or_entries entry_at size count offset bytes index first inside)

pub slice_get_entries_past : {T : Type 0} (entry_at : ℕ → List ℕ → T) (size count offset : ℕ) (bytes : List ℕ) (index : ℕ) → count ≤ index
    → slice_get (entries entry_at size count offset bytes) index ≡ None
slice_get_entries_past entry_at size count offset bytes index past =
    slice_get-past (entries entry_at size count offset bytes) index (omega (arith, length_entries entry_at size count offset bytes))

-- nothing is left of a table at its end
pub drop_entries_all : {T : Type 0} (entry_at : ℕ → List ℕ → T) (size count offset : ℕ) (bytes : List ℕ) (index : ℕ) → count ≤ index
    → drop index (entries entry_at size count offset bytes) ≡ []
drop_entries_all entry_at size count offset bytes index past =
    drop_all index (entries entry_at size count offset bytes) (omega (arith, length_entries entry_at size count offset bytes))

filter_map-one : {X Y : Type 0} (h : X → Option Y) (xs : List X) (x : X) → filter_map h (xs ++ x ∷ []) ≡ filter_map h xs ++ cons_option (h x) []
filter_map-one h xs x = filter_map-append h xs (x ∷ [])

-- one entry more gives one item more, or none
pub filter_map_entries_more : {T Y : Type 0} (h : T → Option Y) (entry_at : ℕ → List ℕ → T) (size count offset place : ℕ) (bytes : List ℕ) (y : Y)
    → place ≡ offset + size * count → h (entry_at place bytes) ≡ Some y
    → filter_map h (entries entry_at size (count + 1) offset bytes) ≡ filter_map h (entries entry_at size count offset bytes) ++ y ∷ []
filter_map_entries_more h entry_at size count offset place bytes y there gives =
    ap (filter_map h) (entries_more entry_at size count offset bytes)
    ∙ filter_map-one h (entries entry_at size count offset bytes) (entry_at (offset + size * count) bytes)
    ∙ ap (λ one. filter_map h (entries entry_at size count offset bytes) ++ cons_option one []) (ap (λ at. h (entry_at at bytes)) (sym there) ∙ gives)

pub filter_map_entries_same : {T Y : Type 0} (h : T → Option Y) (entry_at : ℕ → List ℕ → T) (size count offset place : ℕ) (bytes : List ℕ)
    → place ≡ offset + size * count → h (entry_at place bytes) ≡ None
    → filter_map h (entries entry_at size (count + 1) offset bytes) ≡ filter_map h (entries entry_at size count offset bytes)
filter_map_entries_same h entry_at size count offset place bytes there gives =
    ap (filter_map h) (entries_more entry_at size count offset bytes)
    ∙ filter_map-one h (entries entry_at size count offset bytes) (entry_at (offset + size * count) bytes)
    ∙ ap (λ one. filter_map h (entries entry_at size count offset bytes) ++ cons_option one []) (ap (λ at. h (entry_at at bytes)) (sym there) ∙ gives)
    ∙ append-nil (filter_map h (entries entry_at size count offset bytes))
