-- Where the parts of a file of generated code stand.
use Rattle.std.proofs.Common.{◌≡◌, ℕ, ◌+◌, ◌*◌, List, [], ◌∷◌, ◌++◌, length, take, drop, refl, ap, ◌∙◌, arith, append_assoc, length-append}
use Rattle.std.proofs.Math.Seq.{drop-append_seam}
use Rattle.std.proofs.lemmas.List.{take-append-le, take_all}
use Rattle.ct_gen.specs.Files.{halves, words, headers, size_of, symbol_table, names, padding, section_header, section_headers, names_offset, sections_offset, file_of}
use Rattle.ct_gen.proofs.FileReading.{length-headers}

pub length-words : (numbers : List ℕ) → length (words numbers) ≡ 4 * length numbers
unfolding words
length-words [] = refl
length-words (number ∷ numbers) = omega (arith, length-words numbers)

pub length-symbols : length symbol_table ≡ 64
unfolding symbol_table words halves
length-symbols = refl

pub length-names : length names ≡ 18
unfolding names
length-names = refl

pub length-sections : (size : ℕ) → length (section_headers size) ≡ 120
unfolding section_headers section_header words
length-sections size = refl

-- what stands behind the headers, behind the code, behind the symbol table, and before the section headers
abbrev pub after_names : ℕ → List ℕ
after_names size = padding ++ section_headers size

abbrev pub after_symbols : ℕ → List ℕ
after_symbols size = names ++ after_names size

abbrev pub after_code : ℕ → List ℕ
after_code size = symbol_table ++ after_symbols size

abbrev pub after_headers : List ℕ → List ℕ
after_headers code = words code ++ after_code (size_of code)

abbrev pub before_sections : List ℕ → List ℕ
before_sections code = headers (size_of code) ++ words code ++ symbol_table ++ names ++ padding

pub file_from_headers : (code : List ℕ) → file_of code ≡ headers (size_of code) ++ after_headers code
unfolding file_of
file_from_headers code = simp append_assoc

pub file_from_code : (code : List ℕ) → file_of code ≡ (headers (size_of code) ++ words code) ++ after_code (size_of code)
unfolding file_of
file_from_code code = simp append_assoc

pub file_from_symbols : (code : List ℕ) → file_of code ≡ (headers (size_of code) ++ words code ++ symbol_table) ++ after_symbols (size_of code)
unfolding file_of
file_from_symbols code = simp append_assoc

pub length-before_sections : (code : List ℕ) → length (before_sections code) ≡ sections_offset (size_of code)
length-before_sections code =
    omega (
      arith,
      length-headers (size_of code),
      length-words code,
      length-symbols,
      length-names,
      length-append (headers (size_of code)) (words code),
      length-append (headers (size_of code) ++ words code) symbol_table,
      length-append (headers (size_of code) ++ words code ++ symbol_table) names,
      length-append (headers (size_of code) ++ words code ++ symbol_table ++ names) padding,
    )

pub length-file : (code : List ℕ) → length (file_of code) ≡ 320 + size_of code
unfolding file_of
length-file code = omega (arith, length-before_sections code, length-sections (size_of code), length-append (before_sections code) (section_headers (size_of code)))

-- what stands behind so many bytes
pub drop_front : (front back : List ℕ) (n : ℕ) → length front ≡ n → drop n (front ++ back) ≡ back
drop_front front back n same = rw (← same) (drop-append_seam front back)

-- the first bytes
pub take_front : (front back : List ℕ) (n : ℕ) → length front ≡ n → take n (front ++ back) ≡ front
take_front front back n same = take-append-le n front back (omega arith) ∙ take_all n front (omega arith)

pub drop_headers : (code : List ℕ) → drop 116 (file_of code) ≡ after_headers code
drop_headers code = ap (drop 116) (file_from_headers code) ∙ drop_front (headers (size_of code)) (after_headers code) 116 (length-headers (size_of code))

pub drop_code : (code : List ℕ) → drop (116 + size_of code) (file_of code) ≡ after_code (size_of code)
drop_code code =
    ap (drop (116 + size_of code)) (file_from_code code)
    ∙ drop_front (headers (size_of code) ++ words code) (after_code (size_of code)) (116 + size_of code)
    (omega (arith, length-headers (size_of code), length-words code, length-append (headers (size_of code)) (words code)))

pub drop_symbols : (code : List ℕ) → drop (names_offset (size_of code)) (file_of code) ≡ after_symbols (size_of code)
drop_symbols code =
    ap (drop (names_offset (size_of code))) (file_from_symbols code)
    ∙ drop_front (headers (size_of code) ++ words code ++ symbol_table) (after_symbols (size_of code)) (names_offset (size_of code))
    (omega (
      arith,
      length-headers (size_of code),
      length-words code,
      length-symbols,
      length-append (headers (size_of code)) (words code),
      length-append (headers (size_of code) ++ words code) symbol_table,
    ))

pub drop_names : (code : List ℕ) → drop (sections_offset (size_of code)) (file_of code) ≡ section_headers (size_of code)
unfolding file_of
drop_names code = drop_front (before_sections code) (section_headers (size_of code)) (sections_offset (size_of code)) (length-before_sections code)
