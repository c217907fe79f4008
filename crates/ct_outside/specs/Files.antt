-- Files by name, and the one that is begun.
use Rattle.std.specs.Prelude.{ℕ, List, [], ◌∷◌, map, Option, None, Some, bytes_eq, if◌then◌else◌, String, Vec, string_bytes}
use Rattle.std.specs.declared.alloc.Global.{Global}

-- the bytes of the first file of this name, if there is one
abbrev pub file_of : List (List ℕ × List ℕ) → List ℕ → Option (List ℕ)
file_of [] name = None
file_of (file ∷ files) name = if bytes_eq file.0 name then Some file.1 else file_of files name

-- files in memory: each file's name and bytes, the names asked for in order,
-- the bytes of the file begun that are still to come, and the number of its bytes that were given
pub record Named : Type 0 where
  pub files : List (List ℕ × List ℕ)
  pub asked : List (List ℕ)
  pub remaining : List ℕ
  pub given : ℕ

-- the names and bytes of files as a program holds them
abbrev pub named : List (String Global × Vec ℕ Global) → List (List ℕ × List ℕ)
named files = map (λ file. (string_bytes file.0, file.1.items)) files

-- the bytes of each of these files
abbrev pub contents : List (String Global × Vec ℕ Global) → List (List ℕ)
contents files = map (λ file. file.1.items) files

-- the bytes of each of these texts
abbrev pub texts : List (String Global) → List (List ℕ)
texts names = map string_bytes names
