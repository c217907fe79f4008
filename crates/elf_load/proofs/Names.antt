-- A name is text that isn't empty.
use Rattle.std.proofs.Common.{◌≡◌, ℕ, Bool, true, false, eqb, List, length, Some, None, refl}
use Rattle.std.specs.Str.{IsUtf8, is_utf8}
use Rattle.std.proofs.lemmas.Str.{IsUtf8-from_is_utf8, is_utf8-from_IsUtf8}
use Rattle.elf_load.specs.Symbols.{only_if, is_name}

pub only_if_name : (bytes : List ℕ) → eqb (length bytes) 0 ≡ false → IsUtf8 bytes → only_if is_name bytes ≡ Some bytes
only_if_name bytes filled text = rw (filled, is_utf8-from_IsUtf8 bytes text) refl

no_text : (bytes : List ℕ) (test : Bool) → is_utf8 bytes ≡ test → (IsUtf8 bytes → ⊥) → test ≡ false
no_text bytes false same none = refl
no_text bytes true same none = absurd (none (IsUtf8-from_is_utf8 bytes same))

pub only_if_no_name : (bytes : List ℕ) → eqb (length bytes) 0 ≡ false → (IsUtf8 bytes → ⊥) → only_if is_name bytes ≡ None
only_if_no_name bytes filled none = rw (filled, no_text bytes (is_utf8 bytes) refl none) refl
