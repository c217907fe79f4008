-- The phases of commands and the refusals of files that aren't there, computed by the definitions.
use Rattle.std.proofs.Common.{◌≡◌, ℕ, List, [], ◌∷◌, Option, None, Some, refl}
use Rattle.ct_lines.specs.declared.command.Command.{Command}
use Rattle.ct_lines.specs.declared.command.Command.TheVariants.{Byte, Check, Replay, List as Listing, Gen}
use Rattle.ct_lines.specs.Commands.{files_of}
use Rattle.ct_pairs.specs.declared.entry.Entry.{Entry}
use Rattle.ct_main.specs.declared.refusal.Refusal.TheVariants.{ReadFault}
use Rattle.ct_main.specs.Phases.{names_of, phases_of, phases_refusal, refusal_of}

-- the names that the phases of a command ask for are those of its files
names_asked : Command → List (List ℕ)
names_asked command = names_of (phases_of command)

byte_asks_for_one : (binary : List ℕ) (entry : Entry) (bound : ℕ) → names_asked (Byte binary entry bound) ≡ files_of (Byte binary entry bound)
unfolding names_asked
byte_asks_for_one binary entry bound = refl

check_asks_for_two : (binary policy : List ℕ) (bound : Option ℕ) (workers budget targets : ℕ) → names_asked (Check binary policy bound workers budget targets) ≡ binary ∷ policy ∷ []
unfolding names_asked
check_asks_for_two binary policy bound workers budget targets = refl

list_asks_for_one : (binary : List ℕ) → names_asked (Listing binary) ≡ binary ∷ []
unfolding names_asked
list_asks_for_one binary = refl

-- an executable that isn't there is refused for that, and generated code is refused for nothing
absent_executable : (binary policy : List ℕ) (bound : Option ℕ) (workers budget targets : ℕ) → refusal_of (Check binary policy bound workers budget targets) (λ _. None) ≡ Some ReadFault
unfolding phases_refusal
absent_executable binary policy bound workers budget targets = refl

replay_asks_for_three : (binary policy pair : List ℕ) → names_asked (Replay binary policy pair) ≡ binary ∷ policy ∷ pair ∷ []
unfolding names_asked
replay_asks_for_three binary policy pair = refl

gen_asks_for_none : (number size : ℕ) → names_asked (Gen number size) ≡ []
unfolding names_asked
gen_asks_for_none number size = refl

gen_is_not_refused : (number size : ℕ) (known : List ℕ → Option (List ℕ)) → refusal_of (Gen number size) known ≡ None
unfolding phases_refusal
gen_is_not_refused number size known = refl
