-- What a literal and a clause are under what is given.
use Rattle.std.specs.Prelude.{◌≡◌, Bool, true, false, Option, Some, None, List, [], ◌∷◌}
use Rattle.cnf_form.specs.declared.lit.Lit.{Lit}
use Rattle.cnf_form.specs.Literals.{flip, has}
use Rattle.cnf_form.specs.News.{is_free, is_quiet, unfalsified}
use Rattle.cdcl.specs.declared.status.Status.{Status}
use Rattle.cdcl.specs.declared.status.Status.TheVariants.{Falsified, Forcing, Quiet}

-- a literal is true, false or unset
abbrev pub IsValue : List Lit → Lit → Option Bool → Type 0
IsValue given l None = is_free given l.var ≡ true
IsValue given l (Some true) = has given l ≡ true
IsValue given l (Some false) = has given (flip l) ≡ true

-- a clause is false, forces its one literal that is left, or does neither
abbrev pub IsStatus : List Lit → List Lit → Status → Type 0
IsStatus given clause Falsified = unfalsified given clause ≡ []
IsStatus given clause (Forcing l) = (unfalsified given clause ≡ l ∷ []) × (is_free given l.var ≡ true)
IsStatus given clause Quiet = is_quiet given clause ≡ true
