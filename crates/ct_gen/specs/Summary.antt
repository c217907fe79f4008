-- The line that sums up a check of generated code.
use Rattle.std.specs.Prelude.{ℕ, List, ◌++◌, length, codes, decimal}
use Rattle.ct_rows.specs.Lines.{line}
use Rattle.ct_report.specs.declared.outcome.Outcome.{Outcome}
use Rattle.ct_report.specs.Report.{finding_of, finding_name}

-- how many there are of what is named
abbrev pub counted : ℕ → List ℕ → List ℕ
counted count name = decimal count ++ codes " " ++ name ++ codes ", "

-- the line for a number and a size, whose code has so many words
unfoldable pub summary_of : ℕ → ℕ → ℕ → Outcome → List ℕ
summary_of number size words outcome =
    line (codes "gen " ++ decimal number ++ codes " " ++ decimal size ++ codes ": "
    ++ counted words (codes "words")
    ++ counted (length outcome.sites) (codes "sites")
    ++ counted (length outcome.listed) (codes "places")
    ++ counted outcome.doubts (codes "doubts")
    ++ counted outcome.paths (codes "paths")
    ++ finding_name (finding_of outcome))
