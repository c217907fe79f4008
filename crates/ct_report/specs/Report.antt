-- The report of a check, as a text of lines.
use Rattle.std.specs.Prelude.{ℕ, List, [], ◌∷◌, ◌++◌, length, Option, Some, None, codes, decimal, All}
use Rattle.std.specs.List.{flat_map}
use Rattle.std.specs.Option.{option_map_or}
use Rattle.rv_decode.specs.declared.instr.Instr.{Instr}
use Rattle.rv_image.specs.Cell.{Cell}
use Rattle.ct_pairs.specs.declared.job.Job.{Job}
use Rattle.ct_pairs.specs.declared.found.Found.{Found}
use Rattle.ct_pairs.specs.declared.byte_table.ByteTable.{ByteTable}
use Rattle.ct_entries.specs.declared.listed.Listed.{Listed}
use Rattle.ct_report.specs.declared.outcome.Outcome.{Outcome}
use Rattle.ct_report.specs.declared.finding.Finding.{Finding}
use Rattle.ct_report.specs.declared.finding.Finding.TheVariants.{Secure, Insecure, Unknown}
use Rattle.rv_decode.specs.Text.{address_text, text_value}
use Rattle.ct_texts.specs.Bytes.{bytes_text}
use Rattle.ct_report.specs.Kind.{kind_of, kind_name, instruction_at, HasKind}
use Rattle.ct_report.specs.Places.{place_line}
use Rattle.ct_rows.specs.Lines.{line}

-- a routine is insecure where some site was found, and else secure where no question was left open
abbrev pub finding_of : Outcome → Finding
finding_of outcome = of_both outcome.sites outcome.listed where
  of_both : List Found → List Listed → Finding
  of_both [] [] = Secure
  of_both [] (place ∷ listed) = Unknown
  of_both (found ∷ sites) listed = Insecure

-- the word of a finding
abbrev pub finding_name : Finding → List ℕ
finding_name Secure = codes "secure"
finding_name Insecure = codes "insecure"
finding_name Unknown = codes "unknown"

-- the outcome of a check of all pairs, which leaves nothing open
abbrev pub outcome_of : ByteTable → Outcome
outcome_of table = record { sites = table.sites; listed = []; doubts = 0; paths = table.paths }

-- the image has at each site an instruction with a kind
abbrev pub SitesHaveKinds : Job → List Found → Type 0
SitesHaveKinds job sites = All (λ found. HasKind job.image found.site) sites

-- the kind and the text of the instruction at an address
abbrev pub instruction_text : List Cell → ℕ → List ℕ
instruction_text image pc = text_at (instruction_at image pc) where
  text_at : Option Instr → List ℕ
  text_at None = []
  text_at (Some instr) = option_map_or kind_name (kind_of instr) [] ++ codes " " ++ text_value instr pc

-- where a site is, at which step and with which instruction
unfoldable pub site_line : List Cell → Found → List ℕ
site_line image found =
    line (codes "site " ++ address_text found.site ++ codes " step " ++ decimal found.step ++ codes " " ++ instruction_text image found.site)

-- a site, and a pair of starts that splits there
unfoldable pub site_lines : List Cell → Found → List ℕ
site_lines image found =
    site_line image found
    ++ line (codes "shared " ++ bytes_text found.pair.shared)
    ++ line (codes "left " ++ bytes_text found.pair.left)
    ++ line (codes "right " ++ bytes_text found.pair.right)

-- the whole report
unfoldable pub report_of : Job → Outcome → List ℕ
report_of job outcome =
    line (codes "ctrel report 1")
    ++ line (codes "verdict " ++ finding_name (finding_of outcome))
    ++ line (codes "bound " ++ decimal job.bound)
    ++ line (codes "paths " ++ decimal outcome.paths)
    ++ line (codes "doubts " ++ decimal outcome.doubts)
    ++ line (codes "sites " ++ decimal (length outcome.sites))
    ++ flat_map (site_lines job.image) outcome.sites
    ++ line (codes "places " ++ decimal (length outcome.listed))
    ++ flat_map (place_line job) outcome.listed
