-- How two runs compare, as a text of lines.
use Rattle.std.specs.Prelude.{ℕ, List, ◌++◌, codes, decimal}
use Rattle.rv_decode.specs.Text.{address_text}
use Rattle.ct_rows.specs.Lines.{line}
use Rattle.ct_texts.specs.Records.{record_text}
use Rattle.rv_machine.specs.declared.«record».Record.{Record}
use Rattle.pair_replay.specs.declared.replayed.Replayed.{Replayed}
use Rattle.pair_replay.specs.declared.replayed.Replayed.TheVariants.{Agree, Differ}

-- the line of runs that show the same: in how many steps
unfoldable pub agree_line : ℕ → List ℕ
agree_line steps = line (codes "agree steps " ++ decimal steps)

-- where runs first differ: at which step and site
unfoldable pub place_text : ℕ → ℕ → List ℕ
place_text step site = codes "differ step " ++ decimal step ++ codes " site " ++ address_text site

-- what a run shows there, after the run's name
unfoldable pub run_line : List ℕ → Record → List ℕ
run_line name seen = line (name ++ codes " " ++ record_text seen)

-- how two runs compare
abbrev pub replay_text : Replayed → List ℕ
replay_text (Agree steps) = agree_line steps
replay_text (Differ split) = line (place_text split.step split.left.pc) ++ run_line (codes "left") split.left ++ run_line (codes "right") split.right
