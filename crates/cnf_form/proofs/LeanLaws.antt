-- The lines of a spent log aren't empty, and contain no older clause.
use Rattle.std.proofs.Common.{◌≡◌, ℕ, true, List, [], ◌∷◌, ◌++◌}
use Rattle.cnf_form.specs.declared.lit.Lit.{Lit}
use Rattle.cnf_form.specs.declared.line.Line.{Line}
use Rattle.cnf_form.specs.Clauses.{are_clauses}
use Rattle.cnf_form.specs.Spent.{IsNewLine, AreNewLines, IsLean, AreLean}
use Rattle.cnf_form.proofs.ChainLaws.{AllHave, line_has, AllHave-push}
use Rattle.cnf_form.proofs.CountLaws.{IsGood, good_kept, are_good}
use Rattle.cnf_form.proofs.NewsLaws.{news_not_older, news_not_empty}

line_lean : (n : ℕ) (older : List (List Lit)) (line : Line) → AllHave (IsGood n) older → IsNewLine older line → IsLean older line
line_lean n older line all new = record {
  not_empty = news_not_empty older line.clause new.news;
  no_older = λ k c e. news_not_older older line.clause c k new.news e (all k c e).ascending;
}

lines_lean : (n : ℕ) (older : List (List Lit)) (lines : List Line) → AllHave (IsGood n) older → AreNewLines older lines → AreLean older lines
lines_lean n older [] all new = tt
lines_lean n older (l ∷ ls) all new =
    (line_lean n older l all new.0, lines_lean n (older ++ l.clause ∷ []) ls (AllHave-push (IsGood n) older l.clause all (line_has (IsGood n) (good_kept n) older l all new.0.derived)) new.1)

-- new lines aren't empty, and contain no older clause
pub new_lean : (n : ℕ) (clauses : List (List Lit)) (lines : List Line) → are_clauses n clauses ≡ true → AreNewLines clauses lines → AreLean clauses lines
new_lean n clauses lines good new = lines_lean n clauses lines (are_good n clauses good) new
