-- A formula and the log that refutes it.
use Rattle.std.specs.Prelude.{List}
use Rattle.cnf_form.specs.declared.cnf.Cnf.{Cnf}
use Rattle.cnf_form.specs.declared.line.Line.{Line}

pub record Refuted : Type 0 where
  pub formula : Cnf
  pub log : List Line
