-- What is true of a report on an index that may be read at its point.
use Rattle.std.specs.Prelude.{◌≡◌}
use Rattle.px_verify.specs.declared.report.Report.{Report}

-- each row's entry stands, as it should be or in doubt, and none stands besides
pub record ReportAgrees (r : Report) : Type 0 where
  pub missing : r.missing ≡ 0
  pub extra : r.extra ≡ 0
  pub wrong : r.wrong ≡ 0
