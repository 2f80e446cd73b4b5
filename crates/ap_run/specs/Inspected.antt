-- What is reported on a file.
use Rattle.std.specs.Prelude.{Ok, Err}
use Rattle.ap_inspect.specs.Reports.{IsReport}
use Rattle.ap_run.specs.Whole.{Sized, Telling}

-- a file that is read has a report
abbrev pub ReportsTo : Telling
ReportsTo file (Ok text) = IsReport file text
ReportsTo file (Err f) = ⊥

-- the same of a file of any length
abbrev pub Inspected : Telling
Inspected = Sized ReportsTo
