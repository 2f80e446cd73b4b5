use Rattle.std.proofs.Common.{sym, ◌∙◌}
use Rattle.ap_elf.specs.Machines.{number_of}
use Rattle.ap_inspect.proofs.Takens.{taken-there}
use Rattle.ap_inspect.proofs.headers.push_taken.Goals as goal

-- src/headers.rt:37:28
pub push_quoted-requires : goal.push_quoted-requires
push_quoted-requires c = taken-there (number_of c.args.machine) c.args.file.now c.in-Some.statement.1 c.in-Some.statement.0 (sym c.embedded.ensures ∙ c.in-Some.is)
