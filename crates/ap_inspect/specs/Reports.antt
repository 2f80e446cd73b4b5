-- The report on a file.
use Rattle.std.specs.Prelude.{◌≡◌, ℕ, List, ◌++◌, length, codes, Option}
use Rattle.ap_elf.specs.declared.constants.TheConstants.{EM_X86_64, EM_AARCH64}
use Rattle.ap_pe.specs.Format.{headers_of}
use Rattle.ap_pemap.specs.PePlans.{pe_plan}
use Rattle.ap_machmap.specs.MachPlans.{mach_plan}
use Rattle.ap_loader.specs.ApeReading.{ape_plan}
use Rattle.ap_loader.specs.Embedded.{taken}
use Rattle.ap_octal.specs.declared.types.DdStatement.{DdStatement}
use Rattle.ap_inspect.specs.declared.asked.Answers.{Answers}
use Rattle.ap_inspect.specs.Fronts.{front_lines}
use Rattle.ap_inspect.specs.StatementLines.{AreStatements}
use Rattle.ap_octal.specs.DdPlace.{IsDd}
use Rattle.ap_inspect.specs.DdLines.{dd_line, after_dd}
use Rattle.ap_inspect.specs.ReadingTexts.{pe_text, mach_text, ape_text}
use Rattle.ap_inspect.specs.Owners.{magic_owner, pe_owners, statement_owner, table_owner, mach_owner, where_mapped, area_owners}

-- what the four readings answer of a file
abbrev pub answers_of : List ℕ → Option DdStatement → Answers
answers_of file dd = record {
  pe = pe_plan file;
  mach = mach_plan (after_dd file dd);
  x64 = ape_plan EM_X86_64 4096 file;
  arm64 = ape_plan EM_AARCH64 16384 file;
}

-- their texts
unfoldable pub readings_text : Answers → List ℕ
readings_text a = pe_text a.pe ++ (mach_text a.mach ++ (ape_text (codes "ape-62") a.x64 ++ ape_text (codes "ape-183") a.arm64))

-- lines on the statements from which the APE readings take their headers
unfoldable pub statement_owners : List ℕ → Answers → List ℕ
statement_owners file a =
    where_mapped a.x64 (statement_owner file (taken EM_X86_64 file))
    ++ where_mapped a.arm64 (statement_owner file (taken EM_AARCH64 file))

-- and on the program header tables that these headers name
unfoldable pub table_owners : List ℕ → Answers → List ℕ
table_owners file a =
    where_mapped a.x64 (table_owner (taken EM_X86_64 file)) ++ where_mapped a.arm64 (table_owner (taken EM_AARCH64 file))

-- the blocks that the `dd` statement copies, and what the APE readings map
unfoldable pub mapped_owners : ℕ → Option DdStatement → Answers → List ℕ
mapped_owners len dd a = where_mapped a.mach (mach_owner len dd) ++ (area_owners a.x64 ++ area_owners a.arm64)

-- the owners of the file's bytes
unfoldable pub owners_text : List ℕ → Option DdStatement → Answers → List ℕ
owners_text file dd a =
    magic_owner file ++ (where_mapped a.pe (pe_owners (headers_of file))
    ++ (statement_owners file a ++ (table_owners file a ++ mapped_owners (length file) dd a)))

-- what its readings say of a file, and whose its bytes are
abbrev pub answers_text : List ℕ → Option DdStatement → Answers → List ℕ
answers_text file dd a = readings_text a ++ owners_text file dd a

-- a text is the report on a file
pub record IsReport (file text : List ℕ) : Type 0 where
  pub statements : List ℕ
  pub dd : Option DdStatement
  pub are_statements : AreStatements file 0 statements
  pub is_dd : IsDd file dd
  pub lines : text ≡ front_lines file ++ (statements ++ (dd_line dd ++ answers_text file dd (answers_of file dd)))
