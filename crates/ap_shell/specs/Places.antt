-- Files by their names. `/dev/null` (POSIX.1, 10.1) is no file of the host: it reads as empty, and what is written there is
-- gone.
use Rattle.std.specs.Prelude.{ℕ, Bool, if◌then◌else◌, List, [], codes, Option, Some, None, unwrap_or, option_map}
use Rattle.std.specs.Str.{bytes_eq}
use Rattle.std.specs.FinMap as fin
use Rattle.ap_shell.specs.Files.{Text, FileMap}
use Rattle.ap_shell.specs.declared.map.HostFile.{HostFile}

unfoldable pub is_null : Text → Bool
is_null name = bytes_eq name (codes "/dev/null")

-- the file of the host with this name
unfoldable pub host_file : Text → FileMap → Option HostFile
host_file name files = if is_null name then None else fin.get files name

-- what is read at this name: `/dev/null` as an empty file of mode 0600
unfoldable pub file_at : Text → FileMap → Option HostFile
file_at name files = if is_null name then Some (record { bytes = []; mode = 384 }) else host_file name files

-- the files after a file was written at this name
unfoldable pub with_file : Text → HostFile → FileMap → FileMap
with_file name file files = if is_null name then files else fin.insert files name file

abbrev pub mode_or : Option HostFile → ℕ → ℕ
mode_or file mode = unwrap_or (option_map (λ f. f.mode) file) mode

abbrev pub bytes_or_none : Option HostFile → List ℕ
bytes_or_none None = []
bytes_or_none (Some f) = f.bytes
