-- The files of a host: a finite map from names, which are any lists of bytes, to files.
use Rattle.std.specs.Prelude.{ℕ, List, map, refl}
use Rattle.std.specs.FinMap as fin
use Rattle.std.specs.Ordering.{nat_cmp}
use Rattle.std.specs.Cmp.Lexicographic.{slice_cmp}
use Rattle.std.specs.Coded.{Coded, code_by, coded×, coded_list, coded_ℕ}
use Rattle.std.specs.BTreeMap.{BTreeMap}
use Rattle.std.specs.declared.vec.Vec.{Vec}
use Rattle.std.specs.declared.alloc.Global.{Global}
use Rattle.ap_shell.specs.declared.map.HostFile.{HostFile}

abbrev pub Text : Type 0
Text = List ℕ

abbrev pub file_code : Coded HostFile
file_code =
    code_by (List ℕ × ℕ) (coded× (coded_list coded_ℕ) coded_ℕ)
    (λ f. (f.bytes, f.mode)) (λ p. record { bytes = p.0; mode = p.1 }) (λ _. refl)

abbrev pub FileMap : Type 0
FileMap = fin.FinMap (slice_cmp nat_cmp) HostFile

abbrev pub named_by : Vec ℕ Global × HostFile → Text × HostFile
named_by e = (e.0.items, e.1)

abbrev pub entries_in : List (Vec ℕ Global × HostFile) → FileMap
entries_in es = fin.from_entries (map named_by es)

-- the names and files of a tree of them
unfoldable pub files_in : BTreeMap (Vec ℕ Global) HostFile → FileMap
files_in m = entries_in m.entries
