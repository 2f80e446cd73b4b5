-- The text of what a PE32+ file imports.
use Rattle.std.specs.Prelude.{ℕ, List, ◌∷◌, ◌++◌, codes, decimal, flat_map}
use Rattle.ap_image.specs.declared.import_item.Import.{Import}
use Rattle.ap_image.specs.declared.import_item.Wanted.{Wanted}
use Rattle.ap_image.specs.declared.import_item.Wanted.TheVariants.{Name, Ordinal}
use Rattle.ap_run.specs.ByteTexts.{bytes_text}
use Rattle.ap_texts.specs.PlanTexts.{hex_of}

-- what is imported: a name, or a number in decimal digits
abbrev pub wanted_text : Wanted → List ℕ
wanted_text (Name name) = bytes_text name
wanted_text (Ordinal number) = 35 ∷ decimal number

-- the DLL, what is imported of it, and the slot
unfoldable pub import_line : Import → List ℕ
import_line i = codes "import " ++ (bytes_text i.dll ++ (32 ∷ (wanted_text i.what ++ (32 ∷ (hex_of i.slot ++ codes "\n")))))

abbrev pub imports_text : List Import → List ℕ
imports_text imports = flat_map import_line imports
