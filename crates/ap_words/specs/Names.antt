-- The names that words are: command words, machines, pages, forms and readings of NUL. All stand in lower case.
use Rattle.std.specs.Prelude.{ℕ, ◌==◌, ◌||◌, if◌then◌else◌, Bool, List, codes, Option, Some, None}
use Rattle.std.specs.Str.{bytes_eq}
use Rattle.ap_elf.specs.declared.machine.Machine.{Machine}
use Rattle.ap_elf.specs.declared.machine.Machine.TheVariants.{X64, A64}
use Rattle.ap_elf.specs.Machines.{granule_of}
use Rattle.ap_shparse.specs.declared.tree.Nul.{Nul}
use Rattle.ap_shparse.specs.declared.tree.Nul.TheVariants.{Keep, Drop}
use Rattle.ap_words.specs.declared.command.Form.{Form}
use Rattle.ap_words.specs.declared.command.Form.TheVariants as form
use Rattle.ap_words.specs.declared.word.Word.{Word}
use Rattle.ap_words.specs.declared.word.Word.TheVariants.{Link, Load, Map, Script, Assimilate, Inspect, Trial, Bind, Bundle, Stack, Audit}

-- the text of a command word
abbrev pub name_of : Word → List ℕ
name_of Link = codes "link"
name_of Load = codes "load"
name_of Map = codes "map"
name_of Script = codes "script"
name_of Assimilate = codes "assimilate"
name_of Inspect = codes "inspect"
name_of Trial = codes "trial"
name_of Bind = codes "bind"
name_of Bundle = codes "bundle"
name_of Stack = codes "stack"
name_of Audit = codes "audit"

-- the command word of a text
abbrev pub later_named : List ℕ → Option Word
later_named name =
    if bytes_eq name (codes "trial") then Some Trial
    else (if bytes_eq name (codes "bind") then Some Bind
    else (if bytes_eq name (codes "bundle") then Some Bundle
    else (if bytes_eq name (codes "stack") then Some Stack
    else (if bytes_eq name (codes "audit") then Some Audit else None))))

abbrev pub word_named : List ℕ → Option Word
word_named name =
    if bytes_eq name (codes "link") then Some Link
    else (if bytes_eq name (codes "load") then Some Load
    else (if bytes_eq name (codes "map") then Some Map
    else (if bytes_eq name (codes "script") then Some Script
    else (if bytes_eq name (codes "assimilate") then Some Assimilate
    else (if bytes_eq name (codes "inspect") then Some Inspect else later_named name)))))

abbrev pub machine_named : List ℕ → Option Machine
machine_named name = if bytes_eq name (codes "x86-64") then Some X64 else (if bytes_eq name (codes "aarch64") then Some A64 else None)

-- where none is named: x86-64
abbrev pub machine_or_usual : Option (List ℕ) → Option Machine
machine_or_usual None = Some X64
machine_or_usual (Some name) = machine_named name

abbrev pub page_named : List ℕ → Option ℕ
page_named name = if bytes_eq name (codes "4096") then Some 4096 else (if bytes_eq name (codes "16384") then Some 16384 else None)

-- where none is named: the greatest of the machine
abbrev pub page_or_usual : Machine → Option (List ℕ) → Option ℕ
page_or_usual machine None = Some (granule_of machine)
page_or_usual machine (Some name) = page_named name

-- the pages of a machine
abbrev pub has_page : Machine → ℕ → Bool
has_page X64 page = page == 4096
has_page A64 page = page == 4096 || page == 16384

abbrev pub form_named : List ℕ → Option Form
form_named name =
    if bytes_eq name (codes "pe") then Some form.Pe
    else (if bytes_eq name (codes "mach") then Some form.Mach
    else (if bytes_eq name (codes "elf") then Some form.Elf else None))

abbrev pub nul_named : List ℕ → Option Nul
nul_named name = if bytes_eq name (codes "keep") then Some Keep else (if bytes_eq name (codes "drop") then Some Drop else None)

-- where none is named: NUL is kept
abbrev pub nul_or_usual : Option (List ℕ) → Option Nul
nul_or_usual None = Some Keep
nul_or_usual (Some name) = nul_named name
