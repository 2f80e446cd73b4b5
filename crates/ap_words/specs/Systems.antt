-- The systems that a list of names chooses, as `linux,freebsd`.
use Rattle.std.specs.Prelude.{ℕ, ◌==◌, if◌then◌else◌, List, [], ◌∷◌, codes, Option, Some, None, bit_or}
use Rattle.std.specs.Option.{option_map, option_and_then}
use Rattle.std.specs.List.{slice_split}
use Rattle.std.specs.Str.{bytes_eq}
use Rattle.ap_check.specs.declared.options.Systems.{Systems}

-- the parts of a text between its commas
abbrev pub names_of : List ℕ → List (List ℕ)
names_of text = slice_split (λ c. c == 44) text

-- the system of a name
abbrev pub system_named : List ℕ → Option Systems
system_named name =
    if bytes_eq name (codes "linux") then Some (record { 0 = 1 })
    else (if bytes_eq name (codes "freebsd") then Some (record { 0 = 2 })
    else (if bytes_eq name (codes "netbsd") then Some (record { 0 = 4 })
    else (if bytes_eq name (codes "windows") then Some (record { 0 = 8 })
    else (if bytes_eq name (codes "mac") then Some (record { 0 = 16 }) else None))))

-- where none is named: all but Windows
abbrev pub usual_systems : Systems
usual_systems = record { 0 = 23 }

-- the systems of either
abbrev pub both_systems : Systems → Systems → Systems
both_systems a b = record { 0 = bit_or a.0 b.0 }

-- the systems of one or more names, each of which names one
abbrev pub systems_named : List (List ℕ) → Option Systems
systems_named [] = None
systems_named (name ∷ []) = system_named name
systems_named (name ∷ next ∷ names) = option_and_then (λ s. option_map (both_systems s) (systems_named (next ∷ names))) (system_named name)

-- the systems of a list; the empty text is one empty name, so it has none
unfoldable pub systems_in : List ℕ → Option Systems
systems_in text = systems_named (names_of text)

abbrev pub systems_or_usual : Option (List ℕ) → Option Systems
systems_or_usual None = Some usual_systems
systems_or_usual (Some list) = systems_in list
