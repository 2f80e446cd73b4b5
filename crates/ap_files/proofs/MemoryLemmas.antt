-- What a caller of files in memory knows of a file that is told.
use Rattle.std.proofs.Common.{◌≡◌, ℕ, ◌+◌, ◌≤◌, List, length, refl, sym, ap, ◌∙◌, subst, Option, Some, None, IsSome, true, false}
use Rattle.std.specs.Option.{option_map_or}
use Rattle.std.specs.Str.{bytes_eq}
use Rattle.std.proofs.lemmas.Slice.Eq.{bytes_eq-Decides}
use Rattle.std.specs.FinMap as map
use Rattle.ap_files.specs.Files.{FileMap, HasRange, IsPresent, IsUnfinished}
use Rattle.ap_files.specs.Memory.{Memory, state_of}

pub there : (told held : FileMap) (name : List ℕ) → held ≡ told → IsPresent (Some told) name → IsSome (map.get held name)
there told held name e h = let present = h told refl in rw (e, present.1) refl

pub ranged : (told held : FileMap) (name : List ℕ) (at n : ℕ) (bytes : List ℕ) → held ≡ told → HasRange (Some told) name at n → Some bytes ≡ map.get held name → at + n ≤ length bytes
ranged told held name at n bytes e h is =
    let range = h told refl in
    let same : Some bytes ≡ Some range.0 = is ∙ ap (λ m. map.get m name) e ∙ range.1 in
    let one : bytes ≡ range.0 = cc in
    subst (λ b. at + n ≤ length b) (sym one) range.2

pub not_missing : (told held : FileMap) (name : List ℕ) (at n : ℕ) → held ≡ told → HasRange (Some told) name at n → None ≡ map.get held name → ⊥
not_missing told held name at n e h is =
    let range = h told refl in
    let same : None ≡ Some range.0 = is ∙ ap (λ m. map.get m name) e ∙ range.1 in cc

-- a file whose bytes were seen
pub seen : (held : FileMap) (name bytes : List ℕ) → Some bytes ≡ map.get held name → IsPresent (Some held) name
seen held name bytes is told same = let one : held ≡ told = cc in (bytes, ap (λ m. map.get m name) (sym one) ∙ sym is)

-- a file whose bytes were seen, and which was found to be the unfinished one
pub seen_unfinished : (m : Memory) (name bytes : List ℕ) → Some bytes ≡ map.get m.stored.files name → true ≡ option_map_or (λ n. bytes_eq n name) m.stored.unfinished false → IsUnfinished (state_of m) name
seen_unfinished m name bytes is found = record { present = seen m.stored.files name bytes is; unfinished = λ told same. named m.stored.unfinished found }
  where
    named : (o : Option (List ℕ)) → true ≡ option_map_or (λ n. bytes_eq n name) o false → o ≡ Some name
    named None found = absurd (cc)
    named (Some n) found = ap (λ x. Some x) ((bytes_eq-Decides n name).0 (sym found))
