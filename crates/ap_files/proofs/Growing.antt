-- Files that grow.
use Rattle.std.proofs.Common.{◌≡◌, ◌≢◌, ℕ, ◌+◌, ◌-◌, ◌≤◌, List, [], ◌++◌, length, take, drop, cond, Option, Some, None, Ok, refl, sym, ap, ◌∙◌, arith, length-drop, unwrap_or, append_assoc, append-nil}
use Rattle.std.proofs.lemmas.List.{take_rest, take-take, drop-take, take-append-drop}
use Rattle.std.specs.FinMap as map
use Rattle.ap_files.specs.Files.{FileMap, FileState, KeepsCounts, IsPresent, IsUnfinished, HasRange, with_file, with_added, bytes_in, told_bytes, Adds}
use Rattle.ap_files.proofs.NameMaps.{one, two, same_name, get-put, put-put, put-same, get_changed}
use Rattle.ap_files.proofs.ReadLemmas.{some_same, not_some}
use Rattle.ap_files.specs.Reads.{HasSize}
use Rattle.ap_files.specs.Appends.{Grows}

-- nothing appended
pub added-nothing : (k : Option FileMap) (name : List ℕ) → IsPresent k name → with_added k name [] ≡ k
added-nothing None name h = refl
added-nothing (Some m) name h =
    let t = h m refl in
    ap (λ o. Some (map.insert m name (unwrap_or o [] ++ []))) t.1
    ∙ ap (λ b. Some (map.insert m name b)) (append-nil t.0)
    ∙ ap Some (put-same m name (Some t.0) t.1)

-- appended, and appended again
pub added-added : (k : Option FileMap) (name xs ys : List ℕ) → with_added (with_added k name xs) name ys ≡ with_added k name (xs ++ ys)
added-added None name xs ys = refl
added-added (Some m) name xs ys =
    let b : List ℕ = bytes_in m name in
    ap (λ o. Some (map.insert (map.insert m name (b ++ xs)) name (unwrap_or o [] ++ ys))) (get_changed m name (Some (b ++ xs)))
    ∙ ap Some (put-put m name (Some (b ++ xs)) (Some ((b ++ xs) ++ ys)))
    ∙ ap (λ z. Some (map.insert m name z)) (append_assoc b xs ys)

-- a file that was made, and then appended to
pub added-file : (k : Option FileMap) (name xs ys : List ℕ) → with_added (with_file k name xs) name ys ≡ with_file k name (xs ++ ys)
added-file None name xs ys = refl
added-file (Some m) name xs ys =
    ap (λ o. Some (map.insert (map.insert m name xs) name (unwrap_or o [] ++ ys))) (get_changed m name (Some xs))
    ∙ ap Some (put-put m name (Some xs) (Some (xs ++ ys)))

pub present-file : (k : Option FileMap) (name xs : List ℕ) → IsPresent (with_file k name xs) name
present-file None name xs m e = absurd (not_some e)
present-file (Some m) name xs n e = (xs, ap (λ x. map.get x name) (sym (some_same e)) ∙ get_changed m name (Some xs))

pub present-added : (k : Option FileMap) (name xs : List ℕ) → IsPresent (with_added k name xs) name
present-added None name xs m e = absurd (not_some e)
present-added (Some m) name xs n e = (bytes_in m name ++ xs, ap (λ x. map.get x name) (sym (some_same e)) ∙ get_changed m name (Some (bytes_in m name ++ xs)))

-- another file stays
stays : (m : FileMap) (input out xs : List ℕ) → input ≢ out → map.get (map.insert m out xs) input ≡ map.get m input
stays m input out xs apart =
    elim (same_name input out) [
      | one e t ↦ absurd (apart e)
      | two n f ↦ get-put m out (Some xs) input ∙ ap (λ b. cond b (Some xs) (map.get m input)) f
    ]

pub range-added : (k : Option FileMap) (input out xs : List ℕ) (at n : ℕ) → input ≢ out → HasRange k input at n → HasRange (with_added k out xs) input at n
range-added None input out xs at n apart h m e = absurd (not_some e)
range-added (Some m) input out xs at n apart h m' e =
    let t = h m refl in
    (t.0, ap (λ x. map.get x input) (sym (some_same e)) ∙ stays m input out (bytes_in m out ++ xs) apart ∙ t.1, t.2)

-- another file keeps its size
pub size-added : (k : Option FileMap) (input out xs : List ℕ) (size : ℕ) → input ≢ out → HasSize k input size → HasSize (with_added k out xs) input size
size-added None input out xs size apart h m e = absurd (not_some e)
size-added (Some m) input out xs size apart h m' e =
    let t = h m refl in
    (t.0, ap (λ x. map.get x input) (sym (some_same e)) ∙ stays m input out (bytes_in m out ++ xs) apart ∙ t.1, t.2)

pub size-file : (k : Option FileMap) (input out xs : List ℕ) (size : ℕ) → input ≢ out → HasSize k input size → HasSize (with_file k out xs) input size
size-file None input out xs size apart h m e = absurd (not_some e)
size-file (Some m) input out xs size apart h m' e =
    let t = h m refl in
    (t.0, ap (λ x. map.get x input) (sym (some_same e)) ∙ stays m input out xs apart ∙ t.1, t.2)

-- another file keeps its bytes
pub bytes-added : (k : Option FileMap) (input out xs : List ℕ) → input ≢ out → told_bytes (with_added k out xs) input ≡ told_bytes k input
bytes-added None input out xs apart = refl
bytes-added (Some m) input out xs apart = ap (λ o. unwrap_or o []) (stays m input out (bytes_in m out ++ xs) apart)

pub bytes-file : (k : Option FileMap) (input out xs : List ℕ) → input ≢ out → told_bytes (with_file k out xs) input ≡ told_bytes k input
bytes-file None input out xs apart = refl
bytes-file (Some m) input out xs apart = ap (λ o. unwrap_or o []) (stays m input out xs apart)

-- which bytes are appended matters only where files are told
added_as_told : (k : Option FileMap) (name xs ys : List ℕ) → ((m : FileMap) → k ≡ Some m → xs ≡ ys) → with_added k name xs ≡ with_added k name ys
added_as_told None name xs ys same = refl
added_as_told (Some m) name xs ys same = ap (with_added (Some m) name) (same m refl)

pub grows_as_told : (old new : FileState) (name xs ys : List ℕ) → ((m : FileMap) → old.kept ≡ Some m → xs ≡ ys) → Grows old new name xs → Grows old new name ys
grows_as_told old new name xs ys same g = record { kept = g.kept ∙ added_as_told old.kept name xs ys same; unfinished = g.unfinished }

still_told : (k : Option FileMap) (name xs : List ℕ) (m : FileMap) → k ≡ Some m → (n : FileMap) × (with_added k name xs ≡ Some n)
still_told None name xs m e = absurd (not_some e)
still_told (Some k) name xs m e = (map.insert k name (bytes_in k name ++ xs), refl)

-- grown twice
pub grows-nothing : (s : FileState) (name : List ℕ) → IsUnfinished s name → Grows s s name []
grows-nothing s name h = record { kept = sym (added-nothing s.kept name h.present); unfinished = h.unfinished }

pub grows-again : (old mid new : FileState) (name xs ys : List ℕ) → Grows old mid name xs → Grows mid new name ys → Grows old new name (xs ++ ys)
grows-again old mid new name xs ys a b = record {
  kept = b.kept ∙ ap (λ k. with_added k name ys) a.kept ∙ added-added old.kept name xs ys;
  unfinished = λ m k. let t = still_told old.kept name xs m k in b.unfinished t.0 (a.kept ∙ t.1);
}

pub counts-again : (old mid new : FileState) → KeepsCounts old mid → KeepsCounts mid new → KeepsCounts old new
counts-again old mid new a b = record {
  read_faults = b.read_faults ∙ a.read_faults;
  write_faults = b.write_faults ∙ a.write_faults;
  absences = b.absences ∙ a.absences;
}

-- one piece more of a list
pub take_piece : (xs : List ℕ) (at n : ℕ) → at + n ≤ length xs → take at xs ++ take n (take (length xs - at) (drop at xs)) ≡ take (at + n) xs
take_piece xs at n h =
    ap (λ d. take at xs ++ take n d) (take_rest xs at)
    ∙ ap (λ f. f ++ take n (drop at xs)) (sym (take-take at (at + n) xs (omega arith)))
    ∙ ap (λ f. take at (take (at + n) xs) ++ f) (sym (drop-take at n xs))
    ∙ take-append-drop at (take (at + n) xs)

pub added_below : (mid new : FileState) (name bytes : List ℕ) (at n : ℕ) → at ≤ length bytes → Adds mid new name (take (length bytes - at) (drop at bytes)) (Ok n) → at + n ≤ length bytes
added_below mid new name bytes at n below h =
    let c = h.count.0 in let r = take_rest bytes at in let l = length-drop at bytes in omega (arith, ap length r)

-- a piece more of a file's writing
pub added_by : (old mid new : FileState) (name bytes : List ℕ) (at n : ℕ) → at ≤ length bytes → Grows old mid name (take at bytes) → Adds mid new name (take (length bytes - at) (drop at bytes)) (Ok n) → Grows old new name (take (at + n) bytes)
added_by old mid new name bytes at n below grown h =
    let fits : at + n ≤ length bytes = added_below mid new name bytes at n below h in
    let part : List ℕ = take n (take (length bytes - at) (drop at bytes)) in
    record {
      kept = h.kept ∙ ap (λ k. with_added k name part) grown.kept ∙ added-added old.kept name (take at bytes) part ∙ ap (with_added old.kept name) (take_piece bytes at n fits);
      unfinished = λ m k. let t = still_told old.kept name (take at bytes) m k in h.unfinished t.0 (grown.kept ∙ t.1);
    }
