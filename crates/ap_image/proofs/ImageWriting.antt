-- How an image file is written: the front, region by region, and zeros.
use Rattle.std.proofs.Common.{◌≡◌, ℕ, zero, suc, ◌+◌, ◌-◌, ◌<◌, ◌≤◌, List, [], ◌∷◌, ◌++◌, flat_map, get_or, take, drop, length, replicate, Option, Some, None, sym, ap, ◌∙◌, subst, arith, append_assoc, append-nil}
use Rattle.std.proofs.lemmas.List.{take-replicate}
use Rattle.std.proofs.lemmas.List.Concat.{flat_map-cons}
use Rattle.ap_fields.specs.Bytes.{zeros}
use Rattle.ap_files.specs.Files.{FileState, IsUnfinished}
use Rattle.ap_files.specs.Appends.{Appends}
use Rattle.ap_files.specs.declared.failure.FileFault.{FileFault}
use Rattle.ap_files.proofs.Appending.{nothing, then, broken}
use Rattle.ap_image.specs.declared.plan.Region.{Region}
use Rattle.ap_image.specs.Plans.{Mapping, AreAscendingFrom, AreBacked, end_of}
use Rattle.ap_image.specs.ImageFiles.{front_of, run_bytes, region_bytes, image_file}
use Rattle.ap_image.specs.Runs.{runs_of}
use Rattle.ap_image.proofs.RunBytes.{run_bytes-regions}

-- ---- zeros

pub zeros-start : (s : FileState) (name : List ℕ) → IsUnfinished s name → Appends s s name (zeros 0) None
unfolding zeros
zeros-start s name h = nothing s name h

zeros-append : (m n : ℕ) → zeros (m + n) ≡ zeros m ++ zeros n
unfolding zeros
zeros-append zero n = ap (λ k. replicate k 0) (let e : 0 + n ≡ n = omega arith in e)
zeros-append (suc m) n =
    let e : suc m + n ≡ suc (m + n) = omega arith in
    ap (λ k. replicate k 0) e ∙ ap (λ l. 0 ∷ l) (zeros-append m n)

part-of-zeros : (n most : ℕ) → n ≤ most → take n (replicate most 0) ≡ zeros n
unfolding zeros
part-of-zeros n most h = take-replicate n most 0 h

pub zeros-more : (old mid new : FileState) (name : List ℕ) (at n most : ℕ) → n ≤ most → Appends old mid name (zeros at) None → Appends mid new name (take n (replicate most 0)) None → Appends old new name (zeros (at + n)) None
zeros-more old mid new name at n most fits a b =
    subst (λ x. Appends old new name x None) (sym (zeros-append at n))
    (then old mid new name (zeros at) (zeros n) None a (subst (λ x. Appends mid new name x None) (part-of-zeros n most fits) b))

pub zeros-stop : (old mid new : FileState) (name : List ℕ) (at n count most : ℕ) (f : FileFault) → n ≤ most → at + n ≤ count → Appends old mid name (zeros at) None → Appends mid new name (take n (replicate most 0)) (Some f)
    → Appends old new name (zeros count) (Some f)
zeros-stop old mid new name at n count most f fits below a b =
    let rest : ℕ = count - (at + n) in
    let sum : at + n + (count - (at + n)) ≡ count = omega arith in
    let split : (zeros at ++ zeros n) ++ zeros (count - (at + n)) ≡ zeros count =
    ap (λ l. l ++ zeros (count - (at + n))) (sym (zeros-append at n)) ∙ sym (zeros-append (at + n) (count - (at + n))) ∙ ap zeros sum in
    subst (λ x. Appends old new name x (Some f)) split
    (broken old new name (zeros at ++ zeros n) (zeros (count - (at + n))) f
    (then old mid new name (zeros at) (zeros n) (Some f) a (subst (λ x. Appends mid new name x (Some f)) (part-of-zeros n most fits) b)))

-- ---- regions

bytes-split : (f : Region → List ℕ) (rs : List Region) (i : ℕ) (d : Region) → i < length rs → flat_map f rs ≡ (flat_map f (take i rs) ++ f (get_or rs i d)) ++ flat_map f (drop (i + 1) rs)
bytes-split f [] i d l = absurd (omega arith)
bytes-split f (r ∷ rs) zero d l = flat_map-cons f r rs
bytes-split f (r ∷ rs) (suc i) d l =
    let next : suc i + 1 ≡ suc (i + 1) = omega arith in
    flat_map-cons f r rs
    ∙ ap (λ x. f r ++ x) (bytes-split f rs i d (omega arith))
    ∙ sym (append_assoc (f r) (flat_map f (take i rs) ++ f (get_or rs i d)) (flat_map f (drop (i + 1) rs)))
    ∙ ap (λ x. x ++ flat_map f (drop (i + 1) rs)) (sym (append_assoc (f r) (flat_map f (take i rs)) (f (get_or rs i d))))
    ∙ ap (λ x. (x ++ f (get_or rs i d)) ++ flat_map f (drop (i + 1) rs)) (sym (flat_map-cons f r (take i rs)))
    ∙ ap (λ k. (flat_map f (take (suc i) (r ∷ rs)) ++ f (get_or rs i d)) ++ flat_map f (drop k (r ∷ rs))) (sym next)

bytes-more : (f : Region → List ℕ) (rs : List Region) (i : ℕ) (d : Region) → i < length rs → flat_map f (take (i + 1) rs) ≡ flat_map f (take i rs) ++ f (get_or rs i d)
bytes-more f [] i d l = absurd (omega arith)
bytes-more f (r ∷ rs) zero d l = flat_map-cons f r [] ∙ append-nil (f r)
bytes-more f (r ∷ rs) (suc i) d l =
    let next : suc i + 1 ≡ suc (i + 1) = omega arith in
    ap (λ k. flat_map f (take k (r ∷ rs))) next
    ∙ flat_map-cons f r (take (i + 1) rs)
    ∙ ap (λ x. f r ++ x) (bytes-more f rs i d (omega arith))
    ∙ sym (append_assoc (f r) (flat_map f (take i rs)) (f (get_or rs i d)))
    ∙ ap (λ x. x ++ f (get_or rs i d)) (sym (flat_map-cons f r (take i rs)))

pub region-more : (old mid new : FileState) (name : List ℕ) (f : Region → List ℕ) (rs : List Region) (i : ℕ) (d : Region) → i < length rs
    → Appends old mid name (flat_map f (take i rs)) None → Appends mid new name (f (get_or rs i d)) None → Appends old new name (flat_map f (take (i + 1) rs)) None
region-more old mid new name f rs i d l a b =
    subst (λ x. Appends old new name x None) (sym (bytes-more f rs i d l)) (then old mid new name (flat_map f (take i rs)) (f (get_or rs i d)) None a b)

pub region-stop : (old mid new : FileState) (name : List ℕ) (f : Region → List ℕ) (rs : List Region) (i : ℕ) (d : Region) (fault : FileFault) → i < length rs
    → Appends old mid name (flat_map f (take i rs)) None → Appends mid new name (f (get_or rs i d)) (Some fault) → Appends old new name (flat_map f rs) (Some fault)
region-stop old mid new name f rs i d fault l a b =
    subst (λ x. Appends old new name x (Some fault)) (sym (bytes-split f rs i d l))
    (broken old new name (flat_map f (take i rs) ++ f (get_or rs i d)) (flat_map f (drop (i + 1) rs)) fault (then old mid new name (flat_map f (take i rs)) (f (get_or rs i d)) (Some fault) a b))

-- what holds of the regions that are left
pub ascending-next : (rs : List Region) (i : ℕ) → i < length rs → (low : ℕ) × AreAscendingFrom low (drop i rs) → (low : ℕ) × AreAscendingFrom low (drop (i + 1) rs)
ascending-next [] i l h = absurd (omega arith)
ascending-next (r ∷ rs) zero l h = (end_of r, h.1.2)
ascending-next (r ∷ rs) (suc i) l h =
    let next : suc (i + 1) ≡ suc i + 1 = omega arith in
    subst (λ k. (low : ℕ) × AreAscendingFrom low (drop k (r ∷ rs))) next (ascending-next rs i (omega arith) h)

pub backed-next : (rs : List Region) (i len : ℕ) → i < length rs → AreBacked (drop i rs) len → AreBacked (drop (i + 1) rs) len
backed-next [] i len l h = absurd (omega arith)
backed-next (r ∷ rs) zero len l h = h.1
backed-next (r ∷ rs) (suc i) len l h =
    let next : suc (i + 1) ≡ suc i + 1 = omega arith in
    subst (λ k. AreBacked (drop k (r ∷ rs)) len) next (backed-next rs i len (omega arith) h)

-- ---- the whole

pub front-stop : (old new : FileState) (name front : List ℕ) (byte : ℕ → ℕ) (m : Mapping) (f : FileFault) → front ≡ front_of m → Appends old new name front (Some f) → Appends old new name (image_file byte m) (Some f)
unfolding image_file
front-stop old new name front byte m f is a = broken old new name (front_of m) (flat_map (run_bytes byte m.regions) (runs_of m.regions)) f (subst (λ x. Appends old new name x (Some f)) is a)

-- the front, and the bytes of the regions behind it
image-bytes : (byte : ℕ → ℕ) (m : Mapping) → AreAscendingFrom 0 m.regions → front_of m ++ flat_map (region_bytes byte) m.regions ≡ image_file byte m
unfolding image_file
image-bytes byte m up = ap (λ x. front_of m ++ x) (run_bytes-regions byte 0 m.regions up)

pub image-then : (old mid new : FileState) (name front : List ℕ) (byte : ℕ → ℕ) (m : Mapping) (rs : List Region) (o : Option FileFault) → front ≡ front_of m → AreAscendingFrom 0 rs → rs ≡ m.regions
    → Appends old mid name front None → Appends mid new name (flat_map (region_bytes byte) rs) o → Appends old new name (image_file byte m) o
image-then old mid new name front byte m rs o is up same a b =
    let all : front ++ flat_map (region_bytes byte) rs ≡ image_file byte m =
    ap (λ x. x ++ flat_map (region_bytes byte) rs) is ∙ ap (λ r. front_of m ++ flat_map (region_bytes byte) r) same ∙ image-bytes byte m (subst (AreAscendingFrom 0) same up) in
    subst (λ x. Appends old new name x o) all (then old mid new name front (flat_map (region_bytes byte) rs) o a b)
