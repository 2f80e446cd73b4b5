-- What follows from the answers of reads.
use Rattle.std.proofs.Common.{◌≡◌, ◌⊎◌, inl, inr, ℕ, ◌+◌, ◌≤◌, List, [], length, Option, Some, None, Result, Ok, Err, refl, sym, ap, ◌∙◌, arith, subst, unwrap_or}
use Rattle.std.specs.FinMap as map
use Rattle.ap_files.specs.Files.{FileMap, FileState, ForFile, Rose, Measures, KeepsFiles, KeepsCounts, HasRange, told_bytes}
use Rattle.ap_files.specs.Reads.{HasFile, HasSize, IsMissing, Reads, ReadFails, Unread}
use Rattle.ap_files.specs.declared.failure.Failed.{Failed}

pub some_same : {X : Type 0} {x y : X} → Some x ≡ Some y → x ≡ y
some_same e = cc

pub not_some : {X : Type 0} {x : X} → None ≡ Some x → ⊥
not_some e = cc

-- a state of which each part stays
pub same_state : (old new : FileState) → KeepsFiles old new → KeepsCounts old new → new ≡ old
same_state old new files counts i = record {
  kept = files.kept i;
  unfinished = files.unfinished i;
  read_faults = counts.read_faults i;
  write_faults = counts.write_faults i;
  absences = counts.absences i;
}

-- what holds of a file that is there
pub told_of : {P : List ℕ → Type 0} (kept : Option FileMap) (name : List ℕ) (m : FileMap) (b : List ℕ) → HasFile kept name P → kept ≡ Some m → map.get m name ≡ Some b → P b
told_of {P} kept name m b h k g = let t = h m k in subst P (some_same (sym t.1 ∙ g)) t.2

-- the bytes of a file that is there
pub told_as : (kept : Option FileMap) (name : List ℕ) (m : FileMap) (b : List ℕ) → kept ≡ Some m → map.get m name ≡ Some b → told_bytes kept name ≡ b
told_as kept name m b k g = ap (λ o. told_bytes o name) k ∙ ap (λ o. unwrap_or o []) g

-- a range within the size
pub has_range : (kept : Option FileMap) (name : List ℕ) (size at n : ℕ) → HasSize kept name size → at + n ≤ size → HasRange kept name at n
has_range kept name size at n has h m told = let file = has m told in (file.0, file.1, omega (arith, file.2))

-- a file whose size was answered is there
sized : (o : Option (List ℕ)) (old new : FileState) (name : List ℕ) (size : ℕ) (m : FileMap) → map.get m name ≡ o → Measures old new name (Ok size) → old.kept ≡ Some m
    → (x : List ℕ) × (map.get m name ≡ Some x) × (size ≡ length x)
sized (Some b) old new name size m at r told = (b, at, r.length m b told at)
sized None old new name size m at r told = absurd (let err = (r.absent (m, told, at)).0 in cc)

pub size_known : (old new : FileState) (name : List ℕ) (size : ℕ) → Measures old new name (Ok size) → HasSize old.kept name size
size_known old new name size r m told = sized (map.get m name) old new name size m refl r told

pub size_still : (old new : FileState) (name : List ℕ) (size : ℕ) → Measures old new name (Ok size) → HasSize new.kept name size
size_still old new name size r m told = size_known old new name size r m (sym r.files.kept ∙ told)

-- and where its size wasn't answered, a read failed or it is missing
unread_in : (old new : FileState) (name : List ℕ) (e : Failed) (m : FileMap) (o : Option (List ℕ)) → Measures old new name (Err e) → old.kept ≡ Some m → map.get m name ≡ o
    → Rose old.read_faults new.read_faults ⊎ (Rose old.absences new.absences × IsMissing old.kept name)
unread_in old new name e m None h k g = inr ((h.absent (m, k, g)).1, λ n k'. ap (λ x. map.get x name) (some_same (sym k' ∙ k)) ∙ g)
unread_in old new name e m (Some b) h k g = inl (h.present m b k g).1

unread_by : (old new : FileState) (name : List ℕ) (e : Failed) (k : Option FileMap) → Measures old new name (Err e) → old.kept ≡ k
    → Rose old.read_faults new.read_faults ⊎ (Rose old.absences new.absences × IsMissing old.kept name)
unread_by old new name e None h k = elim h.failed [ inl r ↦ inl r | inr a ↦ inr (a, λ n k'. absurd (not_some (sym k ∙ k'))) ]
unread_by old new name e (Some m) h k = unread_in old new name e m (map.get m name) h k refl

pub size_unread : (old new : FileState) (name : List ℕ) (e : Failed) → Measures old new name (Err e) → Unread old new name
size_unread old new name e r = record { files = r.files; write_faults = r.write_faults; cause = unread_by old new name e old.kept r refl }

-- a call that reads, behind another that left the state
pub reads-after : {T : Type 0} (old mid new : FileState) (name : List ℕ) (P Q : List ℕ → T → Type 0) (result : Result T Failed) → mid ≡ old
    → ForFile old.kept name (λ b. (v : T) → P b v → Q b v) → Reads mid new name P result → Reads old new name Q result
reads-after old mid new name P Q (Ok v) e f r = (r.0 ∙ e, λ m b told at. f m b told at v (r.1 m b (ap (λ (s : FileState). s.kept) e ∙ told) at))
reads-after old mid new name P Q (Err x) e f r = subst (λ (s : FileState). ReadFails s new) e r
