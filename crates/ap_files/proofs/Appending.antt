-- Texts that are appended one behind the other, and files that are made of them.
use Rattle.std.proofs.Common.{◌≡◌, ◌≢◌, inl, inr, ℕ, zero, suc, List, [], ◌∷◌, ◌+◌, ◌-◌, ◌≤◌, ◌++◌, length, take, drop, cond, Option, Some, None, Result, Ok, Err, refl, sym, ap, ◌∙◌, subst, arith}
use Rattle.std.proofs.lemmas.List.{take_all}
use Rattle.std.specs.Prelude.{IsErr}
use Rattle.std.specs.FinMap as map
use Rattle.ap_files.specs.Files.{FileMap, FileState, Rose, KeepsFiles, KeepsCounts, WriteCause, IsPresent, IsUnfinished, HasRange, with_file, with_added, after_finish, told_bytes, Starts, Adds, Finishes}
use Rattle.ap_files.specs.Appends.{Grows, Appends, Fails, IsBegun, Makes, faults_by, other_side, failure_of, write_failure}
use Rattle.ap_files.specs.declared.failure.Failed.{Failed}
use Rattle.ap_files.specs.declared.failure.FileFault.{FileFault}
use Rattle.ap_files.specs.declared.failure.FileFault.TheVariants.{Read, Write}
use Rattle.ap_files.proofs.NameMaps.{one, two, same_name}
use Rattle.ap_files.proofs.Growing.{added-file, present-file, present-added, range-added, bytes-added, grows-nothing, grows-again, grows_as_told, counts-again, added_by}

-- a front of the first of two texts, and of the second behind it, is one of both
pub front-first : (n : ℕ) (xs ys : List ℕ) → (k : ℕ) × (take n xs ≡ take k (xs ++ ys))
front-first zero xs ys = (0, refl)
front-first (suc n) [] ys = (0, refl)
front-first (suc n) (x ∷ xs) ys = let t = front-first n xs ys in (suc t.0, ap (λ r. x ∷ r) t.1)

pub front-second : (n : ℕ) (xs ys : List ℕ) → (k : ℕ) × (xs ++ take n ys ≡ take k (xs ++ ys))
front-second n [] ys = (n, refl)
front-second n (x ∷ xs) ys = let t = front-second n xs ys in (suc t.0, ap (λ r. x ∷ r) t.1)

-- ---- counts

kept-counts : (fault : FileFault) (old new : FileState) → KeepsCounts old new → faults_by fault new ≡ faults_by fault old
kept-counts Read old new c = c.read_faults
kept-counts Write old new c = c.write_faults

pub fails-behind : (fault : FileFault) (old mid new : FileState) → KeepsCounts old mid → Fails fault mid new → Fails fault old new
fails-behind fault old mid new c f = record {
  rose = subst (λ n. Rose n (faults_by fault new)) (kept-counts fault old mid c) f.rose;
  others = f.others ∙ kept-counts (other_side fault) old mid c;
  absences = f.absences ∙ c.absences;
}

pub write-fails : (old new : FileState) (T : Type 0) (e : Failed) → WriteCause {T = T} old new (Err e) → Fails Write old new
write-fails old new T e c = record { rose = c.failed; others = c.read_faults; absences = c.absences }

-- a call that writes answers `Failed` where a write failed
pub write-failed : (P : Option FileFault → Type 0) (r : Result (Unit {0}) Failed) → IsErr r → P (Some Write) → P (write_failure r)
write-failed P (Ok x) h p = absurd (cc)
write-failed P (Err e) h p = p

pub transfer-failed : (P : Option FileFault → Type 0) (r : Result (Unit {0}) FileFault) (f : FileFault) → r ≡ Err f → P (Some f) → P (failure_of r)
transfer-failed P r f is p = subst (λ x. P (failure_of x)) (sym is) p

-- ---- texts

-- nothing is appended yet
pub nothing : (s : FileState) (name : List ℕ) → IsUnfinished s name → Appends s s name [] None
nothing s name h = (grows-nothing s name h, record { read_faults = refl; write_faults = refl; absences = refl })

-- a text, and what becomes of another behind it
pub then : (old mid new : FileState) (name xs ys : List ℕ) (o : Option FileFault) → Appends old mid name xs None → Appends mid new name ys o → Appends old new name (xs ++ ys) o
then old mid new name xs ys None a b = (grows-again old mid new name xs ys a.0 b.0, counts-again old mid new a.1 b.1)
then old mid new name xs ys (Some f) a b =
    let front = front-second b.0.0 xs ys in (
      (front.0, subst (Grows old new name) front.1 (grows-again old mid new name xs (take b.0.0 ys) a.0 b.0.1)),
      fails-behind f old mid new a.1 b.1,
    )

-- a piece more of a text, by the calls that append it
pub added : (old mid new : FileState) (name text : List ℕ) (at n : ℕ) → at ≤ length text → Appends old mid name (take at text) None
    → Adds mid new name (take (length text - at) (drop at text)) (Ok n) → Appends old new name (take (at + n) text) None
added old mid new name text at n below a h = (added_by old mid new name text at n below a.0 h, counts-again old mid new a.1 h.cause.ok)

pub add-failed : (old mid new : FileState) (name text piece : List ℕ) (at : ℕ) (e : Failed) → IsUnfinished old name → Appends old mid name (take at text) None
    → Adds mid new name piece (Err e) → Appends old new name text (Some Write)
add-failed old mid new name text piece at e h a failed = (
  (at, record { kept = failed.cause.files.kept ∙ a.0.kept; unfinished = λ m k. failed.cause.files.unfinished ∙ a.0.unfinished m k }),
  fails-behind Write old mid new a.1 (write-fails mid new ℕ e failed.cause),
)

-- a text that isn't appended whole, before another
pub broken : (old new : FileState) (name xs ys : List ℕ) (f : FileFault) → Appends old new name xs (Some f) → Appends old new name (xs ++ ys) (Some f)
broken old new name xs ys f a = let front = front-first a.0.0 xs ys in ((front.0, subst (Grows old new name) front.1 a.0.1), a.1)

-- a call that fails and changes no file
pub stopped : (old new : FileState) (name ys : List ℕ) (f : FileFault) → IsUnfinished old name → KeepsFiles old new → Fails f old new → Appends old new name ys (Some f)
stopped old new name ys f h files fails =
    let none = grows-nothing old name h in
    ((0, record { kept = files.kept ∙ none.kept; unfinished = λ m k. files.unfinished ∙ none.unfinished m k }), fails)

-- which text it is matters only where files are told
pub as-told : (old new : FileState) (name xs ys : List ℕ) (o : Option FileFault) → ((m : FileMap) → old.kept ≡ Some m → xs ≡ ys) → Appends old new name xs o → Appends old new name ys o
as-told old new name xs ys None same a = (grows_as_told old new name xs ys same a.0, a.1)
as-told old new name xs ys (Some f) same a =
    ((a.0.0, grows_as_told old new name (take a.0.0 xs) (take a.0.0 ys) (λ m k. ap (take a.0.0) (same m k)) a.0.1), a.1)

pub still-unfinished : (old new : FileState) (name xs : List ℕ) → Appends old new name xs None → IsUnfinished old name → IsUnfinished new name
still-unfinished old new name xs a h = record {
  present = subst (λ k. IsPresent k name) (sym a.0.kept) (present-added old.kept name xs);
  unfinished = told-still old.kept refl;
}
  where
    told-still : (k : Option FileMap) → old.kept ≡ k → (m : FileMap) → new.kept ≡ Some m → new.unfinished ≡ Some name
    told-still None e m n = absurd (let t = sym (ap (λ k. with_added k name xs) e) ∙ sym a.0.kept ∙ n in cc)
    told-still (Some was) e m n = a.0.unfinished was e

-- what holds of another file
pub range-still : (old new : FileState) (input name xs : List ℕ) (at n : ℕ) → input ≢ name → Appends old new name xs None → HasRange old.kept input at n → HasRange new.kept input at n
range-still old new input name xs at n apart a h = subst (λ k. HasRange k input at n) (sym a.0.kept) (range-added old.kept input name xs at n apart h)

pub bytes-still : (old new : FileState) (input name xs : List ℕ) → input ≢ name → Appends old new name xs None → told_bytes new.kept input ≡ told_bytes old.kept input
bytes-still old new input name xs apart a = ap (λ k. told_bytes k input) a.0.kept ∙ bytes-added old.kept input name xs apart

-- ---- files

pub started-unfinished : (old new : FileState) (name : List ℕ) → Starts old new name (Ok tt) → IsUnfinished new name
started-unfinished old new name s = record {
  present = subst (λ k. IsPresent k name) (sym s.kept) (present-file old.kept name []);
  unfinished = told-still old.kept refl;
}
  where
    told-still : (k : Option FileMap) → old.kept ≡ k → (m : FileMap) → new.kept ≡ Some m → new.unfinished ≡ Some name
    told-still None e m n = absurd (let t = sym (ap (λ k. with_file k name []) e) ∙ sym s.kept ∙ n in cc)
    told-still (Some was) e m n = s.unfinished was e

-- what was appended to a file that was started is all that it has
begun : (old mid new : FileState) (name xs : List ℕ) → Starts old mid name (Ok tt) → Grows mid new name xs → IsBegun old new name xs
begun old mid new name xs s g = record {
  kept = g.kept ∙ ap (λ k. with_added k name xs) s.kept ∙ added-file old.kept name [] xs;
  unfinished = λ m k. g.unfinished (map.insert m name []) (s.kept ∙ ap (λ o. with_file o name []) k);
}

pub not-started : (old new : FileState) (name text : List ℕ) (e : Failed) → Starts old new name (Err e) → Makes old new name text (Some Write)
not-started old new name text e s = (inl s.cause.files, write-fails old new (Unit {0}) e s.cause)

pub part-made : (old mid new : FileState) (name text : List ℕ) (f : FileFault) → Starts old mid name (Ok tt) → Appends mid new name text (Some f) → Makes old new name text (Some f)
part-made old mid new name text f s a = (inr (a.0.0, begun old mid new name (take a.0.0 text) s a.0.1), fails-behind f old mid new s.cause.ok a.1)

finished : (name : List ℕ) → after_finish (Some name) name ≡ None
finished name = elim (same_name name name) [ one e t ↦ ap (λ b. cond b None (Some name)) t | two n f ↦ absurd (n refl) ]

pub made : (old mid put new : FileState) (name text : List ℕ) (r : Result (Unit {0}) Failed) → Starts old mid name (Ok tt) → Appends mid put name text None → Finishes put new name r → Makes old new name text (write_failure r)
made old mid put new name text (Ok x) s a f =
    let b = begun old mid put name text s a.0 in
    record {
      kept = f.kept ∙ b.kept;
      counts = counts-again old put new (counts-again old mid put s.cause.ok a.1) f.cause.ok;
      unfinished = λ m k. f.unfinished (map.insert m name text) (b.kept ∙ ap (λ o. with_file o name text) k) ∙ ap (λ u. after_finish u name) (b.unfinished m k) ∙ finished name;
    }
made old mid put new name text (Err e) s a f =
    let b = begun old mid put name text s a.0 in
    let all : text ≡ take (length text) text = sym (take_all (length text) text (omega arith)) in (
      inr (length text, record { kept = f.kept ∙ b.kept ∙ ap (with_file old.kept name) all; unfinished = λ m k. f.cause.files.unfinished ∙ b.unfinished m k }),
      fails-behind Write old put new (counts-again old mid put s.cause.ok a.1) (write-fails put new (Unit {0}) e f.cause),
    )
