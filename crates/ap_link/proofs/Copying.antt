-- The turns of a copy.
use Rattle.std.proofs.Common.{◌≡◌, ◌≢◌, ℕ, ◌+◌, ◌-◌, ◌≤◌, List, length, take, drop, Option, Some, None, Ok, Err, sym, ap, ◌∙◌, subst, arith}
use Rattle.ap_fields.proofs.Bytes.{listed-slice}
use Rattle.ap_files.specs.Files.{FileMap, FileState, IsUnfinished, HasRange, ReadsAt, told_bytes}
use Rattle.ap_files.specs.Appends.{Appends}
use Rattle.ap_files.specs.declared.failure.Failed.{Failed}
use Rattle.ap_files.specs.declared.failure.FileFault.{FileFault}
use Rattle.ap_files.specs.declared.failure.FileFault.TheVariants.{Read}
use Rattle.ap_files.proofs.ReadLemmas.{same_state, told_as}
use Rattle.ap_files.proofs.Appending.{then, broken, stopped, as-told, still-unfinished, range-still, bytes-still}
use Rattle.ap_link.specs.Sources.{part_of}
use Rattle.ap_link.proofs.PartLemmas.{part-more, part-rest}

-- so many bytes are copied
abbrev pub HasCopied : FileState → FileState → List ℕ → List ℕ → ℕ → ℕ → Option FileFault → Type 0
HasCopied old now input out from done o = Appends old now out (part_of from done (told_bytes old.kept input)) o

pub copy-range : (old now : FileState) (input out : List ℕ) (from count done size : ℕ) → input ≢ out → HasRange old.kept input from count → done + size ≤ count → HasCopied old now input out from done None
    → HasRange now.kept input (from + done) size
copy-range old now input out from count done size apart has within c m told =
    let t = range-still old now input out (part_of from done (told_bytes old.kept input)) from count apart c has m told in
    (t.0, t.1, (let l = t.2 in omega arith))

-- the file that is written stays the unfinished one, also where a part was read
pub copy-open : (old now mid : FileState) (input out : List ℕ) (from done at : ℕ) (before after : List ℕ) → IsUnfinished old out → HasCopied old now input out from done None → ReadsAt now mid input at before after (Ok tt)
    → IsUnfinished mid out
copy-open old now mid input out from done at before after opened c read =
    subst (λ s. IsUnfinished s out) (sym (same_state now mid read.files read.ok)) (still-unfinished old now out (part_of from done (told_bytes old.kept input)) c opened)

-- what stands so far breaks off before the rest
copy-broken : (old new : FileState) (input out : List ℕ) (from count done : ℕ) (f : FileFault) → done ≤ count → HasCopied old new input out from done (Some f) → HasCopied old new input out from count (Some f)
copy-broken old new input out from count done f below c =
    let b : List ℕ = told_bytes old.kept input in
    subst (λ t. Appends old new out t (Some f)) (part-rest b from count done below) (broken old new out (part_of from done b) (part_of (from + done) (count - done) b) f c)

-- a read fails
pub copy-unread : (old now new : FileState) (input out : List ℕ) (from count done at : ℕ) (before after : List ℕ) (e : Failed) → IsUnfinished old out → done ≤ count → HasCopied old now input out from done None
    → ReadsAt now new input at before after (Err e) → HasCopied old new input out from count (Some Read)
copy-unread old now new input out from count done at before after e opened below c read =
    let b : List ℕ = told_bytes old.kept input in
    let rest : List ℕ = part_of (from + done) (count - done) b in
    subst (λ t. Appends old new out t (Some Read)) (part-rest b from count done below)
    (then old now new out (part_of from done b) rest (Some Read) c
    (stopped now new out rest Read (still-unfinished old now out (part_of from done b) c opened) read.files
    (record { rose = read.failed; others = read.write_faults; absences = read.absences })))

-- what was read is the input's
part-told : (now new : FileState) (input : List ℕ) (at size : ℕ) (before after : List ℕ) → length before ≡ size → HasRange now.kept input at size
    → ReadsAt now new input at before after (Ok tt) → (m : FileMap) → now.kept ≡ Some m → after ≡ part_of at size (told_bytes now.kept input)
part-told now new input at size before after long has read m k =
    let t = has m k in
    read.bytes m t.0 k t.1
    ∙ ap (λ n. take n (drop at t.0)) long
    ∙ sym (listed-slice t.0 at size t.2)
    ∙ ap (part_of at size) (sym (told_as now.kept input m t.0 k t.1))

-- a piece is read and appended
pub copy-turn : (old now mid new : FileState) (input out : List ℕ) (from count done size : ℕ) (before after : List ℕ) (o : Option FileFault) → input ≢ out → HasRange old.kept input from count → done + size ≤ count → length before ≡ size
    → HasCopied old now input out from done None → ReadsAt now mid input (from + done) before after (Ok tt) → Appends mid new out after o → HasCopied old new input out from (done + size) o
copy-turn old now mid new input out from count done size before after o apart has within long c read added =
    let b : List ℕ = told_bytes old.kept input in
    let there = copy-range old now input out from count done size apart has within c in
    let same = bytes-still old now input out (part_of from done b) apart c in
    let piece = subst (λ s. Appends s new out after o) (same_state now mid read.files read.ok) added in
    subst (λ t. Appends old new out t o) (part-more b from done size)
    (then old now new out (part_of from done b) (part_of (from + done) size b) o c
    (as-told now new out after (part_of (from + done) size b) o
    (λ m k. part-told now mid input (from + done) size before after long there read m k ∙ ap (part_of (from + done) size) same) piece))

pub copy-unwritten : (old now mid new : FileState) (input out : List ℕ) (from count done size : ℕ) (before after : List ℕ) (f : FileFault) → input ≢ out → HasRange old.kept input from count → done + size ≤ count → length before ≡ size
    → HasCopied old now input out from done None → ReadsAt now mid input (from + done) before after (Ok tt) → Appends mid new out after (Some f) → HasCopied old new input out from count (Some f)
copy-unwritten old now mid new input out from count done size before after f apart has within long c read added =
    copy-broken old new input out from count (done + size) f within (copy-turn old now mid new input out from count done size before after (Some f) apart has within long c read added)
