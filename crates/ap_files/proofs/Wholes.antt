-- What follows from the reads of a whole file.
use lib.Seq.{take-add}
use Rattle.std.proofs.Common.{◌≡◌, ℕ, ◌+◌, ◌≤◌, List, ◌++◌, length, take, drop, Ok, sym, ap, ◌∙◌, arith}
use Rattle.std.proofs.lemmas.List.{take_all}
use Rattle.ap_files.specs.Files.{FileState, ForFile, ReadsAt}
use Rattle.ap_files.specs.Reads.{HasFile, HasSize}
use Rattle.ap_files.proofs.ReadLemmas.{same_state}

-- a piece was read behind its first bytes
pub more-read : (old now new : FileState) (name items before after : List ℕ) (done count : ℕ) → now ≡ old → length before ≡ count → ReadsAt now new name done before after (Ok tt)
    → ForFile old.kept name (λ b. items ≡ take done b) → ForFile old.kept name (λ b. items ++ after ≡ take (done + count) b)
more-read old now new name items before after done count still long read so m b told at =
    let piece : after ≡ take count (drop done b) = read.bytes m b (ap (λ (s : FileState). s.kept) still ∙ told) at ∙ ap (λ n. take n (drop done b)) long in
    ap (λ xs. xs ++ after) (so m b told at) ∙ ap (λ ys. take done b ++ ys) piece ∙ sym (take-add done count b)

-- a read leaves the state
pub still-read : (old now new : FileState) (name before after : List ℕ) (at : ℕ) → now ≡ old → ReadsAt now new name at before after (Ok tt) → new ≡ old
still-read old now new name before after at still read = same_state now new read.files read.ok ∙ still

-- all bytes of it were read
pub whole-read : (old : FileState) (name items : List ℕ) (size done : ℕ) → HasSize old.kept name size → size ≤ done → ForFile old.kept name (λ b. items ≡ take done b) → HasFile old.kept name (λ b. items ≡ b)
whole-read old name items size done sized past so m told =
    let t = sized m told in
    (t.0, t.1, so m t.0 told t.1 ∙ take_all done t.0 (let l = t.2 in omega arith))
