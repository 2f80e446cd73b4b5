-- The effect of `dd` with `if=`, `of=`, `bs=`, `skip=`, `count=` and `conv=notrunc` on the bytes of its output (POSIX.1
-- `dd`): a block after another is read, and written over what stands there.
use Rattle.std.specs.Prelude.{ℕ, zero, suc, ◌+◌, ◌*◌, Bool, if◌then◌else◌, List, [], ◌∷◌, take, drop}
use Rattle.ap_fields.specs.Fields.{patched}

-- block k of a file: at most `size` bytes
abbrev pub block_at : ℕ → ℕ → List ℕ → List ℕ
block_at size k file = take size (drop (k * size) file)

-- goes on where some bytes were read, and else leaves the output
abbrev pub unless_empty : List ℕ → List ℕ → (List ℕ → List ℕ) → List ℕ
unless_empty [] output next = output
unless_empty (b ∷ bytes) output next = next (b ∷ bytes)

-- n more blocks, from block i of the output on. `onto_itself` says that the input is the output, so that each block is
-- read from it as it stands then
abbrev pub blocks_copied : Bool → ℕ → ℕ → ℕ → ℕ → List ℕ → List ℕ → List ℕ
blocks_copied onto_itself size skip zero i input output = output
blocks_copied onto_itself size skip (suc n) i input output =
    unless_empty (block_at size (skip + i) (if onto_itself then output else input)) output
    (λ bytes. blocks_copied onto_itself size skip n (i + 1) input (patched output (i * size) bytes))

-- what `dd` with bs=size skip=skip count=count makes of the output
unfoldable pub dd_effect : Bool → ℕ → ℕ → ℕ → List ℕ → List ℕ → List ℕ
dd_effect onto_itself size skip count input output = blocks_copied onto_itself size skip count 0 input output
