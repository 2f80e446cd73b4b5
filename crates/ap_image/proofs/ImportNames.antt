-- Names of an import directory, read byte by byte.
use Rattle.std.proofs.Common.{◌≡◌, ℕ, zero, suc, ◌+◌, ◌-◌, ◌<◌, ◌==◌, if◌then◌else◌, Bool, true, false, List, [], ◌∷◌, ◌++◌, Result, Ok, Err, refl, sym, ap, ◌∙◌, arith, append_assoc, append-nil}
use Rattle.ap_image.specs.declared.import_step.WalkFault.{WalkFault}
use Rattle.ap_image.specs.declared.import_step.WalkCause.TheVariants.{Long}
use Rattle.ap_image.specs.Cells.{Memory}
use Rattle.ap_image.specs.ImportWalk.{after, byte_at, fault, name_from}
use Rattle.ap_image.proofs.ImportReads.{after-after, after-same}

-- what is left of a name before n bytes, of which the last has to be its NUL
abbrev pub name_before : Memory → ℕ → ℕ → ℕ → Result (List ℕ) WalkFault
name_before m start a zero = Err (fault Long start)
name_before m start a (suc n) = name_from m start a n

byte-split : {T : Type 0} (r : Result ℕ WalkFault) (G : List ℕ → Result T WalkFault) (x : ℕ → Result (List ℕ) WalkFault) (y : ℕ → Result T WalkFault) → ((b : ℕ) → after (x b) G ≡ y b)
    → after (after r (λ b. if b == 0 then Ok [] else x b)) G ≡ after r (λ b. if b == 0 then G [] else y b)
byte-split (Ok b) G x y h =
    elim (b == 0) as (λ (t : Bool). after (if t then Ok [] else x b) G ≡ (if t then G [] else y b)) [ true ↦ refl | false ↦ h b ]
byte-split (Err f) G x y h = refl

name-byte : {T : Type 0} (m : Memory) (start a n : ℕ) (r : Result ℕ WalkFault) (G : List ℕ → Result T WalkFault) → byte_at m a ≡ r
    → after (name_from m start a n) G ≡ after r (λ b. if b == 0 then G [] else after (name_before m start (suc a) n) (λ rest. G (b ∷ rest)))
unfolding name_from
name-byte m start a zero r G e =
    ap (λ (r : Result ℕ WalkFault). after (after r (λ b. if b == 0 then Ok [] else Err (fault Long start))) G) e
    ∙ byte-split r G (λ b. Err (fault Long start)) (λ b. Err (fault Long start)) (λ b. refl)
name-byte m start a (suc n) r G e =
    ap (λ (r : Result ℕ WalkFault). after (after r (λ b. if b == 0 then Ok [] else after (name_from m start (suc a) n) (λ bytes. Ok (b ∷ bytes)))) G) e
    ∙ byte-split r G (λ b. after (name_from m start (suc a) n) (λ bytes. Ok (b ∷ bytes))) (λ b. after (name_from m start (suc a) n) (λ rest. G (b ∷ rest)))
    (λ b. after-after (name_from m start (suc a) n) (λ bytes. Ok (b ∷ bytes)) G)

-- what is read of a name before its byte number i, and of its rest
abbrev pub name_left : {T : Type 0} → Memory → ℕ → ℕ → ℕ → (List ℕ → Result T WalkFault) → Result T WalkFault
name_left m start n i G = after (name_before m start (start + i) (n - i)) G

name-more : {T : Type 0} (m : Memory) (start n i : ℕ) (r : Result ℕ WalkFault) (G : List ℕ → Result T WalkFault) → i < n → byte_at m (start + i) ≡ r
    → name_left m start n i G ≡ after r (λ b. if b == 0 then G [] else after (name_before m start (suc (start + i)) (n - (i + 1))) (λ rest. G (b ∷ rest)))
name-more m start n i r G l e =
    let more : n - i ≡ suc (n - (i + 1)) = omega arith in
    ap (λ k. after (name_before m start (start + i) k) G) more ∙ name-byte m start (start + i) (n - (i + 1)) r G e

-- its next byte ends it
pub name-ends : {T : Type 0} (m : Memory) (start n i b : ℕ) (G : List ℕ → Result T WalkFault) (whole : Result T WalkFault) → i < n → whole ≡ name_left m start n i G
    → byte_at m (start + i) ≡ Ok b → (b == 0) ≡ true → whole ≡ G []
name-ends m start n i b G whole l h e t =
    h ∙ name-more m start n i (Ok b) G l e
    ∙ ap (λ (t : Bool). if t then G [] else after (name_before m start (suc (start + i)) (n - (i + 1))) (λ rest. G (b ∷ rest))) t

-- or doesn't
pub name-next : {T : Type 0} (m : Memory) (start n i b : ℕ) (G : List ℕ → Result T WalkFault) (whole : Result T WalkFault) → i < n → whole ≡ name_left m start n i G
    → byte_at m (start + i) ≡ Ok b → (b == 0) ≡ false → whole ≡ name_left m start n (i + 1) (λ rest. G (b ∷ rest))
name-next m start n i b G whole l h e t =
    let place : suc (start + i) ≡ start + (i + 1) = omega arith in
    h ∙ name-more m start n i (Ok b) G l e
    ∙ ap (λ (t : Bool). if t then G [] else after (name_before m start (suc (start + i)) (n - (i + 1))) (λ rest. G (b ∷ rest))) t
    ∙ ap (λ a. after (name_before m start a (n - (i + 1))) (λ rest. G (b ∷ rest))) place

-- or isn't there
pub name-none : {T : Type 0} (m : Memory) (start n i : ℕ) (f : WalkFault) (G : List ℕ → Result T WalkFault) (whole : Result T WalkFault) → i < n → whole ≡ name_left m start n i G
    → byte_at m (start + i) ≡ Err f → whole ≡ Err f
name-none m start n i f G whole l h e = h ∙ name-more m start n i (Err f) G l e

-- a name that is gathered byte by byte
abbrev pub gathered : List ℕ → (List ℕ → Result (List ℕ) WalkFault)
gathered name = λ rest. Ok (name ++ rest)

pub gather-next : (m : Memory) (start n i b : ℕ) (name : List ℕ) (whole : Result (List ℕ) WalkFault) → i < n → whole ≡ name_left m start n i (gathered name)
    → byte_at m (start + i) ≡ Ok b → (b == 0) ≡ false → whole ≡ name_left m start n (i + 1) (gathered (name ++ b ∷ []))
gather-next m start n i b name whole l h e t =
    name-next m start n i b (gathered name) whole l h e t
    ∙ after-same (name_before m start (start + (i + 1)) (n - (i + 1))) (λ rest. Ok (name ++ (b ∷ rest))) (gathered (name ++ b ∷ []))
    (λ rest. ap (λ l. Ok l) (sym (append_assoc name (b ∷ []) rest)))

pub gather-ends : (m : Memory) (start n i b : ℕ) (name : List ℕ) (whole : Result (List ℕ) WalkFault) → i < n → whole ≡ name_left m start n i (gathered name)
    → byte_at m (start + i) ≡ Ok b → (b == 0) ≡ true → whole ≡ Ok name
gather-ends m start n i b name whole l h e t = name-ends m start n i b (gathered name) whole l h e t ∙ ap (λ l. Ok l) (append-nil name)
