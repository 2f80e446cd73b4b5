-- The permissions of a section are those of its load.
use Rattle.std.proofs.Common.{◌≡◌, ℕ, zero, suc, ◌+◌, ◌^◌, ◌<◌, ◌≤◌, Bool, true, false, if◌then◌else◌, refl, sym, ap, ◌∙◌, ◌==◌, not, arith, bit_and}
use Rattle.std.proofs.lemmas.Bool.Decides.{nat_tests}
use Rattle.std.proofs.lemmas.Bool.{and_parts}
use Rattle.ap_check.specs.declared.load.Load.{Load}
use Rattle.ap_check.specs.Inputs.{is_permitted}
use Rattle.ap_pe.specs.Sections.{if_bit}
use Rattle.ap_pe.specs.PeReading.{bit_if}

-- the permissions that flags say
abbrev pub flag_permissions : ℕ → ℕ
flag_permissions flags = bit_if flags 0x20000000 1 + (bit_if flags 0x80000000 2 + bit_if flags 0x40000000 4)

pub perms-back : (n : ℕ) (b : Bool) → n < 8 → (bit_and n 4 ≡ 0 → ⊥) → flag_permissions (0x40000000 + (if_bit n 1 0x20000020 + (if_bit n 2 0x80000000 + (if b then 0x80 else 0x40)))) ≡ n
perms-back zero b small readable = absurd (readable refl)
perms-back (suc zero) b small readable = absurd (readable refl)
perms-back (suc (suc zero)) b small readable = absurd (readable refl)
perms-back (suc (suc (suc zero))) b small readable = absurd (readable refl)
perms-back (suc (suc (suc (suc zero)))) true small readable = refl
perms-back (suc (suc (suc (suc zero)))) false small readable = refl
perms-back (suc (suc (suc (suc (suc zero))))) true small readable = refl
perms-back (suc (suc (suc (suc (suc zero))))) false small readable = refl
perms-back (suc (suc (suc (suc (suc (suc zero)))))) true small readable = refl
perms-back (suc (suc (suc (suc (suc (suc zero)))))) false small readable = refl
perms-back (suc (suc (suc (suc (suc (suc (suc zero))))))) true small readable = refl
perms-back (suc (suc (suc (suc (suc (suc (suc zero))))))) false small readable = refl
perms-back (suc (suc (suc (suc (suc (suc (suc (suc n)))))))) b small readable = absurd (omega arith)

most : (b : Bool) (x : ℕ) → (if b then 0 else x) ≤ x
most true x = omega arith
most false x = omega arith

tail : (b : Bool) → (if b then 0x80 else 0x40) ≤ 0x80
tail true = omega arith
tail false = omega arith

pub flags-small : (n : ℕ) (b : Bool) → 0x40000000 + (if_bit n 1 0x20000020 + (if_bit n 2 0x80000000 + (if b then 0x80 else 0x40))) < 2 ^ 32
flags-small n b =
    let a1 : if_bit n 1 0x20000020 ≤ 0x20000020 = most (bit_and n 1 == 0) 0x20000020 in
    let a2 : if_bit n 2 0x80000000 ≤ 0x80000000 = most (bit_and n 2 == 0) 0x80000000 in
    let a3 = tail b in
    omega arith

-- a load that is taken can be read
pub readable : (p : Load) → is_permitted p ≡ true → bit_and p.perms.0 4 ≡ 0 → ⊥
readable p is h =
    let both = and_parts (not (bit_and p.perms.0 4 == 0)) (not (bit_and p.perms.0 3 == 3)) is in
    let t : (bit_and p.perms.0 4 == 0) ≡ true = grind (arith, nat_tests) in
    let w : true ≡ false = sym both.0 ∙ ap not t in
    absurd (cc)
