use Rattle.std.proofs.Common.{◌≡◌, ℕ, List, length, replicate, refl, subst, ap, sym, ◌∙◌}
use Rattle.ap_fields.specs.Bytes.{Holds}
use Rattle.ap_elf.proofs.Filling.{begins-first, header-spelled}
use Rattle.ap_elf.proofs.ReadBack.{header_of-holds}
use Rattle.ap_elf.proofs.write.header_bytes.Goals as goal

pub returns-clause-bytes : goal.returns-clause-bytes
returns-clause-bytes c =
    let part : List ℕ = c.copy_from_slice.new.self in
    let first = begins-first 64 16 part (replicate 48 0) c.args.h.now.ident c.copy_from_slice.ensures.after c.copy_from_slice.ensures.len refl in
    let ident : length c.args.h.now.ident ≡ 16 = ap length (sym c.copy_from_slice.ensures.after) ∙ c.copy_from_slice.ensures.len in
    (header-spelled c.args.h.now _ _ _ _ _ _ _ _ _ _ _ _ _ _ ident first c.put16.ensures c.put16-2.ensures c.put32.ensures c.put64.ensures c.put64-2.ensures c.put64-3.ensures c.put32-2.ensures c.put16-3.ensures c.put16-4.ensures c.put16-5.ensures c.put16-6.ensures c.put16-7.ensures c.put16-8.ensures).0

pub returns-clause-back : goal.returns-clause-back
returns-clause-back c =
    let part : List ℕ = c.copy_from_slice.new.self in
    let first = begins-first 64 16 part (replicate 48 0) c.args.h.now.ident c.copy_from_slice.ensures.after c.copy_from_slice.ensures.len refl in
    let ident : length c.args.h.now.ident ≡ 16 = ap length (sym c.copy_from_slice.ensures.after) ∙ c.copy_from_slice.ensures.len in
    let s = header-spelled c.args.h.now _ _ _ _ _ _ _ _ _ _ _ _ _ _ ident first c.put16.ensures c.put16-2.ensures c.put32.ensures c.put64.ensures c.put64-2.ensures c.put64-3.ensures c.put32-2.ensures c.put16-3.ensures c.put16-4.ensures c.put16-5.ensures c.put16-6.ensures c.put16-7.ensures c.put16-8.ensures in
    λ w held. header_of-holds w c.args.h.now s.1 (subst (λ (b : List ℕ). Holds w 0 b) s.0 held)
