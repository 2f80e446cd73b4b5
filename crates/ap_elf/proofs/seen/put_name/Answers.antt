use Rattle.std.proofs.Common.{◌∙◌, ap, arith, length, drop, set, take, ◌+◌, ◌++◌, length-drop, List, ℕ}
use Rattle.ap_elf.proofs.Sightings.{take-with_nul}
use Rattle.ap_elf.proofs.seen.put_name.Goals as goal

pub returns : goal.returns
returns c =
    let name = c.args.name.now in
    ap (λ (l : List ℕ). take (length name + 1) (set (l ++ drop (length name) c.args.room.now) (length name) 0)) c.copy_from_slice.ensures.after
    ∙ take-with_nul name (drop (length name) c.args.room.now) (omega (arith, length-drop (length name) c.args.room.now))
