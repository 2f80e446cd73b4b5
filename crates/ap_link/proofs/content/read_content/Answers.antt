use Rattle.std.proofs.Common.{◌≡◌, ◌+◌, ◌-◌, ◌%◌, ◌++◌, List, ℕ, min, length, take, drop, length-drop, refl, arith, rules}
use Rattle.std.proofs.lemmas.List.{length-take-le}
use Rattle.ap_link.proofs.Comparing.{bare-piece, content-part, content-read}
use Rattle.ap_link.specs.Compared.{byte_told}
use Rattle.ap_link.proofs.content.read_content.Goals as goal

pub returns-then-front-end : goal.returns-then-front-end
returns-then-front-end g c =
    let n = length c.args.buf.now in
    let p = c.args.load.now in
    let front : ℕ = c.min-front.result in
    let end : ℕ = c.min-end.result in
    let zs : List ℕ = c.clear_beside.new.buf in
    let fr : front ≡ min (p.vaddr % c.args.granule - c.args.at) n = search rules in
    let en : end ≡ min (p.vaddr % c.args.granule + p.filesz - c.args.at) n = search rules in
    let same : length zs ≡ n = c.clear_beside.ensures.length in
    let long : length (take (end - front) (drop front zs)) ≡ end - front = (let l = length-drop front zs in length-take-le (end - front) (drop front zs) (grind arith)) in
    let kept = c.read_at.auto.buf in
    let full : length c.read_at.new.buf ≡ end - front = omega arith in
    content-read (g.F.Files.state c.args.files.now) (g.F.Files.state c.read_at.new.self) c.args.name.now c.args.granule p c.args.at (p.offset + (c.args.at + front - p.vaddr % c.args.granule))
    c.args.buf.now (take (end - front) (drop front zs)) c.read_at.new.buf (take front zs ++ (c.read_at.new.buf ++ drop (end - front) (drop front zs))) c.read_at.result c.read_at.ensures
    (λ m k read.
    content-part (g.F.Files.state c.args.files.now) (g.F.Files.state c.read_at.new.self) c.args.name.now c.args.granule p c.args.at front end c.args.buf.now zs c.read_at.new.buf m
    c.requires.granule c.requires.inside fr en c.if-front-end.true same c.clear_beside.ensures.front c.clear_beside.ensures.end c.requires.there k full (take (end - front) (drop front zs)) long read)

pub returns : goal.returns
returns g c =
    let n = length c.args.buf.now in
    let p = c.args.load.now in
    let fr : c.min-front.result ≡ min (p.vaddr % c.args.granule - c.args.at) n = search rules in
    let en : c.min-end.result ≡ min (p.vaddr % c.args.granule + p.filesz - c.args.at) n = search rules in (
      refl,
      λ m k.
          bare-piece c.args.granule (byte_told (g.F.Files.state c.args.files.now).kept c.args.name.now) p c.args.at n c.min-front.result c.min-end.result c.clear_beside.new.buf
          c.requires.granule c.requires.inside fr en c.if-front-end.false c.clear_beside.ensures.length c.clear_beside.ensures.front c.clear_beside.ensures.end,
    )
