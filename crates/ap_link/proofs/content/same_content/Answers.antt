use Rattle.std.proofs.Common.{◌≡◌, ◌+◌, ◌≤◌, true, false, refl, sym, ◌∙◌, arith, rules, length, take, drop, length-append, length-drop}
use Rattle.std.proofs.lemmas.List.{length-take-le, take_at}
use Rattle.ap_layout.specs.Areas.{content_of}
use Rattle.ap_link.specs.Compared.{byte_told, may_match}
use Rattle.ap_link.proofs.Comparing.{unlike, same-length, differ, agree-more, agree-all, read-told, some-bytes, there-still}
use Rattle.ap_link.proofs.content.same_content.Goals as goal

pub returns-then-not-may_match : goal.returns-then-not-may_match
returns-then-not-may_match g c =
    let off : may_match c.args.one.now.granule c.args.load.now c.args.granule c.args.other.now ≡ false = search rules in (
      refl,
      λ m k.
          sym
          (unlike c.args.one.now.granule (byte_told (g.F.Files.state c.args.files.now).kept c.args.one.now.name.now) c.args.load.now
          c.args.granule (byte_told (g.F.Files.state c.args.files.now).kept c.args.name.now) c.args.other.now c.requires.granule c.requires.others off),
    )

pub read_content-requires-in-loop-at-clause-inside :
    goal.read_content-requires-in-loop-at-clause-inside
read_content-requires-in-loop-at-clause-inside g c =
    let on : may_match c.args.one.now.granule c.args.load.now c.args.granule c.args.other.now ≡ true = search rules in
    let size = c.min-size.result in
    let within : c.loop-at.at + size ≤ c.content_length-length.result = grind arith in
    let long : length (take size c.loop-at.theirs) ≡ size = length-take-le size c.loop-at.theirs (grind arith) in
    let len = c.content_length-length.ensures in
    let same = same-length c.args.one.now.granule c.args.load.now c.args.granule c.args.other.now on in
    omega arith

pub read_content-requires-clause-there : goal.read_content-requires-clause-there
read_content-requires-clause-there g c =
    let on : may_match c.args.one.now.granule c.args.load.now c.args.granule c.args.other.now ≡ true = search rules in
    let some = some-bytes c.args.one.now.granule c.args.load.now c.args.granule c.args.other.now on in
    there-still (g.F.Files.state c.args.files.now) (g.F.Files.state c.loop-at.files) c.args.one.now.name.now c.args.load.now c.loop-at.invariant.state (c.requires.ours.there some.0)

pub read_content-requires-in-loop-at-clause-there :
    goal.read_content-requires-in-loop-at-clause-there
read_content-requires-in-loop-at-clause-there g c =
    let on : may_match c.args.one.now.granule c.args.load.now c.args.granule c.args.other.now ≡ true = search rules in
    let one = g.F.Files.state c.args.files.now in
    let size = c.min-size.result in
    let within : c.loop-at.at + size ≤ c.content_length-length.result = grind arith in
    let long : length (take size c.loop-at.ours) ≡ size = length-take-le size c.loop-at.ours (grind arith) in
    let first = read-told one (g.F.Files.state c.loop-at.files) (g.F.Files.state c.read_content.new.files) c.args.one.now.name.now c.args.one.now.granule c.args.load.now c.loop-at.at size
    (take size c.loop-at.ours) c.read_content.new.buf c.loop-at.invariant.state long c.in_default.ensures in
    let some = some-bytes c.args.one.now.granule c.args.load.now c.args.granule c.args.other.now on in
    there-still one (g.F.Files.state c.read_content.new.files) c.args.name.now c.args.other.now first.0 (c.requires.theirs.there some.1)

pub returns-then-not-are_same : goal.returns-then-not-are_same
returns-then-not-are_same g c =
    let on : may_match c.args.one.now.granule c.args.load.now c.args.granule c.args.other.now ≡ true = search rules in
    let one = g.F.Files.state c.args.files.now in
    let size = c.min-size.result in
    let within : c.loop-at.at + size ≤ c.content_length-length.result = grind arith in
    let long : length (take size c.loop-at.ours) ≡ size = length-take-le size c.loop-at.ours (grind arith) in
    let first = read-told one (g.F.Files.state c.loop-at.files) (g.F.Files.state c.read_content.new.files) c.args.one.now.name.now c.args.one.now.granule c.args.load.now c.loop-at.at size
    (take size c.loop-at.ours) c.read_content.new.buf c.loop-at.invariant.state long c.in_default.ensures in
    let longer : length (take size c.loop-at.theirs) ≡ size = length-take-le size c.loop-at.theirs (grind arith) in
    let second = read-told one (g.F.Files.state c.read_content.new.files) (g.F.Files.state c.read_content-in-loop-at.new.files) c.args.name.now c.args.granule c.args.other.now c.loop-at.at size
    (take size c.loop-at.theirs) c.read_content-in-loop-at.new.buf first.0 longer c.in_default-read_content.ensures in
    let ours : length c.read_content.new.buf ≡ size = (let l = c.read_content.auto.buf in omega arith) in
    let theirs : length c.read_content-in-loop-at.new.buf ≡ size = (let l = c.read_content-in-loop-at.auto.buf in omega arith) in
    let part = take_at c.read_content.new.buf (drop size c.loop-at.ours) size ours in
    let other = take_at c.read_content-in-loop-at.new.buf (drop size c.loop-at.theirs) size theirs in (
      second.0,
      λ m k.
          differ c.args.one.now.granule (byte_told one.kept c.args.one.now.name.now) c.args.load.now c.args.granule (byte_told one.kept c.args.name.now) c.args.other.now c.loop-at.at size
          c.read_content.new.buf c.read_content-in-loop-at.new.buf on (first.1 m k) (second.1 m k)
          (λ e. let bad : c.are_same.result ≡ true = c.are_same.ensures.1 (part ∙ e ∙ sym other) in let off = c.if-not-are_same.true in cc),
    )

pub loop-at-preserved : goal.loop-at-preserved
loop-at-preserved g c =
    let one = g.F.Files.state c.args.files.now in
    let size = c.min-size.result in
    let within : c.loop-at.at + size ≤ c.content_length-length.result = grind arith in
    let long : length (take size c.loop-at.ours) ≡ size = length-take-le size c.loop-at.ours (grind arith) in
    let first = read-told one (g.F.Files.state c.loop-at.files) (g.F.Files.state c.read_content.new.files) c.args.one.now.name.now c.args.one.now.granule c.args.load.now c.loop-at.at size
    (take size c.loop-at.ours) c.read_content.new.buf c.loop-at.invariant.state long c.in_default.ensures in
    let longer : length (take size c.loop-at.theirs) ≡ size = length-take-le size c.loop-at.theirs (grind arith) in
    let second = read-told one (g.F.Files.state c.read_content.new.files) (g.F.Files.state c.read_content-in-loop-at.new.files) c.args.name.now c.args.granule c.args.other.now c.loop-at.at size
    (take size c.loop-at.theirs) c.read_content-in-loop-at.new.buf first.0 longer c.in_default-read_content.ensures in
    let ours : length c.read_content.new.buf ≡ size = (let l = c.read_content.auto.buf in omega arith) in
    let theirs : length c.read_content-in-loop-at.new.buf ≡ size = (let l = c.read_content-in-loop-at.auto.buf in omega arith) in
    let part = take_at c.read_content.new.buf (drop size c.loop-at.ours) size ours in
    let other = take_at c.read_content-in-loop-at.new.buf (drop size c.loop-at.theirs) size theirs in
    let same : c.read_content.new.buf ≡ c.read_content-in-loop-at.new.buf = sym part ∙ c.are_same.ensures.0 c.if-not-are_same.false ∙ other in
    record {
      below = within;
      state = second.0;
      same = λ m k.
          agree-more (content_of c.args.one.now.granule (byte_told one.kept c.args.one.now.name.now) c.args.load.now) (content_of c.args.granule (byte_told one.kept c.args.name.now) c.args.other.now) c.loop-at.at size
          c.read_content.new.buf c.read_content-in-loop-at.new.buf (c.loop-at.invariant.same m k) (first.1 m k) (second.1 m k) same;
      room =
          let whole = length-append c.read_content.new.buf (drop size c.loop-at.ours) in
          let rest = length-drop size c.loop-at.ours in
          let before = c.loop-at.invariant.room in
          omega arith;
      others =
          let whole = length-append c.read_content-in-loop-at.new.buf (drop size c.loop-at.theirs) in
          let rest = length-drop size c.loop-at.theirs in
          let before = c.loop-at.invariant.others in
          omega arith;
    }

pub returns : goal.returns
returns g c =
    let on : may_match c.args.one.now.granule c.args.load.now c.args.granule c.args.other.now ≡ true = search rules in
    let len = c.content_length-length.ensures in (
      c.loop-at.invariant.state,
      λ m k.
          agree-all c.args.one.now.granule (byte_told (g.F.Files.state c.args.files.now).kept c.args.one.now.name.now) c.args.load.now
          c.args.granule (byte_told (g.F.Files.state c.args.files.now).kept c.args.name.now) c.args.other.now c.loop-at.at c.requires.granule c.requires.others on
          (grind arith) (c.loop-at.invariant.same m k),
    )
