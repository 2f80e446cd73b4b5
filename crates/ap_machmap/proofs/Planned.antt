-- The plan of a file of which the header and the commands are read by the file's name.
use Rattle.std.proofs.Common.{◌≡◌, ℕ, ◌+◌, ◌^◌, ◌≤◌, Bool, true, false, ◌&&◌, ◌||◌, if◌then◌else◌, List, [], ◌∷◌, ◌++◌, length, map, suc, Option, Some, None, Result, Ok, Err, refl, sym, ap, ◌∙◌, subst, arith, append_assoc, append-nil}
use Rattle.std.proofs.lemmas.List.{length_push}
use Rattle.ap_fields.specs.FirstFault.{Rules, first_fault}
use Rattle.ap_fields.proofs.FirstFaults.{none-append, some-append}
use Rattle.ap_image.specs.declared.plan.Region.{Region}
use Rattle.ap_image.specs.Plans.{Mapping, IsRegion, AreAscendingFrom, AreBacked, end_of}
use Rattle.ap_image.specs.Reading.{mapping_unless}
use Rattle.ap_mach.specs.declared.types.MachHeader.{MachHeader}
use Rattle.ap_mach.specs.declared.types.SegmentCommand.{SegmentCommand}
use Rattle.ap_mach.specs.declared.types.CommandParts.{CommandParts}
use Rattle.ap_mach.specs.declared.fault.MachFault.{MachFault}
use Rattle.ap_mach.specs.Format.{header_of, commands_end, parts_at, parts_from, parts_in}
use Rattle.ap_mach.specs.MachReading.{header_rules, command_rules, commands_rules, segment_rules, is_segment, is_thread, maps, low_behind, count_behind, segments_of, start_of}
use Rattle.ap_mach.specs.Stages.{header_unless, header_result}
use Rattle.ap_machmap.specs.MachPlans.{region_of, mapping_of, mach_plan}
use Rattle.ap_machmap.specs.Steps.{has_start, start_or, start_behind, region_by, left_plan, header_plan, AreBetween, AreMapped}
use Rattle.ap_machmap.specs.Laws.{IsPlaced, placed, region-good}

-- a header that is refused decides
refused-by : (o : Option MachFault) (b : List ℕ) (e : MachFault) → first_fault (header_rules (length b) (header_of b)) ≡ o → Err e ≡ header_unless o (header_of b) → Err e ≡ mach_plan b
refused-by None b e is h = absurd (cc)
refused-by (Some f) b e is h =
    let same : e ≡ f = cc in
    let rest : Rules MachFault = commands_rules (length b) (commands_end (header_of b)) 1 0 0 false (parts_in b) in
    ap (λ (x : MachFault). Err x) same
    ∙ sym (ap (λ (o : Option MachFault). mapping_unless o (mapping_of (parts_in b))) (some-append (header_rules (length b) (header_of b)) rest f is))

pub refused-named : (b : List ℕ) (e : MachFault) → Err e ≡ header_result b → Err e ≡ mach_plan b
refused-named b e h = refused-by (first_fault (header_rules (length b) (header_of b))) b e refl h

planned-by : (o : Option MachFault) (b : List ℕ) (h : MachHeader) → first_fault (header_rules (length b) (header_of b)) ≡ o → Ok h ≡ header_unless o (header_of b) → header_plan b h ≡ mach_plan b
planned-by None b h is e =
    let same : h ≡ header_of b = cc in
    let rest : Rules MachFault = commands_rules (length b) (commands_end (header_of b)) 1 0 0 false (parts_in b) in
    ap (header_plan b) same
    ∙ sym (ap (λ (o : Option MachFault). mapping_unless o (mapping_of (parts_in b))) (none-append (header_rules (length b) (header_of b)) rest is))
planned-by (Some f) b h is e = absurd (cc)

-- else the plan is that of the header
pub planned-named : (b : List ℕ) (h : MachHeader) → Ok h ≡ header_result b → header_plan b h ≡ mach_plan b
planned-named b h e = planned-by (first_fault (header_rules (length b) (header_of b))) b h refl e

-- one command further
count-same : (b c : Bool) (n : ℕ) (regions : List Region) (r : Region) → n ≡ length regions → length (regions ++ (if b then (if c then r ∷ [] else []) else [])) ≡ (if b && c then n + 1 else n)
count-same true true n regions r is = length_push regions r ∙ ap (λ k. k + 1) (sym is)
count-same true false n regions r is = ap length (append-nil regions) ∙ sym is
count-same false c n regions r is = ap length (append-nil regions) ∙ sym is

has-same : (b : Bool) (a : ℕ) → has_start (if b then Some a else None) ≡ b
has-same true a = refl
has-same false a = refl

start-same : (start : Option ℕ) (p : CommandParts) → has_start (start_behind start p) ≡ (has_start start || is_thread p)
start-same None p = has-same (is_thread p) p.thread.start
start-same (Some a) p = refl

regions-same : (b c : Bool) (regions : List Region) (s : SegmentCommand) (rest : List SegmentCommand)
    → (regions ++ (if b then (if c then region_of s ∷ [] else []) else [])) ++ map region_of rest ≡ regions ++ map region_of (if b && c then s ∷ rest else rest)
regions-same true true regions s rest = append_assoc regions (region_of s ∷ []) (map region_of rest)
regions-same true false regions s rest = ap (λ l. l ++ map region_of rest) (append-nil regions)
regions-same false c regions s rest = ap (λ l. l ++ map region_of rest) (append-nil regions)

or-same : (b : Bool) (a : ℕ) (rest : List CommandParts) → start_or (if b then Some a else None) rest ≡ (if b then a else start_of rest)
or-same true a rest = refl
or-same false a rest = refl

entry-same : (start : Option ℕ) (p : CommandParts) (rest : List CommandParts) → start_or (start_behind start p) rest ≡ start_or start (p ∷ rest)
entry-same None p rest = or-same (is_thread p) p.thread.start rest
entry-same (Some a) p rest = refl

mapping-same : (o p : Option MachFault) (x y : Mapping) → o ≡ p → x ≡ y → mapping_unless o x ≡ mapping_unless p y
mapping-same o p x y e f = ap (λ q. mapping_unless q x) e ∙ ap (mapping_unless p) f

left-next : (len end k low : ℕ) (regions : List Region) (start : Option ℕ) (p : CommandParts) (rest : List CommandParts)
    → first_fault (command_rules len end k low (length regions) (has_start start) p) ≡ None
    → left_plan len end k low regions start (p ∷ rest) ≡ left_plan len end (k + 1) (low_behind low p) (regions ++ region_by p) (start_behind start p) rest
left-next len end k low regions start p rest none =
    let n : ℕ = length regions in
    let more : ℕ → Bool → Rules MachFault = λ c t. commands_rules len end (k + 1) (low_behind low p) c t rest in
    mapping-same _ _ _ _
    (none-append (command_rules len end k low n (has_start start) p) (more (count_behind n p) (has_start start || is_thread p)) none
    ∙ ap (λ c. first_fault (more c (has_start start || is_thread p))) (sym (count-same (is_segment p) (maps p.segment) n regions (region_of p.segment) refl))
    ∙ ap (λ t. first_fault (more (length (regions ++ region_by p)) t)) (sym (start-same start p)))
    (λ i. record {
      regions = (sym (regions-same (is_segment p) (maps p.segment) regions p.segment (segments_of rest))) i;
      entry = (sym (entry-same start p rest)) i;
    })

left-fault : (len end k low : ℕ) (regions : List Region) (start : Option ℕ) (p : CommandParts) (rest : List CommandParts) (f : MachFault)
    → first_fault (command_rules len end k low (length regions) (has_start start) p) ≡ Some f → left_plan len end k low regions start (p ∷ rest) ≡ Err f
left-fault len end k low regions start p rest f some =
    ap (λ (o : Option MachFault). mapping_unless o (record { regions = regions ++ map region_of (segments_of (p ∷ rest)); entry = start_or start (p ∷ rest) }))
    (some-append (command_rules len end k low (length regions) (has_start start) p) _ f some)

-- the commands from a place on, if there are some left
parts-more : (front : List ℕ) (at n m : ℕ) → n ≡ m + 1 → parts_from front at n ≡ parts_at front at ∷ parts_from front (at + (parts_at front at).front.size) m
parts-more front at n m is = ap (parts_from front at) (let e : n ≡ suc m = omega arith in e)

pub step-fault : (len end k low : ℕ) (regions : List Region) (start : Option ℕ) (front : List ℕ) (at n m : ℕ) (p : CommandParts) (f : MachFault) (whole : Result Mapping MachFault)
    → whole ≡ left_plan len end k low regions start (parts_from front at n) → n ≡ m + 1 → p ≡ parts_at front at → first_fault (command_rules len end k low (length regions) (has_start start) p) ≡ Some f → Err f ≡ whole
step-fault len end k low regions start front at n m p f whole left more is some =
    let q : CommandParts = parts_at front at in
    let own : first_fault (command_rules len end k low (length regions) (has_start start) q) ≡ Some f =
    sym (ap (λ (x : CommandParts). first_fault (command_rules len end k low (length regions) (has_start start) x)) is) ∙ some in
    sym (left
    ∙ ap (left_plan len end k low regions start) (parts-more front at n m more)
    ∙ left-fault len end k low regions start q (parts_from front (at + q.front.size) m) f own)

-- what is left behind a command that meets its rules
pub record IsNext (low high at next : ℕ) (regions more : List Region) (start begun : Option ℕ) (p : CommandParts) : Type 0 where
  pub low_is : high ≡ low_behind low p
  pub regions_are : more ≡ regions ++ region_by p
  pub start_is : begun ≡ start_behind start p
  pub next_is : next ≡ at + p.front.size

pub step-next : (len end k low high : ℕ) (regions more : List Region) (start begun : Option ℕ) (front : List ℕ) (at next n m : ℕ) (p : CommandParts) (whole : Result Mapping MachFault)
    → whole ≡ left_plan len end k low regions start (parts_from front at n) → n ≡ m + 1 → p ≡ parts_at front at → first_fault (command_rules len end k low (length regions) (has_start start) p) ≡ None
    → IsNext low high at next regions more start begun p → whole ≡ left_plan len end (k + 1) high more begun (parts_from front next m)
step-next len end k low high regions more start begun front at next n m p whole left some is none behind =
    let q : CommandParts = parts_at front at in
    let Rest : CommandParts → List CommandParts = λ x. x ∷ parts_from front (at + x.front.size) m in
    left
    ∙ ap (left_plan len end k low regions start) (parts-more front at n m some ∙ sym (ap Rest is))
    ∙ left-next len end k low regions start p (parts_from front (at + p.front.size) m) none
    ∙ ap (λ i. left_plan len end (k + 1) (low_behind low p) (regions ++ region_by p) (start_behind start p) (parts_from front i m)) (sym behind.next_is)
    ∙ ap (λ i. left_plan len end (k + 1) i (regions ++ region_by p) (start_behind start p) (parts_from front next m)) (sym behind.low_is)
    ∙ ap (λ i. left_plan len end (k + 1) high i (start_behind start p) (parts_from front next m)) (sym behind.regions_are)
    ∙ ap (λ i. left_plan len end (k + 1) high more i (parts_from front next m)) (sym behind.start_is)

-- regions that ascend, and one more behind them
between-more : (low top : ℕ) (regions : List Region) (r : Region) → AreBetween low regions top → top ≤ r.start → IsRegion r → AreBetween low (regions ++ r ∷ []) (end_of r)
between-more low top [] r h above is = (omega arith, is, omega arith)
between-more low top (x ∷ regions) r h above is = (h.0, h.1, between-more (end_of x) top regions r h.2 above is)

backed-more : (len : ℕ) (regions : List Region) (r : Region) → AreBacked regions len → r.at + r.backed ≤ len → AreBacked (regions ++ r ∷ []) len
backed-more len [] r h fits = (fits, tt)
backed-more len (x ∷ regions) r h fits = (h.0, backed-more len regions r h.1 fits)

ascending : (low top : ℕ) (regions : List Region) → AreBetween low regions top → top ≤ 2 ^ 47 → AreAscendingFrom low regions
ascending low top [] h below = omega arith
ascending low top (x ∷ regions) h below = (h.0, h.1, ascending (end_of x) top regions h.2 below)

pub mapped-ascending : (len low : ℕ) (regions : List Region) → AreMapped len low regions → AreAscendingFrom 0 regions
mapped-ascending len low regions h = ascending 0 low regions h.ascending h.top

mapped-by : (len low n : ℕ) (regions : List Region) (s : SegmentCommand) → AreMapped len low regions → IsPlaced len low n s → AreMapped len (s.vmaddr + s.vmsize) (regions ++ region_of s ∷ [])
unfolding region_of
mapped-by len low n regions s h p =
    let good = region-good len low n s p in
    record {
      ascending = between-more 0 low regions (region_of s) h.ascending p.order good.region;
      top = p.top;
      backed = backed-more len regions (region_of s) h.backed good.backed;
    }

pub mapped-more : (len k low n size high : ℕ) (regions more : List Region) (s : SegmentCommand) (r : Region) → AreMapped len low regions → maps s ≡ true → first_fault (segment_rules len k low n size s) ≡ None
    → r ≡ region_of s → more ≡ regions ++ r ∷ [] → high ≡ s.vmaddr + s.vmsize → AreMapped len high more
mapped-more len k low n size high regions more s r h on rules region made top =
    let all : more ≡ regions ++ region_of s ∷ [] = made ∙ ap (λ (x : Region). regions ++ x ∷ []) region in
    subst (AreMapped len high) (sym all)
    (subst (λ t. AreMapped len t (regions ++ region_of s ∷ [])) (sym top) (mapped-by len low n regions s h (placed len k low n size s on rules)))
