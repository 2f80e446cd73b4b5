-- The header and the commands, each read alone.
use Rattle.std.proofs.Common.{◌≡◌, ℕ, ◌+◌, ◌-◌, ◌<◌, ◌≤◌, List, ◌++◌, length, take, drop, replicate, slice_index, Some, None, Ok, Err, sym, ap, ◌∙◌, arith, inl, inr, length-take, length-drop}
use Rattle.std.specs.Prelude.{min}
use Rattle.std.proofs.lemmas.Bool.{cases_lt}
use Rattle.std.proofs.lemmas.List.{get_or_append_left, get_or-append_right, get_or-take, get_or-drop, get_or-replicate, get_or_past}
use Rattle.ap_fields.specs.FirstFault.{first_fault}
use Rattle.ap_fields.specs.Fields.{number_at}
use Rattle.ap_fields.proofs.Numbers.{number_at-same}
use Rattle.ap_elf.proofs.EntryTables.{number_at-part}
use Rattle.ap_mach.specs.declared.types.MachHeader.{MachHeader}
use Rattle.ap_mach.specs.declared.fault.MachFault.{MachFault}
use Rattle.ap_mach.specs.Format.{header_of, command_by, segment_at, thread_at, parts_by, parts_at}
use Rattle.ap_mach.specs.MachReading.{header_rules}
use Rattle.ap_mach.specs.Stages.{header_unless, header_result}

header-part : (b : List ℕ) → header_of (take 32 (drop 0 b)) ≡ header_of b
unfolding header_of
header-part b i = record {
  magic = (number_at-part 4 0 0 0 32 b (omega arith) (omega arith)) i;
  cpu = (number_at-part 4 4 4 0 32 b (omega arith) (omega arith)) i;
  kind = (number_at-part 4 12 12 0 32 b (omega arith) (omega arith)) i;
  count = (number_at-part 4 16 16 0 32 b (omega arith) (omega arith)) i;
  size = (number_at-part 4 20 20 0 32 b (omega arith) (omega arith)) i;
}

header-same : (b part : List ℕ) (size : ℕ) (h : MachHeader) → part ≡ take 32 (drop 0 b) → h ≡ header_of part → size ≡ length b
    → header_unless (first_fault (header_rules size h)) h ≡ header_result b
header-same b part size h read is sized =
    let known : h ≡ header_of b = is ∙ ap header_of read ∙ header-part b in
    ap (λ n. header_unless (first_fault (header_rules n h)) h) sized
    ∙ ap (λ (x : MachHeader). header_unless (first_fault (header_rules (length b) x)) x) known

pub header-none : (b part : List ℕ) (size : ℕ) (h : MachHeader) → part ≡ take 32 (drop 0 b) → h ≡ header_of part → size ≡ length b → first_fault (header_rules size h) ≡ None → Ok h ≡ header_result b
header-none b part size h read is sized none = sym (ap (λ o. header_unless o h) none) ∙ header-same b part size h read is sized

pub header-some : (b part : List ℕ) (size : ℕ) (h : MachHeader) (e : MachFault) → part ≡ take 32 (drop 0 b) → h ≡ header_of part → size ≡ length b → first_fault (header_rules size h) ≡ Some e → Err e ≡ header_result b
header-some b part size h e read is sized some = sym (ap (λ o. header_unless o h) some) ∙ header-same b part size h read is sized

-- bytes that are read up to the end of the commands, and zeros behind them
record IsRoom (b room : List ℕ) (at end count : ℕ) : Type 0 where
  pub is : room ≡ take count (drop at b) ++ drop count (replicate 184 0)
  pub few : count ≡ min (end - at) 184
  pub low : at ≤ end
  pub fits : end ≤ length b

byte-inside : (b : List ℕ) (at end count i : ℕ) → count ≤ end - at → at ≤ end → end ≤ length b → i < count
    → slice_index (take count (drop at b) ++ drop count (replicate 184 0)) i ≡ slice_index (take end b) (at + i)
byte-inside b at end count i few order fits inside =
    let l1 = length-take count (drop at b) in
    let l2 = length-drop at b in
    get_or_append_left (take count (drop at b)) (drop count (replicate 184 0)) 0 i (omega arith)
    ∙ get_or-take count (drop at b) i 0 inside
    ∙ get_or-drop at b i 0
    ∙ sym (get_or-take end b (at + i) 0 (omega arith))

byte-past : (b : List ℕ) (at end count i : ℕ) → count ≡ end - at → at ≤ end → end ≤ length b → count ≤ i → i < 184
    → slice_index (take count (drop at b) ++ drop count (replicate 184 0)) i ≡ slice_index (take end b) (at + i)
byte-past b at end count i few order fits past low =
    let l1 = length-take count (drop at b) in
    let l2 = length-drop at b in
    let l3 = length-take end b in
    get_or-append_right (take count (drop at b)) (drop count (replicate 184 0)) count i 0 (omega arith) past
    ∙ get_or-drop count (replicate 184 0) (i - count) 0
    ∙ get_or-replicate 184 (count + (i - count)) 0 0 (omega arith)
    ∙ sym (get_or_past (take end b) (at + i) 0 (omega arith))

byte-room : (b room : List ℕ) (at end count i : ℕ) → IsRoom b room at end count → i < 184 → slice_index room i ≡ slice_index (take end b) (at + i)
byte-room b room at end count i r low =
    let few = r.few in
    let same : slice_index (take count (drop at b) ++ drop count (replicate 184 0)) i ≡ slice_index (take end b) (at + i) =
    elim (cases_lt i count) [
      | inl inside ↦ byte-inside b at end count i (omega arith) r.low r.fits inside
      | inr past ↦ byte-past b at end count i (omega arith) r.low r.fits past low
    ] in
    ap (λ (l : List ℕ). slice_index l i) r.is ∙ same

number-room : (n p : ℕ) (b room : List ℕ) (at end count : ℕ) → IsRoom b room at end count → p + n ≤ 184 → number_at n p room ≡ number_at n (at + p) (take end b)
number-room n p b room at end count r fits =
    number_at-same n p (at + p) room (take end b)
    (λ i low. byte-room b room at end count (p + i) r (omega arith) ∙ ap (slice_index (take end b)) (let e : at + (p + i) ≡ at + p + i = omega arith in e))

parts-room : (b room : List ℕ) (at end count : ℕ) → IsRoom b room at end count → parts_by at room 0 ≡ parts_at (take end b) at
unfolding parts_by command_by segment_at thread_at
parts-room b room at end count r i = record {
  front = record {
    kind = (number-room 4 0 b room at end count r (omega arith)) i;
    at = at;
    size = (number-room 4 4 b room at end count r (omega arith)) i;
  };
  segment = record {
    vmaddr = (number-room 8 24 b room at end count r (omega arith)) i;
    vmsize = (number-room 8 32 b room at end count r (omega arith)) i;
    fileoff = (number-room 8 40 b room at end count r (omega arith)) i;
    filesize = (number-room 8 48 b room at end count r (omega arith)) i;
    initprot = (number-room 4 60 b room at end count r (omega arith)) i;
  };
  thread = record {
    flavor = (number-room 4 8 b room at end count r (omega arith)) i;
    count = (number-room 4 12 b room at end count r (omega arith)) i;
    start = (number-room 8 144 b room at end count r (omega arith)) i;
  };
}

-- a command that is read with as many of its bytes as there may be
pub parts-read : (b part : List ℕ) (at end count : ℕ) → part ≡ take count (drop at b) → count ≡ min (end - at) 184 → at ≤ end → end ≤ length b
    → parts_by at (part ++ drop count (replicate 184 0)) 0 ≡ parts_at (take end b) at
parts-read b part at end count is few low fits =
    parts-room b (part ++ drop count (replicate 184 0)) at end count
    (record { is = ap (λ l. l ++ drop count (replicate 184 0)) is; few = few; low = low; fits = fits })
