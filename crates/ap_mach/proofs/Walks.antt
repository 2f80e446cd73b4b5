-- Commands as they are written, in the terms of the reading: no rule refuses them, and they give their segments and the start.
use Rattle.std.proofs.Common.{◌≡◌, ℕ, suc, ◌+◌, ◌*◌, ◌^◌, ◌<◌, ◌≤◌, Bool, true, false, if◌then◌else◌, not, ◌||◌, nat_le, nat_lt, List, [], ◌∷◌, ◌++◌, length, None, refl, sym, ap, ◌∙◌, subst, arith, append_assoc}
use Rattle.std.proofs.lemmas.Bool.Decides.{nat_tests}
use Rattle.ap_fields.specs.FirstFault.{first_fault}
use Rattle.ap_fields.specs.Bytes.{Holds}
use Rattle.ap_fields.proofs.FirstFaults.{none-append}
use Rattle.ap_fields.proofs.Bytes.{holds-front, holds-behind}
use Rattle.ap_fields.proofs.FieldReads.{FieldsHeld, fields-held}
use Rattle.ap_mach.specs.declared.types.SegmentCommand.{SegmentCommand}
use Rattle.ap_mach.specs.declared.types.ThreadCommand.{ThreadCommand}
use Rattle.ap_mach.specs.declared.types.CommandParts.{CommandParts}
use Rattle.ap_mach.specs.Format.{command_by, segment_at, thread_at, parts_by, parts_at, parts_from}
use Rattle.ap_mach.specs.MachReading.{is_aligned, maps, command_rules, commands_rules, low_behind, count_behind, segments_of, start_of}
use Rattle.ap_mach.specs.Segments.{load_name, segment_rows, segment_command, segment_table}
use Rattle.ap_mach.specs.Written.{thread_rows, thread_command}
use Rattle.ap_mach.proofs.SegmentTables.{length-segment_command}

-- the numbers of a segment have their widths
pub record SegmentFits (s : SegmentCommand) : Type 0 where
  pub vmaddr : s.vmaddr < 2 ^ 64
  pub vmsize : s.vmsize < 2 ^ 64
  pub fileoff : s.fileoff < 2 ^ 64
  pub filesize : s.filesize < 2 ^ 64
  pub initprot : s.initprot < 2 ^ 32

-- a segment that no rule refuses, whether it maps something or not
pub record Passes (len : ℕ) (s : SegmentCommand) : Type 0 where
  pub aligned : is_aligned s ≡ true
  pub sizes : s.filesize ≤ s.vmsize
  pub part : s.fileoff + s.filesize ≤ len
  pub top : s.vmaddr + s.vmsize ≤ 2 ^ 47
  pub fits : SegmentFits s

-- segments that map something, one behind the other
abbrev pub ArePassed : ℕ → ℕ → List SegmentCommand → Type 0
ArePassed len low [] = Unit {0}
ArePassed len low (s ∷ segments) = Passes len s × (maps s ≡ true) × (low ≤ s.vmaddr) × ArePassed len (s.vmaddr + s.vmsize) segments

-- a segment command and a thread command with their fields
abbrev pub segment_parts : ℕ → SegmentCommand → ThreadCommand → CommandParts
segment_parts at s t = record { front = record { kind = 0x19; at = at; size = 72 }; segment = s; thread = t }

abbrev pub thread_parts : ℕ → SegmentCommand → ℕ → CommandParts
thread_parts at s start = record { front = record { kind = 5; at = at; size = 184 }; segment = s; thread = record { flavor = 4; count = 42; start = start } }

segment-held : (f : List ℕ) (at name most : ℕ) (s : SegmentCommand) → Holds f at (segment_command name most s) → FieldsHeld f at (segment_rows name most s)
unfolding segment_command
segment-held f at name most s held = fields-held f at 72 (segment_rows name most s) refl held

pub parts-segment : (f : List ℕ) (at name most : ℕ) (s : SegmentCommand) → SegmentFits s → Holds f at (segment_command name most s) → parts_at f at ≡ segment_parts at s (thread_at f at)
unfolding parts_by command_by segment_at
parts-segment f at name most s fits held =
    let h : FieldsHeld f at (segment_rows name most s) = segment-held f at name most s held in
    λ i. record {
      front = record { kind = h.0 (omega arith) i; at = at; size = h.1.0 (omega arith) i };
      segment = record {
        vmaddr = h.1.1.1.0 fits.vmaddr i;
        vmsize = h.1.1.1.1.0 fits.vmsize i;
        fileoff = h.1.1.1.1.1.0 fits.fileoff i;
        filesize = h.1.1.1.1.1.1.0 fits.filesize i;
        initprot = h.1.1.1.1.1.1.1.1.0 fits.initprot i;
      };
      thread = thread_at f at;
    }

thread-held : (f : List ℕ) (at start : ℕ) → Holds f at (thread_command start) → FieldsHeld f at (thread_rows start)
unfolding thread_command
thread-held f at start held = fields-held f at 184 (thread_rows start) refl held

parts-thread : (f : List ℕ) (at start : ℕ) → start < 2 ^ 64 → Holds f at (thread_command start) → parts_at f at ≡ thread_parts at (segment_at f at) start
unfolding parts_by command_by thread_at
parts-thread f at start small held =
    let h : FieldsHeld f at (thread_rows start) = thread-held f at start held in
    λ i. record {
      front = record { kind = h.0 (omega arith) i; at = at; size = h.1.0 (omega arith) i };
      segment = segment_at f at;
      thread = record { flavor = h.1.1.0 (omega arith) i; count = h.1.1.1.0 (omega arith) i; start = h.1.1.1.1.0 small i };
    }

le-test : (a b : ℕ) → a ≤ b → nat_le a b ≡ true
le-test a b h = grind (arith, nat_tests)

lt-test : (a b : ℕ) → a < b → nat_lt a b ≡ true
lt-test a b h = grind (arith, nat_tests)

segment-none : (len end k low m at : ℕ) (before : Bool) (s : SegmentCommand) (t : ThreadCommand) → at + 72 ≤ end → Passes len s → (not (maps s) || nat_le low s.vmaddr) ≡ true → (not (maps s) || nat_lt m 97) ≡ true
    → first_fault (command_rules len end k low m before (segment_parts at s t)) ≡ None
segment-none len end k low m at before s t room p order few =
    let t1 : nat_le (at + 8) end ≡ true = le-test (at + 8) end (omega arith) in
    let t2 : nat_le (at + 72) end ≡ true = le-test (at + 72) end room in
    let t3 = p.aligned in
    let t4 = le-test s.filesize s.vmsize p.sizes in
    let t5 = le-test (s.fileoff + s.filesize) len p.part in
    let t6 = le-test (s.vmaddr + s.vmsize) (2 ^ 47) p.top in
    rw (t1, t2, t3, t4, t5, t6, order, few) refl

-- commands of which none is refused, with their segments and the start
pub record Walked (len end k low m start : ℕ) (segments : List SegmentCommand) (parts : List CommandParts) : Type 0 where
  pub none : first_fault (commands_rules len end k low m false parts) ≡ None
  pub segments_are : segments_of parts ≡ segments
  pub begins : start_of parts ≡ start

walk-thread : (len end k low m start at : ℕ) (s : SegmentCommand) → at + 184 ≤ end → Walked len end k low m start [] (thread_parts at s start ∷ [])
walk-thread len end k low m start at s room =
    let t1 : nat_le (at + 8) end ≡ true = le-test (at + 8) end (omega arith) in
    let t2 : nat_le (at + 184) end ≡ true = le-test (at + 184) end room in
    record { none = rw (t1, t2) refl; segments_are = refl; begins = refl }

pub walk-zero : (len end k low m start at : ℕ) (s : SegmentCommand) (t : ThreadCommand) (segments : List SegmentCommand) (rest : List CommandParts) → at + 72 ≤ end → Passes len s → maps s ≡ false
    → Walked len end (k + 1) low m start segments rest → Walked len end k low m start segments (segment_parts at s t ∷ rest)
walk-zero len end k low m start at s t segments rest room p off w =
    let P : CommandParts = segment_parts at s t in
    let none = segment-none len end k low m at false s t room p (ap (λ b. not b || nat_le low s.vmaddr) off) (ap (λ b. not b || nat_lt m 97) off) in
    record {
      none = none-append (command_rules len end k low m false P) (commands_rules len end (k + 1) (low_behind low P) (count_behind m P) false rest) none
          ∙ ap (λ b. first_fault (commands_rules len end (k + 1) (if b then s.vmaddr + s.vmsize else low) (if b then m + 1 else m) false rest)) off
          ∙ w.none;
      segments_are = ap (λ b. if b then s ∷ segments_of rest else segments_of rest) off ∙ w.segments_are;
      begins = w.begins;
    }

walk-segment : (len end k low m start at : ℕ) (s : SegmentCommand) (t : ThreadCommand) (segments : List SegmentCommand) (rest : List CommandParts) → at + 72 ≤ end → Passes len s → maps s ≡ true → low ≤ s.vmaddr → m < 97
    → Walked len end (k + 1) (s.vmaddr + s.vmsize) (m + 1) start segments rest → Walked len end k low m start (s ∷ segments) (segment_parts at s t ∷ rest)
walk-segment len end k low m start at s t segments rest room p on order few w =
    let P : CommandParts = segment_parts at s t in
    let none =
    segment-none len end k low m at false s t room p (ap (λ b. not b || nat_le low s.vmaddr) on ∙ le-test low s.vmaddr order) (ap (λ b. not b || nat_lt m 97) on ∙ lt-test m 97 few) in
    record {
      none = none-append (command_rules len end k low m false P) (commands_rules len end (k + 1) (low_behind low P) (count_behind m P) false rest) none
          ∙ ap (λ b. first_fault (commands_rules len end (k + 1) (if b then s.vmaddr + s.vmsize else low) (if b then m + 1 else m) false rest)) on
          ∙ w.none;
      segments_are = ap (λ b. if b then s ∷ segments_of rest else segments_of rest) on ∙ ap (λ (l : List SegmentCommand). s ∷ l) w.segments_are;
      begins = w.begins;
    }

-- the segment commands of loads, and the thread command behind them
pub walk : (len end k low m start at j : ℕ) (f : List ℕ) (segments : List SegmentCommand) → ArePassed len low segments → end ≡ at + 72 * length segments + 184 → m + length segments ≤ 97 → start < 2 ^ 64
    → Holds f at (segment_table j segments ++ thread_command start) → Walked len end k low m start segments (parts_from f at (suc (length segments)))
walk len end k low m start at j f [] passed stop few small held =
    subst (λ (p : CommandParts). Walked len end k low m start [] (p ∷ [])) (sym (parts-thread f at start small held))
    (walk-thread len end k low m start at (segment_at f at) (omega arith))
walk len end k low m start at j f (s ∷ segments) passed stop few small held =
    let first : List ℕ = segment_command (load_name j) 7 s in
    let more : List ℕ = segment_table (j + 1) segments ++ thread_command start in
    let all : Holds f at (first ++ more) = subst (Holds f at) (append_assoc first (segment_table (j + 1) segments) (thread_command start)) held in
    let here = parts-segment f at (load_name j) 7 s passed.0.fits (holds-front f at first more all) in
    let behind : Holds f (at + 72) more = holds-behind f at (at + 72) first more (let l = length-segment_command (load_name j) 7 s in omega arith) all in
    let rest = walk len end (k + 1) (s.vmaddr + s.vmsize) (m + 1) start (at + 72) (j + 1) f segments passed.3 (omega arith) (omega arith) small behind in
    subst (λ (p : CommandParts). Walked len end k low m start (s ∷ segments) (p ∷ parts_from f (at + p.front.size) (suc (length segments)))) (sym here)
    (walk-segment len end k low m start at s (thread_at f at) segments (parts_from f (at + 72) (suc (length segments))) (omega arith) passed.0 passed.1 passed.2 (omega arith) rest)
