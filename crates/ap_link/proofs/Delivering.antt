-- How a link of inputs that were taken ends.
use Rattle.std.proofs.Common.{◌≡◌, ◌≢◌, inl, inr, ℕ, Bool, true, false, cond, List, [], ◌∷◌, ◌++◌, length, IfSome, Option, Some, None, Ok, Err, refl, sym, ap, ◌∙◌, subst}
use Rattle.ap_fields.specs.FirstFault.{Rules, first_fault}
use Rattle.ap_files.specs.Files.{FileMap, FileState, ForFile, with_file, told_bytes}
use Rattle.ap_files.specs.Reads.{HasFile, ReadFails}
use Rattle.ap_elf.specs.declared.machine.Machine.TheVariants.{X64}
use Rattle.ap_elf.specs.Machines.{is_machine}
use Rattle.ap_check.specs.declared.end.CheckEnd.{CheckEnd}
use Rattle.ap_check.specs.declared.end.CheckEnd.TheVariants as check
use Rattle.ap_check.specs.ImportRule.{ChecksTold}
use Rattle.ap_files.specs.Appends.{Fails, Makes, HasPart}
use Rattle.ap_files.specs.declared.failure.FileFault.{FileFault}
use Rattle.ap_files.specs.declared.failure.FileFault.TheVariants.{Read, Write}
use Rattle.ap_files.proofs.ReadLemmas.{told_as}
use Rattle.ap_check.specs.declared.fault.Fault.{Fault}
use Rattle.ap_check.specs.declared.options.Options.{Options}
use Rattle.ap_check.specs.Inputs.{Taken, input_of, inputs_of}
use Rattle.ap_check.specs.Both.{x64_bytes, pair_rules, first_fault_of_both, IsTakenOf, AreTakenOf}
use Rattle.ap_check.proofs.Pairs.{pair-says}
use Rattle.ap_fields.specs.Readings.{bytes_in as byte_in}
use Rattle.ap_fields.specs.declared.sizes.TheConstants.{BLOCK}
use Rattle.ap_layout.specs.declared.layout.Area.{Area}
use Rattle.ap_layout.specs.Positions.{Positions, positions_of, areas_one, areas_in}
use Rattle.ap_layout.specs.Twins.{masks_of}
use Rattle.ap_layout.proofs.Fitting.{masks-none}
use Rattle.ap_link.proofs.LaidAreas.{laid-are}
use Rattle.ap_script.specs.Blocks.{block_of}
use Rattle.ap_link.specs.declared.end.LinkEnd.{LinkEnd}
use Rattle.ap_link.specs.declared.end.LinkEnd.TheVariants.{ReadFault}
use Rattle.ap_link.specs.declared.source.Source.{Source}
use Rattle.ap_link.specs.Linked.{input_text, text_one, text_two, block_for, tail_of}
use Rattle.ap_link.specs.LinkedClaims.{linked_of}
use Rattle.ap_link.specs.Answers.{IsLinked}
use Rattle.ap_link.specs.FileAnswers.{HasInputs, AreRefused, AreUnread, HasLinkedPart, LinksFiles}
use Rattle.ap_link.specs.Sources.{AreTrueFor, second_name, second_taken, second_told, tail_told, x64_name, AreReadable, IsSource, end_of_check, end_of_fault}
use Rattle.ap_link.proofs.LinkedFiles.{both-linkable, file-linked, file-length, linked-is}

-- ---- what is told of inputs

pub inputs-have : (P Q : List ℕ → Option (List ℕ) → Type 0) (kept : Option FileMap) (first : List ℕ) (second : Option (List ℕ)) → ((a : List ℕ) (b : Option (List ℕ)) → P a b → Q a b) → HasInputs kept first second P → HasInputs kept first second Q
inputs-have P Q kept first None f h = λ m k. let t = h m k in (t.0, t.1, f t.0 None t.2)
inputs-have P Q kept first (Some n) f h = λ m k. let t = h m k in (t.0, t.1, λ m' k'. let u = t.2 m' k' in (u.0, u.1, f t.0 (Some u.0) u.2))

-- the bytes of inputs that are there
abbrev pub AreTold : Option FileMap → List ℕ → Option (List ℕ) → List ℕ → Option (List ℕ) → Type 0
AreTold kept first second a b = (told_bytes kept first ≡ a) × (second_told kept second ≡ b)

pub inputs-told : (P : List ℕ → Option (List ℕ) → Type 0) (kept : Option FileMap) (first : List ℕ) (second : Option (List ℕ)) → HasInputs kept first second P
    → HasInputs kept first second (λ a b. P a b × AreTold kept first second a b)
inputs-told P kept first None h = λ m k. let t = h m k in (t.0, t.1, (t.2, (told_as kept first m t.0 k t.1, refl)))
inputs-told P kept first (Some n) h = λ m k.
    let t = h m k in
    (t.0, t.1, λ m' k'. let u = t.2 m' k' in (u.0, u.1, (u.2, (told_as kept first m t.0 k t.1, ap Some (told_as kept n m' u.0 k' u.1)))))

-- the inputs are there, and were taken of their bytes
pub sources-taken : (kept : Option FileMap) (first : Source) (second : Option Source) → IsSource kept 1 first → IfSome second (λ s. IsSource kept 2 s)
    → HasInputs kept first.name.now (second_name second) (λ a b. AreTakenOf a b first.input.now (second_taken second))
sources-taken kept first None h k = h.told
sources-taken kept first (Some s) h k = λ m e. let t = h.told m e in (t.0, t.1, λ m' e'. let u = k.told m' e' in (u.0, u.1, (t.2, u.2)))

-- their bytes, and the first rule that they break together, as a check of the file of the input for x86-64 told it
pub record ArePassed (options : Options) (first : Source) (second : Option Source) (broken : Option Fault) (a : List ℕ) (b : Option (List ℕ)) : Type 0 where
  pub taken : AreTakenOf a b first.input.now (second_taken second)
  pub fault : first_fault_of_both options a b ≡ broken

passed-by : (options : Options) (first : Source) (second : Option Source) (fault : Option Fault) (a : List ℕ) (b : Option (List ℕ)) → AreTakenOf a b first.input.now (second_taken second)
    → first_fault (pair_rules options first.input.now (second_taken second) (x64_bytes first.input.now a b)) ≡ fault → ArePassed options first second fault a b
passed-by options first second fault a b taken says = record { taken = taken; fault = pair-says options a b first.input.now (second_taken second) taken ∙ says }

two-passed : (is : Bool) (rules : List ℕ → Rules Fault) (kept : Option FileMap) (one two : List ℕ) (fault : Option Fault) (P : List ℕ → List ℕ → Type 0) → ForFile kept (cond is one two) (λ b. first_fault (rules b) ≡ fault)
    → HasFile kept one (λ a. HasFile kept two (P a)) → HasFile kept one (λ a. HasFile kept two (λ b. P a b × (first_fault (rules (cond is a b)) ≡ fault)))
two-passed true rules kept one two fault P says has = λ m k. let t = has m k in (t.0, t.1, λ m' k'. let u = t.2 m' k' in (u.0, u.1, (u.2, says m t.0 k t.1)))
two-passed false rules kept one two fault P says has = λ m k. let t = has m k in (t.0, t.1, λ m' k'. let u = t.2 m' k' in (u.0, u.1, (u.2, says m' u.0 k' u.1)))

pub sources-passed : (options : Options) (kept : Option FileMap) (first : Source) (second : Option Source) (fault : Option Fault) → IsSource kept 1 first → IfSome second (λ s. IsSource kept 2 s)
    → ForFile kept (x64_name first second) (λ b. first_fault (pair_rules options first.input.now (second_taken second) b) ≡ fault) → HasInputs kept first.name.now (second_name second) (ArePassed options first second fault)
sources-passed options kept first None fault h k says = λ m e.
    let t = sources-taken kept first None h k m e in
    (t.0, t.1, passed-by options first None fault t.0 None t.2 (says m t.0 e t.1))
sources-passed options kept first (Some s) fault h k says =
    let e = first.input.now in
    let P : List ℕ → List ℕ → Type 0 = λ a b. AreTakenOf a (Some b) e (Some s.input.now) in
    let has = two-passed (is_machine X64 e.machine) (pair_rules options e (Some s.input.now)) kept first.name.now s.name.now fault P says (sources-taken kept first (Some s) h k) in
    λ m r. let t = has m r in (t.0, t.1, λ m' r'. let u = t.2 m' r' in (u.0, u.1, passed-by options first (Some s) fault t.0 (Some u.0) u.2.0 u.2.1))

-- and their files can be read while another is written
pub sources-readable : (kept : Option FileMap) (first : Source) (second : Option Source) (out : List ℕ) → IsSource kept 1 first → IfSome second (λ s. IsSource kept 2 s) → first.name.now ≢ out → IfSome second (λ s. s.name.now ≢ out)
    → AreReadable kept first second out
sources-readable kept first None out h k apart others = (record { size = h.size; apart = apart }, tt)
sources-readable kept first (Some s) out h k apart others = (record { size = h.size; apart = apart }, record { size = k.size; apart = others })

-- ---- inputs that meet all rules

-- the second input with its bytes
abbrev second_bytes : Option Source → Option (List ℕ) → Option (Taken × List ℕ)
second_bytes None b = None
second_bytes (Some s) None = None
second_bytes (Some s) (Some b) = Some (s.input.now, b)

-- what stands of the bytes of such inputs
pub record IsReady (options : Options) (e : Taken) (second : Option Source) (a : List ℕ) (b : Option (List ℕ)) (masks : List ℕ) : Type 0 where
  pub none : first_fault_of_both options a b ≡ None
  pub bytes : block_for options e (second_taken second) masks ++ tail_of masks e a (second_bytes second b) ≡ linked_of options a b
  pub linked : IsLinked options a b (linked_of options a b)
  pub size : (positions_of options e (second_taken second) masks).total ≡ length (linked_of options a b)

-- masks that are true where there are two inputs
abbrev pub AreTrue : List ℕ → Taken → List ℕ → Option Source → Option (List ℕ) → Type 0
AreTrue masks e a None b = Unit {0}
AreTrue masks e a (Some s) None = Unit {0}
AreTrue masks e a (Some s) (Some b) = masks ≡ masks_of e (byte_in a) s.input.now (byte_in b)

one-ready : (options : Options) (e : Taken) (a masks : List ℕ) → IsTakenOf 1 a e → first_fault_of_both options a None ≡ None → IsReady options e None a None masks
one-ready options e a masks is none =
    let able = both-linkable options a None none in
    let alone : block_for options (input_of 1 a) None masks ≡ block_for options (input_of 1 a) None [] = ap (block_of options (input_of 1 a ∷ [])) (masks-none options (input_of 1 a) masks) in
    record {
      none = none;
      bytes = ap (λ (x : Taken). block_for options x None masks ++ tail_of masks x a None) is.1 ∙ ap (λ x. x ++ tail_of masks (input_of 1 a) a None) alone ∙ sym (linked-is options a None able);
      linked = file-linked options a None none;
      size = ap (λ (x : Taken). (positions_of options x None masks).total) is.1 ∙ ap (λ (x : Positions). x.total) (masks-none options (input_of 1 a) masks)
          ∙ sym (file-length options (input_of 1 a) a None able) ∙ sym (ap length (linked-is options a None able));
    }

two-ready : (options : Options) (e : Taken) (s : Source) (a b masks : List ℕ) → IsTakenOf 1 a e → IsTakenOf 2 b s.input.now → first_fault_of_both options a (Some b) ≡ None → masks ≡ masks_of e (byte_in a) s.input.now (byte_in b)
    → IsReady options e (Some s) a (Some b) masks
two-ready options e s a b masks is and none are =
    let f : Taken = s.input.now in
    let able = both-linkable options a (Some b) none in
    let M : Taken → Taken → List ℕ = λ x y. masks_of x (byte_in a) y (byte_in b) in
    record {
      none = none;
      bytes = ap (λ m. block_for options e (Some f) m ++ tail_of m e a (Some (f, b))) are
          ∙ ap (λ (x : Taken). block_for options x (Some f) (M x f) ++ tail_of (M x f) x a (Some (f, b))) is.1
          ∙ ap (λ (x : Taken). block_for options (input_of 1 a) (Some x) (M (input_of 1 a) x) ++ tail_of (M (input_of 1 a) x) (input_of 1 a) a (Some (x, b))) and.1
          ∙ sym (linked-is options a (Some b) able);
      linked = file-linked options a (Some b) none;
      size = ap (λ m. (positions_of options e (Some f) m).total) are
          ∙ ap (λ (x : Taken). (positions_of options x (Some f) (M x f)).total) is.1
          ∙ ap (λ (x : Taken). (positions_of options (input_of 1 a) (Some x) (M (input_of 1 a) x)).total) and.1
          ∙ sym (file-length options (input_of 1 a) a (Some (input_of 2 b, b)) able) ∙ sym (ap length (linked-is options a (Some b) able));
    }

ready : (options : Options) (first : Source) (second : Option Source) (a : List ℕ) (b : Option (List ℕ)) (masks : List ℕ) → AreTakenOf a b first.input.now (second_taken second) → first_fault_of_both options a b ≡ None
    → AreTrue masks first.input.now a second b → IsReady options first.input.now second a b masks
ready options first None a None masks is none are = one-ready options first.input.now a masks is none
ready options first None a (Some b) masks is none are = absurd is
ready options first (Some s) a None masks is none are = absurd is
ready options first (Some s) a (Some b) masks is none are = two-ready options first.input.now s a b masks is.0 is.1 none are

pub true-as : (kept : Option FileMap) (m : FileMap) (masks : List ℕ) (first : Source) (second : Option Source) (a : List ℕ) (b : Option (List ℕ)) → kept ≡ Some m → AreTrueFor kept masks first second
    → AreTold kept first.name.now (second_name second) a b → AreTrue masks first.input.now a second b
true-as kept m masks first None a b k h told = tt
true-as kept m masks first (Some s) a None k h told = tt
true-as kept m masks first (Some s) a (Some b) k h told =
    let same : told_bytes kept s.name.now ≡ b = (let t = told.1 in cc) in
    h m k
    ∙ ap (λ x. masks_of first.input.now (byte_in x) s.input.now (byte_in (told_bytes kept s.name.now))) told.0
    ∙ ap (λ x. masks_of first.input.now (byte_in a) s.input.now (byte_in x)) same

-- the text of a layout is that of its masks
tail-as : (options : Options) (kept : Option FileMap) (first : Source) (second : Option Source) (masks : List ℕ) (areas : List (List Area)) (a : List ℕ) (b : Option (List ℕ)) → areas ≡ areas_in first.input.now (second_taken second) masks
    → AreTold kept first.name.now (second_name second) a b → tail_told kept first second areas ≡ tail_of masks first.input.now a (second_bytes second b)
tail-as options kept first None masks areas a b are told =
    ap (tail_told kept first None) are ∙ ap (λ x. input_text BLOCK first.input.now x (areas_one first.input.now)) told.0
tail-as options kept first (Some s) masks areas a None are told = let t = told.1 in absurd (cc)
tail-as options kept first (Some s) masks areas a (Some b) are told =
    let e : Taken = first.input.now in
    let f : Taken = s.input.now in
    let same : told_bytes kept s.name.now ≡ b = (let t = told.1 in cc) in
    ap (tail_told kept first (Some s)) are
    ∙ ap (λ x. text_one e x ++ text_two masks e f (told_bytes kept s.name.now)) told.0
    ∙ ap (λ x. text_one e a ++ text_two masks e f x) same

-- ---- the ends

-- what stands of the bytes of the inputs' files, where the inputs are told
pub record IsReadyFor (options : Options) (text : List ℕ) (n : ℕ) (a : List ℕ) (b : Option (List ℕ)) : Type 0 where
  pub none : first_fault_of_both options a b ≡ None
  pub text_is : text ≡ linked_of options a b
  pub linked : IsLinked options a b (linked_of options a b)
  pub size : n ≡ length (linked_of options a b)

text-ready : (options : Options) (kept : Option FileMap) (m : FileMap) (first : Source) (second : Option Source) (block masks : List ℕ) (l : Positions) (n : ℕ) (a : List ℕ) (b : Option (List ℕ)) → kept ≡ Some m
    → block ≡ block_for options first.input.now (second_taken second) masks → l ≡ positions_of options first.input.now (second_taken second) masks → n ≡ l.total → AreTrueFor kept masks first second
    → ArePassed options first second None a b → AreTold kept first.name.now (second_name second) a b → IsReadyFor options (block ++ tail_told kept first second l.areas) n a b
text-ready options kept m first second block masks l n a b k is at total are passed told =
    let r = ready options first second a b masks passed.taken passed.fault (true-as kept m masks first second a b k are told) in
    record {
      none = r.none;
      text_is = ap (λ x. x ++ tail_told kept first second l.areas) is
          ∙ ap (λ x. block_for options first.input.now (second_taken second) masks ++ x) (tail-as options kept first second masks l.areas a b (laid-are options first.input.now (second_taken second) masks l at) told)
          ∙ r.bytes;
      linked = r.linked;
      size = total ∙ ap (λ (x : Positions). x.total) at ∙ r.size;
    }

pub inputs-by : (P Q : List ℕ → Option (List ℕ) → Type 0) (kept : Option FileMap) (first : List ℕ) (second : Option (List ℕ)) → ((m : FileMap) (a : List ℕ) (b : Option (List ℕ)) → kept ≡ Some m → P a b → Q a b) → HasInputs kept first second P
    → HasInputs kept first second Q
inputs-by P Q kept first None f h = λ m k. let t = h m k in (t.0, t.1, f m t.0 None k t.2)
inputs-by P Q kept first (Some n) f h = λ m k. let t = h m k in (t.0, t.1, λ m' k'. let u = t.2 m' k' in (u.0, u.1, f m t.0 (Some u.0) k u.2))

-- of inputs that were taken and break no rule
pub all-ready : (options : Options) (kept : Option FileMap) (first : Source) (second : Option Source) (block masks : List ℕ) (l : Positions) (n : ℕ) → IsSource kept 1 first → IfSome second (λ s. IsSource kept 2 s)
    → ForFile kept (x64_name first second) (λ b. first_fault (pair_rules options first.input.now (second_taken second) b) ≡ None)
    → block ≡ block_for options first.input.now (second_taken second) masks → l ≡ positions_of options first.input.now (second_taken second) masks → n ≡ l.total → AreTrueFor kept masks first second
    → HasInputs kept first.name.now (second_name second) (IsReadyFor options (block ++ tail_told kept first second l.areas) n)
all-ready options kept first second block masks l n h k says is at total are =
    inputs-by (λ a b. ArePassed options first second None a b × AreTold kept first.name.now (second_name second) a b)
    (IsReadyFor options (block ++ tail_told kept first second l.areas) n) kept first.name.now (second_name second)
    (λ m a b e t. text-ready options kept m first second block masks l n a b e is at total are t.0 t.1)
    (inputs-told (ArePassed options first second None) kept first.name.now (second_name second) (sources-passed options kept first second None h k says))

-- the file is made of them
pub links-made : (options : Options) (old new : FileState) (first : List ℕ) (second : Option (List ℕ)) (out text : List ℕ) (n : ℕ) → HasInputs old.kept first second (IsReadyFor options text n)
    → Makes old new out text None → LinksFiles options old new first second out (Ok n)
links-made options old new first second out text n has m = record {
  counts = m.counts;
  unfinished = m.unfinished;
  linked = inputs-have (IsReadyFor options text n)
      (λ a b. (first_fault_of_both options a b ≡ None) × (new.kept ≡ with_file old.kept out (linked_of options a b)) × IsLinked options a b (linked_of options a b)) old.kept first second
      (λ a b t. (t.none, m.kept ∙ ap (with_file old.kept out) t.text_is, t.linked)) has;
  size = inputs-have (IsReadyFor options text n) (λ a b. n ≡ length (linked_of options a b)) old.kept first second (λ a b t. t.size) has;
}

-- it isn't
links-by : (options : Options) (old new : FileState) (first : List ℕ) (second : Option (List ℕ)) (out text : List ℕ) (n : ℕ) (f : FileFault) → HasInputs old.kept first second (IsReadyFor options text n)
    → Makes old new out text (Some f) → LinksFiles options old new first second out (Err (end_of_fault f))
links-by options old new first second out text n f has m = by f m.1
  where
    part : HasLinkedPart options old new first second out
    part = inputs-have (IsReadyFor options text n) (λ a b. (first_fault_of_both options a b ≡ None) × HasPart old new out (linked_of options a b)) old.kept first second
        (λ a b t. (t.none, subst (HasPart old new out) t.text_is m.0)) has

    by : (f : FileFault) → Fails f old new → LinksFiles options old new first second out (Err (end_of_fault f))
    by Read fails = inr (fails, part)
    by Write fails = (fails, part)

pub links-unmade : (options : Options) (old new : FileState) (first : List ℕ) (second : Option (List ℕ)) (out text : List ℕ) (n : ℕ) (f : FileFault) (e : LinkEnd) → HasInputs old.kept first second (IsReadyFor options text n)
    → e ≡ end_of_fault f → Makes old new out text (Some f) → LinksFiles options old new first second out (Err e)
links-unmade options old new first second out text n f e has ends m =
    subst (λ x. LinksFiles options old new first second out (Err x)) (sym ends) (links-by options old new first second out text n f has m)

-- the inputs break a rule together
refused-by : (options : Options) (kept : Option FileMap) (first : Source) (second : Option Source) (f : Fault) → HasInputs kept first.name.now (second_name second) (ArePassed options first second (Some f))
    → AreRefused options kept first.name.now (second_name second) f
refused-by options kept first None f has = λ m e. let t = has m e in (t.0, t.1, inr (t.2.taken.0, t.2.fault))
refused-by options kept first (Some s) f has = λ m e.
    let t = has m e in
    let u = t.2 m e in
    (t.0, t.1, inr (u.2.taken.0.0, λ m' e'. let v = t.2 m' e' in (v.0, v.1, v.2.fault)))

unread : (old new : FileState) (first : List ℕ) (second : Option (List ℕ)) → ReadFails old new → AreUnread old new first second
unread old new first None r = record { files = r.files; write_faults = r.write_faults; cause = inl r.rose }
unread old new first (Some n) r = inl (record { files = r.files; write_faults = r.write_faults; cause = inl r.rose })

-- a read fails while they are compared
pub links-unfound : (options : Options) (old new : FileState) (first : List ℕ) (second : Option (List ℕ)) (out : List ℕ) → ReadFails old new → LinksFiles options old new first second out (Err ReadFault)
links-unfound options old new first second out r = inl (unread old new first second r)

-- a check of them refuses them, or fails to read one
pub links-unchecked : (T : Type 0) (options : Options) (old new : FileState) (first : Source) (second : Option Source) (out name : List ℕ) (end : CheckEnd) → IsSource old.kept 1 first
    → IfSome second (λ s. IsSource old.kept 2 s) → name ≡ x64_name first second → ChecksTold {T = T} old new name (pair_rules options first.input.now (second_taken second)) (Err end)
    → LinksFiles options old new first.name.now (second_name second) out (Err (end_of_check end))
links-unchecked T options old new first second out name (check.Rule f) h k is told =
    let says = subst (λ n. ForFile old.kept n (λ b. first_fault (pair_rules options first.input.now (second_taken second) b) ≡ Some f)) is told.1 in
    (told.0, refused-by options old.kept first second f (sources-passed options old.kept first second (Some f) h k says))
links-unchecked T options old new first second out name check.ReadFault h k is told = inl (unread old new first.name.now (second_name second) told)

-- ---- what a job gives, by its inputs

pub positions-as : (options : Options) (masks : List ℕ) (l : Positions) (e x : Taken) (o y : Option Taken) → l ≡ positions_of options x y masks → x ≡ e → y ≡ o → l ≡ positions_of options e o masks
positions-as options masks l e x o y is h k = is ∙ ap (λ z. positions_of options z y masks) h ∙ ap (λ z. positions_of options e z masks) k

pub block-as : (block : List ℕ) (options : Options) (masks : List ℕ) (l : Positions) (e x : Taken) (o y : Option Taken) → block ≡ block_of options (inputs_of x y) l → l ≡ positions_of options x y masks → x ≡ e → y ≡ o → block ≡ block_for options e o masks
block-as block options masks l e x o y is p h k =
    is ∙ ap (block_of options (inputs_of x y)) p ∙ ap (λ z. block_for options z y masks) h ∙ ap (λ z. block_for options e z masks) k
