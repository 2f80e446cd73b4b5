-- Inputs in memory, and a linked file that is written there.
use Rattle.std.proofs.Common.{◌≡◌, ◌⊎◌, ℕ, ◌+◌, ◌≤◌, Bool, true, false, not, cond, List, [], ◌++◌, length, take, drop, Option, Some, None, Result, Ok, Err, refl, sym, ap, ◌∙◌, inl, inr, subst, arith, unwrap_or}
use Rattle.std.proofs.lemmas.List.{take_all}
use Rattle.std.proofs.lemmas.Slice.Eq.{bytes_eq-Decides}
use Rattle.std.specs.FinMap as map
use Rattle.std.specs.FinMap.{get-empty}
use Rattle.std.specs.Cmp.Lexicographic.{slice_cmp}
use Rattle.std.specs.Ordering.{nat_cmp}
use Rattle.std.specs.Str.{bytes_eq}
use Rattle.ap_claims.specs.Blocks.{BlockState}
use Rattle.ap_files.specs.declared.failure.Failed.{Failed}
use Rattle.ap_files.specs.declared.failure.FileFault.TheVariants as file
use Rattle.ap_files.specs.Files.{FileMap, FileState, IsUnfinished, HasRange, Measures, ReadsAt, Starts, Adds, with_added}
use Rattle.ap_files.specs.Slots.{put}
use Rattle.ap_files.specs.Reads.{HasFile, Unread}
use Rattle.ap_files.specs.Appends.{Fails}
use Rattle.ap_files.proofs.NameMaps.{get-put, put-put}
use Rattle.ap_files.proofs.ReadLemmas.{some_same, not_some}
use Rattle.ap_check.specs.declared.fault.Fault.{Fault}
use Rattle.ap_check.specs.declared.options.Options.{Options}
use Rattle.ap_check.specs.Both.{first_fault_of_both}
use Rattle.ap_check.proofs.Pairs.{first-breaks}
use Rattle.ap_link.specs.declared.end.LinkEnd.{LinkEnd}
use Rattle.ap_link.specs.declared.end.LinkEnd.TheVariants as end
use Rattle.ap_link.specs.Held.{one_name, two_name, out_name, two_of, held_files, held_file, held_out, held_state}
use Rattle.ap_link.specs.LinkedClaims.{linked_of}
use Rattle.ap_link.specs.Answers.{IsLinked}
use Rattle.ap_link.specs.FileAnswers.{HasInputs, HasSecond, LinksFiles}
use Rattle.ap_link.specs.Lent.{IsLent, HasLent}

-- ---- the files by their names

get-held : (f : List ℕ) (s o : Option (List ℕ)) (q : List ℕ) → map.get (held_files f s o) q ≡ held_file f s o q
unfolding held_files
get-held f s o q =
    get-put (put (put map.empty one_name (Some f)) two_name s) out_name o q
    ∙ ap (cond (bytes_eq q out_name) o)
    (get-put (put map.empty one_name (Some f)) two_name s q
    ∙ ap (cond (bytes_eq q two_name) s)
    (get-put map.empty one_name (Some f) q ∙ ap (cond (bytes_eq q one_name) (Some f)) (get-empty (slice_cmp nat_cmp) q)))

put-held : (f : List ℕ) (s o : Option (List ℕ)) (b : List ℕ) → map.insert (held_files f s o) out_name b ≡ held_files f s (Some b)
unfolding held_files
put-held f s o b = put-put (put (put map.empty one_name (Some f)) two_name s) out_name o (Some b)

found : (f : List ℕ) (s o : Option (List ℕ)) (q : List ℕ) (m : FileMap) (r : Option (List ℕ)) → Some (held_files f s o) ≡ Some m → map.get m q ≡ r → held_file f s o q ≡ r
found f s o q m r k at = sym (get-held f s o q) ∙ ap (λ x. map.get x q) (some_same k) ∙ at

-- ---- the calls

pub held-size : (f : List ℕ) (s : Option (List ℕ)) (o : List ℕ) (made begun : Bool) (q bytes : List ℕ) → Some bytes ≡ held_file f s (held_out made o) q
    → Measures (held_state f s o made begun) (held_state f s o made begun) q (Ok (length bytes))
held-size f s o made begun q bytes is = record {
  files = record { kept = refl; unfinished = refl };
  length = λ m b k at. ap length (some_same (is ∙ found f s (held_out made o) q m (Some b) k at));
  ok = record { read_faults = refl; write_faults = refl; absences = refl };
  failed = tt;
  absent = λ t. absurd (not_some (sym (found f s (held_out made o) q t.0 None t.1 t.2) ∙ sym is));
  present = λ m b k at. (refl, tt);
  read_faults = omega arith;
  write_faults = refl;
  absences = omega arith;
}

pub held-missing : (f : List ℕ) (s : Option (List ℕ)) (o : List ℕ) (made begun : Bool) (q : List ℕ) (e : Failed) → None ≡ held_file f s (held_out made o) q
    → Measures (held_state f s o made begun) (held_state f s o made begun) q (Err e)
held-missing f s o made begun q e is = record {
  files = record { kept = refl; unfinished = refl };
  length = tt;
  ok = tt;
  failed = inr (omega arith);
  absent = λ t. (refl, omega arith, refl);
  present = λ m b k at. absurd (not_some (is ∙ found f s (held_out made o) q m (Some b) k at));
  read_faults = omega arith;
  write_faults = refl;
  absences = omega arith;
}

pub held-there : (f : List ℕ) (s o : Option (List ℕ)) (q : List ℕ) (at n : ℕ) → HasRange (Some (held_files f s o)) q at n → None ≡ held_file f s o q → ⊥
held-there f s o q at n h is = let t = h (held_files f s o) refl in not_some (is ∙ sym (get-held f s o q) ∙ t.1)

pub held-ranged : (f : List ℕ) (s o : Option (List ℕ)) (q : List ℕ) (at n : ℕ) (bytes : List ℕ) → HasRange (Some (held_files f s o)) q at n → Some bytes ≡ held_file f s o q → at + n ≤ length bytes
held-ranged f s o q at n bytes h is =
    let t = h (held_files f s o) refl in
    subst (λ x. at + n ≤ length x) (sym (some_same (is ∙ sym (get-held f s o q) ∙ t.1))) t.2

pub held-read : (f : List ℕ) (s : Option (List ℕ)) (o : List ℕ) (made begun : Bool) (q bytes : List ℕ) (at : ℕ) (before after : List ℕ) → Some bytes ≡ held_file f s (held_out made o) q → after ≡ take (length before) (drop at bytes)
    → ReadsAt (held_state f s o made begun) (held_state f s o made begun) q at before after (Ok tt)
held-read f s o made begun q bytes at before after is got = record {
  files = record { kept = refl; unfinished = refl };
  bytes = λ m b k g. got ∙ ap (λ x. take (length before) (drop at x)) (some_same (is ∙ found f s (held_out made o) q m (Some b) k g));
  ok = record { read_faults = refl; write_faults = refl; absences = refl };
  failed = tt;
  read_faults = omega arith;
  write_faults = refl;
  absences = refl;
}

is-named : (b : Bool) → false ≡ not b → b ≡ true
is-named true h = refl
is-named false h = absurd (cc)

pub held-start : (f : List ℕ) (s : Option (List ℕ)) (o next : List ℕ) (made begun : Bool) (q : List ℕ) → false ≡ not (bytes_eq q out_name) → next ≡ []
    → Starts (held_state f s o made begun) (held_state f s next true true) q (Ok tt)
held-start f s o next made begun q named is =
    let same : q ≡ out_name = (bytes_eq-Decides q out_name).0 (is-named (bytes_eq q out_name) named) in
    subst (λ x. Starts (held_state f s o made begun) (held_state f s next true true) x (Ok tt)) (sym same) (record {
      cause = record { files = tt; ok = record { read_faults = refl; write_faults = refl; absences = refl }; failed = tt; read_faults = refl; write_faults = omega arith; absences = refl };
      kept = ap (λ x. Some (held_files f s (Some x))) is ∙ ap (λ x. Some x) (sym (put-held f s (held_out made o) []));
      unfinished = λ m k. refl;
    })

-- the unfinished file is the linked one, which was started
is-out : (begun : Bool) (q : List ℕ) → cond begun (Some out_name) None ≡ Some q → q ≡ out_name
is-out true q is = sym (some_same is)
is-out false q is = absurd (not_some is)

was-made : (made : Bool) (o b : List ℕ) → held_out made o ≡ Some b → made ≡ true
was-made true o b is = refl
was-made false o b is = absurd (not_some is)

out-made : (f : List ℕ) (s : Option (List ℕ)) (o : List ℕ) (made begun : Bool) (q : List ℕ) → IsUnfinished (held_state f s o made begun) q → (q ≡ out_name) × (made ≡ true)
out-made f s o made begun q h =
    let is : q ≡ out_name = is-out begun q (h.unfinished (held_files f s (held_out made o)) refl) in
    let t = h.present (held_files f s (held_out made o)) refl in
    (is, was-made made o t.0 (sym (get-held f s (held_out made o) out_name) ∙ ap (map.get (held_files f s (held_out made o))) (sym is) ∙ t.1))

out-added : (f : List ℕ) (s : Option (List ℕ)) (o next piece : List ℕ) → next ≡ o ++ piece → Some (held_files f s (Some next)) ≡ with_added (Some (held_files f s (Some o))) out_name (take (length piece) piece)
out-added f s o next piece is =
    ap (λ x. Some (held_files f s (Some x))) (is ∙ ap (λ x. o ++ x) (sym (take_all (length piece) piece (omega arith))))
    ∙ ap (λ x. Some x) (sym (put-held f s (Some o) (o ++ take (length piece) piece)))
    ∙ ap (λ x. Some (map.insert (held_files f s (Some o)) out_name (unwrap_or x [] ++ take (length piece) piece))) (sym (get-held f s (Some o) out_name))

pub held-add : (f : List ℕ) (s : Option (List ℕ)) (o next : List ℕ) (made begun : Bool) (q piece : List ℕ) → IsUnfinished (held_state f s o made begun) q → next ≡ o ++ piece
    → Adds (held_state f s o made begun) (held_state f s next made begun) q piece (Ok (length piece))
held-add f s o next made begun q piece h is =
    let out = out-made f s o made begun q h in
    record {
      cause = record { files = tt; ok = record { read_faults = refl; write_faults = refl; absences = refl }; failed = tt; read_faults = refl; write_faults = omega arith; absences = refl };
      count = (omega arith, λ some. some);
      kept = (let added = out-added f s o next piece is in
          rw (out.0, out.1) added);
      unfinished = λ m k. h.unfinished (held_files f s (held_out made o)) refl;
    }

-- ---- a link of them

held-one : (P : List ℕ → Type 0) (f : List ℕ) (s o : Option (List ℕ)) → HasFile (Some (held_files f s o)) one_name P → P f
held-one P f s o h = let t = h (held_files f s o) refl in subst P (sym (some_same (sym (get-held f s o one_name) ∙ t.1))) t.2

held-two : (P : Option (List ℕ) → Type 0) (f : List ℕ) (s o : Option (List ℕ)) → HasSecond (Some (held_files f s o)) (two_of s) P → P s
held-two P f None o h = h
held-two P f (Some b) o h = let t = h (held_files f (Some b) o) refl in subst (λ x. P (Some x)) (sym (some_same (sym (get-held f (Some b) o two_name) ∙ t.1))) t.2

held-both : (P : List ℕ → Option (List ℕ) → Type 0) (f : List ℕ) (s o : Option (List ℕ)) → HasInputs (Some (held_files f s o)) one_name (two_of s) P → P f s
held-both P f s o h = held-two (P f) f s o (held-one (λ a. HasSecond (Some (held_files f s o)) (two_of s) (P a)) f s o h)

-- no read fails, and the inputs are there
no-rise : (f g : List ℕ) (s t : Option (List ℕ)) (o p : List ℕ) (m n b c : Bool) → Fails file.Read (held_state f s o m b) (held_state g t p n c) → ⊥
no-rise f g s t o p m n b c h = let rose = h.rose in absurd (omega arith)

read-there : (f g : List ℕ) (s t : Option (List ℕ)) (o p : List ℕ) (m n b c : Bool) (q bytes : List ℕ) → held_file f s (held_out m o) q ≡ Some bytes → Unread (held_state f s o m b) (held_state g t p n c) q → ⊥
read-there f g s t o p m n b c q bytes is u = elim u.cause [
  | inl rose ↦ absurd (omega arith)
  | inr gone ↦ not_some (sym (gone.1 (held_files f s (held_out m o)) refl) ∙ get-held f s (held_out m o) q ∙ is)
]

pub held-unread : (options : Options) (f g : List ℕ) (s t : Option (List ℕ)) (o p : List ℕ) (m n b c : Bool) → LinksFiles options (held_state f s o m b) (held_state g t p n c) one_name (two_of s) out_name (Err end.ReadFault) → ⊥
held-unread options f g None t o p m n b c h = elim h [
  | inl unread ↦ read-there f g None t o p m n b c one_name f refl unread
  | inr broken ↦ no-rise f g None t o p m n b c broken.0
]
held-unread options f g (Some x) t o p m n b c h = elim h [
  | inl unread ↦ elim unread [
    | inl first ↦ read-there f g (Some x) t o p m n b c one_name f refl first
    | inr second ↦ read-there f g (Some x) t o p m n b c two_name x refl second.0
  ]
  | inr broken ↦ no-rise f g (Some x) t o p m n b c broken.0
]

out-is : (n : Bool) (p linked : List ℕ) → held_out n p ≡ Some linked → p ≡ linked
out-is true p linked is = some_same is
out-is false p linked is = absurd (not_some is)

pub held-linked : (options : Options) (f g : List ℕ) (s t : Option (List ℕ)) (o p : List ℕ) (m n b c : Bool) (size : ℕ) → LinksFiles options (held_state f s o m b) (held_state g t p n c) one_name (two_of s) out_name (Ok size)
    → (first_fault_of_both options f s ≡ None) × IsLinked options f s p
held-linked options f g s t o p m n b c size h =
    let both = held-both _ f s (held_out m o) h.linked in
    let made : held_out n p ≡ Some (linked_of options f s) =
    sym (get-held g t (held_out n p) out_name)
    ∙ ap (λ x. map.get x out_name) (some_same both.1 ∙ put-held f s (held_out m o) (linked_of options f s))
    ∙ get-held f s (Some (linked_of options f s)) out_name in
    (both.0, subst (IsLinked options f s) (sym (out-is n p (linked_of options f s) made)) both.2)

pub held-refused : (options : Options) (f g : List ℕ) (s t : Option (List ℕ)) (o p : List ℕ) (m n b c : Bool) (fault : Fault) → LinksFiles options (held_state f s o m b) (held_state g t p n c) one_name (two_of s) out_name (Err (end.Rule fault))
    → first_fault_of_both options f s ≡ Some fault
held-refused options f g s t o p m n b c fault h =
    elim (held-one _ f s (held_out m o) h.1) [
      | inl one ↦ first-breaks options f s fault one
      | inr two ↦ held-two (λ x. first_fault_of_both options f x ≡ Some fault) f s (held_out m o) two.1
    ]

pub held-whole : (options : Options) (f g : List ℕ) (s t : Option (List ℕ)) (o p : List ℕ) (m n b c : Bool) → LinksFiles options (held_state f s o m b) (held_state g t p n c) one_name (two_of s) out_name (Err end.WriteFault)
    → first_fault_of_both options f s ≡ None
held-whole options f g s t o p m n b c h = (held-both _ f s (held_out m o) h.1).0

-- the name of the second input is that of one that is there
pub named-links : (options : Options) (old new : FileState) (s x : Option (List ℕ)) (r : Result ℕ LinkEnd) → x ≡ two_of s → LinksFiles options old new one_name x out_name r → LinksFiles options old new one_name (two_of s) out_name r
named-links options old new s x r is h = subst (λ y. LinksFiles options old new one_name y out_name r) is h

pub held-lent : (options : Options) (f : List ℕ) (s o x : Option (List ℕ)) (block : BlockState) → x ≡ two_of s → HasLent options (Some (held_files f s o)) block one_name x → IsLent options f s block
held-lent options f s o x block is h = held-both (λ a b. IsLent options a b block) f s o (subst (λ y. HasLent options (Some (held_files f s o)) block one_name y) is h)

pub held-either : (options : Options) (f : List ℕ) (s o x : Option (List ℕ)) (old block : BlockState) → x ≡ two_of s → (block ≡ old) ⊎ HasLent options (Some (held_files f s o)) block one_name x → (block ≡ old) ⊎ IsLent options f s block
held-either options f s o x old block is h = elim h [ inl same ↦ inl same | inr lent ↦ inr (held-lent options f s o x block is lent) ]
