-- What the files of a host answer, and what the utilities of the script do with them.
use Rattle.std.proofs.Common.{◌≡◌, ◌≢◌, ◌∙◌, ap, sym, refl, List, [], ◌∷◌, Bool, true, false, codes, cond}
use Rattle.std.specs.Prelude.{Option, Some, None}
use Rattle.std.specs.FinMap as fin
use Rattle.std.specs.FinMap.{get-insert, same_map, slice_cmp-IsAntisymmetric, nat_cmp-IsAntisymmetric}
use Rattle.std.specs.Cmp.Lexicographic.{texts_ties}
use Rattle.std.specs.Str.{bytes_eq}
use Rattle.std.proofs.lemmas.Cmp.{nat_list_cmp_total}
use Rattle.std.proofs.lemmas.Slice.Eq.{bytes_eq-Decides}
use Rattle.ap_octal.specs.OctalReading.{octal_bytes_of}
use Rattle.ap_shell.specs.Files.{Text, FileMap}
use Rattle.ap_shell.specs.Places.{file_at, host_file, is_null, mode_or, with_file}
use Rattle.ap_shell.specs.Ends.{plain, printing, stopping}
use Rattle.ap_shell.specs.FileCommands.{begins_with, chmod, cp}
use Rattle.ap_shell.specs.TextCommands.{printed_if, printf}
use Rattle.ap_shell.specs.EndCommands.{exec, has_slash, may_run}
use Rattle.ap_shell.specs.declared.map.HostFile.{HostFile}
use Rattle.ap_shell.specs.declared.types.Outcome.TheVariants.{Execs}

pub itself : (t : Text) → bytes_eq t t ≡ true
itself t = (bytes_eq-Decides t t).1 refl

differs_by : (x y : Text) (b : Bool) → bytes_eq x y ≡ b → x ≢ y → bytes_eq x y ≡ false
differs_by x y true is apart = absurd (apart ((bytes_eq-Decides x y).0 is))
differs_by x y false is apart = is

pub differ : (x y : Text) → x ≢ y → bytes_eq x y ≡ false
differ x y apart = differs_by x y _ refl apart

-- ---- the map of files

pub get_insert : (m : FileMap) (k : Text) (v : HostFile) (q : Text) → fin.get (fin.insert m k v) q ≡ cond (bytes_eq q k) (Some v) (fin.get m q)
get_insert m k v q = get-insert nat_list_cmp_total m k v q ∙ ap (λ b. cond b (Some v) (fin.get m q)) (sym (texts_ties q k))

pub inserted : (t : Text) (f : HostFile) (files : FileMap) → fin.get (fin.insert files t f) t ≡ Some f
inserted t f files = get_insert files t f t ∙ ap (λ b. cond b (Some f) (fin.get files t)) (itself t)

twice : (b : Bool) (f g : HostFile) (x : Option HostFile) → cond b (Some g) (cond b (Some f) x) ≡ cond b (Some g) x
twice true f g x = refl
twice false f g x = refl

pub inserted_twice : (t : Text) (f g : HostFile) (files : FileMap) → fin.insert (fin.insert files t f) t g ≡ fin.insert files t g
inserted_twice t f g files =
    same_map nat_list_cmp_total (slice_cmp-IsAntisymmetric nat_cmp-IsAntisymmetric) (fin.insert (fin.insert files t f) t g) (fin.insert files t g) (λ q.
    get_insert (fin.insert files t f) t g q ∙ ap (cond (bytes_eq q t) (Some g)) (get_insert files t f q) ∙ twice (bytes_eq q t) f g (fin.get files q) ∙ sym (get_insert files t g q))

-- ---- a name that isn't `/dev/null`

pub with_named : (t : Text) (f : HostFile) (files : FileMap) → is_null t ≡ false → with_file t f files ≡ fin.insert files t f
unfolding with_file
with_named t f files named = ap (λ b. cond b files (fin.insert files t f)) named

pub host_named : (t : Text) (files : FileMap) → is_null t ≡ false → host_file t files ≡ fin.get files t
unfolding host_file
host_named t files named = ap (λ b. cond b None (fin.get files t)) named

pub at_named : (t : Text) (files : FileMap) → is_null t ≡ false → file_at t files ≡ fin.get files t
unfolding file_at
at_named t files named = ap (λ b. cond b (Some (record { bytes = []; mode = 384 })) (host_file t files)) named ∙ host_named t files named

no_file : (f : HostFile) → ◌≡◌ {A = Option HostFile} None (Some f) → ⊥
no_file f e = cc

at_host_by : (t : Text) (files : FileMap) (f : HostFile) (b : Bool) → is_null t ≡ b → host_file t files ≡ Some f → file_at t files ≡ Some f
unfolding file_at host_file
at_host_by t files f true null there = absurd (no_file f (sym (ap (λ b. cond b None (fin.get files t)) null) ∙ there))
at_host_by t files f false named there = ap (λ b. cond b (Some (record { bytes = []; mode = 384 })) (host_file t files)) named ∙ there

pub at_host : (t : Text) (files : FileMap) (f : HostFile) → host_file t files ≡ Some f → file_at t files ≡ Some f
at_host t files f there = at_host_by t files f _ refl there

-- ---- `/dev/null`

pub null_is : is_null (codes "/dev/null") ≡ true
unfolding is_null
null_is = refl

pub null_kept : (f : HostFile) (files : FileMap) → with_file (codes "/dev/null") f files ≡ files
unfolding with_file
null_kept f files = ap (λ b. cond b files (fin.insert files (codes "/dev/null") f)) null_is

-- ---- the utilities

pub cp_is : (a b : Text) (f : HostFile) (files : FileMap) → begins_with 45 a ≡ false → begins_with 45 b ≡ false → bytes_eq a b ≡ false → file_at a files ≡ Some f
    → cp (a ∷ b ∷ []) files ≡ (plain 0, with_file b (record { bytes = f.bytes; mode = mode_or (file_at b files) f.mode }) files)
unfolding cp
cp_is a b f files plain_a plain_b apart there = rw (plain_a, plain_b, apart, there) refl

pub chmod_is : (t : Text) (f : HostFile) (files : FileMap) → host_file t files ≡ Some f → chmod (codes "700" ∷ t ∷ []) files ≡ (plain 0, with_file t (record { bytes = f.bytes; mode = 448 }) files)
unfolding chmod
chmod_is t f files there = rw there refl

pub exec_is : (ape : Bool) (t : Text) (ws : List Text) (f : HostFile) (files : FileMap) → has_slash t ≡ true → file_at t files ≡ Some f → may_run f.mode ≡ true → exec ape (t ∷ ws) files ≡ stopping (Execs t ws)
unfolding exec
exec_is ape t ws f files slash there run = rw (slash, there, run) refl

pub printf_is : (text bytes : Text) → octal_bytes_of text ≡ Some bytes → printf (text ∷ []) ≡ printing bytes
unfolding printf
printf_is text bytes is = ap printed_if is
