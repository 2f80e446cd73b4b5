-- A map of names, as a finite map.
use Rattle.std.proofs.Common.{◌≡◌, ◌∙◌, ap, sym, refl, ℕ, List, [], ◌∷◌, cond, map, Vec, Global}
use Rattle.std.specs.Prelude.{Some}
use Rattle.std.specs.FinMap as fin
use Rattle.std.specs.FinMap.{get-from_entries, get-insert, find, put, same_map, slice_cmp-IsAntisymmetric, nat_cmp-IsAntisymmetric}
use Rattle.std.specs.FinMap.Entries.{find-put}
use Rattle.std.specs.Ordering.{match_ordering}
use Rattle.std.specs.Cmp.Lexicographic.{slice_cmp}
use Rattle.std.specs.Ordering.{nat_cmp, eq_by_cmp, is_eq}
use Rattle.std.specs.Map.{lookup}
use Rattle.std.specs.BTreeMap.{BTreeMap, insert_entry, is_at}
use Rattle.std.specs.declared.cmp.Ordering.{Ordering}
use Rattle.std.specs.declared.cmp.Ordering.TheVariants.{Less, Equal, Greater}
use Rattle.std.proofs.lemmas.Cmp.{nat_list_cmp_total}
use Rattle.ap_shell.specs.Files.{Text, FileMap, entries_in, files_in, named_by}
use Rattle.ap_shell.specs.declared.map.HostFile.{HostFile}

same_files : (m n : FileMap) → ((q : Text) → fin.get m q ≡ fin.get n q) → m ≡ n
same_files m n h = same_map nat_list_cmp_total (slice_cmp-IsAntisymmetric nat_cmp-IsAntisymmetric) m n h

pub found : (name : Text) (es : List (Vec ℕ Global × HostFile)) → lookup (is_at (λ (k : Vec ℕ Global). slice_cmp nat_cmp name k.items)) es ≡ find (slice_cmp nat_cmp) name (map named_by es)
found name [] = refl
found name (e ∷ es) = ap (λ o. cond (is_eq (slice_cmp nat_cmp name e.0.items)) (Some e.1) o) (found name es)

pub get_in : (name : Text) (m : BTreeMap (Vec ℕ Global) HostFile) → lookup (is_at (λ (k : Vec ℕ Global). slice_cmp nat_cmp name k.items)) m.entries ≡ fin.get (files_in m) name
unfolding files_in
get_in name m = found name m.entries ∙ sym (get-from_entries nat_list_cmp_total (map named_by m.entries) name)

abbrev by_name : Vec ℕ Global → Vec ℕ Global → Ordering
by_name a b = slice_cmp nat_cmp a.items b.items

named_by_order : (o : Ordering) (k : Vec ℕ Global) (v : HostFile) (e : Vec ℕ Global × HostFile) (es more : List (Vec ℕ Global × HostFile)) (put_in : List (Text × HostFile)) → map named_by more ≡ put_in
    → map named_by (match_ordering o ((k, v) ∷ e ∷ es) ((e.0, v) ∷ es) (e ∷ more)) ≡ match_ordering o ((k.items, v) ∷ named_by e ∷ map named_by es) ((e.0.items, v) ∷ map named_by es) (named_by e ∷ put_in)
named_by_order Less k v e es more put_in h = refl
named_by_order Equal k v e es more put_in h = refl
named_by_order Greater k v e es more put_in h = ap (λ x. named_by e ∷ x) h

named_put : (k : Vec ℕ Global) (v : HostFile) (es : List (Vec ℕ Global × HostFile)) → map named_by (insert_entry by_name es k v) ≡ put (slice_cmp nat_cmp) k.items v (map named_by es)
named_put k v [] = refl
named_put k v (e ∷ es) = named_by_order (by_name k e.0) k v e es _ _ (named_put k v es)

pub insert_in : (k : Vec ℕ Global) (v : HostFile) (old new : BTreeMap (Vec ℕ Global) HostFile) → new.entries ≡ insert_entry by_name old.entries k v → files_in new ≡ fin.insert (files_in old) k.items v
unfolding files_in
insert_in k v old new h = same_files _ _ (λ q.
    get-from_entries nat_list_cmp_total (map named_by new.entries) q
    ∙ ap (λ es. find (slice_cmp nat_cmp) q (map named_by es)) h
    ∙ ap (find (slice_cmp nat_cmp) q) (named_put k v old.entries)
    ∙ find-put (slice_cmp nat_cmp) nat_list_cmp_total q k.items v (map named_by old.entries)
    ∙ sym (get-insert nat_list_cmp_total (entries_in old.entries) k.items v q ∙ ap (cond (eq_by_cmp (slice_cmp nat_cmp) q k.items) (Some v)) (get-from_entries nat_list_cmp_total (map named_by old.entries) q)))
