-- What the lines that copy the file do: `cp`, `chmod`, a command that writes over the copy's first bytes, and `exec`.
use Rattle.std.proofs.Common.{◌≡◌, ◌∙◌, ap, sym, refl, ℕ, List, [], ◌∷◌, ◌++◌, true, false, codes, map}
use Rattle.std.specs.Prelude.{Option, Some, None}
use Rattle.std.specs.FinMap as fin
use Rattle.std.specs.Fmt.{decimal}
use Rattle.std.specs.Str.{bytes_eq}
use Rattle.std.proofs.lemmas.List.{append-nil}
use Rattle.ap_fields.specs.Bytes.{over}
use Rattle.ap_octal.specs.DdEffect.{dd_effect}
use Rattle.ap_octal.specs.DdPlace.{short_number}
use Rattle.ap_octal.specs.OctalReading.{octal_bytes_of}
use Rattle.ap_shell.specs.Files.{Text, FileMap}
use Rattle.ap_shell.specs.Places.{file_at, is_null, mode_or, with_file}
use Rattle.ap_shell.specs.Ends.{plain, printing, stopping}
use Rattle.ap_shell.specs.FileCommands.{begins_with, chmod, cp}
use Rattle.ap_shell.specs.DdCommand.{dd}
use Rattle.ap_shell.specs.TextCommands.{printf}
use Rattle.ap_shell.specs.EndCommands.{exec, has_slash}
use Rattle.ap_shell.specs.Steps.{Gives, unless_ended}
use Rattle.ap_shell.specs.Redirecting.{Redirects}
use Rattle.ap_shell.specs.Words.{value_of}
use Rattle.ap_shell.specs.Obeying.{counted, simply}
use Rattle.ap_shell.specs.Meaning.{chain_meaning, in_turn, joined_on}
use Rattle.ap_shell.specs.declared.map.HostFile.{HostFile}
use Rattle.ap_shell.specs.declared.types.Env.{Env}
use Rattle.ap_shell.specs.declared.types.Host.{Host}
use Rattle.ap_shell.specs.declared.types.Outcome.{Outcome}
use Rattle.ap_shell.specs.declared.types.Outcome.TheVariants.{Execs}
use Rattle.ap_shell.specs.declared.state.State.{State}
use Rattle.ap_shparse.specs.declared.tree.Chain.{Chain}
use Rattle.ap_dispatch.proofs.Tree.{chmod_item, copy_items, cp_item, dd_item, start_item, statement_item}
use Rattle.ap_dispatch.proofs.Opened.{chmod_opened, chmod_words, cp_opened, cp_words, dd_opened, dd_words, exit_with, onto_copy, opened, printf_words, start_opened, start_words, statement_opened, to_null}
use Rattle.ap_dispatch.proofs.FileFacts.{at_named, chmod_is, cp_is, exec_is, host_named, inserted, inserted_twice, itself, null_kept, printf_is, with_named}
use Rattle.ap_dispatch.proofs.Stopping.{Stops, stops_later, stops_now}

-- the state after a utility that ends well
abbrev pub after : State → FileMap → State
after s files = record { vars = s.vars; host = record { files = files; out = s.host.out }; status = 0; calls = counted s; inner = 0 }

abbrev Went : State → FileMap → Option Outcome × State
Went s files = (None, after s files)

-- ---- each command

cp_runs : (env : Env) (s : State) (t : Text) (files : FileMap) → value_of (codes "t") s.vars ≡ t → env.fails ≡ [] → cp (env.zero ∷ t ∷ []) s.host.files ≡ (plain 0, files)
    → simply env (cp_words env) [] [] false s ≡ Went s files
cp_runs env s t files t_is none is = rw (append-nil env.zero, append-nil (value_of (codes "t") s.vars), t_is, none, is) refl

chmod_runs : (env : Env) (s : State) (t : Text) (files : FileMap) → value_of (codes "t") s.vars ≡ t → env.fails ≡ [] → chmod (codes "700" ∷ t ∷ []) s.host.files ≡ (plain 0, files)
    → simply env chmod_words [] [] false s ≡ Went s files
chmod_runs env s t files t_is none is = rw (append-nil (value_of (codes "t") s.vars), t_is, none, is) refl

-- what is printed into the copy
abbrev written_to : Text → HostFile → Text → FileMap → FileMap
written_to t f bytes files = with_file t (record { bytes = over f.bytes bytes; mode = f.mode }) files

printf_runs : (env : Env) (s : State) (t octals : Text) (f : HostFile) (b : ℕ) (bytes : Text) → value_of (codes "t") s.vars ≡ t → env.fails ≡ []
    → file_at t s.host.files ≡ Some f → is_null t ≡ false → printf (octals ∷ []) ≡ printing (b ∷ bytes)
    → simply env (printf_words octals) (onto_copy ∷ []) [] false s ≡ Went s (written_to t f (b ∷ bytes) s.host.files)
printf_runs env s t octals f b bytes t_is none there named is =
    rw (append-nil (value_of (codes "t") s.vars), append-nil octals, t_is, append-nil t, named, there, none, is, there) refl

printf_nothing : (env : Env) (s : State) (t octals : Text) (f : HostFile) → value_of (codes "t") s.vars ≡ t → env.fails ≡ []
    → file_at t s.host.files ≡ Some f → is_null t ≡ false → printf (octals ∷ []) ≡ printing []
    → simply env (printf_words octals) (onto_copy ∷ []) [] false s ≡ Went s s.host.files
printf_nothing env s t octals f t_is none there named is =
    rw (append-nil (value_of (codes "t") s.vars), append-nil octals, t_is, append-nil t, named, there, none, is) refl

dd_runs : (env : Env) (s : State) (t : Text) (skip count : ℕ) (files : FileMap) → value_of (codes "t") s.vars ≡ t → env.fails ≡ []
    → dd ((codes "if=" ++ t) ∷ (codes "of=" ++ t) ∷ codes "bs=8" ∷ (codes "skip=" ++ decimal skip) ∷ (codes "count=" ++ decimal count) ∷ codes "conv=notrunc" ∷ []) s.host.files ≡ (plain 0, files)
    → simply env (dd_words skip count) (to_null 2 ∷ []) [] false s ≡ Went s files
dd_runs env s t skip count files t_is none is =
    rw (append-nil (value_of (codes "t") s.vars), append-nil (decimal skip), append-nil (decimal count), t_is, none, null_kept, is) refl

start_runs : (env : Env) (s : State) (t : Text) → value_of (codes "t") s.vars ≡ t → exec env.ape (t ∷ env.args) s.host.files ≡ stopping (Execs t env.args)
    → simply env (start_words env) [] [] false s ≡ (Some (Execs t env.args), record { vars = s.vars; host = s.host; status = 0; calls = s.calls; inner = 0 })
start_runs env s t t_is is = rw (append-nil (value_of (codes "t") s.vars), append-nil env.args, t_is, is) refl

dd_is : (t : Text) (f : HostFile) (skip count : ℕ) (files : FileMap) → short_number (decimal skip) ≡ Some skip → short_number (decimal count) ≡ Some count → file_at t files ≡ Some f
    → dd ((codes "if=" ++ t) ∷ (codes "of=" ++ t) ∷ codes "bs=8" ∷ (codes "skip=" ++ decimal skip) ∷ (codes "count=" ++ decimal count) ∷ codes "conv=notrunc" ∷ []) files
    ≡ (plain 0, with_file t (record { bytes = dd_effect (bytes_eq t t) 8 skip count f.bytes f.bytes; mode = f.mode }) files)
unfolding dd
dd_is t f skip count files skip_is count_is there = rw (skip_is, count_is, there, there) refl

-- ---- items, one after another

item_goes : (env : Env) (x : Chain) (words : List (Gives (List Text))) (redirects : List Redirects) (n : Text) (s : State) (files : FileMap)
    → chain_meaning env x ≡ opened env words redirects (exit_with env n ∷ []) → simply env words redirects [] false s ≡ Went s files → chain_meaning env x s ≡ Went s files
item_goes env x words redirects n s files is goes = ap (λ f. f s) is ∙ ap (λ r. unless_ended r (joined_on (exit_with env n ∷ []))) goes

-- what is known of the copy's name
pub record IsCopyName (t : Text) : Type 0 where
  pub named : is_null t ≡ false
  pub no_option : begins_with 45 t ≡ false
  pub slash : has_slash t ≡ true

abbrev copy_of : Text → HostFile
copy_of bytes = record { bytes = bytes; mode = 448 }

-- an item makes these bytes of the copy
pub Overwrites : Env → Chain → Text → Text → Text → Type 0
Overwrites env item t w bytes =
    (s : State) (files : FileMap) → value_of (codes "t") s.vars ≡ t → s.host.files ≡ fin.insert files t (copy_of w)
    → chain_meaning env item s ≡ Went s (fin.insert s.host.files t (copy_of bytes))

pub dd_overwrites : (env : Env) (t w : Text) (skip count : ℕ) → env.fails ≡ [] → IsCopyName t → short_number (decimal skip) ≡ Some skip → short_number (decimal count) ≡ Some count
    → Overwrites env (dd_item skip count) t w (dd_effect true 8 skip count w w)
unfolding Overwrites
dd_overwrites env t w skip count none name skip_is count_is s files t_is copied =
    let f = copy_of w in
    let there = at_named t s.host.files name.named ∙ ap (λ fs. fin.get fs t) copied ∙ inserted t f files in
    item_goes env (dd_item skip count) (dd_words skip count) (to_null 2 ∷ []) (codes "123") s (fin.insert s.host.files t (copy_of (dd_effect true 8 skip count w w))) (dd_opened env skip count)
    (dd_runs env s t skip count _ t_is none
    (dd_is t f skip count s.host.files skip_is count_is there
    ∙ ap (λ b. (plain 0, with_file t (copy_of (dd_effect b 8 skip count w w)) s.host.files)) (itself t)
    ∙ ap (λ fs. (plain 0, fs)) (with_named t (copy_of (dd_effect true 8 skip count w w)) s.host.files name.named)))

-- the printed bytes are none, or some
pub printf_overwrites : (env : Env) (t w octals bytes : Text) → env.fails ≡ [] → IsCopyName t → octal_bytes_of octals ≡ Some bytes
    → Overwrites env (statement_item octals) t w (over w bytes)
unfolding Overwrites
printf_overwrites env t w octals [] none name spelled s files t_is copied =
    let f = copy_of w in
    let there = at_named t s.host.files name.named ∙ ap (λ fs. fin.get fs t) copied ∙ inserted t f files in
    item_goes env (statement_item octals) (printf_words octals) (onto_copy ∷ []) (codes "124") s (fin.insert s.host.files t f) (statement_opened env octals)
    (printf_nothing env s t octals f t_is none there name.named (printf_is octals [] spelled)
    ∙ ap (Went s) (copied ∙ sym (ap (λ fs. fin.insert fs t f) copied ∙ inserted_twice t f f files)))
printf_overwrites env t w octals (b ∷ bytes) none name spelled s files t_is copied =
    let f = copy_of w in
    let there = at_named t s.host.files name.named ∙ ap (λ fs. fin.get fs t) copied ∙ inserted t f files in
    item_goes env (statement_item octals) (printf_words octals) (onto_copy ∷ []) (codes "124") s (fin.insert s.host.files t (copy_of (over w (b ∷ bytes)))) (statement_opened env octals)
    (printf_runs env s t octals f b bytes t_is none there name.named (printf_is octals (b ∷ bytes) spelled)
    ∙ ap (Went s) (with_named t (copy_of (over w (b ∷ bytes))) s.host.files name.named))

-- ---- all of them

pub copies : (env : Env) (s : State) (t w bytes : Text) (mode : ℕ) (item : Chain)
    → value_of (codes "t") s.vars ≡ t → env.fails ≡ [] → IsCopyName t
    → begins_with 45 env.zero ≡ false → bytes_eq env.zero t ≡ false → file_at env.zero s.host.files ≡ Some (record { bytes = w; mode = mode })
    → Overwrites env item t w bytes
    → Stops (in_turn (map (chain_meaning env) (copy_items item)) s)
    (Execs t env.args, record { files = fin.insert s.host.files t (copy_of bytes); out = s.host.out })
unfolding Overwrites
copies env s t w bytes mode item t_is none name zero_plain apart there overwrites =
    let files = s.host.files in
    let f1 : HostFile = record { bytes = w; mode = mode_or (file_at t files) mode } in
    let files1 = fin.insert files t f1 in
    let files2 = fin.insert files1 t (copy_of w) in
    let files3 = fin.insert files2 t (copy_of bytes) in
    let s1 = after s files1 in
    let s2 = after s1 files2 in
    let s3 = after s2 files3 in
    let e1 = item_goes env cp_item (cp_words env) [] (codes "121") s files1 (cp_opened env)
    (cp_runs env s t files1 t_is none (cp_is env.zero t _ files zero_plain name.no_option apart there ∙ ap (λ fs. (plain 0, fs)) (with_named t f1 files name.named))) in
    let e2 = item_goes env chmod_item chmod_words [] (codes "122") s1 files2 (chmod_opened env)
    (chmod_runs env s1 t files2 t_is none (chmod_is t f1 files1 (host_named t files1 name.named ∙ inserted t f1 files) ∙ ap (λ fs. (plain 0, fs)) (with_named t (copy_of w) files1 name.named))) in
    let e3 = overwrites s2 files1 t_is refl in
    let e4 = start_runs env s3 t t_is (exec_is env.ape t env.args (copy_of bytes) files3 name.slash (at_named t files3 name.named ∙ inserted t (copy_of bytes) files2) refl) in
    let end : Outcome × Host = (Execs t env.args, record { files = fin.insert files t (copy_of bytes); out = s.host.out }) in
    stops_later (chain_meaning env cp_item) (map (chain_meaning env) (chmod_item ∷ item ∷ start_item ∷ [])) s s1 end e1
    (stops_later (chain_meaning env chmod_item) (map (chain_meaning env) (item ∷ start_item ∷ [])) s1 s2 end e2
    (stops_later (chain_meaning env item) (map (chain_meaning env) (start_item ∷ [])) s2 s3 end e3
    (stops_now (chain_meaning env start_item) [] s3 end (record {
      state = record { vars = s3.vars; host = s3.host; status = 0; calls = s3.calls; inner = 0 };
      is = ap (λ f. f s3) (start_opened env) ∙ ap (λ r. unless_ended r (joined_on [])) e4;
      host = ap (λ (fs : FileMap). record { files = fs; out = s.host.out }) (inserted_twice t (copy_of w) (copy_of bytes) files1 ∙ inserted_twice t f1 (copy_of bytes) files);
    }))))
