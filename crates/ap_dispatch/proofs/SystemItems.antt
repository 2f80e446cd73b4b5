-- What the script does from the test of the system on.
use Rattle.std.proofs.Common.{◌≡◌, ◌∙◌, ap, refl, subst, ℕ, List, [], ◌∷◌, ◌++◌, Bool, true, false, codes, cond, map}
use Rattle.std.specs.Prelude.{Option, Some, None, ◌||◌, ◌&&◌}
use Rattle.std.specs.Option.{is_some}
use Rattle.std.specs.Fmt.{decimal}
use Rattle.std.specs.Str.{bytes_eq}
use Rattle.std.proofs.lemmas.Slice.Eq.{bytes_eq-Decides}
use Rattle.ap_fields.specs.Bytes.{over}
use Rattle.ap_octal.specs.DdEffect.{dd_effect}
use Rattle.ap_octal.specs.DdPlace.{short_number}
use Rattle.ap_octal.specs.OctalReading.{octal_bytes_of}
use Rattle.ap_octal.specs.Statement.{octals_of}
use Rattle.ap_check.specs.declared.options.Systems.{Systems}
use Rattle.ap_check.specs.Options.{has_system}
use Rattle.ap_elf.specs.declared.machine.Machine.{Machine}
use Rattle.ap_elf.specs.declared.machine.Machine.TheVariants.{X64, A64}
use Rattle.ap_script.specs.Script.{kernels_of, machine_names}
use Rattle.ap_shell.specs.Files.{Text}
use Rattle.ap_shell.specs.Places.{file_at}
use Rattle.ap_shell.specs.Words.{value_of}
use Rattle.ap_shell.specs.Steps.{Action, unless_ended}
use Rattle.ap_shell.specs.Meaning.{branch, chain_meaning, in_turn}
use Rattle.ap_shell.specs.declared.types.Env.{Env}
use Rattle.ap_shell.specs.declared.types.Host.{Host}
use Rattle.ap_shell.specs.declared.types.Outcome.{Outcome}
use Rattle.ap_shell.specs.declared.types.Outcome.TheVariants.{Exits}
use Rattle.ap_shell.specs.declared.state.State.{State}
use Rattle.ap_shparse.specs.declared.tree.Chain.{Chain}
use Rattle.ap_dispatch.specs.Dispatch.{IsReady, by_header, by_mach, copy_name, is_name_of, is_one_of, machine_name, named_header, runs_copy, system_name}
use Rattle.ap_dispatch.proofs.Tree.{copy_items, darwin_item, darwin_x64_items, dd_item, exit_item, if_item, is_any, machine_items, statement_item, system_items, system_test, systems_item}
use Rattle.ap_dispatch.proofs.FileFacts.{at_host, differ}
use Rattle.ap_dispatch.proofs.Stopping.{Stops, if_goes, if_passed, if_stops, stops_by, stops_if, stops_later, stops_now}
use Rattle.ap_dispatch.proofs.Testing.{is_any_goes, system_test_goes, tested}
use Rattle.ap_dispatch.proofs.Copying.{Overwrites, copies, dd_overwrites, printf_overwrites}
use Rattle.ap_dispatch.proofs.CopyNames.{copy_name_is}
use Rattle.ap_dispatch.proofs.FirstItems.{exit_stops, exits_125, exits_126}

-- what the script has found out when it tests the system
pub record Knows (env : Env) (host : Host) (s : State) : Type 0 where
  pub machine : value_of (codes "m") s.vars ≡ machine_name env
  pub system : value_of (codes "s") s.vars ≡ system_name env
  pub copy : value_of (codes "t") s.vars ≡ copy_name env
  pub same : s.host ≡ host

stops_as : (r : Option Outcome × State) (end other : Outcome × Host) → end ≡ other → Stops r end → Stops r other
stops_as r end other e stops = subst (λ x. Stops r x) e stops

or_false : (b : Bool) → (b || false) ≡ b
or_false true = refl
or_false false = refl

of_two : (a b : Bool) → (a || (b || false)) ≡ (a || b)
of_two true b = refl
of_two false b = or_false b

-- ---- the copy

copy_runs : (env : Env) (host : Host) (w bytes : Text) (item : Chain) (s : State) → IsReady env host w → Knows env host s → Overwrites env item (copy_name env) w bytes
    → Stops (in_turn (map (chain_meaning env) (copy_items item)) s) (runs_copy env bytes host)
copy_runs env host w bytes item s ready known overwrites =
    stops_as (in_turn (map (chain_meaning env) (copy_items item)) s) (runs_copy env bytes s.host) (runs_copy env bytes host) (ap (runs_copy env bytes) known.same)
    (copies env s (copy_name env) w bytes ready.mode item known.copy ready.none_fail (copy_name_is env ready.tmpdir) ready.no_option (differ env.zero (copy_name env) ready.apart)
    (ap (λ (h : Host). file_at env.zero h.files) known.same ∙ at_host env.zero host.files (record { bytes = w; mode = ready.mode }) ready.there) overwrites)

-- ---- macOS

-- the numbers of `dd` have at most nine digits
pub record AreShort (skip count : ℕ) : Type 0 where
  pub skipped : short_number (decimal skip) ≡ Some skip
  pub counted : short_number (decimal count) ≡ Some count

-- the lines for macOS behind their test
darwin_items : Bool → ℕ → ℕ → List Chain
darwin_items x64 skip count = darwin_x64_items x64 skip count ++ exit_item (codes "125") ∷ []

darwin_by : (env : Env) (host : Host) (w : Text) (x64 : Bool) (skip count : ℕ) (s : State) (b : Bool) → IsReady env host w → Knows env host s → AreShort skip count
    → bytes_eq (machine_name env) (codes "x86_64") ≡ b
    → Stops (in_turn (map (chain_meaning env) (darwin_items x64 skip count)) s) (by_mach (x64 && b) skip count w env host)
unfolding darwin_items
darwin_by env host w false skip count s b ready known short is =
    stops_now (chain_meaning env (exit_item (codes "125"))) [] s (Exits 125, host)
    (stops_as (chain_meaning env (exit_item (codes "125")) s) (Exits 125, s.host) (Exits 125, host) (ap (λ (h : Host). (Exits 125, h)) known.same) (exit_stops env (codes "125") 125 s exits_125))
darwin_by env host w true skip count s true ready known short is =
    let test = is_any (codes "m") (codes "x86_64") [] in
    let items = copy_items (dd_item skip count) in
    let end = runs_copy env (dd_effect true 8 skip count w w) host in
    stops_now (chain_meaning env (if_item test items)) (chain_meaning env (exit_item (codes "125")) ∷ []) s end
    (if_stops env test items s (tested s true) end
    (is_any_goes env (codes "m") (machine_name env) (codes "x86_64") [] s known.machine ∙ ap (λ c. (None, tested s c)) (or_false (bytes_eq (machine_name env) (codes "x86_64")) ∙ is)) refl
    (copy_runs env host w (dd_effect true 8 skip count w w) (dd_item skip count) (tested s true) ready (record { machine = known.machine; system = known.system; copy = known.copy; same = known.same })
    (dd_overwrites env (copy_name env) w skip count ready.none_fail (copy_name_is env ready.tmpdir) short.skipped short.counted)))
darwin_by env host w true skip count s false ready known short is =
    let test = is_any (codes "m") (codes "x86_64") [] in
    let items = copy_items (dd_item skip count) in
    let s1 = record s { status = 0; inner = 0 } in
    stops_later (chain_meaning env (if_item test items)) (chain_meaning env (exit_item (codes "125")) ∷ []) s s1 (Exits 125, host)
    (if_passed env test items s (tested s false)
    (is_any_goes env (codes "m") (machine_name env) (codes "x86_64") [] s known.machine ∙ ap (λ c. (None, tested s c)) (or_false (bytes_eq (machine_name env) (codes "x86_64")) ∙ is)) refl)
    (stops_now (chain_meaning env (exit_item (codes "125"))) [] s1 (Exits 125, host)
    (stops_as (chain_meaning env (exit_item (codes "125")) s1) (Exits 125, s1.host) (Exits 125, host) (ap (λ (h : Host). (Exits 125, h)) known.same) (exit_stops env (codes "125") 125 s1 exits_125)))

branch_cons : (env : Env) (front : List Chain) (last : Chain) (s : State) → branch (map (chain_meaning env) (front ++ last ∷ [])) s ≡ in_turn (map (chain_meaning env) (front ++ last ∷ [])) s
branch_cons env [] last s = refl
branch_cons env (x ∷ front) last s = refl

darwin_test : (env : Env) (host : Host) (s : State) (b : Bool) → Knows env host s → bytes_eq (system_name env) (codes "Darwin") ≡ b
    → chain_meaning env (is_any (codes "s") (codes "Darwin") []) s ≡ (None, tested s b)
darwin_test env host s b known is = is_any_goes env (codes "s") (system_name env) (codes "Darwin") [] s known.system ∙ ap (λ c. (None, tested s c)) (or_false (bytes_eq (system_name env) (codes "Darwin")) ∙ is)

pub darwin_stops : (env : Env) (host : Host) (w : Text) (x64 : Bool) (skip count : ℕ) (s : State) → IsReady env host w → Knows env host s → AreShort skip count
    → bytes_eq (system_name env) (codes "Darwin") ≡ true
    → Stops (chain_meaning env (darwin_item x64 skip count) s) (by_mach (x64 && bytes_eq (machine_name env) (codes "x86_64")) skip count w env host)
unfolding darwin_items
darwin_stops env host w x64 skip count s ready known short is =
    let test = is_any (codes "s") (codes "Darwin") [] in
    let items = darwin_x64_items x64 skip count ++ exit_item (codes "125") ∷ [] in
    let end = by_mach (x64 && bytes_eq (machine_name env) (codes "x86_64")) skip count w env host in
    if_stops env test items s (tested s true) end (darwin_test env host s true known is) refl
    (stops_by (branch (map (chain_meaning env) items) (tested s true)) (in_turn (map (chain_meaning env) items) (tested s true)) end
    (branch_cons env (darwin_x64_items x64 skip count) (exit_item (codes "125")) (tested s true))
    (darwin_by env host w x64 skip count (tested s true) (bytes_eq (machine_name env) (codes "x86_64")) ready (record { machine = known.machine; system = known.system; copy = known.copy; same = known.same }) short refl))

pub darwin_passed : (env : Env) (host : Host) (x64 : Bool) (skip count : ℕ) (s : State) → Knows env host s → bytes_eq (system_name env) (codes "Darwin") ≡ false
    → chain_meaning env (darwin_item x64 skip count) s ≡ (None, record s { status = 0; inner = 0 })
darwin_passed env host x64 skip count s known is =
    if_passed env (is_any (codes "s") (codes "Darwin") []) (darwin_x64_items x64 skip count ++ exit_item (codes "125") ∷ []) s (tested s false) (darwin_test env host s false known is) refl

-- ---- the machines

-- the statement of a header, if there is one, spells it
abbrev pub IsSpelled : Option Text → Type 0
IsSpelled None = Unit {0}
IsSpelled (Some header) = octal_bytes_of (octals_of header) ≡ Some header

machine_test : (env : Env) (host : Host) (m : Machine) (s : State) (b : Bool) → Knows env host s → is_name_of m (machine_name env) ≡ b
    → chain_meaning env (is_any (codes "m") (machine_names m).0 ((machine_names m).1 ∷ [])) s ≡ (None, tested s b)
machine_test env host m s b known is =
    is_any_goes env (codes "m") (machine_name env) (machine_names m).0 ((machine_names m).1 ∷ []) s known.machine
    ∙ ap (λ c. (None, tested s c)) (of_two (bytes_eq (machine_name env) (machine_names m).0) (bytes_eq (machine_name env) (machine_names m).1) ∙ is)

-- the lines for a machine, with others behind them
machine_at : (env : Env) (host : Host) (w : Text) (m : Machine) (header : Text) (rest : List Chain) (s : State) → IsReady env host w → Knows env host s → IsSpelled (Some header)
    → is_name_of m (machine_name env) ≡ true
    → Stops (in_turn (map (chain_meaning env) (machine_items m (Some header) ++ rest)) s) (runs_copy env (over w header) host)
machine_at env host w m header rest s ready known spelled is =
    let test = is_any (codes "m") (machine_names m).0 ((machine_names m).1 ∷ []) in
    let items = copy_items (statement_item (octals_of header)) in
    let end = runs_copy env (over w header) host in
    stops_now (chain_meaning env (if_item test items)) (map (chain_meaning env) rest) s end
    (if_stops env test items s (tested s true) end (machine_test env host m s true known is) refl
    (copy_runs env host w (over w header) (statement_item (octals_of header)) (tested s true) ready (record { machine = known.machine; system = known.system; copy = known.copy; same = known.same })
    (printf_overwrites env (copy_name env) w (octals_of header) header ready.none_fail (copy_name_is env ready.tmpdir) spelled)))

machine_past : (env : Env) (host : Host) (m : Machine) (o : Option Text) (rest : List Chain) (s : State) → Knows env host s → is_name_of m (machine_name env) ≡ false
    → in_turn (map (chain_meaning env) (machine_items m o ++ rest)) (tested s true) ≡ in_turn (map (chain_meaning env) rest) (tested s true)
machine_past env host m None rest s known is = refl
machine_past env host m (Some header) rest s known is =
    let test = is_any (codes "m") (machine_names m).0 ((machine_names m).1 ∷ []) in
    let items = copy_items (statement_item (octals_of header)) in
    let s1 = tested s true in
    ap (λ r. unless_ended r (in_turn (map (chain_meaning env) rest)))
    (if_passed env test items s1 (tested s1 false) (machine_test env host m s1 false (record { machine = known.machine; system = known.system; copy = known.copy; same = known.same }) is) refl)

not_false : false ≡ true → ⊥
not_false e = let f : ◌≡◌ {A = Bool} false true = e in cc

names_by : (t : Text) (a b : Bool) → bytes_eq t (codes "x86_64") ≡ a → bytes_eq t (codes "amd64") ≡ b → (a || b) ≡ true → is_name_of A64 t ≡ false
names_by t true b is other named = ap (is_name_of A64) ((bytes_eq-Decides t (codes "x86_64")).0 is)
names_by t false true is other named = ap (is_name_of A64) ((bytes_eq-Decides t (codes "amd64")).0 other)
names_by t false false is other named = absurd (not_false named)

names_differ : (t : Text) → is_name_of X64 t ≡ true → is_name_of A64 t ≡ false
names_differ t named = names_by t _ _ refl refl named

-- how the lines for the machines end, by the header that is found: they stop, or nothing of them ran
Ended : Env → Host → Text → Option Outcome × State → State → Option Text → Type 0
Ended env host w r s None = r ≡ (None, s)
Ended env host w r s (Some header) = Stops r (runs_copy env (over w header) host)

machines_end : (env : Env) (host : Host) (w : Text) (x64 a64 : Option Text) (s : State) (bx ba : Bool) → IsReady env host w → Knows env host s → IsSpelled x64 → IsSpelled a64
    → is_name_of X64 (machine_name env) ≡ bx → is_name_of A64 (machine_name env) ≡ ba
    → Ended env host w (in_turn (map (chain_meaning env) (machine_items X64 x64 ++ machine_items A64 a64)) (tested s true)) (tested s true) (cond bx x64 (cond ba a64 None))
unfolding Ended
machines_end env host w (Some h) a64 s true ba ready known spelled others is isnt =
    machine_at env host w X64 h (machine_items A64 a64) (tested s true) ready (record { machine = known.machine; system = known.system; copy = known.copy; same = known.same }) spelled is
machines_end env host w None None s true ba ready known spelled others is isnt = refl
machines_end env host w None (Some g) s true ba ready known spelled others is isnt =
    machine_past env host A64 (Some g) [] s known (names_differ (machine_name env) is)
machines_end env host w x64 (Some g) s false true ready known spelled others isnt is =
    stops_by (in_turn (map (chain_meaning env) (machine_items X64 x64 ++ machine_items A64 (Some g))) (tested s true)) (in_turn (map (chain_meaning env) (machine_items A64 (Some g))) (tested s true)) (runs_copy env (over w g) host)
    (machine_past env host X64 x64 (machine_items A64 (Some g)) s known isnt)
    (machine_at env host w A64 g [] (tested s true) ready (record { machine = known.machine; system = known.system; copy = known.copy; same = known.same }) others is)
machines_end env host w x64 None s false true ready known spelled others isnt is = machine_past env host X64 x64 [] s known isnt
machines_end env host w x64 None s false false ready known spelled others isnt is = machine_past env host X64 x64 [] s known isnt
machines_end env host w x64 (Some g) s false false ready known spelled others isnt is =
    machine_past env host X64 x64 (machine_items A64 (Some g)) s known isnt ∙ machine_past env host A64 (Some g) [] s known is

-- ---- the other systems

branch_is : (actions : List Action) (s : State) → branch actions (tested s true) ≡ in_turn actions (tested s true)
branch_is [] s = refl
branch_is (a ∷ actions) s = refl

last_stops : (env : Env) (host : Host) (s : State) → s.host ≡ host → Stops (in_turn (chain_meaning env (exit_item (codes "126")) ∷ []) s) (Exits 126, host)
last_stops env host s same =
    stops_now (chain_meaning env (exit_item (codes "126"))) [] s (Exits 126, host)
    (stops_as (chain_meaning env (exit_item (codes "126")) s) (Exits 126, s.host) (Exits 126, host) (ap (λ (h : Host). (Exits 126, h)) same) (exit_stops env (codes "126") 126 s exits_126))

-- the test of the systems, with what ends the script behind it
last_items : Systems → Option Text → Option Text → List Chain
last_items systems x64 a64 = systems_item systems x64 a64 ∷ exit_item (codes "126") ∷ []

kernel_by : (env : Env) (host : Host) (w : Text) (systems : Systems) (x64 a64 : Option Text) (s : State) (o : Option Text) → Knows env host s
    → is_one_of (system_name env) (kernels_of systems) ≡ true
    → Ended env host w (in_turn (map (chain_meaning env) (machine_items X64 x64 ++ machine_items A64 a64)) (tested s true)) (tested s true) o
    → Stops (in_turn (map (chain_meaning env) (last_items systems x64 a64)) s) (by_header o w env host)
unfolding Ended last_items
kernel_by env host w systems x64 a64 s None known is ended =
    let test = system_test (kernels_of systems) in
    let items = machine_items X64 x64 ++ machine_items A64 a64 in
    stops_later (chain_meaning env (systems_item systems x64 a64)) (chain_meaning env (exit_item (codes "126")) ∷ []) s (tested s true) (Exits 126, host)
    (if_goes env test items s (tested s true) (tested s true)
    (system_test_goes env (system_name env) (kernels_of systems) s known.system ∙ ap (λ c. (None, tested s c)) is) refl
    (branch_is (map (chain_meaning env) items) s ∙ ended))
    (last_stops env host (tested s true) known.same)
kernel_by env host w systems x64 a64 s (Some header) known is ended =
    let test = system_test (kernels_of systems) in
    let items = machine_items X64 x64 ++ machine_items A64 a64 in
    let end = runs_copy env (over w header) host in
    stops_now (chain_meaning env (systems_item systems x64 a64)) (chain_meaning env (exit_item (codes "126")) ∷ []) s end
    (if_stops env test items s (tested s true) end
    (system_test_goes env (system_name env) (kernels_of systems) s known.system ∙ ap (λ c. (None, tested s c)) is) refl
    (stops_by (branch (map (chain_meaning env) items) (tested s true)) (in_turn (map (chain_meaning env) items) (tested s true)) end (branch_is (map (chain_meaning env) items) s) ended))

-- how it ends where the system isn't macOS, or macOS wasn't chosen
kernel_end : Env → Host → Text → Systems → Option Text → Option Text → Outcome × Host
kernel_end env host w systems x64 a64 =
    cond (is_one_of (system_name env) (kernels_of systems)) (by_header (named_header x64 a64 (machine_name env)) w env host) (Exits 126, host)

kernel_stops : (env : Env) (host : Host) (w : Text) (systems : Systems) (x64 a64 : Option Text) (s : State) → IsReady env host w → Knows env host s → IsSpelled x64 → IsSpelled a64
    → Stops (in_turn (map (chain_meaning env) (last_items systems x64 a64)) s) (kernel_end env host w systems x64 a64)
unfolding kernel_end last_items
kernel_stops env host w systems x64 a64 s ready known spelled others =
    let test = system_test (kernels_of systems) in
    let items = machine_items X64 x64 ++ machine_items A64 a64 in
    stops_if (in_turn (map (chain_meaning env) (systems_item systems x64 a64 ∷ exit_item (codes "126") ∷ [])) s) (by_header (named_header x64 a64 (machine_name env)) w env host) (Exits 126, host)
    (is_one_of (system_name env) (kernels_of systems))
    (λ is. kernel_by env host w systems x64 a64 s (named_header x64 a64 (machine_name env)) known is
    (machines_end env host w x64 a64 s (is_name_of X64 (machine_name env)) (is_name_of A64 (machine_name env)) ready known spelled others refl refl))
    (λ isnt. stops_later (chain_meaning env (systems_item systems x64 a64)) (chain_meaning env (exit_item (codes "126")) ∷ []) s (record s { status = 0; inner = 0 }) (Exits 126, host)
    (if_passed env test items s (tested s false) (system_test_goes env (system_name env) (kernels_of systems) s known.system ∙ ap (λ c. (None, tested s c)) isnt) refl)
    (last_stops env host (record s { status = 0; inner = 0 }) known.same))

mac_by : (env : Env) (host : Host) (w : Text) (systems : Systems) (x64 a64 : Option Text) (skip count : ℕ) (s : State) (mac darwin : Bool)
    → IsReady env host w → Knows env host s → IsSpelled x64 → IsSpelled a64 → AreShort skip count → bytes_eq (system_name env) (codes "Darwin") ≡ darwin
    → Stops (in_turn (map (chain_meaning env) (cond mac (darwin_item (is_some x64) skip count ∷ []) [] ++ last_items systems x64 a64)) s)
    (cond (mac && darwin) (by_mach (is_some x64 && bytes_eq (machine_name env) (codes "x86_64")) skip count w env host) (kernel_end env host w systems x64 a64))
mac_by env host w systems x64 a64 skip count s false darwin ready known spelled others short is = kernel_stops env host w systems x64 a64 s ready known spelled others
mac_by env host w systems x64 a64 skip count s true true ready known spelled others short is =
    stops_now (chain_meaning env (darwin_item (is_some x64) skip count)) (map (chain_meaning env) (last_items systems x64 a64)) s
    (by_mach (is_some x64 && bytes_eq (machine_name env) (codes "x86_64")) skip count w env host) (darwin_stops env host w (is_some x64) skip count s ready known short is)
mac_by env host w systems x64 a64 skip count s true false ready known spelled others short is =
    let s1 = record s { status = 0; inner = 0 } in
    stops_later (chain_meaning env (darwin_item (is_some x64) skip count)) (map (chain_meaning env) (last_items systems x64 a64)) s s1 (kernel_end env host w systems x64 a64)
    (darwin_passed env host (is_some x64) skip count s known is)
    (kernel_stops env host w systems x64 a64 s1 ready (record { machine = known.machine; system = known.system; copy = known.copy; same = known.same }) spelled others)

pub systems_stop : (env : Env) (host : Host) (w : Text) (systems : Systems) (x64 a64 : Option Text) (skip count : ℕ) (s : State)
    → IsReady env host w → Knows env host s → IsSpelled x64 → IsSpelled a64 → AreShort skip count
    → Stops (in_turn (map (chain_meaning env) (system_items systems x64 a64 skip count)) s)
    (cond (has_system systems 16 && bytes_eq (system_name env) (codes "Darwin")) (by_mach (is_some x64 && bytes_eq (machine_name env) (codes "x86_64")) skip count w env host)
    (cond (is_one_of (system_name env) (kernels_of systems)) (by_header (named_header x64 a64 (machine_name env)) w env host) (Exits 126, host)))
unfolding last_items kernel_end
systems_stop env host w systems x64 a64 skip count s ready known spelled others short =
    mac_by env host w systems x64 a64 skip count s (has_system systems 16) (bytes_eq (system_name env) (codes "Darwin")) ready known spelled others short refl
