-- The copy's name begins with `/` and isn't `/dev/null`.
use Rattle.std.proofs.Common.{◌≡◌, ◌∙◌, ap, sym, refl, ℕ, [], ◌∷◌, ◌++◌, ◌==◌, Bool, true, false, codes, get_or}
use Rattle.std.specs.Prelude.{Option, Some, None, is_none, not, slice_get, unwrap_or}
use Rattle.std.specs.Fmt.{decimal}
use Rattle.ap_shell.specs.Files.{Text}
use Rattle.ap_shell.specs.Places.{is_null}
use Rattle.ap_shell.specs.FileCommands.{begins_with}
use Rattle.ap_shell.specs.EndCommands.{has_slash}
use Rattle.ap_shell.specs.Words.{unless_empty}
use Rattle.ap_shell.specs.declared.types.Env.{Env}
use Rattle.ap_dispatch.specs.Dispatch.{IsAbsolute, copy_name}
use Rattle.ap_dispatch.proofs.FileFacts.{differ}
use Rattle.ap_dispatch.proofs.Copying.{IsCopyName}

tail_of : ℕ → Text
tail_of pid = codes "/ape." ++ decimal pid

top_by : (o : Option Text) (pid : ℕ) → IsAbsolute o → (r : Text) × (unless_empty (unwrap_or o []) (codes "/tmp") ++ tail_of pid ≡ 47 ∷ (r ++ tail_of pid))
top_by None pid h = (codes "tmp", refl)
top_by (Some []) pid h = (codes "tmp", refl)
top_by (Some (b ∷ t)) pid h = (t, ap (λ c. c ∷ (t ++ tail_of pid)) h)

not_true : true ≡ false → ⊥
not_true e = let f : ◌≡◌ {A = Bool} true false = e in cc

-- the byte at a place is this one
is_at : ℕ → ℕ → Text → Bool
is_at k v t = get_or t k 0 == v

is_longer : ℕ → Text → Bool
is_longer n t = not (is_none (slice_get t n))

-- whatever its directory is, a byte of `/ape.` stands where `/dev/null` has another, or the name is longer
not_null : (r d : Text) → 47 ∷ (r ++ (codes "/ape." ++ d)) ≡ codes "/dev/null" → ⊥
unfolding is_at is_longer
not_null [] d e = not_true (ap (is_at 1 47) e)
not_null (a ∷ []) d e = not_true (ap (is_at 2 47) e)
not_null (a ∷ b ∷ []) d e = not_true (ap (is_at 3 47) e)
not_null (a ∷ b ∷ c ∷ []) d e = not_true (ap (is_at 5 97) e)
not_null (a ∷ b ∷ c ∷ f ∷ []) d e = not_true (ap (is_at 5 47) e)
not_null (a ∷ b ∷ c ∷ f ∷ g ∷ []) d e = not_true (ap (is_at 6 47) e)
not_null (a ∷ b ∷ c ∷ f ∷ g ∷ h ∷ []) d e = not_true (ap (is_at 7 47) e)
not_null (a ∷ b ∷ c ∷ f ∷ g ∷ h ∷ i ∷ []) d e = not_true (ap (is_at 8 47) e)
not_null (a ∷ b ∷ c ∷ f ∷ g ∷ h ∷ i ∷ j ∷ []) d e = not_true (ap (is_longer 9) e)
not_null (a ∷ b ∷ c ∷ f ∷ g ∷ h ∷ i ∷ j ∷ k ∷ r) d e = not_true (ap (is_longer 9) e)

is_no_null : (t : Text) → (t ≡ codes "/dev/null" → ⊥) → is_null t ≡ false
unfolding is_null
is_no_null t n = differ t (codes "/dev/null") n

pub copy_name_is : (env : Env) → IsAbsolute env.tmpdir → IsCopyName (copy_name env)
unfolding tail_of
copy_name_is env absolute =
    let top = top_by env.tmpdir env.pid absolute in
    record {
      named = is_no_null (copy_name env) (λ e. not_null top.0 (decimal env.pid) (sym top.1 ∙ e));
      no_option = ap (begins_with 45) top.1;
      slash = ap has_slash top.1;
    }
