-- A sync of an open file is told as its calls went.
use Rattle.std.proofs.Common.{◌≡◌, ◌⊎◌, inl, inr, ◌∙◌, ℤ, Bool, true, false, Option, [], ◌∷◌, Result, Ok, Err, is_err, IfOk, IfErr, IsErrAnd, refl, sym, ap, subst, true≢false}
use Rattle.std.specs.{IoError.raw_os_error, declared.io.Error.Error}
use Rattle.mt_disk.specs.{declared.system.FileFault.FileFault, declared.system.FileFault.TheVariants.{NotMade, Failed}}
use Rattle.mt_disk.specs.FileCalls.{Synced, GaveError, OsFileState, Adds, CallsSync, WritesLength, SyncsAll, call_of}

-- what was told of the call that made it
abbrev IsToldOf : Result Unit Error → Result Unit FileFault → OsFileState → OsFileState → Type 0
IsToldOf answer result old new =
    IfOk result (λ value. (answer ≡ Ok value) × (new.last_error ≡ old.last_error))
    × IfErr result (λ fault. (fault ≡ Failed) × IsErrAnd answer (λ error. new.last_error ≡ raw_os_error error))

-- an error is told with its number
failed : (answer : Result Unit Error) (old new : OsFileState)
    → Adds old.made new.made (call_of (λ _. Synced) answer ∷ [])
    → IsErrAnd answer (λ error. new.last_error ≡ raw_os_error error)
    → Adds old.made new.made (GaveError new.last_error ∷ []) × (is_err answer ≡ true)
failed (Ok value) old new adds kept = absurd kept
failed (Err error) old new adds kept = (subst (λ (number : Option ℤ). Adds old.made new.made (GaveError number ∷ [])) (sym kept) adds, refl)

not_failed : NotMade ≡ Failed → ⊥
not_failed is = absurd cc

-- one call
synced : (answer : Result Unit Error) (result : Result Unit FileFault) (old new : OsFileState)
    → Adds old.made new.made (call_of (λ _. Synced) answer ∷ [])
    → IsToldOf answer result old new → new.is_doubtful ≡ is_err answer → CallsSync result old new
synced answer (Ok value) old new adds told doubt =
    ((subst (λ (a : Result Unit Error). Adds old.made new.made (call_of (λ _. Synced) a ∷ [])) told.0.0 adds, told.0.1), doubt ∙ ap is_err told.0.0)
synced answer (Err Failed) old new adds told doubt = let is = failed answer old new adds told.1.1 in (is.0, doubt ∙ is.1)
synced answer (Err NotMade) old new adds told doubt = absurd (not_failed told.1.0)

-- and the calls that write the length before it
pub syncs : (is_doubtful : Bool) (answer : Result Unit Error) (result : Result Unit FileFault) (old mid new : OsFileState)
    → ((is_doubtful ≡ false) × (old ≡ mid)) ⊎ ((is_doubtful ≡ true) × WritesLength (Ok tt) old mid)
    → Adds mid.made new.made (call_of (λ _. Synced) answer ∷ [])
    → IfOk result (λ value. (answer ≡ Ok value) × (new.last_error ≡ mid.last_error))
    → IfErr result (λ fault. (fault ≡ Failed) × IsErrAnd answer (λ error. new.last_error ≡ raw_os_error error))
    → new.is_doubtful ≡ is_err answer → SyncsAll is_doubtful result old new
syncs false answer result old mid new (inl is) adds ok err doubt = subst (λ (m : OsFileState). CallsSync result m new) (sym is.1) (synced answer result mid new adds (ok, err) doubt)
syncs true answer result old mid new (inl is) adds ok err doubt = absurd (true≢false is.0)
syncs false answer result old mid new (inr is) adds ok err doubt = absurd (true≢false (sym is.0))
syncs true answer result old mid new (inr is) adds ok err doubt = inr (tt, mid, is.1, synced answer result mid new adds (ok, err) doubt)
