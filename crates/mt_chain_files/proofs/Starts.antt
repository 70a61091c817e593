-- The log from which a chain is, in a worker's files after they were opened.
use Rattle.std.proofs.Common.{◌≡◌, ℕ, ◌+◌, List, [], ◌∷◌, ◌++◌, map, refl, ◌∙◌, ap, subst, Option, Some, None}
use Rattle.std.proofs.lemmas.Option.{same_Some}
use Rattle.std.specs.List.{AllZip}
use Rattle.mt_log.specs.Contents.{Contents}
use Rattle.mt_crashes.proofs.Members.{no_some}
use Rattle.mt_generations.specs.{Chains.Chain, Standings.{Standing, AreFrom, chain_from, joined}}
use Rattle.mt_log_files.specs.{Workers.standing_of, Files.{FileNow, MayLeaveFile}}
use Rattle.mt_chain_files.specs.Turns.{FilesNow, now_of}
use Rattle.mt_chain_files.proofs.Reading.{as_found, FoundOf}

-- what is left of a worker's files has a log of that generation, which began there
abbrev pub HasFrom : ℕ → ℕ → ℕ → FilesNow → Type 0
HasFrom g h start files = (x y : Option Contents) → MayLeaveFile (now_of g files) x → MayLeaveFile (now_of (g + 1) files) y
    → (d : Chain) × (standing_of g x y h ≡ Some d) × (d.start ≡ start)

starts_there : (x y : Option Chain) (c : Chain) → joined x y ≡ Some c → (a : Chain) × (x ≡ Some a) × (a.start ≡ c.start)
starts_there None y c e = absurd (no_some c e)
starts_there (Some a) None c e = (a, refl, ap (λ (d : Chain). d.start) (same_Some a c e))
starts_there (Some a) (Some next) c e = (a, refl, ap (λ (d : Chain). d.start) (same_Some (record a { batches = a.batches ++ next.batches }) c e))

-- a worker's files that were opened have the log from which its chain is
has_chain : (g h : ℕ) (files after : FilesNow) (stands : Standing) (c : Chain) → FoundOf g files after stands → chain_from h stands ≡ Some c → HasFrom g h c.start after
has_chain g h files after stands c found is x y left_x left_y =
    let same_x = as_found found.kept x (subst (λ (f : FileNow). MayLeaveFile f x) found.at_first left_x) in
    let same_y = as_found found.y y (subst (λ (f : FileNow). MayLeaveFile f y) found.at_next left_y) in
    let a = starts_there (stands h) (stands (h + 1)) c is in
    (a.0, ap (λ z. standing_of g z y h) same_x ∙ ap (λ z. standing_of g found.kept z h) same_y ∙ found.all h ∙ a.1, a.2)

pub all_have_chains : {A : Type 0} (after : A → FilesNow) (stands : A → Standing) (g h : ℕ) (files : List FilesNow) (read : List A) (chains : List Chain)
    → AllZip (λ (f : FilesNow) (one : A). FoundOf g f (after one) (stands one)) files read → AreFrom h (map stands read) chains
    → AllZip (λ (f : FilesNow) (c : Chain). HasFrom g h c.start f) (map after read) chains
all_have_chains after stands g h files [] [] all are = tt
all_have_chains after stands g h files [] (c ∷ chains) all are = absurd are
all_have_chains after stands g h files (w ∷ read) [] all are = absurd are
all_have_chains after stands g h [] (w ∷ read) (c ∷ chains) all are = absurd all
all_have_chains after stands g h (f ∷ files) (w ∷ read) (c ∷ chains) all are =
    (has_chain g h f (after w) (stands w) c all.0 are.0, all_have_chains after stands g h files read chains all.1 are.1)
