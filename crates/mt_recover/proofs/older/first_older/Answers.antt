-- By the last number and the least worker.
use Rattle.std.proofs.Common.{◌∙◌, sym, ap, subst, ℕ, map, None}
use Rattle.mt_log.specs.Contents.{contents_of}
use Rattle.mt_recover.{specs.Older.{IsFirstOlder, least_without}, proofs.OlderLemmas.{none_is_older, one_is_older}}
use Rattle.mt_recover.proofs.older.first_older.Goals as goal

pub returns-in-Some : goal.returns-in-Some
returns-in-Some c =
    let fronts = map contents_of c.args.fronts.now in
    subst (IsFirstOlder fronts c.in-Some.worker) (sym c.last_served-served.ensures)
    (one_is_older fronts c.in-Some.worker (ap (λ (n : ℕ). least_without n None fronts) (sym c.last_served-served.ensures) ∙ sym c.least_without.ensures ∙ c.in-Some.is))

pub returns-in-None : goal.returns-in-None
returns-in-None c =
    let fronts = map contents_of c.args.fronts.now in
    none_is_older fronts (ap (λ (n : ℕ). least_without n None fronts) (sym c.last_served-served.ensures) ∙ sym c.least_without.ensures ∙ c.in-None.is)
