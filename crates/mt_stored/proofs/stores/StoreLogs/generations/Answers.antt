-- What is told is that of the log at the place.
use Rattle.std.proofs.{Common.{rules, ◌≡◌, ◌<◌, length, Some, refl, sym, subst, ap, ◌∙◌}, lemmas.Option.slice_get-get_or}
use Rattle.std.specs.Prelude.{slice_get}
use Rattle.mt_stored.proofs.stores.StoreLogs.generations.Goals as goal

pub returns : goal.returns
returns g c =
    let logs = c.args.self.now.logs.items in
    let place = c.from.result in
    let before = c.index.result.now in
    let within : place < length logs = search rules in
    let there : slice_get logs place ≡ Some before = slice_get-get_or logs place before within ∙ ap Some (sym c.index.ensures) in
    (before, subst (λ k. slice_get logs k ≡ Some before) c.from.ensures there, c.generations.ensures, refl, refl)
