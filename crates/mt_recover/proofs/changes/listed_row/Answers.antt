-- By what a binary search finds.
use Rattle.std.proofs.{Common.{rules, ◌∙◌, ap, sym, Some}, lemmas.{Fn.always_returns_same, Option.slice_get-get_or}}
use Rattle.mt_rows.specs.Stamps.{Stamped}
use Rattle.mt_recover.proofs.ListedLemmas.{stands, found_row, no_row, search_order}
use Rattle.mt_recover.proofs.changes.listed_row.Goals as goal

pub returns-in_ok-share-in-Ok : goal.returns-in_ok-share-in-Ok
returns-in_ok-share-in-Ok c =
    let found = c.in-Ok.ensures.position (stands c.args.owner.now) (always_returns_same _ _ _ (λ a r g called. (search rules, search rules))) in
    ap (λ (row : Stamped). Some row) c.in_ok-share-in-Ok.ensures
    ∙ found_row c.args.owner.now c.args.pairs.now c.in-Ok.place _ c.requires (slice_get-get_or c.args.pairs.now c.in-Ok.place c.index-pairs-place.result c.in-Ok.ensures.bound) (found c.index-pairs-place.result)

pub returns-in-Err : goal.returns-in-Err
returns-in-Err c =
    let found = c.in-Err.ensures.position (stands c.args.owner.now) (always_returns_same _ _ _ (λ a r g called. (search rules, search rules))) in
    no_row c.args.owner.now c.args.pairs.now c.in-Err.field-0 (found (search_order c.args.owner.now c.args.pairs.now c.requires))
