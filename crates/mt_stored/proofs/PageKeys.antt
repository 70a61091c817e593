-- The pairs that a walk takes of a page have the page's keys.
use Rattle.std.proofs.Common.{ℕ, List, Option, Some, None, sym, subst}
use Rattle.std.specs.List.{All}
use Rattle.std.proofs.lemmas.List.Elements.{All-map, All-nil}
use Rattle.mt_rows.specs.{Rows.Bytes, Stamps.Stamped, Commands.IsKey, Limits.ArePairs, declared.record.TenantPair.TenantPair}
use Rattle.mt_pages.specs.{declared.walk.PageWalk.PageWalk, Scans.pair_of, Pages.TakesAt}

pub page_keys : (tenant : Option ℕ) (page : List (Bytes × Stamped)) (old new : PageWalk) (pairs : List TenantPair) → ArePairs page
    → TakesAt tenant page old new pairs → All (λ (p : TenantPair). IsKey p.key) pairs
page_keys (Some tenant) page old new pairs are takes =
    subst (λ ps. All (λ (p : TenantPair). IsKey p.key) ps) (sym takes.pairs_are) (All-map (λ (p : TenantPair). IsKey p.key) (pair_of tenant) page are.keys)
page_keys None page old new pairs are takes =
    subst (λ ps. All (λ (p : TenantPair). IsKey p.key) ps) (sym takes.0) (All-nil (λ (p : TenantPair). IsKey p.key))
