use Rattle.std.proofs.{Common.{ℕ, ◌<◌, [], List, Bor, length, map, sym, subst, Some, ap, ◌∙◌, arith}, lemmas.List.{length-map, get_or-map}}
use Rattle.std.proofs.lemmas.Option.{slice_get-get_or}
use Rattle.mt_options.{specs.Tenants.{AreTenants, Nothing}, proofs.TenantLemmas.{one_more, first_fault}}
use Rattle.mt_options.proofs.tenants.read_tenants.Goals as goal

pub loop-at-init : goal.loop-at-init
loop-at-init c = subst (λ gs. AreTenants [] gs) (sym c.new-tenants.ensures.items) Nothing

pub loop-at-preserved : goal.loop-at-preserved
loop-at-preserved c = one_more _ c.loop-at.at _ _ c.as_bytes.result.now (omega (arith, length-map c.args.words.now (λ (w : Bor (List ℕ)). w.now), c.loop-at-test.true)) (get_or-map (λ (w : Bor (List ℕ)). w.now) c.args.words.now c.loop-at.at _ [] c.loop-at-test.true ∙ sym c.as_bytes.ensures.value) c.loop-at.invariant c.in-Ok.ensures.ok

pub returns-in-Err-clause-err : goal.returns-in-Err-clause-err
returns-in-Err-clause-err c =
    let now : Bor (List ℕ) → List ℕ = λ w. w.now in
    let inside : c.loop-at.at < length (map now c.args.words.now) = omega (arith, length-map c.args.words.now now, c.loop-at-test.true) in
    let there = get_or-map now c.args.words.now c.loop-at.at _ [] c.loop-at-test.true ∙ sym c.as_bytes.ensures.value in
    first_fault _ c.loop-at.at _ c.as_bytes.result.now _ (slice_get-get_or (map now c.args.words.now) c.loop-at.at [] inside ∙ ap (λ w. Some w) there) c.loop-at.invariant c.in-Err.ensures.err
