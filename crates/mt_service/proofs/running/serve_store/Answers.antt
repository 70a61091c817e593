-- The book is made of the store's own state, and there is a lock for each of its logs.
use Rattle.std.proofs.Common.{◌≡◌, ◌∙◌, ℕ, [], ◌∷◌, length, ap, sym, subst, arith}
use Rattle.mt_state.specs.Views.{StateView}
use Rattle.mt_book.specs.Names.{AreNames}
use Rattle.mt_service.specs.Histories.{HaveOneHistory}
use Rattle.mt_service.proofs.running.serve_store.Goals as goal

pub begun-requires-clause-names : goal.begun-requires-clause-names
begun-requires-clause-names g c =
    subst (λ (state : StateView). AreNames g.L.Ledger.name g.L.Ledger.parts g.J.Ledger.name g.J.Ledger.parts g.J.Naming.book c.args.names state) (sym c.into_parts-state.ensures.state) c.requires.names

pub returns-clause-history : goal.returns-clause-history
returns-clause-history g c =
    let locks = c.in_ok-logs.logs in
    let value = ap length c.deref.ensures.value in
    let locked = c.in_ok-logs.ensures in
    let own = ap (λ v. v.len) c.into_parts-state.ensures.logs in
    let many : length c.deref.result.now ≡ length c.args.store.logs.items = omega (arith, value, locked, own, locks.ok.0, c.args.store.logs.ok.0) in
    let next = c.next_turn-next.result in (
      next,
      c.next_turn-next.ensures,
      subst (λ (n : ℕ). HaveOneHistory g.row.L.Denot g.row.J.Denot g.row.R.Denot g.D.Disk.is_honest g.D.Disk.state g.D.Disk.failures g.D.Disk.was_refused g.G.Digests.does c.args.digests c.args.options.now.tenants.items c.args.options.now.workers c.args.options.now.connections n next c.args.store.source.state) many
          (c.in_ok-served.ensures.history c.args.store.source.state (c.in_ok-book.ensures.first.0 ∙ ap (λ (state : StateView). state ∷ []) c.into_parts-state.ensures.state)
          c.in_ok-book.ensures.first.1),
    )
