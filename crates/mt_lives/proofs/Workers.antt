-- What holds of each open operation, whatever an event does: it is of a worker that the logs have, and it stands at Enter if it has made no step.
use Rattle.std.proofs.{Common.{◌≡◌, ℕ, ◌<◌, Some, None, sym, ap, subst, ◌∙◌, inl, inr}, lemmas.Bool.cases_eq, lemmas.Option.same_Some}
use Rattle.std.specs.Prelude.{slice_set}
use Rattle.mt_rows.specs.declared.command.Command.{Command}
use Rattle.mt_operation.{specs.{declared.phase.Phase.TheVariants.Enter, Operations.OperationView}, proofs.Tables.{set_here, set_there, set_none}}
use Rattle.mt_state.specs.{Views.{StateView, Shown, op_at}, Begins.{Begins, Takes}, Promises.IsStep}
use Rattle.mt_crashes.proofs.Members.{no_some}
use Rattle.mt_state.specs.Begins as begins

-- each open operation is so
abbrev pub AreAll : (OperationView → Type 0) → Shown → Type 0
AreAll P table = (n : ℕ) (op : OperationView) → op_at table n ≡ Some op → P op

-- its worker is below a count, and without a step it stands at Enter
abbrev pub IsBelow : ℕ → OperationView → Type 0
IsBelow count op = (op.worker < count) × (op.first ≡ 0 → op.phase ≡ Enter)

module _ (P : OperationView → Type 0) where
  pub all_same : (old new : Shown) → new ≡ old → AreAll P old → AreAll P new
  all_same old new same all = λ n op there. all n op (ap (λ t. op_at t n) (sym same) ∙ there)

  pub all_begun : (old new : StateView) (n worker tenant : ℕ) (command : Command) → P (begins.begun worker tenant command old.steps) → Begins old new n worker tenant command
      → AreAll P old.table → AreAll P new.table
  all_begun old new n worker tenant command one b all = λ q op there. elim (cases_eq q n) [
    | inl same ↦
        let is : begins.begun worker tenant command old.steps ≡ op = same_Some _ op (sym b.there ∙ ap (λ k. op_at new.table k) (sym same) ∙ there) in
        subst P is one
    | inr other ↦ all q op (sym (b.others q other) ∙ there)
  ]

  pub all_step : (old new : StateView) (n : ℕ) (done : _) (s : IsStep old new n done) → (P s.before → P s.after) → AreAll P old.table → AreAll P new.table
  all_step old new n done s goes all = λ q op there.
      let here : op_at (slice_set old.table n (Some s.after)) q ≡ Some op = ap (λ t. op_at t q) (sym s.table) ∙ there in
      elim (cases_eq q n) [
        | inl same ↦
            let is : s.after ≡ op = set_here old.table n s.after op (subst (λ k. op_at (slice_set old.table n (Some s.after)) k ≡ Some op) same here) in
            subst P is (goes (all n s.before s.there))
        | inr other ↦ all q op (sym (set_there old.table n q (Some s.after) other) ∙ here)
      ]

  pub all_taken : (old new : StateView) (n : ℕ) (answer : _) → Takes old new n answer → AreAll P old.table → AreAll P new.table
  all_taken old new n answer t all = λ q op there.
      let here : op_at (slice_set old.table n None) q ≡ Some op = ap (λ (v : StateView). op_at v.table q) (sym t.gone) ∙ there in
      elim (cases_eq q n) [
        | inl same ↦ absurd (no_some op (sym (set_none old.table n) ∙ subst (λ k. op_at (slice_set old.table n None) k ≡ Some op) same here))
        | inr other ↦ all q op (sym (set_there old.table n q None other) ∙ here)
      ]
