-- The names in use are exactly those of the open operations: what keeps it, for `NamedStore`.
use Rattle.std.proofs.Common.{◌≡◌, ◌≢◌, ◌⊎◌, ℕ, zero, suc, set, Bool, true, false, [], ◌∷◌, Option, Some, None, refl, sym, ◌∙◌, ap, inl, inr}
use Rattle.std.proofs.{lemmas.Bool.cases_eq, lemmas.List.get_or-set_other, lemmas.Option.{same_Some, none-some}}
use Rattle.std.specs.Prelude.{is_some}
use Rattle.mt_runs.specs.declared.event.Answer.{Answer}
use Rattle.mt_state.specs.{declared.moves.Move.Move, declared.moves.Move.TheVariants.{Moved, Again, NoMemory, Done, Spent, NoSuch}}
use Rattle.mt_state.specs.{Views.{StateView, Shown, op_at}, Promises.IsStep, Begins.{Begins, Takes}}
use Rattle.mt_operation.specs.{declared.phase.Phase.Phase, Operations.OperationView}
use Rattle.mt_rows.specs.declared.command.Command.{Command}
use Rattle.mt_core.specs.{Tickets.Cancels, Tidies.Tidies}
use Rattle.mt_lines.specs.{Names.{Tickets, operation_of, FreesName}, Stores.{HaveOneName, IsInTable, TellsMove, Walks, EndsWalk, IsWalk}}

-- an operation that is written over is there
pub written_is : (table : Shown) (o : ℕ) (before after : OperationView) → op_at table o ≡ Some before → op_at (set table o (Some after)) o ≡ Some after
written_is [] o before after e = absurd (none-some before e)
written_is (x ∷ table) zero before after e = refl
written_is (x ∷ table) (suc o) before after e = written_is table o before after e

-- one that is taken away is not
gone_is : (table : Shown) (o : ℕ) → op_at (set table o None) o ≡ None
gone_is [] o = refl
gone_is (x ∷ table) zero = refl
gone_is (x ∷ table) (suc o) = gone_is table o

-- the same operations are open
abbrev pub SameOpen : Shown → Shown → Type 0
SameOpen old new = (q : ℕ) → is_some (op_at new q) ≡ is_some (op_at old q)

-- where the same operations are open, the names are still theirs, one each
pub named_same : (old new : Shown) (named : Tickets) → SameOpen old new → HaveOneName old named → HaveOneName new named
named_same old new named same a = record {
  each = λ o there. a.each o (sym (same o) ∙ there);
  one = a.one;
  open_ones = λ name o e. same o ∙ a.open_ones name o e;
}

step_case : (table : Shown) (o q : ℕ) (before after : OperationView) → op_at table o ≡ Some before → ((q ≡ o) ⊎ (q ≢ o))
    → is_some (op_at (set table o (Some after)) q) ≡ is_some (op_at table q)
step_case table o q before after there (inl here) =
    ap (λ k. is_some (op_at (set table o (Some after)) k)) here ∙ ap is_some (written_is table o before after there) ∙ sym (ap (λ k. is_some (op_at table k)) here ∙ ap is_some there)
step_case table o q before after there (inr apart) = ap is_some (get_or-set_other table o q (Some after) None apart)

step_same : (old new : StateView) (o : ℕ) (done : Bool) → IsStep old new o done → SameOpen old.table new.table
step_same old new o done s q = ap (λ t. is_some (op_at t q)) s.table ∙ step_case old.table o q s.before s.after s.there (cases_eq q o)

equal_same : (old new : StateView) → new ≡ old → SameOpen old.table new.table
equal_same old new e q = ap (λ (v : StateView). is_some (op_at v.table q)) e

-- a step leaves the same operations open, whatever it tells
pub move_same : (old new : StateView) (o : ℕ) (move : Move) → TellsMove old new o move → SameOpen old.table new.table
move_same old new o Moved t = step_same old new o false t
move_same old new o (Again holder) t = equal_same old new t.0
move_same old new o NoMemory t = equal_same old new t.0
move_same old new o Done t = step_same old new o true t
move_same old new o Spent t = equal_same old new t.0
move_same old new o NoSuch t = equal_same old new t.0

walks_same : (stop : Option Phase) (n : ℕ) (old new : StateView) (o : ℕ) → Walks stop n old new o → SameOpen old.table new.table
walks_same stop zero old new o w = equal_same old new w
walks_same stop (suc n) old new o w = λ q. step_same w.0 new o false w.3 q ∙ walks_same stop n old w.0 o w.1 q

end_same : (stop : Option Phase) (mid new : StateView) (o : ℕ) (move : Move) → EndsWalk stop mid new o move → SameOpen mid.table new.table
end_same stop mid new o Moved e = equal_same mid new e.0
end_same stop mid new o (Again holder) e = move_same mid new o (Again holder) e
end_same stop mid new o NoMemory e = equal_same mid new e.0
end_same stop mid new o Done e = move_same mid new o Done e
end_same stop mid new o Spent e = move_same mid new o Spent e
end_same stop mid new o NoSuch e = move_same mid new o NoSuch e

-- so does a walk
pub walk_same : (stop : Option Phase) (old new : StateView) (o : ℕ) (move : Move) → IsWalk stop old new o move → SameOpen old.table new.table
walk_same stop old new o move w q = end_same stop w.mid new o move w.ends q ∙ walks_same stop w.steps old w.mid o w.walks q

no_both : false ≡ true → ⊥
no_both e = absurd cc

-- an operation is taken, and its name freed
pub taken_named : (old mid new : StateView) (before after : Tickets) (name o : ℕ) (answer : Answer) → Takes old mid o answer → Tidies mid new
    → FreesName before after name → operation_of before name ≡ Some o → HaveOneName old.table before → HaveOneName new.table after
taken_named old mid new before after name o answer t d f held a = record {
  each = λ q there. each_case q there (cases_eq q o);
  one = λ m n q e g. a.one m n q (before_is m q e) (before_is n q g);
  open_ones =
      λ n q e. ap (λ k. is_some (op_at k q)) table ∙ ap is_some (get_or-set_other old.table o q None None (not_it n q e)) ∙ a.open_ones n q (before_is n q e);
}
  where
    table : new.table ≡ set old.table o None
    table = d.leaves.table ∙ ap (λ (v : StateView). v.table) t.gone

    other : (n q : ℕ) → operation_of after n ≡ Some q → n ≢ name
    other n q e same = none-some q (sym f.freed ∙ ap (operation_of after) (sym same) ∙ e)

    before_is : (n q : ℕ) → operation_of after n ≡ Some q → operation_of before n ≡ Some q
    before_is n q e = sym (f.others n (other n q e)) ∙ e

    not_it : (n q : ℕ) → operation_of after n ≡ Some q → q ≢ o
    not_it n q e same = other n q e (a.one n name q (before_is n q e) (held ∙ ap Some (sym same)))

    gone : (q : ℕ) → q ≡ o → is_some (op_at new.table q) ≡ false
    gone q same = ap (λ k. is_some (op_at k q)) table ∙ ap (λ k. is_some (op_at (set old.table o None) k)) same ∙ ap is_some (gone_is old.table o)

    each_case : (q : ℕ) → IsInTable new.table q → ((q ≡ o) ⊎ (q ≢ o)) → (n : ℕ) × (operation_of after n ≡ Some q)
    each_case q there (inl same) = absurd (no_both (sym (gone q same) ∙ there))
    each_case q there (inr apart) =
        let (n, e) = a.each q (sym (ap (λ k. is_some (op_at k q)) table ∙ ap is_some (get_or-set_other old.table o q None None apart)) ∙ there) in
        (n, f.others n (λ same. apart (same_Some q o (sym e ∙ ap (operation_of before) same ∙ held))) ∙ e)

-- an operation that was begun and cancelled leaves each id as it was
pub cancelled_same : (old mid new : StateView) (o worker tenant : ℕ) (command : Command) → Begins old mid o worker tenant command → Cancels mid new o
    → (q : ℕ) → op_at new.table q ≡ op_at old.table q
cancelled_same old mid new o worker tenant command b c q = ap (λ (v : StateView). op_at v.table q) c.gone ∙ by (cases_eq q o)
  where
    by : ((q ≡ o) ⊎ (q ≢ o)) → op_at (set mid.table o None) q ≡ op_at old.table q
    by (inl here) = ap (op_at (set mid.table o None)) here ∙ gone_is mid.table o ∙ sym (ap (op_at old.table) here ∙ b.free)
    by (inr apart) = get_or-set_other mid.table o q None None apart ∙ b.others q apart
