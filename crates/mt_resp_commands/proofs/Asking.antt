-- What the caller was asked, one part after the other.
use Rattle.std.proofs.Common.{◌≡◌, ℕ, List, [], ◌∷◌, ◌++◌, Option, Result, refl, sym, subst}
use Rattle.std.specs.List.{FoldsTo}
use Rattle.mt_rows.specs.{declared.command.Command.Command, declared.reply.Reply.Reply, declared.refusal.Refusal.Refusal}
use Rattle.mt_caller.specs.{Exchanges.{Exchange, Opens, Calls, Settles, CallerRelation}, declared.caller.CallerFault.CallerFault}
use Rattle.mt_resp_commands.specs.Links.{Asked, ButSettles}

-- items, and then others
folds_then : {P A : Type 0} (R : P → A → P → Type 0) (p m q : P) (xs ys : List A) → FoldsTo R p xs m → FoldsTo R m ys q → FoldsTo R p (xs ++ ys) q
folds_then R p m q [] ys e rest = subst (λ x. FoldsTo R x ys q) (sym e) rest
folds_then R p m q (x ∷ xs) ys (j, step, run) rest = (j, step, folds_then R j m q xs ys run rest)

module _ {S : Type 0} (exchanges : CallerRelation S) where
  pub asked_same : (s t : S) → t ≡ s → Asked (ButSettles exchanges) s t
  asked_same s t n = ([], sym n)

  pub asked_open : (s t : S) (tenant : ℕ) (refusal : Option Refusal) → exchanges s (Opens tenant refusal) t → Asked (ButSettles exchanges) s t
  asked_open s t tenant refusal a = (Opens tenant refusal ∷ [], (t, a, refl))

  pub asked_call : (s t : S) (command : Command) (answer : Result Reply CallerFault) → exchanges s (Calls command answer) t → Asked (ButSettles exchanges) s t
  asked_call s t command answer a = (Calls command answer ∷ [], (t, a, refl))

  pub asked_settle : (s t : S) (answer : Result ℕ Refusal) → exchanges s (Settles answer) t → Asked exchanges s t
  asked_settle s t answer a = (Settles answer ∷ [], (t, a, refl))

  pub asked_then : (s m t : S) → Asked (ButSettles exchanges) s m → Asked (ButSettles exchanges) m t → Asked (ButSettles exchanges) s t
  asked_then s m t (asked, run) (more, rest) = (asked ++ more, folds_then (ButSettles exchanges) s m t asked more run rest)

  one_of_all : (s t : S) (exchange : Exchange) → ButSettles exchanges s exchange t → exchanges s exchange t
  one_of_all s t (Opens tenant refusal) a = a
  one_of_all s t (Calls command answer) a = a
  one_of_all s t (Settles answer) a = absurd a

  folds_of_all : (s t : S) (asked : List Exchange) → FoldsTo (ButSettles exchanges) s asked t → FoldsTo exchanges s asked t
  folds_of_all s t [] e = e
  folds_of_all s t (exchange ∷ asked) (m, one, run) = (m, one_of_all s m exchange one, folds_of_all m t asked run)

  -- what was asked without Settles was asked
  pub asked_of_all : (s t : S) → Asked (ButSettles exchanges) s t → Asked exchanges s t
  asked_of_all s t (asked, run) = (asked, folds_of_all s t asked run)
