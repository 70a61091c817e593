-- What a Settle does to a store's logs.
use Rattle.std.specs.{Prelude.{◌≡◌, ℕ, ◌+◌, ◌<◌, ◌≤◌, ◌⊎◌, List, [], ◌∷◌, ◌++◌, length, Result, Ok, Err}, List.{All, Contains}}
use Rattle.mt_rows.specs.{declared.refusal.Refusal.Refusal, declared.refusal.Refusal.TheVariants.NoStore}
use Rattle.mt_settle.specs.Turns.{Turn, BroughtUp, Chain}

-- the logs from one on are brought up to date, and tell these steps
abbrev pub turns_from : ℕ → List ℕ → List Turn
turns_from log [] = []
turns_from log (mark ∷ marks) = BroughtUp log (Ok mark) ∷ turns_from (log + 1) marks

-- the least of some numbers
pub record IsLeast (n : ℕ) (ns : List ℕ) : Type 0 where
  pub among : Contains ns n
  pub least : All (λ m. n ≤ m) ns

-- each log was brought up to date, in their order, and the number is the least of the steps that they told
pub record SettlesAll {S : Type 0} (does : S → Turn → S → Type 0) (count : ℕ) (old new : S) (n : ℕ) : Type 0 where
  pub marks : List ℕ
  pub all : length marks ≡ count
  pub turns : Chain does old (turns_from 0 marks) new
  pub least : IsLeast n marks

-- the first logs were brought up to date, and the one behind them was not
pub record StopsSettling {S : Type 0} (does : S → Turn → S → Type 0) (count : ℕ) (old new : S) (refusal : Refusal) : Type 0 where
  pub marks : List ℕ
  pub before : length marks < count
  pub turns : Chain does old (turns_from 0 marks ++ BroughtUp (length marks) (Err refusal) ∷ []) new

-- what a Settle of so many logs does, by what it told
abbrev pub Settles : {S : Type 0} → (S → Turn → S → Type 0) → ℕ → S → S → Result ℕ Refusal → Type 0
Settles does count old new (Ok n) = SettlesAll does count old new n
Settles does count old new (Err refusal) = ((count ≡ 0) × (refusal ≡ NoStore) × (new ≡ old)) ⊎ StopsSettling does count old new refusal
