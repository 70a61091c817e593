-- The first and the last part of a turn of all logs: they go to a generation, and their older logs are given up.
use Rattle.std.specs.Prelude.{◌≡◌, ℕ, zero, suc, ◌<◌, Result, Ok, Err}
use Rattle.mt_rows.specs.declared.refusal.Refusal.{Refusal}
use Rattle.mt_settle.specs.Turns.{Turn, BegunNext, GivenUp}

-- this was done to each of the first so many logs, in their order
abbrev pub EachOf : {S : Type 0} → (ℕ → S → S → Type 0) → ℕ → S → S → Type 0
EachOf Does zero old new = new ≡ old
EachOf {S} Does (suc log) old new = (mid : S) × EachOf Does log old mid × Does log mid new

-- it was done to the first logs, and the one after them refused it
pub record StopsAt {S : Type 0} (Does : ℕ → S → S → Type 0) (Refuses : ℕ → S → S → Type 0) (count : ℕ) (old new : S) : Type 0 where
  pub log : ℕ
  pub there : log < count
  pub mid : S
  pub before : EachOf Does log old mid
  pub refuses : Refuses log mid new

module _ {S : Type 0} (does : S → Turn → S → Type 0) where
  -- one log was brought up to date and goes to this generation, or it refused that
  abbrev pub BeginsOne : ℕ → ℕ → S → S → Type 0
  BeginsOne generation log old new = (mark : ℕ) × does old (BegunNext log generation (Ok mark)) new

  abbrev pub BeginsNone : ℕ → Refusal → ℕ → S → S → Type 0
  BeginsNone generation refusal log old new = does old (BegunNext log generation (Err refusal)) new

  -- all of so many did so, in their order; or a log refused it, and no later one was asked
  abbrev pub TellsBegun : ℕ → ℕ → S → S → Result (Unit {0}) Refusal → Type 0
  TellsBegun generation count old new (Ok _) = EachOf (BeginsOne generation) count old new
  TellsBegun generation count old new (Err refusal) = StopsAt (BeginsOne generation) (BeginsNone generation refusal) count old new

  -- the older log of one was given up, or it refused that
  abbrev pub GivesUpOne : ℕ → S → S → Type 0
  GivesUpOne log old new = does old (GivenUp log (Ok tt)) new

  abbrev pub GivesUpNone : Refusal → ℕ → S → S → Type 0
  GivesUpNone refusal log old new = does old (GivenUp log (Err refusal)) new

  -- those of all were, in their order; or a log refused it, and no later one was asked
  abbrev pub TellsGivenUp : ℕ → S → S → Result (Unit {0}) Refusal → Type 0
  TellsGivenUp count old new (Ok _) = EachOf GivesUpOne count old new
  TellsGivenUp count old new (Err refusal) = StopsAt GivesUpOne (GivesUpNone refusal) count old new
