-- To which generation the next turn of all logs goes, by what they tell of their generations.
use Rattle.std.specs.{Prelude.{◌≡◌, ◌⊎◌, ℕ, ◌+◌, ◌-◌, ◌^◌, ◌<◌, ◌≤◌, Bool, false, List, [], ◌∷◌, length, Result, Ok, Err}, List.{All, Contains}}
use Rattle.mt_rows.specs.{declared.refusal.Refusal.Refusal, declared.refusal.Refusal.TheVariants.{NoStore, Spent}}
use Rattle.mt_store_logs.specs.declared.standing.Generations.{Generations}
use Rattle.mt_settle.specs.Turns.{Turn, Told}

-- all logs are of one generation, and none has an older one
abbrev pub AreOf : ℕ → List Generations → Type 0
AreOf m told = All (λ (t : Generations). (t.last ≡ m) × (t.has_older ≡ false)) told

-- the greatest generation of any log
pub record IsGreatest (m : ℕ) (told : List Generations) : Type 0 where
  pub log : Generations
  pub among : Contains told log
  pub last : log.last ≡ m
  pub all : All (λ (t : Generations). t.last ≤ m) told

-- If all logs are of one generation, and no older one stands, a turn goes to the generation after that one. Else the last turn is half done, and the next one goes
-- to the greatest generation.
pub record IsNextOf (told : List Generations) (next : ℕ) : Type 0 where
  pub whole : (m : ℕ) → AreOf m told → next ≡ m + 1
  pub half : ((m : ℕ) → AreOf m told → ⊥) → IsGreatest next told

module _ {S : Type 0} (does : S → Turn → S → Type 0) where
  -- the logs from one on told this
  abbrev pub Tell : ℕ → List Generations → S → Type 0
  Tell log [] s = Unit {0}
  Tell log (t ∷ told) s = does s (Told log (Ok t)) s × Tell (log + 1) told s

  -- all of so many logs told this
  pub record TellAll (count : ℕ) (told : List Generations) (s : S) : Type 0 where
    pub all : length told ≡ count
    pub tell : Tell 0 told s

  -- one of them told why not
  pub record StopsTelling (count : ℕ) (s : S) (refusal : Refusal) : Type 0 where
    pub log : ℕ
    pub there : log < count
    pub refuses : does s (Told log (Err refusal)) s

  -- there are none; or one did not tell; or no generation is left
  abbrev pub TellsNoNext : ℕ → S → Refusal → Type 0
  TellsNoNext count s refusal =
      ((count ≡ 0) × (refusal ≡ NoStore)) ⊎ (StopsTelling count s refusal ⊎ ((refusal ≡ Spent) × (told : List Generations) × TellAll count told s × AreOf (2 ^ 64 - 1) told))

  -- to which generation the next turn of so many logs goes, or why to none
  abbrev pub TellsNext : ℕ → S → Result ℕ Refusal → Type 0
  TellsNext count s (Ok next) = (told : List Generations) × TellAll count told s × IsNextOf told next
  TellsNext count s (Err refusal) = TellsNoNext count s refusal
