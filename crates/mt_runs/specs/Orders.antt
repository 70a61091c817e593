-- What a reader takes from one order: which operation precedes another in time, and which stands before another.
use Rattle.std.specs.{Prelude.{◌≡◌, ◌≢◌, ◌⊎◌, ℕ, ◌<◌, ◌++◌, Some}, List.Contains}
use Rattle.mt_rows.specs.{declared.command.Command.Command, declared.command.Command.TheVariants.{Put, Remove, PutIf}, declared.reply.Reply.Reply, Rows.Bytes}
use Rattle.mt_runs.specs.{declared.event.Answer.Answer, Runs.{Story, Asked, owner, Finished}, Placings.Placing}

-- an operation precedes another in time: each of its numbered steps comes before each of the other's
abbrev pub Precedes : Story → ℕ → ℕ → Type 0
Precedes story o p = (m n : ℕ) → owner story m ≡ Some o → owner story n ≡ Some p → m < n

-- an operation stands in a placing, at some number
abbrev pub StandsIn : Placing → ℕ → Type 0
StandsIn placing o = (m : ℕ) × Contains placing (o, m)

-- an operation stands before another: the placing splits, and the one stands in its front part, the other behind
abbrev pub StandsBefore : Placing → ℕ → ℕ → Type 0
StandsBefore placing o p = (front : Placing) × (back : Placing) × (placing ≡ front ++ back) × StandsIn front o × StandsIn back p

-- an operation was begun with this command of the tenant, and finished with this reply
pub record WasTold (story : Story) (o tenant : ℕ) (command : Command) (reply : Reply) : Type 0 where
  pub begun : story.asked o ≡ Some (record { tenant = tenant; command = command })
  pub answer : Answer
  pub finished : Finished story o answer
  pub told : answer.reply ≡ reply

-- a command puts the key, on condition or without, or removes it
abbrev pub IsWriteOf : Bytes → Command → Type 0
IsWriteOf key (Put k change) = k ≡ key
IsWriteOf key (PutIf k stamp change) = k ≡ key
IsWriteOf key (Remove k) = k ≡ key
IsWriteOf key _ = ⊥

-- each other put or remove of the tenant's key precedes the one operation, or is preceded by the other
abbrev pub NoWriteBetween : Story → ℕ → ℕ → ℕ → Bytes → Type 0
NoWriteBetween story o g tenant key = (q : ℕ) (what : Asked) → q ≢ o → story.asked q ≡ Some what → what.tenant ≡ tenant → IsWriteOf key what.command
    → Precedes story q o ⊎ Precedes story g q
