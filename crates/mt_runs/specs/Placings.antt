-- One order of a run's operations: that it fits the run, and that it is legal.
use Rattle.std.specs.Prelude.{◌≡◌, ℕ, ◌<◌, ◌≤◌, nat_le, Bool, true, false, not, ◌&&◌, ◌==◌, if◌then◌else◌, List, [], ◌∷◌, length, Option, Some, None}
use Rattle.std.specs.{List.{filter, filter_map, cons_option}, Option.option_map}
use Rattle.mt_rows.specs.{declared.command.Command.Command, declared.reply.Reply.Reply, Maps.{Map, reply_of, map_after, is_change, is_scan, is_no_memory}}
use Rattle.mt_runs.specs.{Scans.IsLawfulScan, declared.event.Answer.Answer}
use Rattle.mt_runs.specs.Runs.{Story, Asked, last_step, step_of, owner, Finished, IsSinceFirst, IsUpToLast, IsFirst, IsLast, IsBetween}
use Rattle.std.specs.FinMap as pairs

-- operations with their numbers, in order
abbrev pub Placing : Type 0
Placing = List (ℕ × ℕ)

-- each tenant's limit of pairs
abbrev pub Quotas : Type 0
Quotas = ℕ → ℕ

-- each tenant's map
abbrev pub Maps : Type 0
Maps = ℕ → Map

-- each tenant's map in a new state
abbrev pub no_pairs : Maps
no_pairs t = pairs.empty

-- a get, put or remove that memory did not stop
abbrev pub is_placed : Answer → Bool
is_placed a = not (is_scan a.command) && not (is_no_memory a.reply)

-- the reply to a command on its tenant's map
abbrev pub reply_in : Quotas → Asked → Maps → Reply
reply_in quotas a maps = reply_of (quotas a.tenant) a.command (maps a.tenant)

-- the maps after the command of a number on its tenant's map
abbrev pub maps_after_one : Quotas → ℕ → Option Asked → Maps → Maps
maps_after_one quotas m None maps = maps
maps_after_one quotas m (Some a) maps = λ t. if t == a.tenant then map_after (quotas t) m a.command (maps t) else maps t

-- the maps after the commands of a placing, from these maps on
abbrev pub maps_after : Quotas → Story → Maps → Placing → Maps
maps_after quotas story maps [] = maps
maps_after quotas story maps (p ∷ placing) = maps_after quotas story (maps_after_one quotas p.1 (story.asked p.0) maps) placing

-- P of each operation and its number in a placing, with the maps and the number before it
abbrev pub Along : (Maps → ℕ → ℕ → ℕ → Type 0) → Quotas → Story → Maps → ℕ → Placing → Type 0
Along P quotas story maps before [] = Unit {0}
Along P quotas story maps before (p ∷ placing) = P maps before p.0 p.1 × Along P quotas story (maps_after_one quotas p.1 (story.asked p.0) maps) p.1 placing

-- an operation may stand at a number: numbers don't fall, and it is a get, put or remove that memory did not stop, between its own first and last step,
-- at the number that its answer names; where it changes its map it stands at a step of its own, before all others of that number
pub record MayStand (quotas : Quotas) (story : Story) (maps : Maps) (before o m : ℕ) : Type 0 where
  pub rises : before ≤ m
  pub command : (a : Asked) × (story.asked o ≡ Some a) × (is_scan a.command ≡ false) × (is_change (reply_in quotas a maps) ≡ true → (before < m) × (owner story m ≡ Some o))
  pub since : IsSinceFirst story o m
  pub made : m ≤ last_step story
  pub finished : (answer : Answer) → Finished story o answer → (is_placed answer ≡ true) × (m ≡ answer.at) × IsUpToLast story o m

-- how often an operation stands in a placing
abbrev pub count_of : ℕ → Placing → ℕ
count_of o placing = length (filter (λ p. p.0 == o) placing)

-- a placing fits a run that began with these maps: each answer is to the command that was begun and tells its operation's first and last step, after
-- which that operation makes none; each finished get, put or remove that memory did not stop stands once and each other at most once, each where it may
-- stand
pub record Fits (quotas : Quotas) (first : Maps) (story : Story) (placing : Placing) : Type 0 where
  pub commands : (o : ℕ) (answer : Answer) → Finished story o answer → (a : Asked) × (story.asked o ≡ Some a) × (answer.command ≡ a.command)
  pub numbers : (o : ℕ) (answer : Answer) → Finished story o answer → IsFirst story o answer.first × IsLast story o answer.last
  pub stands : Along (MayStand quotas story) quotas story first story.base placing
  pub finished : (o : ℕ) (answer : Answer) → Finished story o answer → is_placed answer ≡ true → count_of o placing ≡ 1
  pub others : (o : ℕ) → count_of o placing ≤ 1
  pub ends : (m k o : ℕ) (a : Answer) → step_of story m ≡ Some (record { op = o; answer = Some a }) → owner story k ≡ Some o → k ≤ m

-- a finished operation has the reply to its own command on its tenant's map
abbrev pub HasReply : Quotas → Story → Maps → ℕ → ℕ → ℕ → Type 0
HasReply quotas story maps before o m = (answer : Answer) (a : Asked) → Finished story o answer → story.asked o ≡ Some a →
    (answer.command ≡ a.command) × (answer.reply ≡ reply_in quotas a maps)

-- the commands in this order, each applied to its own tenant's map, from the first maps on, give each finished operation its reply
abbrev pub IsLegal : Quotas → Maps → Story → Placing → Type 0
IsLegal quotas first story placing = Along (HasReply quotas story) quotas story first story.base placing

-- a tenant's map after the changes whose number is at most m
abbrev pub map_upto : Quotas → Maps → Story → Placing → ℕ → ℕ → Map
map_upto quotas first story placing t m = maps_after quotas story first (filter (λ p. nat_le p.1 m) placing) t

-- each finished scan is lawful by the placing's maps
abbrev pub AreScansLawful : Quotas → Maps → Story → Placing → Type 0
AreScansLawful quotas first story placing = (o : ℕ) (answer : Answer) (a : Asked) → Finished story o answer → story.asked o ≡ Some a →
    IsLawfulScan (map_upto quotas first story placing a.tenant) (IsBetween story o) a.command answer.reply

-- one order explains a run that began with these maps
abbrev pub HasOneOrder : Quotas → Maps → Story → Type 0
HasOneOrder quotas first story = (placing : Placing) × Fits quotas first story placing × IsLegal quotas first story placing × AreScansLawful quotas first story placing

-- a tenant's command, if that is what the operation runs
abbrev pub command_of : ℕ → Option Asked → Option Command
command_of t None = None
command_of t (Some a) = if t == a.tenant then Some a.command else None

-- the commands of a tenant in a placing, in their order, each with its number
abbrev pub commands_of : Story → ℕ → Placing → List (ℕ × Command)
commands_of story t placing = filter_map (λ p. option_map (λ c. (p.1, c)) (command_of t (story.asked p.0))) placing

-- the replies to a tenant's commands in a placing, each on the maps that the commands before it leave
abbrev pub replies_of : Quotas → Story → ℕ → Maps → Placing → List Reply
replies_of quotas story t maps [] = []
replies_of quotas story t maps (p ∷ placing) =
    cons_option (option_map (λ c. reply_of (quotas t) c (maps t)) (command_of t (story.asked p.0))) (replies_of quotas story t (maps_after_one quotas p.1 (story.asked p.0) maps) placing)
