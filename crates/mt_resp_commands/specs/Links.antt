-- A connection's link to its tenant, and what is said of one command.
use Rattle.std.specs.{Prelude.{◌≡◌, ℕ, Bool, true, false, List, Option, Some, None, Result, Ok, Err, ◌⊎◌}, List.FoldsTo}
use Rattle.mt_rows.specs.{declared.command.Command.Command, declared.reply.Reply.Reply, declared.refusal.Refusal.Refusal}
use Rattle.mt_caller.specs.{Exchanges.{Exchange, Opens, Calls, Settles, CallerRelation}, declared.caller.CallerFault.CallerFault}
use Rattle.mt_caller.specs.declared.caller.CallerFault.TheVariants as callers
use Rattle.mt_resp.specs.declared.{told.Told.Told, told.Told.TheVariants.Failed}
use Rattle.mt_resp.specs.declared.told.Failure.TheVariants as failures
use Rattle.mt_resp_commands.specs.declared.{link.Link.Link, link.Said.Said, link.Said.TheVariants.{Replied, Refused}}

-- exchanges, one after the other, led from a state to another
abbrev pub Asked : {S : Type 0} → CallerRelation S → S → S → Type 0
Asked exchanges old new = (asked : List Exchange) × FoldsTo exchanges old asked new

-- the exchanges but for Settles
abbrev pub ButSettles : {S : Type 0} → CallerRelation S → CallerRelation S
ButSettles exchanges old (Settles told) new = ⊥
ButSettles exchanges old (Opens tenant refusal) new = exchanges old (Opens tenant refusal) new
ButSettles exchanges old (Calls command told) new = exchanges old (Calls command told) new

-- whether the tenant is open after it was to be opened
abbrev pub open_after : Option Refusal → Bool
open_after None = true
open_after (Some refusal) = false

-- The link's tenant is open, or the caller is asked to open it.
abbrev pub IsOpened : {S : Type 0} → CallerRelation S → Link → S → Option Refusal → Link → S → Type 0
IsOpened exchanges link old refusal next new =
    ((link.is_open ≡ true) × (refusal ≡ None) × (next ≡ link) × (new ≡ old))
    ⊎ ((link.is_open ≡ false) × exchanges old (Opens link.tenant refusal) new × (next ≡ record link { is_open = open_after refusal }))

-- what the caller said; nothing if it is stuck
abbrev pub said_of : Result Reply CallerFault → Option Said
said_of (Ok reply) = Some (Replied reply)
said_of (Err (callers.Refused refusal)) = Some (Refused refusal)
said_of (Err callers.Stuck) = None

-- what is said of a command when its tenant is opened, or when that was refused
abbrev pub IsSaidThen : {S : Type 0} → CallerRelation S → Option Refusal → S → Command → Said → S → Type 0
IsSaidThen exchanges (Some refusal) mid command said new = (said ≡ Refused refusal) × (new ≡ mid)
IsSaidThen exchanges None mid command said new =
    (answer : Result Reply CallerFault) × exchanges mid (Calls command answer) new × (said_of answer ≡ Some said)

-- What is said of a command of the link's tenant: the tenant is open, or is opened, and then the caller has the command.
abbrev pub IsSaid : {S : Type 0} → CallerRelation S → Link → S → Command → Said → Link → S → Type 0
IsSaid {S = S} exchanges link old command said next new =
    (refusal : Option Refusal) × (mid : S) × IsOpened exchanges link old refusal next mid × IsSaidThen exchanges refusal mid command said new

-- the reply that refuses
abbrev pub refused : Refusal → Told
refused refusal = Failed (failures.Refused refusal)

-- what is told of what was said, if replies are so told
abbrev pub told_by : (Reply → Told) → Said → Told
told_by shown (Replied reply) = shown reply
told_by shown (Refused refusal) = refused refusal

-- what is told of a command
abbrev pub IsTold : {S : Type 0} → CallerRelation S → Link → S → Command → (Reply → Told) → Told → Link → S → Type 0
IsTold exchanges link old command shown one next new =
    (said : Said) × IsSaid exchanges link old command said next new × (one ≡ told_by shown said)
