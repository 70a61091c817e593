-- What is told of commands, one after the other.
use Rattle.std.specs.Prelude.{◌≡◌, ℕ, ◌+◌, ◌^◌, ◌-◌, min, List, [], ◌∷◌}
use Rattle.mt_rows.specs.{declared.command.Command.Command, declared.reply.Reply.Reply}
use Rattle.mt_caller.specs.Exchanges.{CallerRelation}
use Rattle.mt_resp.specs.declared.{told.Told.Told}
use Rattle.mt_resp.specs.declared.told.Told.TheVariants as told
use Rattle.mt_resp_commands.specs.{declared.link.Link.Link, Links.IsTold}

-- what is told of each command, in their order
abbrev pub AreTold : {S : Type 0} → CallerRelation S → Link → S → List Command → (Reply → Told) → List Told → Link → S → Type 0
AreTold exchanges link old [] shown [] next new = (next ≡ link) × (new ≡ old)
AreTold {S = S} exchanges link old (command ∷ commands) shown (one ∷ ones) next new =
    (between : Link) × (mid : S) × IsTold exchanges link old command shown one between mid × AreTold exchanges between mid commands shown ones next new
AreTold exchanges link old [] shown (one ∷ ones) next new = ⊥
AreTold exchanges link old (command ∷ commands) shown [] next new = ⊥

-- the sum of two numbers, or the first that is none
abbrev pub plus : Told → Told → Told
plus (told.Number a) (told.Number b) = told.Number (min (a + b) (2 ^ 64 - 1))
plus (told.Number a) one = one
plus sum one = sum

-- what is told of both: the first that isn't done
abbrev pub both : Told → Told → Told
both told.Fine one = one
both all one = all

-- what becomes of a first one with each that follows
abbrev pub folded : (Told → Told → Told) → Told → List Told → Told
folded f first [] = first
folded f first (one ∷ ones) = folded f (f first one) ones

-- commands of which one thing is told
abbrev pub IsFolded : {S : Type 0} → CallerRelation S → Link → S → List Command → (Reply → Told) → (Told → Told → Told) → Told → Told → Link → S → Type 0
IsFolded exchanges link old commands shown f first one next new =
    (ones : List Told) × AreTold exchanges link old commands shown ones next new × (one ≡ folded f first ones)
