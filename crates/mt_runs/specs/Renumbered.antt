-- The same with other numbers: what a tenant is told depends on others through the numbers of its own commands alone.
use Rattle.mt_rows.specs.{Maps.Map, Rows.Bytes, Stamps.{Stamped, restamped_row}, declared.command.Command.TheVariants.PutIf, declared.command.Command.Command}
use Rattle.mt_rows.specs.{declared.reply.Reply.TheVariants.{Found, Pairs, Stale}, declared.reply.Reply.Reply}
use Rattle.std.specs.{Option.option_map, Prelude.{map, ℕ, ◌≡◌}}
use Rattle.std.specs.FinMap as pairs

-- other numbers for the same changes: none stays none, and two numbers stay two
pub record IsRenumbering (f : ℕ → ℕ) : Type 0 where
  pub none : f 0 ≡ 0
  pub apart : (m n : ℕ) → f m ≡ f n → m ≡ n

-- a pair and a reply with the other numbers
abbrev pub renumbered_pair : (ℕ → ℕ) → Bytes × Stamped → Bytes × Stamped
renumbered_pair f p = (p.0, restamped_row f p.1)

abbrev pub renumbered_reply : (ℕ → ℕ) → Reply → Reply
renumbered_reply f (Found r) = Found (restamped_row f r)
renumbered_reply f (Stale stamp) = Stale (f stamp)
renumbered_reply f (Pairs ps) = Pairs (map (renumbered_pair f) ps)
renumbered_reply f reply = reply

-- a command that asks for a stamp asks for the other number; and a command's own number is the other one
abbrev pub renumbered_command : (ℕ → ℕ) → Command → Command
renumbered_command f (PutIf key stamp change) = PutIf key (f stamp) change
renumbered_command f command = command

abbrev pub renumbered_call : (ℕ → ℕ) → ℕ × Command → ℕ × Command
renumbered_call f c = (f c.0, renumbered_command f c.1)

-- the same map but for the numbers
abbrev pub AreRenumbered : (ℕ → ℕ) → Map → Map → Type 0
AreRenumbered f m n = (key : Bytes) → pairs.get n key ≡ option_map (restamped_row f) (pairs.get m key)
