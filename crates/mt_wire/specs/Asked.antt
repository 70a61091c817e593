-- Which replies show stamps, and what is told for a reply.
use Rattle.mt_rows.specs.{Stamps.unstamped, declared.reply.Reply.Reply}
use Rattle.mt_wire.specs.{declared.message.Request.TheVariants.GetStamped, declared.message.Request.Request}
use Rattle.mt_wire.specs.declared.message.Shown.TheVariants.{Absent, FoundStamped, Found, Full, New, NoMemory, Pairs, Removed, Replaced, Stale}
use Rattle.mt_wire.specs.declared.message.Shown.{Shown}
use Rattle.std.specs.Prelude.{Bool, false, map, true}
use Rattle.mt_rows.specs.declared.reply.Reply.TheVariants as core

-- whether the reply to a request shows the stamp of the row that was found
abbrev pub shows_stamps : Request → Bool
shows_stamps (GetStamped key columns) = true
shows_stamps _ = false

-- what is told for a reply
abbrev pub shown_as : Bool → Reply → Shown
shown_as stamps core.Absent = Absent
shown_as true (core.Found row) = FoundStamped row
shown_as false (core.Found row) = Found row.row
shown_as stamps core.New = New
shown_as stamps core.Replaced = Replaced
shown_as stamps core.Full = Full
shown_as stamps core.Removed = Removed
shown_as stamps (core.Stale stamp) = Stale stamp
shown_as stamps (core.Pairs pairs) = Pairs (map unstamped pairs)
shown_as stamps core.NoMemory = NoMemory
