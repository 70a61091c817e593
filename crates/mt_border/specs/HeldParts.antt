-- What lies in memory of a pair and of what is held, as contracts see it.
use Rattle.mt_border.specs.{Held.{Pair, Held, Stable, Unstable, Link}, declared.entry.PairParts.PairParts, declared.entry.Kind.Kind}
use Rattle.mt_border.specs.declared.entry.HeldRef.{HeldRef}
use Rattle.mt_border.specs.declared.entry.Kind.TheVariants as kinds
use Rattle.mt_border.specs.declared.entry.HeldRef.TheVariants as seen

-- a pair, whatever tree's number lies beside it
abbrev pub pair_in_parts : PairParts → Pair
pair_in_parts p = record { suffix = p.suffix; row = p.row; stamp = p.stamp }

-- what is held
abbrev pub held_in_kind : Kind → Held
held_in_kind (kinds.Stable b) = Stable (pair_in_parts b.value)
held_in_kind (kinds.Unstable b) = Unstable (pair_in_parts b.value) b.value.tree
held_in_kind (kinds.Link tree) = Link tree

-- what is held, as it is shown
abbrev pub held_seen : HeldRef → Held
held_seen (seen.Stable p) = Stable (pair_in_parts p.now)
held_seen (seen.Unstable p) = Unstable (pair_in_parts p.now) p.now.tree
held_seen (seen.Link tree) = Link tree
