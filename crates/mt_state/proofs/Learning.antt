-- What a step down comes to remember, by where the table of phases leads it: for the state above, whose bodies tell that alone.
use Rattle.std.proofs.Common.{◌≡◌, ℕ, Option, Some, None, refl, sym, subst}
use Rattle.mt_rows.specs.Rows.{Bytes}
use Rattle.mt_arena.specs.Arena.{ArenaView, IsArena}
use Rattle.mt_operation.specs.{declared.phase.Phase.Phase, declared.phase.Phase.TheVariants.{Enter, Pick, Child, Verify, Forward}, declared.walk.Walk.Walk}
use Rattle.mt_operation.specs.{declared.outcome.Outcome.Outcome, declared.removal.Removal.Removal, Operations.SplitsView, Phases.IsDescent}
use Rattle.mt_arena.specs.Accesses.{at}
use Rattle.mt_descent.specs.{Pasts.Past, KeptWalks.{slice_in, KeptAt, IsKept}, Remembered.Learns}
use Rattle.mt_descent.proofs.Learning.{going, learns_enter, learns_pick, learns_child, learns_verify, learns_here, learns_forward}
use Rattle.mt_state.specs.Phases.{ScanStep, GoesForward, LeadsTo}

pub descent_learns : (v : ArenaView) (past : Past) (key : Bytes) (o step : ℕ) (told : Option Outcome) (s : SplitsView) (rem : Removal) (g : ScanStep) (w x : Walk)
    → IsArena v.nodes v.trees → IsDescent w.phase → IsKept v past key None w → LeadsTo w.phase v v o step key told s rem g w x → Learns v w x
descent_learns v past key o step told s rem g w x arena descends kept leads = by w.phase refl descends kept leads
  where
    forward : w.phase ≡ Forward → (next : Option ℕ) → w.next ≡ next → GoesForward next v key w x → Learns v w x
    forward at_p None is goes = subst (λ (y : Walk). Learns v w y) (sym goes) (learns_here v w at_p)
    forward at_p (Some j) is goes = subst (λ (y : Walk). Learns v w y) (sym goes.1) (learns_forward v w at_p (slice_in key w) j is)

    by : (p : Phase) → w.phase ≡ p → IsDescent p → KeptAt p v past key None w → LeadsTo p v v o step key told s rem g w x → Learns v w x
    by Enter at_p d k l = subst (λ (y : Walk). Learns v w y) (sym l.1) (learns_enter v w (going w Enter (λ e. cc) at_p) arena k.there)
    by Pick at_p d k l = subst (λ (y : Walk). Learns v w y) (sym l) (learns_pick v w key arena at_p k)
    by Child at_p d k l = subst (λ (y : Walk). Learns v w y) (sym l.1) (learns_child v w (at v w.child).version at_p)
    by Verify at_p d k l = learns_verify v w at_p x l.1
    by Forward at_p d k l = forward at_p w.next refl l
    by _ at_p d k l = absurd d
