-- A number is that of the slot that it tells, or of none.
use Rattle.std.{proofs.Common.{◌≡◌, ℕ, zero, suc, ◌≤◌, ◌∙◌, ap, sym, refl, arith, Option, Some, None}, specs.Prelude.{IfSome, IfNone}}
use Rattle.mt_slots.specs.{declared.slot.Slot.Slot, declared.slot.Slot.TheVariants.{First, Second}, Places.number_of}
use Rattle.mt_store_logs.specs.Recovers.{used_slot}
use Rattle.mt_store_logs.proofs.recovering.used_slot.Goals as goal

numbered : (found : Option Slot) (n : ℕ) → IfSome found (λ slot. number_of slot ≡ n) → IfNone found (2 ≤ n) → found ≡ used_slot (Some n)
numbered (Some First) n is none = ap (λ k. used_slot (Some k)) is
numbered (Some Second) n is none = ap (λ k. used_slot (Some k)) is
numbered None zero is many = absurd (omega (arith, many))
numbered None (suc zero) is many = absurd (omega (arith, many))
numbered None (suc (suc n)) is many = refl

pub returns-in-Some : goal.returns-in-Some
returns-in-Some c = numbered c.numbered.result c.in-Some.number c.numbered.ensures.some c.numbered.ensures.none ∙ ap used_slot (sym c.in-Some.is)
