-- Which scan a walk makes next, and the pairs that one showed.
use Rattle.std.specs.{Prelude.{ℕ, Bool, List, [], Option, slice_get}, Option.option_map}
use Rattle.mt_rows.specs.{Rows.Bytes, Stamps.Stamped, declared.command.Command.Command, declared.command.Command.TheVariants.Scan, declared.record.TenantPair.TenantPair}

-- a pair that a scan showed, with its tenant
abbrev pub pair_of : ℕ → Bytes × Stamped → TenantPair
pair_of tenant p = record { tenant = tenant; key = p.0; row = p.1 }

-- the scan of the next page, and whose it is
abbrev pub next_scan : List ℕ → ℕ → Bytes → Bool → Option (ℕ × Command)
next_scan tenants place from after = option_map (λ tenant. (tenant, Scan from after 64 [])) (slice_get tenants place)
