-- What a scan has done, and that it stays so: for Rely and Moving.
use Rattle.std.{proofs.Common.{◌≡◌, ℕ, ◌<◌, subst, sym, ap, arith}, specs.Prelude.{◌^◌}}
use Rattle.mt_slices.{specs.Keys.{IsStoredKey, stored_key, tenant_of}, proofs.Numbers.{number, number_lt, tenant_of-number}}
use Rattle.mt_rows.specs.{declared.command.Command.Command, declared.command.Command.TheVariants.{Get, Put, PutIf, Remove, Scan}, Rows.Bytes}
use Rattle.mt_rows.specs.Commands.{key_of, HasCount}
use Rattle.mt_operation.specs.{declared.operation.Operation.Operation, Operations.{ScanView, scan_of, no_scan}, Tasks.ask}
use Rattle.mt_descent.specs.Pasts.{Past, ExtendsPast}
use Rattle.mt_stretches.proofs.Beginning.{scan_begins, scanned_stays}
use Rattle.mt_state.specs.{Views.Core, KeptOperations.{IsOpenOperation, HasScannedFor}}

-- it stays while the past goes on
pub scanned_for_stays : (before now : Past) (first : ℕ) → ExtendsPast first before now → (command : Command) (s : ScanView)
    → HasScannedFor command before first s → HasScannedFor command now first s
scanned_for_stays before now first more (Scan from after count columns) s h = scanned_stays before now first more from after count columns s h
scanned_for_stays before now first more (Get key columns) s h = tt
scanned_for_stays before now first more (Put key change) s h = tt
scanned_for_stays before now first more (PutIf key stamp change) s h = tt
scanned_for_stays before now first more (Remove key) s h = tt

-- before its first step it has scanned nothing, whatever that step's number will be
pub scanned_for_begins : (past : Past) (first tenant : ℕ) (command : Command) → tenant < 2 ^ 32 → IsStoredKey (stored_key tenant (key_of command)) → HasCount command
    → HasScannedFor command past first (no_scan (stored_key tenant (key_of command)) command)
scanned_for_begins past first tenant (Scan from after count columns) fits stored counts = scan_begins past first tenant from after count columns fits stored counts.0
scanned_for_begins past first tenant (Get key columns) fits stored counts = tt
scanned_for_begins past first tenant (Put key change) fits stored counts = tt
scanned_for_begins past first tenant (PutIf key stamp change) fits stored counts = tt
scanned_for_begins past first tenant (Remove key) fits stored counts = tt

-- a tenant has a number of four bytes
tenant_fits : (key : Bytes) → IsStoredKey key → tenant_of key < 2 ^ 32
tenant_fits key stored = let small : number 4 key < 4294967296 = number_lt 4 key stored.are_bytes in omega (arith, small, tenant_of-number key)

-- so an operation that has scanned nothing may begin, as its first step's number is
pub fresh_scan : (c : Core) (op : Operation) → IsOpenOperation c op → scan_of op.task op.scan ≡ no_scan (stored_key op.task.tenant (key_of (ask op.task))) (ask op.task)
    → (past : Past) (first : ℕ) → HasScannedFor (ask op.task) past first (scan_of op.task op.scan)
fresh_scan c op k fresh past first =
    let fits : op.task.tenant < 2 ^ 32 = subst (λ t. t < 2 ^ 32) k.tenant_is (tenant_fits op.task.key k.stored) in
    let stored : IsStoredKey (stored_key op.task.tenant (key_of (ask op.task))) = subst IsStoredKey (ap (λ (s : ScanView). s.fence) fresh) k.stored in
    subst (HasScannedFor (ask op.task) past first) (sym fresh) (scanned_for_begins past first op.task.tenant (ask op.task) fits stored k.counts)
