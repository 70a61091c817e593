-- How what isn't done is told: a line that begins with `-`.
use Rattle.std.specs.Prelude.{codes}
use Rattle.mt_rows.specs.declared.refusal.Refusal.{Refusal}
use Rattle.mt_rows.specs.declared.refusal.Refusal.TheVariants as refusals
use Rattle.mt_resp.specs.{Grammar.Bytes, declared.told.Failure.Failure, declared.stop.Fault.Fault}
use Rattle.mt_resp.specs.declared.told.Failure.TheVariants as failures
use Rattle.mt_resp.specs.declared.stop.Fault.TheVariants as faults

abbrev pub refusal_text : Refusal → Bytes
refusal_text refusals.KeyLong = codes "-ERR E1 a key has at most 251 bytes\r\n"
refusal_text refusals.Memory = codes "-OOM E2 no memory; nothing changed\r\n"
refusal_text (refusals.NoTenant tenant) = codes "-ERR E4 this tenant isn't served; SELECT another\r\n"
refusal_text refusals.Column = codes "-ERR E5 a field is the index of a column, each named once\r\n"
refusal_text refusals.ColumnLong = codes "-ERR E6 a column has at most 1024 bytes\r\n"
refusal_text refusals.ScanCount = codes "-ERR E8 a scan shows 1 to 64 keys\r\n"
refusal_text refusals.Spent = codes "-ERR E9 all steps have been made\r\n"
refusal_text refusals.Device = codes "-MISCONF E10 the disk failed\r\n"
refusal_text refusals.NoStore = codes "-ERR E20 nothing is kept on disk\r\n"
refusal_text refusal = codes "-ERR refused\r\n"

abbrev pub fault_text : Fault → Bytes
fault_text faults.Spelling = codes "-ERR Protocol error\r\n"
fault_text faults.ManyWords = codes "-ERR Protocol error: a command has at most 1024 words\r\n"
fault_text faults.Long = codes "-ERR Protocol error: a command has at most 65536 bytes\r\n"

abbrev pub failure_text : Failure → Bytes
failure_text failures.Syntax = codes "-ERR syntax error\r\n"
failure_text failures.NoInteger = codes "-ERR value is not an integer or out of range\r\n"
failure_text failures.Overflow = codes "-ERR increment or decrement would overflow\r\n"
failure_text failures.Busy = codes "-BUSY the row was changed 64 times meanwhile; try again\r\n"
failure_text failures.NoField = codes "-ERR a field is the index of a column, 0 to 15\r\n"
failure_text failures.NoNumber = codes "-ERR invalid DB index\r\n"
failure_text failures.LongString = codes "-ERR a string has at most 15359 bytes\r\n"
failure_text failures.NoExpiry = codes "-ERR nothing expires here\r\n"
failure_text failures.NoTransactions = codes "-ERR no transactions here; send a pipeline without MULTI\r\n"
failure_text failures.NoScripts = codes "-ERR no scripts here; GETS and PUTIF change a row exactly\r\n"
failure_text failures.NoChannels = codes "-ERR no channels here\r\n"
failure_text failures.NoConfig = codes "-ERR the server is configured by its command line\r\n"
failure_text failures.NoPassword = codes "-ERR there are no passwords here; SELECT the tenant\r\n"
failure_text failures.NoProtocol = codes "-NOPROTO unsupported protocol version\r\n"
failure_text (failures.Protocol fault) = fault_text fault
failure_text failures.NoCursor = codes "-ERR invalid cursor\r\n"
failure_text failures.OverQuota = codes "-OOM the tenant has as many pairs as its quota\r\n"
failure_text failures.NoMemory = codes "-OOM no memory; nothing changed\r\n"
failure_text (failures.Refused refusal) = refusal_text refusal
failure_text failures.Strange = codes "-ERR the store gave another command's answer\r\n"
