-- What ends a crew before its time.
use Rattle.std.specs.Prelude.{◌≡◌, Bool, true, false}
use Rattle.std.specs.{IoError.error_kind, declared.io.ErrorKind.ErrorKind, declared.io.ErrorKind.TheVariants.{Interrupted, ConnectionAborted, ConnectionReset}}
use Rattle.mt_crew.specs.{declared.crew.CrewFault.CrewFault, declared.crew.CrewFault.TheVariants.{Memory, Socket}}

-- a fault of accepting that is of one connection alone: it was given up before it was accepted, or a signal came
abbrev pub is_of_one_connection : ErrorKind → Bool
is_of_one_connection Interrupted = true
is_of_one_connection ConnectionAborted = true
is_of_one_connection ConnectionReset = true
is_of_one_connection _ = false

-- a growth was refused, or the listener failed, not one connection
abbrev pub EndsCrew : CrewFault → Type 0
EndsCrew Memory = Unit {0}
EndsCrew (Socket error) = is_of_one_connection (error_kind error) ≡ false
