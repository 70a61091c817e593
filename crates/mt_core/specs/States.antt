-- What is inside a state, as its invariant sees it.
use Rattle.mt_core.specs.declared.inner.Inner.TheInside.{Inside}
use Rattle.mt_state.specs.Views.{Core}

-- what is inside
abbrev pub core_of : Inside → Core
core_of s = record { steps = s.steps; answers = s.answers; logs = s.logs.items; accounts = s.tenants; arena = s.arena; tape = s.tape; table = s.operations }
