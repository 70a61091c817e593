-- What an operation keeps of the nodes that it holds when places are given out, for the law of it.
use Rattle.mt_held.proofs.Given.{node_given, judge_given, unlock_given, return_given, only_given, nothing_given}
use Rattle.mt_held.proofs.laws.kept_stays_where_places_are_given_out.Goals as goal

pub returns-clause-node : goal.returns-clause-node
returns-clause-node c = λ o old mid marked key w gives h. node_given o old mid gives marked key w h

pub returns-clause-judge : goal.returns-clause-judge
returns-clause-judge c = λ o old mid marked key w gives h. judge_given o old mid gives key w h

pub returns-clause-unlock : goal.returns-clause-unlock
returns-clause-unlock c = λ o old mid w gives h. unlock_given o old mid gives w h

pub returns-clause-may_return : goal.returns-clause-may_return
returns-clause-may_return c = λ o level k old mid gives h. return_given o old mid gives level k h

pub returns-clause-only : goal.returns-clause-only
returns-clause-only c = λ o k old mid gives h. only_given old mid gives o k h

pub returns-clause-nothing : goal.returns-clause-nothing
returns-clause-nothing c = λ o old mid gives h. nothing_given old mid gives o h
