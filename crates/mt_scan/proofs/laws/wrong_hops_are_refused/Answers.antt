use Rattle.mt_scan.proofs.laws.wrong_hops_are_refused.Goals as goal

pub returns-clause-begins_elsewhere : goal.returns-clause-begins_elsewhere
returns-clause-begins_elsewhere c = λ v tree layer key x other hop. other hop.next.begins

pub returns-clause-another_tree : goal.returns-clause-another_tree
returns-clause-another_tree c = λ v tree layer key x other hop. other hop.next.tree_is

pub returns-clause-no_border : goal.returns-clause-no_border
returns-clause-no_border c = λ v tree layer key x other hop. other hop.next.border
