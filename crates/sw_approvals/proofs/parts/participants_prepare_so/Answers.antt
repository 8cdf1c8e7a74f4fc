use Rattle.sw_approvals.proofs.parts.participants_prepare_so.Goals as goal

pub returns-clause-check : goal.returns-clause-check
returns-clause-check g c = λ id o x byte p y h. h.1

pub returns-clause-limits : goal.returns-clause-limits
returns-clause-limits g c = λ id o x byte p y h. (id, h.0, h.1, h.4)

pub returns-clause-route : goal.returns-clause-route
returns-clause-route g c = λ id o x byte p y h. (h.0, h.3)

pub returns-clause-reverse : goal.returns-clause-reverse
returns-clause-reverse g c = λ id o x byte p y h. (h.1, h.2)

pub returns-clause-stand_in : goal.returns-clause-stand_in
returns-clause-stand_in g c = λ id o x byte p y h. (h.0, h.3)

pub returns-clause-forward : goal.returns-clause-forward
returns-clause-forward g c = λ id o x byte p y h. (h.1, h.2)

pub returns-clause-respond : goal.returns-clause-respond
returns-clause-respond g c = λ id o x byte p y h. (h.1, h.2)

pub returns-clause-query : goal.returns-clause-query
returns-clause-query g c = λ id o x byte p y h. (let asked = h.1 in (asked.0, asked.1, asked.3, (h.0, asked.1, asked.2, asked.5, h.2)))

pub returns-clause-aborting : goal.returns-clause-aborting
returns-clause-aborting g c = λ id o x byte p y h. h.2
