-- Names, requests and rows as the code has them.
use Rattle.std.specs.Prelude.{List, map, take, Option, None, Some}
use Rattle.im_theory_machine.specs.Locks.{Name, At, PastAll, Request}
use Rattle.im_engine_locks.specs.declared.name.Name.{Name as NameInCode}
use Rattle.im_engine_locks.specs.declared.name.Name.TheVariants.{Key as KeyInCode, End as EndInCode}
use Rattle.im_engine_locks.specs.declared.request.Request.{Request as RequestInCode}
use Rattle.im_engine_locks.specs.declared.row.Row.{Row}

-- a name as the code has it
abbrev pub named : NameInCode → Name
named (KeyInCode key) = At key.now
named EndInCode = PastAll

-- a request as the code has it
abbrev pub requested : RequestInCode → Request
requested q = record { name = named q.name; mode = q.mode; duration = q.duration }

-- the requests of a step as the code has them
abbrev pub row : List RequestInCode → List Request
row qs = map requested qs

-- the requests of a row
abbrev pub requests_of : Row → List RequestInCode
requests_of r = take r.count r.requests

-- the name, where there is one
abbrev pub named_if : Option NameInCode → Option Name
named_if None = None
named_if (Some name) = Some (named name)
