-- What was noted.
use Rattle.std.specs.Prelude.{List, map}
use Rattle.http_server.specs.declared.log.Log.{Log}

-- the first of each pair, in their order
abbrev pub noted_items : {A B : Type 0} → Log A B → List A
noted_items log = map (λ it. it.0) log.items
