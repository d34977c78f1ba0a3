-- What a contract sees of an engine.
use Rattle.outage_engine.specs.declared.engine.Engine.TheInside.{Inside}
use Rattle.outage_engine.specs.Engined.{Engined, engined, IsEngine}

abbrev pub engined_of : Inside → Engined
engined_of e = engined e.grid e.field e.judged e.ledger

-- every engine is that after some events
abbrev pub IsEngineInside : Inside → Type 0
IsEngineInside e = IsEngine (engined_of e)
