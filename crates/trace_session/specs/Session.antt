-- What a session stands for.
use Rattle.model.specs.Config.{Config}
use Rattle.model.specs.Store.{Store}
use Rattle.trace_session.specs.declared.session.Session.{Session}
use Rattle.trace_session.specs.Stands.{StandsFor}

abbrev pub Stands : {A : Type 0} → Session A → Config → Store → Type 0
Stands session config store = StandsFor session.heap session.names config store
