use Rattle.std.proofs.Common.{refl}
use Rattle.trace_session.proofs.NamesLemmas.{put_named}
use Rattle.trace_session.proofs.trace_names.names.put_in.Goals as goal

pub returns : goal.returns
returns g c =
    put_named c.args.roots.now.entries c.insert.new.self.entries c.args.text c.args.root c.args.text.items refl c.in-Ok._before c.in-Ok.ensures.old c.in-Ok.ensures.entries c.insert.ensures.unique
